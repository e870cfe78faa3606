use Rattle.std.proofs.Common.{◌-◌, ◌<◌, sym, ap, ◌∙◌, subst, length, arith, slice_index_or}
use Rattle.std.proofs.lemmas.List.{get_or_default}
use Rattle.model.specs.Cells.{SetBytes}
use Rattle.softdep_queue.specs.declared.table.Node.{Node}
use Rattle.softdep_queue.specs.Ties.{Shows}
use Rattle.softdep_queue.proofs.Contained.{no_contents, last_low, taken_last, last_shows}
use Rattle.softdep_queue.proofs.Steps.{read}
use Rattle.softdep_queue.proofs.table.Table.contents.Goals as goal

pub returns-then-last-eq0 : goal.returns-then-last-eq0
returns-then-last-eq0 c queue q loose holds =
    let t = c.args.self.now in
    let low : c.place.result < length t.latest.items = (let l = c.place.ensures.in_table in let p = holds.takes.ties.places in omega (arith, l, p)) in
    let value = c.index-last.ensures ∙ get_or_default t.latest.items c.place.result c.index-last.result.now 0 low ∙ ap (λ n. slice_index_or t.latest.items n 0) c.place.ensures.place in
    sym (no_contents c.args.geometry.now t queue q loose holds c.args.address c.requires.address (sym value ∙ c.if-last-eq0.true))

pub index-node-requires : goal.index-node-requires
index-node-requires c =
    let t = c.args.self.now in
    let h = c.requires.held in
    let low : c.place.result < length t.latest.items = (let l = c.place.ensures.in_table in let p = h.holds.takes.ties.places in omega (arith, l, p)) in
    let value = c.index-last.ensures ∙ get_or_default t.latest.items c.place.result c.index-last.result.now 0 low ∙ ap (λ n. slice_index_or t.latest.items n 0) c.place.ensures.place in
    let l = last_low c.args.geometry.now t h.queue h.q h.loose h.holds c.args.address c.requires.address c.index-last.result.now value c.if-last-eq0.false in
    omega (arith, l)

pub returns-then-node : goal.returns-then-node
returns-then-node c queue q loose holds =
    let t = c.args.self.now in
    let low : c.place.result < length t.latest.items = (let l = c.place.ensures.in_table in let p = holds.takes.ties.places in omega (arith, l, p)) in
    let value = c.index-last.ensures ∙ get_or_default t.latest.items c.place.result c.index-last.result.now 0 low ∙ ap (λ n. slice_index_or t.latest.items n 0) c.place.ensures.place in
    let there = last_low c.args.geometry.now t queue q loose holds c.args.address c.requires.address c.index-last.result.now value c.if-last-eq0.false in
    let node = read t.nodes.items (c.index-last.result.now - 1) c.index-node.result.now there c.index-node.ensures in
    sym (taken_last c.args.geometry.now t queue q loose holds c.args.address c.requires.address c.index-last.result.now value c.if-last-eq0.false (ap (λ (x : Node). x.taken) (sym node) ∙ c.if-node.true))

pub returns : goal.returns
returns c queue q loose holds =
    let t = c.args.self.now in
    let low : c.place.result < length t.latest.items = (let l = c.place.ensures.in_table in let p = holds.takes.ties.places in omega (arith, l, p)) in
    let value = c.index-last.ensures ∙ get_or_default t.latest.items c.place.result c.index-last.result.now 0 low ∙ ap (λ n. slice_index_or t.latest.items n 0) c.place.ensures.place in
    let there = last_low c.args.geometry.now t queue q loose holds c.args.address c.requires.address c.index-last.result.now value c.if-last-eq0.false in
    let node = read t.nodes.items (c.index-last.result.now - 1) c.index-node.result.now there c.index-node.ensures in
    let shown = last_shows c.args.geometry.now t queue q loose holds c.args.address c.requires.address c.index-last.result.now value c.if-last-eq0.false (ap (λ (x : Node). x.taken) (sym node) ∙ c.if-node.false) in
    c.bytes_in.ensures c.args.address shown.0 (subst (λ (x : Node). Shows x.update (SetBytes c.args.address shown.0)) (sym node) shown.1) ∙ sym shown.2
