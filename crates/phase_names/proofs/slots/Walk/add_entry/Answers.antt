-- The name, the finding of what it names and the naming are added.
use Rattle.std.proofs.Common.{map, sym, subst}
use Rattle.frozen.specs.Kept.{frozen_view}
use Rattle.phase_names.specs.Walks.{IsWalked, Walked}
use Rattle.phase_names.proofs.WalkLemmas.{walked_entry}
use Rattle.phase_names.proofs.slots.Walk.add_entry.Goals as goal

pub returns-clause-walked : goal.returns-clause-walked
returns-clause-walked c = λ h.
    let geo = c.args.frozen.now.geometry in
    let view = frozen_view c.args.frozen.now in
    let old : Walked = record { names = map (λ n. (n.digest, n.bytes.now)) c.self.inside.names.keys; findings = c.self.inside.findings.keys; directories = c.self.inside.directories.items } in
    let new : Walked = record { names = map (λ n. (n.digest, n.bytes.now)) c.add_name.new.names.keys; findings = c.add_to_unsound.new.findings.keys; directories = c.add_naming.new.directories.items } in
    let before = subst (λ (w : Walked). IsWalked geo view c.args.directory c.args.slot w) (sym c.self.view_is) h in
    walked_entry geo view c.args.directory c.args.slot c.args.number c.args.name.now c.requires.after_dots c.requires.good old new c.add_name.new.findings.keys
    c.in_ok-add_name.ensures.named c.in_ok-add_name.ensures.found c.in_ok-add_to_unsound.ensures.found
    (c.in_ok-add_to_unsound.ensures.ordered (c.in_ok-add_name.ensures.ordered before.in_order)) c.in_ok-add_naming.ensures before
