-- The blocks up to the last name what the whole directory names.
use Rattle.std.proofs.Common.{◌≡◌, ◌≤◌, ◌*◌, sym, ap, ◌∙◌, arith}
use Rattle.frozen.specs.Kept.{frozen_view}
use Rattle.model.specs.Named.{named_below}
use Rattle.model.specs.Reach.{slot_count}
use Rattle.model.proofs.NamedLemmas.{named_none, named_whole}
use Rattle.directories.proofs.reading.numbers_named.Goals as goal

pub loop-position-init : goal.loop-position-init
loop-position-init c = c.new-numbers.ensures.items ∙ sym (named_none c.args.frozen.now.geometry (frozen_view c.args.frozen.now) c.args.directory c.args.first)

pub returns-clause-numbers : goal.returns-clause-numbers
returns-clause-numbers c =
    let geo = c.args.frozen.now.geometry in
    let view = frozen_view c.args.frozen.now in
    let last : c.loop-position.position ≡ c.block_count-position-end.result = omega arith in
    let all : 16 * c.block_count-position-end.result ≤ slot_count geo = omega (arith, c.block_count-position-end.ensures.few) in
    c.loop-position.invariant ∙ ap (λ n. named_below geo view c.args.first c.args.directory (16 * n)) last
    ∙ named_whole geo view c.args.directory c.args.first (16 * c.block_count-position-end.result) all c.block_count-position-end.ensures.past
