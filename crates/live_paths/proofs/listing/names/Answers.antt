use Rattle.std.proofs.Common.{◌≡◌, ◌≤◌, ◌*◌, map, sym, ap, ◌∙◌, arith}
use Rattle.frozen.specs.Kept.{frozen_view}
use Rattle.model.specs.Reach.{slot_count}
use Rattle.machine.specs.Effects.{names_below}
use Rattle.live_paths.specs.Listed.{name_of}
use Rattle.live_paths.proofs.ListedLemmas.{names_none, names_whole}
use Rattle.live_paths.proofs.ShownLemmas.{shown_names}
use Rattle.live_paths.proofs.listing.names.Goals as goal

pub loop-position-init : goal.loop-position-init
loop-position-init c = ap (map name_of) c.new-names.ensures.items ∙ sym (names_none c.args.frozen.now.geometry (frozen_view c.args.frozen.now) c.args.directory)

pub returns : goal.returns
returns c = λ view shown.
    let geo = c.args.frozen.now.geometry in
    let kept = frozen_view c.args.frozen.now in
    let last : c.loop-position.position ≡ c.block_count-position-end.result = omega arith in
    let all : 16 * c.block_count-position-end.result ≤ slot_count geo = omega (arith, c.block_count-position-end.ensures.few) in
    c.loop-position.invariant ∙ ap (λ n. names_below geo kept c.args.directory (16 * n)) last
    ∙ names_whole geo kept c.args.directory (16 * c.block_count-position-end.result) all c.block_count-position-end.ensures.past
    ∙ shown_names c.args.frozen.now view shown c.args.directory (slot_count geo)
