use Rattle.std.proofs.Common.{◌<◌, Bool, true, List, length, take, sym, ap, ◌∙◌, subst, slice_index_or, set as slice_set}
use Rattle.std.proofs.lemmas.List.Elements.{All-get_or}
use Rattle.live_states.specs.Holdings.{Holdings}
use Rattle.live_holdings.proofs.Tables.{holding_length, holding_next}
use Rattle.live_holdings.proofs.Holdings.hold.Goals as goal

pub mark-requires : goal.mark-requires
mark-requires c =
    let k = c.loop-block.block-index in
    let blocks = c.args.blocks.now in
    let before = All-get_or (λ a. a < length c.args.self.now.held) blocks k 0 c.loop-block-test.true c.requires in
    subst (λ n. slice_index_or blocks k 0 < n)
    (ap (λ (l : Holdings). length l.held) (sym c.self.view_is) ∙ sym (holding_length (take k blocks) c.self.inside.held) ∙ ap (λ (held : List Bool). length held) (sym c.loop-block.invariant.3)) before

pub loop-block-preserved : goal.loop-block-preserved
loop-block-preserved c =
    let k = c.loop-block.block-index in
    let blocks = c.args.blocks.now in (
      c.loop-block.invariant.0,
      c.loop-block.invariant.1,
      c.loop-block.invariant.2,
      c.mark.ensures ∙ ap (λ (held : List Bool). slice_set held (slice_index_or blocks k 0) true) c.loop-block.invariant.3 ∙ sym (holding_next blocks k c.self.inside.held c.loop-block-test.true),
    )
