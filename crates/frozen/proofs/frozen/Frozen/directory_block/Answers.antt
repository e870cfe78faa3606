-- The slots of a sound directory stand in the blocks that it claims, and none of those is missing.
use Rattle.std.proofs.Common.{sym, ap, ◌∙◌, subst, arith}
use Rattle.std.specs.Option.{option_copied, option_map_or}
use Rattle.model.specs.Shape.{most_blocks}
use Rattle.model.specs.Uses.{claim_at}
use Rattle.model.specs.Slots.{Absent, slot_in}
use Rattle.frozen.specs.Kept.{Kept, KeepsMetadata, frozen_view, kept_at}
use Rattle.frozen.proofs.SlotLemmas.{slot_kept, slot_left_out}
use Rattle.frozen.proofs.frozen.Frozen.directory_block.Goals as goal

pub returns-in_err-claimed : goal.returns-in_err-claimed
returns-in_err-claimed c =
    let kept = c.args.self.now in record {
      slots = λ s at.
          slot_left_out kept (subst KeepsMetadata c.self.view_is c.self.invariant.0) c.args.directory c.args.position s at
          (sym c.is_directory_at.ensures ∙ c.if-not-is_directory_at.false)
          (omega (arith, c.most_blocks.ensures.count, ap most_blocks c.geometry.ensures.geometry))
          (ap (λ (k : Kept). claim_at k.geometry (frozen_view k) c.args.directory c.args.position) (sym c.self.view_is) ∙ sym c.claim_at.ensures ∙ c.in_err-claimed.was)
          ∙ ap (λ o. option_map_or (λ block. slot_in kept.geometry block s) (option_copied o) Absent) (sym c.from_residual.ensures);
    }

pub returns : goal.returns
returns c =
    let kept = c.args.self.now in record {
      slots = λ s at.
          slot_kept kept (subst KeepsMetadata c.self.view_is c.self.invariant.0) c.args.directory c.args.position s at c.in_ok-claimed.claimed
          (sym c.is_directory_at.ensures ∙ c.if-not-is_directory_at.false)
          (omega (arith, c.most_blocks.ensures.count, ap most_blocks c.geometry.ensures.geometry))
          (ap (λ (k : Kept). claim_at k.geometry (frozen_view k) c.args.directory c.args.position) (sym c.self.view_is) ∙ sym c.claim_at.ensures ∙ c.in_ok-claimed.was)
          ∙ ap (λ o. option_map_or (λ block. slot_in kept.geometry block s) o Absent) (ap (λ (k : Kept). kept_at k.blocks c.in_ok-claimed.claimed) (sym c.self.view_is) ∙ sym c.block.ensures.block);
    }
