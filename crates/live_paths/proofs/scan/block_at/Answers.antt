-- The slots stand in the block whose address the record uses.
use Rattle.std.proofs.Common.{◌≡◌, ℕ, not, sym, ap, ◌∙◌}
use Rattle.std.specs.Option.{option_copied, option_map_or}
use Rattle.frozen.specs.Kept.{Kept, frozen_view}
use Rattle.inode.specs.Parts.{without_attributes}
use Rattle.model.specs.View.{Inode}
use Rattle.frozen.proofs.PointerLemmas.{uses_without_attributes}
use Rattle.model.specs.Layout.{is_data_address}
use Rattle.model.specs.Slots as model
use Rattle.model.specs.Uses.{record_use}
use Rattle.live_paths.proofs.BlockLemmas.{no_data_no_slot, slot_stands, unused_no_slot}
use Rattle.live_paths.proofs.scan.block_at.Goals as goal

-- a record without attributes uses what the directory does
used : (kept : Kept) (d k : ℕ) (inode : Inode) → without_attributes ((frozen_view kept).inode d) ≡ inode
    → record_use kept.geometry (frozen_view kept) ((frozen_view kept).inode d) k ≡ record_use kept.geometry (frozen_view kept) inode k
used kept d k inode same =
    sym (uses_without_attributes kept.geometry (frozen_view kept) ((frozen_view kept).inode d) k) ∙ ap (λ n. record_use kept.geometry (frozen_view kept) n k) same

pub returns-in_err-address : goal.returns-in_err-address
returns-in_err-address c =
    let kept = c.args.frozen.now in record {
      slots = λ s at.
          unused_no_slot kept c.args.directory c.args.position s at c.requires.directory c.requires.position
          (used kept c.args.directory c.args.position c.args.inode.now c.requires.inode ∙ sym c.use_of.ensures ∙ c.in_err-address.was)
          ∙ ap (λ o. option_map_or (λ block. model.slot_in kept.geometry block s) (option_copied o) model.Absent) (sym c.from_residual.ensures);
    }

pub returns-then-is_none : goal.returns-then-is_none
returns-then-is_none c =
    let kept = c.args.frozen.now in record {
      slots = λ s at.
          no_data_no_slot kept c.args.directory c.args.position s at c.requires.directory c.requires.position c.in_ok-address.address
          (used kept c.args.directory c.args.position c.args.inode.now c.requires.inode ∙ sym c.use_of.ensures ∙ c.in_ok-address.was)
          (ap (λ geo. is_data_address geo c.in_ok-address.address) (sym c.geometry.ensures.geometry) ∙ sym c.place_of.ensures.exactly ∙ c.is_none.ensures ∙ ap not c.if-is_none.true);
    }

pub returns-in-Some : goal.returns-in-Some
returns-in-Some c =
    let kept = c.args.frozen.now in record {
      slots = λ s at.
          slot_stands kept c.args.directory c.args.position s at c.requires.directory c.requires.position c.in_ok-address.address c.in-Some.block.now
          (used kept c.args.directory c.args.position c.args.inode.now c.requires.inode ∙ sym c.use_of.ensures ∙ c.in_ok-address.was)
          (ap (λ geo. is_data_address geo c.in_ok-address.address) (sym c.geometry.ensures.geometry) ∙ sym c.place_of.ensures.exactly ∙ c.is_none.ensures ∙ ap not c.if-is_none.false)
          (sym c.block.ensures.block ∙ ap option_copied c.in-Some.is);
    }
