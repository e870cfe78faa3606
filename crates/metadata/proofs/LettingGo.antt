-- What is kept without a block of data shows what it showed, and what may be given out is the same.
use Rattle.std.proofs.Common.{◌≡◌, ◌<◌, ℕ, length, Some, None, IsTrue, sym, ap, ◌∙◌, subst, arith, inl, inr, get_or-set_same, get_or-set_other}
use Rattle.std.proofs.lemmas.Bool.{cases_eq}
use Rattle.model.specs.Layout.{is_data_address}
use Rattle.model.specs.View.{View}
use Rattle.model.proofs.Addresses.{data_range}
use Rattle.metadata.specs.Free.{Free, IsFreeOf}
use Rattle.frozen.specs.Installed.{without_block}
use Rattle.frozen.specs.Kept.{Kept, KeepsFrame, frozen_view, kept_at}
use Rattle.frozen.proofs.LettingGo.{view_without}
use Rattle.metadata.specs.Shown.{Shows}

module _ (kept : Kept) (frame : KeepsFrame kept) (a : ℕ) (of_data : IsTrue (is_data_address kept.geometry a)) where
  abbrev kept' : Kept
  kept' = without_block kept a

  same : (i : ℕ) → ((frozen_view kept').inode i ≡ (frozen_view kept).inode i) × ((frozen_view kept').number_marked i ≡ (frozen_view kept).number_marked i) × ((frozen_view kept').block_marked i ≡ (frozen_view kept).block_marked i)
  same i = let is = view_without kept frame a of_data in (ap (λ (v : View). v.inode i) is, ap (λ (v : View). v.number_marked i) is, ap (λ (v : View). v.block_marked i) is)

  low : a < length kept.blocks
  low = let range = data_range kept.geometry frame.geometry a of_data in omega (arith, range.1, frame.count)

  pub shows_without : (users : View) → Shows kept users → Shows kept' users
  shows_without users shows = record {
    inode = λ i. (same i).0 ∙ shows.inode i;
    number_marked = λ i. (same i).1 ∙ shows.number_marked i;
    block_marked = λ i. (same i).2 ∙ shows.block_marked i;
    bytes = λ b x t e. elim (cases_eq b a) [
      | inl here ↦ let bad : None ≡ Some x = sym (get_or-set_same kept.blocks a None None low) ∙ ap (kept_at kept'.blocks) (sym here) ∙ e in cc
      | inr differs ↦ shows.bytes b x t (sym (get_or-set_other kept.blocks a b None None differs) ∙ e)
    ];
  }

  pub free_without : (free : Free) → IsFreeOf kept.geometry (frozen_view kept) free → IsFreeOf kept.geometry (frozen_view kept') free
  free_without free before = subst (λ v. IsFreeOf kept.geometry v free) (sym (view_without kept frame a of_data)) (record {
    numbers = record { count = before.numbers.count; each = before.numbers.each };
    blocks = record { count = before.blocks.count; each = before.blocks.each };
  })
