-- What is kept of an image, and the views that it shows.
use Rattle.std.proofs.Common.{inl, inr, ◌≡◌, ℕ, Bool, ◌&&◌, List, [], IsSome, unwrap_or, IsTrue, false, sym, ap, ◌∙◌}
use Rattle.std.proofs.lemmas.Bool.{cases_Bool, cond-true, cond-false}
use Rattle.model.specs.Layout.{is_number, is_data_address}
use Rattle.model.specs.View.{View, free_inode}
use Rattle.model.specs.Metadata.{SameMetadata}
use Rattle.model.specs.Image.{block_at, image_view}
use Rattle.frozen.specs.Kept.{Kept, KeepsMetadata, IsKeptOf, frozen_view, kept_at, kept_bytes}
use Rattle.frozen.proofs.ClaimLemmas.{there}
use Rattle.metadata.specs.Shown.{Shows}

pub shows_metadata : (kept : Kept) (users : View) → KeepsMetadata kept → Shows kept users → SameMetadata kept.geometry (frozen_view kept) users
shows_metadata kept users keeps shows = record {
  inode = λ i t. shows.inode i;
  number_marked = λ i t. shows.number_marked i;
  block_marked = λ a t. shows.block_marked a;
  tables = λ i m a is claim. same a claim.1 (keeps.tables i m is a claim);
  directory_blocks = λ d k a t claim. same a claim.1 (keeps.directory_blocks d t k a claim);
}
  where
    same : (a : ℕ) → IsTrue (is_data_address kept.geometry a) → IsSome (kept_at kept.blocks a) → (frozen_view kept).bytes a ≡ users.bytes a
    same a t some =
        let at = there (kept_at kept.blocks a) some in
        cond-true (is_data_address kept.geometry a) (kept_bytes kept.blocks a) [] t ∙ ap (λ o. unwrap_or o []) at.1 ∙ sym (shows.bytes a at.0 t at.1)

pub shows_image : (kept : Kept) (image : List (List ℕ)) → IsKeptOf kept image → Shows kept (image_view kept.geometry image)
shows_image kept image is = record {
  inode = λ i. elim (cases_Bool (is_number kept.geometry i)) [
    | inl t ↦ is.metadata.inode i t
    | inr f ↦ cond-false (is_number kept.geometry i) _ free_inode f ∙ sym (cond-false (is_number kept.geometry i) _ free_inode f)
  ];
  number_marked = λ i. elim (cases_Bool (is_number kept.geometry i)) [
    | inl t ↦ is.metadata.number_marked i t
    | inr f ↦ none f _ ∙ sym (none f _)
  ];
  block_marked = λ a. elim (cases_Bool (is_data_address kept.geometry a)) [
    | inl t ↦ is.metadata.block_marked a t
    | inr f ↦ none f _ ∙ sym (none f _)
  ];
  bytes = λ a b t e. cond-true (is_data_address kept.geometry a) (block_at image a) [] t ∙ sym (is.blocks a b e);
}
  where
    none : {x : Bool} → x ≡ false → (y : Bool) → (x && y) ≡ false
    none {x} e y = ap (λ z. z && y) e
