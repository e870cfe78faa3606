-- Copies, one after another.
use Rattle.std.proofs.Common.{◌≡◌, ℕ, List, [], ◌∷◌, ◌++◌, Vec, Global, inl, inr, sym, ap, ◌∙◌, subst, append_assoc}
use Rattle.std.proofs.lemmas.Bool.{cases_Bool, cond-false}
use Rattle.std.proofs.lemmas.List.{append-nil}
use Rattle.std.proofs.lemmas.List.Elements.{All-append, All-cons, All-nil}
use Rattle.frozen.specs.Kept.{IsKeptOf, Kept, frozen_view}
use Rattle.model.specs.Image.{image_view}
use Rattle.model.specs.Layout.{Geometry, is_number}
use Rattle.model.specs.View.{View, free_inode}
use Rattle.export_host.specs.declared.getting.Contents.{Contents}
use Rattle.export_host.specs.Copies.{AreCopies, IsCopy, MadeMore}

-- the records are those of the image, also of numbers that are not looked at
pub same_inode : (kept : Kept) (image : List (List ℕ)) → IsKeptOf kept image → (i : ℕ) → (frozen_view kept).inode i ≡ (image_view kept.geometry image).inode i
same_inode kept image is i = elim (cases_Bool (is_number kept.geometry i)) [
  | inl t ↦ is.metadata.inode i t
  | inr f ↦ cond-false (is_number kept.geometry i) _ free_inode f ∙ sym (cond-false (is_number kept.geometry i) _ free_inode f)
]

module _ (geo : Geometry) (view : View) where
  pub made_none : (old : List (Vec ℕ Global × Contents)) → MadeMore geo view old old
  made_none old = record { more = []; behind = sym (append-nil old); are = All-nil (IsCopy geo view) }

  pub made_one : (old new : List (Vec ℕ Global × Contents)) (copy : Vec ℕ Global × Contents) → new ≡ old ++ copy ∷ [] → IsCopy geo view copy → MadeMore geo view old new
  made_one old new copy is here = record { more = copy ∷ []; behind = is; are = All-cons (IsCopy geo view) copy [] here (All-nil (IsCopy geo view)) }

  pub made_both : (old mid new : List (Vec ℕ Global × Contents)) → MadeMore geo view old mid → MadeMore geo view mid new → MadeMore geo view old new
  made_both old mid new first second = record {
    more = first.more ++ second.more;
    behind = second.behind ∙ ap (λ copies. copies ++ second.more) first.behind ∙ append_assoc old first.more second.more;
    are = All-append (IsCopy geo view) first.more second.more first.are second.are;
  }

  -- from nothing on
  pub made_all : (old new : List (Vec ℕ Global × Contents)) → old ≡ [] → MadeMore geo view old new → AreCopies geo view new
  made_all old new none made = subst (AreCopies geo view) (sym (made.behind ∙ ap (λ copies. copies ++ made.more) none)) made.are
