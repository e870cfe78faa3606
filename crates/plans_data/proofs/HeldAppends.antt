-- What is held stays right where an inode gets one more block.
use Rattle.std.proofs.Common.{◌≡◌, ℕ, Bool, true, List, ◌⊎◌, inl, inr, refl, ap, ◌∙◌, subst, IsTrue, IsFalse}
use Rattle.std.proofs.lemmas.Bool.{cases_eq, both_ways}
use Rattle.model.specs.Layout.{Geometry}
use Rattle.model.specs.View.{View}
use Rattle.model.specs.Cells.{put_at}
use Rattle.model.specs.Uses.{IsClaim}
use Rattle.model.proofs.Places.{put_here, put_there}
use Rattle.machine.specs.State.{State}
use Rattle.ordering.specs.Cuts.{Pending, users_view}
use Rattle.ordering.specs.Ghosts.{Ghost}
use Rattle.ordering.specs.Agrees.{AllAgree}
use Rattle.plans_data.specs.Now.{becomes}
use Rattle.plans_data.specs.Append.{Holder, MayAppend, appended}
use Rattle.plans_data.specs.Held.{HeldAreRight}
use Rattle.plans_data.proofs.Append.{append_came, append_marks}

-- a mark stays where another is set
pub still_set : (f : ℕ → Bool) (b a : ℕ) → IsTrue (f a) → IsTrue (put_at f b true a)
still_set f b a t = elim (cases_eq a b) [
  | inl e ↦ ap (put_at f b true) e ∙ put_here f b true
  | inr o ↦ put_there f b a true o ∙ t
]

-- what is claimed then was claimed before or is not held, and marks stay
pub held_stays : (geo : Geometry) (s t : State) → ((i k a : ℕ) → IsClaim geo t.view i k a → IsClaim geo s.view i k a ⊎ IsFalse (s.held a)) → ((a : ℕ) → IsTrue (s.view.block_marked a) → IsTrue (t.view.block_marked a))
    → t.held ≡ s.held → HeldAreRight geo s → HeldAreRight geo t
held_stays geo s t came marks same h = record {
  unclaimed = λ a held c.
      let was : IsTrue (s.held a) = subst (λ f. IsTrue (f a)) same held in
      elim (came c.0 c.1 a c.2) [ inl d ↦ h.unclaimed a was (c.0, c.1, d) | inr free ↦ both_ways (s.held a) free was ];
  marked = λ a held. marks a (h.marked a (subst (λ f. IsTrue (f a)) same held));
}

-- an inode got one more block
pub append_right : (geo : Geometry) (disk : View) (q : List Pending) (ghost : Ghost) (n k b : ℕ) (bytes : List ℕ) (size : ℕ) (holder : Holder) → MayAppend geo (users_view disk q) ghost n k b bytes size holder
    → AllAgree geo disk q ghost → (old : State) → HeldAreRight geo (becomes disk q ghost.held old) → HeldAreRight geo (becomes disk (appended geo n ((users_view disk q).inode n) k b bytes size holder q) ghost.held old)
append_right geo disk q ghost n k b bytes size holder may all old right =
    held_stays geo (becomes disk q ghost.held old) (becomes disk (appended geo n ((users_view disk q).inode n) k b bytes size holder q) ghost.held old)
    (append_came geo disk q ghost n k b bytes size holder may all) (append_marks geo disk q ghost n k b bytes size holder may all) refl right
