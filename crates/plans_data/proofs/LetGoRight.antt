-- What is held is right where an inode let blocks go, within any command.
use Rattle.std.proofs.Common.{◌≡◌, ℕ, Bool, false, not, ◌&&◌, List, [], ◌∷◌, refl, sym, subst, IsTrue, ◌/◌}
use Rattle.model.specs.Layout.{Geometry}
use Rattle.model.specs.View.{View, Inode, free_inode}
use Rattle.model.specs.Cells.{SetInode, SetNumber, updated}
use Rattle.model.specs.Uses.{use_at, IsClaim}
use Rattle.model.specs.Rules.{ObeysRules}
use Rattle.model.proofs.Slots.{slots_of_uses}
use Rattle.model.proofs.Uses.{uses_agree}
use Rattle.model.proofs.SameShape.{claim_back, SameShape, shape_from}
use Rattle.machine.specs.State.{State}
use Rattle.ordering.specs.Cuts.{Cell, Record, Pending, users_view}
use Rattle.ordering.proofs.Bits.{number_bit_shape}
use Rattle.plans_data.specs.Now.{now, becomes}
use Rattle.plans_data.specs.Freeing.{AreGivenUp, held_with, cleared, freeing}
use Rattle.plans_data.specs.Held.{HeldAreRight}
use Rattle.plans_data.proofs.Clearing.{among, cleared_marks}
use Rattle.plans_data.proofs.Freeing.{free_shrinks}
use Rattle.plans_data.proofs.LetsGo.{Shrinks, held_unclaimed, held_marked}

-- other bits of blocks change no use and no slot
pub marks_shape : (geo : Geometry) (v : View) (f : ℕ → Bool) → SameShape geo v (record v { block_marked = f })
marks_shape geo v f = shape_from geo v (record v { block_marked = f }) (λ n. refl) (λ n. refl) (λ n. refl) uses (λ d s. slots_of_uses geo v (record v { block_marked = f }) d s refl (uses d (s / 16)) (λ a directory low c. refl))
  where
    uses : (n k : ℕ) → use_at geo v n k ≡ use_at geo (record v { block_marked = f }) n k
    uses n k = uses_agree geo v (record v { block_marked = f }) n k (λ number. refl) (λ m a above c. refl)

module _ (geo : Geometry) (disk : View) (q : List Pending) (old : State) (rules : ObeysRules geo (users_view disk q)) (right : HeldAreRight geo (now disk q old)) where
  abbrev users : View
  users = users_view disk q

  abbrev s : State
  s = now disk q old

  -- the bits of what n gave up are cleared
  pub let_go_right : (n : ℕ) (new : Inode) (blocks : List ℕ) (p : List Pending) → Shrinks geo s n new → AreGivenUp geo s n new blocks
      → ((i k a : ℕ) → IsClaim geo (users_view disk p) i k a → IsClaim geo (updated users (SetInode n new)) i k a) → (users_view disk p).block_marked ≡ users.block_marked
      → HeldAreRight geo (record old { view = users_view disk (cleared n blocks p); held = held_with geo s n new })
  let_go_right n new blocks p less given claims marks =
      subst (λ v. HeldAreRight geo (record old { view = v; held = held_with geo s n new })) (sym (cleared_marks disk n blocks p))
      (record {
        unclaimed = λ a t c.
            let d = claims c.0 c.1 a (claim_back geo (users_view disk p) (record (users_view disk p) { block_marked = λ x. (users_view disk p).block_marked x && not (among x blocks) }) (marks_shape geo (users_view disk p) (λ x. (users_view disk p).block_marked x && not (among x blocks))) c.0 c.1 a c.2) in
            held_unclaimed geo s n new blocks rules less given right.unclaimed a t (c.0, c.1, d);
        marked = λ a t. subst (λ f. IsTrue (f a && not (among a blocks))) (sym marks) (held_marked geo s n new blocks rules less given right.unclaimed right.marked a t);
      })

  pub freeing_right : (n : ℕ) (blocks : List ℕ) (after : List Cell) → AreGivenUp geo s n free_inode blocks → HeldAreRight geo (becomes disk (freeing n blocks after q) (held_with geo s n free_inode) old)
  freeing_right n blocks after given =
      let_go_right n free_inode blocks (record { change = SetNumber n false; after = Record n ∷ [] } ∷ record { change = SetInode n free_inode; after = after } ∷ q) (free_shrinks geo s n) given
      (λ i k a. claim_back geo (updated users (SetInode n free_inode)) (updated (updated users (SetInode n free_inode)) (SetNumber n false)) (number_bit_shape geo (updated users (SetInode n free_inode)) n false) i k a) refl

  -- nothing is let go
  pub same_right : (v : View) → ((i k a : ℕ) → IsClaim geo v i k a → IsClaim geo users i k a) → v.block_marked ≡ users.block_marked → HeldAreRight geo (record old { view = v })
  same_right v claims marks = record {
    unclaimed = λ a t c. right.unclaimed a t (c.0, c.1, claims c.0 c.1 a c.2);
    marked = λ a t. subst (λ f. IsTrue (f a)) (sym marks) (right.marked a t);
  }
