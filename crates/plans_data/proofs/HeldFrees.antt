-- What is held stays right where an inode lets blocks go, and in repairs.
use Rattle.std.proofs.Common.{◌≡◌, ℕ, ◌-◌, Bool, true, false, cond, List, [], ◌∷◌, refl, ◌∙◌, subst, IsTrue}
use Rattle.std.proofs.lemmas.Bool.{both_ways, and_parts}
use Rattle.model.specs.Layout.{Geometry, is_number}
use Rattle.model.specs.View.{View, Inode}
use Rattle.model.specs.Cells.{SetInode, SetNumber, SetBlock, updated}
use Rattle.model.specs.Uses.{is_sound}
use Rattle.model.specs.Rules.{ObeysRules}
use Rattle.model.proofs.SameShape.{claim_back}
use Rattle.model.proofs.Places.{put_there}
use Rattle.findings.specs.declared.repair.Repair.{Repair}
use Rattle.findings.specs.declared.repair.Repair.TheVariants.{DropInode, LowerCount, FreeBlock, FreeNumber}
use Rattle.machine.specs.State.{State, is_open}
use Rattle.machine.specs.Effects.{with_links}
use Rattle.ordering.specs.Cuts.{Pending, users_view}
use Rattle.ordering.specs.Ghosts.{at_rest}
use Rattle.ordering.specs.Agrees.{AllAgree}
use Rattle.ordering.proofs.Bits.{users_obey, number_bit_shape, block_bit_shape}
use Rattle.ordering.proofs.Records.{body_shape}
use Rattle.plans_data.specs.Now.{now, becomes}
use Rattle.plans_data.specs.Append.{sized}
use Rattle.plans_data.specs.Freeing.{held_with, freeing}
use Rattle.plans_data.specs.Truncate.{MayTruncate, truncation}
use Rattle.plans_data.specs.Relink.{MayRelink, MayClose, MayRepair, relinking, closing, repairing, goes_away, held_if, held_after, inode_of, open_of, without_handle}
use Rattle.plans_data.specs.Held.{HeldAreRight}
use Rattle.plans_data.proofs.LetGoRight.{let_go_right, freeing_right, same_right}
use Rattle.plans_data.proofs.Truncating.{shrinks}

module _ (geo : Geometry) (disk : View) (q : List Pending) (old : State) (safe : ℕ → Bool) (agree : AllAgree geo disk q (at_rest old.held safe)) (right : HeldAreRight geo (now disk q old)) where
  abbrev users : View
  users = users_view disk q

  abbrev s : State
  s = now disk q old

  rules : ObeysRules geo users
  rules = users_obey geo disk q (at_rest old.held safe) agree

  pub truncated_right : (n size : ℕ) (blocks : List ℕ) → MayTruncate geo s n size blocks
      → HeldAreRight geo (becomes disk (truncation n (users.inode n) size blocks q) (held_with geo s n (sized (users.inode n) size)) old)
  truncated_right n size blocks may =
      let_go_right geo disk q old rules right n (sized (users.inode n) size) blocks (record { change = SetInode n (sized (users.inode n) size); after = [] } ∷ q)
      (shrinks geo disk q old safe n size blocks may agree) may.given_up (λ i k a c. c) refl

  pub relinked_right : (n links : ℕ) (blocks : List ℕ) → MayRelink geo s n links blocks
      → HeldAreRight geo (record old { view = users_view disk (relinking n (users.inode n) links (is_open old n) blocks q); held = held_if (goes_away links (is_open old n)) geo s n })
  relinked_right n links blocks may = by (goes_away links (is_open old n)) refl
    where
      fewer : Inode
      fewer = with_links (users.inode n) links

      by : (t : Bool) → goes_away links (is_open old n) ≡ t
          → HeldAreRight geo (record old { view = users_view disk (cond t (freeing n blocks [] q) (record { change = SetInode n (with_links (users.inode n) links); after = [] } ∷ q)); held = held_if t geo s n })
      by true e = freeing_right geo disk q old rules right n blocks [] (may.given_up e)
      by false e = same_right geo disk q old rules right (updated users (SetInode n (with_links (users.inode n) links)))
          (λ i k a. claim_back geo users (updated users (SetInode n (with_links (users.inode n) links)))
          (body_shape geo users n (with_links (users.inode n) links) (let sound = (and_parts (is_number geo n) (is_sound geo (users.inode n)) may.sound).1 in record { sound = sound; still_sound = sound; mode = refl; blocks = refl; direct = refl; indirect = refl; double = refl })) i k a) refl

  pub closed_right : (h n : ℕ) (blocks : List ℕ) → MayClose geo s h n blocks
      → HeldAreRight geo (becomes disk (closing n (users.inode n) (is_open (without_handle h old) n) blocks q) (held_if (goes_away (users.inode n).links (is_open (without_handle h old) n)) geo s n) (without_handle h old))
  closed_right h n blocks may = let r = by (goes_away (users.inode n).links (is_open (without_handle h old) n)) refl in record { unclaimed = r.unclaimed; marked = r.marked }
    where
      by : (t : Bool) → goes_away (users.inode n).links (is_open (without_handle h old) n) ≡ t
          → HeldAreRight geo (record old { view = users_view disk (cond t (freeing n blocks [] q) q); held = held_if t geo s n })
      by true e = freeing_right geo disk q old rules right n blocks [] (may.given_up e)
      by false e = record { unclaimed = right.unclaimed; marked = right.marked }

  pub repaired_right : (r : Repair) (blocks : List ℕ) → MayRepair geo s r blocks
      → HeldAreRight geo (becomes disk (repairing r (inode_of users r) (open_of old r) blocks q) (held_after geo s r) old)
  repaired_right r blocks may = by r may
    where
      by : (t : Repair) → MayRepair geo s t blocks → HeldAreRight geo (record old { view = users_view disk (repairing t (inode_of users t) (open_of old t) blocks q); held = held_after geo s t })
      by (DropInode n) m = relinked_right n 0 blocks m
      by (LowerCount n x) m = relinked_right n ((users.inode n).links - x) blocks m
      by (FreeBlock b) m = record {
        unclaimed = λ a t c. right.unclaimed a t (c.0, c.1, claim_back geo users (updated users (SetBlock b false)) (block_bit_shape geo users b false) c.0 c.1 a c.2);
        marked = λ a t. put_there users.block_marked b a false (λ e. both_ways (old.held b) m.1 (subst (λ x. IsTrue (old.held x)) e t)) ∙ right.marked a t;
      }
      by (FreeNumber n) m = same_right geo disk q old rules right (updated users (SetNumber n false)) (λ i k a. claim_back geo users (updated users (SetNumber n false)) (number_bit_shape geo users n false) i k a) refl
