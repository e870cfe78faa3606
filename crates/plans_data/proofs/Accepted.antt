-- The balance and the causes of refusals give what the commands ask for.
use Rattle.std.proofs.Common.{◌≡◌, ℕ, ◌≤◌, ◌-◌, ◌/◌, Bool, true, false, not, ◌||◌, eqb, ltb, leb, List, length, inl, inr, refl, IsTrue, IsFalse, arith, Option, Some, None, is_none, ltb-false, lt-ltb, le-leb, eqb-true, eq-eqb}
use Rattle.std.specs.Prelude.{unwrap_or}
use Rattle.std.proofs.lemmas.Bool.{both_ways, and_parts, and_from, or_cases, or_left, or_right, cases_lt, cases_eq, false_from_ne_true}
use Rattle.model.specs.Layout.{Geometry, IsGeometry, is_number}
use Rattle.model.specs.Shape.{most_blocks}
use Rattle.model.specs.Uses.{blocks_of, is_sound, is_sound_at, is_directory, is_directory_at, IsClaimed}
use Rattle.model.proofs.SlotLemmas.{number_low}
use Rattle.findings.specs.declared.repair.Repair.TheVariants.{DropInode, LowerCount, FreeBlock, FreeNumber}
use Rattle.layout.specs.declared.refusal.Refusal.TheVariants.{NotFound, BadHandle, BadPiece, TooBig, BadIndex}
use Rattle.machine.specs.State.{State, IsOpen, open_at}
use Rattle.machine.specs.Command.{Write, Truncate, SetAttributes, Close}
use Rattle.machine.specs.Causes.{Accepts, causes, file_of}
use Rattle.machine.specs.Balance.{Balance, Owes}
use Rattle.machine.proofs.Counting.{uncounted}
use Rattle.machine.proofs.Walks.{quiet, when_none}
use Rattle.plans_data.specs.Append.{IsWhole}
use Rattle.plans_data.specs.Freeing.{HeldAreUnclaimed}
use Rattle.plans_data.specs.Write.{HeldAreMarked}
use Rattle.plans_data.specs.Grounds.{IsFile, IsWritable, HasFew}

pub balance_held : (geo : Geometry) (old : State) → Balance geo old → HeldAreMarked old × HeldAreUnclaimed geo old
balance_held geo old b = ((λ a t. (b.held_block a t).1), (λ a t. (b.held_block a t).0))

pub balance_whole : (geo : Geometry) (old : State) → IsGeometry geo → Balance geo old → IsWhole geo old.view
balance_whole geo old ok b = record { geometry = ok; pointers = λ n t. b.records n; blocks = b.whole }

-- an open file
open_is_file : (geo : Geometry) (old : State) → Balance geo old → (n : ℕ) → IsOpen old n → IsFile geo old.view n
open_is_file geo old b n opened = let p = b.open_file n opened in record {
  sound = p.0;
  file = elim (or_cases (eqb (old.view.inode n).mode 1) _ (and_parts _ _ (and_parts (is_number geo n) (is_sound geo (old.view.inode n)) p.0).1).0) [
    | inl one ↦ eqb-true (old.view.inode n).mode 1 one
    | inr dir ↦ absurd (both_ways (is_directory_at geo old.view n) p.1 (and_from (is_sound_at geo old.view n) (is_directory (old.view.inode n)) p.0 (and_parts _ _ (and_parts _ _ dir).0).0))
  ];
}

opened_by : (old : State) (h : ℕ) (f : Option ℕ) → open_at old h ≡ f → (is_none f ≡ false) → open_at old h ≡ Some (unwrap_or f 0)
opened_by old h None e f = absurd (both_ways true f refl)
opened_by old h (Some j) e f = e

not_false : (t : Bool) → not t ≡ false → t ≡ true
not_false true e = refl
not_false false e = absurd (both_ways true e refl)

pub accepted_attributes : (geo : Geometry) (old : State) (n : ℕ) (words : List ℕ) → Accepts geo old (SetAttributes n words) → IsTrue (is_sound_at geo old.view n)
unfolding causes
accepted_attributes geo old n words a =
    not_false (is_sound_at geo old.view n) (when_none (not (is_sound_at geo old.view n)) NotFound (quiet (causes geo old (SetAttributes n words)) a.0).0)

module _ (geo : Geometry) (old : State) (b : Balance geo old) where
  handle_is_file : (h : ℕ) → is_none (open_at old h) ≡ false → IsFile geo old.view (file_of old h)
  handle_is_file h some = open_is_file geo old b (file_of old h) (h, opened_by old h (open_at old h) refl some)

  pub accepted_close : (h : ℕ) → Accepts geo old (Close h) → IsFile geo old.view (file_of old h)
  unfolding causes
  accepted_close h a = handle_is_file h (when_none (is_none (open_at old h)) BadHandle (quiet (causes geo old (Close h)) a.0).0)

  pub accepted_truncate : (h n : ℕ) → Accepts geo old (Truncate h n) → IsFile geo old.view (file_of old h) × (n ≤ (old.view.inode (file_of old h)).size)
  unfolding causes
  accepted_truncate h n a =
      let q = quiet (causes geo old (Truncate h n)) a.0 in (
        handle_is_file h (when_none (is_none (open_at old h)) BadHandle q.0),
        ltb-false (old.view.inode (file_of old h)).size n (when_none (ltb (old.view.inode (file_of old h)).size n) BadIndex q.1.0),
      )

  pub accepted_write : (h k : ℕ) (piece : List ℕ) → Accepts geo old (Write h k piece) → IsWritable geo old.view (file_of old h) k piece
  unfolding causes
  accepted_write h k piece a =
      let q = quiet (causes geo old (Write h k piece)) a.0 in
      let long = when_none (eqb (length piece) 0 || ltb 1024 (length piece)) BadPiece q.1.0 in
      let high = when_none (leb (most_blocks geo) k) TooBig q.1.1.0 in
      let last = when_none (ltb ((old.view.inode (file_of old h)).size / 1024) k) BadIndex q.1.1.1.0 in
      let at : k ≤ (old.view.inode (file_of old h)).size / 1024 = ltb-false ((old.view.inode (file_of old h)).size / 1024) k last in
      record {
        file = handle_is_file h (when_none (is_none (open_at old h)) BadHandle q.0);
        some = elim (cases_eq (length piece) 0) [
          | inl e ↦ absurd (both_ways (eqb (length piece) 0 || ltb 1024 (length piece)) long (or_left (eqb (length piece) 0) (ltb 1024 (length piece)) (eq-eqb (length piece) 0 e)))
          | inr o ↦ omega (arith, o)
        ];
        few = elim (cases_lt 1024 (length piece)) [
          | inl more ↦ absurd (both_ways (eqb (length piece) 0 || ltb 1024 (length piece)) long (or_right (eqb (length piece) 0) (ltb 1024 (length piece)) (lt-ltb 1024 (length piece) more)))
          | inr less ↦ omega (arith, less)
        ];
        room = elim (cases_lt k (most_blocks geo)) [
          | inl less ↦ less
          | inr more ↦ absurd (both_ways (leb (most_blocks geo) k) high (le-leb (most_blocks geo) k (omega (arith, more))))
        ];
        place = elim (cases_lt k (blocks_of (old.view.inode (file_of old h)).size)) [
          | inl less ↦ inl less
          | inr more ↦ inr (omega (arith, more, at))
        ];
      }

  -- ---- repairs

  pub owed_drop : (n : ℕ) → Owes geo old (DropInode n) → HasFew geo old.view n 0
  owed_drop n o =
      let d = b.dropped n o in
      record {
        sound = d.0;
        enough = λ m h. omega (arith, uncounted geo old.view b.rules n m (omega (arith, number_low geo n (and_parts (is_number geo n) (is_sound geo (old.view.inode n)) d.0).0)) d.1 h);
      }

  pub owed_lower : (n x : ℕ) → Owes geo old (LowerCount n x) → HasFew geo old.view n ((old.view.inode n).links - x)
  owed_lower n x o = record {
    sound = (b.lowered n x o).0;
    enough = λ m h. omega (arith, b.links n x m (inr (inr (x, o))) (λ d. b.one_kind n x d o) (inl o) h);
  }

  pub owed_block : (a : ℕ) → Owes geo old (FreeBlock a) → (IsClaimed geo old.view a → ⊥) × IsFalse (old.held a)
  owed_block a o = let f = b.freed_block a o in (f.0, false_from_ne_true (old.held a) f.1)

  pub owed_number : (n : ℕ) → Owes geo old (FreeNumber n) → (old.view.inode n).mode ≡ 0
  owed_number n o = b.freed_number n o
