-- A listing, slot after slot.
use Rattle.std.proofs.Common.{◌≡◌, ◌≤◌, ◌<◌, ◌+◌, ◌-◌, ◌&&◌, inl, inr, ap₂, ℕ, zero, suc, Bool, true, false, cond, leb, List, [], ◌++◌, length, refl, sym, ap, ◌∙◌, arith, Some, None, add-zero}
use Rattle.std.specs.Prelude.{◌↔◌, IsTrue, not}
use Rattle.std.proofs.lemmas.Bool.{both_ways, cases_lt, le-leb, lt-ltb}
use Rattle.std.proofs.lemmas.Bool.Decides.{nat_tests}
use Rattle.fuse_wire.specs.declared.bodies.Entry.{Entry}
use Rattle.fuse_wire.specs.Replies.{attributes_bytes, entry_bytes}
use Rattle.fuse_reader.specs.Turns.{is_below_root}
use Rattle.std.specs.Option.{option_map}
use Rattle.model.specs.Layout.{Geometry, inode_count}
use Rattle.model.specs.View.{View}
use Rattle.model.specs.Slots.{Slot, Absent, Empty, Good, Bad, number_in, slot}
use Rattle.machine.specs.Paths as paths
use Rattle.machine.specs.Paths.{lookup}
use Rattle.fuse_reader.specs.Listings.{Listing, add_bytes, add_slot, listed, listed_name, so_far}

module _ (geo : Geometry) (view : View) (d room from : ℕ) where
  pub listed_none : listed geo view d room from 0 ≡ so_far [] false
  unfolding listed
  listed_none = refl

  pub listed_more : (n : ℕ) → listed geo view d room from (n + 1) ≡ add_slot geo view room (from + n) (slot geo view d (from + n)) (listed geo view d room from n)
  unfolding listed
  listed_more n = let e : n + 1 ≡ suc n = omega arith in ap (listed geo view d room from) e

  -- where a name had no room, no later one is added
  full_stays : (s : ℕ) (x : Slot) (l : Listing) → l.full ≡ true → add_slot geo view room s x l ≡ l
  full_stays s Absent l e = refl
  full_stays s Empty l e = refl
  full_stays s (Good i name) l e =
      ap (λ b. cond b l (cond (leb (length l.bytes + length (listed_name geo view s i name)) room) (so_far (l.bytes ++ listed_name geo view s i name) false) (so_far l.bytes true))) e
  full_stays s Bad l e = refl

  listed_full : (n m : ℕ) → (listed geo view d room from n).full ≡ true → listed geo view d room from (n + m) ≡ listed geo view d room from n
  listed_full n zero e = ap (listed geo view d room from) (add-zero n)
  listed_full n (suc m) e =
      let h = listed_full n m e in
      let next : n + suc m ≡ (n + m) + 1 = omega arith in
      ap (listed geo view d room from) next ∙ listed_more (n + m)
      ∙ full_stays (from + (n + m)) (slot geo view d (from + (n + m))) (listed geo view d room from (n + m)) (ap (λ (l : Listing). l.full) h ∙ e) ∙ h

  pub ends_full : (n all : ℕ) (bytes : List ℕ) → so_far bytes true ≡ listed geo view d room from n → n ≤ all → bytes ≡ (listed geo view d room from all).bytes
  ends_full n all bytes e few =
      let m = all - n in
      let whole : n + (all - n) ≡ all = omega arith in
      ap (λ (l : Listing). l.bytes) (e ∙ sym (listed_full n (all - n) (ap (λ (l : Listing). l.full) (sym e))) ∙ ap (listed geo view d room from) whole)

  pub ends_here : (n all : ℕ) (bytes : List ℕ) → so_far bytes false ≡ listed geo view d room from n → n ≡ all → bytes ≡ (listed geo view d room from all).bytes
  ends_here n all bytes e same = ap (λ (l : Listing). l.bytes) (e ∙ ap (listed geo view d room from) same)

  -- one slot more, by what it was found to say
  pub goes_on : (n s : ℕ) (bytes more : List ℕ) (full : Bool) → so_far bytes false ≡ listed geo view d room from n → s ≡ from + n
      → so_far more full ≡ add_slot geo view room s (slot geo view d s) (so_far bytes false) → so_far more full ≡ listed geo view d room from (n + 1)
  goes_on n s bytes more full e at f =
      f ∙ ap (λ t. add_slot geo view room t (slot geo view d t) (so_far bytes false)) at
      ∙ ap (λ l. add_slot geo view room (from + n) (slot geo view d (from + n)) l) e ∙ sym (listed_more n)

module _ (geo : Geometry) (view : View) (d : ℕ) (name : List ℕ) where
  pub lookup_some : (s n : ℕ) → paths.slot_of geo view d name ≡ Some s → number_in (slot geo view d s) ≡ n → lookup geo view d name ≡ Some n
  unfolding lookup
  lookup_some s n e h = ap (option_map (λ t. number_in (slot geo view d t))) e ∙ ap (λ i. Some i) h

  pub lookup_none : paths.slot_of geo view d name ≡ None → lookup geo view d name ≡ None
  unfolding lookup
  lookup_none e = ap (option_map (λ t. number_in (slot geo view d t))) e

-- an entry was added if it fits
pub room_added : (room : ℕ) (old new entry : List ℕ) (fits : Bool) → (IsTrue fits ↔ (length old + length entry ≤ room)) → new ≡ cond fits (old ++ entry) old
    → so_far new (not fits) ≡ add_bytes room entry (so_far old false)
room_added room old new entry true h e =
    let l : leb (length old + length entry) room ≡ true = le-leb (length old + length entry) room (h.0 refl) in
    ap (λ xs. so_far xs false) e ∙ sym (ap (λ b. cond b (so_far (old ++ entry) false) (so_far old true)) l)
room_added room old new entry false h e =
    let l : leb (length old + length entry) room ≡ false = elim (cases_lt room (length old + length entry)) [
      | inl low ↦ grind (arith, nat_tests)
      | inr high ↦ absurd (both_ways false refl (h.1 (omega (arith, high))))
    ] in
    ap (λ xs. so_far xs true) e ∙ sym (ap (λ b. cond b (so_far (old ++ entry) false) (so_far old true)) l)

pub entry_small : (e : Entry) → length (entry_bytes e) ≡ 128
unfolding entry_bytes attributes_bytes
entry_small e = refl

pub below_root : (geo : Geometry) (i : ℕ) → 2 < i → i < inode_count geo → is_below_root geo i ≡ true
below_root geo i h l = ap₂ (λ a b. a && b) (lt-ltb 2 i h) (lt-ltb i (inode_count geo) l)
