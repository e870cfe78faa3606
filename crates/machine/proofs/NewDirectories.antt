-- The command that makes a directory keeps the balance.
use Rattle.std.proofs.Common.{◌≡◌, ◌≤◌, ◌<◌, ◌+◌, ◌/◌, ℕ, true, false, List, [], ◌∷◌, length, ◌⊎◌, inl, inr, refl, sym, ap, ◌∙◌, subst, arith, IsTrue, IsFalse, Option, None, Some}
use Rattle.std.proofs.lemmas.Bool.{cases_eq, cases_lt, both_ways, and_from}
use Rattle.model.specs.Layout.{Geometry, IsGeometry, is_number, is_data_address}
use Rattle.model.specs.View.{View, Inode}
use Rattle.model.specs.Cells.{SetNumber, SetBlock, SetInode, SetBytes, updated_all}
use Rattle.model.specs.Uses.{is_sound, is_sound_at, is_directory, is_directory_at, record_use, use_at, IsUse, IsClaim}
use Rattle.model.specs.Slots.{Absent, Empty, Good, slot, slot_in}
use Rattle.model.specs.Reach.{IsReachableDirectory}
use Rattle.model.proofs.SlotLemmas.{reachable_directory, directory_number}
use Rattle.model.proofs.Shape.{many_blocks}
use Rattle.model.proofs.Uses.{use_number, number_use}
use Rattle.model.proofs.Slots.{slot_claimed, slot_absent}
use Rattle.model.proofs.Places.{put_here, put_there}
use Rattle.model.proofs.SameTree.{kept, reachable_back}
use Rattle.model.proofs.Graft.{IsLoose}
use Rattle.layout.specs.declared.refusal.Refusal.TheVariants.{TooBig}
use Rattle.machine.specs.State.{State}
use Rattle.machine.specs.Command.{Mkdir}
use Rattle.machine.specs.Paths.{holder, name_in}
use Rattle.machine.specs.Room.{is_full}
use Rattle.machine.specs.Causes.{causes, refusal_of}
use Rattle.machine.specs.Effects.{MakesDirectory, new_directory, with_links}
use Rattle.machine.specs.Balance.{Balance, Owes}
use Rattle.machine.proofs.Decisions.{directory_is_sound}
use Rattle.machine.proofs.Clears.{named_reachable, kept as clears_kept}
use Rattle.machine.proofs.Walks.{quiet, when_none}
use Rattle.machine.proofs.Holders.{IsNewPlace, new_place}
use Rattle.machine.proofs.Behind.{behind_dots}
use Rattle.machine.proofs.Records.{new_directory_sound, new_directory_first, new_directory_uses}
use Rattle.machine.proofs.WholeBlocks.{put_whole}
use Rattle.machine.proofs.NewFile.{unsound_at}
use Rattle.machine.proofs.Naming.{once}
use Rattle.machine.proofs.Unlinking.{once_here, once_there}
use Rattle.machine.proofs.OtherLinks.{other_links, shape, same, slots}
use Rattle.machine.proofs.NewLinks.{raised}
use Rattle.machine.proofs.Ledger.{Ledger, no_slack, Kept, kept_by}
use Rattle.machine.proofs.Founding.{Founded, founded_ledger, founded_tree, founded_slots, founded_unreached}
use Rattle.machine.proofs.EntersFile.{full_same}
use Rattle.machine.proofs.Growing.{Roomy, makes_room}
use Rattle.machine.proofs.DotBlocks.{own_slot, parent_slot, rest_slot, dots_whole}
use Rattle.machine.proofs.GraftCount.{came_of}
use Rattle.machine.proofs.EnteringDirectory.{grafted_ledger}

module _ (geo : Geometry) (g : IsGeometry geo) (old new : State) (b : Balance geo old) (p words : List ℕ) (i : ℕ) (c : MakesDirectory geo old p words i new) (at : IsNewPlace geo old.view p) where
  abbrev v : View
  v = old.view

  abbrev d : ℕ
  d = holder geo v p

  abbrev n : ℕ
  n = (v.inode d).links + 1

  abbrev v1 : View
  v1 = other_links geo v d n

  abbrev y : Inode
  y = new_directory c.block words

  abbrev pub w : View
  w = updated_all v (SetNumber i true ∷ SetBlock c.block true ∷ SetInode d (with_links (v.inode d) n) ∷ SetBytes c.block c.bytes ∷ SetInode i (new_directory c.block words) ∷ [])

  pub dir : IsTrue (is_directory_at geo v d)
  dir = reachable_directory geo v d at.reachable

  apart : d ≡ i → ⊥
  apart e = both_ways (is_sound_at geo v i) (unsound_at geo v b.rules i c.free) (subst (λ q. IsTrue (is_sound_at geo v q)) e (directory_is_sound geo v d dir))

  here : w.inode i ≡ y
  here = put_here v1.inode i y

  -- the new directory uses its one block alone
  only_use : (q a : ℕ) → IsUse geo w i q a → (q ≡ 0) × (a ≡ c.block)
  only_use q a u = new_directory_uses geo w c.block words q a (subst (λ (r : Inode). record_use geo w r q ≡ Some a) here (use_number geo w i q a u).1)

  new_sound : IsTrue (is_sound_at geo w i)
  new_sound = and_from (is_number geo i) (is_sound geo (w.inode i)) c.free.number (ap (is_sound geo) here ∙ new_directory_sound geo c.block words)

  first_use : IsClaim geo w i 0 c.block
  first_use = (
    number_use geo w i 0 c.block c.free.number (ap (λ (r : Inode). record_use geo w r 0) here ∙ new_directory_first geo w c.block words),
    c.free_block.address,
  )

  founded : Founded geo v1 w i
  founded = record {
    free = record { number = c.free.number; unmarked = c.free.unmarked };
    there = λ j x. put_there v1.inode i j y x;
    sound = ap (is_sound geo) here ∙ new_directory_sound geo c.block words;
    linked = (let two = ap (λ (r : Inode). r.links) here in omega (arith, two));
    direct = ap (λ (r : Inode). length r.direct) here;
    mark_here = put_here v.number_marked i true;
    mark_there = λ j x. put_there v.number_marked i j true x;
    uses = λ q a u. let o = only_use q a u in
        (subst (λ z. IsTrue (is_data_address geo z)) (sym o.1) c.free_block.address, subst (λ z. IsFalse (v.block_marked z) × IsTrue (w.block_marked z)) (sym o.1) (c.free_block.unmarked, put_here v.block_marked c.block true));
    once = λ q m a x z. (only_use q a x.0).0 ∙ sym (only_use m a z.0).0;
    marks_kept = λ a m. put_there v.block_marked c.block a true (free_apart a m) ∙ m;
    fresh_claimed = λ a f. (0, subst (λ z. IsClaim geo w i 0 z) (sym (fresh_is a f.0 f.1)) first_use);
    bytes = λ a m. sym (put_there v.bytes c.block a c.bytes (free_apart a m));
    whole = put_whole geo v c.block c.bytes b.whole (dots_whole geo i d c.bytes c.dots);
  }
    where
      free_apart : (a : ℕ) → IsTrue (v.block_marked a) → a ≡ c.block → ⊥
      free_apart a m e = both_ways (v.block_marked c.block) c.free_block.unmarked (subst (λ z. IsTrue (v.block_marked z)) e m)

      fresh_is : (a : ℕ) → IsFalse (v.block_marked a) → IsTrue (w.block_marked a) → a ≡ c.block
      fresh_is a f m = elim (cases_eq a c.block) [ inl e ↦ e | inr x ↦ absurd (both_ways (v.block_marked a) f (sym (put_there v.block_marked c.block a true x) ∙ m)) ]

  l1 : Ledger geo (Owes geo old) (once (Good d [])) (record old { view = v1 })
  l1 = raised geo old b d (inl at.reachable)

  others_slack : (j : ℕ) → (j ≡ i → ⊥) → came_of d i j ≡ once (Good d []) j
  others_slack j x = omega (arith, once_there i j [] x)

  own_slack : came_of d i i ≡ (w.inode i).links
  own_slack = let two = ap (λ (r : Inode). r.links) here in omega (arith, once_here i [], once_there d i [] (λ e. apart (sym e)), two)

  pub l2 : Ledger geo (Owes geo old) (came_of d i) (record old { view = w })
  l2 = founded_ledger geo (Owes geo old) (once (Good d [])) (came_of d i) (record old { view = v1 }) l1 w i founded others_slack own_slack

  d_first : IsReachableDirectory geo v1 d
  d_first = clears_kept geo v v1 (λ j. false) (same geo v d n) d at.reachable

  pub d_second : IsReachableDirectory geo w d
  d_second = kept geo v1 w (founded_tree geo (Owes geo old) (once (Good d [])) (came_of d i) (record old { view = v1 }) l1 w i founded others_slack own_slack) d d_first

  slots_d : (t : ℕ) → slot geo v d t ≡ slot geo w d t
  slots_d t = slots geo v d n d t ∙ founded_slots geo (Owes geo old) (once (Good d [])) (came_of d i) (record old { view = v1 }) l1 w i founded others_slack own_slack d t d_first

  dir_new : IsTrue (is_directory_at geo w i)
  dir_new = and_from (is_sound_at geo w i) (is_directory (w.inode i)) new_sound (ap is_directory here)

  -- ---- the slots of the new directory

  block_slot : (t : ℕ) → t < 16 → slot geo w i t ≡ slot_in geo c.bytes t
  block_slot t low =
      slot_claimed geo w i t c.block dir_new (let many = many_blocks geo in omega (arith, low, many)) (subst (λ q. IsClaim geo w i q c.block) (omega (arith, low)) first_use)
      ∙ ap (λ z. slot_in geo z t) (put_here v.bytes c.block c.bytes)

  rest : (t : ℕ) → 2 ≤ t → (slot geo w i t ≡ Empty) ⊎ (slot geo w i t ≡ Absent)
  rest t two = elim (cases_lt t 16) [
    | inl low ↦ inl (block_slot t low ∙ rest_slot geo i d c.bytes c.dots t two low)
    | inr high ↦ inr (slot_absent geo w i t (go (use_at geo w i (t / 16)) refl high))
  ]
    where
      go : (o : Option ℕ) → use_at geo w i (t / 16) ≡ o → 16 ≤ t → o ≡ None
      go None e high = refl
      go (Some a) e high = absurd (omega (arith, (only_use (t / 16) a e).0, high))

  dot : slot geo w i 0 ≡ Good i (46 ∷ [])
  dot = block_slot 0 (omega arith) ∙ own_slot geo i d c.bytes c.dots c.free.number

  dot_dot : slot geo w i 1 ≡ Good d (46 ∷ 46 ∷ [])
  dot_dot = block_slot 1 (omega arith) ∙ parent_slot geo i d c.bytes c.dots (directory_number geo v d dir)

  -- ---- its entry

  module _ (not_full : is_full geo v d ≡ false) where
    abbrev r : View
    r = c.enters.roomy

    pub not_full' : is_full geo w d ≡ false
    not_full' = sym (full_same geo v w d slots_d (ap (λ (z : Inode). z.size) (shape geo v d n d ∙ ap (λ z. with_links z 0) (sym (put_there v1.inode i d y apart))))) ∙ not_full

    room : Roomy geo (Owes geo old) (came_of d i) (record old { view = w }) d r
    room = makes_room geo g (Owes geo old) (came_of d i) (record old { view = w }) l2 d d_second
        not_full' r c.enters.room

    still : (t j : ℕ) (name : List ℕ) → slot geo w i t ≡ Good j name → slot geo r i t ≡ Good j name
    still t j name e = elim (room.slots i t) [ inl is ↦ sym is ∙ e | inr new ↦ absurd (let bad : Absent ≡ Good j name = sym new.0 ∙ e in cc) ]

    loose : IsLoose geo r i d
    loose = record {
      directory = sym (room.directories i) ∙ dir_new;
      no_name = λ e t q names. founded_unreached geo (Owes geo old) (once (Good d [])) (came_of d i) (record old { view = v1 }) l1 w i founded others_slack own_slack
          (reachable_back geo w r room.tree i (named_reachable geo r room.ledger.rules e t i q names));
      dot = (46 ∷ [], still 0 i (46 ∷ []) dot);
      dot_dot = (46 ∷ 46 ∷ [], still 1 d (46 ∷ 46 ∷ []) dot_dot);
      rest = λ t two. elim (room.slots i t) [
        | inr new ↦ inl new.1
        | inl is ↦ elim (rest t two) [ inl e ↦ inl (sym is ∙ e) | inr e ↦ inr (sym is ∙ e) ]
      ];
    }

    d_third : IsReachableDirectory geo r d
    d_third = kept geo w r room.tree d d_second

    after : Ledger geo (Owes geo old) no_slack (record old { view = c.view })
    after = subst (λ (z : View). Ledger geo (Owes geo old) no_slack (record old { view = z })) (sym c.enters.whole)
        (grafted_ledger geo (Owes geo old) (came_of d i) no_slack (record old { view = r }) room.ledger i d c.enters.place (name_in p) c.enters.entry c.enters.empty c.enters.says at.part d_third
        (behind_dots geo r room.ledger.rules d c.enters.place d_third c.enters.empty)
        (λ t j e. at.new t j (slots_d t ∙ (room.tree.good d t j (name_in p) d_second).1 e))
        loose (λ j. omega arith))

    making : Kept geo old (record old { view = c.view })
    making = kept_by geo old (record old { view = c.view }) after refl refl

module _ (geo : Geometry) (g : IsGeometry geo) (old new : State) (b : Balance geo old) (p words : List ℕ) (i : ℕ) (c : MakesDirectory geo old p words i new) where
  -- what it may rely on
  pub mkdir_allows : {A : Type 0} → refusal_of geo old (Mkdir p words) ≡ None → (IsNewPlace geo old.view p → is_full geo old.view (holder geo old.view p) ≡ false → A) → A
  unfolding causes
  mkdir_allows none then =
      let q = quiet (causes geo old (Mkdir p words)) none in
      then (new_place geo old.view p q.0 q.1.1.0 q.1.1.1.0) (when_none (is_full geo old.view (holder geo old.view p)) TooBig q.1.1.1.1.1.1.0)

  pub mkdir_keeps : refusal_of geo old (Mkdir p words) ≡ None → Kept geo old new
  mkdir_keeps none = subst (λ t. Kept geo old t) (sym c.whole) (mkdir_allows none (λ at not_full. making geo g old new b p words i c at not_full))
