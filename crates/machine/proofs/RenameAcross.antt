-- A file gets an entry in another directory, and its old one is emptied, which keeps the balance and the files.
use Rattle.std.proofs.Common.{◌≡◌, ◌≢◌, ◌≤◌, ◌+◌, ◌/◌, ℕ, false, List, inl, inr, refl, sym, ap, ◌∙◌, subst, arith, IsTrue, IsFalse}
use Rattle.std.specs.Prelude.{unwrap_or}
use Rattle.std.specs.Bool.{then_some}
use Rattle.std.specs.Option.{option_and_then}
use Rattle.std.proofs.lemmas.Bool.{cases_eq}
use mathlib.Core.Path.{fun_ext}
use Rattle.model.specs.Layout.{Geometry, IsGeometry, is_data_address}
use Rattle.model.specs.View.{View}
use Rattle.model.specs.Cells.{SetBytes, updated, put_at}
use Rattle.model.specs.Uses.{is_sound_at, is_directory_at, use_at, claim_at, IsClaim}
use Rattle.model.specs.Slots.{Empty, Good, slot}
use Rattle.model.specs.Reach.{IsReachableDirectory}
use Rattle.model.proofs.SlotLemmas.{names_stands, reachable_directory}
use Rattle.model.proofs.UseLemmas.{claim_from}
use Rattle.model.proofs.Places.{put_here, put_there}
use Rattle.model.proofs.SameTree.{kept}
use Rattle.model.proofs.SlotChange.{slot_uses, slot_others}
use Rattle.model.proofs.SameReach.{reach_kept}
use Rattle.machine.specs.State.{State}
use Rattle.machine.specs.Paths.{holder, name_in, slot_at, number_at}
use Rattle.machine.specs.Room.{is_full}
use Rattle.machine.specs.Cells.{block_of, with_slot, with_entry, Enters}
use Rattle.machine.specs.Effects.{emptied}
use Rattle.machine.specs.Balance.{Balance, Owes}
use Rattle.machine.specs.Files.{IsFile}
use Rattle.machine.proofs.Decisions.{reachable_sound}
use Rattle.machine.proofs.Clears.{named_reachable}
use Rattle.machine.proofs.Holders.{IsNewPlace}
use Rattle.machine.proofs.Renaming.{IsPlace}
use Rattle.machine.proofs.Behind.{behind_dots}
use Rattle.machine.proofs.Naming.{once}
use Rattle.machine.proofs.Putting.{PutsEntry, puts_entry, entry_says}
use Rattle.machine.proofs.Unlinking.{once_here}
use Rattle.machine.proofs.Growing.{Roomy, makes_room}
use Rattle.machine.proofs.Emptying.{zeroes, zeroes_say, emptied_reach, emptied_ledger}
use Rattle.machine.proofs.SameFiles.{SameFile, then_file}
use Rattle.machine.proofs.FileStays.{apart_from, entry_file}
use Rattle.machine.proofs.EnteringFile.{entered_ledger}
use Rattle.machine.proofs.Ledger.{Ledger, ledger, no_slack, Kept, kept_by}

-- ---- slots of two directories

-- two blocks are written in either order
swap : (v : View) (a c : ℕ) (x y : List ℕ) → (a ≡ c → ⊥) → updated (updated v (SetBytes c y)) (SetBytes a x) ≡ updated (updated v (SetBytes a x)) (SetBytes c y)
swap v a c x y differ = ap (λ (f : ℕ → List ℕ). record v { bytes = f }) (fun_ext (λ n. elim (cases_eq n a) [
  | inl e ↦ subst (λ m. put_at (put_at v.bytes c y) a x m ≡ put_at (put_at v.bytes a x) c y m) (sym e)
      (put_here (put_at v.bytes c y) a x ∙ sym (put_there (put_at v.bytes a x) c a y differ ∙ put_here v.bytes a x))
  | inr d ↦ put_there (put_at v.bytes c y) a n x d ∙ elim (cases_eq n c) [
    | inl e ↦ subst (λ m. put_at v.bytes c y m ≡ put_at (put_at v.bytes a x) c y m) (sym e) (put_here v.bytes c y ∙ sym (put_here (put_at v.bytes a x) c y))
    | inr d' ↦ put_there v.bytes c n y d' ∙ sym (put_there (put_at v.bytes a x) c n y d' ∙ put_there v.bytes a n x d)
  ]
]))

block_same : (geo : Geometry) (v w : View) (d k : ℕ) → use_at geo v d k ≡ use_at geo w d k → block_of geo w d k ≡ block_of geo v d k
unfolding claim_at
block_same geo v w d k e = ap (λ u. unwrap_or (option_and_then (λ a. then_some (is_data_address geo a) a) u) 0) (sym e)

block_is : (geo : Geometry) (v : View) (d k a : ℕ) → IsClaim geo v d k a → block_of geo v d k ≡ a
block_is geo v d k a c = ap (λ o. unwrap_or o 0) (claim_from geo v d k a c)

-- an entry of another directory does not change what with_entry writes
entries_swap : (geo : Geometry) (v : View) (d s e t : ℕ) (x y : List ℕ) → (block_of geo v d (s / 16) ≡ block_of geo v e (t / 16) → ⊥)
    → ((j k : ℕ) → use_at geo v j k ≡ use_at geo (with_entry geo v d s x) j k) → ((j k : ℕ) → use_at geo v j k ≡ use_at geo (with_entry geo v e t y) j k)
    → with_entry geo (with_entry geo v e t y) d s x ≡ with_entry geo (with_entry geo v d s x) e t y
entries_swap geo v d s e t x y differ uses_d uses_e =
    ap (λ b. updated (with_entry geo v e t y) (SetBytes b (with_slot ((with_entry geo v e t y).bytes b) s x))) (block_same geo v (with_entry geo v e t y) d (s / 16) (uses_e d (s / 16)))
    ∙ ap (λ (bytes : List ℕ). updated (with_entry geo v e t y) (SetBytes (block_of geo v d (s / 16)) (with_slot bytes s x)))
    (put_there v.bytes (block_of geo v e (t / 16)) (block_of geo v d (s / 16)) (with_slot (v.bytes (block_of geo v e (t / 16))) t y) differ)
    ∙ swap v (block_of geo v d (s / 16)) (block_of geo v e (t / 16)) (with_slot (v.bytes (block_of geo v d (s / 16))) s x) (with_slot (v.bytes (block_of geo v e (t / 16))) t y) differ
    ∙ sym (ap (λ b. updated (with_entry geo v d s x) (SetBytes b (with_slot ((with_entry geo v d s x).bytes b) t y))) (block_same geo v (with_entry geo v d s x) e (t / 16) (uses_d e (t / 16)))
    ∙ ap (λ (bytes : List ℕ). updated (with_entry geo v d s x) (SetBytes (block_of geo v e (t / 16)) (with_slot bytes t y)))
    (put_there v.bytes (block_of geo v d (s / 16)) (block_of geo v e (t / 16)) (with_slot (v.bytes (block_of geo v d (s / 16))) s x) (λ q. differ (sym q))))

module _ (geo : Geometry) (g : IsGeometry geo) (old : State) (b : Balance geo old) (p q : List ℕ) (view : View) where
  abbrev v : View
  v = old.view

  abbrev d : ℕ
  d = holder geo v p

  abbrev s : ℕ
  s = slot_at geo v p

  abbrev i : ℕ
  i = number_at geo v p

  abbrev e : ℕ
  e = holder geo v q

  module _ (at : IsPlace geo v p) (to : IsNewPlace geo v q) (file : IsFalse (is_directory_at geo v i)) (not_full : is_full geo v e ≡ false) (apart : d ≢ e) (enters : Enters geo v e (name_in q) i view) where
    l : Ledger geo (Owes geo old) no_slack old
    l = ledger geo old b

    room : Roomy geo (Owes geo old) no_slack old e enters.roomy
    room = makes_room geo g (Owes geo old) no_slack old l e to.reachable not_full enters.roomy enters.room

    abbrev r : View
    r = enters.roomy

    abbrev mid : State
    mid = record old { view = enters.roomy }

    sound : IsTrue (is_sound_at geo v i)
    sound = reachable_sound geo v i (named_reachable geo v b.rules d s i at.entry.reachable at.entry.names)

    d_reach : IsReachableDirectory geo r d
    d_reach = kept geo v r room.tree d at.entry.reachable

    e_reach : IsReachableDirectory geo r e
    e_reach = kept geo v r room.tree e to.reachable

    good : slot geo r d s ≡ Good i (name_in p)
    good = (room.tree.good d s i (name_in p) at.entry.reachable).0 at.good

    file' : IsFalse (is_directory_at geo r i)
    file' = sym (room.directories i) ∙ file

    sound' : IsTrue (is_sound_at geo r i)
    sound' = sym (room.sounds i) ∙ sound

    low : 2 ≤ enters.place
    low = behind_dots geo r room.ledger.rules e enters.place e_reach enters.empty

    -- the old entry emptied first
    first : PutsEntry geo r d s zeroes (Good i (name_in p)) Empty
    first = puts_entry geo r d s zeroes (Good i (name_in p)) Empty room.ledger.whole refl (λ z. cc) good (zeroes_say geo s)

    -- the new entry first
    other : PutsEntry geo r e enters.place enters.entry Empty (Good i (name_in q))
    other = puts_entry geo r e enters.place enters.entry Empty (Good i (name_in q)) room.ledger.whole enters.says.whole (λ z. cc) enters.empty
        (entry_says geo enters.place i (name_in q) enters.entry low (names_stands geo v d s i at.entry.names).number to.part enters.says)

    abbrev emptied_view : View
    emptied_view = with_entry geo r d s zeroes

    uses_first : (j k : ℕ) → use_at geo r j k ≡ use_at geo emptied_view j k
    uses_first j k = slot_uses geo r first.block (with_slot (r.bytes first.block) s zeroes) d s (Good i (name_in p)) Empty first.one room.ledger.rules.rule3 j k ∙ ap (λ x. use_at geo x j k) (sym first.whole)

    uses_other : (j k : ℕ) → use_at geo r j k ≡ use_at geo (with_entry geo r e enters.place enters.entry) j k
    uses_other j k = slot_uses geo r other.block (with_slot (r.bytes other.block) enters.place enters.entry) e enters.place Empty (Good i (name_in q)) other.one room.ledger.rules.rule3 j k ∙ ap (λ x. use_at geo x j k) (sym other.whole)

    differ : block_of geo r d (s / 16) ≡ block_of geo r e (enters.place / 16) → ⊥
    differ z = apart (room.ledger.rules.rule3.once d (s / 16) e (enters.place / 16) first.block first.one.claim
        (subst (λ a. IsClaim geo r e (enters.place / 16) a) (sym (sym (block_is geo r d (s / 16) first.block first.one.claim) ∙ z ∙ block_is geo r e (enters.place / 16) other.block other.one.claim)) other.one.claim)).0

    second : Ledger geo (Owes geo old) (λ j. no_slack j + once (Good i (name_in p)) j) (emptied geo mid d s)
    second = emptied_ledger geo (Owes geo old) no_slack mid room.ledger i d s (name_in p) good d_reach at.entry.after_dots file'

    slots_second : (t : ℕ) → slot geo r e t ≡ slot geo emptied_view e t
    slots_second t = slot_others geo r first.block (with_slot (r.bytes first.block) s zeroes) d s (Good i (name_in p)) Empty first.one room.ledger.rules.rule3 e t (λ z. apart (sym z.0)) ∙ ap (λ x. slot geo x e t) (sym first.whole)

    e_second : IsReachableDirectory geo emptied_view e
    e_second = subst (λ x. IsReachableDirectory geo x e) (sym first.whole)
        (reach_kept geo r (updated r (SetBytes first.block (with_slot (r.bytes first.block) s zeroes))) (emptied_reach geo r room.ledger.rules i d s (name_in p) first d_reach at.entry.after_dots file') e e_reach)

    third : Ledger geo (Owes geo old) no_slack (record old { view = with_entry geo emptied_view e enters.place enters.entry })
    third = entered_ledger geo (Owes geo old) (λ j. no_slack j + once (Good i (name_in p)) j) no_slack (emptied geo mid d s) second i e enters.place (name_in q) enters.entry
        (sym (slots_second enters.place) ∙ enters.empty) enters.says to.part e_second low
        (λ t j h. to.new t j ((room.tree.good e t j (name_in q) to.reachable).1 (slots_second t ∙ h)))
        sound' file' (omega (arith, once_here i (name_in p))) (λ j. omega arith)

    -- the order makes no difference
    swapped : with_entry geo emptied_view e enters.place enters.entry ≡ with_entry geo view d s zeroes
    swapped = sym (entries_swap geo r d s e enters.place zeroes enters.entry differ uses_first uses_other) ∙ ap (λ x. with_entry geo x d s zeroes) (sym enters.whole)

    pub across : Kept geo old (emptied geo (record old { view = view }) d s)
    across = subst (λ x. Kept geo old x) (ap (λ (x : View). record old { view = x }) swapped)
        (kept_by geo old (record old { view = with_entry geo emptied_view e enters.place enters.entry }) third refl refl)

    -- a file is as it was
    pub across_files : (j : ℕ) → IsFile geo v j → SameFile geo v (with_entry geo view d s zeroes) j
    across_files j is = subst (λ x. SameFile geo v x j) swapped (then_file geo v emptied_view (with_entry geo emptied_view e enters.place enters.entry) j (then_file geo v r emptied_view j grown emptying) entering)
      where
        grown : SameFile geo v r j
        grown = room.files j (apart_from geo v j e is.1 (reachable_directory geo v e to.reachable))

        emptying : SameFile geo r emptied_view j
        emptying = entry_file geo r room.ledger.rules.rule3 d s zeroes (Good i (name_in p)) (λ z. cc) good j (sym (room.directories j) ∙ is.1)

        entering : SameFile geo emptied_view (with_entry geo emptied_view e enters.place enters.entry) j
        entering = entry_file geo emptied_view second.rules.rule3 e enters.place enters.entry Empty (λ z. cc) (sym (slots_second enters.place) ∙ enters.empty) j (sym (room.directories j) ∙ is.1)
