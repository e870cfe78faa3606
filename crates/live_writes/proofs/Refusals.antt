-- A write is refused with the first cause that holds.
use Rattle.std.proofs.Common.{◌≡◌, ◌<◌, ◌≤◌, ◌/◌, ◌||◌, ◌⊎◌, ℕ, Bool, true, false, List, length, eqb, ltb, leb, cond, inl, inr, refl, sym, ap, ap₂, ◌∙◌, subst, arith, Option, Some, None, is_none}
use Rattle.std.proofs.lemmas.Bool.Decides.{nat_tests}
use Rattle.std.specs.Prelude.{unwrap_or}
use Rattle.std.specs.Option.{option_or}
use Rattle.model.specs.Layout.{Geometry}
use Rattle.model.specs.View.{Inode}
use Rattle.model.specs.Shape.{most_blocks}
use Rattle.model.specs.Uses.{blocks_of}
use Rattle.layout.specs.declared.refusal.Refusal.{Refusal}
use Rattle.layout.specs.declared.refusal.Refusal.TheVariants.{BadHandle, BadIndex, BadPiece, NoBlock, TooBig}
use Rattle.machine.specs.Below.{when}
use Rattle.machine.specs.Causes.{Accepts, FirstRefusal, blocks_to_write, causes, refusal_of, too_few}
use Rattle.machine.specs.Cells.{block_of}
use Rattle.machine.specs.Command.{Write}
use Rattle.machine.specs.Room.{blocks_to_append, unmarked_blocks}
use Rattle.machine.specs.State.{State, is_kept, open_at}
use Rattle.frozen.specs.Kept.{Kept, KeepsMetadata, frozen_view}
use Rattle.metadata.specs.Shown.{Shows}
use Rattle.metadata.proofs.ShownLemmas.{shows_metadata}
use Rattle.live_places.proofs.ShownLemmas.{unmarked_there}
use Rattle.live_states.specs.Holdings.{Has, Holdings}
use Rattle.live_states.proofs.Standing.{kept_same}
use Rattle.live_holdings.specs.Handles.{handle_at}
use Rattle.live_writes.specs.Aimed.{blocks_needed}
use Rattle.live_writes.proofs.Facts.{block_there, open_there}

or_true : (b : Bool) → (b || true) ≡ true
or_true true = refl
or_true false = refl

-- ---- a piece
abbrev pub is_bad : List ℕ → Bool
is_bad piece = eqb (length piece) 0 || ltb 1024 (length piece)

pub bad_if : (piece : List ℕ) → (length piece ≡ 0) ⊎ (1024 < length piece) → is_bad piece ≡ true
bad_if piece (inl e) = ap (λ n. eqb n 0 || ltb 1024 n) e
bad_if piece (inr many) =
    let long : ltb 1024 (length piece) ≡ true = grind (arith, nat_tests, many) in
    ap (λ b. eqb (length piece) 0 || b) long ∙ or_true (eqb (length piece) 0)

pub good_if : (piece : List ℕ) → 1 ≤ length piece → length piece ≤ 1024 → is_bad piece ≡ false
good_if piece some few =
    let one : eqb (length piece) 0 ≡ false = grind (arith, nat_tests, some) in
    let short : ltb 1024 (length piece) ≡ false = grind (arith, nat_tests, few) in
    ap₂ (λ a b. a || b) one short

-- ---- the causes, one after the other
module _ (geo : Geometry) (old : State) (h k : ℕ) (piece : List ℕ) where
  abbrev room : ℕ → Option Refusal
  room need = option_or (too_few geo old.view need) None

  abbrev past : ℕ → Option Refusal
  past i = option_or (when (ltb ((old.view.inode i).size / 1024) k) BadIndex) (room (blocks_to_write geo old i k))

  abbrev big : ℕ → Option Refusal
  big i = option_or (when (leb (most_blocks geo) k) TooBig) (past i)

  abbrev pieces : ℕ → Option Refusal
  pieces i = option_or (when (is_bad piece) BadPiece) (big i)

  write_is : refusal_of geo old (Write h k piece) ≡ option_or (when (is_none (open_at old h)) BadHandle) (pieces (unwrap_or (open_at old h) 0))
  unfolding causes
  write_is = refl

  pub not_open : open_at old h ≡ None → refusal_of geo old (Write h k piece) ≡ Some BadHandle
  not_open e = write_is ∙ ap (λ o. option_or (when (is_none o) BadHandle) (pieces (unwrap_or o 0))) e

  module _ (i : ℕ) (opened : open_at old h ≡ Some i) where
    of_file : refusal_of geo old (Write h k piece) ≡ pieces i
    of_file = write_is ∙ ap (λ o. option_or (when (is_none o) BadHandle) (pieces (unwrap_or o 0))) opened

    pub bad_piece : is_bad piece ≡ true → refusal_of geo old (Write h k piece) ≡ Some BadPiece
    bad_piece e = of_file ∙ ap (λ b. option_or (when b BadPiece) (big i)) e

    module _ (good : is_bad piece ≡ false) where
      of_piece : refusal_of geo old (Write h k piece) ≡ big i
      of_piece = of_file ∙ ap (λ b. option_or (when b BadPiece) (big i)) good

      pub too_big : most_blocks geo ≤ k → refusal_of geo old (Write h k piece) ≡ Some TooBig
      too_big many =
          let large : leb (most_blocks geo) k ≡ true = grind (arith, nat_tests, many) in
          of_piece ∙ ap (λ b. option_or (when b TooBig) (past i)) large

      module _ (few : k < most_blocks geo) where
        of_position : refusal_of geo old (Write h k piece) ≡ past i
        of_position =
            let small : leb (most_blocks geo) k ≡ false = grind (arith, nat_tests, few) in
            of_piece ∙ ap (λ b. option_or (when b TooBig) (past i)) small

        pub past_end : (old.view.inode i).size / 1024 < k → refusal_of geo old (Write h k piece) ≡ Some BadIndex
        past_end far =
            let beyond : ltb ((old.view.inode i).size / 1024) k ≡ true = grind (arith, nat_tests, far) in
            of_position ∙ ap (λ b. option_or (when b BadIndex) (room (blocks_to_write geo old i k))) beyond

        module _ (near : k ≤ (old.view.inode i).size / 1024) where
          of_index : refusal_of geo old (Write h k piece) ≡ room (blocks_to_write geo old i k)
          of_index =
              let within : ltb ((old.view.inode i).size / 1024) k ≡ false = grind (arith, nat_tests, near) in
              of_position ∙ ap (λ b. option_or (when b BadIndex) (room (blocks_to_write geo old i k))) within

          pub no_block : unmarked_blocks geo old.view < blocks_to_write geo old i k → refusal_of geo old (Write h k piece) ≡ Some NoBlock
          no_block less =
              let short : ltb (unmarked_blocks geo old.view) (blocks_to_write geo old i k) ≡ true = grind (arith, nat_tests, less) in
              of_index ∙ ap (λ b. option_or (when b NoBlock) None) short

          pub accepted : blocks_to_write geo old i k ≤ unmarked_blocks geo old.view → refusal_of geo old (Write h k piece) ≡ None
          accepted enough =
              let plenty : ltb (unmarked_blocks geo old.view) (blocks_to_write geo old i k) ≡ false = grind (arith, nat_tests, enough) in
              of_index ∙ ap (λ b. option_or (when b NoBlock) None) plenty

-- ---- what is held in memory says how many blocks are needed, and how many there are
module _ (kept : Kept) (holdings : Holdings) (keeps : KeepsMetadata kept) (old : State) (shows : Shows kept old.view) (has : Has holdings old) where
  pub needed_there : (i k : ℕ) → blocks_to_write kept.geometry old i k ≡ blocks_needed kept holdings i k
  needed_there i k =
      ap₂ (λ (n : Inode) (b : Bool). cond (ltb k (blocks_of n.size)) (cond b 1 0) (blocks_to_append kept.geometry n)) (sym (shows.inode i))
      (ap (is_kept old) (block_there kept old.view keeps shows i k) ∙ kept_same holdings old has (block_of kept.geometry (frozen_view kept) i k))

  pub counted_there : unmarked_blocks kept.geometry (frozen_view kept) ≡ unmarked_blocks kept.geometry old.view
  counted_there = unmarked_there kept old.view (shows_metadata kept old.view keeps shows)

-- ---- and so in each state that is shown
module _ (kept : Kept) (holdings : Holdings) (h k : ℕ) (piece : List ℕ) where
  abbrev pub IsFirst : Refusal → Type 0
  IsFirst r = (old : State) → Shows kept old.view → Has holdings old → FirstRefusal kept.geometry old (Write h k piece) r

  pub handle_refused : handle_at holdings h ≡ None → IsFirst BadHandle
  handle_refused none = λ old shows has. inl (not_open kept.geometry old h k piece (open_there holdings old has h ∙ none))

  module _ (i : ℕ) (opened : handle_at holdings h ≡ Some i) where
    pub piece_refused : is_bad piece ≡ true → IsFirst BadPiece
    piece_refused bad = λ old shows has. inl (bad_piece kept.geometry old h k piece i (open_there holdings old has h ∙ opened) bad)

    module _ (good : is_bad piece ≡ false) where
      pub position_refused : most_blocks kept.geometry ≤ k → IsFirst TooBig
      position_refused many = λ old shows has. inl (too_big kept.geometry old h k piece i (open_there holdings old has h ∙ opened) good many)

      module _ (few : k < most_blocks kept.geometry) where
        pub index_refused : ((frozen_view kept).inode i).size / 1024 < k → IsFirst BadIndex
        index_refused far = λ old shows has. inl (past_end kept.geometry old h k piece i (open_there holdings old has h ∙ opened) good few (subst (λ (n : Inode). n.size / 1024 < k) (shows.inode i) far))

        module _ (near : k ≤ ((frozen_view kept).inode i).size / 1024) (keeps : KeepsMetadata kept) where
          near_there : (old : State) → Shows kept old.view → k ≤ (old.view.inode i).size / 1024
          near_there old shows = subst (λ (n : Inode). k ≤ n.size / 1024) (shows.inode i) near

          pub room_refused : (r : Refusal) → r ≡ NoBlock → unmarked_blocks kept.geometry (frozen_view kept) < blocks_needed kept holdings i k → IsFirst r
          room_refused r e less = λ old shows has.
              inl (no_block kept.geometry old h k piece i (open_there holdings old has h ∙ opened) good few (near_there old shows)
              (omega (arith, less, counted_there kept holdings keeps old shows has, needed_there kept holdings keeps old shows has i k))
              ∙ ap Some (sym e))

          pub write_accepted : blocks_needed kept holdings i k ≤ unmarked_blocks kept.geometry (frozen_view kept) → (old : State) → Shows kept old.view → Has holdings old → Accepts kept.geometry old (Write h k piece)
          write_accepted enough = λ old shows has. (
            accepted kept.geometry old h k piece i (open_there holdings old has h ∙ opened) good few (near_there old shows)
                (omega (arith, enough, counted_there kept holdings keeps old shows has, needed_there kept holdings keeps old shows has i k)),
            tt,
          )
