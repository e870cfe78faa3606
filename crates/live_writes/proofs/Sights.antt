-- The new bytes are those that the piece asks for, whatever is seen of the old ones.
use Rattle.std.proofs.Common.{◌≡◌, ◌<◌, ◌≤◌, ◌+◌, ◌-◌, ◌*◌, ℕ, zero, suc, List, [], ◌++◌, length, take, drop, max, min, replicate, Some, refl, sym, ap, ◌∙◌, subst, arith, length-take}
use Rattle.std.specs.Prelude.{unwrap_or}
use Rattle.std.specs.List.{All}
use Rattle.model.specs.Image.{IsBlock}
use Rattle.model.specs.Layout.{block_count}
use Rattle.model.specs.View.{Inode, View}
use Rattle.model.specs.Uses.{blocks_of, claim_at}
use Rattle.model.proofs.Addresses.{data_range}
use Rattle.model.proofs.UseLemmas.{claim_parts}
use Rattle.machine.specs.Cells.{block_of, seen}
use Rattle.machine.specs.Command.{Done, Write}
use Rattle.machine.specs.Effects.{IsOverwritten}
use Rattle.machine.specs.Whole.{HasWholeBlocks}
use Rattle.frozen.specs.Kept.{Kept, KeepsMetadata, frozen_view}
use Rattle.metadata.specs.Shown.{Shows}
use Rattle.live_states.specs.Drafts.{Draft, GoesOn}
use Rattle.live_states.specs.Holdings.{Holdings, with_held}
use Rattle.live_states.specs.Planned.{AreSeen, IsOfVolume, IsOfVolumeWith, IsPlannedToTheByte, IsPlannedWith}
use Rattle.live_writes.specs.Aimed.{IsAimed, IsPlaced, seen_at, seen_so}
use Rattle.live_writes.specs.Written.{bytes_after, grown_size, held_for, updates_at}
use Rattle.live_writes.specs.declared.aiming.Place.{Place}
use Rattle.live_writes.specs.declared.aiming.Place.TheVariants.{InPlace, Behind, Elsewhere}
use Rattle.live_writes.specs.declared.aiming.Target.{Target}
use Rattle.live_writes.proofs.Bytes.{over_first, over_none, over_short}
use Rattle.live_writes.proofs.Facts.{claim_there}
use Rattle.live_writes.proofs.Planning.{IsOverAll, write_leaves, write_planned}

module _ (kept : Kept) (holdings : Holdings) (keeps : KeepsMetadata kept) (i k : ℕ) (view : View) (shows : Shows kept view) where
  at : (a : ℕ) → claim_at kept.geometry (frozen_view kept) i k ≡ Some a → block_of kept.geometry view i k ≡ a
  at a e = ap (λ o. unwrap_or o 0) (sym (claim_there kept view keeps shows i k) ∙ e)

  -- behind the last block nothing is seen
  nothing : k ≡ blocks_of ((frozen_view kept).inode i).size → seen kept.geometry view i k ≡ []
  nothing next =
      let here : k ≡ blocks_of (view.inode i).size = subst (λ (n : Inode). k ≡ blocks_of n.size) (shows.inode i) next in
      let none : (view.inode i).size - 1024 * k ≡ 0 = omega (arith, here) in
      ap (λ m. take m (view.bytes (block_of kept.geometry view i k))) none

  over_known : (a : ℕ) (before piece : List ℕ) → claim_at kept.geometry (frozen_view kept) i k ≡ Some a → view.bytes a ≡ before → IsBlock (piece ++ drop (length piece) before)
      → IsOverwritten piece (seen kept.geometry view i k) (piece ++ drop (length piece) before)
  over_known a before piece e bytes whole =
      subst (λ (l : List ℕ). IsOverwritten piece (take ((view.inode i).size - 1024 * k) l) (piece ++ drop (length piece) before)) (sym (ap view.bytes (at a e) ∙ bytes))
      (over_first piece before ((view.inode i).size - 1024 * k) whole)

  pub over_seen : (place : Place) (before piece : List ℕ) → IsPlaced kept holdings i k place → IsBlock (bytes_after place before piece) → AreSeen (seen_so (seen_at place) before) view
      → IsOverwritten piece (seen kept.geometry view i k) (bytes_after place before piece)
  over_seen (InPlace a) before piece is whole sees = over_known a before piece is.1 (sees 0 (record { address = a; bytes = before }) (omega arith)) whole
  over_seen (Behind b tables) before piece is whole sees = over_none piece (replicate 1024 0) (seen kept.geometry view i k) (nothing is.0) whole
  over_seen (Elsewhere a b) before piece is whole sees = over_known a before piece is.1 (sees 0 (record { address = a; bytes = before }) (omega arith)) whole

  -- and they are the piece over the whole block
  over_whole : (a : ℕ) (before piece : List ℕ) → claim_at kept.geometry (frozen_view kept) i k ≡ Some a → view.bytes a ≡ before
      → piece ++ drop (length piece) before ≡ piece ++ drop (length piece) (view.bytes (block_of kept.geometry view i k))
  over_whole a before piece e bytes = ap (λ (l : List ℕ). piece ++ drop (length piece) l) (sym (ap view.bytes (at a e) ∙ bytes))

  pub over_all_seen : (place : Place) (before piece : List ℕ) → IsPlaced kept holdings i k place → AreSeen (seen_so (seen_at place) before) view
      → IsOverAll kept view i k piece (bytes_after place before piece) place
  over_all_seen (InPlace a) before piece is sees = over_whole a before piece is.1 (sees 0 (record { address = a; bytes = before }) (omega arith))
  over_all_seen (Behind b tables) before piece is sees = refl
  over_all_seen (Elsewhere a b) before piece is sees = over_whole a before piece is.1 (sees 0 (record { address = a; bytes = before }) (omega arith))

  -- no more is seen than stands in the block, and than the file has
  sight_of : (a : ℕ) → claim_at kept.geometry (frozen_view kept) i k ≡ Some a → HasWholeBlocks kept.geometry view → length (seen kept.geometry view i k) ≤ min 1024 (((frozen_view kept).inode i).size - 1024 * k)
  sight_of a e whole =
      let block = subst (λ x. length (view.bytes x) ≡ 1024) (sym (at a e)) (whole a (claim_parts kept.geometry (frozen_view kept) i k a e).1).length in
      let same : ((frozen_view kept).inode i).size ≡ (view.inode i).size = ap (λ (n : Inode). n.size) (shows.inode i) in
      let long = length-take ((view.inode i).size - 1024 * k) (view.bytes (block_of kept.geometry view i k)) in
      omega (arith, block, same, long)

  pub sight : (place : Place) → IsPlaced kept holdings i k place → HasWholeBlocks kept.geometry view → length (seen kept.geometry view i k) ≤ min 1024 (((frozen_view kept).inode i).size - 1024 * k)
  sight (InPlace a) is whole = sight_of a is.1 whole
  sight (Behind b tables) is whole = let none : length (seen kept.geometry view i k) ≡ 0 = ap length (nothing is.0) in omega (arith, none)
  sight (Elsewhere a b) is whole = sight_of a is.1 whole

-- ---- the plan is that of another piece, which reaches to the new end
-- how long it is
abbrev pub reach : Kept → ℕ → ℕ → List ℕ → ℕ
reach kept i k piece = min 1024 (grown_size kept i k piece - 1024 * k)

size_kept : (s m p n : ℕ) → p ≤ 1024 → n ≡ min 1024 (max s (m + p) - m) → max s (m + n) ≡ max s (m + p)
size_kept s m p n few is = omega (arith, few, is)

reach_far : (s m p n : ℕ) → 1 ≤ p → p ≤ 1024 → n ≡ min 1024 (max s (m + p) - m) → (1 ≤ n) × (n ≤ 1024) × (min 1024 (s - m) ≤ n)
reach_far s m p n some few is = (omega (arith, some, few, is), omega (arith, is), omega (arith, some, few, is))

module _ (kept : Kept) (holdings : Holdings) (keeps : KeepsMetadata kept) (volume : IsOfVolumeWith kept holdings) (all : block_count kept.geometry ≤ length holdings.held)
    (h k : ℕ) (piece bytes : List ℕ) (target : Target) (aimed : IsAimed kept holdings h k piece target) (draft : Draft)
    (goes : GoesOn (record { geometry = kept.geometry; file = target.file; updates = [] }) draft (updates_at kept target bytes (grown_size kept target.file k piece)))
    (blocks : List ℕ) (held : blocks ≡ held_for target.place) (whole : IsBlock bytes) where
  placed : IsPlaced kept holdings target.file k target.place
  placed = subst (λ j. IsPlaced kept holdings target.file j target.place) aimed.index aimed.fits.placed

  pub planned : (before : List ℕ) → bytes ≡ bytes_after target.place before piece → IsPlannedToTheByte kept holdings (seen_so (seen_at target.place) before) (Write h k piece) Done draft (with_held holdings blocks)
  planned before is =
      write_leaves kept holdings keeps volume all h k piece bytes target aimed draft goes blocks held (seen_so (seen_at target.place) before)
      (λ view wholes shows sees. subst (λ (l : List ℕ). IsOverwritten piece (seen kept.geometry view target.file k) l) (sym is)
      (over_seen kept holdings keeps target.file k view shows target.place before piece placed (subst (λ (l : List ℕ). IsBlock l) is whole) sees))
      (λ view shows sees. subst (λ (l : List ℕ). IsOverAll kept view target.file k piece l target.place) (sym is)
      (over_all_seen kept holdings keeps target.file k view shows target.place before piece placed sees))

  abbrev other : List ℕ
  other = take (reach kept target.file k piece) bytes

  other_long : length other ≡ reach kept target.file k piece
  other_long = omega (arith, length-take (reach kept target.file k piece) bytes, whole.length)

  far : (1 ≤ length other) × (length other ≤ 1024) × (min 1024 (((frozen_view kept).inode target.file).size - 1024 * k) ≤ length other)
  far = reach_far ((frozen_view kept).inode target.file).size (1024 * k) (length piece) (length other) aimed.some aimed.few other_long

  aimed_other : IsAimed kept holdings h k other target
  aimed_other = record { opened = aimed.opened; index = aimed.index; some = far.0; few = far.1; near = aimed.near; fits = aimed.fits; enough = aimed.enough }

  pub planned_anyhow : (other : List ℕ) × IsPlannedWith kept holdings [] (Write h k other) Done draft (with_held holdings blocks)
  planned_anyhow = (
    other,
    write_planned kept holdings keeps volume all h k other bytes target aimed_other draft
        (subst (λ s. GoesOn (record { geometry = kept.geometry; file = target.file; updates = [] }) draft (updates_at kept target bytes s))
        (sym (size_kept ((frozen_view kept).inode target.file).size (1024 * k) (length piece) (length other) aimed.few other_long)) goes)
        blocks held []
        (λ view wholes shows sees. over_short (reach kept target.file k piece) bytes (seen kept.geometry view target.file k) whole
        (omega (arith, far.2, sight kept holdings keeps target.file k view shows target.place placed wholes))),
  )

-- what is held is a block of the volume
pub held_below : (kept : Kept) (holdings : Holdings) → IsOfVolume kept → (i k : ℕ) (place : Place) → IsPlaced kept holdings i k place → All (λ a. a < block_count kept.geometry) (held_for place)
held_below kept holdings volume i k (InPlace a) is j d low = absurd (omega (arith, low))
held_below kept holdings volume i k (Behind b tables) is j d low = absurd (omega (arith, low))
held_below kept holdings volume i k (Elsewhere a b) is zero d low = (data_range kept.geometry volume.stands.geometry a (claim_parts kept.geometry (frozen_view kept) i k a is.1).1).1
held_below kept holdings volume i k (Elsewhere a b) is (suc j) d low = absurd (omega (arith, low))
