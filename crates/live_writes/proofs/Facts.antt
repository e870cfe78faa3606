-- What is known of the file that a handle is open on, where its volume stands so.
use Rattle.std.proofs.Common.{◌≡◌, ◌<◌, ◌≤◌, ◌/◌, ◌&&◌, ℕ, Bool, true, false, eqb, ltb, cond, List, [], Option, Some, None, sym, ap, ◌∙◌, subst, arith, IsTrue}
use Rattle.std.proofs.lemmas.Bool.{le-leb}
use Rattle.std.proofs.lemmas.Bool.Decides.{nat_tests}
use Rattle.std.specs.Prelude.{IfSome, unwrap_or}
use Rattle.model.specs.Layout.{is_data_address, is_number}
use Rattle.model.specs.View.{Inode, View}
use Rattle.model.specs.Shape.{first_block, most_blocks}
use Rattle.model.specs.Uses.{blocks_of, claim_at, is_sound, is_sound_at}
use Rattle.model.proofs.Shape.{earlier, own_first, reach_from, some_table, table_inside, table_is_table}
use Rattle.model.proofs.UseLemmas.{claim_from, claim_parts}
use Rattle.machine.specs.Cells.{block_of}
use Rattle.machine.specs.State.{State, open_at}
use Rattle.machine.proofs.Decisions.{sound_parts}
use Rattle.plans_data.specs.Plans.{IsChoice}
use Rattle.plans_data.proofs.Blocks.{block_claimed}
use Rattle.frozen.specs.Kept.{Kept, KeepsMetadata, frozen_view}
use Rattle.metadata.specs.Shown.{Shows}
use Rattle.metadata.proofs.ShownLemmas.{shows_metadata}
use Rattle.live_states.specs.Holdings.{Has, Holdings, is_kept_by}
use Rattle.live_states.specs.Planned.{IsOfVolume, IsOfVolumeWith}
use Rattle.live_holdings.specs.Handles.{handle_at}
use Rattle.live_plans.specs.Linked.{CanLink, HasPointers}
use Rattle.live_plans.proofs.FoundLemmas.{same_claim}
use Rattle.live_plans.proofs.GrowLemmas.{can_link}
use Rattle.live_writes.specs.Aimed.{IsPlaced, block_count_of, blocks_behind, blocks_needed, seen_at}
use Rattle.live_writes.specs.declared.aiming.Place.{Place}
use Rattle.live_writes.specs.declared.aiming.Place.TheVariants.{InPlace, Behind, Elsewhere}

-- what is open is so by what is held in memory
module _ (holdings : Holdings) (old : State) (has : Has holdings old) where
  pub open_there : (h : ℕ) → open_at old h ≡ handle_at holdings h
  open_there h = ap (λ (o : ℕ → Option ℕ). cond (ltb h 1024) (o h) None) has.opened

-- and the blocks of a file are those that users see
pub claim_there : (kept : Kept) (view : View) → KeepsMetadata kept → Shows kept view → (i k : ℕ) → claim_at kept.geometry (frozen_view kept) i k ≡ claim_at kept.geometry view i k
claim_there kept view keeps shows i k = same_claim kept.geometry (frozen_view kept) view (shows_metadata kept view keeps shows) i k

pub block_there : (kept : Kept) (view : View) → KeepsMetadata kept → Shows kept view → (i k : ℕ) → block_of kept.geometry view i k ≡ block_of kept.geometry (frozen_view kept) i k
block_there kept view keeps shows i k = ap (λ o. unwrap_or o 0) (sym (claim_there kept view keeps shows i k))

module _ (kept : Kept) (volume : IsOfVolume kept) (i : ℕ) (sound : IsTrue (is_sound_at kept.geometry (frozen_view kept) i)) where
  abbrev users : View
  users = volume.old.view

  same_inode : (frozen_view kept).inode i ≡ users.inode i
  same_inode = volume.shows.inode i

  seen_sound : IsTrue (is_sound_at kept.geometry users i)
  seen_sound = subst (λ (n : Inode). IsTrue (is_number kept.geometry i && is_sound kept.geometry n)) same_inode sound

  pub numbered : IsTrue (is_number kept.geometry i)
  numbered = (sound_parts kept.geometry (frozen_view kept) i sound).0

  -- it claims each position below its blocks
  pub claimed : KeepsMetadata kept → (k : ℕ) → k < blocks_of ((frozen_view kept).inode i).size → (a : ℕ) × (claim_at kept.geometry (frozen_view kept) i k ≡ Some a)
  claimed keeps k inside =
      let c = block_claimed kept.geometry users volume.stands.balance.rules i k seen_sound (subst (λ (n : Inode). k < blocks_of n.size) same_inode inside) in
      let a = block_of kept.geometry users i k in
      (a, claim_there kept users keeps volume.shows i k ∙ claim_from kept.geometry users i k a c)

-- an open file is sound
pub opened_sound : (kept : Kept) (holdings : Holdings) → IsOfVolumeWith kept holdings → (h i : ℕ) → handle_at holdings h ≡ Some i → IsTrue (is_sound_at kept.geometry (frozen_view kept) i)
opened_sound kept holdings volume h i e =
    let old = volume.volume.old in
    let there = volume.volume.stands.balance.open_file i (h, open_there holdings old volume.has h ∙ e) in
    subst (λ (n : Inode). IsTrue (is_number kept.geometry i && is_sound kept.geometry n)) (sym (volume.volume.shows.inode i)) there.0

-- ---- how many blocks a new one takes
pub behind_needed : (kept : Kept) (holdings : Holdings) (i k : ℕ) → k ≡ block_count_of kept i → blocks_needed kept holdings i k ≡ blocks_behind kept.geometry k
behind_needed kept holdings i k e =
    let n = block_count_of kept i in
    let out : ltb k n ≡ false = grind (arith, nat_tests, e) in
    ap (λ (t : Bool). cond t (cond (is_kept_by holdings (block_of kept.geometry (frozen_view kept) i k)) 1 0) (blocks_behind kept.geometry n)) out ∙ ap (blocks_behind kept.geometry) (sym e)

-- ---- the pointer to a new block can be put
module _ (kept : Kept) (i k : ℕ) (claims : HasPointers kept i) (room : k < most_blocks kept.geometry) where
  -- behind the last one
  pub link_behind : (b : ℕ) (tables : List ℕ) → k ≡ block_count_of kept i → IsChoice kept.geometry (frozen_view kept) k b tables → CanLink kept i k tables
  link_behind b tables next is = can_link kept i k claims next room tables is.many is.tables

  -- and in the place of another one
  pub link_over : k < block_count_of kept i → CanLink kept i k []
  link_over inside = λ m one.
      let early : first_block kept.geometry m < block_count_of kept i = omega (arith, earlier kept.geometry k m one, own_first kept.geometry k room, inside) in
      claims m (le-leb (most_blocks kept.geometry) m (table_is_table kept.geometry k m one))
      (reach_from kept.geometry (block_count_of kept i) m (table_inside kept.geometry k m (omega (arith, room, some_table kept.geometry)) one) early)

-- a position that the file does not end before, and that it has no block at, is the one behind its last one
pub next_is : (size k : ℕ) → k ≤ size / 1024 → blocks_of size ≤ k → k ≡ blocks_of size
next_is size k near past = omega (arith, near, past)

-- what is seen is a data block
pub placed_seen : (kept : Kept) (holdings : Holdings) (i k : ℕ) (place : Place) → IsPlaced kept holdings i k place → IfSome (seen_at place) (λ a. IsTrue (is_data_address kept.geometry a))
placed_seen kept holdings i k (InPlace a) is = (claim_parts kept.geometry (frozen_view kept) i k a is.1).1
placed_seen kept holdings i k (Behind b tables) is = tt
placed_seen kept holdings i k (Elsewhere a b) is = (claim_parts kept.geometry (frozen_view kept) i k a is.1).1

-- ---- a length that a test found to be none, or not
pub none_from : (n : ℕ) (b : Bool) → b ≡ eqb n 0 → b ≡ true → n ≡ 0
none_from n b e t = let zero_is : eqb n 0 ≡ true = sym e ∙ t in grind (arith, nat_tests, zero_is)

pub some_from : (n : ℕ) (b : Bool) → b ≡ eqb n 0 → b ≡ false → 1 ≤ n
some_from n b e f = let other : eqb n 0 ≡ false = sym e ∙ f in grind (arith, nat_tests, other)
