-- What is chosen on the kept blocks holds in each view of which they hold the metadata.
use Rattle.std.proofs.Common.{◌≡◌, ◌+◌, ◌/◌, ℕ, Bool, not, ◌&&◌, cond, leb, refl, sym, ap, ap₂, ◌∙◌, subst, arith, List, [], ◌∷◌, IsTrue, IsFalse, Option, Some, None}
use Rattle.std.specs.Bool.{then_some}
use Rattle.std.specs.Option.{option_and_then, IfSome}
use Rattle.model.specs.Layout.{Geometry, is_data_address, block_count}
use Rattle.model.specs.View.{View, Inode}
use Rattle.model.specs.Shape.{most_blocks}
use Rattle.model.specs.Uses.{blocks_of, claim_at, is_directory_at}
use Rattle.model.specs.Slots.{slot}
use Rattle.model.specs.Reach.{slot_count}
use Rattle.model.proofs.Alike.{same_and}
use Rattle.model.proofs.Same.{SameFacts, same_facts}
use Rattle.model.proofs.Sums.{sum-same}
use Rattle.frozen.specs.Kept.{Kept, frozen_view}
use Rattle.metadata.specs.Free.{IsNextBlock}
use Rattle.plans_data.specs.Plans.{AllFree, IsChoice}
use Rattle.machine.specs.Room.{IsFreeBlock, has_room, is_empty, is_full, unmarked_blocks, blocks_to_append}
use Rattle.machine.proofs.Decisions.{any_same, directory_is_sound, sound_parts}
use Rattle.live_paths.specs.Shown.{IsShownBy}
use Rattle.live_places.specs.declared.choosing.Place.{Place}
use Rattle.live_places.specs.declared.choosing.Place.TheVariants.{Slot, NewBlock}
use Rattle.live_places.specs.declared.choosing.Places.{Places}
use Rattle.live_places.specs.Chosen.{AreChosen, AreLeastFrom, AreNextBlocks, IsOwn, IsOther, IsPlace, behind, blocks_needed}
use Rattle.live_places.proofs.NextBlocks.{next_others}

-- what is kept is shown by itself
pub self_shown : (kept : Kept) → IsShownBy kept (frozen_view kept)
self_shown kept = record {
  inode = λ i n. refl;
  number_marked = λ i n. refl;
  block_marked = λ a n. refl;
  tables = λ i m a t c. refl;
  directory_blocks = λ d k a t c. refl;
}

-- ---- what is chosen is chosen from the least on
module _ (geo : Geometry) (view : View) (d : ℕ) where
  pub chosen_alone : (own : Bool) (place : Place) → IsFalse own → IsPlace geo view d place → AreLeastFrom geo view 0 place → AreChosen geo view d own (record { own = None; place = place })
  chosen_alone own place none is least = record { own = none; place = is; apart = tt; first = tt; next = least }

  others : (a : ℕ) (place : Place) → AreLeastFrom geo view (a + 1) place → IsOther place a
  others a (Slot s block) least = tt
  others a (NewBlock block tables) least = next_others geo view (a + 1) a (block ∷ tables) (omega arith) least

  pub chosen_both : (own : Bool) (a : ℕ) (place : Place) → IsTrue own → IsNextBlock geo view 0 a → IsPlace geo view d place → AreLeastFrom geo view (a + 1) place
      → AreChosen geo view d own (record { own = Some a; place = place })
  chosen_both own a place some first is least = record { own = (some, first.free); place = is; apart = others a place least; first = first; next = least }

-- ---- and so in each view that is shown
module _ (kept : Kept) (view : View) (shown : IsShownBy kept view) where
  same : SameFacts kept.geometry (frozen_view kept) view
  same = same_facts kept.geometry (frozen_view kept) view shown

  free_there : (a : ℕ) → IsFreeBlock kept.geometry (frozen_view kept) a → IsFreeBlock kept.geometry view a
  free_there a free = record { address = free.address; unmarked = sym (same.block_marked a free.address) ∙ free.unmarked }

  free_back : (a : ℕ) → IsFreeBlock kept.geometry view a → IsFreeBlock kept.geometry (frozen_view kept) a
  free_back a free = record { address = free.address; unmarked = same.block_marked a free.address ∙ free.unmarked }

  next_there : (from a : ℕ) → IsNextBlock kept.geometry (frozen_view kept) from a → IsNextBlock kept.geometry view from a
  next_there from a next = record { above = next.above; free = free_there a next.free; least = λ b low free. next.least b low (free_back b free) }

  all_next_there : (from : ℕ) (xs : List ℕ) → AreNextBlocks kept.geometry (frozen_view kept) from xs → AreNextBlocks kept.geometry view from xs
  all_next_there from [] next = tt
  all_next_there from (x ∷ xs) next = (next_there from x next.0, all_next_there (x + 1) xs next.1)

  all_free_there : (xs : List ℕ) → AllFree kept.geometry (frozen_view kept) xs → AllFree kept.geometry view xs
  all_free_there [] free = tt
  all_free_there (x ∷ xs) free = (free_there x free.0, all_free_there xs free.1)

  choice_there : (k b : ℕ) (tables : List ℕ) → IsChoice kept.geometry (frozen_view kept) k b tables → IsChoice kept.geometry view k b tables
  choice_there k b tables is = record { free = free_there b is.free; many = is.many; tables = all_free_there tables is.tables; apart = is.apart }

  pub unmarked_there : unmarked_blocks kept.geometry (frozen_view kept) ≡ unmarked_blocks kept.geometry view
  unmarked_there =
      sum-same (block_count kept.geometry) (λ a. cond (is_data_address kept.geometry a && not ((frozen_view kept).block_marked a)) 1 0) (λ a. cond (is_data_address kept.geometry a && not (view.block_marked a)) 1 0)
      (λ a b. ap (λ t. cond t 1 0) (same_and (is_data_address kept.geometry a) (not ((frozen_view kept).block_marked a)) (not (view.block_marked a)) (λ t. ap not (same.block_marked a t))))

  room_there : (d : ℕ) → has_room kept.geometry (frozen_view kept) d ≡ has_room kept.geometry view d
  room_there d =
      any_same (slot_count kept.geometry) (λ s. is_empty (slot kept.geometry (frozen_view kept) d s)) (λ s. is_empty (slot kept.geometry view d s))
      (λ s b. ap is_empty (same.slots d s))

  claim_there : (d k : ℕ) → claim_at kept.geometry (frozen_view kept) d k ≡ claim_at kept.geometry view d k
  unfolding claim_at
  claim_there d k = ap (option_and_then (λ a. then_some (is_data_address kept.geometry a) a)) (same.uses d k)

  least_there : (from : ℕ) (place : Place) → AreLeastFrom kept.geometry (frozen_view kept) from place → AreLeastFrom kept.geometry view from place
  least_there from (Slot s block) least = tt
  least_there from (NewBlock block tables) least = all_next_there from (block ∷ tables) least

  own_there : (own : Bool) (block : Option ℕ) → IsOwn kept.geometry (frozen_view kept) own block → IsOwn kept.geometry view own block
  own_there own None is = is
  own_there own (Some b) is = (is.0, free_there b is.1)

  first_there : (own : Option ℕ) → IfSome own (IsNextBlock kept.geometry (frozen_view kept) 0) → IfSome own (IsNextBlock kept.geometry view 0)
  first_there None is = tt
  first_there (Some a) is = next_there 0 a is

  -- ---- of a directory
  module _ (d : ℕ) (directory : IsTrue (is_directory_at kept.geometry (frozen_view kept) d)) where
    inode_there : (frozen_view kept).inode d ≡ view.inode d
    inode_there = same.inode d (sound_parts kept.geometry (frozen_view kept) d (directory_is_sound kept.geometry (frozen_view kept) d directory)).0

    size_there : blocks_of ((frozen_view kept).inode d).size ≡ blocks_of (view.inode d).size
    size_there = ap (λ (n : Inode). blocks_of n.size) inode_there

    pub full_there : is_full kept.geometry (frozen_view kept) d ≡ is_full kept.geometry view d
    full_there = ap₂ (λ r n. not r && leb (most_blocks kept.geometry) n) (room_there d) size_there

    pub needed_there : (own : Bool) → blocks_needed kept.geometry (frozen_view kept) d own ≡ blocks_needed kept.geometry view d own
    needed_there own = ap₂ (λ r n. cond own 1 0 + cond r 0 (blocks_to_append kept.geometry n)) (room_there d) inode_there

    place_there : (place : Place) → IsPlace kept.geometry (frozen_view kept) d place → IsPlace kept.geometry view d place
    place_there (Slot s block) is = record {
      empty = sym (same.slots d s) ∙ is.empty;
      first = λ t low e. is.first t low (same.slots d t ∙ e);
      stands = sym (claim_there d (s / 16)) ∙ is.stands;
      room = sym (room_there d) ∙ is.room;
    }
    place_there (NewBlock block tables) is = record {
      none = sym (room_there d) ∙ is.none;
      choice = subst (λ n. IsChoice kept.geometry view n block tables) size_there (choice_there (blocks_of ((frozen_view kept).inode d).size) block tables is.choice);
    }

    pub chosen_there : (own : Bool) (places : Places) → AreChosen kept.geometry (frozen_view kept) d own places → AreChosen kept.geometry view d own places
    chosen_there own places is = record {
      own = own_there own places.own is.own;
      place = place_there places.place is.place;
      apart = is.apart;
      first = first_there places.own is.first;
      next = least_there (behind places.own) places.place is.next;
    }
