-- What has a place in one view has it in another.
use Rattle.std.proofs.Common.{◌≡◌, ℕ, ◌/◌, List}
use Rattle.model.specs.Layout.{Geometry}
use Rattle.model.specs.View.{View}
use Rattle.model.specs.Cells.{SetBytes, updated}
use Rattle.model.specs.Slots.{Slot, Names}
use Rattle.model.specs.Reach.{IsReachableDirectory}
use Rattle.model.specs.Rules.{UsesAreClaims}
use Rattle.model.proofs.SlotLemmas.{names_stands}
use Rattle.model.proofs.UseLemmas.{claim_parts}
use Rattle.model.proofs.EntryCounts.{NamesStay}
use Rattle.model.proofs.SameTree.{SameTree, kept, back, names_kept, names_back}
use Rattle.model.proofs.SameReach.{SameReach, reach_kept, reach_back}
use Rattle.model.proofs.SlotChange.{SlotChange, names_there, names_then, block_there, block_then}
use Rattle.ordering.specs.Places.{HasPlace}
use Rattle.ordering.specs.OneSlot.{OneSlot}

pub place_of : (geo : Geometry) (v : View) (i d s : ℕ) → IsReachableDirectory geo v d → Names geo v d s i → (b : ℕ) × HasPlace geo v i d s b
place_of geo v i d s r h =
    let at = (names_stands geo v d s i h).place in (at.block, record { reachable = r; names = h; block = claim_parts geo v d (s / 16) at.block at.claimed })

-- where places stay, names do
pub places_stay : (geo : Geometry) (v w : View) (i : ℕ) → ((d s b : ℕ) → HasPlace geo v i d s b → HasPlace geo w i d s b) → NamesStay geo v w i
places_stay geo v w i within d s r h = let p = place_of geo v i d s r h in let there = within d s p.0 p.1 in (there.reachable, there.names)

-- what has no place has no name
pub unnamed : (geo : Geometry) (v : View) (i : ℕ) → ((d s b : ℕ) → HasPlace geo v i d s b → ⊥) → (d s : ℕ) → IsReachableDirectory geo v d → Names geo v d s i → ⊥
unnamed geo v i none d s r h = let p = place_of geo v i d s r h in none d s p.0 p.1

module _ (geo : Geometry) (v w : View) (t : SameTree geo v w) where
  pub place_kept : (i d s b : ℕ) → HasPlace geo v i d s b → HasPlace geo w i d s b
  place_kept i d s b p = record {
    reachable = kept geo v w t d p.reachable;
    names = names_kept geo v w t d s i p.reachable p.names;
    block = (t.blocks d s i b p.reachable p.names).0 p.block;
  }

  pub place_back : (i d s b : ℕ) → HasPlace geo w i d s b → HasPlace geo v i d s b
  place_back i d s b p =
      let r = back geo v w t d p.reachable in
      let n = names_back geo v w t d s i r p.names in
      record { reachable = r; names = n; block = (t.blocks d s i b r n).1 p.block }

-- the update of one slot, as the lemmas on views have it
pub slot_change : {geo : Geometry} {v : View} {block : ℕ} {bytes : List ℕ} {d s : ℕ} {old new : Slot} → OneSlot geo v block bytes d s old new → SlotChange geo v block bytes d s old new
slot_change h = record { claim = h.claim; directory = h.directory; below = h.below; others = h.others; before = h.before; now = h.now }

module _ (geo : Geometry) (v : View) (block : ℕ) (bytes : List ℕ) (d s : ℕ) (old new : Slot) (h : SlotChange geo v block bytes d s old new) (u : UsesAreClaims geo v)
    (r : SameReach geo v (updated v (SetBytes block bytes))) where
  abbrev now : View
  now = updated v (SetBytes block bytes)

  pub place_to : (j e t c : ℕ) → ((e ≡ d) × (t ≡ s) → ⊥) → HasPlace geo v j e t c → HasPlace geo now j e t c
  place_to j e t c other p = record {
    reachable = reach_kept geo v now r e p.reachable;
    names = names_there geo v block bytes d s old new h u e t j other p.names;
    block = block_there geo v block bytes d s old new h u e t c p.block;
  }

  pub place_from : (j e t c : ℕ) → ((e ≡ d) × (t ≡ s) → ⊥) → HasPlace geo now j e t c → HasPlace geo v j e t c
  place_from j e t c other p = record {
    reachable = reach_back geo v now r e p.reachable;
    names = names_then geo v block bytes d s old new h u e t j other p.names;
    block = block_then geo v block bytes d s old new h u e t c p.block;
  }
