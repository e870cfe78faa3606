-- What the walks over the blocks and the numbers of a group find.
use Rattle.std.proofs.Common.{◌≡◌, ◌<◌, ◌+◌, ◌-◌, ◌*◌, ◌/◌, ◌%◌, ℕ, Bool, true, false, ◌&&◌, leb, ltb, List, [], Option, Some, None, ◌⊎◌, inl, inr, refl, sym, ap, ap₂, ◌∙◌, subst, arith, IsTrue, is_some}
use Rattle.std.proofs.lemmas.Bool.{and_parts, leb-true, both_ways, eq-eqb, eqb-true}
use Rattle.std.proofs.lemmas.Option.{none-some, same_Some}
use Rattle.findings.specs.declared.finding.Finding.{Finding}
use Rattle.findings.specs.declared.finding.Finding.TheVariants.{LostBlock, UnmarkedBlock, LostNumber, UnmarkedInode}
use Rattle.findings.proofs.Sorted.{Contains-none}
use Rattle.findings.specs.Findings.{IsFinding, is_of_maps}
use Rattle.model.specs.Layout.{Geometry, IsGeometry, block_count, group_block, header_blocks, place_in_group, group_of_address, data_address, data_bit, is_data_address}
use Rattle.model.specs.View.{View, view_of, map_bit}
use Rattle.model.specs.Uses.{IsClaimed}
use Rattle.model.specs.Units.{only, stands_in}
use Rattle.model.specs.Growth.{Adds}
use Rattle.model.proofs.Addresses.{address_is_data, address_group, address_place, data_range}
use Rattle.findings.specs.Groups.{AreFoundIn, group_of}
use Rattle.phase_blocks.specs.declared.parts.Claim.{Claim}
use Rattle.phase_blocks.specs.Owners.{AreOwners, owner_at}
use Rattle.phase_maps.specs.NumberFindings.{IsFoundOfNumbers}
use Rattle.phase_maps.specs.Walks.{block_finding, is_owned, IsFoundAt, IsFoundInGroup}

module _ (geo : Geometry) (ok : IsGeometry geo) (a : ℕ) (t : IsTrue (is_data_address geo a)) where
  place_high : header_blocks geo + data_bit geo a ≡ place_in_group geo a
  place_high =
      let h = leb-true (header_blocks geo) (place_in_group geo a) (and_parts (ltb 0 a && ltb a (block_count geo)) (leb (header_blocks geo) (place_in_group geo a)) t).1 in
      omega (arith, h)

  pub bit_low : header_blocks geo + data_bit geo a < geo.blocks
  bit_low = let some : 0 < geo.blocks = omega (arith, ok.enough_blocks) in omega (arith, place_high, some)

  pub address_of_place : data_address geo (group_of_address geo a) (data_bit geo a) ≡ a
  address_of_place =
      let some : 0 < geo.blocks = omega (arith, ok.enough_blocks) in
      let parts : geo.blocks * ((a - 1) / geo.blocks) + (a - 1) % geo.blocks ≡ a - 1 = omega (arith, some) in
      omega (arith, parts, place_high, (data_range geo ok a t).0)

-- what the bit of a data block says
module _ (geo : Geometry) (ok : IsGeometry geo) (block : ℕ → List ℕ) (g bit : ℕ) (low : header_blocks geo + bit < geo.blocks) (in_volume : g < geo.groups) where
  marked_at : (view_of geo block).block_marked (data_address geo g bit) ≡ map_bit (block (group_block geo g)) 160 bit
  marked_at =
      let a = data_address geo g bit in
      let place : data_bit geo (data_address geo g bit) ≡ bit = omega (arith, address_place geo ok g bit low) in
      ap (λ t. t && map_bit (block (group_block geo (group_of_address geo a))) 160 (data_bit geo a)) (address_is_data geo ok g bit low in_volume)
      ∙ ap₂ (λ h b. map_bit (block (group_block geo h)) 160 b) (address_group geo ok g bit low) place

  pub found_at : (claimed : ℕ → Bool) (marked is_claimed : Bool) (a : ℕ) (found : Option Finding) → a ≡ data_address geo g bit → marked ≡ map_bit (block (group_block geo g)) 160 bit → is_claimed ≡ claimed bit
      → found ≡ block_finding marked is_claimed a
      → block_finding ((view_of geo block).block_marked (data_address geo g bit)) (claimed bit) (data_address geo g bit) ≡ found
  found_at claimed marked is_claimed a found at m c e =
      sym (e ∙ ap (λ b. block_finding b is_claimed a) (m ∙ sym marked_at) ∙ ap (λ b. block_finding ((view_of geo block).block_marked (data_address geo g bit)) b a) c
      ∙ ap (λ b. block_finding ((view_of geo block).block_marked (data_address geo g bit)) (claimed bit) b) at)

-- what a finding of a block says
pub record IsBlockFinding (marked claimed : Bool) (a : ℕ) (f : Finding) : Type 0 where
  pub cases : ((f ≡ LostBlock a) × (marked ≡ true) × (claimed ≡ false)) ⊎ ((f ≡ UnmarkedBlock a) × (marked ≡ false) × (claimed ≡ true))

finding_cases : (marked claimed : Bool) (a : ℕ) (f : Finding) → block_finding marked claimed a ≡ Some f → IsBlockFinding marked claimed a f
finding_cases true true a f e = absurd (none-some f e)
finding_cases true false a f e = record { cases = inl (sym (same_Some (LostBlock a) f e), refl, refl) }
finding_cases false true a f e = record { cases = inr (sym (same_Some (UnmarkedBlock a) f e), refl, refl) }
finding_cases false false a f e = absurd (none-some f e)

lost_from : (marked claimed : Bool) (a : ℕ) → marked ≡ true → (claimed ≡ true → ⊥) → block_finding marked claimed a ≡ Some (LostBlock a)
lost_from true true a t no_claim = absurd (no_claim refl)
lost_from true false a t no_claim = refl
lost_from false claimed a t no_claim = absurd cc

unmarked_from : (marked claimed : Bool) (a : ℕ) → marked ≡ false → claimed ≡ true → block_finding marked claimed a ≡ Some (UnmarkedBlock a)
unmarked_from true claimed a f t = absurd cc
unmarked_from false true a f t = refl
unmarked_from false false a f t = absurd cc

-- what the owners of a group's blocks say
module _ (geo : Geometry) (ok : IsGeometry geo) (view : View) (g : ℕ) (low_group : g < geo.groups) (owners : List (Option Claim)) (own : AreOwners geo view g owners) where
  owned_is : (bit : ℕ) → is_owned owners bit ≡ true → IsClaimed geo view (data_address geo g bit)
  owned_is bit is = owner (owner_at owners bit) refl is
    where
      owner : (o : Option Claim) → owner_at owners bit ≡ o → is_some o ≡ true → IsClaimed geo view (data_address geo g bit)
      owner (Some c) e t = let o = own.owned bit c e in subst (λ a. IsClaimed geo view a) o.0 (c.inode, c.position, o.1.claims)
      owner None e t = absurd cc

  is_owner : (bit : ℕ) → header_blocks geo + bit < geo.blocks → IsClaimed geo view (data_address geo g bit) → is_owned owners bit ≡ true
  is_owner bit low claimed = owner (owner_at owners bit) refl
    where
      owner : (o : Option Claim) → owner_at owners bit ≡ o → is_some o ≡ true
      owner (Some c) e = refl
      owner None e = absurd (own.free bit low e claimed)

  abbrev IsIn : Finding → Type 0
  IsIn f = IsTrue (is_of_maps f) × (group_of geo f ≡ g) × IsFinding geo view f

  of_block : (bit : ℕ) (f : Finding) → header_blocks geo + bit < geo.blocks → IsFoundAt geo view (is_owned owners) g bit f → IsIn f
  of_block bit f low e =
      let a = data_address geo g bit in
      let stands : IsTrue (is_data_address geo a) = address_is_data geo ok g bit low low_group in
      let here : group_of_address geo a ≡ g = address_group geo ok g bit low in
      elim (finding_cases (view.block_marked a) (is_owned owners bit) a f e).cases [
        | inl h ↦ subst (λ x. IsIn x) (sym h.0) (refl, here, (stands, h.1, (λ c. both_ways (is_owned owners bit) h.2 (is_owner bit low c))))
        | inr h ↦ subst (λ x. IsIn x) (sym h.0) (refl, here, (owned_is bit h.2, h.1))
      ]

  of_number : (f : Finding) → IsFoundOfNumbers geo view (stands_in geo (only g)) f → IsIn f
  of_number (LostNumber i) h = (refl, eqb-true (i / geo.inodes) g h.0, h.1)
  of_number (UnmarkedInode i) h = (refl, eqb-true (i / geo.inodes) g h.0, h.1)
  of_number _ h = absurd cc

  -- the finding of a block stands at its bit
  at_bit : (a : ℕ) (f : Finding) → IsTrue (is_data_address geo a) → group_of_address geo a ≡ g
      → ((bit : ℕ) → header_blocks geo + bit < geo.blocks → data_address geo g bit ≡ a → block_finding (view.block_marked a) (is_owned owners bit) a ≡ Some f)
      → IsFoundInGroup geo view (is_owned owners) g f
  at_bit a f t here found =
      let low = bit_low geo ok a t in
      let address : data_address geo g (data_bit geo a) ≡ a = subst (λ h. data_address geo h (data_bit geo a) ≡ a) here (address_of_place geo ok a t) in
      (data_bit geo a, low, subst (λ b. block_finding (view.block_marked b) (is_owned owners (data_bit geo a)) b ≡ Some f) (sym address) (found (data_bit geo a) low address))

  found_from : (f : Finding) → IsTrue (is_of_maps f) → group_of geo f ≡ g → IsFinding geo view f → IsFoundInGroup geo view (is_owned owners) g f ⊎ IsFoundOfNumbers geo view (stands_in geo (only g)) f
  found_from (LostBlock a) t here h =
      inl (at_bit a (LostBlock a) h.0 here
      (λ bit low address. lost_from (view.block_marked a) (is_owned owners bit) a h.1 (λ o. h.2 (subst (λ b. IsClaimed geo view b) address (owned_is bit o)))))
  found_from (UnmarkedBlock a) t here h =
      inl (at_bit a (UnmarkedBlock a) h.0.2.1 here
      (λ bit low address. unmarked_from (view.block_marked a) (is_owned owners bit) a h.1 (is_owner bit low (subst (λ b. IsClaimed geo view b) (sym address) h.0))))
  found_from (LostNumber i) t here h = inr (eq-eqb (i / geo.inodes) g here, h)
  found_from (UnmarkedInode i) t here h = inr (eq-eqb (i / geo.inodes) g here, h)
  found_from _ t here h = absurd cc

  -- the blocks of the group, and then its numbers
  pub maps_found : (blocks all : List Finding) → Adds (IsFoundInGroup geo view (is_owned owners) g) [] blocks → Adds (IsFoundOfNumbers geo view (stands_in geo (only g))) blocks all → AreFoundIn is_of_maps geo view g all
  maps_found blocks all one two f = (
    (λ c. elim ((two f).0 c) [
      | inl k ↦ elim ((one f).0 k) [ inl none ↦ absurd (Contains-none f none) | inr h ↦ of_block h.0 f h.1 h.2 ]
      | inr h ↦ of_number f h
    ]),
    (λ h. elim (found_from f h.0 h.1 h.2) [ inl k ↦ (two f).1 (inl ((one f).1 (inr k))) | inr k ↦ (two f).1 (inr k) ]),
  )
