-- What the claims of all parts tell of a group: who owns its blocks, and what is found.
use Rattle.std.proofs.Common.{◌≡◌, ◌<◌, ◌+◌, ◌/◌, ℕ, inl, inr, ◌↔◌, refl, sym, subst, All, List, ◌++◌, get_or, length, slice_get, Contains, Option, Some, IsTrue}
use Rattle.std.specs.List.{flat_map}
use Rattle.std.specs.List.Sorted.{IsStrictlySortedBy}
use Rattle.std.proofs.lemmas.Option.{get_or_from_slice_get}
use Rattle.std.proofs.lemmas.Bool.{and_parts, eqb-true, eq-eqb}
use Rattle.std.proofs.lemmas.List.Elements.{Contains-append_left, Contains-append_right, Contains-append_cases}
use Rattle.findings.specs.declared.finding.Finding.{Finding}
use Rattle.findings.specs.declared.finding.Finding.TheVariants.{BadInode, BadPointer, Duplicate}
use Rattle.findings.specs.Findings.{IsFinding, is_of_blocks}
use Rattle.model.specs.Layout.{Geometry, IsGeometry, data_address, header_blocks, is_number}
use Rattle.model.specs.View.{View}
use Rattle.model.specs.Uses.{IsClaim, is_sound}
use Rattle.model.specs.Units.{only}
use Rattle.model.proofs.Addresses.{number_in_group}
use Rattle.model.proofs.Uses.{use_parts}
use Rattle.findings.specs.Groups.{AreFoundIn, group_of}
use Rattle.findings.proofs.JoinLemmas.{in_some, from_some, stands_at}
use Rattle.phase_blocks.specs.declared.parts.Claim.{Claim}
use Rattle.phase_blocks.specs.Parts.{Gathered, IsPart, IsFoundAmong, claim_cmp}
use Rattle.phase_blocks.specs.Owners.{AreGathered, AreOwners, Holds, IsRepeatedIn}
use Rattle.phase_blocks.proofs.Claims.{claim}

module _ (geo : Geometry) (ok : IsGeometry geo) (view : View) (parts : List Gathered) (each : AreGathered geo view parts) where
  -- the claims of all parts are all claims
  pub all_claims : (c : Claim) → Contains (flat_map (λ p. p.claims) parts) c ↔ IsClaim geo view c.inode c.position c.block
  all_claims c = (
    (λ h. let r = in_some (λ (p : Gathered). p.claims) parts c h in (((each.each r.0 r.1 r.2).told.claims c).0 r.3).1),
    (λ h.
        let sound = (use_parts geo view c.inode c.position c.block h.0).sound in
        let low = number_in_group geo ok c.inode (and_parts (is_number geo c.inode) (is_sound geo (view.inode c.inode)) sound).0 in
        let p = stands_at parts (c.inode / geo.inodes) (subst (λ n. c.inode / geo.inodes < n) (sym each.count) low) in
        from_some (λ (q : Gathered). q.claims) parts (c.inode / geo.inodes) p.0 c p.1
        (((each.each (c.inode / geo.inodes) p.0 p.1).told.claims c).1 (eq-eqb (c.inode / geo.inodes) (c.inode / geo.inodes) refl, h))),
  )

  -- and those of each part are in order
  pub all_sorted : All (λ p. IsStrictlySortedBy claim_cmp p.claims) parts
  all_sorted = λ k d low.
      let p = stands_at parts k low in
      let here : get_or parts k d ≡ p.0 = get_or_from_slice_get parts k p.0 d p.1 in
      subst (λ (q : Gathered). IsStrictlySortedBy claim_cmp q.claims) (sym here) (each.each k p.0 p.1).claims_in_order

  module _ (g : ℕ) (owners : List (Option Claim)) (found : List Finding) (h : Holds geo g (Contains (flat_map (λ p. p.claims) parts)) owners found) where
    pub are_owners : header_blocks geo + length owners ≡ geo.blocks → AreOwners geo view g owners
    are_owners places = record {
      places = places;
      owned = λ bit c at. let o = h.owned bit c at in (
        o.1,
        record {
          claims = (all_claims c).0 o.2;
          least = λ j l is before. h.least bit c at (claim c.block j l) ((all_claims (claim c.block j l)).1 is) refl before;
        },
      );
      free = λ bit low none is. h.free bit low none (claim (data_address geo g bit) is.0 is.1) ((all_claims (claim (data_address geo g bit) is.0 is.1)).1 is.2) refl;
    }

    -- with what is found of one inode alone
    pub are_found : (own : Gathered) → slice_get parts g ≡ Some own → AreFoundIn is_of_blocks geo view g (found ++ own.found)
    are_found own there f = (
      (λ x. elim (Contains-append_cases found own.found f x) [
        | inl y ↦ repeated f ((h.repeated f).0 y)
        | inr y ↦ alone f ((part.told.found f).0 y)
      ]),
      back f,
    )
      where
        part : IsPart geo view (only g) own
        part = each.each g own there

        repeated : (f : Finding) → IsRepeatedIn geo g (Contains (flat_map (λ p. p.claims) parts)) f → IsTrue (is_of_blocks f) × (group_of geo f ≡ g) × IsFinding geo view f
        repeated (Duplicate i k a) x = (refl, x.0.1, ((all_claims (claim a i k)).0 x.1, x.2, x.3, (all_claims (claim a x.2 x.3)).0 x.4, x.5))
        repeated _ x = absurd x

        alone : (f : Finding) → IsFoundAmong geo view (λ i. only g (i / geo.inodes)) (λ i k. only g (i / geo.inodes)) f → IsTrue (is_of_blocks f) × (group_of geo f ≡ g) × IsFinding geo view f
        alone (BadInode i) x = (refl, eqb-true (i / geo.inodes) g x.0, x.1)
        alone (BadPointer i k v) x = (refl, eqb-true (i / geo.inodes) g x.0, x.1)
        alone _ x = absurd x

        back : (f : Finding) → IsTrue (is_of_blocks f) × (group_of geo f ≡ g) × IsFinding geo view f → Contains (found ++ own.found) f
        back (BadInode i) x = Contains-append_right found own.found (BadInode i) ((part.told.found (BadInode i)).1 (eq-eqb (i / geo.inodes) g x.1, x.2))
        back (BadPointer i k v) x = Contains-append_right found own.found (BadPointer i k v) ((part.told.found (BadPointer i k v)).1 (eq-eqb (i / geo.inodes) g x.1, x.2))
        back (Duplicate i k a) x =
            let d : IsFinding geo view (Duplicate i k a) = x.2 in
            Contains-append_left found own.found (Duplicate i k a) ((h.repeated (Duplicate i k a)).1
            ((d.0.1, x.1), (all_claims (claim a i k)).1 d.0, d.1, d.2, (all_claims (claim a d.1 d.2)).1 d.3, d.4))
        back _ x = absurd cc
