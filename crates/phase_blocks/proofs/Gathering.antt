-- What is told of sets of inodes and uses, as the sets grow.
use Rattle.std.proofs.Common.{◌≡◌, ℕ, false, List, [], Contains, ◌⊎◌, inl, inr, ◌↔◌, sym, ap, subst, IsTrue}
use Rattle.std.specs.List.Sorted.{IsStrictlySortedBy}
use Rattle.std.proofs.lemmas.Bool.{false≢true}
use Rattle.findings.proofs.Sorted.{Contains-none}
use Rattle.findings.specs.declared.finding.Finding.{Finding}
use Rattle.findings.specs.declared.finding.Finding.TheVariants.{BadInode, BadPointer}
use Rattle.findings.specs.Findings.{IsFinding, finding_cmp}
use Rattle.model.specs.Layout.{Geometry}
use Rattle.model.specs.View.{View}
use Rattle.model.specs.Uses.{IsUse, IsClaim}
use Rattle.phase_blocks.specs.declared.parts.Claim.{Claim}
use Rattle.phase_blocks.specs.Parts.{Gathered, AddsClaim, AddsFinding, Inodes, Uses, IsClaimAmong, IsFoundAmong, Tells, IsGathered, claim_cmp}
use Rattle.phase_blocks.proofs.Claims.{use_value, AddsUse}

module _ (geo : Geometry) (view : View) where
  -- larger sets find no less
  pub found_more : (n m : Inodes) (s t : Uses) → ((i : ℕ) → IsTrue (n i) → IsTrue (m i)) → ((i k : ℕ) → IsTrue (s i k) → IsTrue (t i k))
      → (f : Finding) → IsFoundAmong geo view n s f → IsFoundAmong geo view m t f
  found_more n m s t nm st (BadInode i) h = (nm i h.0, h.1)
  found_more n m s t nm st (BadPointer i k v) h = (st i k h.0, h.1)
  found_more n m s t nm st _ h = absurd h

  -- only what is a finding or a use counts
  found_back : (n m : Inodes) (s t : Uses) → ((i : ℕ) → IsTrue (m i) → IsFinding geo view (BadInode i) → IsTrue (n i))
      → ((i k v : ℕ) → IsTrue (t i k) → IsUse geo view i k v → IsTrue (s i k))
      → (f : Finding) → IsFoundAmong geo view m t f → IsFoundAmong geo view n s f
  found_back n m s t mn ts (BadInode i) h = (mn i h.0 h.1, h.1)
  found_back n m s t mn ts (BadPointer i k v) h = (ts i k v h.0 h.1.0, h.1)
  found_back n m s t mn ts _ h = absurd h

  pub tells_same : (n m : Inodes) (s t : Uses) (g : Gathered) → Tells geo view n s g
      → ((i : ℕ) → IsTrue (n i) → IsTrue (m i)) → ((i : ℕ) → IsTrue (m i) → IsFinding geo view (BadInode i) → IsTrue (n i))
      → ((i k : ℕ) → IsTrue (s i k) → IsTrue (t i k)) → ((i k v : ℕ) → IsTrue (t i k) → IsUse geo view i k v → IsTrue (s i k))
      → Tells geo view m t g
  tells_same n m s t g h nm mn st ts = record {
    claims = λ c. (
      (λ x. let y = (h.claims c).0 x in (st c.inode c.position y.0, y.1)),
      (λ x. (h.claims c).1 (ts c.inode c.position c.block x.0 x.1.0, x.1)),
    );
    found_in_order = h.found_in_order;
    found = λ f. ((λ x. found_more n m s t nm st f ((h.found f).0 x)), (λ x. (h.found f).1 (found_back n m s t mn ts f x)));
  }

  -- a record that is neither free nor sound
  pub tells_inode : (n m : Inodes) (s : Uses) (g new : Gathered) (i : ℕ) → Tells geo view n s g → IsFinding geo view (BadInode i)
      → ((j : ℕ) → IsTrue (n j) → IsTrue (m j)) → IsTrue (m i) → ((j : ℕ) → IsTrue (m j) → IsTrue (n j) ⊎ (j ≡ i))
      → AddsFinding g new (BadInode i) → Tells geo view m s new
  tells_inode n m s g new i h is_bad nm has only told = record {
    claims = subst (λ cs. (c : Claim) → Contains cs c ↔ IsClaimAmong geo view s c) (sym told.claims) h.claims;
    found_in_order = told.in_order;
    found = λ f. (
      (λ x. elim ((told.members f).0 x) [
        | inl there ↦ found_more n m s s nm (λ j l u. u) f ((h.found f).0 there)
        | inr e ↦ subst (IsFoundAmong geo view m s) (sym e) (has, is_bad)
      ]),
      (λ x. (told.members f).1 (split f x)),
    );
  }
    where
      split : (f : Finding) → IsFoundAmong geo view m s f → Contains g.found f ⊎ (f ≡ BadInode i)
      split (BadInode j) x = elim (only j x.0) [ inl u ↦ inl ((h.found (BadInode j)).1 (u, x.1)) | inr e ↦ inr (ap BadInode e) ]
      split (BadPointer j l v) x = inl ((h.found (BadPointer j l v)).1 x)
      split _ x = absurd x

  -- a use that is no claim
  pub tells_pointer : (n : Inodes) (s t : Uses) (g new : Gathered) (i k v : ℕ) → Tells geo view n s g → IsFinding geo view (BadPointer i k v)
      → AddsUse s t i k → AddsFinding g new (BadPointer i k v) → Tells geo view n t new
  tells_pointer n s t g new i k v h is_bad adds told = record {
    claims = λ c. (
      (λ x. let y = (h.claims c).0 (subst (λ cs. Contains cs c) told.claims x) in (adds.keeps c.inode c.position y.0, y.1)),
      (λ x. subst (λ cs. Contains cs c) (sym told.claims) ((h.claims c).1 (was c.inode c.position c.block x.0 x.1, x.1))),
    );
    found_in_order = told.in_order;
    found = λ f. (
      (λ x. elim ((told.members f).0 x) [
        | inl there ↦ found_more n n s t (λ j u. u) adds.keeps f ((h.found f).0 there)
        | inr e ↦ subst (IsFoundAmong geo view n t) (sym e) (adds.has, is_bad)
      ]),
      (λ x. (told.members f).1 (split f x)),
    );
  }
    where
      here : (j l w : ℕ) → j ≡ i → l ≡ k → IsUse geo view j l w → w ≡ v
      here j l w e f u = use_value geo view i k w v (subst (λ x. IsUse geo view x k w) e (subst (λ x. IsUse geo view j x w) f u)) is_bad.0

      was : (j l a : ℕ) → IsTrue (t j l) → IsClaim geo view j l a → IsTrue (s j l)
      was j l a u d = elim (adds.only j l u) [
        | inl x ↦ x
        | inr e ↦ absurd (let same_value = here j l a e.0 e.1 d.0 in cc (d.1, is_bad.1))
      ]

      split : (f : Finding) → IsFoundAmong geo view n t f → Contains g.found f ⊎ (f ≡ BadPointer i k v)
      split (BadInode j) x = inl ((h.found (BadInode j)).1 x)
      split (BadPointer j l w) x = elim (adds.only j l x.0) [
        | inl u ↦ inl ((h.found (BadPointer j l w)).1 (u, x.1))
        | inr e ↦ inr (let same_value = here j l w e.0 e.1 x.1.0 in cc (e.0, e.1))
      ]
      split _ x = absurd x

  -- a use that is a claim
  pub tells_claim : (n : Inodes) (s t : Uses) (g new : Gathered) (claim : Claim) → Tells geo view n s g → IsClaim geo view claim.inode claim.position claim.block
      → AddsUse s t claim.inode claim.position → AddsClaim g new claim → Tells geo view n t new
  tells_claim n s t g new claim h is_claim adds told = record {
    claims = λ c. (
      (λ x. elim ((told.members c).0 x) [
        | inl there ↦ let y = (h.claims c).0 there in (adds.keeps c.inode c.position y.0, y.1)
        | inr e ↦ subst (IsClaimAmong geo view t) (sym e) (adds.has, is_claim)
      ]),
      (λ x. (told.members c).1 (elim (adds.only c.inode c.position x.0) [
        | inl u ↦ inl ((h.claims c).1 (u, x.1))
        | inr e ↦ inr (same c e.0 e.1 x.1)
      ])),
    );
    found_in_order = subst (λ fs. IsStrictlySortedBy finding_cmp fs) (sym told.found) h.found_in_order;
    found = λ f. (
      (λ x. found_more n n s t (λ j u. u) adds.keeps f ((h.found f).0 (subst (λ fs. Contains fs f) told.found x))),
      (λ x. subst (λ fs. Contains fs f) (sym told.found) ((h.found f).1 (was f x))),
    );
  }
    where
      here : (j l w : ℕ) → j ≡ claim.inode → l ≡ claim.position → IsUse geo view j l w → w ≡ claim.block
      here j l w e f u =
          use_value geo view claim.inode claim.position w claim.block
          (subst (λ x. IsUse geo view x claim.position w) e (subst (λ x. IsUse geo view j x w) f u)) is_claim.0

      same : (c : Claim) → c.inode ≡ claim.inode → c.position ≡ claim.position → IsClaim geo view c.inode c.position c.block → c ≡ claim
      same c e f d = let b = here c.inode c.position c.block e f d.0 in λ i. record { block = b i; inode = e i; position = f i }

      was : (f : Finding) → IsFoundAmong geo view n t f → IsFoundAmong geo view n s f
      was (BadInode j) x = x
      was (BadPointer j l w) x = elim (adds.only j l x.0) [
        | inl u ↦ (u, x.1)
        | inr e ↦ absurd (let same_value = here j l w e.0 e.1 x.1.0 in cc (is_claim.1, x.1.1))
      ]
      was _ x = absurd x

  -- nothing is told of no inode
  pub gathered_none : (claims : List Claim) (found : List Finding) → claims ≡ [] → found ≡ [] → IsStrictlySortedBy finding_cmp found
      → IsGathered geo view (λ i. false) (λ i k. false) (record { claims = claims; found = found })
  unfolding IsStrictlySortedBy
  gathered_none claims found none nothing in_order = record {
    claims_in_order = subst (λ cs. IsStrictlySortedBy claim_cmp cs) (sym none) tt;
    told = record {
      claims = λ c. ((λ x. absurd (Contains-none c (subst (λ cs. Contains cs c) none x))), (λ x. absurd (false≢true x.0)));
      found_in_order = in_order;
      found = λ f. ((λ x. absurd (Contains-none f (subst (λ fs. Contains fs f) nothing x))), (λ x. absurd (among_none f x)));
    };
  }
    where
      among_none : (f : Finding) → IsFoundAmong geo view (λ i. false) (λ i k. false) f → ⊥
      among_none (BadInode i) x = false≢true x.0
      among_none (BadPointer i k v) x = false≢true x.0
      among_none _ x = x

  -- the same claims in order, and the same findings
  pub gathered_in_order : (n : Inodes) (s : Uses) (g new : Gathered) → Tells geo view n s g → IsStrictlySortedBy claim_cmp new.claims
      → ((c : Claim) → Contains new.claims c ↔ Contains g.claims c) → new.found ≡ g.found → IsGathered geo view n s new
  gathered_in_order n s g new h order same found = record {
    claims_in_order = order;
    told = record {
      claims = λ c. ((λ x. (h.claims c).0 ((same c).0 x)), (λ x. (same c).1 ((h.claims c).1 x)));
      found_in_order = subst (λ fs. IsStrictlySortedBy finding_cmp fs) (sym found) h.found_in_order;
      found = subst (λ fs. (f : Finding) → Contains fs f ↔ IsFoundAmong geo view n s f) (sym found) h.found;
    };
  }
