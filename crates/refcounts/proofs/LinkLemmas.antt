-- What is found of the links of a group's inodes, and that these are the findings.
use Rattle.std.proofs.Common.{◌≡◌, ◌<◌, ◌≤◌, ◌+◌, ◌/◌, ◌%◌, ℕ, Bool, true, false, cond, ◌&&◌, ◌||◌, eqb, ltb, List, [], Option, Some, None, ◌⊎◌, inl, inr, ◌↔◌, refl, sym, ap, ◌∙◌, subst, arith, IsTrue}
use Rattle.std.proofs.lemmas.Bool.{cases_lt, eq-eqb, eqb-true, le-ltb, lt-ltb, false≢true}
use Rattle.std.proofs.lemmas.Option.{none-some, same_Some}
use Rattle.findings.specs.declared.finding.Finding.{Finding}
use Rattle.findings.specs.declared.finding.Finding.TheVariants.{CountHigh, CountLow}
use Rattle.findings.specs.Findings.{IsFinding, is_of_counts}
use Rattle.findings.proofs.Sorted.{Contains-none}
use Rattle.findings.specs.Groups.{AreFoundIn, group_of}
use Rattle.model.specs.Growth.{Adds}
use Rattle.model.specs.Layout.{Geometry, is_number}
use Rattle.model.specs.Units.{only, stands_in}
use Rattle.model.specs.View.{View}
use Rattle.model.specs.Reach.{HasEntries, IsReachable}
use Rattle.model.specs.Reached.{AreReached}
use Rattle.model.proofs.Adding.{adds_both, adds_nothing, adds_same, or_left, or_parts, or_right}
use Rattle.model.proofs.Finite.{entries_once}
use Rattle.model.proofs.GroupNumbers.{before_all, before_more, before_none}
use Rattle.model.proofs.Same.{reachable_number}
use Rattle.sets.specs.Members.{is_among}
use Rattle.refcounts.specs.Counts.{AreEntries, count_at}
use Rattle.refcounts.specs.Links.{IsFoundAmong, IsFoundOfLinks, links_finding}
use Rattle.refcounts.proofs.CountLemmas.{among, there}

module _ (geo : Geometry) (view : View) (reached counts : List ℕ) where
  abbrev Among : (ℕ → Bool) → Finding → Type 0
  Among = IsFoundAmong geo view reached counts

  same_found : (m n : ℕ → Bool) (old new : List Finding) → ((i : ℕ) → IsTrue (is_number geo i) → m i ≡ n i) → Adds (Among m) old new → Adds (Among n) old new
  same_found m n old new same added =
      adds_same (Among m) (Among n) old new
      (λ f. ((λ h. (h.0, h.1, sym (same h.0 h.1) ∙ h.2, h.3, h.4)), (λ h. (h.0, h.1, same h.0 h.1 ∙ h.2, h.3, h.4)))) added

  module _ (m : ℕ → Bool) (n : ℕ) where
    with_one : (f : Finding) → (Among m f ⊎ Among (λ i. eqb i n) f) ↔ Among (λ i. m i || eqb i n) f
    with_one f = (
      (λ h. elim h [ inl k ↦ (k.0, k.1, or_left (m k.0) (eqb k.0 n) k.2, k.3, k.4) | inr k ↦ (k.0, k.1, or_right (m k.0) (eqb k.0 n) k.2, k.3, k.4) ]),
      (λ h. elim (or_parts (m h.0) (eqb h.0 n) h.2) [ inl k ↦ inl (h.0, h.1, k, h.3, h.4) | inr k ↦ inr (h.0, h.1, k, h.3, h.4) ]),
    )

    more_found : (old mid new : List Finding) → Adds (Among m) old mid → Adds (Among (λ i. eqb i n)) mid new → Adds (Among (λ i. m i || eqb i n)) old new
    more_found old mid new one two =
        adds_same (λ f. Among m f ⊎ Among (λ i. eqb i n) f) (Among (λ i. m i || eqb i n)) old new with_one
        (adds_both (Among m) (Among (λ i. eqb i n)) old mid new one two)

  -- an inode that is reached, and one that is not
  pub reached_found : (n entries : ℕ) (mid new : List Finding) → IsTrue (is_number geo n) → is_among reached n ≡ true → entries ≡ count_at counts (n % geo.inodes)
      → Adds (IsFoundOfLinks view n entries) mid new → Adds (Among (λ i. eqb i n)) mid new
  reached_found n entries mid new t is e added =
      adds_same (IsFoundOfLinks view n entries) (Among (λ i. eqb i n)) mid new
      (λ f. (
        (λ h. (n, t, eq-eqb n n refl, is, subst (λ m. IsFoundOfLinks view n m f) e h)),
        (λ h. let same = eqb-true h.0 n h.2 in subst (λ m. IsFoundOfLinks view n m f) (sym e) (subst (λ i. IsFoundOfLinks view i (count_at counts (i % geo.inodes)) f) same h.4)),
      )) added

  pub other_found : (n : ℕ) (mid new : List Finding) → is_among reached n ≡ false → new ≡ mid → Adds (Among (λ i. eqb i n)) mid new
  other_found n mid new none e =
      subst (λ xs. Adds (Among (λ i. eqb i n)) mid xs) (sym e)
      (adds_nothing (Among (λ i. eqb i n)) mid (λ f h. false≢true (sym none ∙ subst (λ i. is_among reached i ≡ true) (eqb-true h.0 n h.2) h.3)))

  -- the numbers of a group, one after another
  module _ (group : ℕ) where
    abbrev pub In : ℕ → ℕ → Bool
    In n i = stands_in geo (only group) i && ltb i n

    pub found_first : (n : ℕ) → ((i : ℕ) → IsTrue (is_number geo i) → i / geo.inodes ≡ group → n ≤ i) → Adds (Among (In n)) [] []
    found_first n first =
        adds_nothing (Among (In n)) []
        (λ f h. false≢true (sym (before_none (only group (h.0 / geo.inodes)) h.0 n (λ u. first h.0 h.1 (eqb-true (h.0 / geo.inodes) group u))) ∙ h.2))

    pub found_next : (n : ℕ) (mid new : List Finding) → n / geo.inodes ≡ group → Adds (Among (In n)) [] mid → Adds (Among (λ i. eqb i n)) mid new → Adds (Among (In (n + 1))) [] new
    found_next n mid new here one two =
        same_found (λ i. In n i || eqb i n) (In (n + 1)) [] new
        (λ i t. before_more (only group (i / geo.inodes)) i n (λ e. eq-eqb (i / geo.inodes) group (ap (λ m. m / geo.inodes) e ∙ here)))
        (more_found (In n) n [] mid new one two)

    pub found_all : (n : ℕ) (new : List Finding) → ((i : ℕ) → IsTrue (is_number geo i) → i / geo.inodes ≡ group → i < n) → Adds (Among (In n)) [] new
        → Adds (Among (stands_in geo (only group))) [] new
    found_all n new last added =
        same_found (In n) (stands_in geo (only group)) [] new
        (λ i t. before_all (only group (i / geo.inodes)) i n (λ u. last i t (eqb-true (i / geo.inodes) group u))) added

-- ---- the findings
module _ (i l e : ℕ) where
  rest : Option Finding
  rest = cond (ltb l e) (Some (CountLow i l e)) None

  high_from : e < l → links_finding i l e ≡ Some (CountHigh i l e)
  unfolding rest
  high_from h = ap (λ b. cond b (Some (CountHigh i l e)) rest) (lt-ltb e l h)

  not_high : l ≤ e → links_finding i l e ≡ rest
  unfolding rest
  not_high h = ap (λ b. cond b (Some (CountHigh i l e)) rest) (le-ltb e l h)

  low_from : l < e → links_finding i l e ≡ Some (CountLow i l e)
  unfolding rest
  low_from h = not_high (omega (arith, h)) ∙ ap (λ b. cond b (Some (CountLow i l e)) None) (lt-ltb l e h)

  none_from : l ≤ e → e ≤ l → links_finding i l e ≡ None
  unfolding rest
  none_from h k = not_high h ∙ ap (λ b. cond b (Some (CountLow i l e)) None) (le-ltb l e k)

  links_cases : (f : Finding) → links_finding i l e ≡ Some f → ((f ≡ CountHigh i l e) × (e < l)) ⊎ ((f ≡ CountLow i l e) × (l < e))
  links_cases f is = elim (cases_lt e l) [
    | inl more ↦ inl (sym (same_Some (CountHigh i l e) f (sym (high_from more) ∙ is)), more)
    | inr upto ↦ elim (cases_lt l e) [
      | inl fewer ↦ inr (sym (same_Some (CountLow i l e) f (sym (low_from fewer) ∙ is)), fewer)
      | inr from ↦ absurd (none-some f (sym (none_from upto from) ∙ is))
    ]
  ]

module _ (geo : Geometry) (view : View) (reached counts : List ℕ) (group : ℕ) (are : AreReached geo view reached) (entries : AreEntries geo view group counts) where
  abbrev IsIn : Finding → Type 0
  IsIn f = IsTrue (is_of_counts f) × (group_of geo f ≡ group) × IsFinding geo view f

  is_finding : (f : Finding) → IsFoundAmong geo view reached counts (stands_in geo (only group)) f → IsIn f
  is_finding f h =
      let i = h.0 in
      let reachable = (are.exactly i).0 (there reached i h.3) in
      let here = eqb-true (i / geo.inodes) group h.2 in
      let has = entries.counted i h.1 here in
      elim (links_cases i (view.inode i).links (count_at counts (i % geo.inodes)) f h.4) [
        | inl k ↦ subst (λ g. IsIn g) (sym k.0) (refl, here, (reachable, refl, has, k.1))
        | inr k ↦ subst (λ g. IsIn g) (sym k.0) (refl, here, (reachable, refl, has, k.1))
      ]

  found_at : (i l e : ℕ) (f : Finding) → i / geo.inodes ≡ group → IsReachable geo view i → l ≡ (view.inode i).links → HasEntries geo view i e → links_finding i l e ≡ Some f
      → IsFoundAmong geo view reached counts (stands_in geo (only group)) f
  found_at i l e f here reachable links has is =
      let number = reachable_number geo view i reachable in
      let same : e ≡ count_at counts (i % geo.inodes) = entries_once geo view i e (count_at counts (i % geo.inodes)) has (entries.counted i number here) in (
        i,
        number,
        eq-eqb (i / geo.inodes) group here,
        among reached i ((are.exactly i).1 reachable),
        subst (λ m. links_finding i (view.inode i).links m ≡ Some f) same (subst (λ m. links_finding i m e ≡ Some f) links is),
      )

  finding_found : (f : Finding) → IsTrue (is_of_counts f) → group_of geo f ≡ group → IsFinding geo view f → IsFoundAmong geo view reached counts (stands_in geo (only group)) f
  finding_found (CountHigh i l e) t here h = found_at i l e (CountHigh i l e) here h.0 h.1 h.2 (high_from i l e h.3)
  finding_found (CountLow i l e) t here h = found_at i l e (CountLow i l e) here h.0 h.1 h.2 (low_from i l e h.3)
  finding_found _ t here h = absurd cc

  -- what is found of all reached inodes of the group
  pub all_found : (found : List Finding) → Adds (IsFoundAmong geo view reached counts (stands_in geo (only group))) [] found → AreFoundIn is_of_counts geo view group found
  all_found found adds f = (
    (λ c. elim ((adds f).0 c) [ inl none ↦ absurd (Contains-none f none) | inr h ↦ is_finding f h ]),
    (λ h. (adds f).1 (inr (finding_found f h.0 h.1 h.2))),
  )
