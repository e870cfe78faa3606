-- A table of owners that is filled, claim after claim.
use Rattle.std.proofs.Common.{◌≡◌, ◌<◌, ◌≤◌, ◌+◌, ◌-◌, ◌*◌, ◌/◌, ◌%◌, ℕ, ◌⊎◌, inl, inr, ◌↔◌, refl, sym, ap, ◌∙◌, subst, arith, List, [], ◌∷◌, ◌++◌, length, get_or, mul_comm, set, take, drop, Contains, true, false, ltb, Option, Some, None}
use Rattle.std.specs.List.Sorted.{IsStrictlySortedBy, IsPartitionedBy, IsPartitionPoint}
use Rattle.std.proofs.lemmas.Bool.{cases_order, ltb-true, ltb-false, lt-ltb}
use Rattle.std.proofs.lemmas.List.{get_or_default, get_or-set_same, get_or-set_other, get_or-take, get_or-drop, length-take, length-drop}
use Rattle.std.proofs.lemmas.List.Elements.{Contains-append_left, Contains-append_right, Contains-append_cases, Contains-push, Contains-push_cases}
use Rattle.std.proofs.lemmas.Map.Keys.{Less-from_sorted}
use Rattle.std.proofs.lemmas.Option.{same_Some, none-some}
use Rattle.findings.proofs.Sorted.{Contains-none}
use Rattle.findings.specs.declared.finding.Finding.{Finding}
use Rattle.findings.specs.declared.finding.Finding.TheVariants.{Duplicate}
use Rattle.model.specs.Layout.{Geometry, IsGeometry, data_address, group_block, header_blocks}
use Rattle.model.specs.Uses.{Before}
use Rattle.model.proofs.Addresses.{address_group, address_is_data, data_places, data_range}
use Rattle.phase_blocks.specs.declared.parts.Claim.{Claim}
use Rattle.phase_blocks.specs.Parts.{claim_cmp}
use Rattle.phase_blocks.specs.Owners.{Holds, IsRepeatedIn, StandsIn, owner_at}
use Rattle.phase_blocks.proofs.ClaimOrder.{claim_less}
use Rattle.phase_blocks.proofs.Claims.{claim}

-- ---- claims in order, parted at a block
pub parted : (claims : List Claim) (block : ℕ) → IsStrictlySortedBy claim_cmp claims → IsPartitionedBy (λ c. ltb c.block block) claims
parted claims block sorted i j d le low at = elim (cases_order i j) [
  | inl e ↦ subst (λ k. ltb (get_or claims k d).block block ≡ true) (sym e) at
  | inr h ↦ elim h [
    | inl lt ↦
        let here : (get_or claims j d).block < block = ltb-true (get_or claims j d).block block at in
        lt-ltb (get_or claims i d).block block (elim (claim_less (get_or claims i d) (get_or claims j d) (Less-from_sorted claim_cmp claims i j d sorted lt low)) [
          | inl less ↦ omega (arith, less, here)
          | inr same ↦ omega (arith, same.0, here)
        ])
    | inr gt ↦ absurd (omega (arith, gt, le))
  ]
]

pub point_of : (claims : List Claim) (block point : ℕ) → IsPartitionPoint (λ c. ltb c.block block ≡ true) (λ c. ltb c.block block ≡ false) claims point
    → IsPartitionPoint (λ c. c.block < block) (λ c. block ≤ c.block) claims point
point_of claims block point h = (
  (λ k d low below. ltb-true (get_or claims k d).block block (h.0 k d low below)),
  (λ k d low below. ltb-false (get_or claims k d).block block (h.1 k d low below)),
)

-- those between two points are all that stand in the range
pub between_points : (claims : List Claim) (first past from to : ℕ) → from ≤ to → to ≤ length claims
    → ((k : ℕ) (d : Claim) → k < from → (get_or claims k d).block < first) → ((k : ℕ) (d : Claim) → to ≤ k → k < length claims → past ≤ (get_or claims k d).block)
    → (c : Claim) → first ≤ c.block → c.block < past → Contains claims c → Contains (take (to - from) (drop from claims)) c
between_points claims first past from to le high below above c low small h =
    let k = h.0 in
    let is : get_or claims k c ≡ c = h.2 in
    let not_below : from ≤ k = elim (cases_order k from) [
      | inl e ↦ omega (arith, e)
      | inr o ↦ elim o [
        | inl lt ↦ absurd (let b = below k c lt in let e = ap (λ (x : Claim). x.block) is in omega (arith, b, e, low))
        | inr gt ↦ omega (arith, gt)
      ]
    ] in
    let not_above : k < to = elim (cases_order k to) [
      | inl e ↦ absurd (let b = above k c (omega (arith, e)) h.1 in let s = ap (λ (x : Claim). x.block) is in omega (arith, b, s, small))
      | inr o ↦ elim o [
        | inl lt ↦ lt
        | inr gt ↦ absurd (let b = above k c (omega (arith, gt)) h.1 in let s = ap (λ (x : Claim). x.block) is in omega (arith, b, s, small))
      ]
    ] in
    let within : k - from < to - from = omega (arith, not_below, not_above) in
    let place : from + (k - from) ≡ k = omega (arith, not_below) in (
      k - from,
      omega (arith, length-take (to - from) (drop from claims), length-drop from claims, within, high, le),
      get_or-take (to - from) (drop from claims) (k - from) c within ∙ get_or-drop from claims (k - from) c ∙ ap (λ n. get_or claims n c) place ∙ is,
    )

pub between_only : (claims : List Claim) (from count : ℕ) (c : Claim) → Contains (take count (drop from claims)) c → Contains claims c
between_only claims from count c h =
    let long = length-take count (drop from claims) in
    let rest = length-drop from claims in
    let within : h.0 < count = omega (arith, h.1, long) in (
      from + h.0,
      omega (arith, h.1, long, rest),
      sym (get_or-drop from claims h.0 c) ∙ sym (get_or-take count (drop from claims) h.0 c within) ∙ h.2,
    )

-- what was read at a place
pub read_here : (owners : List (Option Claim)) (bit : ℕ) (o : Claim) (x : Option Claim) → bit < length owners → get_or owners bit x ≡ x → x ≡ Some o → owner_at owners bit ≡ Some o
read_here owners bit o x low at is = get_or_default owners bit None x low ∙ at ∙ is

-- ---- the order of claims of one block
not_itself : (i k j l : ℕ) → j ≡ i → l ≡ k → Before j l i k → ⊥
not_itself i k j l e f b = omega (arith, b, e, f)

not_both : (i k j l : ℕ) → Before i k j l → Before j l i k → ⊥
not_both i k j l b c = omega (arith, b, c)

before_before : (i k j l m n : ℕ) → Before i k j l → Before j l m n → Before i k m n
before_before i k j l m n b c = elim b [
  | inl x ↦ elim c [ inl y ↦ inl (omega (arith, x, y)) | inr y ↦ inl (omega (arith, x, y.0)) ]
  | inr x ↦ elim c [ inl y ↦ inl (omega (arith, x.0, y)) | inr y ↦ inr (x.0 ∙ y.0, omega (arith, x.1, y.1)) ]
]

-- of two claims of a block, one comes first, or they are one
which_first : (c d : Claim) → c.block ≡ d.block → Before c.inode c.position d.inode d.position ⊎ (Before d.inode d.position c.inode c.position ⊎ (c ≡ d))
which_first c d same = elim (cases_order c.inode d.inode) [
  | inl i ↦ elim (cases_order c.position d.position) [
    | inl k ↦ inr (inr (λ n. record { block = same n; inode = i n; position = k n }))
    | inr k ↦ elim k [ inl lt ↦ inl (inr (i, lt)) | inr gt ↦ inr (inl (inr (sym i, gt))) ]
  ]
  | inr i ↦ elim i [ inl lt ↦ inl (inl lt) | inr gt ↦ inr (inl (inl gt)) ]
]

pub neither_first : (c d : Claim) → c.block ≡ d.block → (Before c.inode c.position d.inode d.position → ⊥) → (Before d.inode d.position c.inode c.position → ⊥) → c ≡ d
neither_first c d same n m = elim (which_first c d same) [ inl x ↦ absurd (n x) | inr y ↦ elim y [ inl x ↦ absurd (m x) | inr e ↦ e ] ]

-- ---- one claim more
module _ (geo : Geometry) (ok : IsGeometry geo) (g : ℕ) (in_volume : g < geo.groups) where
  stands : (bit : ℕ) → header_blocks geo + bit < geo.blocks → StandsIn geo g (data_address geo g bit)
  stands bit low = (address_is_data geo ok g bit low in_volume, address_group geo ok g bit low)

  -- P and Q are the same for claims of the group
  pub holds_same : (P Q : Claim → Type 0) (owners : List (Option Claim)) (found : List Finding)
      → ((c : Claim) → StandsIn geo g c.block → P c ↔ Q c) → Holds geo g P owners found → Holds geo g Q owners found
  holds_same P Q owners found same h = record {
    owned = λ bit c at.
        let o = h.owned bit c at in
        (o.0, o.1, (same c (subst (StandsIn geo g) (sym o.1) (stands bit o.0))).0 o.2);
    least = λ bit c at d q e.
        let o = h.owned bit c at in
        h.least bit c at d ((same d (subst (StandsIn geo g) (sym (e ∙ o.1)) (stands bit o.0))).1 q) e;
    free = λ bit low none d q e. h.free bit low none d ((same d (subst (StandsIn geo g) (sym e) (stands bit low))).1 q) e;
    repeated = λ f. ((λ x. there f ((h.repeated f).0 x)), (λ x. (h.repeated f).1 (back f x)));
  }
    where
      there : (f : Finding) → IsRepeatedIn geo g P f → IsRepeatedIn geo g Q f
      there (Duplicate i k a) x = (x.0, (same (claim a i k) x.0).0 x.1, x.2, x.3, (same (claim a x.2 x.3) x.0).0 x.4, x.5)
      there _ x = absurd x

      back : (f : Finding) → IsRepeatedIn geo g Q f → IsRepeatedIn geo g P f
      back (Duplicate i k a) x = (x.0, (same (claim a i k) x.0).1 x.1, x.2, x.3, (same (claim a x.2 x.3) x.0).1 x.4, x.5)
      back _ x = absurd x

  -- no claim was met
  pub holds_none : (P : Claim → Type 0) (owners : List (Option Claim)) → ((c : Claim) → P c → ⊥) → ((bit : ℕ) → owner_at owners bit ≡ None) → Holds geo g P owners []
  holds_none P owners none empty = record {
    owned = λ bit c at. absurd (none-some c (sym (empty bit) ∙ at));
    least = λ bit c at. absurd (none-some c (sym (empty bit) ∙ at));
    free = λ bit low at d p e. none d p;
    repeated = λ f. ((λ x. absurd (Contains-none f x)), (λ x. absurd (nobody f x)));
  }
    where
      nobody : (f : Finding) → IsRepeatedIn geo g P f → ⊥
      nobody (Duplicate i k a) x = none (claim a i k) x.1
      nobody _ x = x

  module _ (P : Claim → Type 0) (owners : List (Option Claim)) (found : List Finding) (places : header_blocks geo + length owners ≡ geo.blocks)
      (h : Holds geo g P owners found) (bit : ℕ) (low : header_blocks geo + bit < geo.blocks) (c : Claim) (here : c.block ≡ data_address geo g bit) where
    abbrev pub More : Claim → Type 0
    More d = P d ⊎ (d ≡ c)

    index : bit < length owners
    index = omega (arith, low, places)

    -- another place is of another block
    elsewhere : (other : ℕ) → header_blocks geo + other < geo.blocks → data_address geo g other ≡ c.block → other ≡ bit
    elsewhere other there e = (data_places geo ok g other g bit there low (e ∙ here)).1

    stands_here : StandsIn geo g c.block
    stands_here = subst (StandsIn geo g) (sym here) (stands bit low)

    same_claim : (a i k : ℕ) → claim a i k ≡ c → (a ≡ c.block) × (i ≡ c.inode) × (k ≡ c.position)
    same_claim a i k e = (ap (λ (d : Claim). d.block) e, ap (λ (d : Claim). d.inode) e, ap (λ (d : Claim). d.position) e)

    -- where the place gets x, the others stay
    module _ (x : Claim) where
      abbrev pub new : List (Option Claim)
      new = set owners bit (Some x)

      at_place : owner_at new bit ≡ Some x
      at_place = get_or-set_same owners bit (Some x) None index

      at_other : (other : ℕ) → (other ≡ bit → ⊥) → owner_at new other ≡ owner_at owners other
      at_other other apart = get_or-set_other owners bit other (Some x) None apart

      -- the place holds x, of which More holds and before which no claim of its block comes
      pub put_owned : x.block ≡ data_address geo g bit → More x → ((d : Claim) → More d → d.block ≡ x.block → Before d.inode d.position x.inode x.position → ⊥)
          → (fs : List Finding) → ((f : Finding) → Contains fs f ↔ IsRepeatedIn geo g More f) → Holds geo g More new fs
      put_owned block more first fs repeated = record {
        owned = λ other d at. elim (cases_order other bit) [
          | inl e ↦ mine other d e at
          | inr o ↦ theirs other d (λ e. elim o [ inl lt ↦ omega (arith, lt, e) | inr gt ↦ omega (arith, gt, e) ]) at
        ];
        least = λ other d at. elim (cases_order other bit) [
          | inl e ↦ least_mine other d e at
          | inr o ↦ least_theirs other d (λ e. elim o [ inl lt ↦ omega (arith, lt, e) | inr gt ↦ omega (arith, gt, e) ]) at
        ];
        free = λ other there none d m e. elim (cases_order other bit) [
          | inl same ↦ none-some x (sym none ∙ ap (owner_at new) same ∙ at_place)
          | inr o ↦ empty other there none d (λ s. elim o [ inl lt ↦ omega (arith, lt, s) | inr gt ↦ omega (arith, gt, s) ]) m e
        ];
        repeated = repeated;
      }
        where
          is_x : (other : ℕ) (d : Claim) → other ≡ bit → owner_at new other ≡ Some d → x ≡ d
          is_x other d e at = same_Some x d (sym at_place ∙ ap (owner_at new) (sym e) ∙ at)

          mine : (other : ℕ) (d : Claim) → other ≡ bit → owner_at new other ≡ Some d → (header_blocks geo + other < geo.blocks) × (d.block ≡ data_address geo g other) × More d
          mine other d e at = (omega (arith, e, low), ap (λ (y : Claim). y.block) (sym (is_x other d e at)) ∙ block ∙ ap (data_address geo g) (sym e), subst More (is_x other d e at) more)

          theirs : (other : ℕ) (d : Claim) → (other ≡ bit → ⊥) → owner_at new other ≡ Some d → (header_blocks geo + other < geo.blocks) × (d.block ≡ data_address geo g other) × More d
          theirs other d apart at = let o = h.owned other d (sym (at_other other apart) ∙ at) in (o.0, o.1, inl o.2)

          least_mine : (other : ℕ) (d : Claim) → other ≡ bit → owner_at new other ≡ Some d → (e : Claim) → More e → e.block ≡ d.block → Before e.inode e.position d.inode d.position → ⊥
          least_mine other d same at =
              subst (λ (y : Claim). (e : Claim) → More e → e.block ≡ y.block → Before e.inode e.position y.inode y.position → ⊥) (is_x other d same at) first

          least_theirs : (other : ℕ) (d : Claim) → (other ≡ bit → ⊥) → owner_at new other ≡ Some d → (e : Claim) → More e → e.block ≡ d.block → Before e.inode e.position d.inode d.position → ⊥
          least_theirs other d apart at e (inl p) same before = h.least other d (sym (at_other other apart) ∙ at) e p same before
          least_theirs other d apart at e (inr is) same before =
              let was = sym (at_other other apart) ∙ at in
              let o = h.owned other d was in
              apart (elsewhere other o.0 (sym o.1 ∙ sym same ∙ ap (λ (y : Claim). y.block) is))

          empty : (other : ℕ) → header_blocks geo + other < geo.blocks → owner_at new other ≡ None → (d : Claim) → (other ≡ bit → ⊥) → More d → d.block ≡ data_address geo g other → ⊥
          empty other there none d apart (inl p) e = h.free other there (sym (at_other other apart) ∙ none) d p e
          empty other there none d apart (inr is) e = apart (elsewhere other there (sym e ∙ ap (λ (y : Claim). y.block) is))

    -- the place was empty
    pub put_first : owner_at owners bit ≡ None → Holds geo g More (set owners bit (Some c)) found
    put_first none = put_owned c here (inr refl) first found (λ f. ((λ y. there f ((h.repeated f).0 y)), (λ y. (h.repeated f).1 (back f y))))
      where
        nobody : (d : Claim) → P d → d.block ≡ c.block → ⊥
        nobody d p e = h.free bit low none d p (e ∙ here)

        first : (d : Claim) → More d → d.block ≡ c.block → Before d.inode d.position c.inode c.position → ⊥
        first d (inl p) e b = nobody d p e
        first d (inr is) e b = not_itself c.inode c.position d.inode d.position (ap (λ (y : Claim). y.inode) is) (ap (λ (y : Claim). y.position) is) b

        there : (f : Finding) → IsRepeatedIn geo g P f → IsRepeatedIn geo g More f
        there (Duplicate i k a) y = (y.0, inl y.1, y.2, y.3, inl y.4, y.5)
        there _ y = absurd y

        both : (a i k j l : ℕ) → More (claim a i k) → More (claim a j l) → Before j l i k → P (claim a i k) × P (claim a j l)
        both a i k j l (inl p) (inl q) b = (p, q)
        both a i k j l (inl p) (inr is) b = absurd (nobody (claim a i k) p (same_claim a j l is).0)
        both a i k j l (inr is) (inl q) b = absurd (nobody (claim a j l) q (same_claim a i k is).0)
        both a i k j l (inr is) (inr it) b =
            let s = same_claim a i k is in
            let t = same_claim a j l it in
            absurd (not_itself i k j l (t.1 ∙ sym s.1) (t.2 ∙ sym s.2) b)

        back : (f : Finding) → IsRepeatedIn geo g More f → IsRepeatedIn geo g P f
        back (Duplicate i k a) y = let z = both a i k y.2 y.3 y.1 y.4 y.5 in (y.0, z.0, y.2, y.3, z.1, y.5)
        back _ y = absurd y

    -- the place held o
    module _ (o : Claim) (was : owner_at owners bit ≡ Some o) where
      held : (o.block ≡ data_address geo g bit) × P o
      held = let w = h.owned bit o was in (w.1, w.2)

      of_block : o.block ≡ c.block
      of_block = held.0 ∙ sym here

      -- a claim of P that comes after c of its block comes after o, or is o, where one of both comes first
      after_o : (a i k : ℕ) → P (claim a i k) → a ≡ c.block → Before o.inode o.position i k ⊎ (claim a i k ≡ o)
      after_o a i k p e = elim (which_first (claim a i k) o (e ∙ sym of_block)) [
        | inl before ↦ absurd (h.least bit o was (claim a i k) p (e ∙ sym of_block) before)
        | inr z ↦ z
      ]

      older : (f : Finding) → IsRepeatedIn geo g P f → IsRepeatedIn geo g More f
      older (Duplicate i k a) y = (y.0, inl y.1, y.2, y.3, inl y.4, y.5)
      older _ y = absurd y

      with_o : (a i k : ℕ) → StandsIn geo g a → a ≡ c.block → P (claim a i k) → Before o.inode o.position i k → IsRepeatedIn geo g P (Duplicate i k a)
      with_o a i k at e p b = (at, p, o.inode, o.position, subst (λ x. P (claim x o.inode o.position)) (of_block ∙ sym e) held.1, b)

      abbrev pub dup : Claim → Finding
      dup d = Duplicate d.inode d.position d.block

      told_more : (x : Finding) → ((f : Finding) → IsRepeatedIn geo g More f ↔ (IsRepeatedIn geo g P f ⊎ (x ≡ f))) → (f : Finding) → Contains (found ++ x ∷ []) f ↔ IsRepeatedIn geo g More f
      told_more x same f = (
        (λ y. (same f).1 (elim (Contains-push_cases found x f y) [ inl z ↦ inl ((h.repeated f).0 z) | inr e ↦ inr e ])),
        (λ y. elim ((same f).0 y) [
          | inl z ↦ Contains-append_left found (x ∷ []) f ((h.repeated f).1 z)
          | inr e ↦ subst (Contains (found ++ x ∷ [])) e (Contains-push found x)
        ]),
      )

      -- and c comes before it
      pub put_before : Before c.inode c.position o.inode o.position → Holds geo g More (set owners bit (Some c)) (found ++ dup o ∷ [])
      put_before lower = put_owned c here (inr refl) first (found ++ dup o ∷ []) (told_more (dup o) (λ f. (split f, joins f)))
        where
          first : (d : Claim) → More d → d.block ≡ c.block → Before d.inode d.position c.inode c.position → ⊥
          first d (inl p) e b = h.least bit o was d p (e ∙ sym of_block) (before_before d.inode d.position c.inode c.position o.inode o.position b lower)
          first d (inr is) e b = not_itself c.inode c.position d.inode d.position (ap (λ (y : Claim). y.inode) is) (ap (λ (y : Claim). y.position) is) b

          part : (a i k j l : ℕ) → StandsIn geo g a → More (claim a i k) → More (claim a j l) → Before j l i k → IsRepeatedIn geo g P (Duplicate i k a) ⊎ (dup o ≡ Duplicate i k a)
          part a i k j l at (inl p) (inl q) b = inl (at, p, j, l, q, b)
          part a i k j l at (inl p) (inr it) b = elim (after_o a i k p (same_claim a j l it).0) [
            | inl later ↦ inl (with_o a i k at (same_claim a j l it).0 p later)
            | inr is_o ↦ inr (ap dup (sym is_o))
          ]
          part a i k j l at (inr is) m b =
              let s = same_claim a i k is in
              absurd (first (claim a j l) m s.0 (subst (λ n. Before j l n c.position) s.1 (subst (λ n. Before j l i n) s.2 b)))

          split : (f : Finding) → IsRepeatedIn geo g More f → IsRepeatedIn geo g P f ⊎ (dup o ≡ f)
          split (Duplicate i k a) y = part a i k y.2 y.3 y.0 y.1 y.4 y.5
          split _ y = absurd y

          joins : (f : Finding) → IsRepeatedIn geo g P f ⊎ (dup o ≡ f) → IsRepeatedIn geo g More f
          joins f (inl y) = older f y
          joins f (inr e) = subst (IsRepeatedIn geo g More) e (
            subst (StandsIn geo g) (sym held.0) (stands bit low),
            inl held.1,
            c.inode,
            c.position,
            inr (λ n. record { block = of_block n; inode = c.inode; position = c.position }),
            lower,
          )

      -- or it comes before c
      pub put_after : Before o.inode o.position c.inode c.position → Holds geo g More owners (found ++ dup c ∷ [])
      put_after lower = record {
        owned = λ other d at. let w = h.owned other d at in (w.0, w.1, inl w.2);
        least = least;
        free = free;
        repeated = told_more (dup c) (λ f. (split f, joins f));
      }
        where
          least : (other : ℕ) (d : Claim) → owner_at owners other ≡ Some d → (e : Claim) → More e → e.block ≡ d.block → Before e.inode e.position d.inode d.position → ⊥
          least other d at e (inl p) same b = h.least other d at e p same b
          least other d at e (inr is) same b =
              let w = h.owned other d at in
              let place = elsewhere other w.0 (sym w.1 ∙ sym same ∙ ap (λ (y : Claim). y.block) is) in
              let is_o : o ≡ d = same_Some o d (sym was ∙ ap (owner_at owners) (sym place) ∙ at) in
              not_both c.inode c.position o.inode o.position
              (subst (λ (y : Claim). Before c.inode c.position y.inode y.position) (sym is_o)
              (subst (λ (y : Claim). Before y.inode y.position d.inode d.position) is b)) lower

          free : (other : ℕ) → header_blocks geo + other < geo.blocks → owner_at owners other ≡ None → (d : Claim) → More d → d.block ≡ data_address geo g other → ⊥
          free other there none d (inl p) e = h.free other there none d p e
          free other there none d (inr is) e =
              let place = elsewhere other there (sym e ∙ ap (λ (y : Claim). y.block) is) in
              none-some o (sym none ∙ ap (owner_at owners) place ∙ was)

          part : (a i k j l : ℕ) → StandsIn geo g a → More (claim a i k) → More (claim a j l) → Before j l i k → IsRepeatedIn geo g P (Duplicate i k a) ⊎ (dup c ≡ Duplicate i k a)
          part a i k j l at (inl p) (inl q) b = inl (at, p, j, l, q, b)
          part a i k j l at (inl p) (inr it) b =
              let t = same_claim a j l it in
              let later = before_before o.inode o.position c.inode c.position i k lower (subst (λ n. Before n c.position i k) t.1 (subst (λ n. Before j n i k) t.2 b)) in
              inl (with_o a i k at t.0 p later)
          part a i k j l at (inr is) m b = inr (ap dup (sym is))

          split : (f : Finding) → IsRepeatedIn geo g More f → IsRepeatedIn geo g P f ⊎ (dup c ≡ f)
          split (Duplicate i k a) y = part a i k y.2 y.3 y.0 y.1 y.4 y.5
          split _ y = absurd y

          joins : (f : Finding) → IsRepeatedIn geo g P f ⊎ (dup c ≡ f) → IsRepeatedIn geo g More f
          joins f (inl y) = older f y
          joins f (inr e) = subst (IsRepeatedIn geo g More) e (
            stands_here,
            inr refl,
            o.inode,
            o.position,
            inl (subst (λ x. P (claim x o.inode o.position)) of_block held.1),
            lower,
          )

      -- or it is c
      pub put_again : c ≡ o → Holds geo g More owners found
      put_again is = holds_same P More owners found (λ d at. (inl, (λ m. elim m [ inl p ↦ p | inr e ↦ subst P (sym (e ∙ is)) held.1 ]))) h

-- ---- the same of claims in a list
module _ (geo : Geometry) (ok : IsGeometry geo) (g : ℕ) (in_volume : g < geo.groups) (seen : List Claim) (c : Claim) where
  pushed : (owners : List (Option Claim)) (found : List Finding)
      → Holds geo g (λ d. Contains seen d ⊎ (d ≡ c)) owners found → Holds geo g (Contains (seen ++ c ∷ [])) owners found
  pushed owners found h = holds_same geo ok g in_volume (λ d. Contains seen d ⊎ (d ≡ c)) (Contains (seen ++ c ∷ [])) owners found (λ d at. (
    (λ m. elim m [ inl p ↦ Contains-append_left seen (c ∷ []) d p | inr e ↦ subst (Contains (seen ++ c ∷ [])) (sym e) (Contains-push seen c) ]),
    (λ p. elim (Contains-push_cases seen c d p) [ inl q ↦ inl q | inr e ↦ inr (sym e) ]),
  )) h

  -- a claim of no block of the group
  pub pushed_other : (owners : List (Option Claim)) (found : List Finding) → (StandsIn geo g c.block → ⊥)
      → Holds geo g (Contains seen) owners found → Holds geo g (Contains (seen ++ c ∷ [])) owners found
  pushed_other owners found other h = holds_same geo ok g in_volume (Contains seen) (Contains (seen ++ c ∷ [])) owners found (λ d at. (
    (λ p. Contains-append_left seen (c ∷ []) d p),
    (λ p. elim (Contains-push_cases seen c d p) [ inl q ↦ q | inr e ↦ absurd (other (subst (λ (x : Claim). StandsIn geo g x.block) (sym e) at)) ]),
  )) h

  module _ (owners : List (Option Claim)) (found : List Finding) (places : header_blocks geo + length owners ≡ geo.blocks) (h : Holds geo g (Contains seen) owners found)
      (bit : ℕ) (low : header_blocks geo + bit < geo.blocks) (here : c.block ≡ data_address geo g bit) where
    pub pushed_first : owner_at owners bit ≡ None → Holds geo g (Contains (seen ++ c ∷ [])) (set owners bit (Some c)) found
    pushed_first none = pushed (set owners bit (Some c)) found (put_first geo ok g in_volume (Contains seen) owners found places h bit low c here none)

    pub pushed_before : (o : Claim) → owner_at owners bit ≡ Some o → Before c.inode c.position o.inode o.position
        → Holds geo g (Contains (seen ++ c ∷ [])) (set owners bit (Some c)) (found ++ Duplicate o.inode o.position o.block ∷ [])
    pushed_before o was lower =
        pushed (set owners bit (Some c)) (found ++ Duplicate o.inode o.position o.block ∷ [])
        (put_before geo ok g in_volume (Contains seen) owners found places h bit low c here o was lower)

    pub pushed_after : (o : Claim) → owner_at owners bit ≡ Some o → Before o.inode o.position c.inode c.position
        → Holds geo g (Contains (seen ++ c ∷ [])) owners (found ++ Duplicate c.inode c.position c.block ∷ [])
    pushed_after o was lower =
        pushed owners (found ++ Duplicate c.inode c.position c.block ∷ [])
        (put_after geo ok g in_volume (Contains seen) owners found places h bit low c here o was lower)

    pub pushed_again : (o : Claim) → owner_at owners bit ≡ Some o → (Before c.inode c.position o.inode o.position → ⊥) → (Before o.inode o.position c.inode c.position → ⊥)
        → Holds geo g (Contains (seen ++ c ∷ [])) owners found
    pushed_again o was not_before not_after =
        let o_here = (h.owned bit o was).1 in
        pushed owners found
        (put_again geo ok g in_volume (Contains seen) owners found places h bit low c here o was (neither_first c o (here ∙ sym o_here) not_before not_after))

-- those between two points serve for all, where the points are those of the group
pub of_the_group : (geo : Geometry) → IsGeometry geo → (g : ℕ) → (a : ℕ) → StandsIn geo g a → (group_block geo g ≤ a) × (a < group_block geo g + geo.blocks)
of_the_group geo ok g a at =
    let range = data_range geo ok a at.0 in
    let some : 0 < geo.blocks = omega (arith, ok.enough_blocks) in
    let split : geo.blocks * ((a - 1) / geo.blocks) + (a - 1) % geo.blocks ≡ a - 1 = omega (arith, some) in
    let group : (a - 1) / geo.blocks ≡ g = at.1 in
    let here : geo.blocks * ((a - 1) / geo.blocks) ≡ g * geo.blocks = ap (λ n. geo.blocks * n) group ∙ mul_comm geo.blocks g in
    let low : (a - 1) % geo.blocks < geo.blocks = omega (arith, some) in
    (omega (arith, split, here, range.0), omega (arith, split, here, low, range.0))

pub met_all : (geo : Geometry) → IsGeometry geo → (g : ℕ) → g < geo.groups → (seen claims some : List Claim) (owners : List (Option Claim)) (found : List Finding)
    → ((c : Claim) → group_block geo g ≤ c.block → c.block < group_block geo g + geo.blocks → Contains claims c → Contains some c) → ((c : Claim) → Contains some c → Contains claims c)
    → Holds geo g (Contains (seen ++ some)) owners found → Holds geo g (Contains (seen ++ claims)) owners found
met_all geo ok g in_volume seen claims some owners found all only h = holds_same geo ok g in_volume (Contains (seen ++ some)) (Contains (seen ++ claims)) owners found (λ d at. (
  (λ p. elim (Contains-append_cases seen some d p) [ inl q ↦ Contains-append_left seen claims d q | inr q ↦ Contains-append_right seen claims d (only d q) ]),
  (λ p. elim (Contains-append_cases seen claims d p) [
    | inl q ↦ Contains-append_left seen some d q
    | inr q ↦ let r = of_the_group geo ok g d.block at in Contains-append_right seen some d (all d r.0 r.1 q)
  ]),
)) h
