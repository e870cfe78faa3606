-- Lists of entries: what stands in them, their order, and how a walk over them goes on.
use Rattle.std.proofs.Common.{◌≡◌, ◌<◌, ◌≤◌, ◌+◌, ◌-◌, ℕ, zero, suc, List, [], ◌∷◌, ◌++◌, map, take, length, get_or, Contains, ◌⊎◌, inl, inr, ◌↔◌, refl, sym, ap, ◌∙◌, subst, arith, length-append}
use Rattle.std.proofs.lemmas.Bool.{cases_lt, cases_eq}
use Rattle.std.proofs.lemmas.List.{map-append, get_or_append_left, get_or-append_right}
use Rattle.std.proofs.lemmas.List.Elements.{Contains-append_left, Contains-push, Contains-push_cases}
use Rattle.std.proofs.Math.Seq.{take-suc}
use Rattle.findings.specs.declared.finding.Finding.{Finding}
use Rattle.findings.specs.declared.finding.Finding.TheVariants.{ExtraName}
use Rattle.findings.proofs.Sorted.{Contains-cases, Contains-here, Contains-there}
use Rattle.model.specs.Growth.{Adds}
use Rattle.model.specs.Layout.{root}
use Rattle.model.specs.Uses.{Before}
use Rattle.model.proofs.Adding.{adds_same}
use Rattle.phase_names.specs.declared.look.Naming.{Naming}
use Rattle.phase_names.specs.declared.entries.Entry.{Entry}
use Rattle.phase_names.specs.Entries.{StandsAt, IsExtraAt, IsHeldAt, entries_from, inodes_of, parent_in}
use Rattle.phase_names.specs.Told.{Told}

-- ---- elements by their places
module _ {X : Type 0} where
  pub same_get : (xs : List X) (k : ℕ) (d e : X) → k < length xs → get_or xs k d ≡ get_or xs k e
  same_get [] k d e low = absurd (omega (arith, low))
  same_get (x ∷ xs) zero d e low = refl
  same_get (x ∷ xs) (suc k) d e low = same_get xs k d e (omega (arith, low))

  -- one element more of a prefix
  pub take_more : (xs : List X) (k : ℕ) (x : X) → k < length xs → get_or xs k x ≡ x → take (k + 1) xs ≡ take k xs ++ x ∷ []
  take_more xs k x low is = ap (λ n. take n xs) next ∙ take-suc xs k x low ∙ ap (λ y. take k xs ++ y ∷ []) is
    where
      next : k + 1 ≡ suc k
      next = omega arith

  -- what stands in a prefix stands at a place of the list before its end
  pub prefix_place : (xs : List X) (k : ℕ) (x : X) → Contains (take k xs) x → (l : ℕ) × (l < k) × (l < length xs) × (get_or xs l x ≡ x)
  prefix_place [] zero x h = absurd (omega (arith, h.1))
  prefix_place [] (suc k) x h = absurd (omega (arith, h.1))
  prefix_place (y ∷ ys) zero x h = absurd (omega (arith, h.1))
  prefix_place (y ∷ ys) (suc k) x h = elim (Contains-cases y (take k ys) x h) [
    | inl e ↦ (0, omega arith, omega arith, e)
    | inr c ↦ let at = prefix_place ys k x c in (suc at.0, omega (arith, at.1), omega (arith, at.2), at.3)
  ]

  pub place_prefix : (xs : List X) (k l : ℕ) (x : X) → l < k → l < length xs → get_or xs l x ≡ x → Contains (take k xs) x
  place_prefix [] k l x before low is = absurd (omega (arith, low))
  place_prefix (y ∷ ys) zero l x before low is = absurd (omega (arith, before))
  place_prefix (y ∷ ys) (suc k) zero x before low is = (0, omega arith, is)
  place_prefix (y ∷ ys) (suc k) (suc l) x before low is =
      let at = place_prefix ys k l x (omega (arith, before)) (omega (arith, low)) is in
      (suc at.0, omega (arith, at.1), at.2)

module _ {X Y : Type 0} (f : X → Y) where
  pub Contains_mapped : (xs : List X) (x : X) → Contains xs x → Contains (map f xs) (f x)
  Contains_mapped [] x h = absurd (omega (arith, h.1))
  Contains_mapped (y ∷ ys) x h = elim (Contains-cases y ys x h) [
    | inl e ↦ subst (λ z. Contains (f y ∷ map f ys) (f z)) e (Contains-here (f y) (map f ys))
    | inr c ↦ Contains-there (f y) (map f ys) (f x) (Contains_mapped ys x c)
  ]

  pub mapped_Contains : (xs : List X) (y : Y) → Contains (map f xs) y → (x : X) × Contains xs x × (f x ≡ y)
  mapped_Contains [] y h = absurd (omega (arith, h.1))
  mapped_Contains (x ∷ xs) y h = elim (Contains-cases (f x) (map f xs) y h) [
    | inl e ↦ (x, Contains-here x xs, e)
    | inr c ↦ let at = mapped_Contains xs y c in (at.0, Contains-there x xs at.0 at.1, at.2)
  ]

pub stands_once : (entries : List Entry) (k : ℕ) (e f : Entry) → StandsAt entries k e → StandsAt entries k f → e ≡ f
stands_once entries k e f h g = sym h.1 ∙ same_get entries k e f h.0 ∙ g.1

-- ---- the order of entries
abbrev pub EntryBefore : Entry → Entry → Type 0
EntryBefore e f = Before e.directory e.slot f.directory f.slot

abbrev pub AreInOrder : List Entry → Type 0
AreInOrder entries = (k l : ℕ) (e f : Entry) → k < l → StandsAt entries k e → StandsAt entries l f → EntryBefore e f

stands_cases : (xs ys : List Entry) (k : ℕ) (e : Entry) → StandsAt (xs ++ ys) k e → StandsAt xs k e ⊎ ((length xs ≤ k) × StandsAt ys (k - length xs) e)
stands_cases xs ys k e h = elim (cases_lt k (length xs)) [
  | inl low ↦ inl (low, sym (get_or_append_left xs ys e k low) ∙ h.1)
  | inr from ↦ inr (from, (omega (arith, h.0, from, length-append xs ys), sym (get_or-append_right xs ys (length xs) k e refl from) ∙ h.1))
]

pub in_order_both : (xs ys : List Entry) → AreInOrder xs → AreInOrder ys → ((e f : Entry) → Contains xs e → Contains ys f → EntryBefore e f) → AreInOrder (xs ++ ys)
in_order_both xs ys h g across k l e f lt at there = elim (stands_cases xs ys l f there) [
  | inl t ↦ elim (stands_cases xs ys k e at) [
    | inl a ↦ h k l e f lt a t
    | inr a ↦ absurd (let from : length xs ≤ k = a.0 in let low : l < length xs = t.0 in omega arith)
  ]
  | inr t ↦ elim (stands_cases xs ys k e at) [
    | inl a ↦ across e f (k, a.0, a.1) (l - length xs, t.1.0, t.1.1)
    | inr a ↦ (let p : length xs ≤ k = a.0 in g (k - length xs) (l - length xs) e f (omega (arith, lt, p)) a.1 t.1)
  ]
]

pub in_order_few : (xs : List Entry) → length xs ≤ 1 → AreInOrder xs
in_order_few xs few k l e f lt at there = absurd (let low : l < length xs = there.0 in omega (arith, few, lt, low))

-- no entry is before itself
pub not_before_both : (i j k l : ℕ) → Before i j k l → Before k l i j → ⊥
not_before_both i j k l (inl p) (inl q) = omega (arith, p, q)
not_before_both i j k l (inl p) (inr q) = omega (arith, p, q.0)
not_before_both i j k l (inr p) (inl q) = omega (arith, p.0, q)
not_before_both i j k l (inr p) (inr q) = omega (arith, p.1, q.1)

-- entries in order stand in the order of their places
pub places_in_order : (entries : List Entry) → AreInOrder entries → (k l : ℕ) (e f : Entry) → StandsAt entries k e → StandsAt entries l f → EntryBefore e f → k < l
places_in_order entries order k l e f at there before = elim (cases_lt k l) [
  | inl lt ↦ lt
  | inr from ↦ elim (cases_eq l k) [
    | inl same ↦ absurd (let e_is : e ≡ f = stands_once entries k e f at (subst (λ m. StandsAt entries m f) same there) in
        let self : EntryBefore e e = subst (λ g. EntryBefore e g) (sym e_is) before in
        not_before_both e.directory e.slot e.directory e.slot self self)
    | inr apart ↦ absurd (not_before_both e.directory e.slot f.directory f.slot before (order l k f e (omega (arith, from, apart)) there at))
  ]
]

-- ---- how a walk goes on
pub entries_more : (d k : ℕ) (namings : List Naming) (x : Naming) → k < length namings → get_or namings k x ≡ x
    → entries_from d (take (k + 1) namings) ≡ entries_from d (take k namings) ++ record { directory = d; slot = x.slot; inode = x.inode } ∷ []
entries_more d k namings x low is =
    ap (entries_from d) (take_more namings k x low is) ∙ map-append (λ (naming : Naming). record { directory = d; slot = naming.slot; inode = naming.inode }) (take k namings) (x ∷ [])

pub inodes_more : (entries : List Entry) (k : ℕ) (e : Entry) → StandsAt entries k e → (i : ℕ) → Contains (inodes_of (take (k + 1) entries)) i ↔ (Contains (inodes_of (take k entries)) i ⊎ (e.inode ≡ i))
inodes_more entries k e at i =
    subst (λ xs. Contains xs i ↔ (Contains (inodes_of (take k entries)) i ⊎ (e.inode ≡ i))) (sym all) (
      Contains-push_cases (inodes_of (take k entries)) e.inode i,
      (λ h. elim h [
        | inl c ↦ Contains-append_left (inodes_of (take k entries)) (e.inode ∷ []) i c
        | inr is ↦ subst (λ j. Contains (inodes_of (take k entries) ++ e.inode ∷ []) j) is (Contains-push (inodes_of (take k entries)) e.inode)
      ]),
    )
  where
    all : inodes_of (take (k + 1) entries) ≡ inodes_of (take k entries) ++ e.inode ∷ []
    all = ap inodes_of (take_more entries k e at.0 at.1) ∙ map-append (λ (entry : Entry). entry.inode) (take k entries) (e ∷ [])

-- the entry at a place is an extra one
abbrev pub IsExtra : List Entry → ℕ → Entry → Type 0
IsExtra entries k e = (e.inode ≡ root) ⊎ Contains (inodes_of (take k entries)) e.inode

pub extra_here : (entries : List Entry) (k : ℕ) (e : Entry) → StandsAt entries k e → (old new : List Finding)
    → Adds (λ f. IsExtra entries k e × (ExtraName e.directory e.slot ≡ f)) old new → Adds (IsExtraAt entries k) old new
extra_here entries k e at old new adds =
    adds_same (λ f. IsExtra entries k e × (ExtraName e.directory e.slot ≡ f)) (IsExtraAt entries k) old new
    (λ f. (
      (λ h. (e, at, h.0, h.1)),
      (λ h. let same = stands_once entries k h.0 e h.1 at in
          (subst (λ g. IsExtra entries k g) same h.2, subst (λ (g : Entry). ExtraName g.directory g.slot ≡ f) same h.3)),
    )) adds

pub held_here : (table : List (ℕ × Told)) (entries : List Entry) (k : ℕ) (e : Entry) → StandsAt entries k e → (old new : List ℕ)
    → Adds (λ d. (parent_in table e.inode ≡ e.directory) × (e.inode ≡ d)) old new → Adds (IsHeldAt table entries k) old new
held_here table entries k e at old new adds =
    adds_same (λ d. (parent_in table e.inode ≡ e.directory) × (e.inode ≡ d)) (IsHeldAt table entries k) old new
    (λ d. (
      (λ h. (e, at, h.0, h.1)),
      (λ h. let same = stands_once entries k h.0 e h.1 at in
          (subst (λ (g : Entry). parent_in table g.inode ≡ g.directory) same h.2, subst (λ (g : Entry). g.inode ≡ d) same h.3)),
    )) adds
