-- What is kept somewhere is what the machine calls pointing; its updates change these cells, and the record comes after the tables on the way.
use Rattle.std.proofs.Common.{◌≡◌, ◌<◌, ℕ, zero, suc, List, [], ◌∷◌, map, ◌⊎◌, inl, inr, refl, sym, ap, ◌∙◌, subst, arith, Contains, length, slice_index_or, Some, IsTrue, IsFalse}
use Rattle.std.proofs.lemmas.Bool.{both_ways}
use Rattle.std.proofs.lemmas.List.Elements.{Contains-append_left, Contains-append_right}
use Rattle.std.proofs.lemmas.Option.{none-some, same_Some}
use Rattle.model.specs.Layout.{Geometry}
use Rattle.model.specs.View.{View, Inode, Fits}
use Rattle.model.specs.Cells.{SetBytes, updated_all}
use Rattle.model.specs.Shape.{position_count, table_of, place_in_table, reaches, above, top, field_at, IsAbove, Next, Further}
use Rattle.model.specs.Uses.{blocks_of, has_position, IsClaim}
use Rattle.model.proofs.Fields.{as_before, still_fits, other_field}
use Rattle.model.proofs.Shape.{by_way, table_cases, table_inside, reach_parts, reach_table, top_none, top_step, top_stands, top_inside, above_is, is_above}
use Rattle.model.proofs.Uses.{use_number, table_claimed}
use Rattle.machine.specs.Cells.{block_of, with_pointer, LeavesMark, Points, InRecord, InTable, InNewTable}
use Rattle.machine.specs.Room.{IsFreeBlock}
use Rattle.machine.proofs.Pointing.{IsNew}
use Rattle.ordering.specs.Cuts.{Block, Pending, users_view}
use Rattle.plans_data.specs.Append.{Holder, KeptInRecord, KeptInTable, KeptInNew, new_blocks, linked, cells_of, pointed, known, IsNoneOf, IsKeptIn}
use Rattle.plans_data.proofs.Blocks.{block_is}

-- ---- lists
pub first_of : {A : Type 0} (x : A) (xs : List A) → Contains (x ∷ xs) x
first_of x xs = (0, omega arith, refl)

pub later_of : {A : Type 0} (x : A) (xs : List A) (y : A) → Contains xs y → Contains (x ∷ xs) y
later_of x xs y c = (suc c.0, omega (arith, c.1), c.2)

pub nothing_in : {A : Type 0} (x : A) → Contains [] x → ⊥
nothing_in x c = omega (arith, c.1)

pub one_of_both : {A : Type 0} (x : A) (xs : List A) (y : A) → Contains (x ∷ xs) y → (x ≡ y) ⊎ Contains xs y
one_of_both {A = A} x xs y c = go c.0 c.1 c.2
  where
    go : (i : ℕ) → i < length (x ∷ xs) → slice_index_or (x ∷ xs) i y ≡ y → (x ≡ y) ⊎ Contains xs y
    go zero low e = inl e
    go (suc i) low e = inr (i, omega (arith, low), e)

pub mapped : {A B : Type 0} (f : A → B) (xs : List A) (y : A) → Contains xs y → Contains (map f xs) (f y)
mapped f [] y c = absurd (nothing_in y c)
mapped f (x ∷ xs) y c = elim (one_of_both x xs y c) [
  | inl e ↦ subst (λ z. Contains (map f (x ∷ xs)) (f z)) e (first_of (f x) (map f xs))
  | inr d ↦ later_of (f x) (map f xs) (f y) (mapped f xs y d)
]

pub unmapped : {A B : Type 0} (f : A → B) (xs : List A) (z : B) → Contains (map f xs) z → (x : A) × Contains xs x × (f x ≡ z)
unmapped f [] z c = absurd (nothing_in z c)
unmapped f (x ∷ xs) z c = elim (one_of_both (f x) (map f xs) z c) [
  | inl e ↦ (x, first_of x xs, e)
  | inr d ↦ let r = unmapped f xs z d in (r.0, later_of x xs r.0 r.1, r.2)
]

pub is_none : (b c : ℕ) (xs : List ℕ) → IsNoneOf b xs → Contains xs c → c ≡ b → ⊥
is_none b c [] none h e = nothing_in c h
is_none b c (x ∷ xs) none h e = elim (one_of_both x xs c h) [ inl f ↦ none.0 (f ∙ e) | inr g ↦ is_none b c xs none.1 g e ]

-- ---- what comes before the record
pub knows_block : (b : ℕ) (h : Holder) → Contains (known b h) (Block b)
knows_block b KeptInRecord = first_of (Block b) []
knows_block b (KeptInTable m x table over) = Contains-append_right (map Block over) (Block x ∷ Block b ∷ []) (Block b) (later_of (Block x) (Block b ∷ []) (Block b) (first_of (Block b) []))
knows_block b (KeptInNew m x table up) = Contains-append_right (known x up) (Block b ∷ []) (Block b) (first_of (Block b) [])

pub knows_new : (b : ℕ) (h : Holder) (t : ℕ) → Contains (new_blocks h) t → Contains (known b h) (Block t)
knows_new b KeptInRecord t c = absurd (nothing_in t c)
knows_new b (KeptInTable m x table over) t c = absurd (nothing_in t c)
knows_new b (KeptInNew m x table up) t c = Contains-append_left (known x up) (Block b ∷ []) (Block t) (elim (one_of_both x (new_blocks up) t c) [
  | inl e ↦ subst (λ y. Contains (known x up) (Block y)) e (knows_block x up)
  | inr d ↦ knows_new x up t d
])

-- ---- the cells
pub leaves_mark : (geo : Geometry) (a k b : ℕ) (h : Holder) → IsNoneOf a (new_blocks h) → LeavesMark a (cells_of geo k b h)
leaves_mark geo a k b KeptInRecord none = tt
leaves_mark geo a k b (KeptInTable m x table over) none = tt
leaves_mark geo a k b (KeptInNew m x table up) none = (none.0, leaves_mark geo a m x up none.1)

pub linked_view : (geo : Geometry) (disk : View) (n k b : ℕ) (h : Holder) (q : List Pending) → users_view disk (linked geo n k b h q) ≡ updated_all (users_view disk q) (cells_of geo k b h)
linked_view geo disk n k b KeptInRecord q = refl
linked_view geo disk n k b (KeptInTable m x table over) q = refl
linked_view geo disk n k b (KeptInNew m x table up) q = linked_view geo disk n m x up _

-- no record changes so
pub linked_inodes : (geo : Geometry) (disk : View) (n k b : ℕ) (h : Holder) (q : List Pending) → (users_view disk (linked geo n k b h q)).inode ≡ (users_view disk q).inode
linked_inodes geo disk n k b KeptInRecord q = refl
linked_inodes geo disk n k b (KeptInTable m x table over) q = refl
linked_inodes geo disk n k b (KeptInNew m x table up) q = linked_inodes geo disk n m x up _

-- with another pointer a record is of the same kind
pub pointed_mode : (geo : Geometry) (inode : Inode) (k b : ℕ) (h : Holder) → (pointed geo inode k b h).mode ≡ inode.mode
pointed_mode geo inode k b KeptInRecord = as_before geo inode k b (λ x. x.mode) (λ d. refl) refl refl
pointed_mode geo inode k b (KeptInTable m x table over) = refl
pointed_mode geo inode k b (KeptInNew m x table up) = pointed_mode geo inode m x up

-- and it fits the version
pub pointed_fits : (geo : Geometry) (v : View) (n : ℕ) (inode : Inode) (k b : ℕ) (h : Holder) → k < position_count geo → IsKeptIn geo v n k b h → Fits geo.version inode → Fits geo.version (pointed geo inode k b h)
pointed_fits geo v n inode k b KeptInRecord inside none fits = still_fits geo inode k b inside none fits
pointed_fits geo v n inode k b (KeptInTable m x table over) inside kept fits = fits
pointed_fits geo v n inode k b (KeptInNew m x table up) inside kept fits = pointed_fits geo v n inode m x up (table_inside geo k m inside kept.0) kept.3 fits

-- who has a position has the one on its way that stands in the record
has_top : (geo : Geometry) (count k : ℕ) → IsTrue (reaches geo count k) → IsTrue (reaches geo count (top geo k))
has_top geo count = by_way geo (λ k. IsTrue (reaches geo count k) → IsTrue (reaches geo count (top geo k))) (λ k tables has. elim (table_cases geo k) [
  | inl none ↦ subst (λ t. IsTrue (reaches geo count t)) (sym (top_none geo k none)) has
  | inr one ↦ subst (λ t. IsTrue (reaches geo count t)) (sym (top_step geo k one.0 one.1)) (tables one.0 one.1 (reach_table geo count k one.0 one.1 has))
])

module _ (geo : Geometry) (v : View) (n : ℕ) where
  abbrev old : Inode
  old = v.inode n

  pub kept_points : (k b : ℕ) (h : Holder) → IsKeptIn geo v n k b h → Points geo v (v.inode n) k b (cells_of geo k b h) (pointed geo (v.inode n) k b h)
  kept_points k b KeptInRecord none = InRecord none refl refl
  kept_points k b (KeptInTable m x table over) h =
      InTable m x h.0 (use_number geo v n m x (h.1).0).1 (h.1).1 (ap (λ t. SetBytes x (with_pointer t (place_in_table geo k) b) ∷ []) h.2) refl
  kept_points k b (KeptInNew m x table up) h =
      InNewTable m x table (cells_of geo m x up) h.0 h.1 (h.2).free (h.2).other (h.2).whole (h.2).first (kept_points m x up h.3) refl

  -- the new tables are free, and are these
  pub kept_free : (k b : ℕ) (h : Holder) → IsKeptIn geo v n k b h → (c : ℕ) → Contains (new_blocks h) c → IsFreeBlock geo v c
  kept_free k b KeptInRecord kept c i = absurd (nothing_in c i)
  kept_free k b (KeptInTable m x table over) kept c i = absurd (nothing_in c i)
  kept_free k b (KeptInNew m x table up) kept c i = elim (one_of_both x (new_blocks up) c i) [
    | inl e ↦ subst (IsFreeBlock geo v) e (kept.2).free
    | inr d ↦ kept_free m x up kept.3 c d
  ]

  pub new_listed : (k b : ℕ) (h : Holder) (kept : IsKeptIn geo v n k b h) (q t : ℕ) → IsNew geo v (v.inode n) (kept_points k b h kept) q t → Contains (new_blocks h) t
  unfolding kept_points
  new_listed k b KeptInRecord kept q t f = absurd f
  new_listed k b (KeptInTable m x table over) kept q t f = absurd f
  new_listed k b (KeptInNew m x table up) kept q t (inl f) = subst (λ y. Contains (x ∷ new_blocks up) y) (sym f.1) (first_of x (new_blocks up))
  new_listed k b (KeptInNew m x table up) kept q t (inr f) = later_of x (new_blocks up) t (new_listed m x up kept.3 q t f)

  -- the tables over a table that is there are claimed
  pub over_claimed : (k b m x : ℕ) (table over : List ℕ) → IsKeptIn geo v n k b (KeptInTable m x table over) → (c : ℕ) → Contains over c → (t : ℕ) × IsAbove geo m t × IsClaim geo v n t c
  over_claimed k b m x table over kept c i =
      let r = unmapped (block_of geo v n) (above geo m) c (subst (λ ys. Contains ys c) kept.3 i) in
      let up = is_above geo m r.0 r.1 in
      let claim = claimed_above up in
      (r.0, up, subst (λ y. IsClaim geo v n r.0 y) (sym (block_is geo v n r.0 claim.0 claim.1) ∙ r.2) claim.1)
    where
      claimed_above : {t : ℕ} → IsAbove geo m t → (y : ℕ) × IsClaim geo v n t y
      claimed_above {t = t} (Next h) = table_claimed geo v n m x t h (kept.1).0
      claimed_above {t = t} (Further l h g) = let c = table_claimed geo v n m x l h (kept.1).0 in table_claimed geo v n l c.0 t g (c.1).0

  -- where position k is in use, no table is new
  pub none_new : (k b : ℕ) (h : Holder) → IsKeptIn geo v n k b h → IsTrue (has_position geo (v.inode n) k) → new_blocks h ≡ []
  none_new k b KeptInRecord kept has = refl
  none_new k b (KeptInTable m x table over) kept has = refl
  none_new k b (KeptInNew m x table up) kept has = absurd (both_ways (has_position geo (v.inode n) m) kept.1 (reach_table geo (blocks_of (v.inode n).size) k m kept.0 has))

  -- each table on the way is new or was there, and is known
  pub knows_way : (k b : ℕ) (h : Holder) (kept : IsKeptIn geo v n k b h) (q : ℕ) → IsAbove geo k q
      → (t : ℕ) × Contains (known b h) (Block t) × (IsNew geo v (v.inode n) (kept_points k b h kept) q t ⊎ IsClaim geo v n q t)
  unfolding kept_points
  knows_way k b KeptInRecord kept q (Next h) = absurd (none-some q (sym kept ∙ h))
  knows_way k b KeptInRecord kept q (Further t h g) = absurd (none-some t (sym kept ∙ h))
  knows_way k b (KeptInTable m x table over) kept q (Next h) = (
    x,
    Contains-append_right (map Block over) (Block x ∷ Block b ∷ []) (Block x) (first_of (Block x) (Block b ∷ [])),
    inr (subst (λ p. IsClaim geo v n p x) (same_Some m q (sym kept.0 ∙ h)) kept.1),
  )
  knows_way k b (KeptInTable m x table over) kept q (Further t h g) =
      let up : table_of geo m ≡ Some q = ap (table_of geo) (same_Some m t (sym kept.0 ∙ h)) ∙ g in
      let claim = table_claimed geo v n m x q up (kept.1).0 in (
        block_of geo v n q,
        Contains-append_left (map Block over) (Block x ∷ Block b ∷ []) (Block (block_of geo v n q))
            (mapped Block over (block_of geo v n q) (subst (λ ys. Contains ys (block_of geo v n q)) (sym kept.3) (mapped (block_of geo v n) (above geo m) q (above_is geo m q (Next up))))),
        inr (subst (λ y. IsClaim geo v n q y) (sym (block_is geo v n q claim.0 claim.1)) claim.1),
      )
  knows_way k b (KeptInNew m x table up) kept q (Next h) = (
    x,
    Contains-append_left (known x up) (Block b ∷ []) (Block x) (knows_block x up),
    inl (inl (same_Some q m (sym h ∙ kept.0), refl)),
  )
  knows_way k b (KeptInNew m x table up) kept q (Further t h g) =
      let way = knows_way m x up kept.3 q (Next (ap (table_of geo) (same_Some m t (sym kept.0 ∙ h)) ∙ g)) in (
        way.0,
        Contains-append_left (known x up) (Block b ∷ []) (Block way.0) way.1,
        elim way.2 [ inl f ↦ inl (inr f) | inr c ↦ inr c ],
      )

  -- where position k is not in use, the pointers in the record that are in use are as they were
  pub pointed_fields : (k b : ℕ) (h : Holder) → IsKeptIn geo v n k b h → k < position_count geo → IsFalse (has_position geo (v.inode n) k)
      → (j : ℕ) → IsTrue (has_position geo (v.inode n) j) → field_at geo (pointed geo (v.inode n) k b h) (top geo j) ≡ field_at geo (v.inode n) (top geo j)
  pointed_fields k b KeptInRecord kept low late j has =
      other_field geo (v.inode n) k b (top geo j) low (top_inside geo j (reach_parts geo (blocks_of (v.inode n).size) j has).0) kept (top_stands geo j)
      (λ e. both_ways (has_position geo (v.inode n) k) late (subst (λ t. IsTrue (has_position geo (v.inode n) t)) e (has_top geo (blocks_of (v.inode n).size) j has)))
  pointed_fields k b (KeptInTable m x table over) kept low late j has = refl
  pointed_fields k b (KeptInNew m x table up) kept low late j has = pointed_fields m x up kept.3 (table_inside geo k m low kept.0) kept.1 j has
