-- What the steps of loading say.
use Rattle.std.proofs.Common.{◌≡◌, ◌<◌, ◌≤◌, ◌+◌, ◌-◌, ◌*◌, ◌%◌, ℕ, not, ltb, List, [], ◌∷◌, ◌++◌, length, Option, Some, None, IsSome, is_some, unwrap_or, IsFalse, IsTrue, refl, sym, ap, ◌∙◌, subst, arith, inl, inr, length-append, mul-le-mul_right}
use Rattle.std.proofs.lemmas.Bool.{and_parts, cases_eq, cases_lt, cases_order, both_ways, false_from_ne_true, ltb-true, not-true}
use Rattle.std.proofs.lemmas.List.{get_or_append_left, get_or-append-add, get_or_at, get_or_past}
use Rattle.std.proofs.lemmas.Option.{none-some, same_Some}
use Rattle.layout.specs.declared.refusal.Refusal.{Refusal}
use Rattle.layout.specs.declared.refusal.Refusal.TheVariants.{NoMemory, Device, BadGroup}
use Rattle.model.specs.Layout.{Geometry, IsGeometry, block_count, data_address, group_block, header_blocks, is_data_address, place_in_group}
use Rattle.model.specs.Image.{IsBlock, IsSuper, IsGroupBlock, block_at}
use Rattle.model.proofs.Places.{place_of_maps, maps_are_no_data}
use Rattle.model.proofs.Addresses.{address_is_data, maps_below}
use Rattle.frozen.specs.Kept.{kept_at, KeepsFrame}
use Rattle.frozen.specs.Loading.{AreBlocksOf, AreReadFrom, BlockRefuses, FrameRefuses, HeaderRefuses, IsHeader, IsHeaderOf, IsKeptBlock, KeptBelow, MapsRefuse}

-- no group's block of maps stands in another place of its group
pub no_maps : (geo : Geometry) → IsGeometry geo → (a g : ℕ) → ((a - 1) % geo.blocks ≡ 0 → ⊥) → group_block geo g ≡ a → ⊥
no_maps geo ok a g other e = other (ap (place_in_group geo) (sym e) ∙ place_of_maps geo ok g)

-- what is refused of a block that was read
pub block_refused : (honest : Type 0) (geo : Geometry) (image : List (List ℕ)) (a : ℕ) (block : List ℕ) (refusal : Refusal)
    → (honest → block ≡ block_at image a) → MapsRefuse geo a block refusal → BlockRefuses honest geo image a refusal
block_refused honest geo image a block (BadGroup g) told h =
    (h.0, h.1, λ true' good. h.2 (subst (IsGroupBlock g) (sym (told true')) good))
block_refused honest geo image a block _ told h = absurd h

-- ---- the blocks that were kept so far

module _ (old : List (Option (List ℕ))) (x : Option (List ℕ)) where
  -- one more place
  kept_before : (a : ℕ) → a < length old → kept_at (old ++ x ∷ []) a ≡ kept_at old a
  kept_before a b = get_or_append_left old (x ∷ []) None a b

  kept_here : kept_at (old ++ x ∷ []) (length old) ≡ x
  kept_here = get_or_at old x [] None (length old) refl

  kept_past : (a : ℕ) → length old < a → kept_at (old ++ x ∷ []) a ≡ None
  kept_past a b = get_or_past (old ++ x ∷ []) a None (omega (arith, length-append old (x ∷ [])))

pub kept_first : (geo : Geometry) (first : List ℕ) (x : Option (List ℕ)) → x ≡ Some first → KeptBelow geo first (x ∷ []) 1
kept_first geo first x e = record { count = refl; start = e; each = λ a low high. absurd (omega (arith, low, high)) }

pub kept_more : (geo : Geometry) (first : List ℕ) (old new : List (Option (List ℕ))) (n : ℕ) (x : Option (List ℕ)) → 0 < n
    → KeptBelow geo first old n → new ≡ old ++ x ∷ [] → IsKeptBlock geo n x → KeptBelow geo first new (n + 1)
kept_more geo first old new n x some kept added is = record {
  count = ap length added ∙ omega (arith, length-append old (x ∷ []), kept.count);
  start = ap (λ blocks. kept_at blocks 0) added ∙ kept_before old x 0 (omega (arith, kept.count)) ∙ kept.start;
  each = λ a low high. subst (λ blocks. IsKeptBlock geo a (kept_at blocks a)) (sym added) (elim (cases_eq a n) [
    | inl e ↦
        let at : a ≡ length old = omega (arith, e, kept.count) in
        subst (λ k. IsKeptBlock geo k (kept_at (old ++ x ∷ []) k)) (sym at)
        (subst (IsKeptBlock geo (length old)) (sym (kept_here old x)) (subst (λ k. IsKeptBlock geo k x) (sym kept.count) is))
    | inr differs ↦ subst (IsKeptBlock geo a) (sym (kept_before old x a (omega (arith, high, differs, kept.count)))) (kept.each a low (omega (arith, high, differs)))
  ]);
}

pub read_more : (image : List (List ℕ)) (old new : List (Option (List ℕ))) (n : ℕ) (x : Option (List ℕ)) → length old ≡ n
    → AreReadFrom old image → new ≡ old ++ x ∷ [] → ((b : List ℕ) → x ≡ Some b → b ≡ block_at image n) → AreReadFrom new image
read_more image old new n x count told added is a b low e = elim (cases_order a n) [
  | inl same ↦
      let at : a ≡ length old = omega (arith, same, count) in
      is b (sym (kept_here old x) ∙ ap (kept_at (old ++ x ∷ [])) (sym at) ∙ sym (ap (λ blocks. kept_at blocks a) added) ∙ e) ∙ ap (block_at image) (sym same)
  | inr c ↦ elim c [
    | inl before ↦ told a b low (sym (kept_before old x a (omega (arith, before, count))) ∙ sym (ap (λ blocks. kept_at blocks a) added) ∙ e)
    | inr past ↦ absurd (let none : None ≡ Some b = sym (kept_past old x a (omega (arith, past, count))) ∙ sym (ap (λ blocks. kept_at blocks a) added) ∙ e in cc)
  ]
]

-- ---- the blocks of a group's header

module _ (geo : Geometry) (image : List (List ℕ)) (g : ℕ) where
  pub no_header : (blocks : List (Option (List ℕ))) → blocks ≡ [] → (k : ℕ) → k < length blocks → IsKeptBlock geo (group_block geo g + k) (kept_at blocks k)
  no_header blocks none k b = absurd (omega (arith, b, ap length none))

  pub no_header_told : (blocks : List (Option (List ℕ))) → blocks ≡ [] → IsHeaderOf geo image g blocks
  no_header_told blocks none k b e = absurd (none-some b (sym (ap (λ bs. kept_at bs k) none) ∙ e))

  -- one more
  pub header_block_more : (old new : List (Option (List ℕ))) (x : Option (List ℕ)) → new ≡ old ++ x ∷ [] → ((k : ℕ) → k < length old → IsKeptBlock geo (group_block geo g + k) (kept_at old k))
      → IsKeptBlock geo (group_block geo g + length old) x → (k : ℕ) → k < length new → IsKeptBlock geo (group_block geo g + k) (kept_at new k)
  header_block_more old new x added each is k b = subst (λ blocks. IsKeptBlock geo (group_block geo g + k) (kept_at blocks k)) (sym added) (elim (cases_eq k (length old)) [
    | inl same ↦ subst (λ n. IsKeptBlock geo (group_block geo g + n) (kept_at (old ++ x ∷ []) n)) (sym same) (subst (IsKeptBlock geo (group_block geo g + length old)) (sym (kept_here old x)) is)
    | inr differs ↦
        let low : k < length old = omega (arith, b, differs, ap length added, length-append old (x ∷ [])) in
        subst (IsKeptBlock geo (group_block geo g + k)) (sym (kept_before old x k low)) (each k low)
  ])

  pub header_told_more : (old new : List (Option (List ℕ))) (x : Option (List ℕ)) → new ≡ old ++ x ∷ [] → IsHeaderOf geo image g old
      → ((b : List ℕ) → x ≡ Some b → b ≡ block_at image (group_block geo g + length old)) → IsHeaderOf geo image g new
  header_told_more old new x added told is k b e =
      let at : kept_at (old ++ x ∷ []) k ≡ Some b = sym (ap (λ blocks. kept_at blocks k) added) ∙ e in
      elim (cases_order k (length old)) [
        | inl same ↦ is b (sym (kept_here old x) ∙ ap (kept_at (old ++ x ∷ [])) (sym same) ∙ at) ∙ ap (λ n. block_at image (group_block geo g + n)) (sym same)
        | inr c ↦ elim c [
          | inl before ↦ told k b (sym (kept_before old x k before) ∙ at)
          | inr past ↦ absurd (none-some b (sym (kept_past old x k past) ∙ at))
        ]
      ]

-- all of them, added at once
module _ (old more : List (Option (List ℕ))) where
  kept_low : (a : ℕ) → a < length old → kept_at (old ++ more) a ≡ kept_at old a
  kept_low a b = get_or_append_left old more None a b

  kept_high : (k : ℕ) → kept_at (old ++ more) (length old + k) ≡ kept_at more k
  kept_high k = get_or-append-add old more k None

pub header_more : (geo : Geometry) (first : List ℕ) (old new more : List (Option (List ℕ))) (g : ℕ) → KeptBelow geo first old (group_block geo g) → new ≡ old ++ more
    → IsHeader geo g more → KeptBelow geo first new (data_address geo g 0)
header_more geo first old new more g kept added header = record {
  count = ap length added ∙ omega (arith, length-append old more, kept.count, header.count);
  start = ap (λ blocks. kept_at blocks 0) added ∙ kept_low old more 0 (omega (arith, kept.count)) ∙ kept.start;
  each = λ a low high. subst (λ blocks. IsKeptBlock geo a (kept_at blocks a)) (sym added) (elim (cases_lt a (group_block geo g)) [
    | inl before ↦ subst (IsKeptBlock geo a) (sym (kept_low old more a (omega (arith, before, kept.count)))) (kept.each a low before)
    | inr past ↦
        let k = a - group_block geo g in
        let at : group_block geo g + k ≡ a = omega (arith, past) in
        let place : length old + k ≡ a = omega (arith, past, kept.count) in
        let here = header.each k (omega (arith, past, high)) in
        subst (λ n. IsKeptBlock geo n (kept_at (old ++ more) n)) place
        (subst (λ n. IsKeptBlock geo n (kept_at (old ++ more) (length old + k))) (at ∙ sym place)
        (subst (IsKeptBlock geo (group_block geo g + k)) (sym (kept_high old more k)) here))
  ]);
}

pub header_read : (geo : Geometry) (image : List (List ℕ)) (old new more : List (Option (List ℕ))) (g : ℕ) → length old ≡ group_block geo g → new ≡ old ++ more
    → IsHeaderOf geo image g more → AreReadFrom old image → AreReadFrom new image
header_read geo image old new more g count added of told a b low e = elim (cases_lt a (length old)) [
  | inl before ↦ told a b low (sym (kept_low old more a before) ∙ sym (ap (λ blocks. kept_at blocks a) added) ∙ e)
  | inr past ↦
      let k = a - length old in
      let place : length old + k ≡ a = omega (arith, past) in
      let at : group_block geo g + k ≡ a = omega (arith, past, count) in
      of k b (sym (kept_high old more k) ∙ ap (kept_at (old ++ more)) place ∙ sym (ap (λ blocks. kept_at blocks a) added) ∙ e) ∙ ap (block_at image) at
]

-- the place of a data block is left empty
pub data_more : (geo : Geometry) → IsGeometry geo → (g place : ℕ) (first : List ℕ) (old new : List (Option (List ℕ))) → g < geo.groups → header_blocks geo ≤ place → place < geo.blocks
    → KeptBelow geo first old (group_block geo g + place) → new ≡ old ++ None ∷ [] → KeptBelow geo first new (group_block geo g + (place + 1))
data_more geo ok g place first old new in_volume past inside kept added =
    let at : data_address geo g (place - header_blocks geo) ≡ group_block geo g + place = omega (arith, past) in
    let is : IsTrue (is_data_address geo (group_block geo g + place)) =
    subst (λ (a : ℕ). IsTrue (is_data_address geo a)) at (address_is_data geo ok g (place - header_blocks geo) (omega (arith, past, inside)) in_volume) in
    let next : group_block geo g + place + 1 ≡ group_block geo g + (place + 1) = omega arith in
    subst (KeptBelow geo first new) next (kept_more geo first old new (group_block geo g + place) None (omega arith) kept added is)

pub read_none : (image : List (List ℕ)) (old new : List (Option (List ℕ))) → AreReadFrom old image → new ≡ old ++ None ∷ [] → AreReadFrom new image
read_none image old new told added = read_more image old new (length old) None refl told added (λ b e. absurd (none-some b e))

-- ---- all blocks that each volume has

block_there : (geo : Geometry) (a : ℕ) (o : Option (List ℕ)) → IsKeptBlock geo a o → IsFalse (is_data_address geo a) → (b : List ℕ) × (o ≡ Some b)
block_there geo a None h no_data = absurd (both_ways (is_data_address geo a) no_data h)
block_there geo a (Some b) h no_data = (b, refl)

maps_no_data : (geo : Geometry) → IsGeometry geo → (g : ℕ) → IsFalse (is_data_address geo (group_block geo g))
maps_no_data geo ok g = false_from_ne_true (is_data_address geo (group_block geo g)) (λ t. maps_are_no_data geo ok g (group_block geo g) t refl)

-- of the blocks of a group its block of maps alone is refused
own_group : (geo : Geometry) → IsGeometry geo → (g j : ℕ) → group_block geo g ≤ group_block geo j → group_block geo j < group_block geo (g + 1) → j ≡ g
own_group geo ok g j from to = elim (cases_order j g) [
  | inl same ↦ same
  | inr c ↦ elim c [
    | inl before ↦
        let rises : (j + 1) * geo.blocks ≤ g * geo.blocks = mul-le-mul_right geo.blocks (omega (arith, before)) in
        absurd (omega (arith, rises, from, ok.enough_blocks))
    | inr past ↦
        let rises : (g + 1) * geo.blocks ≤ j * geo.blocks = mul-le-mul_right geo.blocks (omega (arith, past)) in
        absurd (omega (arith, rises, to))
  ]
]

pub header_refused : (honest : Type 0) (geo : Geometry) → IsGeometry geo → (image : List (List ℕ)) (g a : ℕ) (refusal : Refusal) → group_block geo g ≤ a → a < group_block geo (g + 1)
    → BlockRefuses honest geo image a refusal → HeaderRefuses honest geo image g refusal
header_refused honest geo ok image g a NoMemory from to h = tt
header_refused honest geo ok image g a Device from to h = tt
header_refused honest geo ok image g a (BadGroup j) from to h =
    let own = own_group geo ok g j (subst (λ n. group_block geo g ≤ n) (sym h.1) from) (subst (λ n. n < group_block geo (g + 1)) (sym h.1) to) in
    (own, λ t good. h.2 t (subst (λ n. IsGroupBlock j (block_at image n)) h.1 (subst (λ n. IsGroupBlock n (block_at image (group_block geo n))) (sym own) good)))
header_refused honest geo ok image g a _ from to h = absurd h

module _ (geo : Geometry) (ok : IsGeometry geo) (first : List ℕ) (blocks : List (Option (List ℕ))) (n : ℕ) (kept : KeptBelow geo first blocks n) where
  -- a group's block of maps is there, and is its own
  maps_there : (g : ℕ) → group_block geo g < n → (b : List ℕ) × (kept_at blocks (group_block geo g) ≡ Some b) × IsGroupBlock g b
  maps_there g low =
      let is = kept.each (group_block geo g) (omega arith) low in
      let at = block_there geo (group_block geo g) (kept_at blocks (group_block geo g)) is (maps_no_data geo ok g) in
      (at.0, at.1, (subst (IsKeptBlock geo (group_block geo g)) at.1 is).2 g refl)

  whole : IsBlock first → (a : ℕ) (b : List ℕ) → kept_at blocks a ≡ Some b → IsBlock b
  whole is_first a b e = elim (cases_eq a 0) [
    | inl zero ↦ subst IsBlock (same_Some first b (sym kept.start ∙ ap (kept_at blocks) (sym zero) ∙ e)) is_first
    | inr behind ↦ elim (cases_lt a n) [
      | inl low ↦ (subst (IsKeptBlock geo a) e (kept.each a (omega (arith, behind)) low)).1
      | inr past ↦ absurd (none-some b (sym (get_or_past blocks a None (omega (arith, past, kept.count))) ∙ e))
    ]
  ]

  some_from : (a : ℕ) (b : List ℕ) → kept_at blocks a ≡ Some b → IsSome (kept_at blocks a)
  some_from a b e = ap is_some e

  frame_there : (a : ℕ) → a < n → IsFalse (is_data_address geo a) → IsSome (kept_at blocks a)
  frame_there a low no_data = elim (cases_eq a 0) [
    | inl zero ↦ some_from a first (ap (kept_at blocks) zero ∙ kept.start)
    | inr behind ↦
        let at = block_there geo a (kept_at blocks a) (kept.each a (omega (arith, behind)) low) no_data in some_from a at.0 at.1
  ]

  pub all_kept : n ≡ block_count geo → IsSuper geo first → IsBlock first → KeepsFrame (record { geometry = geo; blocks = blocks })
  all_kept all is_super is_first = record {
    geometry = ok;
    count = kept.count ∙ all;
    whole = whole is_first;
    frame = λ a t.
        let parts = and_parts (ltb a (block_count geo)) (not (is_data_address geo a)) t in
        frame_there a (omega (arith, ltb-true a (block_count geo) parts.0, all)) (not-true (is_data_address geo a) parts.1);
    first = subst (λ o. IsSuper geo (unwrap_or o [])) (sym kept.start) is_super;
    group_blocks = λ g b.
        let at = maps_there g (omega (arith, maps_below geo ok g b, all)) in
        subst (λ o. IsGroupBlock g (unwrap_or o [])) (sym at.1) at.2;
  }

  -- the blocks of maps before this one are right on the image too
  before_right : (image : List (List ℕ)) → AreReadFrom blocks image → (h : ℕ) → group_block geo h < n → IsGroupBlock h (block_at image (group_block geo h))
  before_right image told h low =
      let at = maps_there h low in
      subst (IsGroupBlock h) (told (group_block geo h) at.0 (omega arith) at.1) at.2

  -- where the next group's block of maps is wrong, it is the least such group
  pub frame_refused : (honest : Type 0) (image : List (List ℕ)) (g : ℕ) (refusal : Refusal) → g < geo.groups → n ≡ group_block geo g → (honest → AreReadFrom blocks image)
      → HeaderRefuses honest geo image g refusal → FrameRefuses honest geo image refusal
  frame_refused honest image g NoMemory in_volume at told h = tt
  frame_refused honest image g Device in_volume at told h = tt
  frame_refused honest image g (BadGroup j) in_volume at told h = subst (λ k. FrameRefuses honest geo image (BadGroup k)) (sym h.0) (
    in_volume,
    λ t. record {
      wrong = h.1 t;
      before = λ k b.
          let rises : (k + 1) * geo.blocks ≤ g * geo.blocks = mul-le-mul_right geo.blocks (omega arith) in
          before_right image (told t) k (omega (arith, rises, at, ok.enough_blocks));
    },
  )
  frame_refused honest image g _ in_volume at told h = absurd h

pub all_read : (image : List (List ℕ)) (blocks : List (Option (List ℕ))) (first : List ℕ) → kept_at blocks 0 ≡ Some first → first ≡ block_at image 0
    → AreReadFrom blocks image → AreBlocksOf blocks image
all_read image blocks first start is told a b e = elim (cases_eq a 0) [
  | inl zero ↦ same_Some b first (sym e ∙ ap (kept_at blocks) zero ∙ start) ∙ is ∙ ap (block_at image) (sym zero)
  | inr behind ↦ told a b (omega (arith, behind)) e
]
