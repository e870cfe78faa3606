-- What is told of a group's inodes, one after another, and of an inode's uses.
use Rattle.std.proofs.Common.{◌≡◌, ◌<◌, ◌≤◌, ◌+◌, ◌/◌, ℕ, true, false, ◌&&◌, eqb, ltb, Option, Some, None, ◌⊎◌, inl, inr, refl, sym, ap, ◌∙◌, subst, arith, IsTrue, IsFalse, is_none, is_some}
use Rattle.std.proofs.lemmas.Bool.{or_cases, or_left, or_right, and_parts, and_from, eqb-true, eq-eqb, ltb-true, lt-ltb, leb-true, cases_eq, false≢true, true≢false}
use Rattle.std.proofs.lemmas.Option.{none-some}
use Rattle.model.specs.Layout.{Geometry, is_number}
use Rattle.model.specs.View.{View, Inode}
use Rattle.model.specs.Shape.{most_blocks, tables}
use Rattle.model.specs.Uses.{IsUse, blocks_of, is_sound, is_sound_at, use_at, record_use}
use Rattle.findings.specs.declared.finding.Finding.TheVariants.{BadInode}
use Rattle.findings.specs.Findings.{IsFinding}
use Rattle.model.specs.Units.{no_unit, only, stands_in}
use Rattle.inode.specs.Parts.{without_attributes}
use Rattle.frozen.proofs.PointerLemmas.{uses_without_attributes}
use Rattle.model.proofs.Ranges.{use_places}
use Rattle.model.proofs.UseLemmas.{use_of_record}
use Rattle.model.proofs.Uses.{sound_few, use_number, use_parts}
use Rattle.phase_blocks.specs.Parts.{Gathered, AddsFinding, Inodes, Uses, Tells, IsPart, with_inode, with_use, with_uses, with_uses_below}
use Rattle.phase_blocks.proofs.Claims.{group_of_number, AddsUse, with_use_adds}
use Rattle.phase_blocks.proofs.Gathering.{tells_inode, tells_same}

-- ---- one use
pub use_is : (geo : Geometry) (view : View) (i k : ℕ) (inode : Inode) (r o : Option ℕ) → IsTrue (is_number geo i) → inode ≡ without_attributes (view.inode i)
    → r ≡ record_use geo view inode k → r ≡ o → use_at geo view i k ≡ o
use_is geo view i k inode r o number is_inode told e =
    use_of_record geo view i k number ∙ sym (uses_without_attributes geo view (view.inode i) k) ∙ ap (λ n. record_use geo view n k) (sym is_inode) ∙ sym told ∙ e

pub unused : (geo : Geometry) (view : View) (n : Inodes) (s : Uses) (i k : ℕ) (g : Gathered) → use_at geo view i k ≡ None
    → Tells geo view n s g → Tells geo view n (with_use s i k) g
unused geo view n s i k g none h =
    tells_same geo view n n s (with_use s i k) g h (λ j u. u) (λ j u b. u) adds.keeps
    (λ j l v u x. elim (adds.only j l u) [
      | inl y ↦ y
      | inr e ↦ absurd (none-some v (sym none ∙ subst (λ m. use_at geo view m k ≡ Some v) e.0 (subst (λ m. use_at geo view j m ≡ Some v) e.1 x)))
    ])
  where
    adds : AddsUse s (with_use s i k) i k
    adds = with_use_adds s i k

none_is_some : (o : Option ℕ) → is_none o ≡ true → is_some o ≡ false
none_is_some None e = refl
none_is_some (Some x) e = absurd (false≢true e)

-- ---- the uses of an inode
sound_record : (geo : Geometry) (view : View) (i : ℕ) → IsTrue (is_sound_at geo view i) → IsTrue (is_sound geo (view.inode i))
sound_record geo view i sound = (and_parts (is_number geo i) (is_sound geo (view.inode i)) sound).1

module _ (geo : Geometry) (view : View) (n : Inodes) (s : Uses) (i : ℕ) (g : Gathered) where
  below : (j l k : ℕ) → IsTrue (with_uses_below s i k j l) → IsTrue (s j l) ⊎ ((j ≡ i) × (l < k))
  below j l k u = elim (or_cases (s j l) (eqb j i && ltb l k) u) [
    | inl x ↦ inl x
    | inr x ↦ inr (let p = and_parts (eqb j i) (ltb l k) x in (eqb-true j i p.0, ltb-true l k p.1))
  ]

  is_below : (j l k : ℕ) → j ≡ i → l < k → IsTrue (with_uses_below s i k j l)
  is_below j l k e lt = or_right (s j l) (eqb j i && ltb l k) (and_from (eqb j i) (ltb l k) (eq-eqb j i e) (lt-ltb l k lt))

  pub none_below : Tells geo view n s g → Tells geo view n (with_uses_below s i 0) g
  none_below h =
      tells_same geo view n n s (with_uses_below s i 0) g h (λ j u. u) (λ j u b. u) (λ j l u. or_left (s j l) (eqb j i && ltb l 0) u)
      (λ j l v u x. elim (below j l 0 u) [ inl y ↦ y | inr e ↦ absurd (omega (arith, e.1)) ])

  pub one_below : (k m : ℕ) → m ≡ k + 1 → Tells geo view n (with_use (with_uses_below s i k) i k) g → Tells geo view n (with_uses_below s i m) g
  one_below k m next h =
      tells_same geo view n n (with_use (with_uses_below s i k) i k) (with_uses_below s i m) g h (λ j u. u) (λ j u b. u)
      (λ j l u. elim (adds.only j l u) [
        | inl x ↦ elim (below j l k x) [
          | inl y ↦ or_left (s j l) (eqb j i && ltb l m) y
          | inr e ↦ is_below j l m e.0 (omega (arith, e.1))
        ]
        | inr e ↦ is_below j l m e.0 (omega (arith, e.1))
      ])
      (λ j l v u x. elim (below j l m u) [
        | inl y ↦ adds.keeps j l (or_left (s j l) (eqb j i && ltb l k) y)
        | inr e ↦ elim (cases_eq l k) [
          | inl f ↦ subst (λ z. IsTrue (with_use (with_uses_below s i k) i k z l)) (sym e.0) (subst (λ z. IsTrue (with_use (with_uses_below s i k) i k i z)) (sym f) adds.has)
          | inr f ↦ adds.keeps j l (is_below j l k e.0 (omega (arith, e.1)))
        ]
      ])
    where
      adds : AddsUse (with_uses_below s i k) (with_use (with_uses_below s i k) i k) i k
      adds = with_use_adds (with_uses_below s i k) i k

  -- what is not used may be among those that were looked at
  no_use_between : (k m : ℕ) → k ≤ m → ((l v : ℕ) → IsUse geo view i l v → l < m → l < k) → Tells geo view n (with_uses_below s i k) g → Tells geo view n (with_uses_below s i m) g
  no_use_between k m more none h =
      tells_same geo view n n (with_uses_below s i k) (with_uses_below s i m) g h (λ j u. u) (λ j u b. u)
      (λ j l u. elim (below j l k u) [
        | inl y ↦ or_left (s j l) (eqb j i && ltb l m) y
        | inr e ↦ is_below j l m e.0 (omega (arith, e.1, more))
      ])
      (λ j l v u x. elim (below j l m u) [
        | inl y ↦ or_left (s j l) (eqb j i && ltb l k) y
        | inr e ↦ is_below j l k e.0 (none l v (subst (λ z. IsUse geo view z l v) e.0 x) e.1)
      ])

  -- a sound inode uses no position between its blocks and its tables
  pub to_tables : (blocks most : ℕ) → blocks ≡ blocks_of (view.inode i).size → most ≡ most_blocks geo → IsTrue (is_sound geo (view.inode i))
      → Tells geo view n (with_uses_below s i blocks) g → Tells geo view n (with_uses_below s i most) g
  to_tables blocks most count is sound =
      no_use_between blocks most (omega (arith, count, is, sound_few geo (view.inode i) sound)) (λ l v u low. elim (use_places geo view i l v u) [
        | inl below ↦ omega (arith, count, below)
        | inr table ↦ absurd (let from = leb-true (most_blocks geo) l table.0 in omega (arith, is, low, from))
      ])

  -- and none past them
  pub all_below : (end : ℕ) → end ≡ most_blocks geo + tables (blocks_of (view.inode i).size) → Tells geo view n (with_uses_below s i end) g → Tells geo view n (with_uses s i) g
  all_below end is h =
      tells_same geo view n n (with_uses_below s i end) (with_uses s i) g h (λ j u. u) (λ j u b. u)
      (λ j l u. elim (below j l end u) [
        | inl y ↦ or_left (s j l) (eqb j i) y
        | inr e ↦ or_right (s j l) (eqb j i) (eq-eqb j i e.0)
      ])
      (λ j l v u x. elim (or_cases (s j l) (eqb j i) u) [
        | inl y ↦ or_left (s j l) (eqb j i && ltb l end) y
        | inr y ↦ let e = eqb-true j i y in is_below j l end e (low l v (subst (λ m. IsUse geo view m l v) e x))
      ])
    where
      low : (l v : ℕ) → IsUse geo view i l v → l < end
      low l v u = elim (use_places geo view i l v u) [
        | inl below ↦ omega (arith, is, below, sound_few geo (view.inode i) (sound_record geo view i (use_parts geo view i l v u).sound))
        | inr table ↦ omega (arith, is, table.1)
      ]

  -- an inode that is not sound uses nothing
  pub no_uses : IsFalse (is_sound geo (view.inode i)) → Tells geo view n s g → Tells geo view n (with_uses s i) g
  no_uses unsound h =
      tells_same geo view n n s (with_uses s i) g h (λ j u. u) (λ j u b. u) (λ j l u. or_left (s j l) (eqb j i) u)
      (λ j l v u x. elim (or_cases (s j l) (eqb j i) u) [
        | inl y ↦ y
        | inr y ↦ absurd (true≢false (sym (sound_record geo view i (use_parts geo view i l v (subst (λ m. IsUse geo view m l v) (eqb-true j i y) x)).sound) ∙ unsound))
      ])

  -- a record that is free or sound is no finding
  pub good_record : (IsFinding geo view (BadInode i) → ⊥) → Tells geo view n s g → Tells geo view (with_inode n i) s g
  good_record good h =
      tells_same geo view n (with_inode n i) s s g h (λ j u. or_left (n j) (eqb j i) u)
      (λ j u b. elim (or_cases (n j) (eqb j i) u) [ inl y ↦ y | inr y ↦ absurd (good (subst (λ m. IsFinding geo view (BadInode m)) (eqb-true j i y) b)) ])
      (λ j l u. u) (λ j l v u x. u)

pub bad_record : (geo : Geometry) (view : View) (n : Inodes) (s : Uses) (i : ℕ) (g new : Gathered) → IsFinding geo view (BadInode i) → AddsFinding g new (BadInode i)
    → Tells geo view n s g → Tells geo view (with_inode n i) s new
bad_record geo view n s i g new is_bad told h =
    tells_inode geo view n (with_inode n i) s g new i h is_bad (λ j u. or_left (n j) (eqb j i) u) (or_right (n i) (eqb i i) (eq-eqb i i refl))
    (λ j u. elim (or_cases (n j) (eqb j i) u) [ inl y ↦ inl y | inr y ↦ inr (eqb-true j i y) ]) told

-- ---- the inodes of a group
-- those of the group below a number
abbrev pub group_below : Geometry → ℕ → ℕ → Inodes
group_below geo group k i = stands_in geo (only group) i && ltb i k

module _ (geo : Geometry) (view : View) (group : ℕ) (g : Gathered) where
  abbrev pub TellsBelow : ℕ → Type 0
  TellsBelow k = Tells geo view (group_below geo group k) (λ i l. group_below geo group k i) g

  in_group : (i k : ℕ) → i / geo.inodes ≡ group → i < k → IsTrue (group_below geo group k i)
  in_group i k e lt = and_from (eqb (i / geo.inodes) group) (ltb i k) (eq-eqb (i / geo.inodes) group e) (lt-ltb i k lt)

  group_parts : (i k : ℕ) → IsTrue (group_below geo group k i) → (i / geo.inodes ≡ group) × (i < k)
  group_parts i k u = let p = and_parts (eqb (i / geo.inodes) group) (ltb i k) u in (eqb-true (i / geo.inodes) group p.0, ltb-true i k p.1)

  number_used : (i k v : ℕ) → IsUse geo view i k v → IsTrue (is_number geo i)
  number_used i k v u = (use_number geo view i k v u).0

  -- no number of the group lies below the first
  pub none_yet : (k : ℕ) → ((i : ℕ) → IsTrue (is_number geo i) → i / geo.inodes ≡ group → k ≤ i) → Tells geo view (stands_in geo no_unit) (λ i l. stands_in geo no_unit i) g → TellsBelow k
  none_yet k least h =
      tells_same geo view (stands_in geo no_unit) (group_below geo group k) (λ i l. stands_in geo no_unit i) (λ i l. group_below geo group k i) g h
      (λ i u. absurd (false≢true u)) (λ i u b. absurd (apart i u b.0)) (λ i l u. absurd (false≢true u)) (λ i l v u x. absurd (apart i u (number_used i l v x)))
    where
      apart : (i : ℕ) → IsTrue (group_below geo group k i) → IsTrue (is_number geo i) → ⊥
      apart i u t = let p = group_parts i k u in omega (arith, least i t p.0, p.1)

  -- one number more
  pub one_more : (k m : ℕ) → m ≡ k + 1 → k / geo.inodes ≡ group
      → Tells geo view (with_inode (group_below geo group k) k) (with_uses (λ i l. group_below geo group k i) k) g → TellsBelow m
  one_more k m next here h =
      tells_same geo view (with_inode (group_below geo group k) k) (group_below geo group m) (with_uses (λ i l. group_below geo group k i) k) (λ i l. group_below geo group m i) g h
      there (λ i u b. back i u) (λ i l u. there i u) (λ i l v u x. back i u)
    where
      there : (i : ℕ) → IsTrue (with_inode (group_below geo group k) k i) → IsTrue (group_below geo group m i)
      there i u = elim (or_cases (group_below geo group k i) (eqb i k) u) [
        | inl x ↦ (let p = group_parts i k x in in_group i m p.0 (omega (arith, p.1)))
        | inr x ↦ (let e = eqb-true i k x in in_group i m (ap (λ n. n / geo.inodes) e ∙ here) (omega (arith, e)))
      ]

      back : (i : ℕ) → IsTrue (group_below geo group m i) → IsTrue (with_inode (group_below geo group k) k i)
      back i u = let p = group_parts i m u in elim (cases_eq i k) [
        | inl e ↦ or_right (group_below geo group k i) (eqb i k) (eq-eqb i k e)
        | inr e ↦ or_left (group_below geo group k i) (eqb i k) (in_group i k p.0 (omega (arith, p.1, e)))
      ]

  -- no number of the group lies above the last
  pub whole_group : (k : ℕ) → ((i : ℕ) → IsTrue (is_number geo i) → i / geo.inodes ≡ group → i < k) → TellsBelow k → Tells geo view (stands_in geo (only group)) (λ i l. stands_in geo (only group) i) g
  whole_group k greatest h =
      tells_same geo view (group_below geo group k) (stands_in geo (only group)) (λ i l. group_below geo group k i) (λ i l. stands_in geo (only group) i) g h
      there (λ i u b. back i u b.0) (λ i l u. there i u) (λ i l v u x. back i u (number_used i l v x))
    where
      there : (i : ℕ) → IsTrue (group_below geo group k i) → IsTrue (stands_in geo (only group) i)
      there i u = let p = group_parts i k u in eq-eqb (i / geo.inodes) group p.0

      back : (i : ℕ) → IsTrue (stands_in geo (only group) i) → IsTrue (is_number geo i) → IsTrue (group_below geo group k i)
      back i u t = let e = eqb-true (i / geo.inodes) group u in in_group i k e (greatest i t e)

  -- a unit that is no group has no number
  pub no_numbers : geo.groups ≤ group → IsPart geo view no_unit g → IsPart geo view (only group) g
  no_numbers past h = record {
    claims_in_order = h.claims_in_order;
    told =
        tells_same geo view (stands_in geo no_unit) (stands_in geo (only group)) (λ i l. stands_in geo no_unit i) (λ i l. stands_in geo (only group) i) g h.told
        (λ i u. absurd (false≢true u)) (λ i u b. absurd (apart i u b.0)) (λ i l u. absurd (false≢true u)) (λ i l v u x. absurd (apart i u (number_used i l v x)));
  }
    where
      apart : (i : ℕ) → IsTrue (stands_in geo (only group) i) → IsTrue (is_number geo i) → ⊥
      apart i u t = let low = group_of_number geo i t in let e = eqb-true (i / geo.inodes) group u in omega arith
