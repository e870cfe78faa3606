-- Tables by number that have a value for each number of a set: none, one more, two tables as one, and that there is one table only.
use Rattle.std.proofs.Common.{◌≡◌, ◌<◌, ◌≤◌, ◌+◌, ◌/◌, ◌*◌, ℕ, zero, suc, Bool, true, false, ◌&&◌, ◌||◌, eqb, ltb, List, [], ◌∷◌, Option, Some, None, IsSome, is_some, ◌⊎◌, inl, inr, refl, sym, ap, ap₂, ◌∙◌, subst, IsTrue, IsFalse, map, Less, arith, rules}
use Rattle.std.specs.BTreeMap.{is_at}
use Rattle.std.specs.Cmp.{eq_by_cmp_equiv}
use Rattle.std.specs.List.Sorted.{IsStrictlySortedBy}
use Rattle.std.specs.Map.{keys_of, update_all}
use Rattle.std.specs.Option.{option_map, option_or}
use Rattle.std.specs.Ordering.{nat_cmp, eq_by_cmp}
use Rattle.std.proofs.lemmas.Bool.{and_parts, and_from, cases_Bool, cases_eq, cases_lt, eq-eqb, eqb-true, or_cases, or_left, or_right, false≢true}
use Rattle.std.proofs.lemmas.Cmp.{nat_cmp_total}
use Rattle.std.proofs.lemmas.Nat.{div_below}
use Rattle.std.proofs.lemmas.Option.{same_Some}
use Rattle.std.proofs.lemmas.Map.Keys.{IsDistinct-from_sorted, sorted_tail}
use Rattle.std.proofs.lemmas.Map.{lookup-none}
use Rattle.std.proofs.lemmas.Map.Entries.{lookup_head, lookup_tail, none_below_head, none_past_head}
use Rattle.std.proofs.lemmas.Map.Made.{lookup-map_values, update_all_distinct}
use Rattle.model.specs.Layout.{Geometry, is_number}
use Rattle.model.specs.View.{View}
use Rattle.model.specs.Uses.{is_directory_at}
use Rattle.model.specs.Units.{Units, no_unit, only, either}
use Rattle.model.specs.Tables.{is_directory_in, value_in, IsTable, Puts}
use Rattle.model.proofs.SlotLemmas.{directory_number, number_below}
use Rattle.model.proofs.GroupNumbers.{before_none, before_more, before_same, before_all}

-- In order of their numbers, each number of the set, and nothing else, has a value, and Is says of each what it is.
pub record IsTableOf {V : Type 0} (Is : ℕ → V → Type 0) (has : ℕ → Bool) (table : List (ℕ × V)) : Type 0 where
  pub in_order : IsStrictlySortedBy nat_cmp (keys_of table)
  pub each : (d : ℕ) (value : V) → value_in table d ≡ Some value → IsTrue (has d) × Is d value
  pub all : (d : ℕ) → IsTrue (has d) → IsSome (value_in table d)

-- In order of its numbers, the whole has at each what the left or the right has, and something where one of them does.
pub record Joins {V : Type 0} (left right whole : List (ℕ × V)) : Type 0 where
  pub in_order : IsStrictlySortedBy nat_cmp (keys_of whole)
  pub from : (d : ℕ) → (value_in whole d ≡ value_in left d) ⊎ (value_in whole d ≡ value_in right d)
  pub keeps_left : (d : ℕ) → IsSome (value_in left d) → IsSome (value_in whole d)
  pub keeps_right : (d : ℕ) → IsSome (value_in right d) → IsSome (value_in whole d)

-- ---- tables in order with the same value at each number
finds_itself : (d : ℕ) → is_at (nat_cmp d) d ≡ true
finds_itself d = search rules

pub finds_no_other : (d q : ℕ) → (q ≡ d → ⊥) → is_at (nat_cmp d) q ≡ false
finds_no_other d q apart = search rules

finds_above : (d q : ℕ) → d < q → nat_cmp d q ≡ Less
finds_above d q below = search rules

-- the group of a number that is looked at is a group of the volume
pub group_of_number : (geo : Geometry) (i : ℕ) → IsTrue (is_number geo i) → i / geo.inodes < geo.groups
group_of_number geo i t = div_below i geo.inodes geo.groups (some_inode geo.inodes (number_below geo i t)) (number_below geo i t)
  where
    some_inode : (inodes : ℕ) → i < geo.groups * inodes → 0 < inodes
    some_inode zero low = absurd (omega (arith, low))
    some_inode (suc inodes) low = omega arith

module _ {V : Type 0} where
  first_value : (e : ℕ × V) (es : List (ℕ × V)) → value_in (e ∷ es) e.0 ≡ Some e.1
  first_value e es = lookup_head (is_at (nat_cmp e.0)) e es (finds_itself e.0)

  later_value : (e : ℕ × V) (es : List (ℕ × V)) (d : ℕ) → (e.0 ≡ d → ⊥) → value_in (e ∷ es) d ≡ value_in es d
  later_value e es d apart = lookup_tail (is_at (nat_cmp d)) e es (finds_no_other d e.0 apart)

  none_before : (e : ℕ × V) (es : List (ℕ × V)) (d : ℕ) → IsStrictlySortedBy nat_cmp (keys_of (e ∷ es)) → d < e.0 → value_in (e ∷ es) d ≡ None
  none_before e es d sorted below = lookup-none (is_at (nat_cmp d)) (e ∷ es) (none_below_head nat_cmp_total d e es sorted (finds_above d e.0 below))

  none_twice : (e : ℕ × V) (es : List (ℕ × V)) → IsStrictlySortedBy nat_cmp (keys_of (e ∷ es)) → value_in es e.0 ≡ None
  none_twice e es sorted =
      lookup-none (is_at (nat_cmp e.0)) es (none_past_head (eq_by_cmp_equiv nat_cmp_total) e.0 e es (IsDistinct-from_sorted nat_cmp (keys_of (e ∷ es)) sorted) (finds_itself e.0))

  same_first : (e f : ℕ × V) (es fs : List (ℕ × V)) → IsStrictlySortedBy nat_cmp (keys_of (e ∷ es)) → IsStrictlySortedBy nat_cmp (keys_of (f ∷ fs))
      → ((d : ℕ) → value_in (e ∷ es) d ≡ value_in (f ∷ fs) d) → e.0 ≡ f.0
  same_first e f es fs s t same = elim (cases_lt e.0 f.0) [
    | inl below ↦ absurd (let bad : Some e.1 ≡ None = sym (first_value e es) ∙ same e.0 ∙ none_before f fs e.0 t below in cc)
    | inr from ↦ elim (cases_lt f.0 e.0) [
      | inl below ↦ absurd (let bad : Some f.1 ≡ None = sym (first_value f fs) ∙ sym (same f.0) ∙ none_before e es f.0 s below in cc)
      | inr upto ↦ omega arith
    ]
  ]

  pub same_entries : (es fs : List (ℕ × V)) → IsStrictlySortedBy nat_cmp (keys_of es) → IsStrictlySortedBy nat_cmp (keys_of fs)
      → ((d : ℕ) → value_in es d ≡ value_in fs d) → es ≡ fs
  same_entries [] [] s t same = refl
  same_entries [] (f ∷ fs) s t same = absurd (let bad : None ≡ Some f.1 = same f.0 ∙ first_value f fs in cc)
  same_entries (e ∷ es) [] s t same = absurd (let bad : Some e.1 ≡ None = sym (first_value e es) ∙ same e.0 in cc)
  same_entries (e ∷ es) (f ∷ fs) s t same =
      let number = same_first e f es fs s t same in
      let values : Some e.1 ≡ Some f.1 = sym (first_value e es) ∙ same e.0 ∙ ap (value_in (f ∷ fs)) number ∙ first_value f fs in
      let value = same_Some e.1 f.1 values in
      ap₂ (λ x xs. x ∷ xs) (ap₂ (λ x y. (x, y)) number value)
      (same_entries es fs (sorted_tail nat_cmp e.0 (keys_of es) s) (sorted_tail nat_cmp f.0 (keys_of fs) t)
      (λ d. elim (cases_eq e.0 d) [
        | inl here ↦ ap (value_in es) (sym here) ∙ none_twice e es s ∙ sym (ap (value_in fs) (sym here ∙ number) ∙ none_twice f fs t)
        | inr apart ↦ sym (later_value e es d apart) ∙ same d ∙ later_value f fs d (λ x. apart (number ∙ x))
      ]))

module _ {V : Type 0} (Is : ℕ → V → Type 0) where
  -- a table of no number
  pub table_none : (has : ℕ → Bool) (table : List (ℕ × V)) → table ≡ [] → IsStrictlySortedBy nat_cmp (keys_of table) → ((d : ℕ) → IsTrue (has d) → ⊥) → IsTableOf Is has table
  table_none has table e sorted none = record {
    in_order = sorted;
    each = λ d value is. (let bad : None ≡ Some value = sym (ap (λ t. value_in t d) e) ∙ is in cc);
    all = λ d t. absurd (none d t);
  }

  -- a set with the same numbers
  pub table_same : (has other : ℕ → Bool) (table : List (ℕ × V)) → ((d : ℕ) → has d ≡ other d) → IsTableOf Is has table → IsTableOf Is other table
  table_same has other table same h = record {
    in_order = h.in_order;
    each = λ d value is. (let k = h.each d value is in (sym (same d) ∙ k.0, k.1));
    all = λ d t. h.all d (same d ∙ t);
  }

  -- one number more
  pub table_more : (has : ℕ → Bool) (d : ℕ) (value : V) (old new : List (ℕ × V)) → Is d value → Puts d value old new → IsTableOf Is has old → IsTableOf Is (λ q. has q || eqb q d) new
  table_more has d value old new is puts h = record {
    in_order = puts.in_order;
    each = λ q v e. elim (cases_eq q d) [
      | inl same ↦ (let there : Some v ≡ Some value = sym e ∙ ap (value_in new) same ∙ puts.here in
          let what : value ≡ v = cc in
          (or_right (has q) (eqb q d) (eq-eqb q d same), subst (λ z. Is z v) (sym same) (subst (λ z. Is d z) what is)))
      | inr apart ↦ (let k = h.each q v (sym (puts.others q apart) ∙ e) in (or_left (has q) (eqb q d) k.0, k.1))
    ];
    all = λ q t. elim (cases_eq q d) [
      | inl same ↦ subst (λ o. IsSome o) (sym (ap (value_in new) same ∙ puts.here)) refl
      | inr apart ↦ subst (λ o. IsSome o) (sym (puts.others q apart)) (elim (or_cases (has q) (eqb q d) t) [
        | inl there ↦ h.all q there
        | inr here ↦ absurd (apart (eqb-true q d here))
      ])
    ];
  }

  -- two tables as one
  pub table_both : (has other : ℕ → Bool) (left right whole : List (ℕ × V)) → Joins left right whole → IsTableOf Is has left → IsTableOf Is other right → IsTableOf Is (λ d. has d || other d) whole
  table_both has other left right whole joins h k = record {
    in_order = joins.in_order;
    each = λ d v e. elim (joins.from d) [
      | inl same ↦ (let x = h.each d v (sym same ∙ e) in (or_left (has d) (other d) x.0, x.1))
      | inr same ↦ (let x = k.each d v (sym same ∙ e) in (or_right (has d) (other d) x.0, x.1))
    ];
    all = λ d t. elim (or_cases (has d) (other d) t) [
      | inl x ↦ joins.keeps_left d (h.all d x)
      | inr x ↦ joins.keeps_right d (k.all d x)
    ];
  }

  -- ---- one table for each set
  module _ (unique : (d : ℕ) (x y : V) → Is d x → Is d y → x ≡ y) (has : ℕ → Bool) (left right : List (ℕ × V)) (h : IsTableOf Is has left) (k : IsTableOf Is has right) where
    same_value : (d : ℕ) → value_in left d ≡ value_in right d
    same_value d = go (value_in left d) refl (value_in right d) refl
      where
        go : (o : Option V) → value_in left d ≡ o → (r : Option V) → value_in right d ≡ r → o ≡ r
        go None e None f = refl
        go None e (Some y) f = absurd (false≢true (subst (λ o. IsSome o) e (h.all d (k.each d y f).0)))
        go (Some x) e None f = absurd (false≢true (subst (λ o. IsSome o) f (k.all d (h.each d x e).0)))
        go (Some x) e (Some y) f = ap Some (unique d x y (h.each d x e).1 (k.each d y f).1)

    pub table_once : left ≡ right
    table_once = same_entries left right h.in_order k.in_order same_value

-- ---- tables by cylinder groups
module _ {V : Type 0} (geo : Geometry) (view : View) (Is : ℕ → V → Type 0) where
  pub table_from : (units : Units) (table : List (ℕ × V)) → IsTableOf Is (is_directory_in geo view units) table → IsTable geo view Is units table
  table_from units table h = record { in_order = h.in_order; each = h.each; all = h.all }

  pub table_to : (units : Units) (table : List (ℕ × V)) → IsTable geo view Is units table → IsTableOf Is (is_directory_in geo view units) table
  table_to units table h = record { in_order = h.in_order; each = h.each; all = h.all }

  -- the table of no group
  pub no_unit_table : (table : List (ℕ × V)) → table ≡ [] → IsStrictlySortedBy nat_cmp (keys_of table) → IsTable geo view Is no_unit table
  no_unit_table table e sorted =
      table_from no_unit table (table_none Is (is_directory_in geo view no_unit) table e sorted (λ d t. false≢true (and_parts (is_directory_at geo view d) false t).1))

  -- the table of the groups of both
  pub both_tables : (units others : Units) (left right whole : List (ℕ × V)) → Joins left right whole → IsTable geo view Is units left → IsTable geo view Is others right
      → IsTable geo view Is (either units others) whole
  both_tables units others left right whole joins h k =
      table_from (either units others) whole (table_same Is (λ d. is_directory_in geo view units d || is_directory_in geo view others d) (is_directory_in geo view (either units others)) whole
      (λ d. spread (is_directory_at geo view d) (units (d / geo.inodes)) (others (d / geo.inodes)))
      (table_both Is (is_directory_in geo view units) (is_directory_in geo view others) left right whole joins (table_to units left h) (table_to others right k)))
    where
      spread : (x y z : Bool) → (x && y || x && z) ≡ (x && (y || z))
      spread true y z = refl
      spread false y z = refl

  -- the groups of the volume decide the table
  pub tables_once : ((d : ℕ) (x y : V) → Is d x → Is d y → x ≡ y) → (units others : Units) (left right : List (ℕ × V)) → ((g : ℕ) → g < geo.groups → units g ≡ others g)
      → IsTable geo view Is units left → IsTable geo view Is others right → left ≡ right
  tables_once unique units others left right same h k =
      table_once Is unique (is_directory_in geo view others) left right
      (table_same Is (is_directory_in geo view units) (is_directory_in geo view others) left same_set (table_to units left h)) (table_to others right k)
    where
      same_set : (d : ℕ) → is_directory_in geo view units d ≡ is_directory_in geo view others d
      same_set d = elim (cases_Bool (is_directory_at geo view d)) [
        | inl t ↦ ap (λ b. is_directory_at geo view d && b) (same (d / geo.inodes) (group_of_number geo d (directory_number geo view d t)))
        | inr f ↦ ap (λ b. b && units (d / geo.inodes)) f ∙ sym (ap (λ b. b && others (d / geo.inodes)) f)
      ]

-- ---- the numbers of a group, one after another
-- whether the number is that of a sound directory of this group, and below another number
abbrev pub is_directory_before : Geometry → View → ℕ → ℕ → ℕ → Bool
is_directory_before geo view group k d = is_directory_in geo view (only group) d && ltb d k

module _ {V : Type 0} (geo : Geometry) (view : View) (Is : ℕ → V → Type 0) (group : ℕ) where
  in_group_parts : (d : ℕ) → IsTrue (is_directory_in geo view (only group) d) → IsTrue (is_directory_at geo view d) × (d / geo.inodes ≡ group)
  in_group_parts d t = let p = and_parts (is_directory_at geo view d) (eqb (d / geo.inodes) group) t in (p.0, eqb-true (d / geo.inodes) group p.1)

  -- no number of the group lies below the first
  pub group_none : (k : ℕ) (table : List (ℕ × V)) → table ≡ [] → IsStrictlySortedBy nat_cmp (keys_of table)
      → ((d : ℕ) → IsTrue (is_number geo d) → d / geo.inodes ≡ group → k ≤ d) → IsTableOf Is (is_directory_before geo view group k) table
  group_none k table e sorted least =
      table_none Is (is_directory_before geo view group k) table e sorted
      (λ d t. false≢true (sym (before_none (is_directory_in geo view (only group) d) d k (λ p. from d p)) ∙ t))
    where
      from : (d : ℕ) → IsTrue (is_directory_in geo view (only group) d) → k ≤ d
      from d p = let h = in_group_parts d p in least d (directory_number geo view d h.0) h.1

  -- one directory more
  pub group_more : (k next : ℕ) (value : V) (old new : List (ℕ × V)) → next ≡ k + 1 → k / geo.inodes ≡ group → IsTrue (is_directory_at geo view k) → Is k value → Puts k value old new
      → IsTableOf Is (is_directory_before geo view group k) old → IsTableOf Is (is_directory_before geo view group next) new
  group_more k next value old new step here dir is puts h =
      subst (λ n. IsTableOf Is (is_directory_before geo view group n) new) (sym step)
      (table_same Is (λ d. is_directory_before geo view group k d || eqb d k) (is_directory_before geo view group (k + 1)) new
      (λ d. before_more (is_directory_in geo view (only group) d) d k (λ e. subst (λ q. IsTrue (is_directory_in geo view (only group) q)) (sym e) in_group))
      (table_more Is (is_directory_before geo view group k) k value old new is puts h))
    where
      in_group : IsTrue (is_directory_in geo view (only group) k)
      in_group = and_from (is_directory_at geo view k) (eqb (k / geo.inodes) group) dir (eq-eqb (k / geo.inodes) group here)

  -- a number that is no sound directory's
  pub group_same : (k next : ℕ) (table : List (ℕ × V)) → next ≡ k + 1 → IsFalse (is_directory_at geo view k)
      → IsTableOf Is (is_directory_before geo view group k) table → IsTableOf Is (is_directory_before geo view group next) table
  group_same k next table step none h =
      subst (λ n. IsTableOf Is (is_directory_before geo view group n) table) (sym step)
      (table_same Is (is_directory_before geo view group k) (is_directory_before geo view group (k + 1)) table
      (λ d. before_same (is_directory_in geo view (only group) d) d k (λ e. ap (λ q. is_directory_in geo view (only group) q) e ∙ ap (λ b. b && only group (k / geo.inodes)) none)) h)

  -- no number of the group lies above the last
  pub group_whole : (k : ℕ) (table : List (ℕ × V)) → ((d : ℕ) → IsTrue (is_number geo d) → d / geo.inodes ≡ group → d < k)
      → IsTableOf Is (is_directory_before geo view group k) table → IsTable geo view Is (only group) table
  group_whole k table greatest h =
      table_from geo view Is (only group) table (table_same Is (is_directory_before geo view group k) (is_directory_in geo view (only group)) table
      (λ d. before_all (is_directory_in geo view (only group) d) d k (λ p. below d p)) h)
    where
      below : (d : ℕ) → IsTrue (is_directory_in geo view (only group) d) → d < k
      below d p = let h = in_group_parts d p in greatest d (directory_number geo view d h.0) h.1

  -- a unit that is no group has no number
  pub no_group_table : (table : List (ℕ × V)) → table ≡ [] → IsStrictlySortedBy nat_cmp (keys_of table) → geo.groups ≤ group → IsTable geo view Is (only group) table
  no_group_table table e sorted past =
      table_from geo view Is (only group) table (table_none Is (is_directory_in geo view (only group)) table e sorted
      (λ d t. let p = in_group_parts d t in let low = group_of_number geo d (directory_number geo view d p.0) in omega (arith, low, p.1, past)))

-- ---- what the map of a program does
module _ {V : Type 0} where
  -- entries in order of their numbers, inserted in turn
  pub joins_inserted : (left right whole : List (ℕ × V)) → IsStrictlySortedBy nat_cmp (keys_of right) → IsStrictlySortedBy nat_cmp (keys_of whole)
      → ((d : ℕ) → value_in whole d ≡ update_all (eq_by_cmp nat_cmp) (value_in left) right d) → Joins left right whole
  joins_inserted left right whole sorted in_order at = record {
    in_order = in_order;
    from = λ d. elim (of_right d) [ inl e ↦ inl (at_is d ∙ e) | inr e ↦ inr (at_is d ∙ e) ];
    keeps_left = λ d s. subst (λ o. IsSome o) (sym (at_is d)) (left_kept (value_in right d) (value_in left d) s);
    keeps_right = λ d s. subst (λ o. IsSome o) (sym (at_is d)) (right_kept (value_in right d) (value_in left d) s);
  }
    where
      at_is : (d : ℕ) → value_in whole d ≡ option_or (value_in right d) (value_in left d)
      at_is d =
          at d ∙ update_all_distinct (eq_by_cmp_equiv nat_cmp_total) (eq_by_cmp nat_cmp) (λ x y. refl) (value_in left) right d (IsDistinct-from_sorted nat_cmp (keys_of right) sorted)

      chosen : (o r : Option V) → (option_or o r ≡ r) ⊎ (option_or o r ≡ o)
      chosen None r = inl refl
      chosen (Some x) r = inr refl

      of_right : (d : ℕ) → (option_or (value_in right d) (value_in left d) ≡ value_in left d) ⊎ (option_or (value_in right d) (value_in left d) ≡ value_in right d)
      of_right d = chosen (value_in right d) (value_in left d)

      left_kept : (o r : Option V) → IsSome r → IsSome (option_or o r)
      left_kept None r s = s
      left_kept (Some x) r s = refl

      right_kept : (o r : Option V) → IsSome o → IsSome (option_or o r)
      right_kept None r s = absurd (false≢true s)
      right_kept (Some x) r s = s

  -- a value that was put in
  pub puts_inserted : (d : ℕ) (value : V) (old new : List (ℕ × V)) → IsStrictlySortedBy nat_cmp (keys_of new) → value_in new d ≡ Some value
      → ((q : ℕ) → is_at (nat_cmp d) q ≡ false → value_in new q ≡ value_in old q) → Puts d value old new
  puts_inserted d value old new in_order here others = record { in_order = in_order; here = here; others = λ q apart. others q (finds_no_other d q apart) }

  -- either way round
  pub joins_turned : (left right whole : List (ℕ × V)) → Joins left right whole → Joins right left whole
  joins_turned left right whole h = record {
    in_order = h.in_order;
    from = λ d. elim (h.from d) [ inl e ↦ inr e | inr e ↦ inl e ];
    keeps_left = h.keeps_right;
    keeps_right = h.keeps_left;
  }

-- tables of which only a part of each value is looked at
module _ {V W : Type 0} (f : V → W) where
  abbrev pub seen_values : List (ℕ × V) → List (ℕ × W)
  seen_values table = map (λ e. (e.0, f e.1)) table

  keys_seen : (table : List (ℕ × V)) → keys_of (seen_values table) ≡ keys_of table
  keys_seen [] = refl
  keys_seen (e ∷ es) = ap (λ ks. e.0 ∷ ks) (keys_seen es)

  pub seen_in_order : (table : List (ℕ × V)) → IsStrictlySortedBy nat_cmp (keys_of table) → IsStrictlySortedBy nat_cmp (keys_of (seen_values table))
  seen_in_order table s = subst (λ ks. IsStrictlySortedBy nat_cmp ks) (sym (keys_seen table)) s

  pub value_seen : (table : List (ℕ × V)) (d : ℕ) → value_in (seen_values table) d ≡ option_map f (value_in table d)
  value_seen table d = lookup-map_values f (is_at (nat_cmp d)) table

  seen_some : (o : Option V) → is_some (option_map f o) ≡ is_some o
  seen_some None = refl
  seen_some (Some x) = refl

  some_to : (table : List (ℕ × V)) (d : ℕ) → IsSome (value_in (seen_values table) d) → IsSome (value_in table d)
  some_to table d s = sym (seen_some (value_in table d)) ∙ subst (λ o. IsSome o) (value_seen table d) s

  some_from : (table : List (ℕ × V)) (d : ℕ) → IsSome (value_in table d) → IsSome (value_in (seen_values table) d)
  some_from table d s = subst (λ o. IsSome o) (sym (value_seen table d)) (seen_some (value_in table d) ∙ s)

  pub joins_seen : (left right whole : List (ℕ × V)) → Joins left right whole → Joins (seen_values left) (seen_values right) (seen_values whole)
  joins_seen left right whole h = record {
    in_order = seen_in_order whole h.in_order;
    from = λ d. elim (h.from d) [
      | inl e ↦ inl (value_seen whole d ∙ ap (option_map f) e ∙ sym (value_seen left d))
      | inr e ↦ inr (value_seen whole d ∙ ap (option_map f) e ∙ sym (value_seen right d))
    ];
    keeps_left = λ d s. some_from whole d (h.keeps_left d (some_to left d s));
    keeps_right = λ d s. some_from whole d (h.keeps_right d (some_to right d s));
  }

  pub puts_seen : (d : ℕ) (value : V) (old new : List (ℕ × V)) → Puts d value old new → Puts d (f value) (seen_values old) (seen_values new)
  puts_seen d value old new h = record {
    in_order = seen_in_order new h.in_order;
    here = value_seen new d ∙ ap (option_map f) h.here;
    others = λ q apart. value_seen new q ∙ ap (option_map f) (h.others q apart) ∙ sym (value_seen old q);
  }
