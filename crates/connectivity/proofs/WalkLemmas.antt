-- What holds between the rounds of the walk, and where no directory is left.
use Rattle.std.proofs.Common.{◌≡◌, ◌<◌, ◌≤◌, ◌+◌, ◌-◌, ℕ, true, List, [], ◌∷◌, length, Contains, inl, inr, sym, subst, arith, IsTrue, IsFalse, eqb, rules}
use mathlib.Core.Path.{fun_ext}
use Rattle.std.specs.List.{list_any, IsDistinct}
use Rattle.std.specs.Ordering.{nat_cmp, eq_by_cmp}
use Rattle.std.proofs.lemmas.Bool.{and_parts, both_ways, eqb-true}
use Rattle.std.proofs.lemmas.List.Elements.{Contains-append_left, Contains-append_right, Contains-append_cases}
use Rattle.std.proofs.lemmas.Map.Keys.{IsDistinct-from_sorted}
use Rattle.std.proofs.lemmas.Map.Steps.{length-le_from_distinct_below}
use Rattle.std.proofs.lemmas.Map.Views.{Contains-from_any}
use Rattle.findings.proofs.FoundBelow.{sorted-none}
use Rattle.findings.proofs.Sorted.{Contains-here, Contains-there, Contains-cases, Contains-none}
use Rattle.directories.specs.Named.{numbers_in}
use Rattle.model.specs.Layout.{Geometry, inode_count, is_number, root}
use Rattle.model.specs.View.{View}
use Rattle.model.specs.Uses.{is_sound, is_sound_at, is_directory_at}
use Rattle.model.specs.Reached.{AreReached}
use Rattle.model.proofs.NamedLemmas.{named_are_names}
use Rattle.model.proofs.ReachLemmas.{sound_directory, entry_reached, IsClosed, closed_reachable}
use Rattle.model.proofs.SlotLemmas.{number_below}
use Rattle.connectivity.specs.Walk.{Visits, IsWalk, HasAllEntries, numbers_of}
use Rattle.connectivity.proofs.VisitLemmas.{member_or_not}

tests_agree : (x y : ℕ) → eq_by_cmp nat_cmp x y ≡ eqb x y
tests_agree x y = search rules

-- ---- the numbers at several directories
pub numbers_from : (table : List (ℕ × List ℕ)) (directories : List ℕ) (i : ℕ) → Contains (numbers_of table directories) i → (d : ℕ) × Contains directories d × Contains (numbers_in table d) i
numbers_from table [] i c = absurd (Contains-none i c)
numbers_from table (d ∷ ds) i c = elim (Contains-append_cases (numbers_in table d) (numbers_of table ds) i c) [
  | inl k ↦ (d, Contains-here d ds, k)
  | inr k ↦ (let h = numbers_from table ds i k in (h.0, Contains-there d ds h.0 h.1, h.2))
]

pub numbers_to : (table : List (ℕ × List ℕ)) (directories : List ℕ) (d i : ℕ) → Contains directories d → Contains (numbers_in table d) i → Contains (numbers_of table directories) i
numbers_to table [] d i c k = absurd (Contains-none d c)
numbers_to table (e ∷ es) d i c k = elim (Contains-cases e es d c) [
  | inl same ↦ Contains-append_left (numbers_in table e) (numbers_of table es) i (subst (λ z. Contains (numbers_in table z) i) (sym same) k)
  | inr there ↦ Contains-append_right (numbers_in table e) (numbers_of table es) i (numbers_to table es d i there k)
]

module _ (geo : Geometry) (view : View) (table : List (ℕ × List ℕ)) where
  -- ---- before the first round
  walk_empty : IsFalse (is_directory_at geo view root) → IsWalk geo view table [] []
  walk_empty f = record {
    in_order = sorted-none nat_cmp;
    sound = λ i c. absurd (Contains-none i c);
    reachable = λ all i c. absurd (Contains-none i c);
    at_root = λ t. absurd (both_ways (is_directory_at geo view root) f t);
    followed = λ d c t. absurd (Contains-none d c);
    to_follow = λ d c. absurd (Contains-none d c);
  }

  walk_root : (reached round : List ℕ) → IsTrue (is_directory_at geo view root) → Visits geo view (root ∷ []) [] [] reached round → IsWalk geo view table reached round
  walk_root reached round dir h = record {
    in_order = h.in_order (sorted-none nat_cmp);
    sound = λ i c. subst (λ z. IsTrue (is_sound_at geo view z)) (is_root i c) (sound_directory geo view root dir);
    reachable = λ all i c. inl (0, (sym (is_root i c), dir));
    at_root = λ t. (h.members root).1 (inr (Contains-here root [], sound_directory geo view root dir));
    followed = λ d c t. inl ((h.directories d).1 (inr (c, (λ k. Contains-none d k), t)));
    to_follow = λ d c. elim ((h.directories d).0 c) [ inl k ↦ absurd (Contains-none d k) | inr v ↦ (v.0, v.2) ];
  }
    where
      is_root : (i : ℕ) → Contains reached i → root ≡ i
      is_root i c = elim ((h.members i).0 c) [
        | inl k ↦ absurd (Contains-none i k)
        | inr v ↦ elim (Contains-cases root [] i v.0) [ inl e ↦ e | inr k ↦ absurd (Contains-none i k) ]
      ]

  pub walk_from_nothing : (reached round : List ℕ) → reached ≡ [] → round ≡ [] → IsFalse (is_directory_at geo view root) → IsWalk geo view table reached round
  walk_from_nothing reached round e f t = subst (λ xs. IsWalk geo view table xs round) (sym e) (subst (λ xs. IsWalk geo view table [] xs) (sym f) (walk_empty t))

  pub walk_from_root : (before none reached round : List ℕ) → before ≡ [] → none ≡ [] → IsTrue (is_directory_at geo view root)
      → Visits geo view (root ∷ []) before none reached round → IsWalk geo view table reached round
  walk_from_root before none reached round e f t h =
      walk_root reached round t (subst (λ xs. Visits geo view (root ∷ []) xs [] reached round) e (subst (λ xs. Visits geo view (root ∷ []) before xs reached round) f h))

  -- ---- one round
  pub walk_round : (reached round after next : List ℕ) → IsWalk geo view table reached round → Visits geo view (numbers_of table round) reached [] after next → IsWalk geo view table after next
  walk_round reached round after next w h = record {
    in_order = h.in_order w.in_order;
    sound = λ i c. elim ((h.members i).0 c) [ inl k ↦ w.sound i k | inr v ↦ v.1 ];
    reachable = λ all i c. elim ((h.members i).0 c) [
      | inl k ↦ w.reachable all i k
      | inr v ↦ (let from = numbers_from table round i v.0 in
          let d = from.0 in
          let there = w.to_follow d from.1 in
          let entry = (named_are_names geo view d 2 i).0 (subst (λ xs. Contains xs i) (all d there.1) from.2) in
          entry_reached geo view d entry.0 i (w.reachable all d there.0) there.1 entry.1 entry.2 v.1)
    ];
    at_root = λ t. (h.members root).1 (inl (w.at_root t));
    followed = λ d c t. elim (member_or_not reached d) [
      | inl k ↦ inr (elim (w.followed d k t) [
        | inl here ↦ λ i n s. (h.members i).1 (inr (numbers_to table round d i here n, s))
        | inr all ↦ λ i n s. (h.members i).1 (inl (all i n s))
      ])
      | inr new ↦ inl ((h.directories d).1 (inr (c, new, t)))
    ];
    to_follow = λ d c. elim ((h.directories d).0 c) [ inl k ↦ absurd (Contains-none d k) | inr v ↦ (v.0, v.2) ];
  }

  -- ---- after the last round
  pub walk_done : (reached : List ℕ) → IsWalk geo view table reached [] → HasAllEntries geo view table → AreReached geo view reached
  walk_done reached w all = record {
    in_order = w.in_order;
    exactly = λ i. (w.reachable all i, closed_reachable geo view (λ j. Contains reached j) closed i);
  }
    where
      closed : IsClosed geo view (λ j. Contains reached j)
      closed = record {
        at_root = w.at_root;
        at_entries = λ d s i c t after names sound. elim (w.followed d c t) [
          | inl none ↦ absurd (Contains-none d none)
          | inr followed ↦ followed i (subst (λ xs. Contains xs i) (sym (all d t)) ((named_are_names geo view d 2 i).1 (s, after, names))) sound
        ];
      }

  -- there are at most as many as there are numbers
  pub walk_small : (reached round : List ℕ) → IsWalk geo view table reached round → length reached ≤ inode_count geo
  walk_small reached round w =
      length-le_from_distinct_below reached (inode_count geo) (IsDistinct-eqb)
      (λ q t. number_below geo q (and_parts (is_number geo q) (is_sound geo (view.inode q)) (w.sound q (from_any q t))).0)
    where
      same_test : eq_by_cmp nat_cmp ≡ eqb
      same_test = fun_ext (λ x. fun_ext (λ y. tests_agree x y))

      IsDistinct-eqb : IsDistinct eqb reached
      IsDistinct-eqb = subst (λ test. IsDistinct test reached) same_test (IsDistinct-from_sorted nat_cmp reached w.in_order)

      from_any : (q : ℕ) → list_any (eqb q) reached ≡ true → Contains reached q
      from_any q t = Contains-from_any eqb-true q reached t

-- a round that follows some directory leaves less to do
pub round_smaller : (numbers reached round after next : ℕ) → next + reached ≤ after + 0 → after ≤ numbers → 0 < round → (numbers - after) + next < (numbers - reached) + round
round_smaller numbers reached round after next count small some = omega arith
