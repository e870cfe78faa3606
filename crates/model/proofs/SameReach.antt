-- Two views in which directories have the same names: what is reachable, and the rules.
use Rattle.std.proofs.Common.{◌≡◌, ◌≤◌, ℕ, zero, suc, List, ◌↔◌, inl, inr, sym, ◌∙◌, subst, IsTrue}
use Rattle.model.specs.Layout.{Geometry, root}
use Rattle.model.specs.View.{View}
use Rattle.model.specs.Uses.{is_directory_at, is_sound}
use Rattle.model.specs.Slots.{Slot, Good, Bad, slot, Names}
use Rattle.model.specs.Reach.{Path, IsReachableDirectory, IsEntry, HasParent}
use Rattle.model.specs.Rules.{ObeysRules, UsesAreClaims, SlotsAreRight, LinksCoverEntries, RecordsAreSound, NumbersAreMarked}
use Rattle.model.proofs.SlotLemmas.{reachable_directory}
use Rattle.model.proofs.SlotChange.{at_or_not}

pub record SameReach (geo : Geometry) (v w : View) : Type 0 where
  pub directories : (i : ℕ) → is_directory_at geo v i ≡ is_directory_at geo w i
  pub names : (d s j : ℕ) → IsTrue (is_directory_at geo v j) → Names geo v d s j ↔ Names geo w d s j

module _ (geo : Geometry) (v w : View) (r : SameReach geo v w) where
  reach_path_kept : (n d : ℕ) → Path geo v n d → Path geo w n d
  reach_path_kept zero d p = (p.0, sym (r.directories root) ∙ p.1)
  reach_path_kept (suc n) d p = (p.0, p.1, reach_path_kept n p.0 p.2, p.3, (r.names p.0 p.1 d p.5).0 p.4, sym (r.directories d) ∙ p.5)

  reach_path_back : (n d : ℕ) → Path geo w n d → Path geo v n d
  reach_path_back zero d p = (p.0, r.directories root ∙ p.1)
  reach_path_back (suc n) d p = let dir : IsTrue (is_directory_at geo v d) = r.directories d ∙ p.5 in (p.0, p.1, reach_path_back n p.0 p.2, p.3, (r.names p.0 p.1 d dir).1 p.4, dir)

  pub reach_kept : (d : ℕ) → IsReachableDirectory geo v d → IsReachableDirectory geo w d
  reach_kept d p = (p.0, reach_path_kept p.0 d p.1)

  pub reach_back : (d : ℕ) → IsReachableDirectory geo w d → IsReachableDirectory geo v d
  reach_back d p = (p.0, reach_path_back p.0 d p.1)

  entry_of_kept : (d s i : ℕ) → IsTrue (is_directory_at geo v i) → IsEntry geo v d s i → IsEntry geo w d s i
  entry_of_kept d s i dir e = record { reachable = reach_kept d e.reachable; after_dots = e.after_dots; names = (r.names d s i dir).0 e.names }

  entry_of_back : (d s i : ℕ) → IsTrue (is_directory_at geo v i) → IsEntry geo w d s i → IsEntry geo v d s i
  entry_of_back d s i dir e = record { reachable = reach_back d e.reachable; after_dots = e.after_dots; names = (r.names d s i dir).1 e.names }

  parent_of_kept : (d : ℕ) → IsTrue (is_directory_at geo v root) → IsReachableDirectory geo v d → HasParent geo v d → HasParent geo w d
  parent_of_kept d top reached (inl p) = inl (p.0, (r.names d 1 root top).0 p.1)
  parent_of_kept d top reached (inr p) =
      inr (p.0, p.1, p.2, (r.names d 1 p.1 (reachable_directory geo v p.1 p.4.reachable)).0 p.3, entry_of_kept p.1 p.2 d (reachable_directory geo v d reached) p.4)

  pub reach_obeys : ObeysRules geo v → RecordsAreSound geo w → UsesAreClaims geo w → NumbersAreMarked geo w → SlotsAreRight geo w → LinksCoverEntries geo w → ObeysRules geo w
  reach_obeys o records uses numbers slots links = record {
    rule1 = sym (r.directories root) ∙ o.rule1;
    rule2 = records;
    rule3 = uses;
    rule4 = numbers;
    rule5 = λ d p. let before = reach_back d p in let dots = o.rule5 d before in
        ((r.names d 0 d (reachable_directory geo v d before)).0 dots.0, parent_of_kept d o.rule1 before dots.1);
    rule6 = slots;
    rule7 = record {
      once = λ d s e t i dir f g. let dir' : IsTrue (is_directory_at geo v i) = r.directories i ∙ dir in o.rule7.once d s e t i dir' (entry_of_back d s i dir' f) (entry_of_back e t i dir' g);
      no_root = λ d s f. o.rule7.no_root d s (entry_of_back d s root o.rule1 f);
    };
    rule8 = links;
  }

-- the sixth rule, where one slot changes, whose new name no other slot of its directory has
module _ (geo : Geometry) (v w : View) (r : SameReach geo v w) (d s : ℕ) (now : Slot) (others : (e t : ℕ) → ((e ≡ d) × (t ≡ s) → ⊥) → slot geo v e t ≡ slot geo w e t) (after : slot geo w d s ≡ now)
    (o : ObeysRules geo v) (good : now ≡ Bad → ⊥) (fresh : (t j k : ℕ) (name : List ℕ) → now ≡ Good k name → 2 ≤ t → (t ≡ s → ⊥) → slot geo v d t ≡ Good j name → ⊥)
    (now_sound : (j : ℕ) (name : List ℕ) → IsReachableDirectory geo v d → now ≡ Good j name → IsTrue (is_sound geo (w.inode j)))
    (sound_kept : (j : ℕ) → IsTrue (is_sound geo (v.inode j)) → IsTrue (is_sound geo (w.inode j))) where
  holds : (y : Slot) (e t : ℕ) → (e ≡ d) × (t ≡ s) → slot geo w e t ≡ y → now ≡ y
  holds y e t here p = sym after ∙ subst (λ q. slot geo w q s ≡ y) here.0 (subst (λ q. slot geo w e q ≡ y) here.1 p)

  clash : (e t u j k : ℕ) (name : List ℕ) → (e ≡ d) × (t ≡ s) → 2 ≤ u → ((e ≡ d) × (u ≡ s) → ⊥) → slot geo w e t ≡ Good j name → slot geo w e u ≡ Good k name → ⊥
  clash e t u j k name here low other f g =
      fresh u k j name (holds (Good j name) e t here f) low (λ x. other (here.0, x)) (subst (λ x. slot geo v x u ≡ Good k name) here.0 (others e u other ∙ g))

  pub slots_right : SlotsAreRight geo w
  slots_right = record {
    none_bad = λ e t p b. elim (at_or_not d s e t) [
      | inr other ↦ o.rule6.none_bad e t (reach_back geo v w r e p) (others e t other ∙ b)
      | inl here ↦ good (holds Bad e t here b)
    ];
    distinct = λ e t u j k name p q q' f g. elim (at_or_not d s e t) [
      | inl here ↦ elim (at_or_not d s e u) [
        | inl there ↦ here.1 ∙ sym there.1
        | inr other ↦ absurd (clash e t u j k name here q' other f g)
      ]
      | inr other ↦ elim (at_or_not d s e u) [
        | inl there ↦ absurd (clash e u t k j name there q other g f)
        | inr other' ↦ o.rule6.distinct e t u j k name (reach_back geo v w r e p) q q' (others e t other ∙ f) (others e u other' ∙ g)
      ]
    ];
    sound = λ e t j p n. elim (at_or_not d s e t) [
      | inr other ↦ sound_kept j (o.rule6.sound e t j (reach_back geo v w r e p) (n.0, others e t other ∙ n.1))
      | inl here ↦ now_sound j n.0 (subst (λ x. IsReachableDirectory geo v x) here.0 (reach_back geo v w r e p)) (holds (Good j n.0) e t here n.1)
    ];
  }
