-- The entry of an empty directory goes.
use Rattle.std.proofs.Common.{◌≡◌, ◌≢◌, ℕ, zero, suc, ◌<◌, ◌≤◌, ◌/◌, Bool, eqb, List, ◌⊎◌, inl, inr, refl, sym, ap, ◌∙◌, subst, IsTrue, le_refl, arith, Some, eqb-true, eq-eqb}
use Rattle.std.proofs.lemmas.Bool.{both_ways, cases_eq, and_parts, and_from, cases_Bool, or_cases, or_left, or_right, cases_lt}
use Rattle.model.specs.Layout.{Geometry, root}
use Rattle.model.specs.View.{View}
use Rattle.model.specs.Cells.{SetBytes, updated}
use Rattle.model.specs.Shape.{most_blocks}
use Rattle.model.specs.Uses.{use_at, IsUse, IsClaim}
use Rattle.model.specs.Slots.{Slot, Empty, Good, slot, slot_in, Names}
use Rattle.model.specs.Reach.{Path, IsReachableDirectory, IsEntry}
use Rattle.model.specs.Rules.{ObeysRules, UsesAreClaims}
use Rattle.model.proofs.Finite.{reachable_set}
use Rattle.model.proofs.SlotLemmas.{slot_content, names_one}
use Rattle.model.proofs.UseLemmas.{claim_parts, uses_obey}
use Rattle.ordering.specs.Cuts.{Cell, Record, NumberBit, Block, Pending, users_view, without, AreIn}
use Rattle.ordering.specs.Places.{HasPlace}
use Rattle.ordering.specs.Ghosts.{Ghost, Gone}
use Rattle.ordering.specs.Agrees.{Agrees, TreeAgrees}
use Rattle.ordering.specs.Kinds.{Keeps}
use Rattle.ordering.specs.OneSlot.{MayRemoveDirectory, same_gone, removed_directory}
use Rattle.ordering.proofs.CutLemmas.{was_fresh, is_other, still_fresh}
use Rattle.ordering.proofs.Places.{place_back, place_of, slot_change}
use Rattle.ordering.proofs.Bits.{users_obey, sound_used}
use Rattle.ordering.proofs.Data.{directory_mode}
use Rattle.model.proofs.Slots.{slot_claimed}
use Rattle.model.proofs.SameTree.{SameTree, tree_obeys, links_cover, back, reachable_kept}
use Rattle.model.proofs.SlotChange.{slot_uses, slot_before, slot_others, at_or_not, names_there, the_block, block_there, block_then, SlotChange, names_at_slot, names_at_slot_now}
use Rattle.model.proofs.Prune.{names_were, prune_back, prune_kept, pruned, prune_reachable, prune_obeys}
use Rattle.ordering.proofs.SlotSteps.{SlotTaken, slot_step}
use Rattle.ordering.proofs.SlotKinds.{two_cases, unclaimed_shape, unclaimed_rules}

-- whether a directory is reachable
pub reached_or_not : (geo : Geometry) (v : View) (d : ℕ) → IsReachableDirectory geo v d ⊎ (IsReachableDirectory geo v d → ⊥)
reached_or_not geo v d = let set = reachable_set geo v in elim (cases_Bool (set.0 d)) [
  | inl t ↦ inl ((set.1 d).0 t)
  | inr f ↦ inr (λ r. both_ways (set.0 d) f ((set.1 d).1 r))
]

-- a change of a slot of a directory that nothing reaches
pub unreached_tree : (geo : Geometry) (v : View) (block : ℕ) (bytes : List ℕ) (d s : ℕ) (old new : Slot) (h : SlotChange geo v block bytes d s old new) (u : UsesAreClaims geo v)
    → (IsReachableDirectory geo v d → ⊥) → SameTree geo v (updated v (SetBytes block bytes))
unreached_tree geo v block bytes d s old new h u out = record {
  top = refl;
  directory = λ e t i r n. refl;
  sound = λ e t i r n. refl;
  good = λ e t i name r. let same = slots e t r in ((λ k. sym same ∙ k), (λ k. same ∙ k));
  bad = λ e t r k. slots e t r ∙ k;
  blocks = λ e t i b r n. let same = slot_uses geo v block bytes d s old new h u e (t / 16) in ((λ k. (sym same ∙ k.0, k.1)), (λ k. (same ∙ k.0, k.1)));
}
  where
    slots : (e t : ℕ) → IsReachableDirectory geo v e → slot geo v e t ≡ slot geo (updated v (SetBytes block bytes)) e t
    slots e t r = slot_others geo v block bytes d s old new h u e t (λ at. out (subst (λ x. IsReachableDirectory geo v x) at.0 r))

pub unreached_rules : (geo : Geometry) (v : View) (block : ℕ) (bytes : List ℕ) (d s : ℕ) (old new : Slot) (h : SlotChange geo v block bytes d s old new) (o : ObeysRules geo v)
    → (IsReachableDirectory geo v d → ⊥) → ObeysRules geo (updated v (SetBytes block bytes))
unreached_rules geo v block bytes d s old new h o out =
    let t = unreached_tree geo v block bytes d s old new h o.rule3 out in
    let w = updated v (SetBytes block bytes) in
    tree_obeys geo v w t o o.rule2 (uses_obey geo v w (slot_uses geo v block bytes d s old new h o.rule3) (λ b n k c. o.rule3.marked n k b c) o.rule3) o.rule4 (links_cover geo v w t (λ i r. le_refl (v.inode i).links) o.rule8)

-- ---- one view

module _ (geo : Geometry) (v : View) (block : ℕ) (bytes : List ℕ) (d s i : ℕ) (name : List ℕ) (h : SlotChange geo v block bytes d s (Good i name) Empty) (o : ObeysRules geo v) (low : 2 ≤ s)
    (not_root : i ≡ root → ⊥) (only : (e t : ℕ) → IsEntry geo v e t i → (e ≡ d) × (t ≡ s)) (leaf : (t j : ℕ) → 2 ≤ t → Names geo v i t j → ⊥) where
  abbrev w : View
  w = updated v (SetBytes block bytes)

  pub prune_place_back : (j e t c : ℕ) → HasPlace geo w j e t c → HasPlace geo v j e t c
  prune_place_back j e t c p = record {
    reachable = prune_back geo v block bytes d s i name h o low not_root only leaf e p.reachable;
    names = (names_were geo v block bytes d s i name h o low not_root only leaf e t j p.names).0;
    block = block_then geo v block bytes d s (Good i name) Empty h o.rule3 e t c p.block;
  }

  -- a place stays, or it is the slot's, or it stands in the directory that goes
  pub prune_place : (j e t c : ℕ) → HasPlace geo v j e t c → HasPlace geo w j e t c ⊎ (((j ≡ i) × (e ≡ d) × (t ≡ s) × (c ≡ block)) ⊎ (e ≡ i))
  prune_place j e t c p = elim (cases_eq e i) [
    | inl mine ↦ inr (inr mine)
    | inr other ↦ elim (at_or_not d s e t) [
      | inr differs ↦ inl (record {
        reachable = prune_kept geo v block bytes d s i name h o low not_root only leaf e other p.reachable;
        names = names_there geo v block bytes d s (Good i name) Empty h o.rule3 e t j differs p.names;
        block = block_there geo v block bytes d s (Good i name) Empty h o.rule3 e t c p.block;
      })
      | inl at ↦ inr (inl (
          let k = names_at_slot geo v block bytes d s (Good i name) Empty h o.rule3 e t j at p.names in
          let same : Good i name ≡ Good j k.0 = k.1 in
          let ij : j ≡ i = cc in
          (ij, at.0, at.1, the_block geo v block bytes d s (Good i name) Empty h o.rule3 e t c at p.block)))
    ]
  ]

-- ---- the three gone places

pub record SameGone (g k : Gone) : Type 0 where
  pub number : g.number ≡ k.number
  pub directory : g.directory ≡ k.directory
  pub slot : g.slot ≡ k.slot
  pub block : g.block ≡ k.block
  pub witness : g.witness ≡ k.witness

same_gone_parts : (g k : Gone) → IsTrue (same_gone g k) → SameGone g k
same_gone_parts g k t =
    let p = and_parts (eqb g.number k.number) _ t in
    let p1 = and_parts (eqb g.directory k.directory) _ p.1 in
    let p2 = and_parts (eqb g.slot k.slot) _ p1.1 in
    let p3 = and_parts (eqb g.block k.block) _ p2.1 in
    record { number = eqb-true g.number k.number p.0; directory = eqb-true g.directory k.directory p1.0; slot = eqb-true g.slot k.slot p2.0; block = eqb-true g.block k.block p3.0; witness = eqb-true g.witness k.witness p3.1 }

same_gone_from : (g k : Gone) → SameGone g k → IsTrue (same_gone g k)
same_gone_from g k e =
    and_from (eqb g.number k.number) _ (eq-eqb g.number k.number e.number) (and_from (eqb g.directory k.directory) _ (eq-eqb g.directory k.directory e.directory)
    (and_from (eqb g.slot k.slot) _ (eq-eqb g.slot k.slot e.slot) (and_from (eqb g.block k.block) _ (eq-eqb g.block k.block e.block) (eq-eqb g.witness k.witness e.witness))))

-- ---- the kind

module _ (geo : Geometry) (disk : View) (q : List Pending) (ghost : Ghost) (after : List Cell) (block : ℕ) (bytes : List ℕ) (d s i b : ℕ) (name : List ℕ)
    (may : MayRemoveDirectory geo (users_view disk q) ghost after block bytes d s i b name) (rules : ObeysRules geo (users_view disk q)) where
  abbrev users : View
  users = users_view disk q

  abbrev users' : View
  users' = updated users (SetBytes block bytes)

  abbrev ghost' : Ghost
  ghost' = removed_directory i d s block b ghost

  h_users : SlotChange geo users block bytes d s (Good i name) Empty
  h_users = slot_change may.change.slot

  the_entry : IsEntry geo users d s i
  the_entry = record { reachable = may.change.reachable; after_dots = may.change.after_dots; names = (name, slot_before geo users block bytes d s (Good i name) Empty h_users rules.rule3) }

  not_root : i ≡ root → ⊥
  not_root e = rules.rule7.no_root d s (subst (λ x. IsEntry geo users d s x) e the_entry)

  only_entry : (e t : ℕ) → IsEntry geo users e t i → (e ≡ d) × (t ≡ s)
  only_entry e t x = rules.rule7.once e t d s i may.directory x the_entry

  users_reached : IsReachableDirectory geo users i
  users_reached = (suc may.change.reachable.0, (d, s, may.change.reachable.1, may.change.after_dots, the_entry.names, may.directory))

  back_users : (e : ℕ) → IsReachableDirectory geo users' e → IsReachableDirectory geo users e
  back_users = prune_back geo users block bytes d s i name h_users rules may.change.after_dots not_root only_entry may.empty

  users_pruned : IsReachableDirectory geo users' i → ⊥
  users_pruned = pruned geo users block bytes d s i name h_users rules may.change.after_dots not_root only_entry may.empty

  places_back : (j e t c : ℕ) → HasPlace geo users' j e t c → HasPlace geo users j e t c
  places_back = prune_place_back geo users block bytes d s i name h_users rules may.change.after_dots not_root only_entry may.empty

  -- ".." of the directory names the one that its entry stands in
  its_parent : (j : ℕ) → Names geo users i 1 j → j ≡ d
  its_parent j n = elim (rules.rule5 i users_reached).1 [
    | inl p ↦ absurd (not_root p.0)
    | inr p ↦ names_one geo users i 1 j p.1 n p.3 ∙ (only_entry p.1 p.2 p.4).0
  ]

  the_first : (t c : ℕ) → t < 2 → IsClaim geo users i (t / 16) c → c ≡ b
  the_first t c below x =
      let zero_at : t / 16 ≡ 0 = omega (arith, below) in
      let here : use_at geo users i 0 ≡ Some c = subst (λ k. IsUse geo users i k c) zero_at x.0 in
      let there : use_at geo users i 0 ≡ Some b = may.first.0 in cc

  -- a place of the users stays, or is gone now
  stays_or_gone : (j e t c : ℕ) → HasPlace geo users j e t c
      → HasPlace geo users' j e t c ⊎ ((IsTrue (ghost'.gone (record { number = j; directory = e; slot = t; block = c; witness = block }))) × ((2 ≤ t) → j ≡ i))
  stays_or_gone j e t c p = elim (prune_place geo users block bytes d s i name h_users rules may.change.after_dots not_root only_entry may.empty j e t c p) [
    | inl still ↦ inl still
    | inr moved ↦ inr (elim moved [
      | inl at ↦ (or_left (same_gone (g j e t c) g1) _ (same_gone_from (g j e t c) g1 (record { number = at.0; directory = at.1; slot = at.2; block = at.3; witness = refl })), λ l. at.0)
      | inr mine ↦ elim (cases_lt t 2) [
        | inr high ↦ absurd (may.empty t j high (subst (λ x. Names geo users x t j) mine p.names))
        | inl below ↦
            let block_is : c ≡ b = the_first t c below (subst (λ x. IsClaim geo users x (t / 16) c) mine p.block) in (
              elim (cases_eq t 0) [
                | inl first ↦
                    let n0 : Names geo users i 0 j = subst (λ x. Names geo users x 0 j) mine (subst (λ x. Names geo users e x j) first p.names) in
                    or_right (same_gone (g j e t c) g1) _ (or_left (same_gone (g j e t c) g2) _ (same_gone_from (g j e t c) g2 (record {
                      number = names_one geo users i 0 j i n0 (rules.rule5 i users_reached).0;
                      directory = mine;
                      slot = first;
                      block = block_is;
                      witness = refl;
                    })))
                | inr second ↦
                    let one : t ≡ 1 = omega (arith, below, second) in
                    let n1 : Names geo users i 1 j = subst (λ x. Names geo users x 1 j) mine (subst (λ x. Names geo users e x j) one p.names) in
                    or_right (same_gone (g j e t c) g1) _ (or_right (same_gone (g j e t c) g2) _ (or_left (same_gone (g j e t c) g3) _ (same_gone_from (g j e t c) g3 (record {
                      number = its_parent j n1;
                      directory = mine;
                      slot = one;
                      block = block_is;
                      witness = refl;
                    }))))
              ],
              λ high. absurd (omega (arith, high, below)),
            )
      ]
    ])
  ]
    where
      g : ℕ → ℕ → ℕ → ℕ → Gone
      g j e t c = record { number = j; directory = e; slot = t; block = c; witness = block }

      g1 : Gone
      g1 = record { number = i; directory = d; slot = s; block = block; witness = block }

      g2 : Gone
      g2 = record { number = i; directory = i; slot = 0; block = b; witness = block }

      g3 : Gone
      g3 = record { number = d; directory = i; slot = 1; block = b; witness = block }

  pruned_tree : (set set' : Cell → Bool) (view view' : View) → Agrees geo users ghost set view
      → ((c : Cell) → IsTrue (set' c) → IsTrue (set c)) → ((n : ℕ) → IsTrue (set (NumberBit n)) → IsTrue (set' (NumberBit n)))
      → ((j e t c : ℕ) → HasPlace geo view' j e t c → HasPlace geo view j e t c)
      → (IsTrue (set' (Block block)) → (j e t c : ℕ) → HasPlace geo view' j e t c → (e ≡ d) × (t ≡ s) × (c ≡ block) → ⊥)
      → (IsTrue (set' (Block block)) → IsReachableDirectory geo view' i → ⊥)
      → TreeAgrees geo users' ghost' set' view'
  pruned_tree set set' view view' a fewer number before gone out = record {
    places = λ j e t c f p. elim (a.tree.places j e t c (fewer (Record j) f) (before j e t c p)) [
      | inr g ↦ inr (g.0, or_right (same_gone (k j e t c g.0) _) _ (or_right (same_gone (k j e t c g.0) _) _ (or_right (same_gone (k j e t c g.0) _) _ g.1)))
      | inl there ↦ elim (stays_or_gone j e t c there) [ inl still ↦ inl still | inr at ↦ inr (block, at.0) ]
    ];
    directories = λ j e t c r f low p.
        let r' : IsReachableDirectory geo users j ⊎ IsTrue (ghost.entering j) = elim r [ inl y ↦ inl (back_users j y) | inr y ↦ inr y ] in
        elim (stays_or_gone j e t c (a.tree.directories j e t c r' (fewer (NumberBit j) f) low (before j e t c p))) [
          | inl still ↦ still
          | inr at ↦ absurd (let ji : j ≡ i = at.1 low in elim r [
            | inl y ↦ users_pruned (subst (λ x. IsReachableDirectory geo users' x) ji y)
            | inr y ↦ both_ways (ghost.entering i) may.not_entering (subst (λ x. IsTrue (ghost.entering x)) ji y)
          ])
        ];
    numbers = λ j e t c low p f. number j (a.tree.numbers j e t c low (places_back j e t c p) (fewer (Block c) f));
    removed = λ g y f p. elim (or_cases (same_gone g _) _ y) [
      | inl one ↦ let x = same_gone_parts g _ one in gone (subst (λ z. IsTrue (set' (Block z))) x.witness f) g.number g.directory g.slot g.block p (x.directory, x.slot, x.block)
      | inr more ↦ elim (or_cases (same_gone g _) _ more) [
        | inl two ↦ let x = same_gone_parts g _ two in out (subst (λ z. IsTrue (set' (Block z))) x.witness f) (subst (λ z. IsReachableDirectory geo view' z) x.directory p.reachable)
        | inr rest ↦ elim (or_cases (same_gone g _) _ rest) [
          | inl three ↦ let x = same_gone_parts g _ three in out (subst (λ z. IsTrue (set' (Block z))) x.witness f) (subst (λ z. IsReachableDirectory geo view' z) x.directory p.reachable)
          | inr old ↦ a.tree.removed g old (fewer (Block g.witness) f) (before g.number g.directory g.slot g.block p)
        ]
      ]
    ];
  }
    where
      k : ℕ → ℕ → ℕ → ℕ → ℕ → Gone
      k j e t c x = record { number = j; directory = e; slot = t; block = c; witness = x }

  pruned_take : (set : Cell → Bool) (view : View) → Agrees geo users ghost set view → IsTrue (set (Block block)) → AreIn after set
      → SlotTaken geo disk q ghost ghost'.gone ghost.entering ghost.safe after block bytes set view
  pruned_take set view a own met = elim (two_cases geo users ghost block bytes d s (Good i name) Empty h_users set view a own) [
    | inl none ↦
        let shape = unclaimed_shape geo view block bytes none in
        record {
          uses = shape.uses;
          rules = unclaimed_rules geo view block bytes none a.rules;
          tree = pruned_tree set set view view' a (λ c f. f) (λ n f. f)
              (λ j e t c p. place_back geo view view' shape.tree j e t c p)
              (λ f j e t c p at. none e (t / 16) (subst (λ x. IsClaim geo view e (t / 16) x) at.2 (place_back geo view view' shape.tree j e t c p).block))
              (λ f r. entries_gone (λ e t x. let p = place_of geo view i e t x.reachable x.names in
              let there = entry_there e t p.0 x.after_dots p.1 in
              none e (t / 16) (subst (λ z. IsClaim geo view e (t / 16) z) there.2 p.1.block)) (tree_back shape.tree r));
          safe = λ f t. reachable_kept geo view view' shape.tree f;
        }
    | inr there ↦ elim (reached_or_not geo view d) [
      | inr out ↦
          let tree = unreached_tree geo view block bytes d s (Good i name) Empty there.0 a.rules.rule3 out in
          record {
            uses = slot_uses geo view block bytes d s (Good i name) Empty there.0 a.rules.rule3;
            rules = unreached_rules geo view block bytes d s (Good i name) Empty there.0 a.rules out;
            tree = pruned_tree set set view view' a (λ c f. f) (λ n f. f)
                (λ j e t c p. place_back geo view view' tree j e t c p)
                (λ f j e t c p at. out (subst (λ x. IsReachableDirectory geo view x) at.0 (place_back geo view view' tree j e t c p).reachable))
                (λ f r. entries_gone (λ e t x. let p = place_of geo view i e t x.reachable x.names in
                let at = entry_there e t p.0 x.after_dots p.1 in
                out (subst (λ z. IsReachableDirectory geo view z) at.0 x.reachable)) (tree_back tree r));
            safe = λ f t. reachable_kept geo view view' tree f;
          }
      | inl reached ↦
          let h = there.0 in
          let here : Names geo view d s i = (name, slot_before geo view block bytes d s (Good i name) Empty h a.rules.rule3) in
          let used : (view.inode i).mode ≢ 0 = λ z. sound_used geo (view.inode i) (a.rules.rule6.sound d s i reached here) z in
          let leaf = view_leaf used in
          let one = λ (e t : ℕ) (x : IsEntry geo view e t i). (let p = place_of geo view i e t x.reachable x.names in let at = entry_there e t p.0 x.after_dots p.1 in pair e t at.0 at.1) in
          let came = prune_place_back geo view block bytes d s i name h a.rules may.change.after_dots not_root one leaf in
          record {
            uses = slot_uses geo view block bytes d s (Good i name) Empty h a.rules.rule3;
            rules = prune_obeys geo view block bytes d s i name h a.rules may.change.after_dots not_root one leaf;
            tree = pruned_tree set set view view' a (λ c f. f) (λ n f. f) came
                (λ f j e t c p at. let k = names_at_slot_now geo view block bytes d s (Good i name) Empty h a.rules.rule3 e t j (at.0, at.1) p.names in let same : Empty ≡ Good j k.0 = k.1 in cc)
                (λ f r. pruned geo view block bytes d s i name h a.rules may.change.after_dots not_root one leaf r);
            safe = λ f t. prune_reachable geo view block bytes d s i name h a.rules may.change.after_dots not_root one leaf f (λ e. both_ways (ghost.safe i) may.not_safe (subst (λ x. IsTrue (ghost.safe x)) e t));
          }
    ]
  ]
    where
      view' : View
      view' = updated view (SetBytes block bytes)

      pair : (e t : ℕ) → e ≡ d → t ≡ s → (e ≡ d) × (t ≡ s)
      pair e t x y = (x, y)

      bit : IsTrue (set (NumberBit i))
      bit = a.tree.numbers i d s block may.change.after_dots (record { reachable = may.change.reachable; names = the_entry.names; block = h_users.claim }) own

      -- an entry of the cut is the users' one
      entry_there : (e t c : ℕ) → 2 ≤ t → HasPlace geo view i e t c → (e ≡ d) × (t ≡ s) × (c ≡ block)
      entry_there e t c low p =
          let u = a.tree.directories i e t c (inl users_reached) bit low p in
          let at = only_entry e t (record { reachable = u.reachable; after_dots = low; names = u.names }) in
          (at.0, at.1, the_block geo users block bytes d s (Good i name) Empty h_users rules.rule3 e t c at u.block)

      entries_gone : ((e t : ℕ) → IsEntry geo view e t i → ⊥) → IsReachableDirectory geo view i → ⊥
      entries_gone none r = by_path r.0 r.1
        where
          by_path : (n : ℕ) → Path geo view n i → ⊥
          by_path zero p = not_root p.0
          by_path (suc n) p = none p.0 p.1 (record { reachable = (n, p.2); after_dots = p.3; names = p.4 })

      tree_back : SameTree geo view view' → IsReachableDirectory geo view' i → IsReachableDirectory geo view i
      tree_back t r = back geo view view' t i r

      -- the directory is empty in the cut
      view_leaf : (view.inode i).mode ≢ 0 → (t j : ℕ) → 2 ≤ t → Names geo view i t j → ⊥
      view_leaf used t j low n =
          let at = slot_content geo view i t (Good j n.0) (λ z. cc) n.1 in
          let claim = claim_parts geo view i (t / 16) at.block at.claimed in
          let two : (users.inode i).mode ≡ 2 = directory_mode geo users i may.directory in
          let claimed : IsUse geo users i (t / 16) at.block = a.modes.uses i (t / 16) at.block bit (λ z. omega (arith, two, z)) at.directory claim.0 in
          let below : t / 16 < most_blocks geo = omega (arith, at.below) in
          let same : view.bytes at.block ≡ users.bytes at.block = a.same (Block at.block) (met (Block at.block) (may.blocks (t / 16) at.block below (claimed, claim.1))) in
          may.empty t j low (n.0, slot_claimed geo users i t at.block may.directory below (claimed, claim.1) ∙ ap (λ x. slot_in geo x t) (sym same) ∙ at.content)

pub remove_directory_keeps : (geo : Geometry) (disk : View) (q : List Pending) (ghost : Ghost) (after : List Cell) (block : ℕ) (bytes : List ℕ) (d s i b : ℕ) (name : List ℕ)
    → MayRemoveDirectory geo (users_view disk q) ghost after block bytes d s i b name → Keeps geo disk q ghost (record { change = SetBytes block bytes; after = after }) (removed_directory i d s block b ghost)
remove_directory_keeps geo disk q ghost after block bytes d s i b name may all =
    let rules = users_obey geo disk q ghost all in
    slot_step geo disk q ghost (removed_directory i d s block b ghost).gone ghost.entering ghost.safe after block bytes
    (λ f h. h) (slot_uses geo (users_view disk q) block bytes d s (Good i name) Empty (slot_change may.change.slot) rules.rule3)
    (λ set view a. pruned_tree geo disk q ghost after block bytes d s i b name may rules set (without set (Block block)) view view a
    (λ c f. was_fresh set (Block block) c f) (λ n f. still_fresh set (Block block) (NumberBit n) f (λ e. cc))
    (λ j e t c p. p)
    (λ f j e t c p at. is_other set (Block block) (Block block) f refl)
    (λ f r. is_other set (Block block) (Block block) f refl))
    (pruned_take geo disk q ghost after block bytes d s i b name may rules) all
