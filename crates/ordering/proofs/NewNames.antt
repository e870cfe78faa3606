-- The kinds of update that put a name into a slot: a file's entry comes, or an entry gets another name.
use Rattle.std.proofs.Common.{◌≡◌, ℕ, ◌<◌, ◌≤◌, ◌/◌, Bool, ◌&&◌, List, ◌⊎◌, inl, inr, refl, sym, ap, ◌∙◌, subst, IsTrue, le_refl, arith}
use Rattle.std.proofs.lemmas.Bool.{both_ways, cases_eq, and_parts}
use Rattle.model.specs.Layout.{Geometry, is_number}
use Rattle.model.specs.View.{View, Inode}
use Rattle.model.specs.Cells.{SetBytes, updated}
use Rattle.model.specs.Shape.{most_blocks}
use Rattle.model.specs.Uses.{is_directory_at, is_sound, IsUse}
use Rattle.model.specs.Slots.{Slot, Empty, Good, Bad, slot, slot_in, Names}
use Rattle.model.specs.Reach.{IsReachableDirectory, IsReachable, HasEntries}
use Rattle.model.specs.Rules.{ObeysRules, UsesAreClaims, SlotsAreRight}
use Rattle.model.proofs.SlotLemmas.{slot_content, number_low}
use Rattle.model.proofs.UseLemmas.{claim_parts, uses_obey}
use Rattle.ordering.specs.Cuts.{Cell, Record, NumberBit, Block, Pending, users_view, without, AreIn}
use Rattle.ordering.specs.Places.{HasPlace}
use Rattle.ordering.specs.Ghosts.{Ghost}
use Rattle.ordering.specs.Agrees.{Agrees, TreeAgrees}
use Rattle.ordering.specs.Kinds.{Keeps}
use Rattle.ordering.specs.OneSlot.{IsNewName, MayEnter, MayRename}
use Rattle.ordering.proofs.CutLemmas.{was_fresh, is_other, still_fresh}
use Rattle.ordering.proofs.Places.{place_back, place_of, place_to, place_from, slot_change, places_stay}
use Rattle.ordering.proofs.Bits.{users_obey}
use Rattle.ordering.proofs.Data.{directory_mode}
use Rattle.model.proofs.Slots.{slot_claimed}
use Rattle.model.proofs.SameTree.{reachable_kept}
use Rattle.model.proofs.EntryCounts.{entries_within, links_at}
use Rattle.model.proofs.SlotChange.{slot_uses, slot_before, slot_now, slot_others, at_or_not, names_there, names_then, the_block, block_there, block_then, SlotChange, names_at_slot, names_at_slot_now}
use Rattle.model.proofs.SameReach.{SameReach, reach_kept, reach_back, reach_obeys, slots_right}
use Rattle.ordering.proofs.SlotSteps.{SlotTaken, slot_step}
use Rattle.ordering.proofs.SlotKinds.{two_cases, unclaimed_shape, unclaimed_rules, no_file_directory}

-- a name that is new to the users is new in a cut with the last bytes of the directory's blocks
pub new_in_cut : (geo : Geometry) (users : View) (ghost : Ghost) (after : List Cell) (block d s : ℕ) (name : List ℕ) → IsTrue (is_directory_at geo users d) → IsNewName geo users after block d s name
    → (set : Cell → Bool) (view : View) → Agrees geo users ghost set view → IsTrue (set (Block block)) → AreIn after set → IsTrue (set (NumberBit d))
    → (t j : ℕ) → 2 ≤ t → (t ≡ s → ⊥) → slot geo view d t ≡ Good j name → ⊥
new_in_cut geo users ghost after block d s name dir fresh_name set view a own met bit t j low other e =
    let at = slot_content geo view d t (Good j name) (λ z. cc) e in
    let claim = claim_parts geo view d (t / 16) at.block at.claimed in
    let two : (users.inode d).mode ≡ 2 = directory_mode geo users d dir in
    let claimed : IsUse geo users d (t / 16) at.block = a.modes.uses d (t / 16) at.block bit (λ z. omega (arith, two, z)) at.directory claim.0 in
    let below : t / 16 < most_blocks geo = omega (arith, at.below) in
    let written : IsTrue (set (Block at.block)) = elim (cases_eq at.block block) [
      | inl same ↦ subst (λ b. IsTrue (set (Block b))) (sym same) own
      | inr differs ↦ met (Block at.block) (fresh_name.others (t / 16) at.block below (claimed, claim.1) differs)
    ] in
    fresh_name.new t j low other (slot_claimed geo users d t at.block dir below (claimed, claim.1) ∙ ap (λ b. slot_in geo b t) (sym (a.same (Block at.block) written)) ∙ at.content)

-- the sixth rule, where a slot gets a new name of a sound inode
pub named_slots_right : (geo : Geometry) (v : View) (block : ℕ) (bytes : List ℕ) (d s : ℕ) (old : Slot) (i : ℕ) (name : List ℕ) (h : SlotChange geo v block bytes d s old (Good i name)) (o : ObeysRules geo v)
    → SameReach geo v (updated v (SetBytes block bytes)) → ((t j : ℕ) → 2 ≤ t → (t ≡ s → ⊥) → slot geo v d t ≡ Good j name → ⊥)
    → (IsReachableDirectory geo v d → IsTrue (is_sound geo (v.inode i))) → SlotsAreRight geo (updated v (SetBytes block bytes))
named_slots_right geo v block bytes d s old i name h o r new sound =
    slots_right geo v (updated v (SetBytes block bytes)) r d s (Good i name)
    (slot_others geo v block bytes d s old (Good i name) h o.rule3) (slot_now geo v block bytes d s old (Good i name) h o.rule3) o
    (λ e. (let bad : Good i name ≡ Bad = e in cc))
    (λ t j k other e two apart is. new t j two apart (subst (λ q. slot geo v d t ≡ Good j q) (same_name e) is))
    (λ j other p e. subst (λ q. IsTrue (is_sound geo (v.inode q))) (same_number e) (sound p))
    (λ j k. k)
  where
    same_name : {k : ℕ} {other : List ℕ} → Good i name ≡ Good k other → other ≡ name
    same_name e = cc

    same_number : {k : ℕ} {other : List ℕ} → Good i name ≡ Good k other → i ≡ k
    same_number e = cc

-- what is reachable, where the places of an inode are among the old ones
pub reachable_by_places : (geo : Geometry) (v w : View) → SameReach geo v w → v.inode ≡ w.inode → (j : ℕ) → ((e t c : ℕ) → HasPlace geo w j e t c → HasPlace geo v j e t c) → IsReachable geo w j → IsReachable geo v j
reachable_by_places geo v w r same j places (inl y) = inl (reach_back geo v w r j y)
reachable_by_places geo v w r same j places (inr y) =
    let p = place_of geo w j y.1 y.2 y.3.reachable y.3.names in
    let old = places y.1 y.2 p.0 p.1 in
    inr (ap (λ (f : ℕ → Inode). is_number geo j && is_sound geo (f j)) same ∙ y.0, y.1, y.2, record { reachable = old.reachable; after_dots = y.3.after_dots; names = old.names })

-- what stays reachable, where the places of an inode stay
pub reachable_by_kept : (geo : Geometry) (v w : View) → SameReach geo v w → v.inode ≡ w.inode → (j : ℕ) → ((e t c : ℕ) → HasPlace geo v j e t c → HasPlace geo w j e t c) → IsReachable geo v j → IsReachable geo w j
reachable_by_kept geo v w r same j places (inl y) = inl (reach_kept geo v w r j y)
reachable_by_kept geo v w r same j places (inr y) =
    let p = place_of geo v j y.1 y.2 y.3.reachable y.3.names in
    let new = places y.1 y.2 p.0 p.1 in
    inr (ap (λ (f : ℕ → Inode). is_number geo j && is_sound geo (f j)) (sym same) ∙ y.0, y.1, y.2, record { reachable = new.reachable; after_dots = y.3.after_dots; names = new.names })

-- ---- a file's name comes

module _ (geo : Geometry) (disk : View) (q : List Pending) (ghost : Ghost) (after : List Cell) (block : ℕ) (bytes : List ℕ) (d s i : ℕ) (name : List ℕ)
    (may : MayEnter geo (users_view disk q) ghost after block bytes d s i name) where
  abbrev users : View
  users = users_view disk q

  abbrev users' : View
  users' = updated users (SetBytes block bytes)

  module _ (rules : ObeysRules geo users) where
    pub entered_reach : (v : View) → SlotChange geo v block bytes d s Empty (Good i name) → UsesAreClaims geo v → (IsTrue (is_directory_at geo v i) → ⊥) → SameReach geo v (updated v (SetBytes block bytes))
    entered_reach v h u file = record {
      directories = λ j. refl;
      names = λ e t j dir. elim (at_or_not d s e t) [
        | inr other ↦ (names_there geo v block bytes d s Empty (Good i name) h u e t j other, names_then geo v block bytes d s Empty (Good i name) h u e t j other)
        | inl at ↦ (
          (λ n. absurd (let k = names_at_slot geo v block bytes d s Empty (Good i name) h u e t j at n in let same : Empty ≡ Good j k.0 = k.1 in cc)),
          (λ n. absurd (let k = names_at_slot_now geo v block bytes d s Empty (Good i name) h u e t j at n in let same : Good i name ≡ Good j k.0 = k.1 in let ij : j ≡ i = cc in file (subst (λ x. IsTrue (is_directory_at geo v x)) ij dir))),
        )
      ];
    }

    stays : (v : View) (h : SlotChange geo v block bytes d s Empty (Good i name)) (u : UsesAreClaims geo v) → SameReach geo v (updated v (SetBytes block bytes))
        → (j e t c : ℕ) → HasPlace geo v j e t c → HasPlace geo (updated v (SetBytes block bytes)) j e t c
    stays v h u r j e t c p = elim (at_or_not d s e t) [
      | inr other ↦ place_to geo v block bytes d s Empty (Good i name) h u r j e t c other p
      | inl at ↦ absurd (let k = names_at_slot geo v block bytes d s Empty (Good i name) h u e t j at p.names in let same : Empty ≡ Good j k.0 = k.1 in cc)
    ]

    pub came : (v : View) (h : SlotChange geo v block bytes d s Empty (Good i name)) (u : UsesAreClaims geo v) → SameReach geo v (updated v (SetBytes block bytes))
        → (j e t c : ℕ) → HasPlace geo (updated v (SetBytes block bytes)) j e t c → ((j ≡ i) × (e ≡ d) × (t ≡ s) × (c ≡ block)) ⊎ HasPlace geo v j e t c
    came v h u r j e t c p = elim (at_or_not d s e t) [
      | inr other ↦ inr (place_from geo v block bytes d s Empty (Good i name) h u r j e t c other p)
      | inl at ↦ inl (
          let k = names_at_slot_now geo v block bytes d s Empty (Good i name) h u e t j at p.names in
          let same : Good i name ≡ Good j k.0 = k.1 in
          let ij : j ≡ i = cc in
          (ij, at.0, at.1, the_block geo v block bytes d s Empty (Good i name) h u e t c at (block_then geo v block bytes d s Empty (Good i name) h u e t c p.block)))
    ]

    h_users : SlotChange geo users block bytes d s Empty (Good i name)
    h_users = slot_change may.change.slot

    reach : SameReach geo users users'
    reach = entered_reach users h_users rules.rule3 (no_file_directory geo users i may.file)

    the_place : (j e t c : ℕ) → (j ≡ i) × (e ≡ d) × (t ≡ s) × (c ≡ block) → HasPlace geo users' j e t c
    the_place j e t c at =
        subst (λ x. HasPlace geo users' x e t c) (sym at.0) (subst (λ x. HasPlace geo users' i x t c) (sym at.1) (subst (λ x. HasPlace geo users' i d x c) (sym at.2) (subst (λ x. HasPlace geo users' i d s x) (sym at.3) (record {
          reachable = reach_kept geo users users' reach d may.change.reachable;
          names = (name, slot_now geo users block bytes d s Empty (Good i name) h_users rules.rule3);
          block = block_there geo users block bytes d s Empty (Good i name) h_users rules.rule3 d s block h_users.claim;
        }))))

    entered_tree : (set set' : Cell → Bool) (view view' : View) → Agrees geo users ghost set view
        → ((c : Cell) → IsTrue (set' c) → IsTrue (set c)) → ((n : ℕ) → IsTrue (set (NumberBit n)) → IsTrue (set' (NumberBit n)))
        → ((j e t c : ℕ) → HasPlace geo view' j e t c → ((j ≡ i) × (e ≡ d) × (t ≡ s) × (c ≡ block)) ⊎ HasPlace geo view j e t c)
        → (IsTrue (set' (Block block)) → IsTrue (set' (NumberBit i)))
        → TreeAgrees geo users' ghost set' view'
    entered_tree set set' view view' a fewer number before bit = record {
      places = λ j e t c f p. elim (before j e t c p) [
        | inl at ↦ inl (the_place j e t c at)
        | inr old ↦ elim (a.tree.places j e t c (fewer (Record j) f) old) [
          | inl there ↦ inl (stays users h_users rules.rule3 reach j e t c there)
          | inr g ↦ inr g
        ]
      ];
      directories = λ j e t c r f low p. elim (before j e t c p) [
        | inl at ↦ the_place j e t c at
        | inr old ↦
            let r' : IsReachableDirectory geo users j ⊎ IsTrue (ghost.entering j) = elim r [ inl y ↦ inl (reach_back geo users users' reach j y) | inr y ↦ inr y ] in
            stays users h_users rules.rule3 reach j e t c (a.tree.directories j e t c r' (fewer (NumberBit j) f) low old)
      ];
      numbers = λ j e t c low p f. elim (came users h_users rules.rule3 reach j e t c p) [
        | inl at ↦ subst (λ x. IsTrue (set' (NumberBit x))) (sym at.0) (bit (subst (λ x. IsTrue (set' (Block x))) at.3 f))
        | inr old ↦ number j (a.tree.numbers j e t c low old (fewer (Block c) f))
      ];
      removed = λ g y f p. absurd (both_ways (ghost.gone g) (may.none_gone g) y);
    }

    entered_take : (set : Cell → Bool) (view : View) → Agrees geo users ghost set view → IsTrue (set (Block block)) → AreIn after set
        → SlotTaken geo disk q ghost ghost.gone ghost.entering ghost.safe after block bytes set view
    entered_take set view a own met = elim (two_cases geo users ghost block bytes d s Empty (Good i name) h_users set view a own) [
      | inl none ↦
          let shape = unclaimed_shape geo view block bytes none in
          record {
            uses = shape.uses;
            rules = unclaimed_rules geo view block bytes none a.rules;
            tree = entered_tree set set view view' a (λ c f. f) (λ n f. f) (λ j e t c p. inr (place_back geo view view' shape.tree j e t c p)) (λ f. bit);
            safe = λ f t. reachable_kept geo view view' shape.tree f;
          }
      | inr there ↦
          let h = there.0 in
          let r = entered_reach view h a.rules.rule3 file in
          let came_view = came view h a.rules.rule3 r in
          record {
            uses = slot_uses geo view block bytes d s Empty (Good i name) h a.rules.rule3;
            rules = reach_obeys geo view view' r a.rules a.rules.rule2
                (uses_obey geo view view' (slot_uses geo view block bytes d s Empty (Good i name) h a.rules.rule3) (λ b n k c. a.rules.rule3.marked n k b c) a.rules.rule3)
                a.rules.rule4
                (named_slots_right geo view block bytes d s Empty i name h a.rules r
                (new_in_cut geo users ghost after block d s name h_users.directory may.fresh_name set view a own met there.1)
                (λ reached. sound))
                (λ j n reached e. elim (cases_eq j i) [
                  | inl ji ↦
                      let inside = entries_within geo view' users' i low_number
                      (places_stay geo view' users' i (λ e t c p. elim (came_view i e t c p) [
                        | inl at ↦ the_place i e t c at
                        | inr old ↦ elim (a.tree.places i e t c written old) [
                          | inl u ↦ stays users h_users rules.rule3 reach i e t c u
                          | inr g ↦ absurd (both_ways (ghost.gone (record { number = i; directory = e; slot = t; block = c; witness = g.0 })) (may.none_gone (record { number = i; directory = e; slot = t; block = c; witness = g.0 })) g.1)
                        ]
                      ])) n (subst (λ x. HasEntries geo view' x n) ji e) in
                      let enough = may.links inside.0 inside.1 in
                      let links : (view.inode j).links ≡ (users.inode i).links = ap (λ x. (view.inode x).links) ji ∙ ap (λ (y : Inode). y.links) same in
                      omega (arith, enough, inside.2, links)
                  | inr other ↦ links_at geo view view' j
                      (reachable_by_places geo view view' r refl j (λ e t c p. elim (came_view j e t c p) [ inl at ↦ absurd (other at.0) | inr old ↦ old ]))
                      (places_stay geo view' view j (λ e t c p. elim (came_view j e t c p) [ inl at ↦ absurd (other at.0) | inr old ↦ old ]))
                      (le_refl (view.inode j).links) a.rules.rule8 n reached e
                ]);
            tree = entered_tree set set view view' a (λ c f. f) (λ n f. f) came_view (λ f. bit);
            safe = λ f t. reachable_by_kept geo view view' r refl f (stays view h a.rules.rule3 r f);
          }
    ]
      where
        view' : View
        view' = updated view (SetBytes block bytes)

        written : IsTrue (set (Record i))
        written = met (Record i) may.record_first

        same : view.inode i ≡ users.inode i
        same = a.same (Record i) written

        bit : IsTrue (set (NumberBit i))
        bit = a.numbers.used i (λ z. let one : (users.inode i).mode ≡ 1 = may.file in omega (arith, one, z)) written

        file : IsTrue (is_directory_at geo view i) → ⊥
        file = no_file_directory geo view i (ap (λ (y : Inode). y.mode) same ∙ may.file)

        sound_parts : IsTrue (is_number geo i) × IsTrue (is_sound geo (users.inode i))
        sound_parts = and_parts (is_number geo i) (is_sound geo (users.inode i)) may.sound

        sound : IsTrue (is_sound geo (view.inode i))
        sound = ap (is_sound geo) same ∙ sound_parts.1

        low_number : 1 ≤ i
        low_number = omega (arith, number_low geo i sound_parts.0)

  pub enter_keeps : Keeps geo disk q ghost (record { change = SetBytes block bytes; after = after }) ghost
  enter_keeps all =
      let rules = users_obey geo disk q ghost all in
      slot_step geo disk q ghost ghost.gone ghost.entering ghost.safe after block bytes
      (λ f h. h) (slot_uses geo users block bytes d s Empty (Good i name) (slot_change may.change.slot) rules.rule3)
      (λ set view a. entered_tree rules set (without set (Block block)) view view a
      (λ c f. was_fresh set (Block block) c f) (λ n f. still_fresh set (Block block) (NumberBit n) f (λ e. cc))
      (λ j e t c p. inr p)
      (λ f. absurd (is_other set (Block block) (Block block) f refl)))
      (entered_take rules) all

-- ---- an entry gets another name

module _ (geo : Geometry) (disk : View) (q : List Pending) (ghost : Ghost) (after : List Cell) (block : ℕ) (bytes : List ℕ) (d s i : ℕ) (old new : List ℕ)
    (may : MayRename geo (users_view disk q) after block bytes d s i old new) where
  abbrev renamed_users : View
  renamed_users = users_view disk q

  abbrev renamed_users' : View
  renamed_users' = updated renamed_users (SetBytes block bytes)

  renamed_slot : SlotChange geo renamed_users block bytes d s (Good i old) (Good i new)
  renamed_slot = slot_change may.change.slot

  module _ (v : View) (h : SlotChange geo v block bytes d s (Good i old) (Good i new)) (u : UsesAreClaims geo v) where
    abbrev w : View
    w = updated v (SetBytes block bytes)

    renamed_there : (e t j : ℕ) → Names geo v e t j → Names geo w e t j
    renamed_there e t j n = elim (at_or_not d s e t) [
      | inr other ↦ names_there geo v block bytes d s (Good i old) (Good i new) h u e t j other n
      | inl at ↦
          let k = names_at_slot geo v block bytes d s (Good i old) (Good i new) h u e t j at n in
          let same : Good i old ≡ Good j k.0 = k.1 in
          let ij : i ≡ j = cc in
          (new, subst (λ x. slot geo w x t ≡ Good j new) (sym at.0) (subst (λ x. slot geo w d x ≡ Good j new) (sym at.1) (slot_now geo v block bytes d s (Good i old) (Good i new) h u ∙ ap (λ x. Good x new) ij)))
    ]

    renamed_then : (e t j : ℕ) → Names geo w e t j → Names geo v e t j
    renamed_then e t j n = elim (at_or_not d s e t) [
      | inr other ↦ names_then geo v block bytes d s (Good i old) (Good i new) h u e t j other n
      | inl at ↦
          let k = names_at_slot_now geo v block bytes d s (Good i old) (Good i new) h u e t j at n in
          let same : Good i new ≡ Good j k.0 = k.1 in
          let ij : i ≡ j = cc in
          (old, subst (λ x. slot geo v x t ≡ Good j old) (sym at.0) (subst (λ x. slot geo v d x ≡ Good j old) (sym at.1) (slot_before geo v block bytes d s (Good i old) (Good i new) h u ∙ ap (λ x. Good x old) ij)))
    ]

    renamed_reach : SameReach geo v w
    renamed_reach = record { directories = λ j. refl; names = λ e t j dir. (renamed_there e t j, renamed_then e t j) }

    renamed_place : (j e t c : ℕ) → HasPlace geo v j e t c → HasPlace geo w j e t c
    renamed_place j e t c p = record { reachable = reach_kept geo v w renamed_reach e p.reachable; names = renamed_there e t j p.names; block = block_there geo v block bytes d s (Good i old) (Good i new) h u e t c p.block }

    renamed_back : (j e t c : ℕ) → HasPlace geo w j e t c → HasPlace geo v j e t c
    renamed_back j e t c p = record { reachable = reach_back geo v w renamed_reach e p.reachable; names = renamed_then e t j p.names; block = block_then geo v block bytes d s (Good i old) (Good i new) h u e t c p.block }

  module _ (rules : ObeysRules geo renamed_users) where
    renamed_tree : (set set' : Cell → Bool) (view view' : View) → Agrees geo renamed_users ghost set view
        → ((c : Cell) → IsTrue (set' c) → IsTrue (set c)) → ((n : ℕ) → IsTrue (set (NumberBit n)) → IsTrue (set' (NumberBit n)))
        → ((j e t c : ℕ) → HasPlace geo view' j e t c → HasPlace geo view j e t c)
        → TreeAgrees geo renamed_users' ghost set' view'
    renamed_tree set set' view view' a fewer number before = record {
      places = λ j e t c f p. elim (a.tree.places j e t c (fewer (Record j) f) (before j e t c p)) [
        | inl there ↦ inl (renamed_place renamed_users renamed_slot rules.rule3 j e t c there)
        | inr g ↦ inr g
      ];
      directories = λ j e t c r f low p.
          let r' : IsReachableDirectory geo renamed_users j ⊎ IsTrue (ghost.entering j) = elim r [ inl y ↦ inl (reach_back geo renamed_users renamed_users' (renamed_reach renamed_users renamed_slot rules.rule3) j y) | inr y ↦ inr y ] in
          renamed_place renamed_users renamed_slot rules.rule3 j e t c (a.tree.directories j e t c r' (fewer (NumberBit j) f) low (before j e t c p));
      numbers = λ j e t c low p f. number j (a.tree.numbers j e t c low (renamed_back renamed_users renamed_slot rules.rule3 j e t c p) (fewer (Block c) f));
      removed = λ g y f p. a.tree.removed g y (fewer (Block g.witness) f) (before g.number g.directory g.slot g.block p);
    }

    renamed_take : (set : Cell → Bool) (view : View) → Agrees geo renamed_users ghost set view → IsTrue (set (Block block)) → AreIn after set
        → SlotTaken geo disk q ghost ghost.gone ghost.entering ghost.safe after block bytes set view
    renamed_take set view a own met = elim (two_cases geo renamed_users ghost block bytes d s (Good i old) (Good i new) renamed_slot set view a own) [
      | inl none ↦
          let shape = unclaimed_shape geo view block bytes none in
          record {
            uses = shape.uses;
            rules = unclaimed_rules geo view block bytes none a.rules;
            tree = renamed_tree set set view view' a (λ c f. f) (λ n f. f) (λ j e t c p. place_back geo view view' shape.tree j e t c p);
            safe = λ f t. reachable_kept geo view view' shape.tree f;
          }
      | inr there ↦
          let h = there.0 in
          let r = renamed_reach view h a.rules.rule3 in
          let back = renamed_back view h a.rules.rule3 in
          record {
            uses = slot_uses geo view block bytes d s (Good i old) (Good i new) h a.rules.rule3;
            rules = reach_obeys geo view view' r a.rules a.rules.rule2
                (uses_obey geo view view' (slot_uses geo view block bytes d s (Good i old) (Good i new) h a.rules.rule3) (λ b n k c. a.rules.rule3.marked n k b c) a.rules.rule3)
                a.rules.rule4
                (named_slots_right geo view block bytes d s (Good i old) i new h a.rules r
                (new_in_cut geo renamed_users ghost after block d s new may.change.slot.directory may.fresh_name set view a own met there.1)
                (λ reached. a.rules.rule6.sound d s i reached (old, slot_before geo view block bytes d s (Good i old) (Good i new) h a.rules.rule3)))
                (λ j n reached e. links_at geo view view' j (reachable_by_places geo view view' r refl j (back j)) (places_stay geo view' view j (back j)) (le_refl (view.inode j).links) a.rules.rule8 n reached e);
            tree = renamed_tree set set view view' a (λ c f. f) (λ n f. f) back;
            safe = λ f t. reachable_by_kept geo view view' r refl f (renamed_place view h a.rules.rule3 f);
          }
    ]
      where
        view' : View
        view' = updated view (SetBytes block bytes)

  pub rename_keeps : Keeps geo disk q ghost (record { change = SetBytes block bytes; after = after }) ghost
  rename_keeps all =
      let rules = users_obey geo disk q ghost all in
      slot_step geo disk q ghost ghost.gone ghost.entering ghost.safe after block bytes
      (λ f h. h) (slot_uses geo renamed_users block bytes d s (Good i old) (Good i new) renamed_slot rules.rule3)
      (λ set view a. renamed_tree rules set (without set (Block block)) view view a
      (λ c f. was_fresh set (Block block) c f) (λ n f. still_fresh set (Block block) (NumberBit n) f (λ e. cc))
      (λ j e t c p. p))
      (renamed_take rules) all
