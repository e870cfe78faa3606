-- The kinds of update that change one slot, whose number is a file's or stays.
use Rattle.std.proofs.Common.{◌≡◌, ℕ, ◌<◌, ◌≤◌, ◌/◌, Bool, ◌&&◌, ◌||◌, eqb, List, ◌⊎◌, inl, inr, refl, sym, ap, ◌∙◌, subst, IsTrue, le_refl, arith, Some, Contains, eqb-true, eq-eqb, zero, suc}
use Rattle.std.proofs.lemmas.Bool.{both_ways, cases_eq, and_parts, and_from, or_cases, or_left, or_right, false_from_ne_true}
use Rattle.model.specs.Layout.{Geometry, is_number, root}
use Rattle.model.specs.View.{View}
use Rattle.model.specs.Cells.{SetBytes, updated}
use Rattle.model.specs.Shape.{most_blocks}
use Rattle.model.specs.Uses.{use_at, is_directory, is_directory_at, is_sound_at, is_sound, IsClaim}
use Rattle.model.specs.Slots.{Slot, Empty, Good, slot, slot_in, Names}
use Rattle.model.specs.Reach.{Path, IsReachableDirectory, IsReachable, IsEntry}
use Rattle.model.specs.Rules.{ObeysRules, UsesAreClaims}
use Rattle.model.proofs.Unlink.{unlinked_obeys}
use Rattle.model.proofs.SlotLemmas.{reachable_directory, slot_content}
use Rattle.model.proofs.Slots.{slot_claimed}
use Rattle.model.proofs.UseLemmas.{claim_parts}
use Rattle.model.proofs.Uses.{above_table, uses_agree}
use Rattle.model.proofs.SameTree.{reachable_kept}
use Rattle.model.proofs.SameShape.{SameShape, shape_rules}
use Rattle.model.proofs.SlotChange.{slot_uses, slot_before, slot_now, slot_others, at_or_not, names_there, names_then, the_block, SlotChange, names_at_slot, names_at_slot_now}
use Rattle.model.proofs.SameReach.{SameReach, reach_kept, reach_back}
use Rattle.ordering.specs.Cuts.{Cell, Record, NumberBit, BlockBit, Block, Pending, users_view, without, AreIn, SameAt}
use Rattle.ordering.specs.Places.{HasPlace}
use Rattle.ordering.specs.Ghosts.{Ghost, Gone}
use Rattle.ordering.specs.Agrees.{Agrees, TreeAgrees}
use Rattle.ordering.specs.Kinds.{Keeps}
use Rattle.ordering.specs.OneSlot.{MayRemove, is_gone_at, removed, IsKnown, ArePointersKnown, AreGrounds}
use Rattle.ordering.proofs.CutLemmas.{was_fresh, is_other, still_fresh}
use Rattle.ordering.proofs.Places.{place_back, place_to, place_from, slot_change}
use Rattle.ordering.proofs.Claims.{decide_claim}
use Rattle.ordering.proofs.Bits.{users_obey, claim_sound, claim_used}
use Rattle.ordering.proofs.Data.{bytes_shape, directory_mode}
use Rattle.ordering.proofs.SlotSteps.{SlotTaken, slot_step}

pub directory_from : (geo : Geometry) (v : View) (d k b : ℕ) → IsClaim geo v d k b → (v.inode d).mode ≡ 2 → IsTrue (is_directory_at geo v d)
directory_from geo v d k b c two =
    let at = claim_sound geo v d k b c in
    and_from (is_sound_at geo v d) (is_directory (v.inode d)) (and_from (is_number geo d) (is_sound geo (v.inode d)) at.0 at.1) (eq-eqb (v.inode d).mode 2 two)

-- a directory's block in a cut that has its last bytes: nobody claims it, or the directory does at the same position
pub two_cases : (geo : Geometry) (users : View) (ghost : Ghost) (block : ℕ) (bytes : List ℕ) (d s : ℕ) (old new : Slot) → SlotChange geo users block bytes d s old new
    → (set : Cell → Bool) (view : View) → Agrees geo users ghost set view → IsTrue (set (Block block))
    → ((n k : ℕ) → IsClaim geo view n k block → ⊥) ⊎ (SlotChange geo view block bytes d s old new × IsTrue (set (NumberBit d)))
two_cases geo users ghost block bytes d s old new h set view a own = elim (decide_claim geo view d (s / 16) block h.claim.1) [
  | inr none ↦ inl (λ n k c. let e = a.blocks.claimed block d (s / 16) n k bit h.claim c in
      none (subst (λ x. IsClaim geo view x (s / 16) block) e.0 (subst (λ x. IsClaim geo view n x block) e.1 c)))
  | inl c ↦
      let e = a.blocks.claimed block d (s / 16) d (s / 16) bit h.claim c in
      let mode : (view.inode d).mode ≡ (users.inode d).mode = a.modes.mode d e.2 (λ z. claim_used geo users d (s / 16) block h.claim z) (λ z. claim_used geo view d (s / 16) block c z) in
      inr (
        record {
          claim = c;
          directory = directory_from geo view d (s / 16) block c (mode ∙ directory_mode geo users d h.directory);
          below = h.below;
          others = λ t at differs. ap (λ b. slot_in geo b t) same ∙ h.others t at differs;
          before = ap (λ b. slot_in geo b s) same ∙ h.before;
          now = h.now;
        },
        e.2,
      )
]
  where
    bit : IsTrue (set (BlockBit block))
    bit = a.blocks.marked block d (s / 16) h.claim own

    same : view.bytes block ≡ users.bytes block
    same = a.same (Block block) own

-- where nobody claims the block, nothing changes
pub unclaimed_shape : (geo : Geometry) (v : View) (block : ℕ) (bytes : List ℕ) → ((n k : ℕ) → IsClaim geo v n k block → ⊥) → SameShape geo v (updated v (SetBytes block bytes))
unclaimed_shape geo v block bytes none = bytes_shape geo v block bytes (λ i m t c. none i m c) (λ d k t c. none d k c)

pub unclaimed_rules : (geo : Geometry) (v : View) (block : ℕ) (bytes : List ℕ) → ((n k : ℕ) → IsClaim geo v n k block → ⊥) → ObeysRules geo v → ObeysRules geo (updated v (SetBytes block bytes))
unclaimed_rules geo v block bytes none o =
    shape_rules geo v (updated v (SetBytes block bytes)) (unclaimed_shape geo v block bytes none) o o.rule2 (λ c n k h. o.rule3.marked n k c h) (λ n h u. o.rule4 n h u) (λ i r. le_refl (v.inode i).links)

pub no_file_directory : (geo : Geometry) (v : View) (i : ℕ) → (v.inode i).mode ≡ 1 → IsTrue (is_directory_at geo v i) → ⊥
no_file_directory geo v i one t = let two : (v.inode i).mode ≡ 2 = directory_mode geo v i t in omega (arith, one, two)

-- ---- gone places

pub record IsGoneAt (g : Gone) (i d s b : ℕ) : Type 0 where
  pub number : g.number ≡ i
  pub directory : g.directory ≡ d
  pub slot : g.slot ≡ s
  pub block : g.block ≡ b
  pub witness : g.witness ≡ b

pub gone_parts : (g : Gone) (i d s block : ℕ) → IsTrue (is_gone_at g i d s block) → IsGoneAt g i d s block
gone_parts g i d s block t =
    let p = and_parts (eqb g.number i) _ t in
    let p1 = and_parts (eqb g.directory d) _ p.1 in
    let p2 = and_parts (eqb g.slot s) _ p1.1 in
    let p3 = and_parts (eqb g.block block) _ p2.1 in
    record { number = eqb-true g.number i p.0; directory = eqb-true g.directory d p1.0; slot = eqb-true g.slot s p2.0; block = eqb-true g.block block p3.0; witness = eqb-true g.witness block p3.1 }

pub gone_self : (j e t c i d s block : ℕ) → j ≡ i → e ≡ d → t ≡ s → c ≡ block → IsTrue (is_gone_at (record { number = j; directory = e; slot = t; block = c; witness = block }) i d s block)
gone_self j e t c i d s block a b f g =
    and_from (eqb j i) _ (eq-eqb j i a) (and_from (eqb e d) _ (eq-eqb e d b) (and_from (eqb t s) _ (eq-eqb t s f) (and_from (eqb c block) _ (eq-eqb c block g) (eq-eqb block block refl))))

-- ---- a path whose grounds are known

module _ (geo : Geometry) (users : View) (after : List Cell) (block : ℕ) (view : View) (known : (c : Cell) → IsKnown after block c → SameAt view users c) where
  known_uses : (g : ℕ) → IsKnown after block (Record g) → ArePointersKnown geo users after block g → (k : ℕ) → use_at geo view g k ≡ use_at geo users g k
  known_uses g r p k = sym (uses_agree geo users view g k (λ number. sym (known (Record g) r)) (λ m x above c. sym (known (Block x) (p m x (above_table geo k m above) c))))

  known_directory : (g : ℕ) → IsKnown after block (Record g) → is_directory_at geo view g ≡ is_directory_at geo users g
  known_directory g r = ap (λ y. is_number geo g && is_sound geo y && is_directory y) (known (Record g) r)

  known_names : (g t j : ℕ) → IsKnown after block (Record g) → ArePointersKnown geo users after block g → ((b : ℕ) → IsClaim geo users g (t / 16) b → IsKnown after block (Block b)) → Names geo users g t j → Names geo view g t j
  known_names g t j r p blocks n =
      let at = slot_content geo users g t (Good j n.0) (λ z. cc) n.1 in
      let claim = claim_parts geo users g (t / 16) at.block at.claimed in
      let below : t / 16 < most_blocks geo = omega (arith, at.below) in (
        n.0,
        slot_claimed geo view g t at.block (known_directory g r ∙ at.directory) below (known_uses g r p (t / 16) ∙ claim.0, claim.1)
            ∙ ap (λ x. slot_in geo x t) (known (Block at.block) (blocks at.block claim)) ∙ at.content,
      )

  grounds_record : (n d : ℕ) (p : Path geo users n d) → AreGrounds geo users after block n d p → IsKnown after block (Record d) × ArePointersKnown geo users after block d
  grounds_record zero d p g = (subst (λ x. IsKnown after block (Record x)) (sym p.0) g.0, subst (λ x. ArePointersKnown geo users after block x) (sym p.0) g.1)
  grounds_record (suc n) d p g = (g.1, g.2)

  pub grounds_name : (n d : ℕ) (p : Path geo users n d) → AreGrounds geo users after block n d p → (t j : ℕ) → Names geo users d t j → ((b : ℕ) → IsClaim geo users d (t / 16) b → IsKnown after block (Block b)) → Names geo view d t j
  grounds_name n d p g t j names blocks = let r = grounds_record n d p g in known_names d t j r.0 r.1 blocks names

  pub grounds_path : (n d : ℕ) (p : Path geo users n d) → AreGrounds geo users after block n d p → Path geo view n d
  grounds_path zero d p g = (p.0, known_directory root g.0 ∙ p.1)
  grounds_path (suc n) d p g = (p.0, p.1, grounds_path n p.0 p.2 g.0, p.3, grounds_name n p.0 p.2 g.0 p.1 d p.4 g.3, known_directory d g.1 ∙ p.5)

-- ---- a file's name goes

module _ (geo : Geometry) (disk : View) (q : List Pending) (ghost : Ghost) (after : List Cell) (block : ℕ) (bytes : List ℕ) (d s i : ℕ) (name : List ℕ) (safe : ℕ → Bool)
    (may : MayRemove geo (users_view disk q) ghost safe after block bytes d s i name) where
  abbrev users : View
  users = users_view disk q

  abbrev users' : View
  users' = updated users (SetBytes block bytes)

  abbrev ghost' : Ghost
  ghost' = removed i d s block safe ghost

  h_users : SlotChange geo users block bytes d s (Good i name) Empty
  h_users = slot_change may.change.slot

  module _ (rules : ObeysRules geo users) where
    removed_reach : (v : View) → SlotChange geo v block bytes d s (Good i name) Empty → UsesAreClaims geo v → (IsTrue (is_directory_at geo v i) → ⊥) → SameReach geo v (updated v (SetBytes block bytes))
    removed_reach v h u file = record {
      directories = λ j. refl;
      names = λ e t j dir. elim (at_or_not d s e t) [
        | inr other ↦ (names_there geo v block bytes d s (Good i name) Empty h u e t j other, names_then geo v block bytes d s (Good i name) Empty h u e t j other)
        | inl at ↦ (
          (λ n. absurd (let k = names_at_slot geo v block bytes d s (Good i name) Empty h u e t j at n in let same : Good i name ≡ Good j k.0 = k.1 in let ij : j ≡ i = cc in file (subst (λ x. IsTrue (is_directory_at geo v x)) ij dir))),
          (λ n. absurd (let k = names_at_slot_now geo v block bytes d s (Good i name) Empty h u e t j at n in let same : Empty ≡ Good j k.0 = k.1 in cc)),
        )
      ];
    }

    users_file : IsTrue (is_directory_at geo users i) → ⊥
    users_file = no_file_directory geo users i may.file

    pub reach : SameReach geo users users'
    reach = removed_reach users h_users rules.rule3 users_file

    place_goes : (j e t c : ℕ) → HasPlace geo users j e t c → ((j ≡ i) × (e ≡ d) × (t ≡ s) × (c ≡ block)) ⊎ HasPlace geo users' j e t c
    place_goes j e t c p = elim (at_or_not d s e t) [
      | inr other ↦ inr (place_to geo users block bytes d s (Good i name) Empty h_users rules.rule3 reach j e t c other p)
      | inl at ↦ inl (
          let k = names_at_slot geo users block bytes d s (Good i name) Empty h_users rules.rule3 e t j at p.names in
          let same : Good i name ≡ Good j k.0 = k.1 in
          let ij : j ≡ i = cc in
          (ij, at.0, at.1, the_block geo users block bytes d s (Good i name) Empty h_users rules.rule3 e t c at p.block))
    ]

    pub place_was : (v : View) (h : SlotChange geo v block bytes d s (Good i name) Empty) (u : UsesAreClaims geo v) → SameReach geo v (updated v (SetBytes block bytes))
        → (j e t c : ℕ) → HasPlace geo (updated v (SetBytes block bytes)) j e t c → HasPlace geo v j e t c × ((e ≡ d) × (t ≡ s) → ⊥)
    place_was v h u r j e t c p = elim (at_or_not d s e t) [
      | inr other ↦ (place_from geo v block bytes d s (Good i name) Empty h u r j e t c other p, other)
      | inl at ↦ absurd (let k = names_at_slot_now geo v block bytes d s (Good i name) Empty h u e t j at p.names in let same : Empty ≡ Good j k.0 = k.1 in cc)
    ]

    -- the tree, where a cut shows fewer places, and not the one that goes
    removed_tree : (set set' : Cell → Bool) (view view' : View) → Agrees geo users ghost set view
        → ((c : Cell) → IsTrue (set' c) → IsTrue (set c)) → ((n : ℕ) → IsTrue (set (NumberBit n)) → IsTrue (set' (NumberBit n)))
        → ((j e t c : ℕ) → HasPlace geo view' j e t c → HasPlace geo view j e t c)
        → (IsTrue (set' (Block block)) → (j e t c : ℕ) → HasPlace geo view' j e t c → (e ≡ d) × (t ≡ s) × (c ≡ block) → ⊥)
        → TreeAgrees geo users' ghost' set' view'
    removed_tree set set' view view' a fewer number before gone = record {
      places = λ j e t c f p. elim (a.tree.places j e t c (fewer (Record j) f) (before j e t c p)) [
        | inr g ↦ inr (g.0, or_right (is_gone_at (record { number = j; directory = e; slot = t; block = c; witness = g.0 }) i d s block) _ g.1)
        | inl there ↦ elim (place_goes j e t c there) [
          | inr still ↦ inl still
          | inl at ↦ inr (block, or_left _ (ghost.gone (record { number = j; directory = e; slot = t; block = c; witness = block })) (gone_self j e t c i d s block at.0 at.1 at.2 at.3))
        ]
      ];
      directories = λ j e t c r f low p.
          let r' : IsReachableDirectory geo users j ⊎ IsTrue (ghost.entering j) = elim r [ inl y ↦ inl (reach_back geo users users' reach j y) | inr y ↦ inr y ] in
          elim (place_goes j e t c (a.tree.directories j e t c r' (fewer (NumberBit j) f) low (before j e t c p))) [
            | inr still ↦ still
            | inl at ↦ absurd (elim r' [
              | inl y ↦ users_file (subst (λ k. IsTrue (is_directory_at geo users k)) at.0 (reachable_directory geo users j y))
              | inr y ↦ both_ways (ghost.entering i) may.not_entering (subst (λ k. IsTrue (ghost.entering k)) at.0 y)
            ])
          ];
      numbers = λ j e t c low p f. number j (a.tree.numbers j e t c low (place_was users h_users rules.rule3 reach j e t c p).0 (fewer (Block c) f));
      removed = λ g y f p. elim (or_cases (is_gone_at g i d s block) (ghost.gone g) y) [
        | inr old ↦ a.tree.removed g old (fewer (Block g.witness) f) (before g.number g.directory g.slot g.block p)
        | inl here ↦ let k = gone_parts g i d s block here in
            gone (subst (λ w. IsTrue (set' (Block w))) k.witness f) g.number g.directory g.slot g.block p (k.directory, k.slot, k.block)
      ];
    }

    removed_take : (set : Cell → Bool) (view : View) → Agrees geo users ghost set view → IsTrue (set (Block block)) → AreIn after set
        → SlotTaken geo disk q ghost (λ g. is_gone_at g i d s block || ghost.gone g) ghost.entering safe after block bytes set view
    removed_take set view a own met = elim (two_cases geo users ghost block bytes d s (Good i name) Empty h_users set view a own) [
      | inl none ↦
          let shape = unclaimed_shape geo view block bytes none in
          record {
            uses = shape.uses;
            rules = unclaimed_rules geo view block bytes none a.rules;
            tree = removed_tree set set view view' a (λ c f. f) (λ n f. f)
                (λ j e t c p. place_back geo view view' shape.tree j e t c p)
                (λ f j e t c p at. none e (t / 16) (subst (λ b. IsClaim geo view e (t / 16) b) at.2 (place_back geo view view' shape.tree j e t c p).block));
            safe = λ f t. reachable_kept geo view view' shape.tree f;
          }
      | inr there ↦
          let h = there.0 in
          let bit : IsTrue (set (NumberBit i)) = a.tree.numbers i d s block may.change.after_dots (record {
            reachable = may.change.reachable;
            names = (name, slot_before geo users block bytes d s (Good i name) Empty h_users rules.rule3);
            block = may.change.slot.claim;
          }) own in
          let file : IsTrue (is_directory_at geo view i) → ⊥ = λ t.
          let two : (view.inode i).mode ≡ 2 = directory_mode geo view i t in
          let one : (users.inode i).mode ≡ 1 = may.file in
          let same : (view.inode i).mode ≡ (users.inode i).mode = a.modes.mode i bit (λ z. omega (arith, one, z)) (λ z. omega (arith, two, z)) in
          omega (arith, one, two, same) in
          let r = removed_reach view h a.rules.rule3 file in
          record {
            uses = slot_uses geo view block bytes d s (Good i name) Empty h a.rules.rule3;
            rules = unlinked_obeys geo view view' (record {
              inode = λ j. refl;
              number_marked = λ j. refl;
              block_marked = λ b. refl;
              uses = slot_uses geo view block bytes d s (Good i name) Empty h a.rules.rule3;
              slots = λ e t. elim (at_or_not d s e t) [
                | inr other ↦ inl (slot_others geo view block bytes d s (Good i name) Empty h a.rules.rule3 e t other)
                | inl at ↦ inr (
                  subst (λ x. slot geo view' x t ≡ Empty) (sym at.0) (subst (λ x. slot geo view' d x ≡ Empty) (sym at.1) (slot_now geo view block bytes d s (Good i name) Empty h a.rules.rule3)),
                  subst (λ x. 2 ≤ x) (sym at.1) may.change.after_dots,
                  i,
                  subst (λ x. Names geo view x t i) (sym at.0) (subst (λ x. Names geo view d x i) (sym at.1) (name, slot_before geo view block bytes d s (Good i name) Empty h a.rules.rule3)),
                  false_from_ne_true (is_directory_at geo view i) file,
                )
              ];
            }) a.rules;
            tree = removed_tree set set view view' a (λ c f. f) (λ n f. f)
                (λ j e t c p. (place_was view h a.rules.rule3 r j e t c p).0)
                (λ f j e t c p at. (place_was view h a.rules.rule3 r j e t c p).1 (at.0, at.1));
            safe = λ f t reached. elim reached [
              | inl y ↦ inl (reach_kept geo view view' r f y)
              | inr y ↦ entered y.0 (elim (cases_eq f i) [
                | inr other ↦ entry_kept view h a.rules.rule3 r f y.1 y.2 y.3 (λ at. let k = names_at_slot geo view block bytes d s (Good i name) Empty h a.rules.rule3 y.1 y.2 f at y.3.names in let same : Good i name ≡ Good f k.0 = k.1 in let fi : f ≡ i = cc in other fi)
                | inl fi ↦
                    let o = may.other_name (subst (λ x. IsTrue (safe x)) fi t) in
                    let known = known_same set view a own met in
                    let p : IsReachableDirectory geo view o.directory = (o.steps, grounds_path geo users after block view known o.steps o.directory o.path o.grounds) in
                    let names : Names geo view o.directory o.slot i = grounds_name geo users after block view known o.steps o.directory o.path o.grounds o.slot i o.names
                    (λ b c. let e : b ≡ o.other = same_claim o.directory (o.slot / 16) b o.other c o.claim in inl (subst (λ x. Contains after (Block x)) (sym e) o.known)) in
                    let entry : IsEntry geo view o.directory o.slot f = record { reachable = p; after_dots = o.after_dots; names = subst (λ x. Names geo view o.directory o.slot x) (sym fi) names } in
                    entry_kept view h a.rules.rule3 r f o.directory o.slot entry
                    (λ at. o.differs (the_block geo users block bytes d s (Good i name) Empty h_users rules.rule3 o.directory o.slot o.other at o.claim))
              ])
            ];
          }
    ]
      where
        view' : View
        view' = updated view (SetBytes block bytes)

        entered : {f : ℕ} → IsTrue (is_sound_at geo view f) → ((e : ℕ) × (t : ℕ) × IsEntry geo view' e t f) → IsReachable geo view' f
        entered sound x = inr (sound, x.0, x.1, x.2)

        same_claim : (e k b c : ℕ) → IsClaim geo users e k b → IsClaim geo users e k c → b ≡ c
        same_claim e k b c x y = let first : use_at geo users e k ≡ Some b = x.0 in let second : use_at geo users e k ≡ Some c = y.0 in cc

        known_same : (set : Cell → Bool) (view : View) → Agrees geo users ghost set view → IsTrue (set (Block block)) → AreIn after set → (c : Cell) → IsKnown after block c → SameAt view users c
        known_same set view a own met c (inl k) = a.same c (met c k)
        known_same set view a own met c (inr e) = a.same c (subst (λ x. IsTrue (set x)) (sym e) own)

        entry_kept : (v : View) (h : SlotChange geo v block bytes d s (Good i name) Empty) (u : UsesAreClaims geo v) → SameReach geo v (updated v (SetBytes block bytes))
            → (j e t : ℕ) → IsEntry geo v e t j → ((e ≡ d) × (t ≡ s) → ⊥) → (e' : ℕ) × (t' : ℕ) × IsEntry geo (updated v (SetBytes block bytes)) e' t' j
        entry_kept v h u r j e t x other = (e, t, record { reachable = reach_kept geo v (updated v (SetBytes block bytes)) r e x.reachable; after_dots = x.after_dots; names = names_there geo v block bytes d s (Good i name) Empty h u e t j other x.names })

  pub remove_keeps : Keeps geo disk q ghost (record { change = SetBytes block bytes; after = after }) (removed i d s block safe ghost)
  remove_keeps all =
      let rules = users_obey geo disk q ghost all in
      slot_step geo disk q ghost (λ g. is_gone_at g i d s block || ghost.gone g) ghost.entering safe after block bytes
      may.fewer_safe (slot_uses geo users block bytes d s (Good i name) Empty h_users rules.rule3)
      (λ set view a. removed_tree rules set (without set (Block block)) view view a
      (λ c f. was_fresh set (Block block) c f) (λ n f. still_fresh set (Block block) (NumberBit n) f (λ e. cc))
      (λ j e t c p. p)
      (λ f j e t c p at. is_other set (Block block) (Block block) f refl))
      (removed_take rules) all
