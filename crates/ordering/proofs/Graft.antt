-- The entry of a directory comes that had none.
use Rattle.std.proofs.Common.{◌≡◌, ℕ, ◌<◌, ◌≤◌, ◌/◌, Bool, ◌&&◌, List, ◌⊎◌, inl, inr, refl, sym, ap, ◌∙◌, subst, IsTrue, le_refl, arith, Some}
use Rattle.std.proofs.lemmas.Bool.{both_ways, cases_eq, and_parts, cases_lt}
use Rattle.model.specs.Layout.{Geometry, is_number}
use Rattle.model.specs.View.{View, Inode}
use Rattle.model.specs.Cells.{SetBytes, updated}
use Rattle.model.specs.Shape.{is_table}
use Rattle.model.specs.Uses.{use_at, is_directory, is_directory_at, is_sound, blocks_of, IsUse, IsClaim}
use Rattle.model.specs.Slots.{Empty, Good, slot, slot_in, Names}
use Rattle.model.specs.Reach.{IsReachableDirectory, HasEntries}
use Rattle.model.specs.Rules.{ObeysRules}
use Rattle.model.proofs.Shape.{few_none}
use Rattle.model.proofs.SlotLemmas.{directory_sound, directory_number, names_one, number_low}
use Rattle.model.proofs.Slots.{slots_of_uses}
use Rattle.model.proofs.Uses.{above_table, has_below, used_has, uses_agree}
use Rattle.model.proofs.SameTree.{reachable_kept}
use Rattle.model.proofs.EntryCounts.{entries_within, links_at}
use Rattle.model.proofs.SlotChange.{slot_uses, slot_now, the_block, block_there, block_then, SlotChange}
use Rattle.model.proofs.Graft.{IsLoose, loose_leaf, graft_kept, graft_came, reach_grafted, reach_new, reach_came, entry_came, graft_reachable, graft_obeys}
use Rattle.ordering.specs.Cuts.{Cell, Record, NumberBit, Block, Pending, users_view, without, AreIn}
use Rattle.ordering.specs.Places.{HasPlace}
use Rattle.ordering.specs.Ghosts.{Ghost}
use Rattle.ordering.specs.Agrees.{Agrees, TreeAgrees}
use Rattle.ordering.specs.Kinds.{Keeps}
use Rattle.ordering.specs.OneSlot.{MayEnterDirectory, now_entered}
use Rattle.ordering.proofs.CutLemmas.{was_fresh, is_other, still_fresh}
use Rattle.ordering.proofs.Places.{place_back, slot_change, places_stay, unnamed}
use Rattle.ordering.proofs.Bits.{users_obey, sound_used}
use Rattle.ordering.proofs.SlotSteps.{SlotTaken, slot_step_with}
use Rattle.ordering.proofs.SlotKinds.{two_cases, unclaimed_shape, unclaimed_rules}
use Rattle.ordering.proofs.NewNames.{new_in_cut}
use Rattle.ordering.proofs.Prune.{reached_or_not, unreached_tree, unreached_rules}

-- ---- one view

module _ (geo : Geometry) (v : View) (block : ℕ) (bytes : List ℕ) (d s i : ℕ) (name : List ℕ) (h : SlotChange geo v block bytes d s Empty (Good i name)) (o : ObeysRules geo v) (low : 2 ≤ s)
    (reached : IsReachableDirectory geo v d) (loose : IsLoose geo v i d) where
  abbrev w : View
  w = updated v (SetBytes block bytes)

  pub place_grafted : (j e t c : ℕ) → HasPlace geo v j e t c → HasPlace geo w j e t c
  place_grafted j e t c p = record {
    reachable = reach_grafted geo v block bytes d s i name h o low reached loose e p.reachable;
    names = graft_kept geo v block bytes d s i name h o low reached loose e t j p.names;
    block = block_there geo v block bytes d s Empty (Good i name) h o.rule3 e t c p.block;
  }

  -- a place of w is one of v, the entry, or a dot of the new directory
  pub place_came : (j e t c : ℕ) → HasPlace geo w j e t c → HasPlace geo v j e t c ⊎ (((j ≡ i) × (e ≡ d) × (t ≡ s) × (c ≡ block)) ⊎ ((e ≡ i) × (t < 2) × Names geo v i t j × IsClaim geo v i (t / 16) c))
  place_came j e t c p = elim (graft_came geo v block bytes d s i name h o low reached loose e t j p.names) [
    | inr at ↦ inr (inl (at.0, at.1, at.2, the_block geo v block bytes d s Empty (Good i name) h o.rule3 e t c (at.1, at.2) (block_then geo v block bytes d s Empty (Good i name) h o.rule3 e t c p.block)))
    | inl m ↦ elim (reach_came geo v block bytes d s i name h o low reached loose e p.reachable) [
      | inl r ↦ inl (record { reachable = r; names = m; block = block_then geo v block bytes d s Empty (Good i name) h o.rule3 e t c p.block })
      | inr mine ↦
          let m' : Names geo v i t j = subst (λ x. Names geo v x t j) mine m in
          elim (cases_lt t 2) [
            | inl below ↦ inr (inr (mine, below, m', subst (λ x. IsClaim geo v x (t / 16) c) mine (block_then geo v block bytes d s Empty (Good i name) h o.rule3 e t c p.block)))
            | inr high ↦ absurd (loose_leaf geo v block bytes d s i name h o low reached loose t j high m')
          ]
    ]
  ]

-- ---- a directory of one block

-- two views with its record and its block have its slots
module _ (geo : Geometry) (v u : View) (i b : ℕ) (same : v.inode i ≡ u.inode i) (same_block : v.bytes b ≡ u.bytes b) (one : blocks_of (u.inode i).size ≡ 1) (first : IsClaim geo u i 0 b) where
  no_table : (m a : ℕ) → IsTrue (is_table geo m) → IsClaim geo u i m a → ⊥
  no_table m a t c = few_none geo (blocks_of (u.inode i).size) m (omega (arith, one)) t (used_has geo u i m a c.0)

  block_uses : (k : ℕ) → use_at geo v i k ≡ use_at geo u i k
  block_uses k = sym (uses_agree geo u v i k (λ number. sym same) (λ m a above c. absurd (no_table m a (above_table geo k m above) c)))

  block_directory : is_directory_at geo v i ≡ is_directory_at geo u i
  block_directory = ap (λ y. is_number geo i && is_sound geo y && is_directory y) same

  block_slots : (t : ℕ) → slot geo v i t ≡ slot geo u i t
  block_slots t = slots_of_uses geo v u i t block_directory (block_uses (t / 16)) (λ a dir low claim.
      let theirs : IsUse geo u i (t / 16) a = sym (block_uses (t / 16)) ∙ claim.0 in
      let below = has_below geo (u.inode i) (t / 16) low (used_has geo u i (t / 16) a theirs) in
      let zero_at : t / 16 ≡ 0 = omega (arith, below, one) in
      let here : use_at geo u i 0 ≡ Some a = subst (λ k. IsUse geo u i k a) zero_at theirs in
      let there : use_at geo u i 0 ≡ Some b = first.0 in
      let ab : b ≡ a = cc in
      ap (λ x. slot_in geo x t) (subst (λ x. v.bytes x ≡ u.bytes x) ab same_block))

-- ---- the kind

module _ (geo : Geometry) (disk : View) (q : List Pending) (ghost : Ghost) (after : List Cell) (block : ℕ) (bytes : List ℕ) (d s i b : ℕ) (name : List ℕ)
    (may : MayEnterDirectory geo disk q ghost after block bytes d s i b name) (rules : ObeysRules geo (users_view disk q)) where
  abbrev users : View
  users = users_view disk q

  abbrev users' : View
  users' = updated users (SetBytes block bytes)

  abbrev ghost' : Ghost
  ghost' = now_entered i ghost

  h_users : SlotChange geo users block bytes d s Empty (Good i name)
  h_users = slot_change may.change.slot

  loose_users : IsLoose geo users i d
  loose_users = record { directory = may.directory; no_name = unnamed geo users i may.no_place; dot = may.dot; dot_dot = may.dot_dot; rest = may.rest }

  users_grafted : (j e t c : ℕ) → HasPlace geo users j e t c → HasPlace geo users' j e t c
  users_grafted = place_grafted geo users block bytes d s i name h_users rules may.change.after_dots may.change.reachable loose_users

  users_came : (j e t c : ℕ) → HasPlace geo users' j e t c → HasPlace geo users j e t c ⊎ (((j ≡ i) × (e ≡ d) × (t ≡ s) × (c ≡ block)) ⊎ ((e ≡ i) × (t < 2) × Names geo users i t j × IsClaim geo users i (t / 16) c))
  users_came = place_came geo users block bytes d s i name h_users rules may.change.after_dots may.change.reachable loose_users

  users_reach : (e : ℕ) → IsReachableDirectory geo users' e → IsReachableDirectory geo users e ⊎ (e ≡ i)
  users_reach = reach_came geo users block bytes d s i name h_users rules may.change.after_dots may.change.reachable loose_users

  the_place : (j e t c : ℕ) → (j ≡ i) × (e ≡ d) × (t ≡ s) × (c ≡ block) → HasPlace geo users' j e t c
  the_place j e t c at =
      subst (λ x. HasPlace geo users' x e t c) (sym at.0) (subst (λ x. HasPlace geo users' i x t c) (sym at.1) (subst (λ x. HasPlace geo users' i d x c) (sym at.2) (subst (λ x. HasPlace geo users' i d s x) (sym at.3) (record {
        reachable = reach_grafted geo users block bytes d s i name h_users rules may.change.after_dots may.change.reachable loose_users d may.change.reachable;
        names = (name, slot_now geo users block bytes d s Empty (Good i name) h_users rules.rule3);
        block = block_there geo users block bytes d s Empty (Good i name) h_users rules.rule3 d s block h_users.claim;
      }))))

  -- a dot of the new directory is a place of the users
  dot_place : (j e t c : ℕ) → e ≡ i → Names geo users i t j → IsClaim geo users i (t / 16) c → HasPlace geo users' j e t c
  dot_place j e t c mine n claim = subst (λ x. HasPlace geo users' j x t c) (sym mine) (record {
    reachable = reach_new geo users block bytes d s i name h_users rules may.change.after_dots may.change.reachable loose_users;
    names = graft_kept geo users block bytes d s i name h_users rules may.change.after_dots may.change.reachable loose_users i t j n;
    block = block_there geo users block bytes d s Empty (Good i name) h_users rules.rule3 i t c claim;
  })

  -- what a cut shows is an old place, or one of the users' new ones
  abbrev Came : View → View → Type 0
  Came view view' = (j e t c : ℕ) → HasPlace geo view' j e t c → HasPlace geo view j e t c ⊎ (((j ≡ i) × (e ≡ d) × (t ≡ s) × (c ≡ block)) ⊎ ((e ≡ i) × (t < 2) × Names geo users i t j × IsClaim geo users i (t / 16) c))

  new_place : (j e t c : ℕ) → ((j ≡ i) × (e ≡ d) × (t ≡ s) × (c ≡ block)) ⊎ ((e ≡ i) × (t < 2) × Names geo users i t j × IsClaim geo users i (t / 16) c) → HasPlace geo users' j e t c
  new_place j e t c (inl at) = the_place j e t c at
  new_place j e t c (inr x) = dot_place j e t c x.0 x.2 x.3

  grafted_tree : (set set' : Cell → Bool) (view view' : View) → Agrees geo users ghost set view
      → ((c : Cell) → IsTrue (set' c) → IsTrue (set c)) → ((n : ℕ) → IsTrue (set (NumberBit n)) → IsTrue (set' (NumberBit n)))
      → Came view view' → (IsTrue (set' (Block block)) → IsTrue (set' (NumberBit i)))
      → TreeAgrees geo users' ghost' set' view'
  grafted_tree set set' view view' a fewer number before bit = record {
    places = λ j e t c f p. elim (before j e t c p) [
      | inr new ↦ inl (new_place j e t c new)
      | inl old ↦ elim (a.tree.places j e t c (fewer (Record j) f) old) [ inl there ↦ inl (users_grafted j e t c there) | inr g ↦ inr g ]
    ];
    directories = λ j e t c r f low p. elim (before j e t c p) [
      | inr new ↦ new_place j e t c new
      | inl old ↦
          let r' : IsReachableDirectory geo users j ⊎ IsTrue (ghost.entering j) = elim r [
            | inl y ↦ elim (users_reach j y) [ inl z ↦ inl z | inr ji ↦ inr (subst (λ x. IsTrue (ghost.entering x)) (sym ji) may.entering) ]
            | inr y ↦ inr (and_parts (ghost.entering j) _ y).0
          ] in
          users_grafted j e t c (a.tree.directories j e t c r' (fewer (NumberBit j) f) low old)
    ];
    numbers = λ j e t c low p f. elim (users_came j e t c p) [
      | inl old ↦ number j (a.tree.numbers j e t c low old (fewer (Block c) f))
      | inr new ↦ elim new [
        | inl at ↦ subst (λ x. IsTrue (set' (NumberBit x))) (sym at.0) (bit (subst (λ x. IsTrue (set' (Block x))) at.3 f))
        | inr dots ↦ absurd (let below : t < 2 = dots.1 in omega (arith, below, low))
      ]
    ];
    removed = λ g y f p. absurd (both_ways (ghost.gone g) (may.none_gone g) y);
  }

  Extra : (Cell → Bool) → View → Type 0
  Extra set view = (IsTrue (set (Record i)) → IsTrue (set (Block b))) × (IsTrue (set (Record i)) → IsTrue (set (Block block)) → IsClaim geo view d (s / 16) block → IsTrue (set (Record d)))

  grafted_take : (set : Cell → Bool) (view : View) → Agrees geo users ghost set view
      → ((IsTrue (set (Record i)) → IsTrue (set (Block b))) × (IsTrue (set (Record i)) → IsTrue (set (Block block)) → IsClaim geo view d (s / 16) block → IsTrue (set (Record d))))
      → IsTrue (set (Block block)) → AreIn after set → SlotTaken geo disk q ghost ghost.gone ghost'.entering ghost.safe after block bytes set view
  grafted_take set view a extra own met = elim (two_cases geo users ghost block bytes d s Empty (Good i name) h_users set view a own) [
    | inl none ↦
        let shape = unclaimed_shape geo view block bytes none in
        record {
          uses = shape.uses;
          rules = unclaimed_rules geo view block bytes none a.rules;
          tree = grafted_tree set set view view' a (λ c f. f) (λ n f. f) (λ j e t c p. inl (place_back geo view view' shape.tree j e t c p)) (λ f. bit);
          safe = λ f t. reachable_kept geo view view' shape.tree f;
        }
    | inr there ↦ elim (reached_or_not geo view d) [
      | inr out ↦
          let tree = unreached_tree geo view block bytes d s Empty (Good i name) there.0 a.rules.rule3 out in
          record {
            uses = slot_uses geo view block bytes d s Empty (Good i name) there.0 a.rules.rule3;
            rules = unreached_rules geo view block bytes d s Empty (Good i name) there.0 a.rules out;
            tree = grafted_tree set set view view' a (λ c f. f) (λ n f. f) (λ j e t c p. inl (place_back geo view view' tree j e t c p)) (λ f. bit);
            safe = λ f t. reachable_kept geo view view' tree f;
          }
      | inl reached ↦
          let h = there.0 in
          let came = view_came h reached in
          record {
            uses = slot_uses geo view block bytes d s Empty (Good i name) h a.rules.rule3;
            rules = graft_obeys geo view block bytes d s i name h a.rules may.change.after_dots reached loose_view
                (new_in_cut geo users ghost after block d s name h_users.directory may.fresh_name set view a own met there.1)
                (λ j n r x. elim (cases_eq j i) [
                  | inl ji ↦ counted j i ji same written may.links i_low came n x
                  | inr other ↦ elim (cases_eq j d) [
                    | inl jd ↦ counted j d jd (a.same (Record d) (extra.1 written own h.claim)) (extra.1 written own h.claim) may.parent_links d_low came n x
                    | inr apart ↦
                        let old = λ (e t c : ℕ) (p : HasPlace geo view' j e t c). old_place j other apart e t c (came j e t c p) in
                        links_at geo view view' j
                        (λ z. elim z [
                          | inl y ↦ elim (reach_came geo view block bytes d s i name h a.rules may.change.after_dots reached loose_view j y) [ inl k ↦ inl k | inr k ↦ absurd (other k) ]
                          | inr y ↦ elim (entry_came geo view block bytes d s i name h a.rules may.change.after_dots reached loose_view y.1 y.2 j y.3) [ inl k ↦ inr (y.0, y.1, y.2, k) | inr k ↦ absurd (other k.0) ]
                        ]) (places_stay geo view' view j old) (le_refl (view.inode j).links) a.rules.rule8 n r x
                  ]
                ]);
            tree = grafted_tree set set view view' a (λ c f. f) (λ n f. f) came (λ f. bit);
            safe = λ f t. graft_reachable geo view block bytes d s i name h a.rules may.change.after_dots reached loose_view f;
          }
    ]
  ]
    where
      view' : View
      view' = updated view (SetBytes block bytes)

      written : IsTrue (set (Record i))
      written = met (Record i) may.record_first

      same : view.inode i ≡ users.inode i
      same = a.same (Record i) written

      same_block : view.bytes b ≡ users.bytes b
      same_block = a.same (Block b) (extra.0 written)

      i_low : 1 ≤ i
      i_low = omega (arith, number_low geo i (directory_number geo users i may.directory))

      d_low : 1 ≤ d
      d_low = omega (arith, number_low geo d (directory_number geo users d h_users.directory))

      bit : IsTrue (set (NumberBit i))
      bit = a.numbers.used i (λ z. sound_used geo (users.inode i) (directory_sound geo users i may.directory) z) written

      slots : (t : ℕ) → slot geo view i t ≡ slot geo users i t
      slots = block_slots geo view users i b same same_block may.one_block may.first

      loose_view : IsLoose geo view i d
      loose_view = record {
        directory = block_directory geo view users i b same same_block may.one_block may.first ∙ may.directory;
        no_name = unnamed geo view i (λ e t c p. elim (a.tree.places i e t c written p) [
          | inl u ↦ may.no_place e t c u
          | inr g ↦ both_ways (ghost.gone (record { number = i; directory = e; slot = t; block = c; witness = g.0 })) (may.none_gone (record { number = i; directory = e; slot = t; block = c; witness = g.0 })) g.1
        ]);
        dot = (may.dot.0, slots 0 ∙ may.dot.1);
        dot_dot = (may.dot_dot.0, slots 1 ∙ may.dot_dot.1);
        rest = λ t l. elim (may.rest t l) [ inl e ↦ inl (slots t ∙ e) | inr e ↦ inr (slots t ∙ e) ];
      }

      view_came : SlotChange geo view block bytes d s Empty (Good i name) → IsReachableDirectory geo view d → Came view view'
      view_came h reached j e t c p = elim (place_came geo view block bytes d s i name h a.rules may.change.after_dots reached loose_view j e t c p) [
        | inl old ↦ inl old
        | inr new ↦ elim new [
          | inl at ↦ inr (inl at)
          | inr x ↦ inr (inr (x.0, x.1, (x.2.0, sym (slots t) ∙ x.2.1), (sym (block_uses geo view users i b same same_block may.one_block may.first (t / 16)) ∙ x.3.0, x.3.1)))
        ]
      ]

      -- the links of the new directory, and of the one that it stands in
      counted : (j k : ℕ) → j ≡ k → view.inode k ≡ users.inode k → IsTrue (set (Record k)) → ((m : ℕ) → HasEntries geo users' k m → m ≤ (users.inode k).links) → 1 ≤ k → Came view view'
          → (n : ℕ) → HasEntries geo view' j n → n ≤ (view.inode j).links
      counted j k jk same_record fresh_record cover low came n x =
          let inside = entries_within geo view' users' k low (places_stay geo view' users' k (λ e t c p. elim (came k e t c p) [
            | inr new ↦ new_place k e t c new
            | inl old ↦ elim (a.tree.places k e t c fresh_record old) [
              | inl u ↦ users_grafted k e t c u
              | inr g ↦ absurd (both_ways (ghost.gone (record { number = k; directory = e; slot = t; block = c; witness = g.0 })) (may.none_gone (record { number = k; directory = e; slot = t; block = c; witness = g.0 })) g.1)
            ]
          ])) n (subst (λ y. HasEntries geo view' y n) jk x) in
          let enough = cover inside.0 inside.1 in
          let links : (view.inode j).links ≡ (users.inode k).links = ap (λ y. (view.inode y).links) jk ∙ ap (λ (y : Inode). y.links) same_record in
          omega (arith, enough, inside.2, links)

      -- others have their old places
      old_place : (j : ℕ) → (j ≡ i → ⊥) → (j ≡ d → ⊥) → (e t c : ℕ)
          → HasPlace geo view j e t c ⊎ (((j ≡ i) × (e ≡ d) × (t ≡ s) × (c ≡ block)) ⊎ ((e ≡ i) × (t < 2) × Names geo users i t j × IsClaim geo users i (t / 16) c)) → HasPlace geo view j e t c
      old_place j not_i not_d e t c (inl old) = old
      old_place j not_i not_d e t c (inr (inl at)) = absurd (not_i at.0)
      old_place j not_i not_d e t c (inr (inr x)) = absurd (elim (cases_eq t 0) [
        | inl first ↦ not_i (names_one geo users i 0 j i (subst (λ y. Names geo users i y j) first x.2) may.dot)
        | inr second ↦ (let below : t < 2 = x.1 in let one : t ≡ 1 = omega (arith, below, second) in not_d (names_one geo users i 1 j d (subst (λ y. Names geo users i y j) one x.2) may.dot_dot))
      ])

pub enter_directory_keeps : (geo : Geometry) (disk : View) (q : List Pending) (ghost : Ghost) (after : List Cell) (block : ℕ) (bytes : List ℕ) (d s i b : ℕ) (name : List ℕ)
    → MayEnterDirectory geo disk q ghost after block bytes d s i b name → Keeps geo disk q ghost (record { change = SetBytes block bytes; after = after }) (now_entered i ghost)
enter_directory_keeps geo disk q ghost after block bytes d s i b name may all =
    let rules = users_obey geo disk q ghost all in
    slot_step_with geo disk q ghost ghost.gone (now_entered i ghost).entering ghost.safe after block bytes
    (λ f h. h) (slot_uses geo (users_view disk q) block bytes d s Empty (Good i name) (slot_change may.change.slot) rules.rule3)
    (λ set view. (IsTrue (set (Record i)) → IsTrue (set (Block b))) × (IsTrue (set (Record i)) → IsTrue (set (Block block)) → IsClaim geo view d (s / 16) block → IsTrue (set (Record d))))
    (λ cut closed. (may.dots_first cut closed, may.credit cut closed))
    (λ set view a. grafted_tree geo disk q ghost after block bytes d s i b name may rules set (without set (Block block)) view view a
    (λ c f. was_fresh set (Block block) c f) (λ n f. still_fresh set (Block block) (NumberBit n) f (λ e. cc))
    (λ j e t c p. inl p)
    (λ f. absurd (is_other set (Block block) (Block block) f refl)))
    (grafted_take geo disk q ghost after block bytes d s i b name may rules) all
