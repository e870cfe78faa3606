-- The kinds of update that write a table.
use Rattle.std.proofs.Common.{◌≡◌, ℕ, ◌≤◌, ◌/◌, Bool, List, ◌⊎◌, inl, inr, refl, sym, ap, ◌∙◌, subst, IsTrue, le_refl, arith, Some, Contains}
use Rattle.std.proofs.lemmas.Bool.{both_ways, cases_eq, false_from_ne_true, leb-true, le-leb}
use Rattle.std.proofs.lemmas.Option.{same_Some}
use Rattle.model.specs.Layout.{Geometry, is_data_address}
use Rattle.model.specs.View.{View, Inode}
use Rattle.model.specs.Cells.{SetBytes, updated}
use Rattle.model.specs.Shape.{most_blocks, is_table, table_of, place_in_table, IsAbove, pointer_in}
use Rattle.model.specs.Uses.{use_at, has_position, is_directory_at, IsUse, IsClaim}
use Rattle.model.specs.Slots.{slot, slot_in}
use Rattle.model.specs.Reach.{IsReachableDirectory}
use Rattle.model.specs.Rules.{ObeysRules, UsesAreClaims}
use Rattle.model.proofs.Fields.{filling_leaves_uses, filling_a_zero}
use Rattle.model.proofs.Shape.{table_is_table}
use Rattle.model.proofs.SlotLemmas.{reachable_directory}
use Rattle.model.proofs.Slots.{slots_of_uses}
use Rattle.model.proofs.Uses.{above_table, bytes_leave_uses, elsewhere, other_uses_stay, table_bytes_move, uses_agree}
use Rattle.model.proofs.SameTree.{SameTree, same_tree, tree_obeys, links_cover, reachable_kept}
use Rattle.model.proofs.SameShape.{SameShape, shape_from}
use Rattle.ordering.specs.Cuts.{Cell, Record, NumberBit, BlockBit, Block, Pending, users_view, EachCut, without, AreIn}
use Rattle.ordering.specs.Ghosts.{Ghost}
use Rattle.ordering.specs.Agrees.{Agrees}
use Rattle.ordering.specs.Kinds.{Keeps, IsFree}
use Rattle.ordering.specs.Rewrites.{MayAppendSlot, MayMoveSlot, moved}
use Rattle.ordering.proofs.CutLemmas.{was_fresh, still_fresh, each_step, same_skip, same_take}
use Rattle.ordering.proofs.Frames.{numbers_without, numbers_same}
use Rattle.ordering.proofs.Claims.{ClaimsMove, claims_frame, claims_obey, decide_claim}
use Rattle.ordering.proofs.Bits.{users_obey}
use Rattle.ordering.proofs.Data.{plain_write, directory_mode}
use Rattle.ordering.proofs.RecordSteps.{tree_stays, TreeKeeps}

-- new bytes of a table: slots do not stand in it
module _ (geo : Geometry) (v : View) (m x : ℕ) (bytes : List ℕ) (table : IsTrue (is_table geo m)) (alone : (j l : ℕ) → IsClaim geo v j l x → l ≡ m) where
  pub table_slot : (d s : ℕ) → use_at geo v d (s / 16) ≡ use_at geo (updated v (SetBytes x bytes)) d (s / 16) → slot geo v d s ≡ slot geo (updated v (SetBytes x bytes)) d s
  table_slot d s uses =
      slots_of_uses geo v (updated v (SetBytes x bytes)) d s refl uses (λ a directory low c.
      ap (λ block. slot_in geo block s) (elsewhere geo v x bytes a (λ e.
      let past : most_blocks geo ≤ m = leb-true (most_blocks geo) m table in
      let at : s / 16 ≡ m = alone d (s / 16) (subst (λ b. IsClaim geo v d (s / 16) b) e c) in
      omega (arith, low, past, at))))

  table_shape : ((j k : ℕ) → use_at geo v j k ≡ use_at geo (updated v (SetBytes x bytes)) j k) → SameShape geo v (updated v (SetBytes x bytes))
  table_shape uses = shape_from geo v (updated v (SetBytes x bytes)) (λ j. refl) (λ j. refl) (λ j. refl) uses (λ d s. table_slot d s (uses d (s / 16)))

-- ---- a pointer that is not in use

-- in the view that users see
pub append_uses : (geo : Geometry) (users : View) (after : List Cell) (n m x : ℕ) (bytes : List ℕ) → MayAppendSlot geo users after n m x bytes → UsesAreClaims geo users
    → (j k : ℕ) → use_at geo users j k ≡ use_at geo (updated users (SetBytes x bytes)) j k
append_uses geo users after n m x bytes may rule = filling_leaves_uses geo users x bytes n m (λ j l c. rule.once j l n m x c may.claims) may.others

pub append_shape : (geo : Geometry) (users : View) (after : List Cell) (n m x : ℕ) (bytes : List ℕ) → MayAppendSlot geo users after n m x bytes → UsesAreClaims geo users → SameShape geo users (updated users (SetBytes x bytes))
append_shape geo users after n m x bytes may rule =
    table_shape geo users m x bytes may.table (λ j l c. (rule.once j l n m x c may.claims).1) (append_uses geo users after n m x bytes may rule)

-- in a cut that has the table's last bytes
module _ (geo : Geometry) (users : View) (ghost : Ghost) (after : List Cell) (n m x : ℕ) (bytes : List ℕ) (may : MayAppendSlot geo users after n m x bytes)
    (set : Cell → Bool) (view : View) (a : Agrees geo users ghost set view) (own : IsTrue (set (Block x))) (met : AreIn after set) where
  -- nobody else claims it
  pub append_alone : (j l : ℕ) → IsClaim geo view j l x → (j ≡ n) × (l ≡ m)
  append_alone j l c = let e = a.blocks.claimed x n m j l (a.blocks.marked x n m may.claims own) may.claims c in (e.0, e.1)

  same_block : view.bytes x ≡ users.bytes x
  same_block = a.same (Block x) own

  -- where it is claimed: a pointer that was 0 was none, and otherwise the record is the users'
  filled : IsClaim geo view n m x → (j k : ℕ) → use_at geo view j k ≡ use_at geo (updated view (SetBytes x bytes)) j k
  filled claim = elim may.record_first [
    | inl first ↦ filling_leaves_uses geo view x bytes n m append_alone (λ k h has.
        ap (λ block. pointer_in block (place_in_table geo k)) same_block ∙ may.others k h (subst (λ (r : Inode). IsTrue (has_position geo r k)) (a.same (Record n) (met (Record n) first)) has))
    | inr fills ↦
        let rule = a.rules.rule3 in
        filling_a_zero geo view x bytes rule.claims (λ j l i q b c d. rule.once j l i q b c d) n m claim fills.0 (ap (λ block. pointer_in block fills.0) same_block ∙ fills.1.none)
        (λ p low differs. ap (λ block. pointer_in block p) same_block ∙ fills.1.others p low differs)
  ]

  pub append_uses_cut : (j k : ℕ) → use_at geo view j k ≡ use_at geo (updated view (SetBytes x bytes)) j k
  append_uses_cut j k = elim (decide_claim geo view n m x may.claims.1) [
    | inl claim ↦ filled claim j k
    | inr none ↦ bytes_leave_uses geo view x bytes j (λ l t c.
        let e = append_alone j l c in none (subst (λ i. IsClaim geo view i m x) e.0 (subst (λ y. IsClaim geo view j y x) e.1 c))) k
  ]

pub append_slot_keeps : (geo : Geometry) (disk : View) (q : List Pending) (ghost : Ghost) (after : List Cell) (n m x : ℕ) (bytes : List ℕ)
    → MayAppendSlot geo (users_view disk q) after n m x bytes → Keeps geo disk q ghost (record { change = SetBytes x bytes; after = after }) ghost
append_slot_keeps geo disk q ghost after n m x bytes may all =
    let users = users_view disk q in
    plain_write geo disk q ghost after x bytes (append_shape geo users after n m x bytes may (users_obey geo disk q ghost all).rule3)
    (λ set view a own met.
    table_shape geo view m x bytes may.table (λ j l c. (append_alone geo users ghost after n m x bytes may set view a own met j l c).1)
    (append_uses_cut geo users ghost after n m x bytes may set view a own met)) all

-- ---- a block of a file that moves

-- the cut's view has the users' record and the tables on the way, and so the table
pub view_claim : (geo : Geometry) (users : View) (ghost : Ghost) (after : List Cell) (n m x : ℕ) → IsClaim geo users n m x → Contains after (Record n)
    → ((t u : ℕ) → IsAbove geo m t → IsClaim geo users n t u → Contains after (Block u))
    → (set : Cell → Bool) (view : View) → Agrees geo users ghost set view → AreIn after set → IsClaim geo view n m x
view_claim geo users ghost cells n m x c first tables set view a met = (
  sym (uses_agree geo users view n m (λ number. sym (a.same (Record n) (met (Record n) first))) (λ t u above d. sym (a.same (Block u) (met (Block u) (tables t u above d))))) ∙ c.0,
  c.1,
)

module _ (geo : Geometry) (disk : View) (q : List Pending) (ghost : Ghost) (held : ℕ → Bool) (given_up : ℕ → ℕ → ℕ → Bool) (after : List Cell) (n m x p : ℕ) (bytes : List ℕ)
    (may : MayMoveSlot geo disk q ghost (moved held given_up ghost) after n m x p bytes) where
  abbrev users : View
  users = users_view disk q

  abbrev users' : View
  users' = updated users (SetBytes x bytes)

  abbrev ghost' : Ghost
  ghost' = moved held given_up ghost

  -- the block that the pointer names now
  abbrev to : ℕ
  to = pointer_in bytes (place_in_table geo p)

  -- the one new claim
  record New (j k b : ℕ) : Type 0 where
    pub mine : j ≡ n
    pub position : k ≡ p
    pub block : b ≡ to

  pub moved_table : IsTrue (is_table geo m)
  moved_table = le-leb (most_blocks geo) m (table_is_table geo p m may.table)

  module _ (view : View) (c : IsClaim geo view n m x) (o : UsesAreClaims geo view) (same : view.inode n ≡ users.inode n) (same_block : view.bytes x ≡ users.bytes x) where
    abbrev view' : View
    view' = updated view (SetBytes x bytes)

    only : (l : ℕ) → IsTrue (is_table geo l) → IsClaim geo view n l x → l ≡ m
    only l t d = (o.once n l n m x d c).1

    others : (k : ℕ) → (k ≡ p → ⊥) → table_of geo k ≡ Some m → IsTrue (has_position geo (view.inode n) k) → pointer_in (view.bytes x) (place_in_table geo k) ≡ pointer_in bytes (place_in_table geo k)
    others k differs h has = ap (λ block. pointer_in block (place_in_table geo k)) same_block ∙ may.others k differs h

    pub move_elsewhere : (j k : ℕ) → ((j ≡ n) × (k ≡ p) → ⊥) → use_at geo view j k ≡ use_at geo view' j k
    move_elsewhere j k other = elim (cases_eq j n) [
      | inr differs ↦ bytes_leave_uses geo view x bytes j (λ l t d. differs (o.once j l n m x d c).0) k
      | inl e ↦ subst (λ i. use_at geo view i k ≡ use_at geo view' i k) (sym e) (other_uses_stay geo view x bytes n m only p may.table others k (λ at. other (e, at))
          (λ above. both_ways (is_table geo p) may.no_table (above_table geo k p above)))
    ]

    pub move_here : IsUse geo view' n p to
    move_here = table_bytes_move geo view x bytes n m only p may.table others c (ap (λ (r : Inode). has_position geo r p) same ∙ may.used)

    -- each use of the new view is an old one elsewhere, or the new one
    came : (j k b : ℕ) → IsUse geo view' j k b → IsUse geo view j k b ⊎ (New j k b × IsTrue (is_data_address geo b))
    came j k b h = elim (cases_eq j n) [
      | inr other ↦ inl (move_elsewhere j k (λ e. other e.0) ∙ h)
      | inl e ↦ elim (cases_eq k p) [
        | inr other ↦ inl (move_elsewhere j k (λ f. other f.1) ∙ h)
        | inl f ↦
            let there : IsUse geo view' n p b = subst (λ l. IsUse geo view' n l b) f (subst (λ i. IsUse geo view' i k b) e h) in
            let value : b ≡ to = same_Some b to (sym there ∙ move_here) in
            inr (record { mine = e; position = f; block = value }, subst (λ y. IsTrue (is_data_address geo y)) (sym value) may.address)
      ]
    ]

    moved_tree : (((d : ℕ) → IsTrue (is_directory_at geo view d) → d ≡ n → ⊥)) → SameTree geo view view'
    moved_tree file = record {
      top = refl;
      directory = λ d s i r h. refl;
      sound = λ d s i r h. refl;
      good = λ d s i name r. let e = slots d s r in ((λ h. sym e ∙ h), (λ h. e ∙ h));
      bad = λ d s r h. slots d s r ∙ h;
      blocks = λ d s i b r h. let e = uses d (s / 16) r in ((λ k. (sym e ∙ k.0, k.1)), (λ k. (e ∙ k.0, k.1)));
    }
      where
        uses : (d k : ℕ) → IsReachableDirectory geo view d → use_at geo view d k ≡ use_at geo view' d k
        uses d k r = move_elsewhere d k (λ e. file d (reachable_directory geo view d r) e.0)

        slots : (d s : ℕ) → IsReachableDirectory geo view d → slot geo view d s ≡ slot geo view' d s
        slots d s r = table_slot geo view m x bytes moved_table (λ j l d. (o.once j l n m x d c).1) d s (uses d (s / 16) r)

  no_directory : (view : View) → (view.inode n).mode ≡ 1 → (d : ℕ) → IsTrue (is_directory_at geo view d) → d ≡ n → ⊥
  no_directory view one d t e = let two : (view.inode n).mode ≡ 2 = ap (λ k. (view.inode k).mode) (sym e) ∙ directory_mode geo view d t in omega (arith, one, two)

  tree_keeps : (set set' : Cell → Bool) (view : View) → ((c : Cell) → IsTrue (set' c) → IsTrue (set c)) → ((m : ℕ) → IsTrue (set (NumberBit m)) → IsTrue (set' (NumberBit m))) → TreeKeeps geo users ghost set view ghost' set'
  tree_keeps set set' view fewer number = record {
    fewer = fewer;
    place = λ i d s b h f. number i f;
    gone = λ g h. h;
    gone_kept = λ g f h t. t;
    entering = λ j d s b h f at. h;
    safe = λ f h. h;
  }

  pub move_slot_keeps : Keeps geo disk q ghost (record { change = SetBytes x bytes; after = after }) (moved held given_up ghost)
  move_slot_keeps all = each_step disk q (record { change = SetBytes x bytes; after = after }) With (Agrees geo users' ghost') skip take with_bit
    where
      rules : ObeysRules geo users
      rules = users_obey geo disk q ghost all

      With : (Cell → Bool) → View → Type 0
      With set view = Agrees geo users ghost set view × (IsTrue (set (Block to)) → IsTrue (set (BlockBit to)))

      with_bit : EachCut disk q With
      with_bit cut closed = (all cut closed, may.bit cut closed)

      users_tree : SameTree geo users users'
      users_tree = moved_tree users may.claims rules.rule3 refl refl (no_directory users may.file)

      new_claim : (m k b : ℕ) → New m k b → IsClaim geo users' m k b
      new_claim m k b h = (
        subst (λ j. IsUse geo users' j k b) (sym h.mine) (subst (λ j. IsUse geo users' n j b) (sym h.position) (move_here users may.claims rules.rule3 refl refl ∙ ap Some (sym h.block))),
        subst (λ y. IsTrue (is_data_address geo y)) (sym h.block) may.address,
      )

      move : ClaimsMove geo users users' ghost ghost' New
      move = record {
        came = λ m k b c. elim (came users may.claims rules.rule3 refl refl m k b c.0) [ inl old ↦ inl (old, c.1) | inr new ↦ inr new.0 ];
        went = λ m k b c. elim (cases_eq m n) [
          | inr other ↦ inl (sym (move_elsewhere users may.claims rules.rule3 refl refl m k (λ e. other e.0)) ∙ c.0, c.1)
          | inl e ↦ elim (cases_eq k p) [
            | inr other ↦ inl (sym (move_elsewhere users may.claims rules.rule3 refl refl m k (λ f. other f.1)) ∙ c.0, c.1)
            | inl f ↦ inr (inl (may.dropped b (subst (λ j. IsClaim geo users n j b) f (subst (λ j. IsClaim geo users j k b) e c))))
          ]
        ];
        free = λ m k b h. subst (λ y. IsFree geo users ghost y) (sym h.block) may.free;
        once = λ m k l j b h i. (h.mine ∙ sym i.mine, h.position ∙ sym i.position);
        held = λ b f. false_from_ne_true (ghost.held b) (λ t. both_ways (held b) f (may.held b t));
        given_up = may.given_up;
      }

      bits : (set : Cell → Bool) (view : View) → With set view → (m k b : ℕ) → New m k b → IsTrue (set (Block b)) → IsTrue (set (BlockBit b))
      bits set view w m k b h f = subst (λ y. IsTrue (set (BlockBit y))) (sym h.block) (w.1 (subst (λ y. IsTrue (set (Block y))) h.block f))

      skip : (set : Cell → Bool) (view : View) → With set view → Agrees geo users' ghost' (without set (Block x)) view
      skip set view w = let a = w.0 in record {
        same = same_skip set view users (SetBytes x bytes) a.same;
        rules = a.rules;
        numbers = let h = numbers_without users users' ghost set (Block x) (λ m. refl) (λ m z e. cc) (λ m z e. cc) a.numbers in record { free = h.free; used = h.used };
        blocks = claims_frame geo users users' ghost ghost' New set (without set (Block x)) view view move
            (λ c f. was_fresh set (Block x) c f)
            (λ m f. still_fresh set (Block x) (NumberBit m) f (λ e. cc))
            (λ b f. still_fresh set (Block x) (BlockBit b) f (λ e. cc))
            (bits set view w) (λ m k b c. inl c) a.blocks;
        modes = record {
          mode = λ m f used v. a.modes.mode m (was_fresh set (Block x) (NumberBit m) f) used v;
          uses = λ m k b f used d h.
              let f' = was_fresh set (Block x) (NumberBit m) f in
              let two : (view.inode m).mode ≡ 2 = directory_mode geo view m d in
              let same_mode : (view.inode m).mode ≡ (users.inode m).mode = a.modes.mode m f' used (λ z. omega (arith, two, z)) in
              sym (move_elsewhere users may.claims rules.rule3 refl refl m k (λ e. let one : (users.inode m).mode ≡ 1 = ap (λ j. (users.inode j).mode) e.0 ∙ may.file in omega (arith, one, two, same_mode)))
              ∙ a.modes.uses m k b f' used d h;
        };
        tree = tree_stays geo users users' ghost ghost' set (without set (Block x)) view view users_tree (same_tree geo view)
            (tree_keeps set (without set (Block x)) view (λ c f. was_fresh set (Block x) c f) (λ m f. still_fresh set (Block x) (NumberBit m) f (λ e. cc))) a.tree;
        safe = a.safe;
      }

      take : (set : Cell → Bool) (view : View) → With set view → IsTrue (set (Block x)) → AreIn after set → Agrees geo users' ghost' set (updated view (SetBytes x bytes))
      take set view w own met =
          let a = w.0 in
          let written : IsTrue (set (Record n)) = met (Record n) may.record_first in
          let same : view.inode n ≡ users.inode n = a.same (Record n) written in
          let claim = view_claim geo users ghost after n m x may.claims may.record_first may.tables set view a met in
          let same_block : view.bytes x ≡ users.bytes x = a.same (Block x) own in
          let file : (view.inode n).mode ≡ 1 = ap (λ (y : Inode). y.mode) same ∙ may.file in
          let tree = moved_tree view claim a.rules.rule3 same same_block (no_directory view file) in
          let number : IsTrue (set (NumberBit n)) = a.numbers.used n (λ z. let one : (users.inode n).mode ≡ 1 = may.file in omega (arith, one, z)) written in
          let fresh_bit : IsTrue (set (BlockBit to)) = w.1 (met (Block to) may.contents) in
          let w' = updated view (SetBytes x bytes) in
          record {
            same = same_take set view users (SetBytes x bytes) a.same;
            rules = tree_obeys geo view w' tree a.rules a.rules.rule2
                (claims_obey geo view w' New (came view claim a.rules.rule3 same same_block)
                (λ m k b h. subst (λ y. IsTrue (view.block_marked y) × ((i : ℕ) × (j : ℕ) × IsClaim geo view i j y → ⊥)) (sym h.block) (
                  a.same (BlockBit to) fresh_bit ∙ may.free.marked,
                  λ r. both_ways (ghost.given_up to r.0 r.1) (may.free.not_given_up r.0 r.1) (a.blocks.unclaimed to r.0 r.1 fresh_bit may.free.unclaimed may.free.not_held r.2),
                ))
                (λ m k l j b h i. (h.mine ∙ sym i.mine, h.position ∙ sym i.position))
                (λ b m k c. a.rules.rule3.marked m k b c) a.rules.rule3)
                (λ m h used. a.rules.rule4 m h used)
                (links_cover geo view w' tree (λ i r. le_refl (view.inode i).links) a.rules.rule8);
            numbers = let h = numbers_same users users' ghost set (λ m. refl) a.numbers in record { free = h.free; used = h.used };
            blocks = claims_frame geo users users' ghost ghost' New set set view w' move (λ c f. f) (λ m f. f) (λ b f. f) (bits set view w)
                (λ m k b c. elim (came view claim a.rules.rule3 same same_block m k b c.0) [
                  | inl old ↦ inl (old, c.1)
                  | inr new ↦ inr (new.0, new_claim m k b new.0, subst (λ j. IsTrue (set (NumberBit j))) (sym new.0.mine) number)
                ]) a.blocks;
            modes = record {
              mode = λ m f used v. a.modes.mode m f used v;
              uses = λ m k b f used d h.
                  let other : (m ≡ n) × (k ≡ p) → ⊥ = λ e. no_directory view file m d e.0 in
                  let old = a.modes.uses m k b f used d (move_elsewhere view claim a.rules.rule3 same same_block m k other ∙ h) in
                  sym (move_elsewhere users may.claims rules.rule3 refl refl m k other) ∙ old;
            };
            tree = tree_stays geo users users' ghost ghost' set set view w' users_tree tree (tree_keeps set set view (λ c f. f) (λ m f. f)) a.tree;
            safe = λ f h. reachable_kept geo view w' tree f (a.safe f h);
          }
