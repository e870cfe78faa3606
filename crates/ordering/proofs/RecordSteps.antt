-- A new record of one number keeps the invariant, where the tree stays.
use Rattle.std.proofs.Common.{◌≡◌, ◌≢◌, ℕ, ◌≤◌, Bool, ◌&&◌, List, ◌∷◌, ◌⊎◌, inl, inr, refl, sym, ap, ◌∙◌, subst, Some, IsTrue, IsFalse, Contains}
use Rattle.std.proofs.lemmas.Bool.{both_ways, cases_eq, and_parts, and_from, false_from_ne_true}
use Rattle.std.proofs.lemmas.Option.{same_Some}
use Rattle.model.specs.Layout.{Geometry, is_number, is_data_address}
use Rattle.model.specs.View.{View, Inode}
use Rattle.model.specs.Cells.{SetInode, updated, put_at}
use Rattle.model.specs.Uses.{has_position, is_directory, is_directory_at, is_sound, is_sound_at, record_use, IsUse, IsClaim}
use Rattle.model.specs.Rules.{UsesAreClaims}
use Rattle.model.specs.Reach.{IsReachable, IsReachableDirectory}
use Rattle.model.proofs.Steps.{use_sound}
use Rattle.model.proofs.Uses.{record_uses_agree, use_has, use_number, number_use}
use Rattle.model.proofs.SameTree.{SameTree, same_tree, tree_obeys, back, reachable_kept}
use Rattle.model.proofs.Places.{put_here}
use Rattle.model.proofs.NewRecord.{other_directory, other_use, other_mode, records_obey, numbers_obey, links_obey}
use Rattle.ordering.specs.Cuts.{Cell, Record, NumberBit, BlockBit, Block, Pending, users_view, EachCut, without, AreIn}
use Rattle.ordering.specs.Places.{HasPlace}
use Rattle.ordering.specs.Ghosts.{Ghost, Gone}
use Rattle.ordering.specs.Agrees.{Agrees, AllAgree, NumbersAgree, ModesAgree, BlocksAgree, TreeAgrees}
use Rattle.ordering.specs.Rewrites.{Stays, Comes, Rewrites}
use Rattle.ordering.proofs.CutLemmas.{was_fresh, is_other, still_fresh, each_step, same_skip, same_take}
use Rattle.ordering.proofs.Places.{place_back, place_kept}
use Rattle.ordering.proofs.CutUses.{stays_used, comes_used}
use Rattle.ordering.proofs.Claims.{ClaimsMove, claims_frame, claims_obey}
use Rattle.ordering.proofs.Bits.{sound_used}

-- what the tree asks of the cells and the ghosts
pub record TreeKeeps (geo : Geometry) (users : View) (ghost : Ghost) (set : Cell → Bool) (view : View) (ghost' : Ghost) (set' : Cell → Bool) : Type 0 where
  pub fewer : (c : Cell) → IsTrue (set' c) → IsTrue (set c)
  pub place : (i d s b : ℕ) → HasPlace geo users i d s b → IsTrue (set (NumberBit i)) → IsTrue (set' (NumberBit i))
  pub gone : (g : Gone) → IsTrue (ghost'.gone g) → IsTrue (ghost.gone g)
  pub gone_kept : (g : Gone) → IsTrue (set' (Record g.number)) → HasPlace geo view g.number g.directory g.slot g.block → IsTrue (ghost.gone g) → IsTrue (ghost'.gone g)
  pub entering : (j d s b : ℕ) → IsTrue (ghost'.entering j) → IsTrue (set' (NumberBit j)) → HasPlace geo view j d s b → IsTrue (ghost.entering j)
  pub safe : (f : ℕ) → IsTrue (ghost'.safe f) → IsTrue (ghost.safe f)

pub tree_stays : (geo : Geometry) (users users' : View) (ghost ghost' : Ghost) (set set' : Cell → Bool) (view view' : View)
    → SameTree geo users users' → SameTree geo view view' → TreeKeeps geo users ghost set view ghost' set' → TreeAgrees geo users ghost set view → TreeAgrees geo users' ghost' set' view'
tree_stays geo users users' ghost ghost' set set' view view' s t k h = record {
  places = λ i d p b f at. let old = place_back geo view view' t i d p b at in elim (h.places i d p b (k.fewer (Record i) f) old) [
    | inl o ↦ inl (place_kept geo users users' s i d p b o)
    | inr g ↦ inr (g.0, k.gone_kept (record { number = i; directory = d; slot = p; block = b; witness = g.0 }) f old g.1)
  ];
  directories = λ j d p b r f low at.
      let old = place_back geo view view' t j d p b at in
      let r' : IsReachableDirectory geo users j ⊎ IsTrue (ghost.entering j) = elim r [ inl y ↦ inl (back geo users users' s j y) | inr y ↦ inr (k.entering j d p b y f old) ] in
      place_kept geo users users' s j d p b (h.directories j d p b r' (k.fewer (NumberBit j) f) low old);
  numbers = λ i d p b low at f.
      let old = place_back geo users users' s i d p b at in k.place i d p b old (h.numbers i d p b low old (k.fewer (Block b) f));
  removed = λ g y f at. h.removed g (k.gone g y) (k.fewer (Block g.witness) f) (place_back geo view view' t g.number g.directory g.slot g.block at);
}

module _ (geo : Geometry) (disk : View) (q : List Pending) (ghost ghost' : Ghost) (after : List Cell) (n : ℕ) (x : Inode) (r : Rewrites geo disk q ghost ghost' after n x) where
  abbrev pub users : View
  users = users_view disk q

  abbrev pub users' : View
  users' = updated users (SetInode n x)

  pub record New (m k b : ℕ) : Type 0 where
    pub mine : m ≡ n
    pub sound : IsTrue (is_sound geo x)
    pub used : IsTrue (has_position geo x k)
    pub comes : Comes geo disk q ghost after x k b

  -- what a record uses does not hang on the records of a view
  pub record_there : (view : View) (y : Inode) (k : ℕ) → record_use geo (updated view (SetInode n x)) y k ≡ record_use geo view y k
  record_there view y k = record_uses_agree geo (updated view (SetInode n x)) view y k (λ m t a u d. refl)

  pub use_there : (view : View) (k b : ℕ) → record_use geo view x k ≡ Some b → IsUse geo (updated view (SetInode n x)) n k b
  use_there view k b u =
      number_use geo (updated view (SetInode n x)) n k b r.number (ap (λ y. record_use geo (updated view (SetInode n x)) y k) (put_here view.inode n x) ∙ record_there view x k ∙ u)

  -- a use of the new record, where the view has the old one: a position that stays was used before, and one that comes is new
  use_here : (view : View) → view.inode n ≡ users.inode n → ((t : ℕ) → Contains after (Block t) → view.bytes t ≡ users.bytes t) → (k b : ℕ) → record_use geo view x k ≡ Some b
      → (Stays geo (users.inode n) x k × IsUse geo view n k b) ⊎ (IsTrue (is_sound geo x) × IsTrue (has_position geo x k) × Comes geo disk q ghost after x k b)
  use_here view same fresh k b u =
      let sound = use_sound geo view x k b u in
      let has = use_has geo view x k b u in
      elim (r.came k sound has) [
        | inl stays ↦ inl (stays, number_use geo view n k b r.number (ap (λ y. record_use geo view y k) same ∙ sym (stays_used geo view (users.inode n) x k sound has stays) ∙ u))
        | inr comes ↦ inr (
          sound,
          has,
          subst (λ c. Comes geo disk q ghost after x k c) (same_Some comes.0 b (sym (comes_used geo disk q ghost after x k comes.0 comes.1 view fresh) ∙ u)) comes.1,
        )
      ]

  record_is : (view : View) (m k b : ℕ) → m ≡ n → IsUse geo (updated view (SetInode n x)) m k b → record_use geo view x k ≡ Some b
  record_is view m k b e u =
      let here : put_at view.inode n x m ≡ x = ap (put_at view.inode n x) e ∙ put_here view.inode n x in
      sym (record_there view x k) ∙ ap (λ y. record_use geo (updated view (SetInode n x)) y k) (sym here) ∙ (use_number geo (updated view (SetInode n x)) m k b u).1

  -- what is used after the update, over a view that has the old record and the bytes of the blocks that come first
  pub use_before : (view : View) → view.inode n ≡ users.inode n → ((t : ℕ) → Contains after (Block t) → view.bytes t ≡ users.bytes t)
      → (m k b : ℕ) → IsUse geo (updated view (SetInode n x)) m k b → IsUse geo view m k b ⊎ (New m k b × IsTrue (is_data_address geo b))
  use_before view same fresh m k b u = elim (cases_eq m n) [
    | inr other ↦ inl (other_use geo view n x m k other ∙ u)
    | inl e ↦ elim (use_here view same fresh k b (record_is view m k b e u)) [
      | inl old ↦ inl (subst (λ j. IsUse geo view j k b) (sym e) old.1)
      | inr new ↦ inr (record { mine = e; sound = new.0; used = new.1; comes = new.2 }, new.2.address)
    ]
  ]

  -- a new use is one of the users' new view
  pub new_claim : (m k b : ℕ) → New m k b → IsClaim geo users' m k b
  new_claim m k b h = (subst (λ j. IsUse geo users' j k b) (sym h.mine) (use_there users k b h.comes.uses), h.comes.address)

  move : ClaimsMove geo users users' ghost ghost' New
  move = record {
    came = λ m k b c. elim (use_before users refl (λ t c. refl) m k b c.0) [ inl old ↦ inl (old, c.1) | inr new ↦ inr new.0 ];
    went = λ m k b c. elim (cases_eq m n) [
      | inr other ↦ inl (sym (other_use geo users n x m k other) ∙ c.0, c.1)
      | inl e ↦ elim (r.went k b (subst (λ j. IsClaim geo users j k b) e c)) [
        | inl still ↦ inl (subst (λ j. IsClaim geo users' j k b) (sym e) still)
        | inr gone ↦ elim gone [ inl held ↦ inr (inl held) | inr up ↦ inr (inr (subst (λ j. IsTrue (ghost'.given_up b j k)) (sym e) up)) ]
      ]
    ];
    free = λ m k b h. h.comes.free;
    once = λ m k l j b h i. (h.mine ∙ sym i.mine, r.once k j b h.used i.used h.comes i.comes);
    held = λ b f. false_from_ne_true (ghost.held b) (λ t. both_ways (ghost'.held b) f (r.held b t));
    given_up = r.given_up;
  }

  pub blocks_skip : (set : Cell → Bool) (view : View) → ((b : ℕ) → IsTrue (set (Block b)) → (m k : ℕ) → New m k b → IsTrue (set (BlockBit b)))
      → BlocksAgree geo users ghost set view → BlocksAgree geo users' ghost' (without set (Record n)) view
  blocks_skip set view bits h =
      claims_frame geo users users' ghost ghost' New set (without set (Record n)) view view move
      (λ c f. was_fresh set (Record n) c f)
      (λ m f. still_fresh set (Record n) (NumberBit m) f (λ e. cc))
      (λ b f. still_fresh set (Record n) (BlockBit b) f (λ e. cc))
      (λ m k b new f. bits b f m k new)
      (λ m k b c. inl c) h

  pub blocks_take : (set : Cell → Bool) (view : View) → ((b : ℕ) → IsTrue (set (Block b)) → (m k : ℕ) → New m k b → IsTrue (set (BlockBit b)))
      → view.inode n ≡ users.inode n → ((c : ℕ) → IsTrue (set (Block c)) → view.bytes c ≡ users.bytes c) → AreIn after set → (IsTrue (is_sound geo x) → IsTrue (set (NumberBit n)))
      → BlocksAgree geo users ghost set view → BlocksAgree geo users' ghost' set (updated view (SetInode n x))
  blocks_take set view bits same bytes met bit h =
      claims_frame geo users users' ghost ghost' New set set view (updated view (SetInode n x)) move
      (λ c f. f) (λ m f. f) (λ b f. f) (λ m k b new f. bits b f m k new)
      (λ m k b c. elim (use_before view same (λ t c. bytes t (met (Block t) c)) m k b c.0) [
        | inl old ↦ inl (old, c.1)
        | inr new ↦ inr (new.0, new_claim m k b new.0, subst (λ j. IsTrue (set (NumberBit j))) (sym new.0.mine) (bit new.0.sound))
      ]) h

  pub claims_take : (set : Cell → Bool) (view : View) → Agrees geo users ghost set view → ((b : ℕ) → IsTrue (set (Block b)) → (m k : ℕ) → New m k b → IsTrue (set (BlockBit b)))
      → IsTrue (set (Record n)) → AreIn after set → UsesAreClaims geo (updated view (SetInode n x))
  claims_take set view a bits own met =
      claims_obey geo view (updated view (SetInode n x)) New
      (use_before view (a.same (Record n) own) (λ t c. a.same (Block t) (met (Block t) c)))
      (λ m k b new.
      let f : IsTrue (set (BlockBit b)) = bits b (met (Block b) new.comes.contents) m k new in (
        a.same (BlockBit b) f ∙ new.comes.free.marked,
        λ q. both_ways (ghost.given_up b q.0 q.1) (new.comes.free.not_given_up q.0 q.1) (a.blocks.unclaimed b q.0 q.1 f new.comes.free.unclaimed new.comes.free.not_held q.2),
      ))
      (λ m k l j b h i. (h.mine ∙ sym i.mine, r.once k j b h.used i.used h.comes i.comes))
      (λ b m k c. a.rules.rule3.marked m k b c) a.rules.rule3

  -- what is asked where the update is left out, and where it is taken
  pub record Skipped (set : Cell → Bool) (view : View) : Type 0 where
    pub mode : IsTrue (set (NumberBit n)) → x.mode ≢ 0 → (view.inode n).mode ≢ 0 → (view.inode n).mode ≡ x.mode
    pub uses : IsTrue (set (NumberBit n)) → x.mode ≢ 0 → IsTrue (is_directory_at geo view n) → (k b : ℕ) → IsUse geo view n k b → IsUse geo users' n k b
    pub tree : TreeKeeps geo users ghost set view ghost' (without set (Record n))

  pub record Taken (set : Cell → Bool) (view : View) : Type 0 where
    pub view_tree : SameTree geo view (updated view (SetInode n x))
    pub bit : x.mode ≢ 0 → IsTrue (set (NumberBit n))
    pub links : IsReachable geo view n → (view.inode n).links ≤ x.links
    pub tree : TreeKeeps geo users ghost set view ghost' set

  pub record Fits : Type 0 where
    pub users_tree : SameTree geo users users'
    pub marked : x.mode ≢ 0 → IsTrue (users.number_marked n)
    pub zeroed : (m : ℕ) → (m ≡ n → ⊥) → IsFalse (ghost'.zeroed m) → IsFalse (ghost.zeroed m)
    pub freed : x.mode ≡ 0 → IsTrue (ghost'.zeroed n)
    pub directory : IsTrue (is_directory x) → IsTrue (is_sound geo (users.inode n)) → IsTrue (is_directory (users.inode n))

  mode_of : (view : View) (m : ℕ) → m ≡ n → ((updated view (SetInode n x)).inode m).mode ≡ x.mode
  mode_of view m e = ap (λ k. (put_at view.inode n x k).mode) e ∙ ap (λ (y : Inode). y.mode) (put_here view.inode n x)

  numbers_after : (set set' : Cell → Bool) → Fits → ((c : Cell) → IsTrue (set' c) → IsTrue (set c)) → ((m : ℕ) → (m ≡ n → ⊥) → IsTrue (set (Record m)) → IsTrue (set' (Record m)))
      → ((m : ℕ) → IsTrue (set (NumberBit m)) → IsTrue (set' (NumberBit m))) → (x.mode ≢ 0 → IsTrue (set' (Record n)) → IsTrue (set' (NumberBit n)))
      → NumbersAgree users ghost set → NumbersAgree users' ghost' set'
  numbers_after set set' fits fewer record_stays bit_stays bit h = record {
    free = λ m z f g. elim (cases_eq m n) [
      | inl e ↦ absurd (both_ways (ghost'.zeroed m) g (subst (λ k. IsTrue (ghost'.zeroed k)) (sym e) (fits.freed (sym (mode_of users m e) ∙ z))))
      | inr other ↦ record_stays m other (h.free m (other_mode geo users n x m other ∙ z) (fewer (NumberBit m) f) (fits.zeroed m other g))
    ];
    used = λ m u f. elim (cases_eq m n) [
      | inl e ↦ subst (λ k. IsTrue (set' (NumberBit k))) (sym e) (bit (λ z. u (mode_of users m e ∙ z)) (subst (λ k. IsTrue (set' (Record k))) e f))
      | inr other ↦ bit_stays m (h.used m (λ z. u (sym (other_mode geo users n x m other) ∙ z)) (fewer (Record m) f))
    ];
  }

  modes_skip : (set : Cell → Bool) (view : View) → Skipped set view → ModesAgree geo users set view → ModesAgree geo users' (without set (Record n)) view
  modes_skip set view s h = record {
    mode = λ m f u v. elim (cases_eq m n) [
      | inl e ↦ ap (λ k. (view.inode k).mode) e
          ∙ s.mode (subst (λ k. IsTrue (set (NumberBit k))) e (was_fresh set (Record n) (NumberBit m) f)) (λ z. u (mode_of users m e ∙ z)) (λ z. v (ap (λ k. (view.inode k).mode) e ∙ z))
          ∙ sym (mode_of users m e)
      | inr other ↦ h.mode m (was_fresh set (Record n) (NumberBit m) f) (λ z. u (sym (other_mode geo users n x m other) ∙ z)) v ∙ other_mode geo users n x m other
    ];
    uses = λ m k b f u d c. elim (cases_eq m n) [
      | inl e ↦ subst (λ j. IsUse geo users' j k b) (sym e)
          (s.uses (subst (λ j. IsTrue (set (NumberBit j))) e (was_fresh set (Record n) (NumberBit m) f)) (λ z. u (mode_of users m e ∙ z))
          (subst (λ j. IsTrue (is_directory_at geo view j)) e d) k b (subst (λ j. IsUse geo view j k b) e c))
      | inr other ↦ sym (other_use geo users n x m k other) ∙ h.uses m k b (was_fresh set (Record n) (NumberBit m) f) (λ z. u (sym (other_mode geo users n x m other) ∙ z)) d c
    ];
  }

  was_directory : (view : View) → view.inode n ≡ users.inode n → IsTrue (is_sound geo (users.inode n)) → IsTrue (is_directory (users.inode n)) → IsTrue (is_directory_at geo view n)
  was_directory view same sound directory =
      ap (λ y. is_number geo n && is_sound geo y && is_directory y) same
      ∙ and_from (is_number geo n && is_sound geo (users.inode n)) (is_directory (users.inode n)) (and_from (is_number geo n) (is_sound geo (users.inode n)) r.number sound) directory

  modes_take : (set : Cell → Bool) (view : View) → Fits → view.inode n ≡ users.inode n → ((c : ℕ) → IsTrue (set (Block c)) → view.bytes c ≡ users.bytes c) → AreIn after set
      → ModesAgree geo users set view → ModesAgree geo users' set (updated view (SetInode n x))
  modes_take set view fits same bytes met h = record {
    mode = λ m f u v. elim (cases_eq m n) [
      | inl e ↦ mode_of view m e ∙ sym (mode_of users m e)
      | inr other ↦ sym (other_mode geo view n x m other)
          ∙ h.mode m f (λ z. u (sym (other_mode geo users n x m other) ∙ z)) (λ z. v (sym (other_mode geo view n x m other) ∙ z))
          ∙ other_mode geo users n x m other
    ];
    uses = λ m k b f u d c. elim (cases_eq m n) [
      | inl e ↦
          let here : put_at view.inode n x m ≡ x = ap (put_at view.inode n x) e ∙ put_here view.inode n x in
          let directory : IsTrue (is_directory x) = subst (λ (y : Inode). IsTrue (is_directory y)) here (and_parts (is_sound_at geo (updated view (SetInode n x)) m) (is_directory (put_at view.inode n x m)) d).1 in
          subst (λ j. IsUse geo users' j k b) (sym e) (elim (use_here view same (λ t c. bytes t (met (Block t) c)) k b (record_is view m k b e c)) [
            | inr new ↦ use_there users k b new.2.uses
            | inl old ↦
                let was : IsUse geo users n k b =
                h.uses n k b (subst (λ j. IsTrue (set (NumberBit j))) e f) (λ z. sound_used geo (users.inode n) old.0.sound z) (was_directory view same old.0.sound (fits.directory directory old.0.sound)) old.1 in
                let sound = use_sound geo view x k b (record_is view m k b e c) in
                let has = use_has geo view x k b (record_is view m k b e c) in
                use_there users k b (stays_used geo users (users.inode n) x k sound has old.0 ∙ (use_number geo users n k b was).1)
          ])
      | inr other ↦ sym (other_use geo users n x m k other)
          ∙ h.uses m k b f (λ z. u (sym (other_mode geo users n x m other) ∙ z)) (other_directory geo view n x m other ∙ d) (other_use geo view n x m k other ∙ c)
    ];
  }

  pub record_step : Fits → ((set : Cell → Bool) (view : View) → Agrees geo users ghost set view → Skipped set view)
      → ((set : Cell → Bool) (view : View) → Agrees geo users ghost set view → IsTrue (set (Record n)) → AreIn after set → Taken set view)
      → AllAgree geo disk q ghost → AllAgree geo disk (record { change = SetInode n x; after = after } ∷ q) ghost'
  record_step fits skipped taken all =
      each_step disk q (record { change = SetInode n x; after = after }) With (Agrees geo users' ghost') skip take with_bits
    where
      Bits : (Cell → Bool) → View → Type 0
      Bits set view = (b : ℕ) → IsTrue (set (Block b)) → (m k : ℕ) → New m k b → IsTrue (set (BlockBit b))

      With : (Cell → Bool) → View → Type 0
      With set view = Agrees geo users ghost set view × Bits set view

      with_bits : EachCut disk q With
      with_bits cut closed = (all cut closed, λ b f m k new. new.comes.bit cut closed f)

      skip : (set : Cell → Bool) (view : View) → With set view → Agrees geo users' ghost' (without set (Record n)) view
      skip set view p =
          let a = p.0 in
          let s = skipped set view a in
          record {
            same = same_skip set view users (SetInode n x) a.same;
            rules = a.rules;
            numbers = numbers_after set (without set (Record n)) fits (λ c f. was_fresh set (Record n) c f)
                (λ m other f. still_fresh set (Record n) (Record m) f (λ e. other cc))
                (λ m f. still_fresh set (Record n) (NumberBit m) f (λ e. cc))
                (λ u f. absurd (is_other set (Record n) (Record n) f refl)) a.numbers;
            blocks = blocks_skip set view p.1 a.blocks;
            modes = modes_skip set view s a.modes;
            tree = tree_stays geo users users' ghost ghost' set (without set (Record n)) view view fits.users_tree (same_tree geo view) s.tree a.tree;
            safe = λ f h. a.safe f (s.tree.safe f h);
          }

      take : (set : Cell → Bool) (view : View) → With set view → IsTrue (set (Record n)) → AreIn after set → Agrees geo users' ghost' set (updated view (SetInode n x))
      take set view p own met =
          let a = p.0 in
          let t = taken set view a own met in
          let w = updated view (SetInode n x) in
          record {
            same = same_take set view users (SetInode n x) a.same;
            rules = tree_obeys geo view w t.view_tree a.rules (records_obey geo view n x r.sound a.rules.rule2) (claims_take set view a p.1 own met)
                (numbers_obey geo view n x (λ u. a.same (NumberBit n) (t.bit u) ∙ fits.marked u) a.rules.rule4)
                (links_obey geo view n x t.view_tree t.links a.rules.rule8);
            numbers = numbers_after set set fits (λ c f. f) (λ m other f. f) (λ m f. f) (λ u f. t.bit u) a.numbers;
            blocks = blocks_take set view p.1 (a.same (Record n) own) (λ c f. a.same (Block c) f) met (λ sound. t.bit (λ z. sound_used geo x sound z)) a.blocks;
            modes = modes_take set view fits (a.same (Record n) own) (λ c f. a.same (Block c) f) met a.modes;
            tree = tree_stays geo users users' ghost ghost' set set view w fits.users_tree t.view_tree t.tree a.tree;
            safe = λ f h. reachable_kept geo view w t.view_tree f (a.safe f (t.tree.safe f h));
          }
