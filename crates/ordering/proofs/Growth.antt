-- A directory gets blocks whose slots are empty.
use Rattle.std.proofs.Common.{◌≡◌, ◌≢◌, ℕ, ◌≤◌, ◌/◌, ◌&&◌, cond, eqb, List, ◌∷◌, ◌⊎◌, inl, inr, refl, sym, ap, ◌∙◌, subst, IsTrue, IsFalse, None, Contains, eq-eqb, le-ltb}
use Rattle.std.proofs.lemmas.Bool.{both_ways, cases_eq, cases_lt, and_from, cases_Bool}
use Rattle.model.specs.Layout.{Geometry, is_number, root}
use Rattle.model.specs.View.{View, Inode}
use Rattle.model.specs.Cells.{SetInode, updated, put_at}
use Rattle.model.specs.Shape.{most_blocks}
use Rattle.model.specs.Uses.{use_at, has_position, is_directory, is_directory_at, is_sound, is_sound_at, record_use, IsUse, IsClaim}
use Rattle.model.specs.Slots.{Absent, Empty, Good, Bad, slot, slot_in}
use Rattle.model.specs.Rules.{ObeysRules}
use Rattle.model.proofs.NamedLemmas.{too_far_no_slot}
use Rattle.model.proofs.Slots.{slot_absent, slot_claimed, slots_of_uses}
use Rattle.model.proofs.Steps.{use_at_is}
use Rattle.model.proofs.Uses.{no_position_none, used_has}
use Rattle.model.proofs.SameTree.{SameTree}
use Rattle.model.proofs.Places.{put_here}
use Rattle.model.proofs.NewRecord.{other_directory, other_sound, other_use, other_slot}
use Rattle.ordering.specs.Cuts.{Cell, Record, BlockBit, Block, Pending, users_view, EachCut}
use Rattle.ordering.specs.Ghosts.{Ghost}
use Rattle.ordering.specs.Agrees.{Agrees, AllAgree}
use Rattle.ordering.specs.Kinds.{Keeps}
use Rattle.ordering.specs.Rewrites.{Comes, MayGrowDirectory}
use Rattle.ordering.proofs.CutLemmas.{each_step, was_fresh}
use Rattle.ordering.proofs.Bits.{users_obey, sound_used}
use Rattle.ordering.proofs.CutUses.{stays_used, comes_used}
use Rattle.ordering.proofs.RecordSteps.{record_step, record_there, use_there, Fits}
use Rattle.ordering.proofs.RecordKinds.{same_flags, keeps_tree_skip, keeps_tree_take}

module _ (geo : Geometry) (disk : View) (q : List Pending) (ghost : Ghost) (after : List Cell) (n : ℕ) (x : Inode) (may : MayGrowDirectory geo disk q ghost after n x) where
  abbrev users : View
  users = users_view disk q

  sound_same : is_sound geo (users.inode n) ≡ is_sound geo x
  sound_same = may.sound ∙ sym may.still_sound

  module _ (v : View) (same : v.inode n ≡ users.inode n) (blocks : (c : ℕ) → Contains after (Block c) → v.bytes c ≡ users.bytes c) where
    abbrev w : View
    w = updated v (SetInode n x)

    flags : (is_directory_at geo v n ≡ is_directory_at geo w n) × (is_sound_at geo v n ≡ is_sound_at geo w n)
    flags = same_flags geo v n x (ap (is_sound geo) same ∙ sound_same) (ap (λ (y : Inode). y.mode) same ∙ may.directory ∙ sym may.still_directory)

    now_directory : IsTrue (is_directory_at geo w n)
    now_directory = and_from (is_number geo n && is_sound geo (put_at v.inode n x n)) (is_directory (put_at v.inode n x n))
        (and_from (is_number geo n) (is_sound geo (put_at v.inode n x n)) may.blocks.number (ap (is_sound geo) (put_here v.inode n x) ∙ may.still_sound))
        (ap is_directory (put_here v.inode n x) ∙ ap (λ m. eqb m 2) may.still_directory)

    same_uses : (k : ℕ) → IsTrue (has_position geo (users.inode n) k) → use_at geo v n k ≡ use_at geo w n k
    same_uses k t =
        let stays = may.old_blocks k t in
        use_at_is geo v n k
        ∙ ap (λ o. cond (is_number geo n) o None)
        (ap (λ y. record_use geo v y k) same ∙ sym (stays_used geo v (users.inode n) x k may.still_sound stays.0 stays.1)
        ∙ sym (record_there geo disk q ghost ghost after n x may.blocks v x k) ∙ ap (λ y. record_use geo w y k) (sym (put_here v.inode n x)))
        ∙ sym (use_at_is geo w n k)

    was_absent : (s : ℕ) → IsFalse (has_position geo (users.inode n) (s / 16)) → slot geo v n s ≡ Absent
    was_absent s f = slot_absent geo v n s (no_position_none geo v n (s / 16) (ap (λ y. has_position geo y (s / 16)) same ∙ f))

    now_empty : (s : ℕ) → IsFalse (has_position geo (users.inode n) (s / 16)) → (slot geo w n s ≡ Absent) ⊎ (slot geo w n s ≡ Empty)
    now_empty s f = elim (cases_lt (s / 16) (most_blocks geo)) [
      | inr high ↦ inl (too_far_no_slot geo w n s (le-ltb (s / 16) (most_blocks geo) high))
      | inl low ↦ elim (cases_Bool (has_position geo x (s / 16))) [
        | inr none ↦ inl (slot_absent geo w n s (no_position_none geo w n (s / 16) (ap (λ y. has_position geo y (s / 16)) (put_here v.inode n x) ∙ none)))
        | inl used ↦ inr (
            let c = may.empty s f used low in
            slot_claimed geo w n s c.0 now_directory low (
              use_there geo disk q ghost ghost after n x may.blocks v (s / 16) c.0 (comes_used geo disk q ghost after x (s / 16) c.0 c.1 v blocks),
              c.1.address,
            )
            ∙ ap (λ bytes. slot_in geo bytes s) (blocks c.0 c.1.contents) ∙ c.2)
      ]
    ]

    same_or_new : (s : ℕ) → ((slot geo v n s ≡ slot geo w n s) × (use_at geo v n (s / 16) ≡ use_at geo w n (s / 16))) ⊎ ((slot geo v n s ≡ Absent) × ((slot geo w n s ≡ Absent) ⊎ (slot geo w n s ≡ Empty)))
    same_or_new s = elim (cases_Bool (has_position geo (users.inode n) (s / 16))) [
      | inl t ↦ inl (slots_of_uses geo v w n s flags.0 (same_uses (s / 16) t) (λ a dir low c. refl), same_uses (s / 16) t)
      | inr f ↦ inr (was_absent s f, now_empty s f)
    ]

    grown_tree : SameTree geo v w
    grown_tree = record {
      top = directories root;
      directory = λ d s i r h. directories i;
      sound = λ d s i r h. elim (cases_eq i n) [ inl e ↦ subst (λ k. is_sound_at geo v k ≡ is_sound_at geo w k) (sym e) flags.1 | inr o ↦ other_sound geo v n x i o ];
      good = λ d s i name r. (good_kept d s i name, good_back d s i name);
      bad = λ d s r b. elim (cases_eq d n) [
        | inr o ↦ other_slot geo v n x d s o ∙ b
        | inl e ↦ elim (same_or_new s) [
          | inl at ↦ subst (λ k. slot geo v k s ≡ Bad) (sym e) (at.0 ∙ subst (λ k. slot geo w k s ≡ Bad) e b)
          | inr at ↦ absurd (let b' : slot geo w n s ≡ Bad = subst (λ k. slot geo w k s ≡ Bad) e b in elim at.1 [ inl a ↦ cc | inr a ↦ cc ])
        ]
      ];
      blocks = λ d s i b r h. elim (cases_eq d n) [
        | inr o ↦ ((λ c. (sym (other_use geo v n x d (s / 16) o) ∙ c.0, c.1)), (λ c. (other_use geo v n x d (s / 16) o ∙ c.0, c.1)))
        | inl e ↦ elim (same_or_new s) [
          | inl at ↦ let u : use_at geo v d (s / 16) ≡ use_at geo w d (s / 16) = subst (λ k. use_at geo v k (s / 16) ≡ use_at geo w k (s / 16)) (sym e) at.1 in
              ((λ c. (sym u ∙ c.0, c.1)), (λ c. (u ∙ c.0, c.1)))
          | inr at ↦ absurd (let h' : slot geo v n s ≡ Good i h.0 = subst (λ k. slot geo v k s ≡ Good i h.0) e h.1 in let a : slot geo v n s ≡ Absent = at.0 in cc)
        ]
      ];
    }
      where
        directories : (i : ℕ) → is_directory_at geo v i ≡ is_directory_at geo w i
        directories i = elim (cases_eq i n) [ inl e ↦ subst (λ k. is_directory_at geo v k ≡ is_directory_at geo w k) (sym e) flags.0 | inr o ↦ other_directory geo v n x i o ]

        good_kept : (d s i : ℕ) (name : List ℕ) → slot geo v d s ≡ Good i name → slot geo w d s ≡ Good i name
        good_kept d s i name h = elim (cases_eq d n) [
          | inr o ↦ sym (other_slot geo v n x d s o) ∙ h
          | inl e ↦ elim (same_or_new s) [
            | inl at ↦ subst (λ k. slot geo w k s ≡ Good i name) (sym e) (sym at.0 ∙ subst (λ k. slot geo v k s ≡ Good i name) e h)
            | inr at ↦ absurd (let h' : slot geo v n s ≡ Good i name = subst (λ k. slot geo v k s ≡ Good i name) e h in let a : slot geo v n s ≡ Absent = at.0 in cc)
          ]
        ]

        good_back : (d s i : ℕ) (name : List ℕ) → slot geo w d s ≡ Good i name → slot geo v d s ≡ Good i name
        good_back d s i name h = elim (cases_eq d n) [
          | inr o ↦ other_slot geo v n x d s o ∙ h
          | inl e ↦ elim (same_or_new s) [
            | inl at ↦ subst (λ k. slot geo v k s ≡ Good i name) (sym e) (at.0 ∙ subst (λ k. slot geo w k s ≡ Good i name) e h)
            | inr at ↦ absurd (let h' : slot geo w n s ≡ Good i name = subst (λ k. slot geo w k s ≡ Good i name) e h in elim at.1 [ inl a ↦ cc | inr a ↦ cc ])
          ]
        ]

  pub grow_directory_keeps : Keeps geo disk q ghost (record { change = SetInode n x; after = after }) ghost
  grow_directory_keeps all =
      record_step geo disk q ghost ghost after n x may.blocks fits
      (λ set view a. record {
        mode = λ f u v. a.modes.mode n f old_used v ∙ may.directory ∙ sym may.still_directory;
        uses = λ f u d k b c. stays k b (a.modes.uses n k b f old_used d c);
        tree = keeps_tree_skip geo users ghost ghost set view n (λ g. refl) (λ j. refl) (λ f. refl);
      })
      (λ set view a own met. let same : view.inode n ≡ users.inode n = a.same (Record n) own in record {
        view_tree = grown_tree view same (λ c h. a.same (Block c) (met (Block c) h));
        bit = λ u. a.numbers.used n old_used own;
        links = λ r. subst (λ (y : Inode). y.links ≤ x.links) (sym same) may.links;
        tree = keeps_tree_take geo users ghost ghost set view (λ g. refl) (λ j. refl) (λ f. refl);
      })
      all
    where
      rules : ObeysRules geo users
      rules = users_obey geo disk q ghost all

      old_used : (users.inode n).mode ≢ 0
      old_used = λ z. sound_used geo (users.inode n) may.sound z

      stays : (k b : ℕ) → IsUse geo users n k b → IsUse geo (updated users (SetInode n x)) n k b
      stays k b u = sym (same_uses users refl (λ c h. refl) k (used_has geo users n k b u)) ∙ u

      fits : Fits geo disk q ghost ghost after n x may.blocks
      fits = record {
        users_tree = grown_tree users refl (λ c h. refl);
        marked = λ u. rules.rule4 n may.blocks.number old_used;
        zeroed = λ m other f. f;
        freed = λ z. absurd (sound_used geo x may.still_sound z);
        directory = λ d s. eq-eqb (users.inode n).mode 2 may.directory;
      }

-- After a directory grew, a cut with the contents of the new block claims it only with the directory's new record.
pub growth_credits : (geo : Geometry) (disk : View) (q : List Pending) (ghost : Ghost) (after : List Cell) (n : ℕ) (x : Inode) (k b : ℕ) → Comes geo disk q ghost after x k b → AllAgree geo disk q ghost
    → EachCut disk (record { change = SetInode n x; after = after } ∷ q) (λ set view. IsTrue (set (Block b)) → (m j : ℕ) → IsClaim geo view m j b → IsTrue (set (Record n)))
growth_credits geo disk q ghost after n x k b comes all =
    each_step disk q (record { change = SetInode n x; after = after })
    (λ set view. Agrees geo (users_view disk q) ghost set view × (IsTrue (set (Block b)) → IsTrue (set (BlockBit b))))
    (λ set view. IsTrue (set (Block b)) → (m j : ℕ) → IsClaim geo view m j b → IsTrue (set (Record n)))
    (λ set view a f m j c. absurd (both_ways (ghost.given_up b m j) (comes.free.not_given_up m j)
    (a.0.blocks.unclaimed b m j (a.1 (was_fresh set (Record n) (Block b) f)) comes.free.unclaimed comes.free.not_held c)))
    (λ set view a own met f m j c. own)
    (λ cut closed. (all cut closed, comes.bit cut closed))
