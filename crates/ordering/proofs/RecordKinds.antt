-- The kinds of update that write a record and may change blocks.
use Rattle.std.proofs.Common.{◌≡◌, ◌≢◌, ℕ, ◌≤◌, Bool, ◌&&◌, eqb, List, ◌∷◌, ◌⊎◌, inl, inr, refl, sym, ap, ap₂, ◌∙◌, subst, IsTrue, arith, eq-eqb, eqb-true}
use Rattle.std.proofs.lemmas.Bool.{and_parts, or_left, or_parts, or_cases}
use Rattle.model.specs.Layout.{Geometry, is_number}
use Rattle.model.specs.View.{View, Inode}
use Rattle.model.specs.Cells.{SetInode, updated}
use Rattle.model.specs.Uses.{is_directory, is_directory_at, is_sound, is_sound_at}
use Rattle.model.specs.Reach.{IsReachable, IsReachableDirectory}
use Rattle.model.specs.Rules.{ObeysRules}
use Rattle.model.proofs.SlotLemmas.{reachable_directory, directory_sound}
use Rattle.model.proofs.SameTree.{SameTree}
use Rattle.model.proofs.Places.{put_here}
use Rattle.model.proofs.NewRecord.{outside_tree}
use Rattle.ordering.specs.Cuts.{Cell, Record, NumberBit, Pending, users_view, without}
use Rattle.ordering.specs.Places.{HasPlace}
use Rattle.ordering.specs.Ghosts.{Ghost, Gone}
use Rattle.ordering.specs.Agrees.{Agrees, AllAgree}
use Rattle.ordering.specs.Kinds.{Keeps}
use Rattle.ordering.specs.Rewrites.{Rewrites, MayRewriteFile, MayCreate, MayFree, moved, freed, entered}
use Rattle.ordering.proofs.CutLemmas.{was_fresh, is_other, still_fresh}
use Rattle.ordering.proofs.Places.{unnamed}
use Rattle.ordering.proofs.Bits.{users_obey, sound_used, place_used}
use Rattle.ordering.proofs.Data.{directory_mode}
use Rattle.ordering.proofs.Records.{none_gone, only_there, still_gone, was_gone}
use Rattle.ordering.proofs.RecordSteps.{record_step, Fits, TreeKeeps}

-- the same kind before and after
pub same_flags : (geo : Geometry) (v : View) (n : ℕ) (x : Inode) → is_sound geo (v.inode n) ≡ is_sound geo x → (v.inode n).mode ≡ x.mode
    → (is_directory_at geo v n ≡ is_directory_at geo (updated v (SetInode n x)) n) × (is_sound_at geo v n ≡ is_sound_at geo (updated v (SetInode n x)) n)
same_flags geo v n x sound mode = (
  ap₂ (λ s m. is_number geo n && s && eqb m 2) sound mode ∙ ap (λ y. is_number geo n && is_sound geo y && is_directory y) (sym (put_here v.inode n x)),
  ap (λ s. is_number geo n && s) sound ∙ ap (λ y. is_number geo n && is_sound geo y) (sym (put_here v.inode n x)),
)

pub keeps_tree_skip : (geo : Geometry) (users : View) (ghost ghost' : Ghost) (set : Cell → Bool) (view : View) (n : ℕ) → ((g : Gone) → ghost'.gone g ≡ ghost.gone g) → ((j : ℕ) → ghost'.entering j ≡ ghost.entering j) → ((f : ℕ) → ghost'.safe f ≡ ghost.safe f)
    → TreeKeeps geo users ghost set view ghost' (without set (Record n))
keeps_tree_skip geo users ghost ghost' set view n gone entering safe = record {
  fewer = λ c f. was_fresh set (Record n) c f;
  place = λ i d s b p f. still_fresh set (Record n) (NumberBit i) f (λ e. cc);
  gone = λ g h. sym (gone g) ∙ h;
  gone_kept = λ g f p h. gone g ∙ h;
  entering = λ j d s b h f p. sym (entering j) ∙ h;
  safe = λ f h. sym (safe f) ∙ h;
}

pub keeps_tree_take : (geo : Geometry) (users : View) (ghost ghost' : Ghost) (set : Cell → Bool) (view : View) → ((g : Gone) → ghost'.gone g ≡ ghost.gone g) → ((j : ℕ) → ghost'.entering j ≡ ghost.entering j) → ((f : ℕ) → ghost'.safe f ≡ ghost.safe f)
    → TreeKeeps geo users ghost set view ghost' set
keeps_tree_take geo users ghost ghost' set view gone entering safe = record {
  fewer = λ c f. f;
  place = λ i d s b p f. f;
  gone = λ g h. sym (gone g) ∙ h;
  gone_kept = λ g f p h. gone g ∙ h;
  entering = λ j d s b h f p. sym (entering j) ∙ h;
  safe = λ f h. sym (safe f) ∙ h;
}

file_is_none : (geo : Geometry) (v : View) (n : ℕ) → (v.inode n).mode ≡ 1 → IsTrue (is_directory_at geo v n) → ⊥
file_is_none geo v n one t = let two : (v.inode n).mode ≡ 2 = directory_mode geo v n t in omega (arith, one, two)

-- ---- a file's record

pub rewrite_file_keeps : (geo : Geometry) (disk : View) (q : List Pending) (ghost : Ghost) (held : ℕ → Bool) (given_up : ℕ → ℕ → ℕ → Bool) (after : List Cell) (n : ℕ) (x : Inode)
    → MayRewriteFile geo disk q ghost (moved held given_up ghost) after n x → Keeps geo disk q ghost (record { change = SetInode n x; after = after }) (moved held given_up ghost)
rewrite_file_keeps geo disk q ghost held given_up after n x may all =
    record_step geo disk q ghost (moved held given_up ghost) after n x may.blocks fits
    (λ set view a. record {
      mode = λ f u v. a.modes.mode n f old_used v ∙ may.file ∙ sym may.still_file;
      uses = λ f u d k b c. absurd (
          let v : (view.inode n).mode ≢ 0 = λ z. sound_used geo (view.inode n) (directory_sound geo view n d) z in
          file_is_none geo view n (a.modes.mode n f old_used v ∙ may.file) d);
      tree = keeps_tree_skip geo users ghost (moved held given_up ghost) set view n (λ g. refl) (λ j. refl) (λ f. refl);
    })
    (λ set view a own met. let same : view.inode n ≡ users.inode n = a.same (Record n) own in record {
      view_tree = tree_at view a.rules same;
      bit = λ u. a.numbers.used n old_used own;
      links = λ r. subst (λ (y : Inode). y.links ≤ x.links) (sym same) may.links;
      tree = keeps_tree_take geo users ghost (moved held given_up ghost) set view (λ g. refl) (λ j. refl) (λ f. refl);
    })
    all
  where
    users : View
    users = users_view disk q

    rules : ObeysRules geo users
    rules = users_obey geo disk q ghost all

    old_used : (users.inode n).mode ≢ 0
    old_used = λ z. let one : (users.inode n).mode ≡ 1 = may.file in omega (arith, one, z)

    still_sound : IsTrue (is_sound geo x)
    still_sound = elim may.blocks.sound [ inl z ↦ absurd (let one : x.mode ≡ 1 = may.still_file in omega (arith, one, z)) | inr s ↦ s ]

    tree_at : (view : View) → ObeysRules geo view → view.inode n ≡ users.inode n → SameTree geo view (updated view (SetInode n x))
    tree_at view o same =
        outside_tree geo view n x o.rule1
        (λ r. file_is_none geo view n (ap (λ (y : Inode). y.mode) same ∙ may.file) (reachable_directory geo view n r))
        (λ d s r h. same_flags geo view n x (ap (is_sound geo) same ∙ may.sound ∙ sym still_sound) (ap (λ (y : Inode). y.mode) same ∙ may.file ∙ sym may.still_file))

    fits : Fits geo disk q ghost (moved held given_up ghost) after n x may.blocks
    fits = record {
      users_tree = tree_at users rules refl;
      marked = λ u. rules.rule4 n may.blocks.number old_used;
      zeroed = λ m other f. f;
      freed = λ z. absurd (let one : x.mode ≡ 1 = may.still_file in omega (arith, one, z));
      directory = λ d s. absurd (let two : x.mode ≡ 2 = eqb-true x.mode 2 d in let one : x.mode ≡ 1 = may.still_file in omega (arith, one, two));
    }

-- ---- a number's first record

module _ (geo : Geometry) (disk : View) (q : List Pending) (ghost ghost' : Ghost) (after : List Cell) (n : ℕ) (x : Inode) (may : MayCreate geo disk q ghost after n x)
    (held : (b : ℕ) → ghost'.held b ≡ ghost.held b) (given_up : (b m k : ℕ) → ghost'.given_up b m k ≡ ghost.given_up b m k)
    (gone : (g : Gone) → ghost'.gone g ≡ ghost.gone g) (zeroed : (m : ℕ) → ghost'.zeroed m ≡ ghost.zeroed m) (safe : (f : ℕ) → ghost'.safe f ≡ ghost.safe f)
    (entering : (j : ℕ) → IsTrue (ghost'.entering j) → IsTrue (ghost.entering j) ⊎ (j ≡ n)) where
  rewrites : Rewrites geo disk q ghost ghost' after n x
  rewrites = let r = may.blocks in record {
    number = r.number;
    sound = r.sound;
    came = r.came;
    once = r.once;
    went = λ k b c. elim (r.went k b c) [ inl s ↦ inl s | inr g ↦ elim g [ inl h ↦ inr (inl (held b ∙ h)) | inr u ↦ inr (inr (given_up b n k ∙ u)) ] ];
    held = λ b h. held b ∙ h;
    given_up = λ b m k h. given_up b m k ∙ h;
  }

  pub create_keeps : AllAgree geo disk q ghost → AllAgree geo disk (record { change = SetInode n x; after = after } ∷ q) ghost'
  create_keeps all =
      record_step geo disk q ghost ghost' after n x rewrites fits
      (λ set view a. record {
        mode = λ f u v. absurd (v (view_free set view a f));
        uses = λ f u d k b c. absurd (sound_used geo (view.inode n) (directory_sound geo view n d) (view_free set view a f));
        tree = record {
          fewer = λ c f. was_fresh set (Record n) c f;
          place = λ i d s b p f. still_fresh set (Record n) (NumberBit i) f (λ e. cc);
          gone = λ g h. sym (gone g) ∙ h;
          gone_kept = λ g f p h. gone g ∙ h;
          entering = λ j d s b h f p. enter set view a j d s b h (was_fresh set (Record n) (NumberBit j) f) p;
          safe = λ f h. sym (safe f) ∙ h;
        };
      })
      (λ set view a own met.
      let zero : (view.inode n).mode ≡ 0 = ap (λ (y : Inode). y.mode) (a.same (Record n) own) ∙ may.free in
      record {
        view_tree = tree_at view a.rules zero;
        bit = λ u. met (NumberBit n) may.bit;
        links = λ r. absurd (elim r [
          | inl t ↦ sound_used geo (view.inode n) (directory_sound geo view n (reachable_directory geo view n t)) zero
          | inr t ↦ sound_used geo (view.inode n) (and_parts (is_number geo n) (is_sound geo (view.inode n)) t.0).1 zero
        ]);
        tree = record {
          fewer = λ c f. f;
          place = λ i d s b p f. f;
          gone = λ g h. sym (gone g) ∙ h;
          gone_kept = λ g f p h. gone g ∙ h;
          entering = enter set view a;
          safe = λ f h. sym (safe f) ∙ h;
        };
      })
      all
    where
      users : View
      users = users_view disk q

      rules : ObeysRules geo users
      rules = users_obey geo disk q ghost all

      view_free : (set : Cell → Bool) (view : View) → Agrees geo users ghost set view → IsTrue (set (NumberBit n)) → (view.inode n).mode ≡ 0
      view_free set view a f = ap (λ (y : Inode). y.mode) (a.same (Record n) (a.numbers.free n may.free f may.not_zeroed)) ∙ may.free

      enter : (set : Cell → Bool) (view : View) → Agrees geo users ghost set view → (j d s b : ℕ) → IsTrue (ghost'.entering j) → IsTrue (set (NumberBit j)) → HasPlace geo view j d s b → IsTrue (ghost.entering j)
      enter set view a j d s b h f p = elim (entering j h) [
        | inl old ↦ old
        | inr e ↦ absurd (place_used geo view a.rules n d s b (subst (λ k. HasPlace geo view k d s b) e p) (view_free set view a (subst (λ k. IsTrue (set (NumberBit k))) e f)))
      ]

      tree_at : (view : View) → ObeysRules geo view → (view.inode n).mode ≡ 0 → SameTree geo view (updated view (SetInode n x))
      tree_at view o zero =
          outside_tree geo view n x o.rule1
          (λ r. sound_used geo (view.inode n) (directory_sound geo view n (reachable_directory geo view n r)) zero)
          (λ d s r h. absurd (sound_used geo (view.inode n) (o.rule6.sound d s n r h) zero))

      fits : Fits geo disk q ghost ghost' after n x rewrites
      fits = record {
        users_tree = tree_at users rules may.free;
        marked = λ u. may.marked;
        zeroed = λ m other f. sym (zeroed m) ∙ f;
        freed = λ z. absurd (sound_used geo x may.sound z);
        directory = λ d s. absurd (sound_used geo (users.inode n) s may.free);
      }

pub create_file_keeps : (geo : Geometry) (disk : View) (q : List Pending) (ghost : Ghost) (after : List Cell) (n : ℕ) (x : Inode)
    → MayCreate geo disk q ghost after n x → Keeps geo disk q ghost (record { change = SetInode n x; after = after }) ghost
create_file_keeps geo disk q ghost after n x may =
    create_keeps geo disk q ghost ghost after n x may (λ b. refl) (λ b m k. refl) (λ g. refl) (λ m. refl) (λ f. refl) (λ j h. inl h)

pub create_directory_keeps : (geo : Geometry) (disk : View) (q : List Pending) (ghost : Ghost) (after : List Cell) (n : ℕ) (x : Inode)
    → MayCreate geo disk q ghost after n x → Keeps geo disk q ghost (record { change = SetInode n x; after = after }) (entered n ghost)
create_directory_keeps geo disk q ghost after n x may =
    create_keeps geo disk q ghost (entered n ghost) after n x may (λ b. refl) (λ b m k. refl) (λ g. refl) (λ m. refl) (λ f. refl)
    (λ j h. elim (or_cases (eqb j n) (ghost.entering j) h) [ inl e ↦ inr (eqb-true j n e) | inr old ↦ inl old ])

-- ---- a number's record is freed

pub free_keeps : (geo : Geometry) (disk : View) (q : List Pending) (ghost : Ghost) (held : ℕ → Bool) (given_up : ℕ → ℕ → ℕ → Bool) (after : List Cell) (n : ℕ) (x : Inode)
    → MayFree geo disk q ghost (freed held given_up n ghost) after n x → Keeps geo disk q ghost (record { change = SetInode n x; after = after }) (freed held given_up n ghost)
free_keeps geo disk q ghost held given_up after n x may all =
    record_step geo disk q ghost ghost' after n x may.blocks fits
    (λ set view a. record {
      mode = λ f u v. absurd (u may.free);
      uses = λ f u d k b c. absurd (u may.free);
      tree = record {
        fewer = λ c f. was_fresh set (Record n) c f;
        place = λ i d s b p f. still_fresh set (Record n) (NumberBit i) f (λ e. cc);
        gone = was_gone ghost n;
        gone_kept = λ g f p t. still_gone ghost n g (λ e. is_other set (Record n) (Record g.number) f (ap Record e)) t;
        entering = λ j d s b h f p. h;
        safe = λ f h. h;
      };
    })
    (λ set view a own met.
    let none : (d s b : ℕ) → HasPlace geo view n d s b → ⊥ = λ d s b p. may.no_place d s b (only_there geo users ghost after n may.witnesses set view a met own d s b p) in
    record {
      view_tree = tree_at view a.rules none;
      bit = λ u. absurd (u may.free);
      links = λ r. absurd (unreached view a.rules none r);
      tree = record {
        fewer = λ c f. f;
        place = λ i d s b p f. f;
        gone = was_gone ghost n;
        gone_kept = λ g f p t. still_gone ghost n g (λ e. none_gone geo users ghost after n may.witnesses set view a met g e t p) t;
        entering = λ j d s b h f p. h;
        safe = λ f h. h;
      };
    })
    all
  where
    ghost' : Ghost
    ghost' = freed held given_up n ghost

    users : View
    users = users_view disk q

    rules : ObeysRules geo users
    rules = users_obey geo disk q ghost all

    dots : (view : View) → ObeysRules geo view → ((d s b : ℕ) → HasPlace geo view n d s b → ⊥) → IsReachableDirectory geo view n → ⊥
    dots view o none r = unnamed geo view n none n 0 r (o.rule5 n r).0

    unreached : (view : View) → ObeysRules geo view → ((d s b : ℕ) → HasPlace geo view n d s b → ⊥) → IsReachable geo view n → ⊥
    unreached view o none (inl r) = dots view o none r
    unreached view o none (inr r) = unnamed geo view n none r.1 r.2 r.3.reachable r.3.names

    tree_at : (view : View) → ObeysRules geo view → ((d s b : ℕ) → HasPlace geo view n d s b → ⊥) → SameTree geo view (updated view (SetInode n x))
    tree_at view o none =
        outside_tree geo view n x o.rule1 (dots view o none)
        (λ d s r h. absurd (unnamed geo view n none d s r h))

    fits : Fits geo disk q ghost ghost' after n x may.blocks
    fits = record {
      users_tree = tree_at users rules may.no_place;
      marked = λ u. absurd (u may.free);
      zeroed = λ m other f. (or_parts (eqb m n) (ghost.zeroed m) f).1;
      freed = λ z. or_left (eqb n n) (ghost.zeroed n) (eq-eqb n n refl);
      directory = λ d s. absurd (let two : x.mode ≡ 2 = eqb-true x.mode 2 d in let zero : x.mode ≡ 0 = may.free in omega (arith, zero, two));
    }
