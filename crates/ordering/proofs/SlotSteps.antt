-- An update of a directory's block keeps the invariant, where the tree is seen to.
use Rattle.std.proofs.Common.{◌≡◌, ℕ, Bool, List, ◌∷◌, inl, refl, sym, ◌∙◌, IsTrue}
use Rattle.model.specs.Layout.{Geometry}
use Rattle.model.specs.View.{View}
use Rattle.model.specs.Cells.{SetBytes, updated}
use Rattle.model.specs.Uses.{use_at}
use Rattle.model.specs.Reach.{IsReachable}
use Rattle.model.specs.Rules.{ObeysRules}
use Rattle.ordering.specs.Cuts.{Cell, Record, NumberBit, BlockBit, Block, Pending, users_view, EachCut, without, AreIn}
use Rattle.ordering.specs.Ghosts.{Ghost, Gone}
use Rattle.ordering.specs.Agrees.{Agrees, AllAgree, BlocksAgree, TreeAgrees}
use Rattle.ordering.proofs.CutLemmas.{was_fresh, still_fresh, each_step, same_skip, same_take}
use Rattle.ordering.proofs.Claims.{claims_frame}

abbrev pub with_tree : (Gone → Bool) → (ℕ → Bool) → (ℕ → Bool) → Ghost → Ghost
with_tree gone entering safe ghost = record ghost { gone = gone; entering = entering; safe = safe }

module _ (geo : Geometry) (disk : View) (q : List Pending) (ghost : Ghost) (gone : Gone → Bool) (entering : ℕ → Bool) (stay_safe : ℕ → Bool) (after : List Cell) (block : ℕ) (bytes : List ℕ) where
  abbrev pub users : View
  users = users_view disk q

  abbrev pub users' : View
  users' = updated users (SetBytes block bytes)

  abbrev pub ghost' : Ghost
  ghost' = with_tree gone entering stay_safe ghost

  -- what a cut shows where the update is taken
  pub record SlotTaken (set : Cell → Bool) (view : View) : Type 0 where
    pub uses : (n k : ℕ) → use_at geo view n k ≡ use_at geo (updated view (SetBytes block bytes)) n k
    pub rules : ObeysRules geo (updated view (SetBytes block bytes))
    pub tree : TreeAgrees geo users' ghost' set (updated view (SetBytes block bytes))
    pub safe : (f : ℕ) → IsTrue (stay_safe f) → IsReachable geo view f → IsReachable geo (updated view (SetBytes block bytes)) f

  module _ (fewer_safe : (f : ℕ) → IsTrue (stay_safe f) → IsTrue (ghost.safe f)) (uses : (n k : ℕ) → use_at geo users n k ≡ use_at geo users' n k) where
    blocks_after : (set set' : Cell → Bool) (view view' : View) → ((n k : ℕ) → use_at geo view n k ≡ use_at geo view' n k) → ((c : Cell) → IsTrue (set' c) → IsTrue (set c))
        → ((n : ℕ) → IsTrue (set (NumberBit n)) → IsTrue (set' (NumberBit n))) → ((b : ℕ) → IsTrue (set (BlockBit b)) → IsTrue (set' (BlockBit b)))
        → BlocksAgree geo users ghost set view → BlocksAgree geo users' ghost' set' view'
    blocks_after set set' view view' seen fewer number bit h =
        claims_frame geo users users' ghost ghost' (λ m k b. ⊥) set set' view view' (record {
          came = λ m k b c. inl (uses m k ∙ c.0, c.1);
          went = λ m k b c. inl (sym (uses m k) ∙ c.0, c.1);
          free = λ m k b x. absurd x;
          once = λ m k l j b x y. absurd x;
          held = λ b f. f;
          given_up = λ b m k t. t;
        }) fewer number bit (λ m k b x. absurd x) (λ m k b c. inl (seen m k ∙ c.0, c.1)) h

    pub slot_step_with : (Extra : (Cell → Bool) → View → Type 0) → EachCut disk q Extra
        → ((set : Cell → Bool) (view : View) → Agrees geo users ghost set view → TreeAgrees geo users' ghost' (without set (Block block)) view)
        → ((set : Cell → Bool) (view : View) → Agrees geo users ghost set view → Extra set view → IsTrue (set (Block block)) → AreIn after set → SlotTaken set view)
        → AllAgree geo disk q ghost → AllAgree geo disk (record { change = SetBytes block bytes; after = after } ∷ q) ghost'
    slot_step_with Extra extra skipped taken all =
        each_step disk q (record { change = SetBytes block bytes; after = after }) (λ set view. Agrees geo users ghost set view × Extra set view) (Agrees geo users' ghost')
        (λ set view a. skip set view a.0) (λ set view a. take set view a.0 a.1) (λ cut closed. (all cut closed, extra cut closed))
      where
        skip : (set : Cell → Bool) (view : View) → Agrees geo users ghost set view → Agrees geo users' ghost' (without set (Block block)) view
        skip set view a = record {
          same = same_skip set view users (SetBytes block bytes) a.same;
          rules = a.rules;
          numbers = record {
            free = λ n z f g. still_fresh set (Block block) (Record n) (a.numbers.free n z (was_fresh set (Block block) (NumberBit n) f) g) (λ e. cc);
            used = λ n u f. still_fresh set (Block block) (NumberBit n) (a.numbers.used n u (was_fresh set (Block block) (Record n) f)) (λ e. cc);
          };
          blocks = blocks_after set (without set (Block block)) view view (λ n k. refl) (λ c f. was_fresh set (Block block) c f)
              (λ n f. still_fresh set (Block block) (NumberBit n) f (λ e. cc)) (λ b f. still_fresh set (Block block) (BlockBit b) f (λ e. cc)) a.blocks;
          modes = record {
            mode = λ n f u v. a.modes.mode n (was_fresh set (Block block) (NumberBit n) f) u v;
            uses = λ n k b f u d h. sym (uses n k) ∙ a.modes.uses n k b (was_fresh set (Block block) (NumberBit n) f) u d h;
          };
          tree = skipped set view a;
          safe = λ f h. a.safe f (fewer_safe f h);
        }

        take : (set : Cell → Bool) (view : View) → Agrees geo users ghost set view → Extra set view → IsTrue (set (Block block)) → AreIn after set → Agrees geo users' ghost' set (updated view (SetBytes block bytes))
        take set view a x own met = let t = taken set view a x own met in record {
          same = same_take set view users (SetBytes block bytes) a.same;
          rules = t.rules;
          numbers = record { free = a.numbers.free; used = a.numbers.used };
          blocks = blocks_after set set view (updated view (SetBytes block bytes)) t.uses (λ c f. f) (λ n f. f) (λ b f. f) a.blocks;
          modes = record { mode = a.modes.mode; uses = λ n k b f u d h. sym (uses n k) ∙ a.modes.uses n k b f u d (t.uses n k ∙ h) };
          tree = t.tree;
          safe = λ f h. t.safe f h (a.safe f (fewer_safe f h));
        }

    pub slot_step : ((set : Cell → Bool) (view : View) → Agrees geo users ghost set view → TreeAgrees geo users' ghost' (without set (Block block)) view)
        → ((set : Cell → Bool) (view : View) → Agrees geo users ghost set view → IsTrue (set (Block block)) → AreIn after set → SlotTaken set view)
        → AllAgree geo disk q ghost → AllAgree geo disk (record { change = SetBytes block bytes; after = after } ∷ q) ghost'
    slot_step skipped taken = slot_step_with (λ set view. Unit {0}) (λ cut closed. tt) skipped (λ set view a x own met. taken set view a own met)
