-- The attributes of an inode are set, which keeps the ledger and all files.
use Rattle.std.proofs.Common.{◌≡◌, ℕ, not, ◌&&◌, List, length, inl, refl, sym, ◌∙◌, subst, IsTrue, None}
use Rattle.machine.proofs.Bools.{not_false}
use Rattle.model.specs.Layout.{Geometry, is_number}
use Rattle.model.specs.View.{View, Inode, with_attributes}
use Rattle.model.specs.Cells.{SetInode, updated}
use Rattle.model.specs.Uses.{is_sound, is_sound_at, IsClaim}
use Rattle.model.specs.Rules.{ObeysRules}
use Rattle.model.proofs.SameShape.{SameShape}
use Rattle.model.proofs.NewRecord.{record_shape}
use Rattle.model.proofs.Places.{put_same}
use Rattle.layout.specs.declared.refusal.Refusal.TheVariants.{NotFound}
use Rattle.findings.specs.declared.repair.Repair.{Repair}
use Rattle.machine.specs.State.{State}
use Rattle.machine.specs.Command.{SetAttributes}
use Rattle.machine.specs.Cells.{claims}
use Rattle.machine.specs.Causes.{causes, refusal_of}
use Rattle.machine.specs.Effects.{attributed}
use Rattle.machine.specs.Balance.{Balance, Owes}
use Rattle.machine.specs.Whole.{HasWholeBlocks, HasWholeRecords}
use Rattle.machine.proofs.Decisions.{sound_parts}
use Rattle.machine.proofs.Ledger.{Ledger, Kept, kept_by, ledger, no_slack}
use Rattle.machine.proofs.Rewrites.{Rewrites}
use Rattle.machine.proofs.Rewriting.{rewritten_kept}
use Rattle.machine.proofs.SameFiles.{SameFile}
use Rattle.machine.proofs.Tests.{test_claims, claims_tested}
use Rattle.machine.proofs.Walks.{quiet, when_none}

module _ (geo : Geometry) (v : View) (i : ℕ) (words : List ℕ) (sound : IsTrue (is_sound_at geo v i)) where
  abbrev set : Inode
  set = with_attributes (v.inode i) words

  abbrev w : View
  w = updated v (SetInode i set)

  body : SameShape geo v w
  body = let s = (sound_parts geo v i sound).1 in record_shape geo v i set s s refl refl refl refl refl

  module _ (o : ObeysRules geo v) (whole_v : HasWholeBlocks geo v) (records_v : HasWholeRecords v) where
    was : (k a : ℕ) → IsClaim geo w i k a → IsClaim geo v i k a
    was k a c = (body.uses i k ∙ c.0, c.1)

    rewrites : Rewrites geo v w i (λ a. ⊥)
    rewrites = record {
      tree = body.tree;
      sounds = put_same v.inode i set (λ m y. is_number geo m && is_sound geo y) refl;
      directories = body.directories;
      modes = body.modes;
      links = put_same v.inode i set (λ m y. y.links) refl;
      numbers = λ j. refl;
      others = λ j k d. body.uses j k;
      uses = λ k a u. o.rule3.claims i k a (body.uses i k ∙ u);
      mine = λ k a c. inl ((i, k, was k a c), test_claims geo v i k a (was k a c));
      once = λ k m a c e. (o.rule3.once i k i m a (was k a c) (was m a e)).1;
      marks_kept = λ a m. m;
      marks_came = λ a m. inl m;
      fresh_free = λ a f. absurd f;
      fresh_marked = λ a f. absurd f;
      fresh_claimed = λ a f. absurd f;
      whole = whole_v;
      records = λ j. sym (put_same v.inode i set (λ m (y : Inode). length y.direct) refl j) ∙ records_v j;
    }

  still_claims : (a : ℕ) → IsTrue (claims geo v i a) → IsTrue (claims geo w i a)
  still_claims a t = let c = claims_tested geo v i a t in test_claims geo w i c.0 a (sym (body.uses i c.0) ∙ c.1.0, c.1.1)

  pub set_file : (j : ℕ) → SameFile geo v w j
  set_file j = record {
    mode = body.modes j;
    size = put_same v.inode i set (λ m y. y.size) refl j;
    uses = λ q. body.uses j q;
    bytes = λ q a c. refl;
    none = refl;
  }

module _ (geo : Geometry) (owed : Repair → Type 0) (slack : ℕ → ℕ) (st : State) (l : Ledger geo owed slack st) (i : ℕ) (words : List ℕ) (sound : IsTrue (is_sound_at geo st.view i)) where
  pub attributed_ledger : Ledger geo owed slack (attributed st i words)
  attributed_ledger = rewritten_kept geo owed slack st l i (w geo st.view i words sound) (λ a. ⊥) (rewrites geo st.view i words sound l.rules l.whole l.records) (still_claims geo st.view i words sound)

module _ (geo : Geometry) (old new : State) (b : Balance geo old) (i : ℕ) (words : List ℕ) where
  pub set_sound : refusal_of geo old (SetAttributes i words) ≡ None → IsTrue (is_sound_at geo old.view i)
  unfolding causes
  set_sound none = not_false (is_sound_at geo old.view i) (when_none (not (is_sound_at geo old.view i)) NotFound (quiet (causes geo old (SetAttributes i words)) none).0)

  pub set_keeps : refusal_of geo old (SetAttributes i words) ≡ None → new ≡ attributed old i words → Kept geo old new
  set_keeps none e = subst (λ t. Kept geo old t) (sym e) (kept_by geo old (attributed old i words) (attributed_ledger geo (Owes geo old) no_slack old (ledger geo old b) i words (set_sound none)) refl refl)
