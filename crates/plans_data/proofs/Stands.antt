-- A volume stands when it is mounted, after each flush, and after a command that a chain of updates carries out; and then each closed cut is safe.
use Rattle.std.proofs.Common.{◌≡◌, ℕ, Bool, List, [], Ok, refl, sym, ap, ◌∙◌, subst, IsTrue}
use Rattle.model.specs.Layout.{Geometry, IsGeometry}
use Rattle.model.specs.View.{View}
use Rattle.model.specs.Reach.{IsReachable}
use Rattle.model.specs.Rules.{ObeysRules}
use Rattle.ordering.specs.Cuts.{Pending, IsClosed, seen, rest, users_view}
use Rattle.ordering.specs.Ghosts.{at_rest}
use Rattle.ordering.specs.Agrees.{AllAgree}
use Rattle.ordering.specs.Histories.{IsSafeCut}
use Rattle.ordering.proofs.Flushes.{base_agrees, flush_agrees, users_flushed}
use Rattle.machine.specs.State.{State, mounted}
use Rattle.machine.specs.Command.{Command, Answer}
use Rattle.machine.specs.Step.{Step}
use Rattle.machine.specs.Balance.{Balance}
use Rattle.machine.specs.Whole.{HasWholeBlocks, HasWholeRecords}
use Rattle.machine.proofs.AllSteps.{step_keeps}
use Rattle.machine.proofs.Base.{mounted_base}
use Rattle.plans_data.specs.Carried.{Stands, IsCarriedOut}
use Rattle.plans_data.specs.Issues.{Issues}
use Rattle.plans_data.proofs.Chains.{issues_agree}
use Rattle.plans_data.proofs.FewerSafe.{fewer_agree}
use Rattle.plans_data.proofs.SafeFiles.{fewer_safe, safe_modes}

module _ (geo : Geometry) (disk : View) (safe : ℕ → Bool) where
  pub stands_mounted : IsGeometry geo → ObeysRules geo disk → HasWholeBlocks geo disk → HasWholeRecords disk → ((f : ℕ) → IsTrue (safe f) → IsReachable geo disk f × ((disk.inode f).mode ≡ 1))
      → Stands geo disk [] (mounted disk) safe
  stands_mounted ok rules blocks records files = record {
    geometry = ok;
    same = refl;
    balance = mounted_base geo disk rules blocks records;
    agree = base_agrees geo disk (mounted disk).held safe rules (λ f t. (files f t).0);
    files = λ f t. (files f t).1;
  }

  module _ (q : List Pending) (old : State) (stands : Stands geo disk q old safe) (cut : List Bool) (closed : IsClosed q cut) where
    pub stands_flushed : Stands geo (seen disk q cut) (rest q cut) old safe
    stands_flushed = record {
      geometry = stands.geometry;
      same = users_flushed disk q cut closed ∙ stands.same;
      balance = stands.balance;
      agree = flush_agrees geo disk q (at_rest old.held safe) cut closed stands.agree;
      files = stands.files;
    }

    pub safe_cut : IsSafeCut geo (seen disk q cut) (at_rest old.held safe)
    safe_cut = let a = stands.agree cut closed in record { rules = a.rules; files = a.safe }

module _ (geo : Geometry) (disk : View) (q : List Pending) (old : State) (safe : ℕ → Bool) (stands : Stands geo disk q old safe) where
  -- what else the machine knows does not matter
  pub stands_other : (new : State) → old.view ≡ new.view → old.held ≡ new.held → Balance geo new → Stands geo disk q new safe
  stands_other new view held balance = record {
    geometry = stands.geometry;
    same = stands.same ∙ view;
    balance = balance;
    agree = subst (λ h. AllAgree geo disk q (at_rest h safe)) held stands.agree;
    files = λ f t. ap (λ (v : View). (v.inode f).mode) (sym view) ∙ stands.files f t;
  }

  pub stands_fewer : (fewer : ℕ → Bool) → ((f : ℕ) → IsTrue (fewer f) → IsTrue (safe f)) → Stands geo disk q old fewer
  stands_fewer fewer less = record {
    geometry = stands.geometry;
    same = stands.same;
    balance = stands.balance;
    agree = fewer_agree geo disk q old.held safe fewer less stands.agree;
    files = λ f t. stands.files f (less f t);
  }

  -- a chain of updates, after which users see the new state
  pub carried : (command : Command) (answer : Answer) (plan : List Pending) (new : State) (safe' : ℕ → Bool) → Step geo old command (Ok answer) new → users_view disk plan ≡ new.view
      → Issues geo disk q (at_rest old.held safe) plan (at_rest new.held safe') → IsCarriedOut geo disk q old command answer plan new safe safe'
  carried command answer plan new safe' step same issues = record {
    step = step;
    issues = issues;
    stands = record {
      geometry = stands.geometry;
      same = same;
      balance = step_keeps geo stands.geometry old new command (Ok answer) stands.balance step;
      agree = issues_agree geo disk q (at_rest old.held safe) plan (at_rest new.held safe') issues stands.agree;
      files = λ f t.
          ap (λ (v : View). (v.inode f).mode) (sym same)
          ∙ safe_modes geo disk q (at_rest old.held safe) plan (at_rest new.held safe') issues stands.agree f t
          ∙ ap (λ (v : View). (v.inode f).mode) stands.same
          ∙ stands.files f (fewer_safe geo disk q (at_rest old.held safe) plan (at_rest new.held safe') issues f t);
    };
  }
