-- What is known of an entry where its volume stands so.
use Rattle.std.proofs.Common.{◌≡◌, ℕ, Bool, List, Some, sym, subst}
use Rattle.model.specs.View.{View}
use Rattle.ordering.specs.Cuts.{Pending, users_view}
use Rattle.machine.specs.Balance.{Balance}
use Rattle.machine.specs.Paths.{holder, number_at, parts_of, slot_at}
use Rattle.machine.specs.State.{State}
use Rattle.plans_data.specs.Carried.{Stands}
use Rattle.plans_data.specs.Now.{now}
use Rattle.plans_naming.specs.Plans.{entry_block}
use Rattle.frozen.specs.Kept.{Kept, KeepsMetadata}
use Rattle.metadata.specs.Shown.{Shows}
use Rattle.metadata.proofs.ShownLemmas.{shows_metadata}
use Rattle.live_paths.specs.Shown.{IsShownBy}
use Rattle.live_plans.specs.Found.{IsFoundAt}
use Rattle.live_plans.specs.declared.locating.Found.{Found}
use Rattle.live_removals.proofs.Naming.{block_is, holder_is, number_is, slot_is}

-- users see it, and it is the one that the path leads to
pub record OnVolume (kept : Kept) (path : List ℕ) (found : Found) (disk : View) (q : List Pending) (old : State) : Type 0 where
  pub seen : Shows kept (users_view disk q)
  pub balance : Balance kept.geometry (now disk q old)
  pub number : number_at kept.geometry (users_view disk q) path ≡ found.number
  pub parent : holder kept.geometry (users_view disk q) path ≡ found.directory
  pub slot : slot_at kept.geometry (users_view disk q) path ≡ found.slot
  pub block : entry_block kept.geometry (users_view disk q) path ≡ found.block

pub on_volume : (kept : Kept) (path : List ℕ) (ps : List (List ℕ)) (found : Found) → KeepsMetadata kept → parts_of path ≡ Some ps → ((view : View) → IsShownBy kept view → IsFoundAt kept.geometry view ps found)
    → (disk : View) (q : List Pending) (old : State) (safe : ℕ → Bool) → Stands kept.geometry disk q old safe → Shows kept old.view → OnVolume kept path found disk q old
on_volume kept path ps found keeps is at disk q old safe stands shows =
    let view = users_view disk q in
    let seen : Shows kept view = subst (λ v. Shows kept v) (sym stands.same) shows in
    let there = at view (shows_metadata kept view keeps seen) in
    record {
      seen = seen;
      balance = subst (λ v. Balance kept.geometry (record old { view = v })) (sym stands.same) stands.balance;
      number = number_is kept.geometry view path ps found is there;
      parent = holder_is kept.geometry view path ps found is there;
      slot = slot_is kept.geometry view path ps found is there;
      block = block_is kept.geometry view path ps found is there;
    }
