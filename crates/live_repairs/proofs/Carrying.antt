-- The updates of a repair carry it out.
use Rattle.std.proofs.Common.{◌≡◌, ◌<◌, ◌≤◌, ◌-◌, ℕ, Bool, true, false, List, [], ◌∷◌, length, Option, refl, sym, ap, ap₂, ◌∙◌, subst}
use Rattle.std.specs.List.{All}
use Rattle.std.proofs.lemmas.List.Elements.{All-nil}
use Rattle.findings.specs.declared.repair.Repair.{Repair}
use Rattle.findings.specs.declared.repair.Repair.TheVariants.{DropInode, FreeBlock, FreeNumber, LowerCount}
use Rattle.model.specs.Cells.{Update}
use Rattle.model.specs.Layout.{Geometry, block_count}
use Rattle.model.specs.View.{View, free_inode}
use Rattle.ordering.specs.Cuts.{Pending, users_view}
use Rattle.machine.specs.Balance.{Balance}
use Rattle.machine.specs.Command.{Done, RepairAt}
use Rattle.machine.specs.State.{Plan, State, is_open}
use Rattle.plans_data.specs.Carried.{Stands}
use Rattle.plans_data.specs.Lists.{given_up_with}
use Rattle.plans_data.specs.Now.{now}
use Rattle.plans_data.specs.Plans.{named_by}
use Rattle.plans_data.specs.Relink.{goes_away, held_after, held_if, inode_of, open_of, relinking, repairing}
use Rattle.courses.specs.Done.{CarriesOutRepair, IsDoneBy}
use Rattle.frozen.specs.Kept.{Kept}
use Rattle.metadata.specs.Shown.{Shows}
use Rattle.live_states.specs.Drafts.{Draft, over}
use Rattle.live_states.specs.Holdings.{Has, Holdings, going_on, held_by, is_kept_by, is_open_by, opened_by, plan_by, with_done, with_held}
use Rattle.live_states.specs.Planned.{IsOfVolumeWith, IsPlannedWith}
use Rattle.live_states.specs.Snapshots.{IsToDo}
use Rattle.live_removals.proofs.Given.{free_is_cut, freed_is, gone_below_count, held_now}
use Rattle.live_repairs.specs.Repaired.{IsRepaired, Relinks, Unmarks, held_where}
use Rattle.live_repairs.proofs.Places.{done_then, planned_there, repair_accepted}

-- A draft is in the name of this file, and with it this is pending and held.
record Carries (geo : Geometry) (q : List Pending) (holdings : Holdings) (file : ℕ) (plan : List Pending) (held : ℕ → Bool) (draft : Draft) (holds : List ℕ) : Type 0 where
  pub geometry : draft.geometry ≡ geo
  pub named : file ≡ draft.file
  pub pending : plan ≡ over q draft.updates
  pub held_then : held ≡ held_by (with_held holdings holds)

-- ---- what is held is blocks of the volume

module _ (geo : Geometry) (view : View) (holdings : Holdings) (draft : Draft) (holds : List ℕ) where
  where_below : (gone : Bool) (n : ℕ) → All (λ a. a < block_count geo) (held_where gone geo view holdings n)
  where_below true n = gone_below_count (is_kept_by holdings) geo view n 0
  where_below false n = All-nil (λ a. a < block_count geo)

  links_below : (n links : ℕ) → Relinks geo view holdings n links draft holds → All (λ a. a < block_count geo) holds
  links_below n links relinks = subst (λ (bs : List ℕ). All (λ a. a < block_count geo) bs) (sym relinks.held) (where_below (goes_away links (is_open_by holdings n)) n)

  none_below : (file : ℕ) (change : Update) → Unmarks geo file change draft holds → All (λ a. a < block_count geo) holds
  none_below file change unmarks = subst (λ (bs : List ℕ). All (λ a. a < block_count geo) bs) (sym unmarks.held) (All-nil (λ a. a < block_count geo))

  pub repaired_blocks : (r : Repair) → IsRepaired geo view holdings r draft holds → All (λ a. a < block_count geo) holds
  repaired_blocks (DropInode n) is = links_below n 0 is
  repaired_blocks (LowerCount n x) is = links_below n ((view.inode n).links - x) is
  repaired_blocks (FreeBlock a) is = none_below a _ is
  repaired_blocks (FreeNumber n) is = none_below n _ is

-- ---- what is pending and held then

module _ (geo : Geometry) (disk : View) (q : List Pending) (old : State) (safe : ℕ → Bool) (stands : Stands geo disk q old safe) (holdings : Holdings) (has : Has holdings old) (wide : block_count geo ≤ length holdings.held) where
  abbrev view : View
  view = users_view disk q

  abbrev st : State
  st = now disk q old

  st_has : Has holdings st
  st_has = record { opened = has.opened; held = has.held; snapshots = has.snapshots; plan = has.plan }

  balance : Balance geo st
  balance = subst (λ v. Balance geo (record old { view = v })) (sym stands.same) stands.balance

  same_open : (n : ℕ) → is_open old n ≡ is_open_by holdings n
  same_open n = ap (λ (o : ℕ → Option ℕ). is_open (record old { opened = o }) n) has.opened

  held_so : (gone : Bool) (n : ℕ) → held_if gone geo st n ≡ held_by (with_held holdings (held_where gone geo view holdings n))
  held_so true n = held_now geo st holdings st_has n free_inode 0 (free_is_cut geo (view.inode n)) balance.rules wide holdings refl
  held_so false n = has.held

  module _ (draft : Draft) (holds : List ℕ) where
    links_carry : (n links : ℕ) → Relinks geo view holdings n links draft holds
        → Carries geo q holdings n (relinking n (view.inode n) links (is_open old n) (given_up_with geo st n free_inode) q) (held_if (goes_away links (is_open st n)) geo st n) draft holds
    links_carry n links relinks = record {
      geometry = relinks.updates.geometry;
      named = sym relinks.updates.file;
      pending =
          ap (λ b. relinking n (view.inode n) links b (given_up_with geo st n free_inode) q) (same_open n)
          ∙ ap (λ bs. relinking n (view.inode n) links (is_open_by holdings n) bs q) (sym (freed_is geo st holdings st_has n free_inode 0 (free_is_cut geo (view.inode n))))
          ∙ sym (relinks.updates.pending q);
      held_then =
          ap (λ b. held_if (goes_away links b) geo st n) (same_open n) ∙ held_so (goes_away links (is_open_by holdings n)) n
          ∙ ap (λ (bs : List ℕ). held_by (with_held holdings bs)) (sym relinks.held);
    }

    mark_carries : (file : ℕ) (change : Update) → Unmarks geo file change draft holds → Carries geo q holdings file (record { change = change; after = [] } ∷ q) old.held draft holds
    mark_carries file change unmarks = record {
      geometry = unmarks.updates.geometry;
      named = sym unmarks.updates.file;
      pending = sym (unmarks.updates.pending q);
      held_then = has.held ∙ ap (λ (bs : List ℕ). held_by (with_held holdings bs)) (sym unmarks.held);
    }

    carries : (r : Repair) → IsRepaired geo view holdings r draft holds
        → Carries geo q holdings (named_by r) (repairing r (inode_of view r) (open_of old r) (given_up_with geo st (named_by r) free_inode) q) (held_after geo st r) draft holds
    carries (DropInode n) is = links_carry n 0 is
    carries (LowerCount n x) is = links_carry n ((view.inode n).links - x) is
    carries (FreeBlock a) is = mark_carries a _ is
    carries (FreeNumber n) is = mark_carries n _ is

-- ---- and so it is done

-- the state then, with what is open, held and done then
goes_on : (old : State) (holdings' : Holdings) (view : View) (held : ℕ → Bool) (plan : Option Plan) → old.opened ≡ opened_by holdings' → held ≡ held_by holdings' → plan ≡ plan_by holdings'
    → record old { view = view; held = held; plan = plan } ≡ going_on old holdings' view
goes_on old holdings' view held plan o h p =
    ap₂ (λ (x : ℕ → Option ℕ) (y : ℕ → Bool). record old { view = view; opened = x; held = y; plan = plan }) o h
    ∙ ap (λ (z : Option Plan). record old { view = view; opened = opened_by holdings'; held = held_by holdings'; plan = z }) p

done_as : (geo : Geometry) (disk : View) (q : List Pending) (old : State) (safe : ℕ → Bool) (k file file' : ℕ) (plan plan' : List Pending) (held : ℕ → Bool) (repairs : Option Plan) (holdings' : Holdings)
    → file ≡ file' → plan ≡ plan' → old.opened ≡ opened_by holdings' → held ≡ held_by holdings' → repairs ≡ plan_by holdings'
    → IsDoneBy geo disk q old safe (RepairAt k) Done file plan (record old { view = users_view disk plan; held = held; plan = repairs }) safe
    → IsDoneBy geo disk q old safe (RepairAt k) Done file' plan' (going_on old holdings' (users_view disk plan')) safe
done_as geo disk q old safe k file file' plan plan' held repairs holdings' same_file same_plan same_opened same_held same_repairs done =
    subst (λ f. IsDoneBy geo disk q old safe (RepairAt k) Done f plan' (going_on old holdings' (users_view disk plan')) safe) same_file
    (subst (λ p. IsDoneBy geo disk q old safe (RepairAt k) Done file p (going_on old holdings' (users_view disk p)) safe) same_plan
    (subst (λ new. IsDoneBy geo disk q old safe (RepairAt k) Done file plan new safe) (goes_on old holdings' (users_view disk plan) held repairs same_opened same_held same_repairs) done))

module _ (kept : Kept) (holdings : Holdings) (k : ℕ) (r : Repair) (to_do : IsToDo holdings k r) (wide : block_count kept.geometry ≤ length holdings.held) (draft : Draft) (holds : List ℕ) where
  repair_done : (disk : View) (q : List Pending) (old : State) (safe : ℕ → Bool) → Stands kept.geometry disk q old safe → Has holdings old → IsRepaired kept.geometry (users_view disk q) holdings r draft holds
      → IsDoneBy kept.geometry disk q old safe (RepairAt k) Done draft.file (over q draft.updates) (going_on old (with_done (with_held holdings holds) k) (users_view disk (over q draft.updates))) safe
  repair_done disk q old safe stands has is =
      let c = carries kept.geometry disk q old safe stands holdings has wide draft holds r is in
      done_as kept.geometry disk q old safe k _ draft.file _ (over q draft.updates) (held_after kept.geometry (now disk q old) r) _ (with_done (with_held holdings holds) k)
      c.named c.pending has.opened c.held_then (done_then holdings k r to_do holds)
      (CarriesOutRepair k _ r (planned_there holdings k r to_do old has) to_do.there)

  pub repair_planned : IsOfVolumeWith kept holdings → ((view : View) → Shows kept view → IsRepaired kept.geometry view holdings r draft holds)
      → IsPlannedWith kept holdings [] (RepairAt k) Done draft (with_done (with_held holdings holds) k)
  repair_planned volume is = record {
    geometry =
        let there = volume.volume in
        (carries kept.geometry there.disk there.pending there.old there.safe there.stands holdings volume.has wide draft holds r
        (is (users_view there.disk there.pending) (subst (λ v. Shows kept v) (sym there.stands.same) there.shows))).geometry;
    snapshots = refl;
    accepted = λ old shows has. repair_accepted holdings k r to_do kept.geometry old has;
    done = λ disk q old safe stands shows has sees. repair_done disk q old safe stands has (is (users_view disk q) (subst (λ v. Shows kept v) (sym stands.same) shows));
  }
