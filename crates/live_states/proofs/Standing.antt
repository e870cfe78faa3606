-- A volume stands, and goes on standing where a closed part of what is pending is written.
use Rattle.std.proofs.Common.{◌≡◌, ℕ, Bool, true, false, List, [], ◌∷◌, Option, None, refl, sym, ap, ap₂, ◌∙◌, subst}
use Rattle.std.specs.Prelude.{slice_index_or}
use Rattle.std.specs.Option.{option_map}
use mathlib.Core.Path.{fun_ext}
use Rattle.model.specs.Image.{image_view}
use Rattle.model.specs.Rules.{ObeysRules}
use Rattle.model.specs.View.{View}
use Rattle.model.proofs.Same.{same_rules}
use Rattle.ordering.specs.Cuts.{Pending, IsClosed, seen, rest, users_view}
use Rattle.ordering.proofs.CutLemmas.{nothing, nothing_closed, nothing_seen}
use Rattle.ordering.proofs.Flushes.{flush_agrees, users_flushed}
use Rattle.ordering.specs.Ghosts.{at_rest}
use Rattle.machine.specs.Command.{Answer, Command}
use Rattle.machine.specs.Standing.{none_yet}
use Rattle.machine.specs.State.{Plan, State, is_kept, is_open, mounted}
use Rattle.machine.specs.Balance.{Balance}
use Rattle.courses.specs.Done.{IsDoneBy}
use Rattle.courses.specs.Life.{IsLived, Begins, Puts}
use Rattle.courses.specs.Serves.{IsBeginning}
use Rattle.courses.proofs.LifeCourses.{life_lived}
use Rattle.courses.proofs.ServiceLemmas.{image_begins}
use Rattle.frozen.specs.Kept.{Kept, KeepsMetadata, IsKeptOf, frozen_view}
use Rattle.metadata.specs.Shown.{Shows}
use Rattle.metadata.proofs.ShownLemmas.{shows_image}
use Rattle.live_states.specs.Drafts.{Draft, over}
use Rattle.live_states.specs.Holdings.{Beside, Has, Holdings, IsIdle, AreImagesOf, Repairs, going_on, held_by, nothing_beside, is_kept_by, is_open_by, opened_by, plan_by, plan_of}
use Rattle.live_states.specs.Planned.{IsOfVolume, IsOfVolumeWith, IsPlanned, IsPlannedWith, safe_after}
use Rattle.live_states.specs.Volume.{IsVolume, state_over}
use Rattle.live_states.proofs.Images.{same_kept}

pub has : (disk : View) (q : List Pending) (holdings : Holdings) (beside : Beside) → AreImagesOf holdings.snapshots beside.snapshots → Has holdings (state_over disk q holdings beside)
has disk q holdings beside images = record { opened = refl; held = refl; snapshots = images; plan = refl }

pub stands_so : (kept : Kept) (holdings : Holdings) (q : List Pending) (disk : View) → IsVolume kept holdings q disk → IsOfVolume kept
stands_so kept holdings q disk volume = record {
  disk = disk;
  pending = q;
  old = state_over disk q holdings volume.beside;
  safe = λ f. false;
  stands = volume.beginning.stands;
  shows = volume.shows;
}

pub stands_with : (kept : Kept) (holdings : Holdings) (q : List Pending) (disk : View) → IsVolume kept holdings q disk → IsOfVolumeWith kept holdings
unfolding stands_so
stands_with kept holdings q disk volume = record { volume = stands_so kept holdings q disk volume; has = has disk q holdings volume.beside volume.snapshots }

-- what is open and held is as it was
pub as_it_was : (old : State) (holdings : Holdings) (view : View) → Has holdings old → record old { view = view } ≡ going_on old holdings view
as_it_was old holdings view has =
    ap₂ (λ (o : ℕ → Option ℕ) (h : ℕ → Bool). record old { view = view; opened = o; held = h }) has.opened has.held
    ∙ ap (λ (p : Option Plan). record old { view = view; opened = opened_by holdings; held = held_by holdings; plan = p }) has.plan

-- the snapshots keep the same blocks as in the state
pub kept_same : (holdings : Holdings) (old : State) → Has holdings old → (a : ℕ) → is_kept old a ≡ is_kept_by holdings a
kept_same holdings old has a = same_kept holdings.snapshots.standing old.snapshots.standing has.snapshots.1 a

-- an inode is open by these handles, or not
pub same_open : (holdings : Holdings) (old : State) → Has holdings old → (i : ℕ) → is_open old i ≡ is_open_by holdings i
same_open holdings old has i = ap (λ (o : ℕ → Option ℕ). is_open (record old { opened = o }) i) has.opened

pub left_alone : (kept : Kept) (command : Command) (answer : Answer) (draft : Draft) → IsPlanned kept command answer draft → (holdings : Holdings) → IsPlannedWith kept holdings [] command answer draft holdings
left_alone kept command answer draft planned holdings = record {
  geometry = planned.geometry;
  snapshots = refl;
  accepted = λ old shows has. planned.accepted old shows;
  done = λ disk q old safe stands shows has sees.
      subst (λ new. IsDoneBy kept.geometry disk q old safe command answer draft.file (over q draft.updates) new (safe_after kept.geometry old.view command safe))
      (as_it_was old holdings (users_view disk (over q draft.updates)) has) (planned.done disk q old safe stands shows);
}

-- an idle volume is as it is mounted
pub idle_mounted : (disk : View) (holdings : Holdings) → IsIdle holdings → mounted disk ≡ state_over disk [] holdings nothing_beside
idle_mounted disk holdings idle =
    ap₂ (λ (o : ℕ → Option ℕ) (h : ℕ → Bool). record { view = disk; opened = o; held = h; snapshots = none_yet; plan = None })
    (fun_ext (λ h. ap (λ (l : List (Option ℕ)). slice_index_or l h None) (sym idle.opened))) (fun_ext (λ a. sym (idle.held a)))
    ∙ ap (λ (r : Option Repairs). record { view = disk; opened = opened_by holdings; held = held_by holdings; snapshots = none_yet; plan = option_map plan_of r }) (sym idle.repairs)

pub loaded : (kept : Kept) (image : List (List ℕ)) (holdings : Holdings) → KeepsMetadata kept → IsKeptOf kept image → ObeysRules kept.geometry (frozen_view kept) → IsIdle holdings
    → ObeysRules kept.geometry (image_view kept.geometry image) × IsVolume kept holdings [] (image_view kept.geometry image)
loaded kept image holdings keeps is obeys idle = (
  rules,
  record {
    beside = nothing_beside;
    snapshots = subst (λ s. AreImagesOf s none_yet) (sym idle.snapshots) (refl, tt);
    mount = image_view kept.geometry image;
    history = [];
    cut = [];
    beginning = subst (λ old. IsBeginning kept.geometry (image_view kept.geometry image) [] [] (image_view kept.geometry image) [] old (λ f. false)) (idle_mounted (image_view kept.geometry image) holdings idle)
        (image_begins kept.geometry image (λ f. false) is.is_image rules (λ f t. let bad : false ≡ true = t in cc));
    shows = shows_image kept image is;
  },
)
  where
    rules : ObeysRules kept.geometry (image_view kept.geometry image)
    rules = (same_rules kept.geometry (frozen_view kept) (image_view kept.geometry image) is.metadata).0 obeys

module _ (kept : Kept) (holdings : Holdings) (q : List Pending) (disk : View) (volume : IsVolume kept holdings q disk) where
  begin : IsBeginning kept.geometry volume.mount volume.history volume.cut disk q (state_over disk q holdings volume.beside) (λ f. false)
  begin = volume.beginning

  pub stop_safe : (cut : List Bool) → IsClosed q cut → ObeysRules kept.geometry (seen disk q cut)
  stop_safe cut closed = (begin.stands.agree cut closed).rules

  pub device_safe : ObeysRules kept.geometry disk
  device_safe = subst (ObeysRules kept.geometry) (nothing_seen disk q) (stop_safe (nothing q) (nothing_closed q))

  module _ (cut : List Bool) (closed : IsClosed q cut) where
    pub unseen : users_view (seen disk q cut) (rest q cut) ≡ users_view disk q
    unseen = users_flushed disk q cut closed

    abbrev held : ℕ → Bool
    held = held_by holdings

    abbrev as_seen : View → State
    as_seen view = record { view = view; opened = opened_by holdings; held = held_by holdings; snapshots = volume.beside.snapshots; plan = plan_by holdings }

    lived : IsLived kept.geometry volume.mount volume.history volume.cut disk q held (λ f. false) (seen disk q cut) (rest q cut) held (λ f. false) (seen disk q cut ∷ []) (Puts cut Begins closed)
    lived = life_lived kept.geometry volume.mount volume.history volume.cut disk q held (λ f. false) begin.moment (seen disk q cut) (rest q cut) held (λ f. false) (seen disk q cut ∷ []) (Puts cut Begins closed)

    pub put : IsVolume kept holdings (rest q cut) (seen disk q cut)
    put = record {
      beside = volume.beside;
      snapshots = volume.snapshots;
      mount = volume.mount;
      history = lived.h';
      cut = lived.cut';
      beginning = record {
        stands = record {
          geometry = begin.stands.geometry;
          same = refl;
          balance = subst (λ v. Balance kept.geometry (as_seen v)) (sym unseen) begin.stands.balance;
          agree = flush_agrees kept.geometry disk q (at_rest held (λ f. false)) cut closed begin.stands.agree;
          files = λ f t. let bad : false ≡ true = t in cc;
        };
        moment = lived.moment;
      };
      shows = subst (Shows kept) (sym unseen) volume.shows;
    }
