-- The inodes that are left out are those of a state that are open and have no links, and the bits those of what it holds.
use Rattle.std.proofs.Common.{◌≡◌, ℕ, Bool, true, false, ◌&&◌, cond, eqb, ltb, Option, None, IsTrue, refl, sym, ap, ◌∙◌, subst}
use mathlib.Core.Path.{fun_ext}
use Rattle.std.specs.Option.{option_map_or}
use Rattle.model.specs.Layout.{is_number}
use Rattle.model.specs.Uses.{is_sound, is_sound_at}
use Rattle.model.specs.View.{Inode}
use Rattle.machine.specs.Below.{any_below}
use Rattle.machine.specs.Snapshot.{is_orphan, without}
use Rattle.machine.specs.State.{State, is_open}
use Rattle.machine.proofs.Tests.{open_tested}
use Rattle.frozen.specs.Kept.{Kept, frozen_view}
use Rattle.metadata.specs.Shown.{Shows}
use Rattle.live_states.specs.Holdings.{Has, Holdings, held_by, is_open_by}
use Rattle.live_states.specs.Planned.{IsOfVolumeWith}
use Rattle.live_states.specs.Snapshots.{IsSettled}
use Rattle.live_snapshots.specs.Orphans.{LacksOrphans, is_orphan_of}
use Rattle.live_snapshots.specs.Unmarked.{Unmarks, without_bits}

module _ (kept : Kept) (holdings : Holdings) where
  open_same : (old : State) → Has holdings old → (i : ℕ) → is_open_by holdings i ≡ is_open old i
  open_same old has i = ap (λ (o : ℕ → Option ℕ). any_below 1024 (λ h. option_map_or (λ j. eqb j i) (cond (ltb h 1024) (o h) None) false)) (sym has.opened)

  module _ (volume : IsOfVolumeWith kept holdings) where
    -- what is open is sound
    open_sound : (i : ℕ) → IsTrue (is_open_by holdings i) → IsTrue (is_sound_at kept.geometry (frozen_view kept) i)
    open_sound i t =
        let there : State = volume.volume.old in
        let file = volume.volume.stands.balance.open_file i (open_tested there i (sym (open_same there volume.has i) ∙ t)) in
        subst (λ r. IsTrue (is_number kept.geometry i && is_sound kept.geometry r)) (sym (volume.volume.shows.inode i)) file.0

    orphan_same : (old : State) → Shows kept old.view → Has holdings old → (i : ℕ) → is_orphan_of kept holdings i ≡ is_orphan old i
    orphan_same old shows has i =
        by (is_sound_at kept.geometry (frozen_view kept) i) (eqb ((frozen_view kept).inode i).links 0) (is_open_by holdings i) (open_sound i)
        ∙ ap (λ b. b && eqb ((frozen_view kept).inode i).links 0) (open_same old has i)
        ∙ ap (λ (r : Inode). is_open old i && eqb r.links 0) (shows.inode i)
      where
        by : (sound unlinked opened : Bool) → (IsTrue opened → IsTrue sound) → ((sound && unlinked) && opened) ≡ (opened && unlinked)
        by true true true f = refl
        by true true false f = refl
        by true false true f = refl
        by true false false f = refl
        by false unlinked false f = refl
        by false true true f = f refl
        by false false true f = refl

    -- without the orphans, and without the bits of what is held
    pub settles : (left snapshot : Kept) → LacksOrphans kept holdings left → Unmarks left (held_by holdings) snapshot → IsSettled kept holdings snapshot
    settles left snapshot lacks unmarks old shows has =
        subst (λ (held : ℕ → Bool). Shows snapshot (without_bits held (without kept.geometry old.view (is_orphan old)))) (sym has.held)
        (unmarks.shows (without kept.geometry old.view (is_orphan old))
        (subst (λ (gone : ℕ → Bool). Shows left (without kept.geometry old.view gone)) (fun_ext (orphan_same old shows has)) (lacks old.view shows)))
