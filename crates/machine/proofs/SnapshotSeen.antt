-- A snapshot shows of each inode what users saw, but of those that are open without links.
use Rattle.std.proofs.Common.{◌≡◌, ℕ, List, refl, sym, ap, ◌∙◌, arith, IsFalse, Ok}
use Rattle.std.proofs.lemmas.Bool.{cond-false}
use Rattle.model.specs.Layout.{Geometry}
use Rattle.model.specs.View.{View, free_inode}
use Rattle.model.specs.Reach.{IsReachable}
use Rattle.machine.specs.State.{State}
use Rattle.machine.specs.Command.{Command, Freeze, SnapRead, Release, Bytes, Image, Reply}
use Rattle.machine.specs.Cells.{seen}
use Rattle.machine.specs.Snapshot.{settled, is_orphan}
use Rattle.machine.specs.Step.{Step, Run}
use Rattle.machine.specs.Runs.{IsTaken}
use Rattle.machine.specs.Balance.{Balance}
use Rattle.machine.proofs.Clears.{reachable_not_gone}
use Rattle.machine.proofs.Base.{settles}
use Rattle.machine.proofs.SameFiles.{same_seen, record_file}
use Rattle.machine.proofs.Cycles.{frozen_image, frozen_number, frozen_begins, frozen_read}

-- its record stays, unless it is such an inode
settled_record : (geo : Geometry) (s : State) (i : ℕ) → IsFalse (is_orphan s i) → (settled geo s).inode i ≡ s.view.inode i
settled_record geo s i stays = cond-false (is_orphan s i) free_inode (s.view.inode i) stays

-- what has a name is none of these
pub reachable_stays : (geo : Geometry) (s : State) (i : ℕ) → Balance geo s → IsReachable geo s.view i → IsFalse (is_orphan s i)
reachable_stays geo s i b r = reachable_not_gone geo s.view (settled geo s) (is_orphan s) (settles geo s b.rules b.open_file) i r

pub snapshot_shows : (geo : Geometry) (old new : State) (s : ℕ) (image : View) (i : ℕ) → Step geo old Freeze (Ok (Image s image)) new → IsFalse (is_orphan old i)
    → (image.inode i ≡ old.view.inode i) × ((k : ℕ) → seen geo image i k ≡ seen geo old.view i k)
snapshot_shows geo old new s image i step stays = (
  ap (λ (v : View). v.inode i) (sym is) ∙ record_same,
  λ k. ap (λ v. seen geo v i k) (sym is) ∙ same_seen geo old.view (settled geo old) i (record_file geo old.view (settled geo old) i (sym record_same) refl) k,
)
  where
    is : settled geo old ≡ image
    is = frozen_image geo old new s image step

    record_same : (settled geo old).inode i ≡ old.view.inode i
    record_same = settled_record geo old i stays

-- and so does each read of it
pub snapshot_reads : (geo : Geometry) (old frozen mid new : State) (commands : List Command) (replies : List Reply) (s : ℕ) (image : View) (i k : ℕ) (bytes : List ℕ)
    → Step geo old Freeze (Ok (Image s image)) frozen → IsFalse (is_orphan old i)
    → Run geo frozen commands replies mid → (IsTaken (Release s) commands replies → ⊥)
    → Step geo mid (SnapRead s i k) (Ok (Bytes bytes)) new → bytes ≡ seen geo old.view i k
snapshot_reads geo old frozen mid new commands replies s image i k bytes step stays r f read =
    frozen_read geo frozen mid new commands replies s image i k bytes (omega (arith, (frozen_number geo old frozen s image step).1)) (frozen_begins geo old frozen s image step).0 r f read
    ∙ (snapshot_shows geo old frozen s image i step stays).1 k
