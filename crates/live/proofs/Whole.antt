-- The snapshots that stand are whole.
use Rattle.std.proofs.Common.{◌≡◌, ℕ, Option, Some, None, refl, sym, ◌∙◌, subst, arith, inl, inr, IsFalse}
use Rattle.std.proofs.lemmas.Bool.{cases_eq}
use Rattle.model.specs.Layout.{Geometry}
use Rattle.frozen.specs.Kept.{Kept, KeepsMetadata}
use Rattle.machine.specs.Standing.{Snapshots, begun, ended, image_at, latest_at, none_yet, too_many}
use Rattle.machine.proofs.Snapshots.{at_here, at_left, at_other, latest_number, numbered_begun, numbered_ended}
use Rattle.machine.proofs.Tests.{not_some}
use Rattle.live.specs.Alive.{AreSnapshotsOf, IsSnapshotOf}

pub none_kept : (geo : Geometry) → AreSnapshotsOf geo none_yet
none_kept geo = record { images = λ s snapshot e. not_some snapshot (sym e); numbered = record { fall = tt; few = omega arith } }

module _ (geo : Geometry) (snapshots : Snapshots Kept) (are : AreSnapshotsOf geo snapshots) where
  -- that of a number, and that of the latest freeze
  by_number : (o : Option Kept) → ((snapshot : Kept) → o ≡ Some snapshot → (snapshot.geometry ≡ geo) × KeepsMetadata snapshot) → IsSnapshotOf geo o
  by_number None whole = tt
  by_number (Some snapshot) whole = whole snapshot refl

  pub whole_at : (s : ℕ) → IsSnapshotOf geo (image_at snapshots.standing s)
  whole_at s = by_number (image_at snapshots.standing s) (are.images s)

  pub whole_latest : IsSnapshotOf geo (latest_at snapshots.standing snapshots.freezes)
  whole_latest = by_number (latest_at snapshots.standing snapshots.freezes) (λ snapshot e. let n = latest_number snapshots.standing snapshots.freezes snapshot e in are.images n.0 snapshot n.2)

  -- once one more begins, and once one ends
  pub whole_begun : (snapshot : Kept) → IsFalse (too_many snapshots) → (snapshot.geometry ≡ geo) × KeepsMetadata snapshot → AreSnapshotsOf geo (begun snapshots snapshot)
  whole_begun snapshot room whole = record {
    images = λ s k e. elim (cases_eq snapshots.freezes s) [
      | inl here ↦
          let found = subst (λ n. image_at (begun snapshots snapshot).standing n ≡ Some k) (sym here) e in
          subst (λ x. (x.geometry ≡ geo) × KeepsMetadata x) (same_one snapshot k (sym (at_here snapshots.freezes snapshot snapshots.standing) ∙ found)) whole
      | inr earlier ↦ are.images s k (sym (at_other snapshots.freezes s snapshot snapshots.standing earlier) ∙ e)
    ];
    numbered = numbered_begun snapshots snapshot room are.numbered;
  }
    where
      same_one : (a b : Kept) → Some a ≡ Some b → a ≡ b
      same_one a b e = cc

  pub whole_ended : (s : ℕ) → AreSnapshotsOf geo (ended snapshots s)
  whole_ended s = record { images = λ t k e. are.images t k (at_left t s k snapshots.standing e); numbered = numbered_ended snapshots s are.numbered }
