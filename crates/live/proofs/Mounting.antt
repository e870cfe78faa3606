-- What was loaded becomes a mounted volume, or its image breaks a rule.
use Rattle.std.proofs.Common.{◌≡◌, ◌≤◌, ℕ, zero, suc, true, false, List, length, Option, Some, None, is_some, MatchOption, Result, Ok, Err, IfOk, refl, sym, subst, arith}
use Rattle.model.specs.Image.{image_view}
use Rattle.model.specs.Layout.{Geometry, block_count}
use Rattle.model.specs.Rules.{IsLeastBroken, ObeysRules, Rule}
use Rattle.model.specs.View.{View}
use Rattle.model.proofs.Same.{same_rules}
use Rattle.frozen.specs.Kept.{IsKeptOf, Kept, KeepsMetadata, frozen_view}
use Rattle.softdep.specs.Queued.{Queued}
use Rattle.live_states.specs.Holdings.{Holdings}
use Rattle.live_states.proofs.Loading.{of_an_image}
use Rattle.live_states.proofs.Standing.{loaded}
use Rattle.live_states.specs.Snapshots.{AreRepairsOf}
use Rattle.live.specs.Alive.{IsLive, AreSnapshotsOf}
use Rattle.live.specs.Mounting.{IsFresh, IsMountable}
use Rattle.live.proofs.Whole.{none_kept}

-- what follows from two clauses on a result
pub with_both : {T E : Type 0} (r : Result T E) (P Q R : T → Type 0) → IfOk r P → IfOk r Q → ((t : T) → P t → Q t → R t) → IfOk r R
with_both (Ok t) P Q R p q f = f t p q
with_both (Err e) P Q R p q f = tt

module _ (honest : Type 0) (image : List (List ℕ)) (kept : Kept) (of : honest → IsKeptOf kept image) where
  module _ (obeys : ObeysRules kept.geometry (frozen_view kept)) where
    pub mountable : (metadata : Kept) → metadata ≡ kept → honest → IsMountable metadata.geometry image
    mountable metadata is h = subst (λ (k : Kept). IsMountable k.geometry image) (sym is)
        (record { is_image = (of h).is_image; obeys = (same_rules kept.geometry (frozen_view kept) (image_view kept.geometry image) (of h).metadata).0 obeys })

    pub live_fresh : (metadata : Kept) (queue : Queued) (holdings : Holdings) → IsFresh kept metadata queue holdings → length image ≡ block_count kept.geometry → IsLive honest image queue metadata holdings
    live_fresh metadata queue holdings fresh count =
        let idle = fresh.idle in
        let keeps = subst KeepsMetadata fresh.metadata_is fresh.keeps in
        let is = of_an_image kept keeps in
        subst (λ k. IsLive honest image queue k holdings) (sym fresh.metadata_is) (subst (λ q. IsLive honest image q kept holdings) (sym fresh.queue_is) (record {
          geometry = refl;
          alive = record {
            count = count;
            keeps = keeps;
            disk = image_view kept.geometry is.0;
            some = (loaded kept is.0 holdings keeps is.1 obeys idle).1;
            true = λ h. (loaded kept image holdings keeps (of h) obeys idle).1;
          };
          marks = subst (λ n. block_count kept.geometry ≤ n) (sym fresh.marks) (omega arith);
          repairs = subst (AreRepairsOf kept.geometry) (sym idle.repairs) tt;
          snapshots = subst (AreSnapshotsOf kept.geometry) (sym idle.snapshots) (none_kept kept.geometry);
          framed = λ h. (of h).is_image;
        }))
