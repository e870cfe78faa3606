-- Which images can be mounted.
use Rattle.std.specs.Prelude.{◌≡◌, ℕ, List, length}
use Rattle.model.specs.Image.{IsImage, image_view}
use Rattle.model.specs.Layout.{Geometry, block_count}
use Rattle.model.specs.Rules.{ObeysRules}
use Rattle.frozen.specs.Kept.{Kept, KeepsMetadata}
use Rattle.softdep.specs.Queued.{Queued, fresh_queue}
use Rattle.live_states.specs.Holdings.{Holdings, IsIdle}

-- it is an image of this geometry, which obeys the rules
pub record IsMountable (geo : Geometry) (image : List (List ℕ)) : Type 0 where
  pub is_image : IsImage geo image
  pub obeys : ObeysRules geo (image_view geo image)

-- What a volume with this metadata has in memory before its first command: nothing is pending, open or held.
pub record IsFresh (frozen metadata : Kept) (queue : Queued) (holdings : Holdings) : Type 0 where
  pub metadata_is : metadata ≡ frozen
  pub keeps : KeepsMetadata metadata
  pub queue_is : queue ≡ fresh_queue frozen.geometry
  pub idle : IsIdle holdings
  pub marks : length holdings.held ≡ block_count frozen.geometry
