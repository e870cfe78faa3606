-- What the medium of a device holds of what a queue was given.
use Rattle.std.specs.Prelude.{◌≡◌, ℕ, ◌<◌, List, All, length}
use Rattle.model.specs.Layout.{Geometry, block_count, group_block}
use Rattle.model.specs.View.{View}
use Rattle.model.specs.Image.{IsBlock, IsGroupBlock, IsImage, image_view}
use Rattle.ordering.specs.Cuts.{seen}
use Rattle.queue_model.specs.Files.{updates}
use Rattle.device.specs.Media.{Medium}
use Rattle.device.specs.Writes.{Write}
use Rattle.power_cut.specs.Epochs.{Put, IsEpoch, together}
use Rattle.power_cut.specs.Standing.{AreWithin, writes_of}
use Rattle.softdep.specs.Queued.{Queued, unsynced_of}

-- The write of a block leaves an image one: it is a whole block, not the superblock, and has what a group's block of maps needs.
pub record KeepsFrame (geo : Geometry) (w : Write) : Type 0 where
  pub block : IsBlock w.1
  pub low : w.0 < block_count geo
  pub above : w.0 ≡ 0 → ⊥
  pub maps : (g : ℕ) → g < geo.groups → w.0 ≡ group_block geo g → IsGroupBlock g w.1

-- What is durable is an image that shows the cut of what was issued since mount; the writes since the device last told that all is durable are an epoch over it, and hold what is loose.
pub record IsOnMedium (mounted : View) (queue : Queued) (m : Medium) : Type 0 where
  pub image : IsImage queue.geometry m.durable
  pub frames : All (KeepsFrame queue.geometry) m.loose
  pub durable : image_view queue.geometry m.durable ≡ seen mounted (updates queue.written) queue.durable
  pub puts : List Put
  pub epoch : IsEpoch queue.geometry (image_view queue.geometry m.durable) (unsynced_of queue) puts
  pub writes : m.loose ≡ writes_of puts
  pub within : AreWithin (length m.durable) puts
  pub loose : together (unsynced_of queue) puts ≡ queue.loose
