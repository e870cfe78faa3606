-- A volume and its device, which go on together.
use Rattle.std.specs.Prelude.{◌≡◌, ℕ, ◌<◌, Bool, true, false, List, [], ◌++◌, All, length}
use Rattle.model.specs.Layout.{Geometry}
use Rattle.model.specs.View.{View, view_of}
use Rattle.ordering.specs.Cuts.{seen, rest}
use Rattle.ordering.specs.Ghosts.{Ghost, at_rest}
use Rattle.ordering.specs.Histories.{Step}
use Rattle.queue_model.specs.Files.{Written, updates, NamesFiles}
use Rattle.device.specs.Media.{Held, Medium, synced, wrote}
use Rattle.power_cut.specs.Epochs.{Shows, ready_put}
use Rattle.power_cut.specs.Standing.{StandsOn}
use Rattle.power_cut.specs.Volumes.{Goes_on, Moment, adds, syncs, writes}

-- a block is written; on a device that keeps order (true) that is a sync too
abbrev pub writes_on : Bool → Geometry → ℕ → List ℕ → Moment → Moment
writes_on true geo a bytes n = syncs (writes geo a bytes n)
writes_on false geo a bytes n = writes geo a bytes n

-- From what a device held and a moment of the volume on it: the volume issues an update, writes a block with what may go there, syncs the device, or lets go of held blocks with nothing pending.
pub data GoWith (geo : Geometry) (mounted : View) (keeps_order : Bool) (h : Held) (m : Moment) : Held → Moment → Type 0 where
  Rest : GoWith geo mounted keeps_order h m h m
  Add : {h' : Held} {n : Moment} (w : Written) (next : Ghost) → GoWith geo mounted keeps_order h m h' n
      → Step geo (seen mounted (updates n.written) n.cut) (rest (updates n.written) n.cut) n.ghost w.update next → NamesFiles geo mounted n.written w → GoWith geo mounted keeps_order h m h' (adds w next n)
  Put : {h' : Held} {n : Moment} (a : ℕ) (bytes : List ℕ) → GoWith geo mounted keeps_order h m h' n → a < length h'.now.durable
      → Shows geo a bytes (seen (view_of geo n.durable) (rest (updates n.written) n.cut) (ready_put geo a bytes (rest (updates n.written) n.cut)).cut)
      → GoWith geo mounted keeps_order h m (wrote keeps_order h' a bytes) (writes_on keeps_order geo a bytes n)
  Sync : {h' : Held} {n : Moment} → GoWith geo mounted keeps_order h m h' n → GoWith geo mounted keeps_order h m (synced h') (syncs n)
  Settle : {h' : Held} {n : Moment} (held : ℕ → Bool) → GoWith geo mounted keeps_order h m h' n → rest (updates n.written) n.cut ≡ []
      → GoWith geo mounted keeps_order h m h' (record n { ghost = at_rest held n.ghost.safe })

-- On each medium that the device had since stands a moment to which the volume went on from this one.
pub record HeldSince (geo : Geometry) (mounted : View) (h : Held) (m : Moment) (h' : Held) : Type 0 where
  pub more : List Medium
  pub all : h'.media ≡ h.media ++ more
  pub each : All (λ (medium : Medium). (n : Moment) × Goes_on geo mounted m n × StandsOn medium n) more
