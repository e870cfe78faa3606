-- What a stop, or a loss of power, leaves at worst.
use Rattle.std.specs.Prelude.{ℕ, List}
use Rattle.device.specs.Media.{MayBeLeft, Medium}
use Rattle.findings.specs.Findings.{AllSoft}
use Rattle.machine.specs.Balance.{Exact, OwesNothing}
use Rattle.machine.specs.Command.{Command, Reply}
use Rattle.machine.specs.State.{State, mounted}
use Rattle.machine.specs.Step.{Run}
use Rattle.model.specs.Image.{image_view}
use Rattle.model.specs.Layout.{Geometry}
use Rattle.snapshot.specs.Cycles.{HasCycle}
use Rattle.snapshot.specs.Mounting.{IsMountable}

-- An image is only leaky: it can be mounted; a check finds lost blocks, lost inodes and link counts that are too high, and nothing else; and once a volume that is mounted from it has carried out the repairs of a snapshot's check, nothing is owed and the volume is exact.
pub record IsOnlyLeaky (geo : Geometry) (image : List (List ℕ)) : Type 0 where
  pub mounts : IsMountable geo image
  pub soft : AllSoft geo (image_view geo image)
  pub mended : (commands : List Command) (replies : List Reply) (new : State) → Run geo (mounted (image_view geo image)) commands replies new → HasCycle geo commands replies → OwesNothing geo new × Exact geo new

-- Whatever a loss of power leaves of a medium is only leaky.
abbrev pub LeavesLeaky : Geometry → Medium → Type 0
LeavesLeaky geo m = (image : List (List ℕ)) → MayBeLeft m image → IsOnlyLeaky geo image
