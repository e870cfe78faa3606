-- A block that is written more than once in an epoch.
use Rattle.std.specs.Prelude.{◌≡◌, ℕ, List}
use Rattle.std.specs.List.{Contains}
use Rattle.model.specs.Layout.{Geometry}
use Rattle.model.specs.View.{View, view_of}
use Rattle.model.specs.Cells.{put_at}
use Rattle.ordering.specs.Cuts.{Cell, Pending}
use Rattle.queue_model.specs.Flush.{ready}
use Rattle.queue_model.specs.Sync.{HasReady}
use Rattle.power_cut.specs.Epochs.{Put}

-- the new block at this address makes one view of another, whatever stands in the other blocks
abbrev pub Turns : Geometry → ℕ → List ℕ → List ℕ → (View → View) → Type 0
Turns geo a old new f = (blocks : ℕ → List ℕ) → blocks a ≡ old → view_of geo (put_at blocks a new) ≡ f (view_of geo blocks)

-- each of these writes holds what may go to its block, and each block with something that may go there is written
pub record IsSweep (home : Cell → ℕ) (q : List Pending) (puts : List Put) : Type 0 where
  pub ready_cut : (p : Put) → Contains puts p → p.cut ≡ ready home p.address q
  pub each : (a : ℕ) → HasReady home q a → (p : Put) × Contains puts p × (p.address ≡ a)
