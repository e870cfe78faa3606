-- The update by which an inode gets other attributes.
use Rattle.std.specs.Prelude.{ℕ, List, []}
use Rattle.model.specs.Layout.{Geometry}
use Rattle.model.specs.View.{View}
use Rattle.plans_data.specs.Attributes.{attributing}
use Rattle.live_states.specs.Drafts.{Draft, GoesOn}

-- Inode n gets these attributes, and nothing else is updated.
abbrev pub Attributed : Geometry → View → ℕ → List ℕ → Draft → Type 0
Attributed geo view n words draft = GoesOn (record { geometry = geo; file = n; updates = [] }) draft (attributing n (view.inode n) words)
