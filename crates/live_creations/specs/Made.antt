-- The updates by which a new entry is made, with what it names.
use Rattle.std.specs.Prelude.{ℕ, List, []}
use Rattle.model.specs.Layout.{Geometry}
use Rattle.model.specs.View.{View}
use Rattle.ordering.specs.Cuts.{Pending}
use Rattle.plans_naming.specs.Create.{born}
use Rattle.machine.specs.Effects.{file_with, AreDots}
use Rattle.plans_naming.specs.Link.{raised}
use Rattle.plans_naming.specs.Make.{made}
use Rattle.live_states.specs.Drafts.{Draft, GoesOn}
use Rattle.live_plans.specs.Entered.{EntersAt}
use Rattle.live_plans.specs.declared.entering.NewEntry.{NewEntry}

-- what the entry names is written first, in the name of its number
pub record Makes (geo : Geometry) (view : View) (new : NewEntry) (first : List Pending → List Pending) (draft : Draft) : Type 0 where
  pub named : Draft
  pub names : GoesOn (record { geometry = geo; file = new.number; updates = [] }) named first
  pub enters : EntersAt geo view new.directory new.parent new.number new.name.now new.place named draft

-- a new file with these attributes
abbrev pub Created : Geometry → View → NewEntry → List ℕ → Draft → Type 0
Created geo view new words draft = Makes geo view new (born new.number (file_with words) []) draft

-- a file's other name
abbrev pub Linked : Geometry → View → NewEntry → Draft → Type 0
Linked geo view new draft = Makes geo view new (raised new.number (view.inode new.number)) draft

-- a new directory with these attributes, with its dots in this block
pub record DirectoryMade (geo : Geometry) (view : View) (new : NewEntry) (own : ℕ) (words : List ℕ) (draft : Draft) : Type 0 where
  pub dots : List ℕ
  pub are_dots : AreDots new.number new.directory dots
  pub makes : Makes geo view new (made new.number own words dots new.directory (view.inode new.directory)) draft
