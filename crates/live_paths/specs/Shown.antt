-- The views of which the kept blocks hold the metadata.
use Rattle.model.specs.View.{View}
use Rattle.model.specs.Metadata.{SameMetadata}
use Rattle.frozen.specs.Kept.{Kept, frozen_view}

-- the view has the metadata that is kept, whatever else it has
abbrev pub IsShownBy : Kept → View → Type 0
IsShownBy kept view = SameMetadata kept.geometry (frozen_view kept) view
