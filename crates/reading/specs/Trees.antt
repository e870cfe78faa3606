-- The directories of a tree.
use Rattle.std.specs.Prelude.{◌≡◌, ℕ, List, ◌∷◌, ◌++◌, [], codes, if◌then◌else◌, map}
use Rattle.std.specs.Str.{bytes_eq}
use Rattle.model.specs.Layout.{Geometry}
use Rattle.model.specs.Reach.{slot_count}
use Rattle.model.specs.View.{View}
use Rattle.machine.specs.Effects.{names_below}
use Rattle.live_paths.specs.Listed.{name_of}
use Rattle.reading.specs.declared.trees.Listing.{Listing}

-- its names are those of the directory of its number, in the order of the slots
abbrev pub IsListing : Geometry → View → Listing → Type 0
IsListing geo view listing = map name_of listing.names.items ≡ names_below geo view listing.number (slot_count geo)

-- the path of a name, or of names with a '/' between any two, in the directory of a path
abbrev pub joined_path : List ℕ → List ℕ → List ℕ
joined_path path name = (if bytes_eq path (codes "/") then [] else path) ++ 47 ∷ name
