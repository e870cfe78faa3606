-- Paths, and where they lead.
use Rattle.std.specs.Prelude.{◌≡◌, ℕ, ◌≤◌, ◌+◌, Bool, false, not, ◌&&◌, ◌==◌, nat_le, List, [], ◌∷◌, length, Option, Some, None, Result, Ok, Err, IsTrue, if◌then◌else◌, flat_map, All, bytes_eq, unwrap_or}
use Rattle.std.specs.Bool.{then_some}
use Rattle.std.specs.List.{list_all, slice_split, last_or}
use Rattle.std.specs.Option.{option_map}
use Rattle.std.specs.Result.{result_unwrap_or}
use Rattle.model.specs.Layout.{Geometry, root}
use Rattle.model.specs.View.{View}
use Rattle.model.specs.Uses.{is_directory_at}
use Rattle.model.specs.Slots.{Slot, Absent, Empty, Good, Bad, slot, number_in, is_name, is_dot, is_dot_dot}
use Rattle.model.specs.Reach.{slot_count}
use Rattle.layout.specs.declared.refusal.Refusal.{Refusal}
use Rattle.layout.specs.declared.refusal.Refusal.TheVariants.{NotFound, NotDirectory, IsRoot}
use Rattle.machine.specs.Below.{first_below}

-- a part of a path: a good name that is none of the dots
abbrev pub is_part : List ℕ → Bool
is_part name = is_name name && not (is_dot name) && not (is_dot_dot name)

-- the bytes of a path: '/' before each part
abbrev pub spelled : List (List ℕ) → List ℕ
spelled parts = flat_map (λ part. 47 ∷ part) parts

-- A path is "/" alone, which has no parts, or one or more parts with '/' before each, in all at most 4,096 bytes.
abbrev pub IsPath : List ℕ → List (List ℕ) → Type 0
IsPath path [] = path ≡ 47 ∷ []
IsPath path (part ∷ parts) = (path ≡ spelled (part ∷ parts)) × (length path ≤ 4096) × All (λ p. IsTrue (is_part p)) (part ∷ parts)

-- the parts of these bytes, if they are a path
unfoldable pub parts_of : List ℕ → Option (List (List ℕ))
parts_of [] = None
parts_of (c ∷ []) = then_some (c == 47) []
parts_of (c ∷ d ∷ bytes) =
    let pieces = slice_split (λ b. b == 47) (d ∷ bytes) in
    then_some (c == 47 && nat_le (2 + length bytes) 4096 && list_all is_part pieces) pieces

-- the number that the first good slot of this name in a directory has, if there is one
abbrev pub has_name : Slot → List ℕ → Bool
has_name Absent name = false
has_name Empty name = false
has_name (Good number own) name = bytes_eq own name
has_name Bad name = false

unfoldable pub slot_of : Geometry → View → ℕ → List ℕ → Option ℕ
slot_of geo view d name = first_below (slot_count geo) (λ s. has_name (slot geo view d s) name)

unfoldable pub lookup : Geometry → View → ℕ → List ℕ → Option ℕ
lookup geo view d name = option_map (λ s. number_in (slot geo view d s)) (slot_of geo view d name)

-- the directory that holds the last of these parts, or why the walk to it ends before
unfoldable pub walk : Geometry → View → ℕ → List (List ℕ) → Result ℕ Refusal
walk geo view d [] = Err IsRoot
walk geo view d (part ∷ []) = if is_directory_at geo view d then Ok d else Err NotDirectory
walk geo view d (part ∷ next ∷ parts) =
    if is_directory_at geo view d
    then elim (lookup geo view d part) [ None ↦ Err NotFound | Some i ↦ walk geo view i (next ∷ parts) ]
    else Err NotDirectory

-- the last of these parts
abbrev pub last_part : List (List ℕ) → List ℕ
last_part parts = unwrap_or (last_or None parts) []

-- what these parts lead to from the root, or why they lead nowhere
unfoldable pub target : Geometry → View → List (List ℕ) → Result ℕ Refusal
target geo view [] = Ok root
target geo view (part ∷ parts) =
    elim (walk geo view root (part ∷ parts)) [
      | Err r ↦ Err r
      | Ok d ↦ elim (lookup geo view d (last_part (part ∷ parts))) [ None ↦ Err NotFound | Some i ↦ Ok i ]
    ]

-- of a path that leads somewhere: the directory that holds its last part, that part, its slot there, and the number that stands there
abbrev pub parts : List ℕ → List (List ℕ)
parts path = unwrap_or (parts_of path) []

abbrev pub holder : Geometry → View → List ℕ → ℕ
holder geo view path = result_unwrap_or (walk geo view root (parts path)) 0

abbrev pub name_in : List ℕ → List ℕ
name_in path = last_part (parts path)

abbrev pub slot_at : Geometry → View → List ℕ → ℕ
slot_at geo view path = unwrap_or (slot_of geo view (holder geo view path) (name_in path)) 0

abbrev pub number_at : Geometry → View → List ℕ → ℕ
number_at geo view path = result_unwrap_or (target geo view (parts path)) 0
