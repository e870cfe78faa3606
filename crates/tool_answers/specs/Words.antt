-- What is asked of a volume by the words of a line.
use Rattle.std.specs.Prelude.{◌≡◌, ◌≢◌, ℕ, ◌<◌, ◌==◌, List, [], ◌∷◌, length, slice_index_or, Option, Some, None, Ok, Err, Result, if◌then◌else◌}
use Rattle.layout.specs.declared.refusal.Refusal.{Refusal}
use Rattle.layout.specs.declared.refusal.Refusal.TheVariants.{BadName, NotDirectory}
use Rattle.machine.specs.Command.{Command, Link, Mkdir, no_attributes, Rename, Rmdir, Unlink}
use Rattle.machine.specs.Paths.{parts_of, target}
use Rattle.model.specs.Layout.{Geometry}
use Rattle.model.specs.Uses.{is_directory_at}
use Rattle.model.specs.View.{View}
use Rattle.reading.specs.Trees.{joined_path}
use Rattle.tool_answers.specs.declared.words.Aim.{Aim}
use Rattle.tool_answers.specs.declared.words.Aim.TheVariants as aims
use Rattle.tool_answers.specs.declared.words.Deed.{Deed}
use Rattle.tool_answers.specs.declared.words.Deed.TheVariants.{MakeDirectory, Remove, RemoveDirectory}
use Rattle.tool_answers.specs.declared.words.Naming.{Naming}
use Rattle.tool_answers.specs.declared.words.Naming.TheVariants as namings

abbrev pub request_of : Deed → List ℕ → Command
request_of MakeDirectory path = Mkdir path no_attributes
request_of Remove path = Unlink path
request_of RemoveDirectory path = Rmdir path

-- ---- where names are given

abbrev pub if_directory : Geometry → View → Result ℕ Refusal → Result ℕ Refusal
if_directory geo view (Ok number) = if is_directory_at geo view number then Ok number else Err NotDirectory
if_directory geo view (Err r) = Err r

abbrev pub at_parts : Geometry → View → Option (List (List ℕ)) → Result ℕ Refusal
at_parts geo view None = Err BadName
at_parts geo view (Some parts) = if_directory geo view (target geo view parts)

-- the directory that a path leads to, or why it leads to none
unfoldable pub directory_at : Geometry → View → List ℕ → Result ℕ Refusal
directory_at geo view path = at_parts geo view (parts_of path)

abbrev pub aim_by : Result ℕ Refusal → ℕ → Result Aim Refusal
aim_by (Ok number) count = Ok aims.Directory
aim_by (Err r) count = if count == 1 then Ok aims.Name else Err r

-- In the directory that the target leads to. If it leads to none, the target is the one name that is given; several are refused as the walk to the target is.
abbrev pub aim_of : Geometry → View → List ℕ → ℕ → Result Aim Refusal
aim_of geo view path count = aim_by (directory_at geo view path) count

-- ---- new names

-- what stands behind the last '/' of these bytes, or the other ones if there is no '/' in them
abbrev pub behind_slash : List ℕ → List ℕ → List ℕ
behind_slash [] other = other
behind_slash (byte ∷ bytes) other = if byte == 47 then behind_slash bytes bytes else behind_slash bytes other

abbrev pub last_part : List ℕ → List ℕ
last_part path = behind_slash path path

-- the new name, as a path, that is given at a target to what a path leads to
abbrev pub new_name : Aim → List ℕ → List ℕ → List ℕ
new_name aims.Name target path = target
new_name aims.Directory target path = joined_path target (last_part path)

-- by which an entry gets a new name in place of its own, or a file one more
abbrev pub naming_of : Naming → List ℕ → List ℕ → Command
naming_of namings.Move path new = Rename path new
naming_of namings.Link path new = Link path new

-- no '/' stands in a path
abbrev pub NoSlash : List ℕ → Type 0
NoSlash path = (k d : ℕ) → k < length path → slice_index_or path k d ≢ 47

-- the last '/' of a path stands there
pub record IsLastSlash (path : List ℕ) (place : ℕ) : Type 0 where
  pub low : place < length path
  pub here : (d : ℕ) → slice_index_or path place d ≡ 47
  pub last : (k d : ℕ) → place < k → k < length path → slice_index_or path k d ≢ 47
