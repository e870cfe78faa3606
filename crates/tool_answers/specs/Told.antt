-- What is printed of the names in a directory, and which refusals there are of what an image is asked.
use Rattle.std.specs.Prelude.{◌≡◌, ◌⊎◌, ℕ, List, [], ◌∷◌, ◌++◌, Err, Ok, flat_map}
use Rattle.frozen.specs.Loading.{LoadRefuses}
use Rattle.layout.specs.declared.refusal.Refusal.{Refusal}
use Rattle.model.specs.Image.{IsImage, image_view}
use Rattle.model.specs.Layout.{Geometry}
use Rattle.machine.specs.Command.{Command, ListNames, Listed, Name}
use Rattle.reading.specs.Replies.{MayReply}
use Rattle.printed_names.specs.Names.{written}

-- a line for each name, in their order
abbrev pub name_line : Name → List ℕ
name_line name = written name.name ++ 10 ∷ []

abbrev pub name_lines : List Name → List ℕ
name_lines names = flat_map name_line names

-- The machine lists these names at this path of an image, and they are what is printed.
pub record IsListed (image : List (List ℕ)) (path printed : List ℕ) : Type 0 where
  pub geometry : Geometry
  pub is_image : IsImage geometry image
  pub names : List Name
  pub lists : MayReply geometry (image_view geometry image) (ListNames path) (Ok (Listed names))
  pub text : printed ≡ name_lines names

-- The machine refuses the command so on an image, as it is mounted.
pub record IsRefused (image : List (List ℕ)) (command : Command) (refusal : Refusal) : Type 0 where
  pub geometry : Geometry
  pub is_image : IsImage geometry image
  pub refuses : MayReply geometry (image_view geometry image) command (Err refusal)

-- It is refused as what cannot be loaded, or where each read gave what stood there as the machine refuses the command.
abbrev pub Refuses : Type 0 → List (List ℕ) → Command → Refusal → Type 0
Refuses honest image command refusal = LoadRefuses honest image refusal ⊎ (honest → IsRefused image command refusal)
