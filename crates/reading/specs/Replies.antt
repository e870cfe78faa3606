-- What the machine answers on an image as it is mounted.
use Rattle.std.specs.Prelude.{◌≡◌, ℕ, List, Some, None, Ok, Err}
use Rattle.layout.specs.declared.refusal.Refusal.{Refusal}
use Rattle.layout.specs.declared.refusal.Refusal.TheVariants.{BadName}
use Rattle.model.specs.Layout.{Geometry}
use Rattle.model.specs.Image.{image_view}
use Rattle.model.specs.View.{View}
use Rattle.frozen.specs.Kept.{IsKeptOf, Kept}
use Rattle.machine.specs.Command.{Command, Reply}
use Rattle.machine.specs.Paths.{parts_of, target}
use Rattle.machine.specs.State.{mounted}
use Rattle.machine.specs.Step.{Step}

-- the machine may give this reply, and stays as it is
abbrev pub MayReply : Geometry → View → Command → Reply → Type 0
MayReply geo view command reply = Step geo (mounted view) command reply (mounted view)

-- so it may on each image of which this is kept
abbrev pub Replies : Kept → Command → Reply → Type 0
Replies kept command reply = (image : List (List ℕ)) → IsKeptOf kept image → MayReply kept.geometry (image_view kept.geometry image) command reply

-- the bytes are a path, and it leads to this number
pub record Leads (geo : Geometry) (view : View) (path : List ℕ) (number : ℕ) : Type 0 where
  pub parts : List (List ℕ)
  pub is_path : parts_of path ≡ Some parts
  pub leads : target geo view parts ≡ Ok number

-- they are none, or it leads nowhere
pub data WhyNot (geo : Geometry) (view : View) (path : List ℕ) (r : Refusal) : Type 0 where
  NoPath : parts_of path ≡ None → r ≡ BadName → WhyNot geo view path r
  Nowhere : (parts : List (List ℕ)) → parts_of path ≡ Some parts → target geo view parts ≡ Err r → WhyNot geo view path r
