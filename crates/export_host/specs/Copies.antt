-- Of which files in an image files of the host were made.
use Rattle.std.specs.Prelude.{◌≡◌, ℕ, List, ◌++◌, Ok}
use Rattle.std.specs.List.{All}
use Rattle.std.proofs.Common.{Vec, Global}
use Rattle.attributes.specs.Words.{attributes_in}
use Rattle.machine.specs.Command.{Stat, Status}
use Rattle.model.specs.Layout.{Geometry}
use Rattle.model.specs.View.{View}
use Rattle.reading.specs.Bytes.{AreBytesAt}
use Rattle.reading.specs.Replies.{MayReply}
use Rattle.export_host.specs.declared.getting.Contents.{Contents}

-- What stands at a path has this: the bytes that users see there, and the attributes of the inode of which they are told.
pub record AreContentsAt (geo : Geometry) (view : View) (path : List ℕ) (contents : Contents) : Type 0 where
  pub number : ℕ
  pub mode : ℕ
  pub links : ℕ
  pub size : ℕ
  pub answer : MayReply geo view (Stat path) (Ok (Status number mode links size))
  pub kept : contents.attributes ≡ attributes_in (view.inode number).attributes
  pub read : AreBytesAt geo view path contents.bytes.items

-- a path in the image, and what the file was made of that was made of it: what stands there
abbrev pub IsCopy : Geometry → View → (Vec ℕ Global × Contents) → Type 0
IsCopy geo view copy = AreContentsAt geo view copy.0.items copy.1

-- and so is each of these
abbrev pub AreCopies : Geometry → View → List (Vec ℕ Global × Contents) → Type 0
AreCopies geo view copies = All (IsCopy geo view) copies

-- More copies were made.
pub record MadeMore (geo : Geometry) (view : View) (old new : List (Vec ℕ Global × Contents)) : Type 0 where
  pub more : List (Vec ℕ Global × Contents)
  pub behind : new ≡ old ++ more
  pub are : AreCopies geo view more
