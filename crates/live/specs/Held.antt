-- What a call writes to the device of a volume, and the images that the device held in it.
use Rattle.std.specs.Prelude.{◌≡◌, ℕ, List, [], ◌∷◌, ◌++◌, map, reverse, slice_set}
use Rattle.std.specs.List.{All}
use Rattle.model.specs.Image.{IsImage, image_view}
use Rattle.model.specs.Layout.{Geometry}
use Rattle.model.specs.View.{View}
use Rattle.device.specs.Media.{Held, images_held}

-- it held these images since, newest first, and no others; each is an image of the volume, which can be loaded
pub record HeldMore (geo : Geometry) (held held' : Held) (later : List View) : Type 0 where
  pub more : List (List (List ℕ))
  pub held_now : images_held held' ≡ images_held held ++ more
  pub views : reverse (map (image_view geo) more) ≡ later
  pub framed : All (IsImage geo) more

-- it writes nothing: the device answers what it answered, and had no other medium but by a sync
pub record WritesNothing (image : List (List ℕ)) (held : Held) (image' : List (List ℕ)) (held' : Held) : Type 0 where
  pub image_stays : image' ≡ image
  pub held_stays : held'.media ≡ held.media

-- it writes one block, once: the other blocks have the bytes that they had
pub record WritesBlock (a : ℕ) (image : List (List ℕ)) (held : Held) (image' : List (List ℕ)) (held' : Held) : Type 0 where
  pub bytes : List ℕ
  pub image_is : image' ≡ slice_set image a bytes
  pub held_is : images_held held' ≡ images_held held ++ image' ∷ []
