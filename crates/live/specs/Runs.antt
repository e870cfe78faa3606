-- What a mounted volume goes through.
use Rattle.std.specs.Prelude.{◌≡◌, ℕ, List, [], ◌∷◌, ◌++◌, Ok, Err, map, reverse}
use Rattle.model.specs.Image.{image_view}
use Rattle.model.specs.View.{View}
use Rattle.layout.specs.declared.refusal.Refusal.{Refusal}
use Rattle.device.specs.Media.{Held}
use Rattle.machine.specs.Command.{Answer, Command, Reply}
use Rattle.softdep.specs.Queued.{pending_of}
use Rattle.softdep.specs.Syncing.{AreWrites}
use Rattle.live_states.specs.Holdings.{Beside}
use Rattle.live.specs.Alive.{Alive, Answers, MayRefuse}

-- the device holds what it held, and the volume over it is as it was
pub record IsAsItWas {D : Type 0} (image : List (List ℕ)) (old : Alive D) (image' : List (List ℕ)) (new : Alive D) : Type 0 where
  pub same_image : image' ≡ image
  pub queue : new.queue ≡ old.queue
  pub kept : new.kept ≡ old.kept
  pub holdings : new.holdings ≡ old.holdings

-- From a volume over an image, with this beside it: the image and the volume then, the commands and their replies, oldest first, and what the device held after each write, newest first. Commands are carried out, or refused without an effect; and blocks are flushed, as a sync does before it is refused.
pub data Lives {D : Type 0} (beside : Beside) (image0 : List (List ℕ)) (live0 : Alive D) : List (List ℕ) → Alive D → List Command → List Reply → List View → Type 0 where
  Begins : Lives beside image0 live0 image0 live0 [] [] []
  CarriesOut : {image : List (List ℕ)} {live : Alive D} {commands : List Command} {replies : List Reply} {images : List View}
      (command : Command) (answer : Answer) (image' : List (List ℕ)) (live' : Alive D) (later : List View)
      → Lives beside image0 live0 image live commands replies images → Answers image live command answer image' live' later
      → Lives beside image0 live0 image' live' (commands ++ command ∷ []) (replies ++ Ok answer ∷ []) (later ++ images)
  Refuses : {image : List (List ℕ)} {live : Alive D} {commands : List Command} {replies : List Reply} {images : List View}
      (command : Command) (r : Refusal) (image' : List (List ℕ)) (live' : Alive D)
      → Lives beside image0 live0 image live commands replies images → MayRefuse image live command r → IsAsItWas image live image' live'
      → Lives beside image0 live0 image' live' (commands ++ command ∷ []) (replies ++ Err r ∷ []) images
  Flushes : {image : List (List ℕ)} {live : Alive D} {commands : List Command} {replies : List Reply} {images : List View}
      (held held' : Held) (image' : List (List ℕ)) (live' : Alive D)
      → Lives beside image0 live0 image live commands replies images
      → (wrote : AreWrites live.kept.geometry image held (pending_of live.queue) image' held' (pending_of live'.queue)) → live'.kept ≡ live.kept → live'.holdings ≡ live.holdings
      → Lives beside image0 live0 image' live' commands replies (reverse (map (image_view live.kept.geometry) wrote.more) ++ images)
