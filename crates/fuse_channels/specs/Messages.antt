-- Messages that came over a channel, and messages that went.
use Rattle.std.specs.Prelude.{◌≡◌, ℕ, List, [], ◌∷◌, ◌++◌, length, map, pos, take, Option, Some, Result, Ok, Err}
use Rattle.std.specs.Global.{Vec}
use Rattle.std.specs.Io.KnownBytes.{Consumes, IsAtEnd, Keeps}
use Rattle.std.specs.IoError.{raw_os_error}
use Rattle.std.specs.declared.io.Error.{Error}
use Rattle.fuse_channels.specs.declared.interface.Received.{Received}
use Rattle.fuse_channels.specs.declared.interface.Received.TheVariants as received

-- the messages of a channel, the first first: those that were taken from it, those that wait, and those that it was given
pub record Messages : Type 0 where
  pub taken : List (List ℕ)
  pub waiting : List (List ℕ)
  pub given : List (List ℕ)

-- what a read gave: so many bytes, or an error
abbrev pub Reading : Type 0
Reading = Result ℕ Error

-- the two ends of a device, its messages, and what each read of it gave
pub record Ends (R W : Type 0) : Type 0 where
  pub reader : R
  pub writer : W
  pub taken : List (List ℕ)
  pub given : List (List ℕ)
  pub reads : List Reading

-- what the channel's answer adds to the messages that were taken
abbrev pub came : Received → List ℕ → List (List ℕ)
came received.Message message = message ∷ []
came received.Nothing message = []
came received.End message = []

-- the bytes of each
abbrev pub texts : List (Vec ℕ) → List (List ℕ)
texts messages = map (λ m. m.items) messages

-- ---- the end

-- a read that tells that no message will come: it gave no byte, or ENODEV (19), since the volume was unmounted
abbrev pub IsEnd : Reading → Type 0
IsEnd (Ok bytes) = bytes ≡ 0
IsEnd (Err error) = raw_os_error error ≡ Some (pos 19)

-- the last read told it
pub record HasEnded (reads : List Reading) : Type 0 where
  pub before : List Reading
  pub last : Reading
  pub all : reads ≡ before ++ last ∷ []
  pub end : IsEnd last

-- A read gave the bytes of a message, which are taken from those that are left, and none only if none is left; or an error, and nothing is taken.
abbrev pub Reads : Option (List ℕ) → Option (List ℕ) → Reading → List ℕ → Type 0
Reads left new_left (Ok bytes) message = (bytes ≡ length message) × Consumes left new_left message × (bytes ≡ 0 → IsAtEnd new_left)
Reads left new_left (Err error) message = Keeps left new_left

-- one read more was made
pub record ReadsOnce (left new_left : Option (List ℕ)) (reads new_reads : List Reading) (message : List ℕ) : Type 0 where
  pub read : Reading
  pub more : new_reads ≡ reads ++ read ∷ []
  pub gave : Reads left new_left read message
