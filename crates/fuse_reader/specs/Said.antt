-- What is said to a request.
use Rattle.std.specs.Prelude.{◌≡◌, ◌⊎◌, ℕ, List, [], ◌++◌, length, Err}
use Rattle.fuse_wire.specs.declared.bodies.Body.{Body}
use Rattle.fuse_wire.specs.declared.errors.Errno.{Errno}
use Rattle.fuse_wire.specs.declared.errors.Errno.TheVariants as errors
use Rattle.fuse_wire.specs.declared.numbers.Unique.{Unique}
use Rattle.fuse_wire.specs.Replies.{body_bytes, head_bytes, spell_reply}

-- nothing, the bytes of a body, or why it is refused
pub data Said : Type 0 where
  Nothing : Said
  Told : List ℕ → Said
  Refused : Errno → Said

-- that a call was done, with this body
abbrev pub told : Body → Said
told body = Told (body_bytes body)

-- as a reply
abbrev pub spelled : Unique → Said → List ℕ
spelled unique Nothing = []
spelled unique (Told bytes) = head_bytes (length bytes) 0 unique ++ bytes
spelled unique (Refused error) = spell_reply unique (Err error)

-- the reply says this; or that the device failed, as it did
abbrev pub Says : Unique → Said → Type 0 → List ℕ → Type 0
Says unique said failed reply = (reply ≡ spelled unique said) ⊎ (failed × (reply ≡ spelled unique (Refused errors.Device)))
