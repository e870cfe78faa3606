-- A reply is read as it was written.
use Rattle.std.proofs.Common.{◌≡◌, ℕ, ◌+◌, ◌-◌, ◌<◌, ◌≤◌, ◌^◌, List, [], ◌∷◌, ◌++◌, length, Ok, Err, refl, ◌∙◌, arith, lit<}
use Rattle.byteorder.specs.Endian.{little_bytes}
use Rattle.byteorder.specs.Numbers.{little_number-reads_back}
use Rattle.fuse_wire.specs.declared.bodies.Body.{Body}
use Rattle.fuse_wire.specs.declared.errors.Errno.{Errno}
use Rattle.fuse_wire.specs.declared.errors.Errno.TheVariants as errors
use Rattle.fuse_wire.specs.declared.numbers.Unique.{Unique}
use Rattle.fuse_wire.specs.ReadBack.{IsReadSo}
use Rattle.fuse_wire.specs.Refusals.{number_of}
use Rattle.fuse_wire.specs.Replies.{body_bytes, head_bytes, spell_reply}

behind_head : (bytes error : ℕ) (unique : Unique) (rest : List ℕ) → 16 + bytes < 2 ^ 32 → error < 2 ^ 32 → unique.0 < 2 ^ 64 → length rest ≡ bytes
    → IsReadSo unique.0 error rest (head_bytes bytes error unique ++ rest)
behind_head bytes error unique rest small below within same =
    let size : 16 + bytes ≡ length (head_bytes bytes error unique ++ rest) = omega (arith, same) in
    record {
      says_length = little_number-reads_back 4 (16 + bytes) (little_bytes 4 error ++ (little_bytes 8 unique.0 ++ rest)) small ∙ size;
      says_error = little_number-reads_back 4 error (little_bytes 8 unique.0 ++ rest) below;
      says_request = little_number-reads_back 8 unique.0 rest within;
      has_body = refl;
    }

-- the number of a refusal is not 0, and small
record IsNumber (n : ℕ) : Type 0 where
  pub some : 0 < n
  pub small : n < 2 ^ 32

is_number : (error : Errno) → IsNumber (number_of error)
is_number errors.NotPermitted = record { some = lit< tt; small = lit< tt }
is_number errors.NotFound = record { some = lit< tt; small = lit< tt }
is_number errors.Device = record { some = lit< tt; small = lit< tt }
is_number errors.NoMemory = record { some = lit< tt; small = lit< tt }
is_number errors.Busy = record { some = lit< tt; small = lit< tt }
is_number errors.Exists = record { some = lit< tt; small = lit< tt }
is_number errors.CrossDevice = record { some = lit< tt; small = lit< tt }
is_number errors.NotDirectory = record { some = lit< tt; small = lit< tt }
is_number errors.IsDirectory = record { some = lit< tt; small = lit< tt }
is_number errors.Invalid = record { some = lit< tt; small = lit< tt }
is_number errors.TooManyFiles = record { some = lit< tt; small = lit< tt }
is_number errors.TooBig = record { some = lit< tt; small = lit< tt }
is_number errors.NoSpace = record { some = lit< tt; small = lit< tt }
is_number errors.ReadOnly = record { some = lit< tt; small = lit< tt }
is_number errors.TooManyLinks = record { some = lit< tt; small = lit< tt }
is_number errors.NameTooLong = record { some = lit< tt; small = lit< tt }
is_number errors.NotImplemented = record { some = lit< tt; small = lit< tt }
is_number errors.NotEmpty = record { some = lit< tt; small = lit< tt }
is_number errors.NotSupported = record { some = lit< tt; small = lit< tt }
is_number errors.Stale = record { some = lit< tt; small = lit< tt }

pub done : (unique : Unique) (body : Body) → unique.0 < 2 ^ 64 → 16 + length (body_bytes body) < 2 ^ 32 → IsReadSo unique.0 0 (body_bytes body) (spell_reply unique (Ok body))
done unique body within small = behind_head (length (body_bytes body)) 0 unique (body_bytes body) small (lit< tt) within refl

pub refused : (unique : Unique) (error : Errno) → unique.0 < 2 ^ 64 → (0 < number_of error) × IsReadSo unique.0 (2 ^ 32 - number_of error) [] (spell_reply unique (Err error))
refused unique error within =
    let number = is_number error in
    (number.some, behind_head 0 (2 ^ 32 - number_of error) unique [] (lit< tt) (omega (arith, number.some, number.small)) within refl)
