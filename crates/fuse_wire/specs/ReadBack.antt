-- What the kernel reads in a reply.
use Rattle.std.specs.Prelude.{◌≡◌, ℕ, List, length, drop}
use Rattle.fuse_wire.specs.Fields.{long_at, word_at}

-- its length is the one that it says, and it answers this request with this error, which is 0 if the call was done, and this body
pub record IsReadSo (unique error : ℕ) (body bytes : List ℕ) : Type 0 where
  pub says_length : word_at 0 bytes ≡ length bytes
  pub says_error : word_at 4 bytes ≡ error
  pub says_request : long_at 8 bytes ≡ unique
  pub has_body : drop 16 bytes ≡ body
