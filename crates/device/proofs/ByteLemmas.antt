-- Bytes that an image has or lacks.
use Rattle.std.proofs.Common.{◌≡◌, ℕ, ◌<◌, List, length, All, get_or, sym, subst}
use Rattle.std.proofs.lemmas.List.Elements.{All-get_or}
use Rattle.device.specs.Bytes.{Byte, IsByteOf}

-- that an image has such a byte is a matter of how many blocks it has
pub byte_of_same : (image other : List (List ℕ)) (byte : Byte) → length image ≡ length other → IsByteOf image byte → IsByteOf other byte
byte_of_same image other byte same has = (subst (λ n. byte.0 < n) same has.0, has.1)

-- where one of some bytes is lacking in an image with as many blocks, they are not all bytes of the first one
pub one_lacks : (old image : List (List ℕ)) (bytes : List Byte) (k : ℕ) (d : Byte) → k < length bytes → length image ≡ length old
    → (IsByteOf image (get_or bytes k d) → ⊥) → All (IsByteOf old) bytes → ⊥
one_lacks old image bytes k d inside same lacks all = lacks (byte_of_same old image (get_or bytes k d) (sym same) (All-get_or (IsByteOf old) bytes k d inside all))
