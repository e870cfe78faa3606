-- Single bytes of an image, changed.
use Rattle.std.specs.Prelude.{ℕ, ◌<◌, List, [], ◌∷◌, length, slice_set}
use Rattle.model.specs.Image.{block_at}

-- the address of a block, a place in it, and the byte that is put there
abbrev pub Byte : Type 0
Byte = ℕ × ℕ × ℕ

-- the image has such a byte
abbrev pub IsByteOf : List (List ℕ) → Byte → Type 0
IsByteOf image byte = (byte.0 < length image) × (byte.1 < 1024)

abbrev pub with_byte : List (List ℕ) → Byte → List (List ℕ)
with_byte image byte = slice_set image byte.0 (slice_set (block_at image byte.0) byte.1 byte.2)

-- the first of them first
abbrev pub with_bytes : List (List ℕ) → List Byte → List (List ℕ)
with_bytes image [] = image
with_bytes image (byte ∷ bytes) = with_bytes (with_byte image byte) bytes
