-- What a change of one bit of a group's maps does.
use Rattle.std.specs.Prelude.{◌≡◌, ℕ, ◌+◌, ◌*◌, ◌/◌, ◌<◌, Bool, List, length, slice_index, ◌==◌}
use Rattle.std.specs.Int.{bit_at}
use Rattle.model.specs.View.{map_bit}
use Rattle.cgmaps.specs.declared.Map.{Map}
use Rattle.cgmaps.specs.declared.Map.TheVariants.{Inodes, Blocks}

-- the byte where a map begins
abbrev pub first_byte : Map → ℕ
first_byte Inodes = 32
first_byte Blocks = 160

-- how many bits a map has at most
abbrev pub bit_count : Map → ℕ
bit_count Inodes = 1024
bit_count Blocks = 4096

-- new is old with this value at this bit of the map that begins at byte start, and no other bit or byte is changed
pub record ChangesBit (old new : List ℕ) (start bit : ℕ) (value : Bool) : Type 0 where
  pub changed : map_bit new start bit ≡ value
  pub other_bits : (k : ℕ) → (k ≡ 8 * start + bit → ⊥) → map_bit new 0 k ≡ map_bit old 0 k
  pub other_bytes : (b : ℕ) → (b ≡ start + bit / 8 → ⊥) → slice_index new b ≡ slice_index old b
  pub length : length new ≡ length old

-- the byte new is the byte old with this value at this bit, and no other bit is changed
pub record ChangesByte (old new bit : ℕ) (value : Bool) : Type 0 where
  pub changed : (bit_at new bit == 1) ≡ value
  pub other_bits : (k : ℕ) → k < 8 → (k ≡ bit → ⊥) → bit_at new k ≡ bit_at old k
