-- Where the pointer of each position stands. A file has data at the positions below `most_blocks`; behind them are the positions of its tables, which are blocks of pointers.
use Rattle.std.specs.Prelude.{◌≡◌, ℕ, ◌+◌, ◌-◌, ◌*◌, ◌/◌, ◌%◌, Bool, ◌&&◌, nat_lt, nat_le, ◌==◌, if◌then◌else◌, List, [], ◌∷◌, slice_index, slice_set, filter, Option, Some, None, unwrap_or}
use Rattle.std.specs.Option.{option_map_or}
use Rattle.model.specs.Layout.{Geometry}
use Rattle.model.specs.View.{Inode, u32_at}

-- how many pointers stand in the record
abbrev pub direct_positions : ℕ
direct_positions = 12

-- how many blocks a file may have, which is the position of its first table, the indirect block
unfoldable pub most_blocks : Geometry → ℕ
most_blocks geo = if geo.version == 2 then 65804 else 268

-- how many positions there are
unfoldable pub position_count : Geometry → ℕ
position_count geo = if geo.version == 2 then 66062 else 269

-- whether the block at a position is a table
abbrev pub is_table : Geometry → ℕ → Bool
is_table geo k = nat_le (most_blocks geo) k

-- the position of the table in which the pointer of position k stands; none where it stands in the record
unfoldable pub table_of : Geometry → ℕ → Option ℕ
table_of geo k =
    if nat_lt k 12 then None
    else (if nat_lt k 268 then Some (most_blocks geo)
    else (if nat_lt k (most_blocks geo) then Some (most_blocks geo + 2 + (k - 268) / 256)
    else (if nat_lt k (most_blocks geo + 2) then None
    else Some (most_blocks geo + 1))))

-- its place among the 256 pointers there
unfoldable pub place_in_table : Geometry → ℕ → ℕ
place_in_table geo k =
    if nat_lt k 268 then k - 12
    else (if nat_lt k (most_blocks geo) then (k - 268) % 256
    else k - (most_blocks geo + 2))

-- the block with which a file begins to have position k: itself for data, and for a table the first block whose pointer stands below it
unfoldable pub first_block : Geometry → ℕ → ℕ
first_block geo k =
    if nat_lt k (most_blocks geo) then k
    else (if k == most_blocks geo then 12 else 268 + 256 * (k - (most_blocks geo + 2)))

-- whether a file of so many blocks has position k
abbrev pub reaches : Geometry → ℕ → ℕ → Bool
reaches geo count k = nat_lt k (position_count geo) && nat_lt (first_block geo k) count

-- the tables on the way from position k to the record, the nearest first: two at most
unfoldable pub above : Geometry → ℕ → List ℕ
above geo k = option_map_or (λ m. m ∷ option_map_or (λ t. t ∷ []) (table_of geo m) []) (table_of geo k) []

-- m is such a table
pub data IsAbove (geo : Geometry) (k m : ℕ) : Type 0 where
  Next : table_of geo k ≡ Some m → IsAbove geo k m
  Further : (t : ℕ) → table_of geo k ≡ Some t → table_of geo t ≡ Some m → IsAbove geo k m

-- the position on this way whose pointer stands in the record
unfoldable pub top : Geometry → ℕ → ℕ
top geo k = option_map_or (λ m. unwrap_or (table_of geo m) m) (table_of geo k) k

-- the tables that come with block n, the nearest first
abbrev pub new_tables : Geometry → ℕ → List ℕ
new_tables geo n = filter (λ m. first_block geo m == n) (above geo n)

-- how many tables a file of so many blocks has, where it may have so many: they stand at the first positions from `most_blocks` on
unfoldable pub tables : ℕ → ℕ
tables count =
    if nat_le count 12 then 0
    else (if nat_le count 268 then 1 else 2 + (count - 268 + 255) / 256)

-- the pointer at a place of a table
abbrev pub pointer_in : List ℕ → ℕ → ℕ
pointer_in table place = u32_at table (4 * place)

-- the pointer that stands in the record for a position that no table holds, and the record with another one there
abbrev pub field_at : Geometry → Inode → ℕ → ℕ
field_at geo inode k =
    if nat_lt k direct_positions then slice_index inode.direct k
    else (if k == most_blocks geo then inode.indirect else inode.double)

abbrev pub with_field : Geometry → Inode → ℕ → ℕ → Inode
with_field geo inode k a =
    if nat_lt k direct_positions then record inode { direct = slice_set inode.direct k a }
    else (if k == most_blocks geo then record inode { indirect = a } else record inode { double = a })
