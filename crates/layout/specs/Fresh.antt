-- The blocks of a fresh image, byte for byte: numbers that stand at their bytes, and zeroes.
use Rattle.std.specs.Prelude.{ℕ, ◌+◌, ◌==◌, List, ◌++◌, length, take, drop, map, replicate, slice_set, if◌then◌else◌}
use Rattle.std.specs.List.{range_with_len}
use Rattle.byteorder.specs.Endian.{little_bytes}
use Rattle.model.specs.Layout.{Geometry, block_count, group_of_address, place_in_group, inode_block, inode_byte, root}
use Rattle.model.specs.Fresh.{first_data, root_bytes}

abbrev pub zero_block : List ℕ
zero_block = replicate 1024 0

-- the block with these bytes from this one on
abbrev pub put : ℕ → List ℕ → List ℕ → List ℕ
put byte bytes block = take byte block ++ bytes ++ drop (byte + length bytes) block

-- the block with this number in the four bytes from this one on, and in the two bytes
abbrev pub put_u32 : ℕ → ℕ → List ℕ → List ℕ
put_u32 byte number block = put byte (little_bytes 4 number) block

abbrev pub put_u16 : ℕ → ℕ → List ℕ → List ℕ
put_u16 byte number block = put byte (little_bytes 2 number) block

-- the superblock: the magic, the version and the geometry
unfoldable pub super_bytes : Geometry → List ℕ
super_bytes geo = put_u32 16 geo.inodes (put_u32 12 geo.blocks (put_u32 8 geo.groups (put_u32 4 geo.version (put_u32 0 0x53555631 zero_block))))

-- a group's block of maps: the magic and the group's number, and no bit set
unfoldable pub group_bytes : ℕ → List ℕ
group_bytes g = put_u32 4 g (put_u32 0 0x53554347 zero_block)

-- the first group's, with the root's bit and that of its block
unfoldable pub first_group_bytes : List ℕ
first_group_bytes = slice_set (slice_set (group_bytes 0) 32 4) 160 1

-- the root's record, alone in its block: a directory with two links and one block
unfoldable pub root_record_bytes : Geometry → List ℕ
root_record_bytes geo =
    put_u32 (inode_byte root + 8) (first_data geo) (put_u32 (inode_byte root + 4) 1024 (put_u16 (inode_byte root + 2) 2 (put_u16 (inode_byte root) 2 zero_block)))

-- the block of this address
unfoldable pub fresh_bytes : Geometry → ℕ → List ℕ
fresh_bytes geo a =
    if a == 0 then super_bytes geo
    else (if place_in_group geo a == 0 then (if group_of_address geo a == 0 then first_group_bytes else group_bytes (group_of_address geo a))
    else (if a == inode_block geo root then root_record_bytes geo
    else (if a == first_data geo then root_bytes
    else zero_block)))

-- all blocks
unfoldable pub fresh_image : Geometry → List (List ℕ)
fresh_image geo = map (fresh_bytes geo) (range_with_len 0 (block_count geo))
