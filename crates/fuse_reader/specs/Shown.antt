-- What is shown of the inodes of an image.
use Rattle.std.specs.Prelude.{ℕ, ◌+◌, ◌*◌, Bool, min, List, option_map, unwrap_or, if◌then◌else◌}
use Rattle.attributes.specs.Kinds as kinds
use Rattle.attributes.specs.Words.{attributes_in}
use Rattle.attributes.specs.declared.Attributes.{Attributes as Own}
use Rattle.attributes.specs.declared.Time.{Time as OwnTime}
use Rattle.census.specs.Census.{count_of}
use Rattle.census.specs.declared.counting.Counted.TheVariants.{FreeBlocks, FreeNumbers, UsedBlocks, UsedNumbers}
use Rattle.fuse_wire.specs.declared.bodies.Attributes.{Attributes}
use Rattle.fuse_wire.specs.declared.bodies.Entry.{Entry}
use Rattle.fuse_wire.specs.declared.bodies.Statistics.{Statistics}
use Rattle.fuse_wire.specs.declared.numbers.Time.{Time}
use Rattle.model.specs.Layout.{Geometry}
use Rattle.model.specs.Uses.{blocks_of, is_directory_at}
use Rattle.model.specs.View.{View}
use Rattle.fuse_nodes.specs.Table.{Table, id_of}
use Rattle.fuse_reader.specs.declared.owner.Owner.{Owner}

-- an image that is read alone never changes, so the kernel may keep what it was told: an hour
abbrev pub kept_time : Time
kept_time = record { seconds = 3600; nanoseconds = 0 }

-- ---- attributes

-- a time as it is kept, and as it is shown: a second has 999,999,999 nanoseconds more at most
abbrev pub time_in : Time → OwnTime
time_in t = record { seconds = t.seconds; nanoseconds = t.nanoseconds }

abbrev pub time_shown : OwnTime → Time
time_shown t = record { seconds = t.seconds; nanoseconds = min t.nanoseconds 999999999 }

-- What an inode has of which no attributes are kept: it is a directory that all may list, or a file that all may read (0o40755 and 0o100644), of those whose
-- the image is, and as old as that is.
abbrev pub default_attributes : Owner → Bool → Own
default_attributes owner directory = record {
  mode = if directory then 16877 else 33188;
  user = owner.user;
  group = owner.group;
  device = 0;
  generation = 0;
  accessed = time_in owner.changed;
  modified = time_in owner.changed;
  changed = time_in owner.changed;
}

-- what inode i has
abbrev pub own_attributes : Geometry → View → Owner → ℕ → Own
own_attributes geo view owner i = unwrap_or (attributes_in (view.inode i).attributes) (default_attributes owner (is_directory_at geo view i))

-- Of inode i where it has these: its number, size and links, two pieces of 512 bytes for each block, and they.
abbrev pub shown_by : Geometry → View → ℕ → Own → Attributes
shown_by geo view i own =
    record {
      inode = i;
      size = (view.inode i).size;
      blocks = 2 * blocks_of (view.inode i).size;
      accessed = time_shown own.accessed;
      modified = time_shown own.modified;
      changed = time_shown own.changed;
      mode = kinds.shown_mode (is_directory_at geo view i) own.mode;
      links = (view.inode i).links;
      user = own.user;
      group = own.group;
      device = own.device;
      block_bytes = 1024;
    }

abbrev pub attributes_of : Geometry → View → Owner → ℕ → Attributes
attributes_of geo view owner i = shown_by geo view i (own_attributes geo view owner i)

-- what inode i is, as a number: the upper four bits of 16 of the mode that is shown
abbrev pub kind_at : Geometry → View → ℕ → ℕ
kind_at geo view i = kinds.kind_of (is_directory_at geo view i) (unwrap_or (option_map (λ (own : Own). own.mode) (attributes_in (view.inode i).attributes)) 0)

-- what a name leads to that leads to inode i
abbrev pub entry_of : Geometry → View → Owner → Table → ℕ → Entry
entry_of geo view owner t i =
    record { node = record { 0 = id_of t i }; generation = 0; name_kept = kept_time; attributes_kept = kept_time; attributes = attributes_of geo view owner i }

-- how many data blocks and numbers there are, and how many may be given out
abbrev pub room_of : Geometry → View → Statistics
room_of geo view =
    record {
      blocks = count_of geo view UsedBlocks + count_of geo view FreeBlocks;
      free_blocks = count_of geo view FreeBlocks;
      available_blocks = count_of geo view FreeBlocks;
      inodes = count_of geo view UsedNumbers + count_of geo view FreeNumbers;
      free_inodes = count_of geo view FreeNumbers;
      block_bytes = 1024;
      name_bytes = 56;
    }
