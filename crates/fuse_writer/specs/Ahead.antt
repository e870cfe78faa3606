-- The attributes that inodes have, and those that they are to have. Some are ahead of the records: users see them, and the records get them later.
use Rattle.std.specs.Prelude.{ℕ, ◌+◌, ◌*◌, ◌/◌, ◌%◌, ◌==◌, ◌&&◌, ◌||◌, not, Bool, bit_and, bit_or, if◌then◌else◌, List, [], ◌∷◌, Option, Some, None, is_some, option_map, unwrap_or, slice_index_or}
use Rattle.attributes.specs.Words.{words_of}
use Rattle.attributes.specs.declared.Attributes.{Attributes}
use Rattle.attributes.specs.declared.Time.{Time}
use Rattle.frozen.specs.Kept.{Kept, frozen_view}
use Rattle.fuse_wire.specs.declared.requests.Changes.{Changes}
use Rattle.fuse_wire.specs.declared.requests.Moment.{Moment}
use Rattle.fuse_wire.specs.declared.requests.Moment.TheVariants as moments
use Rattle.machine.specs.Command.{no_attributes}
use Rattle.fuse_reader.specs.Shown.{own_attributes, time_in}
use Rattle.fuse_writer.specs.declared.making.New.{New}
use Rattle.fuse_writer.specs.declared.session.Session.{Session}
use Rattle.fuse_writer.specs.Doings.{Change}

-- what inode i has: what is ahead of its record, or what that says
abbrev pub attributes_of : Kept → Session → ℕ → Attributes
attributes_of kept s i = unwrap_or (slice_index_or s.ahead i None) (own_attributes kept.geometry (frozen_view kept) s.owner i)

-- ---- what is noted

-- its bytes, or the names in it, were changed at this time
abbrev pub touched : Time → Attributes → Attributes
touched time a = record a { modified = time; changed = time }

-- something else of it was
abbrev pub marked : Time → Attributes → Attributes
marked time a = record a { changed = time }

-- inode i has these from now on, if attributes are kept
abbrev pub notes : Session → ℕ → Attributes → List Change
notes s i a = if s.rules.keeps_attributes then record { number = i; ahead = Some a } ∷ [] else []

abbrev pub touches : Kept → Session → ℕ → List Change
touches kept s i = notes s i (touched s.time (attributes_of kept s i))

abbrev pub marks : Kept → Session → ℕ → List Change
marks kept s i = notes s i (marked s.time (attributes_of kept s i))

-- nothing is ahead of its record
abbrev pub settled : ℕ → List Change
settled i = record { number = i; ahead = None } ∷ []

-- ---- new inodes

-- a directory hands its group on if bit 10 of its mode is set
abbrev pub hands_on : Attributes → Bool
hands_on directory = not (bit_and directory.mode 1024 == 0)

abbrev pub is_device : ℕ → Bool
is_device mode = mode / 4096 == 2 || mode / 4096 == 6

-- What a new inode of a directory has. A new directory hands on what its own one does; a device alone has the number of one.
unfoldable pub new_attributes : Time → Attributes → New → Attributes
new_attributes time directory new = record {
  mode = if hands_on directory && new.mode / 4096 == 4 then bit_or new.mode 1024 else new.mode;
  user = new.user;
  group = if hands_on directory then directory.group else new.group;
  device = if is_device new.mode then new.device else 0;
  generation = 0;
  accessed = time;
  modified = time;
  changed = time;
}

-- the numbers that it is made with: those of none, where attributes are not kept
abbrev pub words_for : Kept → Session → ℕ → New → List ℕ
words_for kept s d new = if s.rules.keeps_attributes then words_of (new_attributes s.time (attributes_of kept s d) new) else no_attributes

-- ---- attributes that a program sets

-- whether more than the size is to be set
abbrev pub has_attributes : Changes → Bool
has_attributes changes = (((is_some changes.mode || is_some changes.user) || is_some changes.group) || is_some changes.accessed) || is_some changes.modified

-- the time that is meant
abbrev pub moment_of : Time → Option Moment → Option Time
moment_of time None = None
moment_of time (Some moments.Now) = Some time
moment_of time (Some (moments.At at)) = Some (time_in at)

-- who may use it, while it stays what it is
abbrev pub mode_with : ℕ → Option ℕ → ℕ
mode_with own None = own
mode_with own (Some mode) = own / 4096 * 4096 + mode % 4096

-- when its bytes were changed: a new size changes them too
abbrev pub modified_by : Time → Changes → Time → Time
modified_by time changes own = unwrap_or (moment_of time changes.modified) (if is_some changes.size then time else own)

unfoldable pub with_changes : Time → Changes → Attributes → Attributes
with_changes time changes own = record own {
  mode = mode_with own.mode changes.mode;
  user = unwrap_or changes.user own.user;
  group = unwrap_or changes.group own.group;
  accessed = unwrap_or (moment_of time changes.accessed) own.accessed;
  modified = modified_by time changes own.modified;
  changed = unwrap_or (option_map time_in changes.changed) time;
}
