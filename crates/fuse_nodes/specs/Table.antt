-- The table of what the kernel was told, by the numbers of inodes.
use Rattle.std.specs.Prelude.{ℕ, zero, suc, ◌+◌, ◌*◌, ◌/◌, ◌%◌, ◌^◌, ◌==◌, ◌&&◌, nat_lt, Bool, if◌then◌else◌, List, [], ◌∷◌, ◌++◌, replicate, slice_get, slice_index_or, slice_set, Option, Some, None, option_map, option_and_then}
use Rattle.fuse_nodes.specs.Known.{Known, Named, fresh, told_once, born_again, forgot, with_its_name, without_its_name, opened_once, closed_once}

-- what is known of each number
abbrev pub Table : Type 0
Table = List Known

-- nothing is known of any of so many numbers
abbrev pub new_table : ℕ → Table
new_table inodes = replicate inodes fresh

abbrev pub known : Table → ℕ → Known
known t number = slice_index_or t number fresh

abbrev pub change : (Known → Known) → ℕ → Table → Table
change f number t = slice_set t number (f (known t number))

-- ---- numbers of nodes

-- the number by which the kernel knows the inode that has this number now
abbrev pub id_of : Table → ℕ → ℕ
id_of t number = (known t number).generation * 2 ^ 32 + number

-- of the inode that has this number now, the kernel knows a node of this generation
abbrev pub is_known : ℕ → Known → Bool
is_known generation k = k.generation == generation && nat_lt 0 k.lookups

-- the inode that the kernel means: the root by 1, and any other that it knows by its number and the generation
abbrev pub found_known : Table → ℕ → Option ℕ
found_known t id = if is_known (id / 2 ^ 32) (known t (id % 2 ^ 32)) then Some (id % 2 ^ 32) else None

abbrev pub found : Table → ℕ → Option ℕ
found t id = if id == 1 then Some 2 else found_known t id

-- ---- events

pub data Event : Type 0 where
  -- the kernel was told of the inode that has this number, under a name
  Told : ℕ → Named → Event
  -- this number was given to a new inode
  Born : ℕ → Event
  -- the kernel forgot so many lookups of the node of this number
  Forgot : ℕ → ℕ → Event
  -- the inode that has this number got a name, or lost it
  Got : ℕ → Named → Event
  Lost : ℕ → Named → Event
  -- it was opened, by this handle if it was not open, or closed
  Opened : ℕ → ℕ → Event
  Closed : ℕ → Event

abbrev pub after : Event → Table → Table
after (Told number name) t = change (told_once name) number t
after (Born number) t = change born_again number t
after (Forgot id lookups) t = if is_known (id / 2 ^ 32) (known t (id % 2 ^ 32)) then change (forgot lookups) (id % 2 ^ 32) t else t
after (Got number name) t = change (with_its_name name) number t
after (Lost number name) t = change (without_its_name name) number t
after (Opened number handle) t = change (opened_once handle) number t
after (Closed number) t = change closed_once number t

-- ---- paths

-- the path of an inode from the root, by the first name of each, through so many directories at most
abbrev pub path_of : ℕ → Table → ℕ → Option (List ℕ)
path_of zero t number = None
path_of (suc n) t number =
    if number == 2 then Some []
    else option_and_then (λ (name : Named). option_map (λ (front : List ℕ). front ++ 47 ∷ name.name) (path_of n t name.directory)) (slice_get (known t number).names 0)
