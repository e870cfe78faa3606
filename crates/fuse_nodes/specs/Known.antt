-- What is known of an inode that the kernel was told of.
use Rattle.std.specs.Prelude.{ℕ, ◌+◌, ◌-◌, ◌^◌, ◌==◌, ◌&&◌, min, nat_le, Bool, if◌then◌else◌, List, [], ◌∷◌, ◌++◌, Option, Some, None, option_map, position, remove, unwrap_or}
use Rattle.std.specs.List.{list_any}
use Rattle.std.specs.Str.{bytes_eq}
use Rattle.fuse_nodes.specs.declared.known.Open.{Open}

-- a name, and the number of the directory that it stands in
pub record Named : Type 0 where
  pub directory : ℕ
  pub name : List ℕ

abbrev pub named : ℕ → List ℕ → Named
named directory name = record { directory = directory; name = name }

abbrev pub same : Named → Named → Bool
same a b = a.directory == b.directory && bytes_eq a.name b.name

-- the names with this one, which is there once
abbrev pub with_name : Named → List Named → List Named
with_name name names = if list_any (same name) names then names else names ++ name ∷ []

-- the names without this one
abbrev pub without_name : Named → List Named → List Named
without_name name names = unwrap_or (option_map (remove names) (position (same name) names)) names

-- How often its number was given to a new inode, how many lookups of it the kernel has not forgotten, the names that the kernel was told, the first
-- first, and by which handle of the volume it is open.
pub record Known : Type 0 where
  pub generation : ℕ
  pub lookups : ℕ
  pub names : List Named
  pub open_by : Option Open

-- nothing is known
abbrev pub fresh : Known
fresh = record { generation = 0; lookups = 0; names = []; open_by = None }

-- the most of what a number of 64 bits counts; what goes beyond is not counted
abbrev pub one_more : ℕ → ℕ
one_more n = min (n + 1) (2 ^ 64 - 1)

-- ---- what is known after an event

-- the kernel was told of it once more, under a name
abbrev pub told_once : Named → Known → Known
told_once name k = record k { lookups = one_more k.lookups; names = with_name name k.names }

-- its number was given to a new inode, of which nothing was told
abbrev pub born_again : Known → Known
born_again k = record { generation = min (k.generation + 1) (2 ^ 32 - 1); lookups = 0; names = []; open_by = None }

-- the kernel forgot so many lookups, and with the last the names
abbrev pub forgot : ℕ → Known → Known
forgot n k = if nat_le k.lookups n then record k { lookups = 0; names = [] } else record k { lookups = k.lookups - n }

-- it got a name, or lost it
abbrev pub with_its_name : Named → Known → Known
with_its_name name k = record k { names = with_name name k.names }

abbrev pub without_its_name : Named → Known → Known
without_its_name name k = record k { names = without_name name k.names }

-- it was opened once more: the first time, by this handle
abbrev pub opened_by : ℕ → Option Open → Option Open
opened_by handle None = Some (record { handle = handle; count = 1 })
opened_by handle (Some open_by) = Some (record { handle = open_by.handle; count = one_more open_by.count })

abbrev pub opened_once : ℕ → Known → Known
opened_once handle k = record k { open_by = opened_by handle k.open_by }

-- one of those who opened it is done
abbrev pub closed_by : Option Open → Option Open
closed_by None = None
closed_by (Some open_by) = if nat_le open_by.count 1 then None else Some (record { handle = open_by.handle; count = open_by.count - 1 })

abbrev pub closed_once : Known → Known
closed_once k = record k { open_by = closed_by k.open_by }

-- the handle that is then used no more
abbrev pub released_by : Option Open → Option ℕ
released_by None = None
released_by (Some open_by) = if nat_le open_by.count 1 then Some open_by.handle else None
