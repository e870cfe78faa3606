-- Where items go.
use Rattle.std.specs.Prelude.{◌≡◌, ℕ, List, [], ◌∷◌, ◌++◌, Err, Ok, Option, Some, codes, if◌then◌else◌, map}
use Rattle.std.specs.Option.{option_map}
use Rattle.std.specs.Str.{bytes_eq}
use Rattle.archives.specs.declared.entries.Attributes.{Attributes as Told}
use Rattle.archives.specs.declared.entries.Kind.{Kind}
use Rattle.archives.specs.declared.entries.Kind.TheVariants.{Folder, HardLink}
use Rattle.archives.specs.Entries.{Item as Entry}
use Rattle.archives.specs.Reading.{entries_of}
use Rattle.archived_attributes.specs.Telling.{inode_of}
use Rattle.attributes.specs.Words.{words_of}
use Rattle.layout.specs.declared.refusal.Refusal.TheVariants.{NotFound}
use Rattle.frozen.specs.Kept.{Kept}
use Rattle.machine.specs.Command.{Stat, no_attributes}
use Rattle.reading.specs.Replies.{Replies}
use Rattle.reading.specs.Trees.{joined_path}
use Rattle.import_tree.specs.declared.items.Item.{Item}
use Rattle.import_tree.specs.declared.items.Source.{Source}
use Rattle.import_tree.specs.declared.items.Source.TheVariants.{Host, Held}

-- nothing stands yet where the item goes
abbrev pub IsNew : Kept → Item → Type 0
IsNew kept item = Replies kept (Stat item.path.items) (Err NotFound)

-- What goes to a path: of a hard link the bytes are the path that it is one more name of. There are no attributes of a device for whose number an image has no room.
pub record Placed : Type 0 where
  pub kind : Kind
  pub path : List ℕ
  pub bytes : List ℕ
  pub words : Option (List ℕ)

-- the item of an archive's entry
abbrev pub held_of : Source → List ℕ
held_of (Host path) = []
held_of (Held bytes) = bytes.items

abbrev pub shown : Item → Placed
shown item = record { kind = item.kind; path = item.path.items; bytes = held_of item.source; words = Some item.attributes }

-- the numbers that an image keeps of an entry
abbrev pub kept_words : Kind → Told → Option (List ℕ)
kept_words kind told = option_map words_of (inode_of kind told)

-- what an entry has below a directory: a hard link leads to a path there
abbrev pub bytes_below : List ℕ → Kind → List ℕ → List ℕ
bytes_below path HardLink bytes = joined_path path bytes
bytes_below path kind bytes = bytes

-- an entry of an archive, below a directory
abbrev pub placed : List ℕ → Entry → Placed
placed path entry = record {
  kind = entry.kind;
  path = joined_path path entry.path;
  bytes = bytes_below path entry.kind entry.bytes;
  words = kept_words entry.kind entry.attributes;
}

-- a directory that is to be made, but for the root
abbrev pub first : List ℕ → List Placed
first path = if bytes_eq path (codes "/") then [] else record { kind = Folder; path = path; bytes = []; words = Some no_attributes } ∷ []

-- The items are those of an archive's entries, in order, below a directory, and this directory before them.
pub record ArePlaced (archive path : List ℕ) (items : List Item) : Type 0 where
  pub entries : List Entry
  pub read : entries_of archive ≡ Ok entries
  pub are : map shown items ≡ first path ++ map (placed path) entries
