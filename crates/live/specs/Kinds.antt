-- What an inode is.
use Rattle.std.specs.Prelude.{ℕ, if◌then◌else◌}
use Rattle.model.specs.Uses.{is_directory}
use Rattle.model.specs.View.{Inode}
use Rattle.live.specs.declared.looking.Kind.{Kind}
use Rattle.live.specs.declared.looking.Kind.TheVariants.{File, Directory}

-- the kind of a record, and the mode of a sound one of a kind
abbrev pub kind_of : Inode → Kind
kind_of inode = if is_directory inode then Directory else File

abbrev pub mode_of : Kind → ℕ
mode_of File = 1
mode_of Directory = 2
