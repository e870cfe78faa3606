-- What of a record tells of the blocks of its inode.
use Rattle.model.specs.View.{Inode, free_inode, with_attributes}

-- all but its attributes, which are 0
abbrev pub without_attributes : Inode → Inode
without_attributes inode = with_attributes inode free_inode.attributes
