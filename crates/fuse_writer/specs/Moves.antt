-- What is noted where a name moves.
use Rattle.std.specs.Prelude.{◌≡◌, List, ◌++◌}
use Rattle.frozen.specs.Kept.{Kept}
use Rattle.fuse_writer.specs.declared.renaming.Moved.{Moved}
use Rattle.fuse_writer.specs.declared.session.Session.{Session}
use Rattle.fuse_writer.specs.Ahead.{attributes_of, marked, notes, touched}
use Rattle.fuse_writer.specs.Doings.{Change}

-- both directories and the inode have what was worked out for them
abbrev pub changes_of : Session → Moved → List Change
changes_of s m = notes s m.from.directory m.after.left ++ (notes s m.to.directory m.after.reached ++ notes s m.number m.after.own)

-- which is what they have now, touched and marked
pub record IsSoAfter (kept : Kept) (s : Session) (m : Moved) : Type 0 where
  pub left : m.after.left ≡ touched s.time (attributes_of kept s m.from.directory)
  pub reached : m.after.reached ≡ touched s.time (attributes_of kept s m.to.directory)
  pub own : m.after.own ≡ marked s.time (attributes_of kept s m.number)
