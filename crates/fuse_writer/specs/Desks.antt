-- The value of a desk.
use Rattle.std.specs.Prelude.{ℕ, true, false, List, [], ◌∷◌, None, replicate}
use Rattle.attributes.specs.declared.Time.{Time}
use Rattle.snapshot.specs.Alive.{Alive}
use Rattle.fuse_nodes.specs.Table.{new_table}
use Rattle.fuse_reader.specs.Shown.{time_in}
use Rattle.fuse_reader.specs.declared.owner.Owner.{Owner}
use Rattle.fuse_writer.specs.declared.granted.Rules.{Rules}
use Rattle.fuse_writer.specs.declared.session.Session.{Session}
use Rattle.fuse_writer.specs.Turns.{Call, Turn}

-- the volume, the commands of the last turn with their replies, and what lasts until it is unmounted
pub record AtDesk (D : Type 0) : Type 0 where
  pub volume : Alive D
  pub calls : List Call
  pub session : Session

-- the volume as a turn of the desk begins, and as it ends
abbrev pub begun : {D : Type 0} → AtDesk D → Turn D
begun desk = record { start = desk.volume ∷ []; calls = []; volume = desk.volume }

abbrev pub ended : {D : Type 0} → AtDesk D → Turn D
ended desk = record { start = []; calls = desk.calls; volume = desk.volume }

-- of so many numbers of inodes the kernel was told nothing, and nothing is ahead of their records. Until another time is told it is that of the image
abbrev pub new_session : ℕ → Owner → Rules → Session
new_session inodes owner rules = record { owner = owner; rules = rules; nodes = new_table inodes; ahead = replicate inodes None; time = time_in owner.changed; links_stay = false }

-- no repair changes links any more
abbrev pub with_links : Session → Session
with_links s = record s { links_stay = true }

-- it is this time
abbrev pub at_time : Time → Session → Session
at_time time s = record s { time = time }
