use Rattle.fuse_wire.proofs.ReadBack.{done, refused}
use Rattle.fuse_wire.proofs.laws.a_reply_is_read_back.Goals as goal

pub returns-clause-done : goal.returns-clause-done
returns-clause-done c = done

pub returns-clause-refused : goal.returns-clause-refused
returns-clause-refused c = refused
