use Rattle.std.proofs.Common.{lit<}
use Rattle.fuse_wire.specs.Replies.{attributes_bytes, told_bytes}
use Rattle.test_edges.proofs.messages.the_number_of_a_device_is_written.Goals as goal

pub write-requires : goal.write-requires
unfolding told_bytes attributes_bytes
write-requires g c = lit< tt
