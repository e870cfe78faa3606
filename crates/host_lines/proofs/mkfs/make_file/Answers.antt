use Rattle.std.proofs.Common.{◌∙◌}
use Rattle.file_device.proofs.NewFileLemmas.{new_file_count, new_file_zeroes}
use Rattle.host_lines.proofs.mkfs.make_file.Goals as goal

pub make-requires-clause-count : goal.make-requires-clause-count
make-requires-clause-count g c = new_file_count _ _ c.in_ok-device.ensures.new ∙ c.blocks-2.ensures.count

pub make-requires-clause-zeroes : goal.make-requires-clause-zeroes
make-requires-clause-zeroes g c _ = new_file_zeroes _ _ c.in_ok-device.ensures.new
