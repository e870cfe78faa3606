use Rattle.file_device.proofs.NewFileLemmas.{new_file_zeroes}
use Rattle.file_device.proofs.file.tests.known.Goals as goal

pub format-requires-clause-zeroes : goal.format-requires-clause-zeroes
format-requires-clause-zeroes c _ = new_file_zeroes _ _ c.in_ok-device.ensures.new
