use Rattle.std.proofs.Common.{◌≡◌}
use Rattle.same_metadata.proofs.have_same_metadata.Goals as goal
