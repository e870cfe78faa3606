use Rattle.replies.proofs.Copied.{copied_keeps}
use Rattle.replies.proofs.bytes_and_names_change_nothing.Goals as goal

pub returns : goal.returns
returns c = copied_keeps
