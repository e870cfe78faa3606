use Rattle.std.proofs.Common.{[], refl}
use Rattle.file_device.proofs.CallLemmas.{gives_all, on_same}
use Rattle.host_lines.proofs.mkfs.given.Goals as goal

pub returns-in-Ok-clause-image : goal.returns-in-Ok-clause-image
returns-in-Ok-clause-image g c = on_same _ c.args.device c.give.new.self [] refl (gives_all c.args.device c.give.new.self c.in-Ok.ensures.given)
