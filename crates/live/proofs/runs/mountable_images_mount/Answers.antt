use Rattle.live.proofs.Mountable.{mounts}
use Rattle.live.proofs.runs.mountable_images_mount.Goals as goal

pub returns : goal.returns
returns g c = λ geo image device r is refuses h. mounts geo image (g.D.Device.honest device) r is refuses h
