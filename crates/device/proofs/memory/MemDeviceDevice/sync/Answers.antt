use Rattle.device.specs.Cached.{held_in_memory, memory_in_order}
use Rattle.device.proofs.MediaLemmas.{synced_same}
use Rattle.device.proofs.memory.MemDeviceDevice.sync.Goals as goal

pub returns-clause-held : goal.returns-clause-held
returns-clause-held c = synced_same (held_in_memory c.args.self.now) (memory_in_order c.args.self.now).now
