use Rattle.std.proofs.Common.{replicate, refl}
use Rattle.model.specs.Slots.{Empty}
use Rattle.dirent.proofs.SlotBytes.{slot_changed}
use Rattle.dirent.proofs.Slots.clear.Goals as goal

pub returns-clause-changes : goal.returns-clause-changes
returns-clause-changes c =
    let s = c.self.inside in
    rw (c.replace.ensures, ← c.self.view_is)
    (slot_changed s.block (replicate 64 0) c.args.j c.self.invariant.length refl c.requires s.position s.inodes Empty refl)
