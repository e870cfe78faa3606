use Rattle.shared.proofs.shared.Shared.rotate.Goals as goal

pub returns-clause-called : goal.returns-clause-called
returns-clause-called g c = record {
  some = c.args.self.now.room;
  old = c.deref_mut.result.now;
  new = c.rotate.new.self;
  shared = c.rotate.ensures.known;
  rotation = c.rotate.ensures.rotation;
}
