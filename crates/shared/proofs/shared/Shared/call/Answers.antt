use Rattle.shared.proofs.shared.Shared.call.Goals as goal

pub returns-clause-called : goal.returns-clause-called
returns-clause-called g c = record {
  some = c.args.self.now.room;
  old = c.deref_mut.result.now;
  new = c.call.new.self;
  shared = c.call.ensures.known;
  call = c.call.ensures.call;
}
