use Rattle.shared.proofs.shared.Shared.flush_some.Goals as goal

pub returns-clause-called : goal.returns-clause-called
returns-clause-called g c = record {
  some = c.args.self.now.room;
  old = c.deref_mut.result.now;
  new = c.flush_some.new.self;
  shared = c.flush_some.ensures.known;
  address = c.flush_some.ensures.call.0;
  next = c.flush_some.ensures.call.1;
  call = c.flush_some.ensures.call.2;
}
