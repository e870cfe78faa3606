use Rattle.std.proofs.Common.{List, subst, sym}
use Rattle.fuse_writer.specs.Turns.{Call, GoesBy}
use Rattle.fuse_writer.proofs.Going.{goes_by_more}
use Rattle.fuse_writer.proofs.asking.Asking.ask.Goals as goal

pub invariant_of-self : goal.invariant_of-self
invariant_of-self g c = λ start is.
    let old = c.self.inside.volume in
    let new = c.apply-reply.new.self in
    subst (λ (calls : List Call). GoesBy g.D.Device.honest g.D.Device.held g.D.Device.image start calls new) (sym c.and-self-inside.ensures)
    (goes_by_more g.D.Device.honest g.D.Device.held g.D.Device.image start old new c.self.inside.calls.items c.args.command.now c.apply-reply.result
    (c.self.invariant start is) c.apply-reply.ensures.honest c.apply-reply.ensures.applied)
