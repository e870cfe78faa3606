use Rattle.std.proofs.Common.{◌<◌, length, sym, subst, arith}
use Rattle.metadata.specs.Free.{Free}
use Rattle.metadata.proofs.FreeLemmas.{counted_less, counted_more, some_counted, more_counted}
use Rattle.metadata.proofs.free_space.FreeSpace.set_block.Goals as goal

pub overflow_sub-self : goal.overflow_sub-self
overflow_sub-self c =
    some_counted c.self.inside.unmarked c.self.inside.blocks c.args.address c.self.invariant (subst (λ (f : Free). c.args.address < length f.blocks) (sym c.self.view_is) c.requires) (sym c.if-was_free.ensures)

pub invariant_of-self : goal.invariant_of-self
invariant_of-self c =
    rw c.unmark.ensures
    (counted_less c.self.inside.unmarked c.self.inside.blocks c.args.address c.self.invariant (subst (λ (f : Free). c.args.address < length f.blocks) (sym c.self.view_is) c.requires) (sym c.if-was_free.ensures))

pub overflow_add-self : goal.overflow_add-self
overflow_add-self c =
    omega (arith, more_counted c.self.inside.unmarked c.self.inside.blocks c.args.address c.self.invariant (subst (λ (f : Free). c.args.address < length f.blocks) (sym c.self.view_is) c.requires) (sym c.if-not-was_free.ensures))

pub invariant_of-self-then-not-was_free : goal.invariant_of-self-then-not-was_free
invariant_of-self-then-not-was_free c =
    rw c.mark.ensures
    (counted_more c.self.inside.unmarked c.self.inside.blocks c.args.address c.self.invariant (subst (λ (f : Free). c.args.address < length f.blocks) (sym c.self.view_is) c.requires) (sym c.if-not-was_free.ensures))
