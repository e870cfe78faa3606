use Rattle.std.proofs.Common.{◌∙◌, ◌<◌, ◌/◌, Some, ap₂, arith, length, sym}
use Rattle.fuse_wire.specs.declared.numbers.NodeId.{NodeId}
use Rattle.fuse_wire.specs.declared.requests.Forget.{Forget}
use Rattle.fuse_wire.proofs.Messages.{forgets_in-at, length-forgets_in}
use Rattle.fuse_wire.proofs.requests.Forgets.get.Goals as goal

pub overflow_mul-place : goal.overflow_mul-place
overflow_mul-place c = omega (arith, c.requires, length-forgets_in c.args.self.now.bytes.now)

pub long_at-requires : goal.long_at-requires
long_at-requires c = omega (arith, c.requires, length-forgets_in c.args.self.now.bytes.now)

pub overflow_mul-place-2 : goal.overflow_mul-place-2
overflow_mul-place-2 c = omega (arith, c.requires, length-forgets_in c.args.self.now.bytes.now)

pub overflow_add-place : goal.overflow_add-place
overflow_add-place c = omega (arith, c.requires, length-forgets_in c.args.self.now.bytes.now)

pub long_at-requires-2 : goal.long_at-requires-2
long_at-requires-2 c = omega (arith, c.requires, length-forgets_in c.args.self.now.bytes.now)

pub returns : goal.returns
returns c =
    let within : c.args.place < length c.args.self.now.bytes.now / 16 = omega (arith, c.requires, length-forgets_in c.args.self.now.bytes.now) in
    forgets_in-at c.args.self.now.bytes.now c.args.place within ∙ ap₂ (λ n l. let f : Forget = record { node = record { 0 = n }; lookups = l } in Some f) (sym c.long_at.ensures) (sym c.long_at-2.ensures)
