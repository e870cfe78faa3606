use Rattle.std.proofs.Common.{◌≡◌, ◌+◌, length, ap, arith, take}
use Rattle.softdep.specs.Queued.{cells_of}
use Rattle.softdep.proofs.Issued.{cells_take}
use Rattle.softdep.proofs.issuing.cells_in.Goals as goal

pub loop-update-preserved : goal.loop-update-preserved
loop-update-preserved c =
    let before : c.loop-update.cells ≡ cells_of (take c.loop-update.update-index c.args.updates.now) = c.loop-update.invariant in
    let more = cells_take c.args.updates.now c.loop-update.update-index c.update-item.result c.loop-update-test.true in
    let first = c.in_ok-checked_add.ensures.1 in
    let second = c.in_ok-cells.ensures.1 in
    let len = c.len.ensures.value in
    let same = ap (λ u. length u.after.items) c.update-item.is in
    let all : c.in_ok-cells.cells ≡ cells_of (take (c.loop-update.update-index + 1) c.args.updates.now) = omega (arith, before, more, first, second, len, same) in
    all
