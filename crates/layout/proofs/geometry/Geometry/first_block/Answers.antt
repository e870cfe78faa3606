use Rattle.std.proofs.Common.{◌<◌, ◌≤◌, ◌+◌, ◌-◌, ◌*◌, ◌≡◌, sym, ap, ◌∙◌, arith}
use Rattle.model.specs.Shape.{most_blocks}
use Rattle.model.proofs.Shape.{own_first}
use Rattle.layout.proofs.TablePlaces.{first_at, first_behind, positions_few}
use Rattle.layout.proofs.geometry.Geometry.first_block.Goals as goal

pub returns-then-position-most : goal.returns-then-position-most
returns-then-position-most c = sym (own_first c.args.self.now c.args.position (omega (arith, c.if-position-most.true, c.most_blocks-most.ensures.count)))

pub returns-then-position-most-2 : goal.returns-then-position-most-2
returns-then-position-most-2 c = sym (first_at c.args.self.now c.args.position (c.if-position-most-2.true ∙ c.most_blocks-most.ensures.count))

pub overflow_mul-result : goal.overflow_mul-result
overflow_mul-result c = omega (arith, c.requires, positions_few c.args.self.now, c.saturating_sub.ensures)

pub overflow_add-result : goal.overflow_add-result
overflow_add-result c = omega (arith, c.requires, positions_few c.args.self.now, c.saturating_sub.ensures)

pub returns : goal.returns
returns c =
    let geo = c.args.self.now in
    let far : most_blocks geo < c.args.position = omega (arith, c.if-position-most.false, c.if-position-most-2.false, c.most_blocks-most.ensures.count) in
    ap (λ n. 268 + 256 * n) (c.saturating_sub.ensures ∙ ap (λ n. c.args.position - (n + 2)) c.most_blocks-most.ensures.count)
    ∙ sym (first_behind geo c.args.position far)
