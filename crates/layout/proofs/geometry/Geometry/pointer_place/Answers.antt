use Rattle.std.proofs.Common.{◌≡◌, ◌<◌, ◌≤◌, ◌+◌, ◌-◌, ◌/◌, ◌%◌, sym, ap, ◌∙◌, Some, arith}
use Rattle.model.specs.Shape.{most_blocks}
use Rattle.model.proofs.Shape.{direct_none, place_inside, table_inside}
use Rattle.layout.proofs.TablePlaces.{middle_table, middle_place, deep_table, deep_place, last_table, second_table, second_place}
use Rattle.layout.proofs.geometry.Geometry.pointer_place.Goals as goal

pub returns-then-position-clause-table : goal.returns-then-position-clause-table
returns-then-position-clause-table c = sym (direct_none c.args.self.now c.args.position c.if-position.true)

pub returns-then-position-lt-SINGLE_BLOCKS-clause-table : goal.returns-then-position-lt-SINGLE_BLOCKS-clause-table
returns-then-position-lt-SINGLE_BLOCKS-clause-table c =
    ap Some c.most_blocks-most.ensures.count ∙ sym (middle_table c.args.self.now c.args.position (omega (arith, c.if-position.false)) c.if-position-lt-SINGLE_BLOCKS.true)

pub returns-then-position-lt-SINGLE_BLOCKS-clause-place : goal.returns-then-position-lt-SINGLE_BLOCKS-clause-place
returns-then-position-lt-SINGLE_BLOCKS-clause-place c = sym (middle_place c.args.self.now c.args.position c.if-position-lt-SINGLE_BLOCKS.true)

pub returns-then-position-lt-SINGLE_BLOCKS-clause-inside : goal.returns-then-position-lt-SINGLE_BLOCKS-clause-inside
returns-then-position-lt-SINGLE_BLOCKS-clause-inside c =
    let geo = c.args.self.now in
    let table = middle_table geo c.args.position (omega (arith, c.if-position.false)) c.if-position-lt-SINGLE_BLOCKS.true in
    let inside = table_inside geo c.args.position (most_blocks geo) c.requires table in
    (omega (arith, inside, c.most_blocks-most.ensures.count), omega (arith, c.if-position-lt-SINGLE_BLOCKS.true))

pub returns-then-position-most-clause-table : goal.returns-then-position-most-clause-table
returns-then-position-most-clause-table c =
    let geo = c.args.self.now in
    ap (λ n. Some (n + 2 + (c.args.position - 268) / 256)) c.most_blocks-most.ensures.count
    ∙ sym (deep_table geo c.args.position (omega (arith, c.if-position-lt-SINGLE_BLOCKS.false)) (omega (arith, c.if-position-most.true, c.most_blocks-most.ensures.count)))

pub returns-then-position-most-clause-place : goal.returns-then-position-most-clause-place
returns-then-position-most-clause-place c =
    sym (deep_place c.args.self.now c.args.position (omega (arith, c.if-position-lt-SINGLE_BLOCKS.false)) (omega (arith, c.if-position-most.true, c.most_blocks-most.ensures.count)))

pub returns-then-position-most-clause-inside : goal.returns-then-position-most-clause-inside
returns-then-position-most-clause-inside c =
    let geo = c.args.self.now in
    let k = c.args.position in
    let table = deep_table geo k (omega (arith, c.if-position-lt-SINGLE_BLOCKS.false)) (omega (arith, c.if-position-most.true, c.most_blocks-most.ensures.count)) in
    let inside = table_inside geo k (most_blocks geo + 2 + (k - 268) / 256) c.requires table in
    (omega (arith, inside, c.most_blocks-most.ensures.count), omega arith)

pub returns-then-position-most-2-clause-table : goal.returns-then-position-most-2-clause-table
returns-then-position-most-2-clause-table c =
    sym (last_table c.args.self.now c.args.position (omega (arith, c.if-position-most.false, c.most_blocks-most.ensures.count)) (omega (arith, c.if-position-most-2.true, c.most_blocks-most.ensures.count)))

pub returns-else-position-most-2-clause-table : goal.returns-else-position-most-2-clause-table
returns-else-position-most-2-clause-table c =
    ap (λ n. Some (n + 1)) c.most_blocks-most.ensures.count
    ∙ sym (second_table c.args.self.now c.args.position (omega (arith, c.if-position-most-2.false, c.most_blocks-most.ensures.count)))

pub returns-else-position-most-2-clause-place : goal.returns-else-position-most-2-clause-place
returns-else-position-most-2-clause-place c =
    ap (λ n. c.args.position - (n + 2)) c.most_blocks-most.ensures.count
    ∙ sym (second_place c.args.self.now c.args.position (omega (arith, c.if-position-most-2.false, c.most_blocks-most.ensures.count)))

pub returns-else-position-most-2-clause-inside : goal.returns-else-position-most-2-clause-inside
returns-else-position-most-2-clause-inside c =
    let geo = c.args.self.now in
    let k = c.args.position in
    let past : most_blocks geo + 2 ≤ k = omega (arith, c.if-position-most-2.false, c.most_blocks-most.ensures.count) in
    let table = second_table geo k past in
    let inside = table_inside geo k (most_blocks geo + 1) c.requires table in
    let low = place_inside geo k (most_blocks geo + 1) c.requires table in
    (omega (arith, inside, c.most_blocks-most.ensures.count), omega (arith, low, second_place geo k past, c.most_blocks-most.ensures.count))
