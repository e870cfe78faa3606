-- The tables of a file stand one behind the other, and those that come with a block are as many as there are more.
use Rattle.std.proofs.Common.{arith}
use Rattle.model.proofs.Shape.{new_few, numbers, tables_grow}
use Rattle.live_places.proofs.rooms.new_tables.Goals as goal

pub overflow_add-before : goal.overflow_add-before
overflow_add-before c = let small = (numbers c.args.geometry.now).1 in omega (arith, c.requires, small.most, small.few)

pub overflow_sub-result : goal.overflow_sub-result
overflow_sub-result c = omega (arith, c.tables_end.ensures.end, c.tables_end-2.ensures.end, tables_grow c.args.geometry.now c.args.before c.requires)

pub returns-clause-count : goal.returns-clause-count
returns-clause-count c = omega (arith, c.tables_end.ensures.end, c.tables_end-2.ensures.end, tables_grow c.args.geometry.now c.args.before c.requires)

pub returns-clause-few : goal.returns-clause-few
returns-clause-few c =
    omega (arith, c.tables_end.ensures.end, c.tables_end-2.ensures.end, tables_grow c.args.geometry.now c.args.before c.requires, new_few c.args.geometry.now c.args.before c.requires)
