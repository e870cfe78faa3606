use Rattle.std.proofs.Common.{◌≡◌, ◌≤◌, ◌+◌, arith}
use Rattle.model.specs.Shape.{most_blocks, tables}
use Rattle.layout.proofs.TablePlaces.{tables_inside, positions_few}
use Rattle.layout.proofs.geometry.Geometry.tables_end.Goals as goal

pub overflow_add-result : goal.overflow_add-result
overflow_add-result c = omega (arith, tables_inside c.args.self.now c.args.blocks c.requires, positions_few c.args.self.now, c.most_blocks.ensures.count, c.tables.ensures)

pub returns-clause-inside : goal.returns-clause-inside
returns-clause-inside c = omega (arith, tables_inside c.args.self.now c.args.blocks c.requires, c.most_blocks.ensures.count, c.tables.ensures)

pub returns-clause-few : goal.returns-clause-few
returns-clause-few c = omega (arith, tables_inside c.args.self.now c.args.blocks c.requires, positions_few c.args.self.now, c.most_blocks.ensures.count, c.tables.ensures)
