use Rattle.std.proofs.Common.{◌-◌, ◌/◌, ◌+◌, rules, ◌∙◌}
use Rattle.model.specs.Shape.{tables}
use Rattle.layout.proofs.geometry.tables.Goals as goal

pub returns-then-blocks : goal.returns-then-blocks
unfolding tables
returns-then-blocks c = search rules

pub returns-then-blocks-le-SINGLE_BLOCKS : goal.returns-then-blocks-le-SINGLE_BLOCKS
unfolding tables
returns-then-blocks-le-SINGLE_BLOCKS c = search rules

pub returns-else-blocks-le-SINGLE_BLOCKS : goal.returns-else-blocks-le-SINGLE_BLOCKS
unfolding tables
returns-else-blocks-le-SINGLE_BLOCKS c = search rules
