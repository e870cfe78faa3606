-- The last index of a file, and the tables that come with a block, by the version of the layout.
use Rattle.std.proofs.Common.{◌≡◌, ℕ, refl, arith, Some, codes}
use Rattle.std.proofs.lemmas.Bool.{le-leb}
use Rattle.model.specs.View.{new_file}
use Rattle.model.specs.Shape.{most_blocks, position_count, table_of, first_block, above}
use Rattle.model.proofs.Shape.{numbers}
use Rattle.layout.specs.declared.refusal.Refusal.TheVariants.{TooBig, BadIndex}
use Rattle.machine.specs.Command.{Write}
use Rattle.machine.specs.Causes.{causes, refusal_of}
use Rattle.machine.specs.Room.{blocks_to_append}
use Rattle.machine.specs.Rows.{small_of, with_empty_file}

pub first_of_one : refusal_of (small_of 1) with_empty_file (Write 0 268 (codes "abc")) ≡ Some TooBig
unfolding causes most_blocks
first_of_one = refl

pub first_of_two : refusal_of (small_of 2) with_empty_file (Write 0 268 (codes "abc")) ≡ Some BadIndex
unfolding causes most_blocks
first_of_two = refl

pub last_of_each : (version : ℕ) → refusal_of (small_of version) with_empty_file (Write 0 65804 (codes "abc")) ≡ Some TooBig
unfolding causes
last_of_each version = let num = (numbers (small_of version)).1 in rw (le-leb (most_blocks (small_of version)) 65804 (omega (arith, num.most, num.few))) refl

pub three_blocks : blocks_to_append (small_of 2) (record new_file { size = 274432 }) ≡ 3
unfolding most_blocks position_count table_of first_block above
three_blocks = refl

pub two_blocks : blocks_to_append (small_of 2) (record new_file { size = 536576 }) ≡ 2
unfolding most_blocks position_count table_of first_block above
two_blocks = refl
