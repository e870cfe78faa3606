use Rattle.std.proofs.Common.{subst, sym}
use Rattle.std.specs.Arc.{arc_value}
use Rattle.ordering.specs.Cuts.{cell_of}
use Rattle.updates.specs.declared.change.Change.{Change}
use Rattle.updates.specs.Values.{change}
use Rattle.updates.specs.Places.{IsCell}
use Rattle.updates.specs.Alone.{IsPutInto}
use Rattle.updates.proofs.CellPuts.{given_put}
use Rattle.updates.proofs.change.Change.whole.Goals as goal

pub returns-in-SetBytes : goal.returns-in-SetBytes
returns-in-SetBytes c = λ geo ok cell old.
    let new = arc_value c.in-SetBytes.bytes in
    let P : Change → Type 0 = λ s. IsCell geo (cell_of (change s)) → IsPutInto geo (change s) old new in
    subst P (sym c.in-SetBytes.is) (λ t. given_put geo ok old new c.in-SetBytes.field-0 t) cell
