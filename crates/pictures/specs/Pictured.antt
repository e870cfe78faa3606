-- A picture as its geometry and its cells, one for each block, by address.
use Rattle.std.specs.Prelude.{List}
use Rattle.model.specs.Layout.{Geometry}
use Rattle.pictures.specs.declared.uses.Use.{Use}

pub record Pictured : Type 0 where
  pub geometry : Geometry
  pub cells : List Use
