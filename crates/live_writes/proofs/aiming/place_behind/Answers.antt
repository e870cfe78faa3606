-- One block is needed, and others for the tables that come with it, and there are fewer.
use Rattle.std.proofs.Common.{◌≡◌, ◌<◌, length, sym, ap, ◌∙◌, subst, arith}
use Rattle.std.proofs.lemmas.Result.{err_from_is_err_and}
use Rattle.model.specs.Layout.{Geometry}
use Rattle.model.specs.Shape.{most_blocks, new_tables}
use Rattle.frozen.specs.Kept.{Kept, frozen_view}
use Rattle.live_places.proofs.FreeCounts.{none_below}
use Rattle.live_places.proofs.NextBlocks.{next_choice}
use Rattle.live_writes.proofs.aiming.place_behind.Goals as goal

-- what the geometry says
held_there : {kept held : Kept} {geo : Geometry} → geo ≡ held.geometry → held ≡ kept → geo ≡ kept.geometry
held_there e f = e ∙ ap (λ (k : Kept). k.geometry) f

pub returns-in_err-block-clause-refused : goal.returns-in_err-block-clause-refused
returns-in_err-block-clause-refused c =
    let kept = c.args.metadata.now in
    let p = err_from_is_err_and c.from_residual.result c.from_residual.ensures.1 in
    rw (p.1, p.2) (c.in_err-block.ensures.none.0, omega (arith, c.in_err-block.ensures.none.1, none_below kept.geometry (frozen_view kept)))

pub new_tables-count-requires : goal.new_tables-count-requires
new_tables-count-requires c = subst (λ (g : Geometry). c.args.index < most_blocks g) (sym (held_there c.geometry.ensures.geometry c.frozen.ensures.same)) c.requires

pub returns-in_err-tables-clause-refused : goal.returns-in_err-tables-clause-refused
returns-in_err-tables-clause-refused c =
    let kept = c.args.metadata.now in
    let many = c.new_tables-count.ensures.count ∙ ap (λ (g : Geometry). length (new_tables g c.args.index)) (held_there c.geometry.ensures.geometry c.frozen.ensures.same) in
    let p = err_from_is_err_and c.from_residual-in_err-tables.result c.from_residual-in_err-tables.ensures.1 in
    rw (p.1, p.2) (c.in_err-tables.ensures.too_few.0, omega (arith, many, c.in_ok-block.ensures.taken.more, c.in_err-tables.ensures.too_few.1, none_below kept.geometry (frozen_view kept)))

pub returns-clause-placed : goal.returns-clause-placed
returns-clause-placed c =
    let kept = c.args.metadata.now in
    let many = c.new_tables-count.ensures.count ∙ ap (λ (g : Geometry). length (new_tables g c.args.index)) (held_there c.geometry.ensures.geometry c.frozen.ensures.same) in
    λ holdings file next. (
      next,
      next_choice kept.geometry (frozen_view kept) 0 c.args.index c.in_ok-block.block c.in_ok-tables.tables c.in_ok-block.ensures.taken.next (c.in_ok-tables.ensures.count ∙ many) c.in_ok-tables.ensures.taken,
    )

pub returns-clause-enough : goal.returns-clause-enough
returns-clause-enough c =
    let kept = c.args.metadata.now in
    let many = c.new_tables-count.ensures.count ∙ ap (λ (g : Geometry). length (new_tables g c.args.index)) (held_there c.geometry.ensures.geometry c.frozen.ensures.same) in
    omega (arith, many, c.in_ok-block.ensures.taken.more, c.in_ok-tables.ensures.enough)
