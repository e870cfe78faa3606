-- Each turn adds the cell of its address.
use Rattle.std.proofs.Common.{ℕ, [], ◌∷◌, length, List, sym, ap, ◌∙◌, subst, arith, length-append}
use Rattle.std.specs.List.{HoldsAt}
use Rattle.frozen.specs.Kept.{frozen_view}
use Rattle.pictures.specs.Uses.{IsUsedBy}
use Rattle.pictures.specs.Walk.{claims_before}
use Rattle.pictures.specs.declared.uses.Use.{Use}
use Rattle.pictures.proofs.WalkLemmas.{one_more}
use Rattle.pictures.proofs.claiming.unclaimed_cells.Goals as goal

pub loop-address-preserved : goal.loop-address-preserved
loop-address-preserved c =
    let geo = c.args.frozen.now.geometry in
    let view = frozen_view c.args.frozen.now in
    let told = λ (a : ℕ). IsUsedBy geo view (claims_before geo view 0 0 a) a in
    let items = c.in_ok-push.ensures.items in
    let each = one_more told c.loop-address.address c.loop-address.cells.items c.unclaimed.result c.loop-address.invariant.count c.loop-address.invariant.each c.unclaimed.ensures in
    record {
      count = ap length items ∙ omega (arith, length-append c.loop-address.cells.items (c.unclaimed.result ∷ []), c.loop-address.invariant.count);
      each = λ a low. subst (λ (cells : List Use). HoldsAt (told a) cells a) (sym items) (each a low);
    }
