-- A block that a snapshot keeps needs one more, and there is none.
use Rattle.std.proofs.Common.{◌≡◌, Bool, true, ltb, cond, sym, ap, ap₂, ◌∙◌, arith}
use Rattle.std.proofs.lemmas.Bool.Decides.{nat_tests}
use Rattle.std.specs.Prelude.{unwrap_or}
use Rattle.std.proofs.lemmas.Result.{err_from_is_err_and}
use Rattle.model.specs.Uses.{claim_at}
use Rattle.frozen.specs.Kept.{Kept, frozen_view}
use Rattle.live_places.proofs.FreeCounts.{none_below}
use Rattle.live_states.specs.Holdings.{is_kept_by}
use Rattle.live_writes.specs.Aimed.{block_count_of, blocks_behind, blocks_needed}
use Rattle.live_writes.proofs.aiming.place_over.Goals as goal

pub returns-in_err-block-clause-refused : goal.returns-in_err-block-clause-refused
returns-in_err-block-clause-refused c =
    let kept = c.args.metadata.now in
    let holdings = c.args.holdings.now in
    let i = c.args.file in
    let k = c.args.index in
    let p = err_from_is_err_and c.from_residual.result c.from_residual.ensures.1 in
    let inside : ltb k (block_count_of kept i) ≡ true = grind (arith, nat_tests, c.requires.inside) in
    let block = ap (λ o. unwrap_or o 0) (sym c.claim_at.ensures ∙ c.in-Some.is) in
    let keeps : is_kept_by holdings c.in-Some.old ≡ true = sym c.keeps.ensures ∙ c.if-not-keeps.false in
    let one : blocks_needed kept holdings i k ≡ 1 =
    ap₂ (λ (t u : Bool). cond t (cond u 1 0) (blocks_behind kept.geometry (block_count_of kept i))) inside (ap (is_kept_by holdings) (ap (λ (f : Kept). unwrap_or (claim_at f.geometry (frozen_view f) i k) 0) (sym c.frozen.ensures.same) ∙ block) ∙ keeps) in
    rw (p.1, p.2) (c.in_err-block.ensures.none.0, omega (arith, one, c.in_err-block.ensures.none.1, none_below kept.geometry (frozen_view kept)))
