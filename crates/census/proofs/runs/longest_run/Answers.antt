use Rattle.std.proofs.Common.{◌+◌, max, sym, ap, ◌∙◌, subst, arith}
use Rattle.frozen.specs.Kept.{frozen_view}
use Rattle.model.specs.Layout.{block_count}
use Rattle.census.proofs.RunLemmas.{EndsRun, IsLongestBelow, longest_of, longest_of_all, run_ends, runs_on}
use Rattle.census.proofs.runs.longest_run.Goals.{then-is_free_block, else-is_free_block}
use Rattle.census.proofs.runs.longest_run.Goals as goal

pub loop-address-preserved : goal.loop-address-preserved
loop-address-preserved c =
    let geo = c.args.frozen.now.geometry in
    let view = frozen_view c.args.frozen.now in
    let n = c.loop-address.address in
    let before = c.loop-address.invariant in
    let ends : EndsRun geo view (n + 1) c.if-is_free_block.run = elim c.if-is_free_block.branch [
      | then-is_free_block w ↦ subst (EndsRun geo view (n + 1)) (sym w.run-is) (runs_on geo view n c.loop-address.run (sym c.is_free_block.ensures ∙ w.if-is_free_block.true) before.ends)
      | else-is_free_block w ↦ subst (EndsRun geo view (n + 1)) (sym w.run-is) (run_ends geo view n (sym c.is_free_block.ensures ∙ w.if-is_free_block.false))
    ] in
    let longest : IsLongestBelow geo view (n + 1) (max c.loop-address.longest c.if-is_free_block.run) = longest_of geo view n c.loop-address.longest c.if-is_free_block.run before.longest ends in
    record {
      ends = ends;
      longest = subst (IsLongestBelow geo view (n + 1)) (sym c.longer-longest.ensures) longest;
    }

pub returns : goal.returns
returns c =
    let geo = c.args.frozen.now.geometry in
    let count = c.blocks-address-end.ensures.count ∙ ap block_count c.geometry.ensures.geometry in
    longest_of_all geo (frozen_view c.args.frozen.now) c.geometry.ensures.frame.geometry c.loop-address.address c.loop-address.longest (omega (arith, count, c.loop-address-test.false)) c.loop-address.invariant.longest
