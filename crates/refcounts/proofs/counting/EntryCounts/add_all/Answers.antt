use Rattle.std.proofs.Common.{◌∙◌}
use Rattle.refcounts.proofs.CountLemmas.{counted_none, counted_next}
use Rattle.refcounts.proofs.counting.EntryCounts.add_all.Goals as goal

pub loop-number-init : goal.loop-number-init
loop-number-init c = record { all = cc; counted = λ _. counted_none c.args.geometry.now c.args.group c.args.self.now; fits = λ fits. fits }

pub loop-number-preserved : goal.loop-number-preserved
loop-number-preserved c =
    let i = c.loop-number.invariant in
    record {
      all = c.add.ensures.length ∙ i.all;
      counted = λ places. counted_next c.args.geometry.now c.args.group c.args.numbers.now c.args.self.now c.loop-number.self c.add.new.self c.loop-number.number-index
          c.loop-number-test.true (i.counted places) (c.add.ensures.counted (i.all ∙ places));
      fits = λ _. c.add.ensures.counts;
    }
