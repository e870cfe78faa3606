use Rattle.std.proofs.Common.{sym, ap, ◌∙◌, subst, arith}
use Rattle.model.specs.Layout.{Geometry, inode_count}
use Rattle.frozen.specs.Loading.{AreBlocksOf}
use Rattle.device.proofs.ReadingLemmas.{reads_on}
use Rattle.frozen.proofs.ClaimLemmas.{more_of_more}
use Rattle.frozen.proofs.KeepingLemmas.{one_inode_more, all_tables}
use Rattle.frozen.proofs.KindLemmas.{kinds_kept}
use Rattle.frozen.proofs.loading.read_tables.Goals as goal

pub read_tables_of-requires-clause-known : goal.read_tables_of-requires-clause-known
read_tables_of-requires-clause-known g c =
    kinds_kept c.args.held.now c.loop-number.held c.geometry.ensures.frame c.loop-number.invariant.more c.args.kinds.now c.requires.known

pub loop-number-preserved : goal.loop-number-preserved
loop-number-preserved g c =
    let i = c.loop-number.invariant in
    let step = c.in_ok-read_tables_of.ensures in
    record {
      frame = step.frame;
      more = more_of_more c.args.held.now c.loop-number.held c.read_tables_of.new.held i.more step.more;
      tables = one_inode_more c.loop-number.held c.read_tables_of.new.held i.frame step.more c.loop-number.number i.tables step.tables;
      blocks = λ honest are.
          subst (AreBlocksOf c.read_tables_of.new.held.blocks) i.reads.same (step.blocks honest (subst (AreBlocksOf c.loop-number.held.blocks) (sym i.reads.same) (i.blocks (step.reads.honest honest) are)));
      reads = reads_on i.reads step.reads;
      failures = step.failures ∙ i.failures;
    }

pub returns-clause-tables : goal.returns-clause-tables
returns-clause-tables g c =
    let i = c.loop-number.invariant in
    all_tables c.loop-number.held c.loop-number.number
    (ap (λ (geo : Geometry). inode_count geo) (i.more.geometry ∙ sym c.geometry.ensures.geometry) ∙ sym c.inodes-number-end.ensures.count ∙ omega (arith, c.loop-number-test.false)) i.tables
