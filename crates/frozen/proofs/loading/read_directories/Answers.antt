use Rattle.std.proofs.Common.{sym, ap, ◌∙◌, subst, arith}
use Rattle.model.specs.Layout.{Geometry, inode_count}
use Rattle.frozen.specs.Loading.{AreBlocksOf}
use Rattle.device.proofs.ReadingLemmas.{reads_on}
use Rattle.frozen.proofs.ClaimLemmas.{more_of_more, all_tables_stay}
use Rattle.frozen.proofs.KeepingLemmas.{one_directory_more, all_directories}
use Rattle.frozen.proofs.KindLemmas.{kinds_kept}
use Rattle.frozen.proofs.loading.read_directories.Goals as goal

pub read_directory-requires-clause-known : goal.read_directory-requires-clause-known
read_directory-requires-clause-known g c =
    kinds_kept c.args.held.now c.loop-number.held c.geometry.ensures.frame c.loop-number.invariant.more c.args.kinds.now c.requires.known

pub loop-number-preserved : goal.loop-number-preserved
loop-number-preserved g c =
    let i = c.loop-number.invariant in
    let step = c.in_ok-read_directory.ensures in
    record {
      frame = step.frame;
      more = more_of_more c.args.held.now c.loop-number.held c.read_directory.new.held i.more step.more;
      tables = all_tables_stay c.loop-number.held c.read_directory.new.held i.frame step.more i.tables;
      directories = one_directory_more c.loop-number.held c.read_directory.new.held i.frame step.more i.tables c.loop-number.number i.directories step.directory;
      blocks = λ honest are.
          subst (AreBlocksOf c.read_directory.new.held.blocks) i.reads.same (step.blocks honest (subst (AreBlocksOf c.loop-number.held.blocks) (sym i.reads.same) (i.blocks (step.reads.honest honest) are)));
      reads = reads_on i.reads step.reads;
      failures = step.failures ∙ i.failures;
    }

pub returns-clause-metadata : goal.returns-clause-metadata
returns-clause-metadata g c =
    let i = c.loop-number.invariant in
    all_directories c.loop-number.held c.loop-number.number
    (ap (λ (geo : Geometry). inode_count geo) (i.more.geometry ∙ sym c.geometry.ensures.geometry) ∙ sym c.inodes-number-end.ensures.count ∙ omega (arith, c.loop-number-test.false)) i.frame i.tables i.directories
