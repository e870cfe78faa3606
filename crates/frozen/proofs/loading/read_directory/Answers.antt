use Rattle.std.proofs.Common.{sym, ap, ◌∙◌, subst, arith}
use Rattle.model.specs.View.{Inode}
use Rattle.model.specs.Uses.{blocks_of}
use Rattle.std.proofs.lemmas.Bool.{false≢true}
use Rattle.frozen.specs.Kept.{frozen_view}
use Rattle.frozen.specs.Loading.{AreBlocksOf}
use Rattle.device.proofs.ReadingLemmas.{reads_on}
use Rattle.frozen.proofs.ClaimLemmas.{more_of_more, all_tables_stay, inode_stays}
use Rattle.frozen.proofs.KeepingLemmas.{one_position_more, all_positions}
use Rattle.frozen.proofs.loading.read_directory.Goals as goal

pub returns-then-not-may_be_directory-clause-directory : goal.returns-then-not-may_be_directory-clause-directory
returns-then-not-may_be_directory-clause-directory g c = λ is.
    let kept = c.args.held.now in
    absurd (false≢true (sym (c.may_be_directory.ensures kept.geometry (frozen_view kept) c.requires.known c.if-not-may_be_directory.true) ∙ is))

pub loop-position-preserved : goal.loop-position-preserved
loop-position-preserved g c =
    let i = c.loop-position.invariant in
    let step = c.in_ok-keep_claimed.ensures in
    record {
      frame = step.frame i.frame;
      more = more_of_more c.args.held.now c.loop-position.held c.keep_claimed.new.held i.more step.more;
      tables = all_tables_stay c.loop-position.held c.keep_claimed.new.held i.frame step.more i.tables;
      positions = one_position_more c.loop-position.held c.keep_claimed.new.held i.frame step.more i.tables c.args.number c.loop-position.position i.positions step.claim;
      blocks = λ honest are.
          subst (AreBlocksOf c.keep_claimed.new.held.blocks) i.reads.same (step.blocks honest (subst (AreBlocksOf c.loop-position.held.blocks) (sym i.reads.same) (i.blocks (step.reads.honest honest) are)));
      reads = reads_on i.reads step.reads;
      failures = step.failures ∙ i.failures;
    }

pub returns-clause-directory : goal.returns-clause-directory
returns-clause-directory g c =
    let i = c.loop-position.invariant in
    let blocks = ap (λ (r : Inode). blocks_of r.size) (inode_stays c.args.held.now c.loop-position.held c.requires.frame i.more c.args.number) in
    all_positions c.loop-position.held c.args.number c.loop-position.position
    (omega (arith, c.loop-position-test.false, c.blocks-position-end.ensures, blocks)) i.tables i.positions
