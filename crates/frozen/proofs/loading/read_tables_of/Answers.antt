-- A sound inode has no tables but those up to the end, and one that is not sound has none.
use Rattle.std.proofs.Common.{◌≡◌, ◌+◌, sym, ap, ap₂, ◌∙◌, subst, arith}
use Rattle.model.specs.Layout.{Geometry}
use Rattle.model.specs.View.{Inode}
use Rattle.model.specs.Shape.{most_blocks, tables}
use Rattle.model.specs.Uses.{blocks_of}
use Rattle.frozen.specs.Kept.{frozen_view}
use Rattle.frozen.specs.Loading.{AreBlocksOf}
use Rattle.device.proofs.ReadingLemmas.{reads_on}
use Rattle.frozen.proofs.ClaimLemmas.{more_of_more, inode_stays}
use Rattle.frozen.proofs.KeepingLemmas.{one_table_more, all_tables_of, no_tables_of}
use Rattle.frozen.proofs.KindLemmas.{no_tables_known}
use Rattle.frozen.proofs.loading.read_tables_of.Goals as goal

pub returns-then-not-may_have_tables-clause-tables : goal.returns-then-not-may_have_tables-clause-tables
returns-then-not-may_have_tables-clause-tables g c =
    let kept = c.args.held.now in
    no_tables_known kept c.args.number (c.may_have_tables.ensures kept.geometry (frozen_view kept) c.requires.known c.if-not-may_have_tables.true)

pub returns-then-not-is_sound_at-clause-tables : goal.returns-then-not-is_sound_at-clause-tables
returns-then-not-is_sound_at-clause-tables g c = no_tables_of c.args.held.now c.args.number (sym c.is_sound_at.ensures ∙ c.if-not-is_sound_at.true)

pub loop-position-preserved : goal.loop-position-preserved
loop-position-preserved g c =
    let i = c.loop-position.invariant in
    let step = c.in_ok-keep_claimed.ensures in
    record {
      frame = step.frame i.frame;
      more = more_of_more c.args.held.now c.loop-position.held c.keep_claimed.new.held i.more step.more;
      tables = one_table_more c.loop-position.held c.keep_claimed.new.held i.frame step.more c.args.number c.loop-position.position i.tables step.claim;
      blocks = λ honest are.
          subst (AreBlocksOf c.keep_claimed.new.held.blocks) i.reads.same (step.blocks honest (subst (AreBlocksOf c.loop-position.held.blocks) (sym i.reads.same) (i.blocks (step.reads.honest honest) are)));
      reads = reads_on i.reads step.reads;
      failures = step.failures ∙ i.failures;
    }

pub returns-clause-tables : goal.returns-clause-tables
returns-clause-tables g c =
    let i = c.loop-position.invariant in
    let last : c.loop-position.position ≡ c.tables_end-position-end.result = omega arith in
    let blocks = c.blocks-2.ensures ∙ ap (λ (r : Inode). blocks_of r.size) (inode_stays c.args.held.now c.loop-position.held c.requires.frame i.more c.args.number) in
    all_tables_of c.loop-position.held c.args.number c.loop-position.position
    (last ∙ c.tables_end-position-end.ensures.end ∙ ap₂ (λ geo n. most_blocks geo + tables n) (c.geometry-geometry.ensures.geometry ∙ sym i.more.geometry) blocks) i.tables
