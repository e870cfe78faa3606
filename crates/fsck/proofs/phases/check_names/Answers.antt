use Rattle.std.proofs.Common.{rules, ◌++◌, ◌∷◌, [], length, subst, sym, ap, ◌∙◌, append_assoc}
use Rattle.std.proofs.lemmas.Result.{IfOk-weaker}
use Rattle.frozen.specs.Kept.{frozen_view}
use Rattle.model.specs.Layout.{inode_count}
use Rattle.directories.specs.Pieces.{Numbers, between}
use Rattle.directories.proofs.PieceLemmas.{none_between, reach}
use Rattle.phase_names.specs.Told.{IsPart}
use Rattle.fsck.proofs.PartLemmas.{one_more, all_taken}
use Rattle.fsck.proofs.phases.check_names.Goals as goal

pub loop-part-init : goal.loop-part-init
loop-part-init c =
    let geo = c.args.frozen.now.geometry in
    let view = frozen_view c.args.frozen.now in
    record {
      rest = search rules;
      whole = λ are. subst (λ (numbers : Numbers). IsPart geo view numbers c.new-whole.result) none_between (c.new-whole.ensures.part geo view);
    }

pub loop-part-preserved : goal.loop-part-preserved
loop-part-preserved c =
    let geo = c.args.frozen.now.geometry in
    let view = frozen_view c.args.frozen.now in
    let taken = c.loop-part.yielded in
    let all = ap (λ ps. taken ++ ps) (sym c.in-Some.ensures.steps.0) ∙ c.loop-part.invariant.rest in
    record {
      rest = append_assoc taken (c.in-Some.part ∷ []) c.next.new.self.rest.items ∙ all;
      whole = λ are. one_more (IsPart geo view) (inode_count geo) c.args.parts.items taken c.in-Some.part c.next.new.self.rest.items c.loop-part.whole c.in_ok-whole.whole are all
          (c.loop-part.invariant.whole are) (λ numbers others. c.in_ok-whole.ensures.merged geo view numbers others);
    }

pub returns-clause-findings : goal.returns-clause-findings
returns-clause-findings c =
    let geo = c.args.frozen.now.geometry in
    let view = frozen_view c.args.frozen.now in
    let every = all_taken (IsPart geo view) geo c.args.parts.items c.loop-part.yielded c.loop-part.part-iterator.rest.items c.requires c.loop-part.invariant.rest (sym c.loop-part.part-iterator.rest.ok.0 ∙ c.in-None.ensures.steps.0) in
    IfOk-weaker c.finish.result _ _ (λ found told. told (between 0 (reach (length c.loop-part.yielded) 0 c.requires.pieces)) (c.loop-part.invariant.whole c.requires) every) c.finish.ensures.found
