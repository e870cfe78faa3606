-- One directory after another is added where it does not have its parent.
use Rattle.std.proofs.Common.{◌≡◌, ap, sym, ◌∙◌, subst, arith}
use Rattle.std.specs.Option.{option_copied}
use Rattle.std.specs.Vec.{vec_items}
use Rattle.model.specs.Growth.{Adds}
use Rattle.phase_names.specs.Entries.{AtBelow, IsWithoutParent, has_parent}
use Rattle.phase_names.proofs.StepLemmas.{none_without_next, with_next, without_next}
use Rattle.phase_names.proofs.whole.add_without_parent.Goals as goal
use Rattle.phase_names.proofs.whole.add_without_parent.Goals.{in-Some+then-not-has_parent+in_ok-push, in-Some+else-not-has_parent, in_default}

pub loop-directory-preserved : goal.loop-directory-preserved
loop-directory-preserved c =
    let table = c.args.whole.now in
    let reached = c.args.reached.now in
    let held = c.args.held.now.keys in
    let d = c.loop-directory.directory in
    elim c.match-reached.branch [
      | in-Some+then-not-has_parent+in_ok-push w ↦
          without_next table reached held d w.in-Some.look.now c.args.found.now.items c.loop-directory.found.items c.match-reached.found.items
          (sym c.reached.ensures ∙ ap option_copied w.in-Some.is)
          (ap (has_parent held d) (sym w.parent.ensures) ∙ sym w.has_parent.ensures ∙ w.if-not-has_parent.true)
          (ap vec_items w.found-is ∙ w.in_ok-push.ensures.items) c.loop-directory.invariant
      | in-Some+else-not-has_parent w ↦
          with_next table reached held d w.in-Some.look.now c.args.found.now.items c.loop-directory.found.items c.match-reached.found.items
          (sym c.reached.ensures ∙ ap option_copied w.in-Some.is)
          (ap (has_parent held d) (sym w.parent.ensures) ∙ sym w.has_parent.ensures ∙ w.if-not-has_parent.false)
          (ap vec_items w.found-is) c.loop-directory.invariant
      | in_default w ↦
          none_without_next table reached held d c.args.found.now.items c.loop-directory.found.items c.match-reached.found.items
          (sym c.reached.ensures ∙ ap option_copied w.in_default.is) (ap vec_items w.found-is) c.loop-directory.invariant
    ]

pub returns : goal.returns
returns c =
    let all : c.loop-directory.directory ≡ c.args.inodes = omega arith in
    subst (λ n. Adds (AtBelow (IsWithoutParent c.args.whole.now c.args.reached.now c.args.held.now.keys) n) c.args.found.now.items c.loop-directory.found.items) all c.loop-directory.invariant
