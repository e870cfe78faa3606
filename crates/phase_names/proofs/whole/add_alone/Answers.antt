-- One directory after another adds what is found of it alone.
use Rattle.std.proofs.Common.{◌≡◌, ap, sym, ◌∙◌, subst, arith, Contains}
use Rattle.std.specs.Option.{option_copied}
use Rattle.std.specs.Vec.{vec_items}
use Rattle.model.specs.Growth.{Adds}
use Rattle.phase_names.specs.Entries.{AtBelow, IsFoundAlone}
use Rattle.phase_names.proofs.StepLemmas.{alone_next, none_alone_next}
use Rattle.phase_names.proofs.whole.add_alone.Goals as goal
use Rattle.phase_names.proofs.whole.add_alone.Goals.{in-Some+in_ok-add_all, in_default}

pub loop-directory-preserved : goal.loop-directory-preserved
loop-directory-preserved c =
    let table = c.args.whole.now in
    let reached = c.args.reached.now in
    let d = c.loop-directory.directory in
    elim c.match-reached.branch [
      | in-Some+in_ok-add_all w ↦
          alone_next table reached d w.in-Some.look.now w.findings.result.now.keys c.args.found.now.items c.loop-directory.found.items c.match-reached.found.items
          (sym c.reached.ensures ∙ ap option_copied w.in-Some.is) w.findings.ensures c.loop-directory.invariant
          (subst (λ xs. Adds (Contains w.findings.result.now.keys) c.loop-directory.found.items xs) (sym (ap vec_items w.found-is)) w.in_ok-add_all.ensures)
      | in_default w ↦
          none_alone_next table reached d c.args.found.now.items c.loop-directory.found.items c.match-reached.found.items
          (sym c.reached.ensures ∙ ap option_copied w.in_default.is) (ap vec_items w.found-is) c.loop-directory.invariant
    ]

pub returns : goal.returns
returns c =
    let all : c.loop-directory.directory ≡ c.args.inodes = omega arith in
    subst (λ n. Adds (AtBelow (IsFoundAlone c.args.whole.now c.args.reached.now) n) c.args.found.now.items c.loop-directory.found.items) all c.loop-directory.invariant
