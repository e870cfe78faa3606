-- Each turn adds what the test says.
use Rattle.std.proofs.Common.{◌≡◌, [], sym, ap, ◌∙◌, arith}
use Rattle.model.specs.Layout.{inode_count}
use Rattle.findings.specs.declared.finding.Finding.TheVariants.{LostInode}
use Rattle.findings.specs.Numbers.{found_below}
use Rattle.findings.proofs.FoundBelow.{found_none, found_more_yes, found_more_no}
use Rattle.frozen.specs.Kept.{frozen_view}
use Rattle.connectivity.specs.Walk.{is_lost_among}
use Rattle.connectivity.proofs.LostLemmas.{lost_found}
use Rattle.connectivity.proofs.lost.findings.Goals as goal
use Rattle.connectivity.proofs.lost.findings.Goals.{then-is_lost+in_ok-push, else-is_lost}

pub loop-number-init : goal.loop-number-init
loop-number-init c =
    c.new-found.ensures.items ∙ found_none [] (is_lost_among c.args.frozen.now.geometry (frozen_view c.args.frozen.now) c.args.reached.now) LostInode

pub loop-number-preserved : goal.loop-number-preserved
loop-number-preserved c =
    let geo = c.args.frozen.now.geometry in
    let view = frozen_view c.args.frozen.now in
    let test = is_lost_among geo view c.args.reached.now in
    elim c.if-is_lost.branch [
      | then-is_lost+in_ok-push w ↦
          found_more_yes [] test LostInode c.loop-number.number c.loop-number.found.items c.if-is_lost.found.items
          c.loop-number.invariant (sym c.is_lost.ensures ∙ w.if-is_lost.true) (cc (w.in_ok-push.ensures.items))
      | else-is_lost w ↦
          found_more_no [] test LostInode c.loop-number.number c.loop-number.found.items c.if-is_lost.found.items
          c.loop-number.invariant (sym c.is_lost.ensures ∙ w.if-is_lost.false) (cc)
    ]

pub returns-clause-found : goal.returns-clause-found
returns-clause-found c = λ reached.
    let geo = c.args.frozen.now.geometry in
    let view = frozen_view c.args.frozen.now in
    let count : c.inodes-inodes.result ≡ inode_count geo = c.inodes-inodes.ensures.count ∙ ap inode_count c.geometry.ensures.geometry in
    let last : c.loop-number.number ≡ inode_count geo = omega (arith, c.loop-number-test.false, c.loop-number.auto.number-end, count) in
    lost_found geo view c.args.reached.now c.loop-number.found.items reached
    (c.loop-number.invariant ∙ ap (λ n. found_below (is_lost_among geo view c.args.reached.now) LostInode n) last)
