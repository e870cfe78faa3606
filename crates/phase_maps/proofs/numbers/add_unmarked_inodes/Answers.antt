-- Each turn adds what the test says.
use Rattle.std.proofs.Common.{◌≡◌, ◌++◌, sym, ap, ◌∙◌, arith}
use Rattle.model.specs.Layout.{inode_count}
use Rattle.findings.specs.declared.finding.Finding.TheVariants.{UnmarkedInode}
use Rattle.findings.specs.Numbers.{is_unmarked_number, unmarked_below}
use Rattle.findings.proofs.FoundBelow.{found_none, found_more_yes, found_more_no}
use Rattle.frozen.specs.Kept.{frozen_view}
use Rattle.phase_maps.proofs.numbers.add_unmarked_inodes.Goals as goal
use Rattle.phase_maps.proofs.numbers.add_unmarked_inodes.Goals.{then-is_unmarked+in_ok-push, else-is_unmarked}

pub loop-number-init : goal.loop-number-init
loop-number-init c = found_none c.args.found.now.items (is_unmarked_number c.args.frozen.now.geometry (frozen_view c.args.frozen.now)) UnmarkedInode

pub loop-number-preserved : goal.loop-number-preserved
loop-number-preserved c =
    let test = is_unmarked_number c.args.frozen.now.geometry (frozen_view c.args.frozen.now) in
    elim c.if-is_unmarked.branch [
      | then-is_unmarked+in_ok-push w ↦
          found_more_yes c.args.found.now.items test UnmarkedInode c.loop-number.number c.loop-number.found.items c.if-is_unmarked.found.items
          c.loop-number.invariant (sym c.is_unmarked.ensures ∙ w.if-is_unmarked.true) (cc (w.in_ok-push.ensures.items))
      | else-is_unmarked w ↦
          found_more_no c.args.found.now.items test UnmarkedInode c.loop-number.number c.loop-number.found.items c.if-is_unmarked.found.items
          c.loop-number.invariant (sym c.is_unmarked.ensures ∙ w.if-is_unmarked.false) (cc)
    ]

pub returns : goal.returns
returns c =
    let geo = c.args.frozen.now.geometry in
    let last : c.loop-number.number ≡ inode_count geo = omega (arith, c.inodes-number-end.ensures.count, ap inode_count c.geometry.ensures.geometry) in
    c.loop-number.invariant ∙ ap (λ n. c.args.found.now.items ++ unmarked_below geo (frozen_view c.args.frozen.now) n) last
