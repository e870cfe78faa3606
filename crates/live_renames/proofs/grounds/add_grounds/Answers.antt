-- The walk is gone along from the root.
use Rattle.std.proofs.Common.{◌≡◌, Ok, ap, map, subst, sym, ◌∙◌, ◌∷◌}
use Rattle.frozen.specs.Kept.{frozen_view}
use Rattle.model.specs.Layout.{root}
use Rattle.machine.specs.Paths.{walk}
use Rattle.updates.specs.Values.{cell}
use Rattle.live_renames.specs.Gathered.{IsGrounded}
use Rattle.live_renames.proofs.GroundLemmas.{gathers_both, root_grounded, some_same, walk_directory, walk_end, walk_none, walk_step}
use Rattle.live_renames.proofs.grounds.add_grounds.Goals as goal

pub unreachable-requires : goal.unreachable-requires
unreachable-requires c =
    let kept = c.args.frozen.now in
    walk_none kept.geometry (frozen_view kept) c.args.path.now root c.requires.0 c.in_default.ensures.parts c.requires.1

pub add_directory-requires : goal.add_directory-requires
add_directory-requires c =
    let kept = c.args.frozen.now in
    walk_directory kept.geometry (frozen_view kept) c.args.path.now root c.requires.0 c.requires.1

pub parts-init : goal.parts-init
parts-init c =
    let kept = c.args.frozen.now in (
      ap (walk kept.geometry (frozen_view kept) root) c.in-Some.ensures.parts,
      c.in-Some.ensures.part,
      c.in_ok-add_directory.ensures.gathers,
      root_grounded kept.geometry (frozen_view kept) (map cell c.args.cells.now.items) (map cell c.add_directory.new.cells.items) (walk_directory kept.geometry (frozen_view kept) c.args.path.now root c.requires.0 c.requires.1)
          c.in_ok-add_directory.ensures.directory c.in_ok-add_directory.ensures.only,
    )

pub returns-in_default-split_first-clause-grounds : goal.returns-in_default-split_first-clause-grounds
returns-in_default-split_first-clause-grounds c = λ d way.
    let kept = c.args.frozen.now in
    let view = frozen_view kept in
    let name = c.parts.name.now in
    let end = sym (ap (λ ps. walk kept.geometry view c.parts.directory (name ∷ ps)) c.in_default-split_first.ensures.parts) ∙ sym c.parts.invariant.0 ∙ way in
    subst (λ e. IsGrounded kept.geometry view e (map cell c.args.cells.now.items) (map cell c.parts.cells.items)) (walk_end kept.geometry view name c.parts.directory d end) c.parts.invariant.3

pub add_name-requires-clause-named : goal.add_name-requires-clause-named
add_name-requires-clause-named c =
    let kept = c.args.frozen.now in
    let view = frozen_view kept in
    let name = c.parts.name.now in
    let next = c.in-Some-split_first.next.now in
    let behind = c.in-Some-split_first.behind in
    let way = sym (ap (λ ps. walk kept.geometry view c.parts.directory (name ∷ ps)) c.in-Some-split_first.ensures.parts) ∙ sym c.parts.invariant.0 ∙ c.requires.1 in
    let step = walk_step kept.geometry view name next behind c.parts.directory c.requires.0 way in
    (step.0, step.1, walk_directory kept.geometry view (next ∷ behind) step.0 c.requires.0 step.2)

pub parts-preserved : goal.parts-preserved
parts-preserved c =
    let kept = c.args.frozen.now in
    let view = frozen_view kept in
    let name = c.parts.name.now in
    let next = c.in-Some-split_first.next.now in
    let behind = c.in-Some-split_first.behind in
    let way = sym (ap (λ ps. walk kept.geometry view c.parts.directory (name ∷ ps)) c.in-Some-split_first.ensures.parts) ∙ sym c.parts.invariant.0 ∙ c.requires.1 in
    let step = walk_step kept.geometry view name next behind c.parts.directory c.requires.0 way in
    let here = some_same step.0 c.in_ok-directory.directory (sym step.1 ∙ c.in_ok-directory.ensures.names) in (
      c.requires.1 ∙ sym (subst (λ i. walk kept.geometry view i (next ∷ behind) ≡ Ok c.requires.0) here step.2),
      c.in-Some-split_first.ensures.part,
      gathers_both kept.geometry _ (map cell c.parts.cells.items) _ c.parts.invariant.2 c.in_ok-directory.ensures.gathers,
      c.in_ok-directory.ensures.grounds (map cell c.args.cells.now.items) c.parts.invariant.3,
    )
