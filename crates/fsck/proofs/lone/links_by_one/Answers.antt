use Rattle.std.proofs.Common.{List, ℕ, sym, ap, ◌∙◌, subst}
use Rattle.model.specs.Layout.{Geometry, inode_count}
use Rattle.directories.specs.Pieces.{AreOfPieces}
use Rattle.fsck.specs.Parts.{are_links_if, are_links_of, is_counts_part}
use Rattle.fsck.proofs.PartLemmas.{made_of_groups, of_units}
use Rattle.fsck.proofs.lone.links_by_one.Goals as goal

pub returns : goal.returns
returns c =
    let kept = c.args.frozen.now in
    let geo = kept.geometry in
    let members = c.args.reached.now in
    let parts = c.as_slice-parts.result.now in
    let each : AreOfPieces (is_counts_part kept members) (inode_count geo) parts =
    subst (λ (ps : List (List (List ℕ))). AreOfPieces (is_counts_part kept members) (inode_count geo) ps) (sym c.as_slice-parts.ensures.value) c.in_ok-parts.ensures.made in
    made_of_groups (λ unit found. are_links_of kept members parts unit found.items) (λ unit found. are_links_if kept members unit found.items) geo.groups c.parts_of_one.result
    (λ unit found low told are. told are each low)
    (of_units (λ unit found. are_links_of kept members parts unit found.items) c.groups.result geo.groups c.parts_of_one.result
    (c.groups.ensures.count ∙ ap (λ (one : Geometry). one.groups) c.geometry.ensures.geometry) c.parts_of_one.ensures)
