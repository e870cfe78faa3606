-- The entry that is found stands in a block of the directory, and what it names has its cells behind.
use Rattle.std.proofs.Common.{◌/◌, map, sym, ◌∙◌}
use Rattle.frozen.specs.Kept.{frozen_view}
use Rattle.model.proofs.UseLemmas.{claim_parts}
use Rattle.updates.specs.Values.{cell}
use Rattle.updates.specs.declared.cell.Cell.TheVariants.{Block}
use Rattle.live_paths.proofs.ShownLemmas.{self_shown}
use Rattle.live_renames.proofs.GroundLemmas.{gathers_both, holds_pushed, lookup_at, lookup_none, named_directory, next_grounded, only_next, pushed, slot_claimed}
use Rattle.live_renames.proofs.grounds.add_name.Goals as goal

pub unreachable-requires : goal.unreachable-requires
unreachable-requires c =
    let kept = c.args.frozen.now in
    lookup_none kept.geometry (frozen_view kept) c.args.directory c.requires.named.0 c.args.name.now (c.in_default.ensures.found (frozen_view kept) (self_shown kept)) c.requires.named.1

pub unreachable-requires-in_default-claim_at : goal.unreachable-requires-in_default-claim_at
unreachable-requires-in_default-claim_at c =
    let kept = c.args.frozen.now in
    slot_claimed kept.geometry (frozen_view kept) c.args.directory c.in-Some.entry.slot c.in-Some.entry.number c.args.name.now (c.in-Some.ensures.entry (frozen_view kept) (self_shown kept)) (sym c.claim_at.ensures ∙ c.in_default-claim_at.is)

pub add_directory-requires : goal.add_directory-requires
add_directory-requires c =
    let kept = c.args.frozen.now in
    let view = frozen_view kept in
    let first = (c.in-Some.ensures.found view (self_shown kept)).0 in
    let good = c.in-Some.ensures.entry view (self_shown kept) in
    named_directory kept.geometry view c.args.directory c.requires.named.0 c.in-Some.entry.number c.args.name.now c.requires.named.1
    (lookup_at kept.geometry view c.args.directory c.in-Some.entry.slot c.in-Some.entry.number c.args.name.now first good) c.requires.named.2

pub returns-clause-names : goal.returns-clause-names
returns-clause-names c =
    let kept = c.args.frozen.now in
    let view = frozen_view kept in
    lookup_at kept.geometry view c.args.directory c.in-Some.entry.slot c.in-Some.entry.number c.args.name.now (c.in-Some.ensures.found view (self_shown kept)).0 (c.in-Some.ensures.entry view (self_shown kept))

pub returns-clause-gathers : goal.returns-clause-gathers
returns-clause-gathers c =
    let kept = c.args.frozen.now in
    let claim = sym c.claim_at.ensures ∙ c.in-Some-claim_at.is in
    gathers_both kept.geometry _ (map cell c.push.new.self.items) _
    (pushed kept.geometry c.args.cells.now.items c.push.new.self.items (Block c.in-Some-claim_at.block) c.in_ok-push.ensures.ok
    (claim_parts kept.geometry (frozen_view kept) c.args.directory (c.in-Some.entry.slot / 16) c.in-Some-claim_at.block claim).1)
    c.in_ok-add_directory.ensures.gathers

pub returns-clause-grounds : goal.returns-clause-grounds
returns-clause-grounds c = λ first grounded.
    let kept = c.args.frozen.now in
    let view = frozen_view kept in
    let d = c.args.directory in
    let name = c.args.name.now in
    let s = c.in-Some.entry.slot in
    let i = c.in-Some.entry.number in
    let b = c.in-Some-claim_at.block in
    let claim = sym c.claim_at.ensures ∙ c.in-Some-claim_at.is in
    let good = c.in-Some.ensures.entry view (self_shown kept) in
    let one = pushed kept.geometry c.args.cells.now.items c.push.new.self.items (Block b) c.in_ok-push.ensures.ok (claim_parts kept.geometry view d (s / 16) b claim).1 in
    let both = gathers_both kept.geometry _ (map cell c.push.new.self.items) _ one c.in_ok-add_directory.ensures.gathers in
    let dir = named_directory kept.geometry view d c.requires.named.0 i name c.requires.named.1 (lookup_at kept.geometry view d s i name (c.in-Some.ensures.found view (self_shown kept)).0 good) c.requires.named.2 in
    next_grounded kept.geometry view first (map cell c.args.cells.now.items) (map cell c.add_directory.new.cells.items) d s i b name grounded both.kept
    c.requires.part good dir c.in_ok-add_directory.ensures.directory claim
    (c.in_ok-add_directory.ensures.gathers.kept _ (holds_pushed kept.geometry c.args.cells.now.items c.push.new.self.items (Block b) c.in_ok-push.ensures.ok))
    (only_next kept.geometry view c.args.cells.now.items c.push.new.self.items i b (map cell c.add_directory.new.cells.items) c.in_ok-push.ensures.ok c.in_ok-add_directory.ensures.only)
