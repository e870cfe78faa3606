-- The position is not used, or its use is no claim, or it is one.
use Rattle.std.proofs.Common.{IsTrue, IsFalse, Some, rules}
use Rattle.std.proofs.lemmas.Result.{on_ok_weaker}
use Rattle.model.specs.Layout.{is_data_address}
use Rattle.frozen.specs.Kept.{frozen_view}
use Rattle.phase_blocks.proofs.Claims.{with_use_adds}
use Rattle.phase_blocks.proofs.Gathering.{tells_claim, tells_pointer}
use Rattle.phase_blocks.proofs.Scanning.{use_is, unused}
use Rattle.phase_blocks.proofs.scan.look_at_use.Goals as goal

pub returns-in_default-clause-looked : goal.returns-in_default-clause-looked
returns-in_default-clause-looked c = λ inodes uses h.
    let geo = c.args.frozen.now.geometry in
    let view = frozen_view c.args.frozen.now in
    unused geo view inodes uses c.args.number c.args.position c.args.part.now
    (use_is geo view c.args.number c.args.position c.args.inode.now c.use_of.result _ c.requires.number c.requires.inode c.use_of.ensures c.in_default.is) h

pub returns-then-is_none-clause-looked : goal.returns-then-is_none-clause-looked
returns-then-is_none-clause-looked c = on_ok_weaker c.add_finding.result (λ told inodes uses h.
    let geo = c.args.frozen.now.geometry in
    let view = frozen_view c.args.frozen.now in
    let used = use_is geo view c.args.number c.args.position c.args.inode.now c.use_of.result (Some c.in-Some.value) c.requires.number c.requires.inode c.use_of.ensures c.in-Some.is in
    let no_data : IsFalse (is_data_address geo c.in-Some.value) = search (rules, c.place_of.ensures.exactly, c.geometry.ensures.geometry, c.is_none.ensures, c.if-is_none.true) in
    tells_pointer geo view inodes uses _ c.args.part.now c.add_finding.new.self c.args.number c.args.position c.in-Some.value h (used, no_data)
    (with_use_adds uses c.args.number c.args.position) told) c.add_finding.ensures.added

pub returns-clause-looked : goal.returns-clause-looked
returns-clause-looked c = on_ok_weaker c.add_claim.result (λ told inodes uses h.
    let geo = c.args.frozen.now.geometry in
    let view = frozen_view c.args.frozen.now in
    let used = use_is geo view c.args.number c.args.position c.args.inode.now c.use_of.result (Some c.in-Some.value) c.requires.number c.requires.inode c.use_of.ensures c.in-Some.is in
    let is_data : IsTrue (is_data_address geo c.in-Some.value) = search (rules, c.place_of.ensures.exactly, c.geometry.ensures.geometry, c.is_none.ensures, c.if-is_none.false) in
    tells_claim geo view inodes uses _ c.args.part.now c.add_claim.new.self _ h (used, is_data) (with_use_adds uses c.args.number c.args.position) told) c.add_claim.ensures.added
