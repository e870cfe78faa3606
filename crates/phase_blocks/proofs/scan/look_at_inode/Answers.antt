-- A sound inode is no finding, and one that is not sound uses nothing.
use Rattle.std.proofs.Common.{◌≡◌, ◌≢◌, IsTrue, IsFalse, sym, ap₂, ◌∙◌, arith}
use Rattle.std.proofs.lemmas.Bool.{true≢false}
use Rattle.std.proofs.lemmas.Result.{on_ok_weaker}
use Rattle.model.specs.Uses.{is_sound}
use Rattle.frozen.specs.Kept.{frozen_view}
use Rattle.frozen.proofs.PointerLemmas.{free_unsound}
use Rattle.phase_blocks.specs.Parts.{with_uses}
use Rattle.phase_blocks.proofs.Scanning.{good_record, no_uses, bad_record}
use Rattle.phase_blocks.proofs.scan.look_at_inode.Goals as goal

pub returns-then-mode-eq-FREE-clause-looked : goal.returns-then-mode-eq-FREE-clause-looked
returns-then-mode-eq-FREE-clause-looked c = λ inodes uses h.
    let geo = c.args.frozen.now.geometry in
    let view = frozen_view c.args.frozen.now in
    let free : (view.inode c.args.number).mode ≡ 0 = sym c.mode.ensures ∙ c.if-mode-eq-FREE.true in
    no_uses geo view _ uses c.args.number c.args.part.now (free_unsound geo (view.inode c.args.number) free)
    (good_record geo view inodes uses c.args.number c.args.part.now (λ b. b.1 free) h)

pub returns-then-is_sound-clause-looked : goal.returns-then-is_sound-clause-looked
returns-then-is_sound-clause-looked c = on_ok_weaker c.look_at_uses.result (λ told inodes uses h.
    let geo = c.args.frozen.now.geometry in
    let view = frozen_view c.args.frozen.now in
    let sound : IsTrue (is_sound geo (view.inode c.args.number)) = sym (ap₂ is_sound c.geometry.ensures.geometry c.without_attributes-record.ensures) ∙ sym c.is_sound.ensures ∙ c.if-is_sound.true in
    good_record geo view inodes (with_uses uses c.args.number) c.args.number c.look_at_uses.new.part (λ b. true≢false (sym sound ∙ b.2)) (told inodes uses h)) c.look_at_uses.ensures.looked

pub returns-else-is_sound-clause-looked : goal.returns-else-is_sound-clause-looked
returns-else-is_sound-clause-looked c = on_ok_weaker c.add_finding.result (λ told inodes uses h.
    let geo = c.args.frozen.now.geometry in
    let view = frozen_view c.args.frozen.now in
    let unsound : IsFalse (is_sound geo (view.inode c.args.number)) = sym (ap₂ is_sound c.geometry.ensures.geometry c.without_attributes-record.ensures) ∙ sym c.is_sound.ensures ∙ c.if-is_sound.false in
    let in_use : (view.inode c.args.number).mode ≢ 0 = λ free. omega (arith, c.if-mode-eq-FREE.false, c.mode.ensures, free) in
    no_uses geo view _ uses c.args.number c.add_finding.new.self unsound
    (bad_record geo view inodes uses c.args.number c.args.part.now c.add_finding.new.self (c.requires, in_use, unsound) told h)) c.add_finding.ensures.added
