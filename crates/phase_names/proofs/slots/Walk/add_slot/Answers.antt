-- A dot and an empty slot add nothing, and a bad one is told.
use Rattle.std.proofs.Common.{map, refl, sym, ap, ◌∙◌, subst}
use Rattle.frozen.specs.Kept.{frozen_view}
use Rattle.dirent.specs.Seen.{seen}
use Rattle.phase_names.specs.Walks.{IsWalked, Walked}
use Rattle.phase_names.proofs.AddLemmas.{on_ok_both}
use Rattle.phase_names.proofs.WalkLemmas.{walked_bad, walked_dot, walked_empty}
use Rattle.phase_names.proofs.slots.Walk.add_slot.Goals as goal

pub returns-then-slot-lt-FIRST_ENTRY-clause-walked : goal.returns-then-slot-lt-FIRST_ENTRY-clause-walked
returns-then-slot-lt-FIRST_ENTRY-clause-walked c =
    walked_dot c.args.frozen.now.geometry (frozen_view c.args.frozen.now) c.args.directory c.args.slot c.args.self.now c.if-slot-lt-FIRST_ENTRY.true

pub returns-in-Empty-clause-walked : goal.returns-in-Empty-clause-walked
returns-in-Empty-clause-walked c =
    walked_empty c.args.frozen.now.geometry (frozen_view c.args.frozen.now) c.args.directory c.args.slot c.args.self.now (sym c.requires ∙ ap seen c.in-Empty.is)

pub returns-in-Bad-clause-walked : goal.returns-in-Bad-clause-walked
returns-in-Bad-clause-walked c =
    let geo = c.args.frozen.now.geometry in
    let view = frozen_view c.args.frozen.now in
    let old : Walked = record { names = map (λ n. (n.digest, n.bytes.now)) c.self.inside.names.keys; findings = c.self.inside.findings.keys; directories = c.self.inside.directories.items } in
    let new : Walked = record { names = map (λ n. (n.digest, n.bytes.now)) c.self.inside.names.keys; findings = c.add_finding.new.findings.keys; directories = c.self.inside.directories.items } in
    on_ok_both c.add_finding.result
    (λ found ordered h.
    walked_bad geo view c.args.directory c.args.slot old new c.if-slot-lt-FIRST_ENTRY.false (sym c.requires ∙ ap seen c.in-Bad.is) refl refl ordered found
    (subst (λ (w : Walked). IsWalked geo view c.args.directory c.args.slot w) (sym c.self.view_is) h))
    c.add_finding.ensures.found c.add_finding.ensures.ordered
