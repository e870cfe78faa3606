use Rattle.std.proofs.Common.{◌≡◌, ◌/◌, ◌+◌, ◌-◌, ◌^◌, ◌∙◌, ℕ, List, length, min, inl, inr, refl, ap, subst, subst₂, arith}
use Rattle.std.proofs.lemmas.Result.{err_from_is_err_and}
use Rattle.model.specs.Layout.{Geometry, inode_count}
use Rattle.device.specs.Media.{images_held}
use Rattle.upgrading.specs.Steps.{GoesToVersion, HasCleared, HasLeft, TellsVersion}
use Rattle.upgrading.proofs.Cuts.{all_settled, gone_left, nothing_left, stopped_left, waited_left}
use Rattle.upgrading.proofs.Ends.{cleared_stays, finished, first_is_there, first_there, has_failed, nothing_written, stopped, upgradable, upgraded, upgraded_before}
use Rattle.upgrading.proofs.upgrade.Goals as goal

pub returns-in_err-frozen-clause-left : goal.returns-in_err-frozen-clause-left
returns-in_err-frozen-clause-left g c =
    let held = g.D.Device.held in
    nothing_left (g.D.Device.honest c.load_sound.new.device) (g.D.Device.image c.args.device.now) (held c.args.device.now) (held c.load_sound.new.device) c.load_sound.ensures.reads.held

pub returns-in_err-sync-clause-held : goal.returns-in_err-sync-clause-held
returns-in_err-sync-clause-held g c =
    let image = g.D.Device.image in
    let held = g.D.Device.held in
    let reads = c.load_sound.ensures.reads in
    nothing_written (g.D.Device.honest c.sync.new.self) (image c.args.device.now) (held c.args.device.now) (image c.sync.new.self) (held c.sync.new.self) (c.sync.ensures.same ∙ reads.same)
    (ap images_held (c.in_err-sync.ensures.fault_held ∙ reads.held))

pub returns-in_err-sync-clause-left : goal.returns-in_err-sync-clause-left
returns-in_err-sync-clause-left g c =
    let held = g.D.Device.held in
    nothing_left (g.D.Device.honest c.sync.new.self) (g.D.Device.image c.args.device.now) (held c.args.device.now) (held c.sync.new.self) (c.in_err-sync.ensures.fault_held ∙ c.load_sound.ensures.reads.held)

pub returns-in_err-sync-clause-cause : goal.returns-in_err-sync-clause-cause
returns-in_err-sync-clause-cause g c = λ failed.
    has_failed (g.D.Device.failures c.args.device.now) (g.D.Device.failures c.sync.new.self)
    (c.in_err-sync.ensures.cause ∙ ap (λ n. min (n + 1) (2 ^ 64 - 1)) c.in_ok-frozen.ensures.failures)

pub returns-in_err-sync-clause-honest : goal.returns-in_err-sync-clause-honest
returns-in_err-sync-clause-honest g c = λ h. c.load_sound.ensures.reads.honest (c.sync.ensures.honest h)

pub returns-then-version-eq-DOUBLE-clause-honest : goal.returns-then-version-eq-DOUBLE-clause-honest
returns-then-version-eq-DOUBLE-clause-honest g c = λ h. c.load_sound.ensures.reads.honest (c.sync.ensures.honest h)

pub set_version-requires : goal.set_version-requires
set_version-requires g c = omega (arith, c.clear_records.ensures.count, ap (λ (i : List (List ℕ)). length i) c.load_sound.ensures.reads.same, c.in_ok-frozen.ensures.count)

pub returns-then-version-eq-DOUBLE-clause-held : goal.returns-then-version-eq-DOUBLE-clause-held
returns-then-version-eq-DOUBLE-clause-held g c =
    let image = g.D.Device.image in
    let held = g.D.Device.held in
    let reads = c.load_sound.ensures.reads in
    nothing_written (g.D.Device.honest c.sync.new.self) (image c.args.device.now) (held c.args.device.now) (image c.sync.new.self) (held c.sync.new.self) (c.sync.ensures.same ∙ reads.same)
    (ap images_held c.in_ok-sync.ensures.held ∙ ap images_held reads.held)

pub returns-then-version-eq-DOUBLE-clause-left : goal.returns-then-version-eq-DOUBLE-clause-left
returns-then-version-eq-DOUBLE-clause-left g c =
    let held = g.D.Device.held in
    waited_left (g.D.Device.honest c.sync.new.self) (g.D.Device.image c.args.device.now) (held c.args.device.now) (held c.load_sound.new.device) (held c.sync.new.self)
    c.load_sound.ensures.reads.held c.in_ok-sync.ensures.held

pub returns-then-version-eq-DOUBLE-clause-settled : goal.returns-then-version-eq-DOUBLE-clause-settled
returns-then-version-eq-DOUBLE-clause-settled g c =
    let held = g.D.Device.held in
    let image = g.D.Device.image in
    all_settled (held c.load_sound.new.device) (held c.sync.new.self) (image c.load_sound.new.device) (image c.sync.new.self) (g.met.D.Device.answers c.load_sound.new.device) c.sync.ensures.same c.in_ok-sync.ensures.held

pub returns-then-version-eq-DOUBLE-clause-done : goal.returns-then-version-eq-DOUBLE-clause-done
returns-then-version-eq-DOUBLE-clause-done g c = λ honest.
    let kept = c.in_ok-frozen.frozen in
    let image = g.D.Device.image in
    let held = g.D.Device.held in
    let reads = c.load_sound.ensures.reads in
    let version : kept.geometry.version ≡ 2 = omega (arith, c.if-version-eq-DOUBLE.true, c.version.ensures.version, ap (λ (geo : Geometry). geo.version) c.geometry.ensures.geometry) in
    upgraded_before kept (image c.args.device.now) c.geometry.ensures.frame (c.in_ok-frozen.ensures.ok (c.sync.ensures.honest honest)) c.in_ok-frozen.ensures.obeys (held c.args.device.now)
    (image c.sync.new.self) (held c.sync.new.self) version (c.sync.ensures.same ∙ reads.same) (ap images_held c.in_ok-sync.ensures.held ∙ ap images_held reads.held)

pub returns-in_err-writes-clause-held : goal.returns-in_err-writes-clause-held
returns-in_err-writes-clause-held g c =
    let kept = c.in_ok-frozen.frozen in
    let honest = g.D.Device.honest in
    let image = g.D.Device.image in
    let held = g.D.Device.held in
    let reads = c.load_sound.ensures.reads in
    let stop = c.in_err-writes.ensures.stopped in
    let other : kept.geometry.version ≡ 2 → ⊥ = λ two. omega (arith, two, c.if-version-eq-DOUBLE.false, c.version.ensures.version, ap (λ (geo : Geometry). geo.version) c.geometry.ensures.geometry) in
    stopped (honest c.clear_records.new.device) kept (image c.args.device.now) (held c.args.device.now)
    (λ h. upgradable kept (image c.args.device.now) c.geometry.ensures.frame (c.in_ok-frozen.ensures.ok (c.clear_records.ensures.honest h)) c.in_ok-frozen.ensures.obeys other)
    stop.0 (image c.clear_records.new.device) (held c.clear_records.new.device) stop.1
    (subst₂ (λ start before. HasCleared kept start before stop.0 (image c.clear_records.new.device) (held c.clear_records.new.device) stop.1) reads.same reads.held stop.2)

pub returns-in_err-writes-clause-left : goal.returns-in_err-writes-clause-left
returns-in_err-writes-clause-left g c =
    let kept = c.in_ok-frozen.frozen in
    let honest = g.D.Device.honest in
    let image = g.D.Device.image in
    let held = g.D.Device.held in
    let reads = c.load_sound.ensures.reads in
    let other : kept.geometry.version ≡ 2 → ⊥ = λ two. omega (arith, two, c.if-version-eq-DOUBLE.false, c.version.ensures.version, ap (λ (geo : Geometry). geo.version) c.geometry.ensures.geometry) in
    stopped_left (honest c.clear_records.new.device) kept (image c.args.device.now) (held c.args.device.now)
    (λ h. upgradable kept (image c.args.device.now) c.geometry.ensures.frame (c.in_ok-frozen.ensures.ok (c.clear_records.ensures.honest h)) c.in_ok-frozen.ensures.obeys other)
    (held c.clear_records.new.device) (subst₂ (λ start before. HasLeft kept start before (held c.clear_records.new.device)) reads.same reads.held c.clear_records.ensures.left)

pub returns-in_err-writes-clause-refused : goal.returns-in_err-writes-clause-refused
returns-in_err-writes-clause-refused g c =
    let p = err_from_is_err_and c.from_residual-in_err-writes.result c.from_residual-in_err-writes.ensures.1 in rw (p.1, p.2) tt

pub returns-in_err-writes-clause-quiet : goal.returns-in_err-writes-clause-quiet
returns-in_err-writes-clause-quiet g c =
    let p = err_from_is_err_and c.from_residual-in_err-writes.result c.from_residual-in_err-writes.ensures.1 in rw (p.1, p.2) (inl refl)

pub returns-in_err-writes-clause-cause : goal.returns-in_err-writes-clause-cause
returns-in_err-writes-clause-cause g c = λ failed.
    has_failed (g.D.Device.failures c.args.device.now) (g.D.Device.failures c.clear_records.new.device)
    (c.in_err-writes.ensures.cause ∙ ap (λ n. min (n + 1) (2 ^ 64 - 1)) c.in_ok-frozen.ensures.failures)

pub returns-in_err-writes-clause-honest : goal.returns-in_err-writes-clause-honest
returns-in_err-writes-clause-honest g c = λ h. c.load_sound.ensures.reads.honest (c.clear_records.ensures.honest h)

pub unwrap-requires : goal.unwrap-requires
unwrap-requires g c = first_is_there c.in_ok-frozen.frozen c.block.ensures.frame c.block.result c.block.ensures.block

pub returns-in_err-set_version-clause-held : goal.returns-in_err-set_version-clause-held
returns-in_err-set_version-clause-held g c =
    let kept = c.in_ok-frozen.frozen in
    let honest = g.D.Device.honest in
    let image = g.D.Device.image in
    let held = g.D.Device.held in
    let reads = c.load_sound.ensures.reads in
    let other : kept.geometry.version ≡ 2 → ⊥ = λ two. omega (arith, two, c.if-version-eq-DOUBLE.false, c.version.ensures.version, ap (λ (geo : Geometry). geo.version) c.geometry.ensures.geometry) in
    let cleared = subst₂ (λ start before. HasCleared kept start before (inode_count kept.geometry / 8) (image c.clear_records.new.device) (held c.clear_records.new.device) c.in_ok-writes.writes) reads.same reads.held c.in_ok-writes.ensures.cleared in
    let ready = λ (h : honest c.set_version.new.device). upgradable kept (image c.args.device.now) c.geometry.ensures.frame (c.in_ok-frozen.ensures.ok (c.clear_records.ensures.honest (c.set_version.ensures.honest h))) c.in_ok-frozen.ensures.obeys other in
    let first = first_there kept c.block.result c.unwrap.result c.block.ensures.block c.unwrap.ensures in
    elim c.in_err-set_version.ensures.stopped [
      | inl same ↦
          stopped (honest c.set_version.new.device) kept (image c.args.device.now) (held c.args.device.now) ready
          (inode_count kept.geometry / 8) (image c.set_version.new.device) (held c.set_version.new.device) c.in_ok-writes.writes
          (cleared_stays kept (image c.args.device.now) (held c.args.device.now) (inode_count kept.geometry / 8) (image c.clear_records.new.device) (held c.clear_records.new.device) c.in_ok-writes.writes
          (image c.set_version.new.device) (held c.set_version.new.device) cleared same.0 same.1)
      | inr tells ↦
          finished (honest c.set_version.new.device) kept (image c.args.device.now) (held c.args.device.now) ready
          (image c.clear_records.new.device) (held c.clear_records.new.device) c.in_ok-writes.writes cleared (image c.set_version.new.device) (held c.set_version.new.device)
          (subst (λ b. TellsVersion b (image c.clear_records.new.device) (held c.clear_records.new.device) (image c.set_version.new.device) (held c.set_version.new.device)) first tells)
    ]

pub returns-in_err-set_version-clause-left : goal.returns-in_err-set_version-clause-left
returns-in_err-set_version-clause-left g c =
    let kept = c.in_ok-frozen.frozen in
    let honest = g.D.Device.honest in
    let image = g.D.Device.image in
    let held = g.D.Device.held in
    let reads = c.load_sound.ensures.reads in
    let other : kept.geometry.version ≡ 2 → ⊥ = λ two. omega (arith, two, c.if-version-eq-DOUBLE.false, c.version.ensures.version, ap (λ (geo : Geometry). geo.version) c.geometry.ensures.geometry) in
    let cleared = subst₂ (λ start before. HasCleared kept start before (inode_count kept.geometry / 8) (image c.clear_records.new.device) (held c.clear_records.new.device) c.in_ok-writes.writes) reads.same reads.held c.in_ok-writes.ensures.cleared in
    let left = subst₂ (λ start before. HasLeft kept start before (held c.clear_records.new.device)) reads.same reads.held c.clear_records.ensures.left in
    let ready = λ (h : honest c.set_version.new.device). upgradable kept (image c.args.device.now) c.geometry.ensures.frame (c.in_ok-frozen.ensures.ok (c.clear_records.ensures.honest (c.set_version.ensures.honest h))) c.in_ok-frozen.ensures.obeys other in
    let first = first_there kept c.block.result c.unwrap.result c.block.ensures.block c.unwrap.ensures in
    gone_left (honest c.set_version.new.device) kept (image c.args.device.now) (held c.args.device.now) ready (held c.clear_records.new.device) left
    g.D.Device.KEEPS_ORDER (image c.clear_records.new.device) c.in_ok-writes.writes cleared (g.met.D.Device.answers c.args.device.now) (g.met.D.Device.answers c.clear_records.new.device)
    (held c.set_version.new.device) (subst (λ b. GoesToVersion g.D.Device.KEEPS_ORDER b (held c.clear_records.new.device) (held c.set_version.new.device)) first c.set_version.ensures.goes)

pub returns-in_err-set_version-clause-refused : goal.returns-in_err-set_version-clause-refused
returns-in_err-set_version-clause-refused g c =
    let p = err_from_is_err_and c.from_residual-in_err-set_version.result c.from_residual-in_err-set_version.ensures.1 in rw (p.1, p.2) tt

pub returns-in_err-set_version-clause-quiet : goal.returns-in_err-set_version-clause-quiet
returns-in_err-set_version-clause-quiet g c =
    let p = err_from_is_err_and c.from_residual-in_err-set_version.result c.from_residual-in_err-set_version.ensures.1 in rw (p.1, p.2) (inl refl)

pub returns-in_err-set_version-clause-cause : goal.returns-in_err-set_version-clause-cause
returns-in_err-set_version-clause-cause g c = λ failed.
    has_failed (g.D.Device.failures c.args.device.now) (g.D.Device.failures c.set_version.new.device)
    (c.in_err-set_version.ensures.cause ∙ ap (λ n. min (n + 1) (2 ^ 64 - 1)) (c.in_ok-writes.ensures.cause ∙ c.in_ok-frozen.ensures.failures))

pub returns-in_err-set_version-clause-honest : goal.returns-in_err-set_version-clause-honest
returns-in_err-set_version-clause-honest g c = λ h. c.load_sound.ensures.reads.honest (c.clear_records.ensures.honest (c.set_version.ensures.honest h))

pub returns-clause-held : goal.returns-clause-held
returns-clause-held g c =
    let kept = c.in_ok-frozen.frozen in
    let honest = g.D.Device.honest in
    let image = g.D.Device.image in
    let held = g.D.Device.held in
    let reads = c.load_sound.ensures.reads in
    let other : kept.geometry.version ≡ 2 → ⊥ = λ two. omega (arith, two, c.if-version-eq-DOUBLE.false, c.version.ensures.version, ap (λ (geo : Geometry). geo.version) c.geometry.ensures.geometry) in
    let cleared = subst₂ (λ start before. HasCleared kept start before (inode_count kept.geometry / 8) (image c.clear_records.new.device) (held c.clear_records.new.device) c.in_ok-writes.writes) reads.same reads.held c.in_ok-writes.ensures.cleared in
    let ready = λ (h : honest c.set_version.new.device). upgradable kept (image c.args.device.now) c.geometry.ensures.frame (c.in_ok-frozen.ensures.ok (c.clear_records.ensures.honest (c.set_version.ensures.honest h))) c.in_ok-frozen.ensures.obeys other in
    let first = first_there kept c.block.result c.unwrap.result c.block.ensures.block c.unwrap.ensures in
    finished (honest c.set_version.new.device) kept (image c.args.device.now) (held c.args.device.now) ready
    (image c.clear_records.new.device) (held c.clear_records.new.device) c.in_ok-writes.writes cleared (image c.set_version.new.device) (held c.set_version.new.device)
    (subst (λ b. TellsVersion b (image c.clear_records.new.device) (held c.clear_records.new.device) (image c.set_version.new.device) (held c.set_version.new.device)) first c.in_ok-set_version.ensures.told)

pub returns-clause-left : goal.returns-clause-left
returns-clause-left g c =
    let kept = c.in_ok-frozen.frozen in
    let honest = g.D.Device.honest in
    let image = g.D.Device.image in
    let held = g.D.Device.held in
    let reads = c.load_sound.ensures.reads in
    let other : kept.geometry.version ≡ 2 → ⊥ = λ two. omega (arith, two, c.if-version-eq-DOUBLE.false, c.version.ensures.version, ap (λ (geo : Geometry). geo.version) c.geometry.ensures.geometry) in
    let cleared = subst₂ (λ start before. HasCleared kept start before (inode_count kept.geometry / 8) (image c.clear_records.new.device) (held c.clear_records.new.device) c.in_ok-writes.writes) reads.same reads.held c.in_ok-writes.ensures.cleared in
    let left = subst₂ (λ start before. HasLeft kept start before (held c.clear_records.new.device)) reads.same reads.held c.clear_records.ensures.left in
    let ready = λ (h : honest c.set_version.new.device). upgradable kept (image c.args.device.now) c.geometry.ensures.frame (c.in_ok-frozen.ensures.ok (c.clear_records.ensures.honest (c.set_version.ensures.honest h))) c.in_ok-frozen.ensures.obeys other in
    let first = first_there kept c.block.result c.unwrap.result c.block.ensures.block c.unwrap.ensures in
    gone_left (honest c.set_version.new.device) kept (image c.args.device.now) (held c.args.device.now) ready (held c.clear_records.new.device) left
    g.D.Device.KEEPS_ORDER (image c.clear_records.new.device) c.in_ok-writes.writes cleared (g.met.D.Device.answers c.args.device.now) (g.met.D.Device.answers c.clear_records.new.device)
    (held c.set_version.new.device) (subst (λ b. GoesToVersion g.D.Device.KEEPS_ORDER b (held c.clear_records.new.device) (held c.set_version.new.device)) first c.set_version.ensures.goes)

pub returns-clause-done : goal.returns-clause-done
returns-clause-done g c =
    let kept = c.in_ok-frozen.frozen in
    let honest = g.D.Device.honest in
    let image = g.D.Device.image in
    let held = g.D.Device.held in
    let reads = c.load_sound.ensures.reads in
    let other : kept.geometry.version ≡ 2 → ⊥ = λ two. omega (arith, two, c.if-version-eq-DOUBLE.false, c.version.ensures.version, ap (λ (geo : Geometry). geo.version) c.geometry.ensures.geometry) in
    let cleared = subst₂ (λ start before. HasCleared kept start before (inode_count kept.geometry / 8) (image c.clear_records.new.device) (held c.clear_records.new.device) c.in_ok-writes.writes) reads.same reads.held c.in_ok-writes.ensures.cleared in
    let ready = λ (h : honest c.set_version.new.device). upgradable kept (image c.args.device.now) c.geometry.ensures.frame (c.in_ok-frozen.ensures.ok (c.clear_records.ensures.honest (c.set_version.ensures.honest h))) c.in_ok-frozen.ensures.obeys other in
    let first = first_there kept c.block.result c.unwrap.result c.block.ensures.block c.unwrap.ensures in
    upgraded (honest c.set_version.new.device) kept (image c.args.device.now) (held c.args.device.now) ready
    (image c.clear_records.new.device) (held c.clear_records.new.device) c.in_ok-writes.writes cleared (image c.set_version.new.device) (held c.set_version.new.device)
    (subst (λ b. TellsVersion b (image c.clear_records.new.device) (held c.clear_records.new.device) (image c.set_version.new.device) (held c.set_version.new.device)) first c.in_ok-set_version.ensures.told)

pub returns-clause-honest : goal.returns-clause-honest
returns-clause-honest g c = λ h. c.load_sound.ensures.reads.honest (c.clear_records.ensures.honest (c.set_version.ensures.honest h))
