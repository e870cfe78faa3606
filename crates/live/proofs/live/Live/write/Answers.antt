use Rattle.std.proofs.Common.{[], ◌∷◌, ◌++◌, ◌≡◌, append-nil, inr, sym, ap, ◌∙◌, subst}
use Rattle.std.proofs.lemmas.Result.{err_from_is_err_and}
use Rattle.machine.specs.Command.{Done, Write}
use Rattle.softdep.specs.Queued.{pending_of}
use Rattle.live_states.specs.Planned.{IsRefusedWith}
use Rattle.live_states.proofs.Standing.{stands_with}
use Rattle.live_writes.specs.Aimed.{IsAimed, seen_before}
use Rattle.live.specs.Alive.{Alive, Answers, MayRefuse}
use Rattle.live.specs.Seen.{seen_of}
use Rattle.live.proofs.Between.{answered, seen_same, still_seen}
use Rattle.live.proofs.Commands.{refused_with}
use Rattle.live.proofs.LettingGo.{answers_with}
use Rattle.frozen.specs.Kept.{Kept}
use Rattle.live_states.specs.Holdings.{held_by, opened_by}
use Rattle.live.specs.Durable.{GoesSoundly, pieces_of}
use Rattle.live.proofs.Durably.{goes_still, goes_then}
use Rattle.live.proofs.live.Live.write.Goals as goal

pub aim-requires : goal.aim-requires
aim-requires g c = record { volume = stands_with c.self.inside.metadata c.self.inside.holdings (pending_of c.self.inside.queue) c.self.invariant.alive.disk c.self.invariant.alive.some }

pub returns-in_err-target-clause-refused : goal.returns-in_err-target-clause-refused
returns-in_err-target-clause-refused g c =
    let p = err_from_is_err_and c.from_residual.result c.from_residual.ensures.1 in
    let device = c.self.inside.device in
    rw (p.1, p.2)
    (λ h. subst (λ (l : Alive _). MayRefuse (g.D.Device.image l.device) l (Write c.args.handle c.args.index c.args.piece.now) c.in_err-target.field-0.0) c.self.view_is
    (refused_with device (g.D.Device.honest device) (g.D.Device.image device) c.self.inside.queue c.self.inside.metadata c.self.inside.holdings c.self.invariant (subst (λ (l : Alive _). g.D.Device.honest l.device) (sym c.self.view_is) h)
    (Write c.args.handle c.args.index c.args.piece.now) c.in_err-target.field-0.0 (inr c.in_err-target.ensures.refused)))

pub returns-in_err-target-clause-error : goal.returns-in_err-target-clause-error
returns-in_err-target-clause-error g c =
    let p = err_from_is_err_and c.from_residual.result c.from_residual.ensures.1 in
    rw (p.1, p.2)
    (inr (subst (λ (l : Alive _). IsRefusedWith l.kept l.holdings (Write c.args.handle c.args.index c.args.piece.now) c.in_err-target.field-0.0) c.self.view_is (inr c.in_err-target.ensures.refused)))

pub write-requires-clause-volume : goal.write-requires-clause-volume
write-requires-clause-volume g c = stands_with c.self-2.inside.metadata c.self-2.inside.holdings (pending_of c.self-2.inside.queue) c.self-2.invariant.alive.disk c.self-2.invariant.alive.some

pub write-requires-clause-aimed : goal.write-requires-clause-aimed
write-requires-clause-aimed g c =
    let kept = ap (λ (l : Alive _). l.kept) c.self-2.view_is ∙ c.in_ok-read_under.ensures.untouched.1 ∙ sym (ap (λ (l : Alive _). l.kept) c.self.view_is) in
    let holdings = ap (λ (l : Alive _). l.holdings) c.self-2.view_is ∙ c.in_ok-read_under.ensures.untouched.2 ∙ sym (ap (λ (l : Alive _). l.holdings) c.self.view_is) in (
      c.args.handle,
      c.args.index,
      subst (λ k. IsAimed k c.self-2.inside.holdings c.args.handle c.args.index c.args.piece.now c.in_ok-target.target) (sym kept)
          (subst (λ o. IsAimed c.self.inside.metadata o c.args.handle c.args.index c.args.piece.now c.in_ok-target.target) (sym holdings) c.in_ok-target.ensures.aimed),
    )

pub carry_out-requires-clause-planned : goal.carry_out-requires-clause-planned
carry_out-requires-clause-planned g c =
    let kept = ap (λ (l : Alive _). l.kept) c.self-2.view_is ∙ c.in_ok-read_under.ensures.untouched.1 ∙ sym (ap (λ (l : Alive _). l.kept) c.self.view_is) in
    let holdings = ap (λ (l : Alive _). l.holdings) c.self-2.view_is ∙ c.in_ok-read_under.ensures.untouched.2 ∙ sym (ap (λ (l : Alive _). l.holdings) c.self.view_is) in
    let aimed =
    subst (λ k. IsAimed k c.self-2.inside.holdings c.args.handle c.args.index c.args.piece.now c.in_ok-target.target) (sym kept)
    (subst (λ o. IsAimed c.self.inside.metadata o c.args.handle c.args.index c.args.piece.now c.in_ok-target.target) (sym holdings) c.in_ok-target.ensures.aimed) in
    let anyhow = c.in_ok-planned.ensures.planned_anyhow c.args.handle c.args.index aimed in (
      Write c.args.handle c.args.index anyhow.0,
      Done,
      anyhow.1,
    )

pub carry_out-requires-clause-holds : goal.carry_out-requires-clause-holds
carry_out-requires-clause-holds g c = c.in_ok-planned.ensures.holds

pub returns-clause-done : goal.returns-clause-done
returns-clause-done g c = λ h.
    let kept = ap (λ (l : Alive _). l.kept) c.self-2.view_is ∙ c.in_ok-read_under.ensures.untouched.1 ∙ sym (ap (λ (l : Alive _). l.kept) c.self.view_is) in
    let holdings = ap (λ (l : Alive _). l.holdings) c.self-2.view_is ∙ c.in_ok-read_under.ensures.untouched.2 ∙ sym (ap (λ (l : Alive _). l.holdings) c.self.view_is) in
    let aimed =
    subst (λ k. IsAimed k c.self-2.inside.holdings c.args.handle c.args.index c.args.piece.now c.in_ok-target.target) (sym kept)
    (subst (λ o. IsAimed c.self.inside.metadata o c.args.handle c.args.index c.args.piece.now c.in_ok-target.target) (sym holdings) c.in_ok-target.ensures.aimed) in
    let command = Write c.args.handle c.args.index c.args.piece.now in
    let seen = seen_before c.in_ok-target.target c.read_under.new.block in
    let old = c.args.self.now in
    let mid : Alive _ = record { device = c.self-2.inside.device; queue = c.self-2.inside.queue; kept = c.self-2.inside.metadata; holdings = c.self-2.inside.holdings } in
    let is = c.self-2.view_is in
    let was = g.D.Device.image old.device in
    let then = c.carry_out.new.self in
    let new = c.let_go.new.self in
    let honest = subst (λ d. g.D.Device.honest d) c.in_ok-carry_out.ensures.device (subst (λ d. g.D.Device.honest d) c.let_go.ensures.device h) in
    let planned = c.in_ok-planned.ensures.planned c.args.handle c.args.index aimed in
    let same = ap (λ (l : Alive _). g.D.Device.image l.device) is ∙ c.in_ok-read_under.ensures.image in
    let untouched = c.in_ok-read_under.ensures.untouched in
    let queue = ap (λ (l : Alive _). l.queue) is ∙ untouched.0 in
    let kept' = ap (λ (l : Alive _). l.kept) is ∙ untouched.1 in
    let holdings' = ap (λ (l : Alive _). l.holdings) is ∙ untouched.2 in
    subst (λ d. Answers was old command Done (g.D.Device.image d) new []) (sym c.let_go.ensures.device)
    (answers_with was (g.D.Device.image then.device) old then new command Done [] c.let_go.ensures.queue c.let_go.ensures.holdings c.let_go.ensures.geometry
    (answered was (g.D.Device.image mid.device) old mid same queue kept' holdings' command Done (g.D.Device.image then.device) then []
    (c.in_ok-carry_out.ensures.done seen command Done planned honest
    (still_seen was (g.D.Device.image mid.device) old mid same queue kept' holdings' seen (c.in_ok-read_under.ensures.seen (subst (λ (l : Alive _). g.D.Device.honest l.device) is honest))))))

pub returns-clause-sound : goal.returns-clause-sound
returns-clause-sound g c = λ h safe.
    let kept = ap (λ (l : Alive _). l.kept) c.self-2.view_is ∙ c.in_ok-read_under.ensures.untouched.1 ∙ sym (ap (λ (l : Alive _). l.kept) c.self.view_is) in
    let holdings = ap (λ (l : Alive _). l.holdings) c.self-2.view_is ∙ c.in_ok-read_under.ensures.untouched.2 ∙ sym (ap (λ (l : Alive _). l.holdings) c.self.view_is) in
    let aimed =
    subst (λ k. IsAimed k c.self-2.inside.holdings c.args.handle c.args.index c.args.piece.now c.in_ok-target.target) (sym kept)
    (subst (λ o. IsAimed c.self.inside.metadata o c.args.handle c.args.index c.args.piece.now c.in_ok-target.target) (sym holdings) c.in_ok-target.ensures.aimed) in
    let command = Write c.args.handle c.args.index c.args.piece.now in
    let seen = seen_before c.in_ok-target.target c.read_under.new.block in
    let old = c.args.self.now in
    let mid : Alive _ = record { device = c.self-2.inside.device; queue = c.self-2.inside.queue; kept = c.self-2.inside.metadata; holdings = c.self-2.inside.holdings } in
    let is = c.self-2.view_is in
    let was = g.D.Device.image old.device in
    let then = c.carry_out.new.self in
    let new = c.let_go.new.self in
    let honest = subst (λ d. g.D.Device.honest d) c.in_ok-carry_out.ensures.device (subst (λ d. g.D.Device.honest d) c.let_go.ensures.device h) in
    let planned = c.in_ok-planned.ensures.planned c.args.handle c.args.index aimed in
    let same = ap (λ (l : Alive _). g.D.Device.image l.device) is ∙ c.in_ok-read_under.ensures.image in
    let untouched = c.in_ok-read_under.ensures.untouched in
    let queue = ap (λ (l : Alive _). l.queue) is ∙ untouched.0 in
    let kept' = ap (λ (l : Alive _). l.kept) is ∙ untouched.1 in
    let holdings' = ap (λ (l : Alive _). l.holdings) is ∙ untouched.2 in
    let held = g.D.Device.held in
    let asked = pieces_of (opened_by old.holdings) command in
    let image = g.D.Device.image in
    let sees = seen_of image in
    let seen_mid : sees mid ≡ sees old = seen_same was (image mid.device) old.queue mid.queue old.kept.geometry mid.kept.geometry same queue (ap (λ (k : Kept). k.geometry) kept') in
    let seen_new : sees new ≡ sees then = seen_same (image then.device) (image new.device) then.queue new.queue then.kept.geometry new.kept.geometry (ap image c.let_go.ensures.device) c.let_go.ensures.queue c.let_go.ensures.geometry in
    subst (λ p. GoesSoundly (held old.device) old (held new.device) new safe safe p (sees new ∷ sees old ∷ [])) (append-nil asked)
    (subst (λ v. GoesSoundly (held old.device) old (held new.device) new safe safe (asked ++ []) (sees new ∷ v ∷ [])) seen_mid
    (subst (λ v. GoesSoundly (held old.device) old (held new.device) new safe safe (asked ++ []) (v ∷ sees mid ∷ [])) (sym seen_new)
    (goes_then (held old.device) (held mid.device) (held new.device) old mid new safe safe safe [] asked [] (sees then ∷ sees mid ∷ [])
    (goes_still (held old.device) (held mid.device) old mid (ap (λ (l : Alive _). held l.device) is ∙ c.in_ok-read_under.ensures.held) queue (ap (λ (k : Kept). k.geometry) kept') (ap held_by holdings') safe)
    (goes_then (held mid.device) (held then.device) (held new.device) mid then new safe safe safe asked [] (sees then ∷ sees mid ∷ []) []
    (subst (λ o. GoesSoundly (held mid.device) mid (held then.device) then safe safe (pieces_of (opened_by o) command) (sees then ∷ sees mid ∷ [])) holdings'
    (c.in_ok-carry_out.ensures.sound seen command Done planned honest
    (still_seen was (g.D.Device.image mid.device) old mid same queue kept' holdings' seen (c.in_ok-read_under.ensures.seen (subst (λ (l : Alive _). g.D.Device.honest l.device) is honest))) safe))
    (goes_still (held then.device) (held new.device) then new (ap held c.let_go.ensures.device) c.let_go.ensures.queue c.let_go.ensures.geometry (ap held_by c.let_go.ensures.holdings) safe)))))
