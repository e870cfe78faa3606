use Rattle.std.proofs.Common.{◌≡◌, List, [], ◌∷◌, take, ℕ, inr, sym, subst}
use Rattle.std.proofs.lemmas.Result.{err_from_is_err_and}
use Rattle.model.specs.Image.{image_view}
use Rattle.ordering.specs.Cuts.{users_view}
use Rattle.machine.specs.Command.{Bytes, Read}
use Rattle.softdep.specs.Queued.{pending_of}
use Rattle.live_states.specs.Planned.{IsRefusedWith}
use Rattle.live_states.proofs.Standing.{stands_with}
use Rattle.live.specs.Alive.{Alive, Answers, MayRefuse}
use Rattle.live.proofs.Commands.{refused_with}
use Rattle.live.proofs.Quietly.{not_device, one_seen, quiet_answers}
use Rattle.live.proofs.live.Live.read.Goals as goal

pub reading_of-requires : goal.reading_of-requires
reading_of-requires g c = stands_with c.self.inside.metadata c.self.inside.holdings (pending_of c.self.inside.queue) c.self.invariant.alive.disk c.self.invariant.alive.some

pub returns-in_err-block-clause-refused : goal.returns-in_err-block-clause-refused
returns-in_err-block-clause-refused g c =
    let p = err_from_is_err_and c.from_residual.result c.from_residual.ensures.1 in
    let device = c.self.inside.device in
    rw (p.1, p.2)
    (λ h. subst (λ (l : Alive _). MayRefuse (g.D.Device.image l.device) l (Read c.args.handle c.args.index) c.in_err-block.field-0.0) c.self.view_is
    (refused_with device (g.D.Device.honest device) (g.D.Device.image device) c.self.inside.queue c.self.inside.metadata c.self.inside.holdings c.self.invariant (subst (λ (l : Alive _). g.D.Device.honest l.device) (sym c.self.view_is) h)
    (Read c.args.handle c.args.index) c.in_err-block.field-0.0 (inr c.in_err-block.ensures.refused)))

pub returns-in_err-block-clause-error : goal.returns-in_err-block-clause-error
returns-in_err-block-clause-error g c =
    let p = err_from_is_err_and c.from_residual.result c.from_residual.ensures.1 in
    rw (p.1, p.2) (inr (subst (λ (l : Alive _). IsRefusedWith l.kept l.holdings (Read c.args.handle c.args.index) c.in_err-block.field-0.0) c.self.view_is (inr c.in_err-block.ensures.refused)))

pub returns-in_err-block-clause-cause : goal.returns-in_err-block-clause-cause
returns-in_err-block-clause-cause g c =
    let p = err_from_is_err_and c.from_residual.result c.from_residual.ensures.1 in
    rw (p.1, p.2) (λ e. absurd (not_device c.in_err-block.field-0.0 c.in_err-block.ensures.error e))

pub returns-clause-done : goal.returns-clause-done
returns-clause-done g c = λ h.
    let device = c.self.inside.device in
    let image = g.D.Device.image device in
    let before = c.in_ok-read_seen.ensures.honest h in
    let bytes = c.read_seen.new.block in
    let block = c.in_ok-block.field-0.block in
    let count = c.in_ok-block.field-0.length in
    let first : c.in_ok-first_bytes.field-0.items ≡ take count bytes = c.in_ok-first_bytes.ensures.first in
    let sees = one_seen (users_view (image_view c.self.inside.metadata.geometry image) (pending_of c.self.inside.queue)) block bytes
    (subst (λ geo. (users_view (image_view geo image) (pending_of c.self.inside.queue)).bytes block ≡ bytes) c.self.invariant.geometry (c.in_ok-read_seen.ensures.bytes h)) in
    subst (λ (items : List ℕ). Answers (g.D.Device.image c.args.self.now.device) c.args.self.now (Read c.args.handle c.args.index) (Bytes items) (g.D.Device.image c.read_seen.new.device)
    (record { device = c.read_seen.new.device; queue = c.self.inside.queue; kept = c.self.inside.metadata; holdings = c.self.inside.holdings }) []) (sym first)
    (subst (λ (l : Alive _). Answers (g.D.Device.image l.device) l (Read c.args.handle c.args.index) (Bytes (take count bytes)) (g.D.Device.image c.read_seen.new.device)
    (record { device = c.read_seen.new.device; queue = c.self.inside.queue; kept = c.self.inside.metadata; holdings = c.self.inside.holdings }) []) c.self.view_is
    (quiet_answers (g.D.Device.honest device) image c.self.inside.queue c.self.inside.metadata c.self.inside.holdings c.self.invariant (record { address = block; bytes = bytes } ∷ []) (Read c.args.handle c.args.index)
    (Bytes (take count bytes)) c.self.inside.holdings (c.in_ok-block.ensures.reads bytes c.in_ok-first_bytes.ensures.whole) device c.read_seen.new.device (g.D.Device.image c.read_seen.new.device) c.in_ok-read_seen.ensures.image before sees))
