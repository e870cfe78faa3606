use Rattle.std.proofs.Common.{◌≡◌, ◌<◌, ◌≤◌, ◌++◌, ◌∷◌, [], List, map, inl, inr, refl, sym, ap, ◌∙◌, subst}
use Rattle.model.specs.Image.{IsImage, image_view}
use Rattle.model.specs.Layout.{block_count}
use Rattle.model.specs.View.{View}
use Rattle.device.proofs.MediaLemmas.{images_held-write}
use Rattle.device.specs.Media.{image_of, images_held}
use Rattle.ordering.specs.Cuts.{seen}
use Rattle.queue_model.specs.Blocks.{home_of}
use Rattle.queue_model.specs.Flush.{IsOfBlock}
use Rattle.machine.specs.Command.{Flush, Number}
use Rattle.softdep.specs.Queued.{Queued, next_cut, pending_of}
use Rattle.live.specs.Alive.{Alive, Answers}
use Rattle.live.specs.Held.{HeldMore, WritesBlock}
use Rattle.live.proofs.Flushes.{flush_answers, flush_geometry, flush_keeps, live_after, refuses_flush, same_length, still_live}
use Rattle.live.proofs.live.Live.flush.Given.{Over}
use Rattle.live.specs.Durable.{GoesSoundly}
use Rattle.live.proofs.Durably.{goes_flushed, goes_still}
use Rattle.live.proofs.live.Live.flush.Goals as goal

pub returns-then-address-blocks-clause-refused : goal.returns-then-address-blocks-clause-refused
returns-then-address-blocks-clause-refused g c h beside belongs =
    let kept = c.args.self.now.kept in
    let geometry = c.geometry.ensures.geometry ∙ ap (λ k. k.geometry) c.frozen.ensures.same ∙ ap (λ (l : Alive _). l.kept.geometry) c.self.view_is in
    (inr (inr (inl (refuses_flush kept.geometry _ c.args.address (subst (λ n. n ≤ c.args.address) (c.blocks-2.ensures.count ∙ ap block_count geometry) c.if-address-blocks.true)))), refl)

pub invariant_of-self : goal.invariant_of-self
invariant_of-self g c =
    still_live (g.D.Device.honest c.self.inside.device) (g.D.Device.honest c.flush.new.device) (g.D.Device.image c.self.inside.device) (g.D.Device.image c.flush.new.device)
    c.self.inside.queue c.flush.new.self c.self.inside.metadata c.self.inside.holdings c.self.invariant c.in_err-count.ensures.refused c.in_err-count.ensures.image c.in_err-count.ensures.honest

-- it writes updates of its own block alone
of_block_of : (g : Over) (c : goal.In_ok-count g) → IsOfBlock (home_of c.self.inside.metadata.geometry) c.args.address (pending_of c.self.inside.queue) (next_cut c.self.inside.queue c.args.address)
of_block_of g c = subst (λ geo. IsOfBlock (home_of geo) c.args.address (pending_of c.self.inside.queue) (next_cut c.self.inside.queue c.args.address)) c.self.invariant.geometry c.in_ok-count.ensures.of_block

pub invariant_of-self-2 : goal.invariant_of-self-2
invariant_of-self-2 g c =
    let e = c.in_ok-count.ensures in
    let a = c.args.address in
    let queue = c.self.inside.queue in
    let kept = c.self.inside.metadata in
    let image = g.D.Device.image c.self.inside.device in
    let image' = g.D.Device.image c.flush.new.device in
    let same : queue.geometry ≡ kept.geometry = c.self.invariant.geometry in
    let same' : c.flush.new.self.geometry ≡ queue.geometry = ap (λ (q : Queued). q.geometry) e.flushed ∙ flush_geometry g.D.Device.KEEPS_ORDER queue a in
    live_after (g.D.Device.honest c.self.inside.device) (g.D.Device.honest c.flush.new.device) image image' queue c.flush.new.self kept c.self.inside.holdings c.self.invariant same'
    (same_length image image' a c.in_ok-count.count (λ z. (e.unwritten z).0) (λ s. let w = e.written s in (w.0, w.1)) ∙ c.self.invariant.alive.count ∙ ap block_count (sym (same' ∙ same)))
    (next_cut queue a) e.closed e.rest e.honest
    (λ h. flush_keeps kept c.self.inside.holdings (image_view kept.geometry image) (pending_of queue) a (next_cut queue a) e.closed (of_block_of g c)
    (image_view kept.geometry image') (pending_of c.flush.new.self) (subst (λ geo. image_view geo image' ≡ seen (image_view geo image) (pending_of queue) (next_cut queue a)) same (e.view h)) e.rest)
    (λ h. subst (λ geo. IsImage geo image → IsImage geo image') same (e.frame h))

-- what the device held is one image more
held_more : (g : Over) (c : goal.In_ok-count g) → 0 < c.in_ok-count.count
    → images_held (g.D.Device.held c.flush.new.device) ≡ images_held (g.D.Device.held c.self.inside.device) ++ g.D.Device.image c.flush.new.device ∷ []
held_more g c some =
    let w = c.in_ok-count.ensures.written some in
    images_held-write g.D.Device.KEEPS_ORDER (g.D.Device.held c.self.inside.device) (g.D.Device.held c.flush.new.device) c.args.address w.0 (g.D.Device.image c.flush.new.device)
    w.2 (g.met.D.Device.answers c.flush.new.device)

pub returns-clause-done : goal.returns-clause-done
returns-clause-done g c = λ h.
    let e = c.in_ok-count.ensures in
    let a = c.args.address in
    let queue = c.self.inside.queue in
    let kept = c.self.inside.metadata in
    let image = g.D.Device.image c.self.inside.device in
    let image' = g.D.Device.image c.flush.new.device in
    let same : queue.geometry ≡ kept.geometry = c.self.invariant.geometry in
    let blocks = c.blocks-2.ensures.count ∙ ap block_count (c.geometry.ensures.geometry ∙ ap (λ k. k.geometry) c.frozen.ensures.same) in
    subst (λ (l : Alive _). (later : List View) × HeldMore l.kept.geometry (g.D.Device.held l.device) (g.D.Device.held c.flush.new.device) later
    × Answers (g.D.Device.image l.device) l (Flush a) (Number c.in_ok-count.count) image' (record { device = c.flush.new.device; queue = c.flush.new.self; kept = kept; holdings = c.self.inside.holdings }) later) c.self.view_is
    (flush_answers c.self.inside.device c.flush.new.device image image' (g.D.Device.held c.self.inside.device) (g.D.Device.held c.flush.new.device) queue c.flush.new.self kept c.self.inside.holdings a
    (subst (λ n. a < n) blocks c.if-address-blocks.false)
    (next_cut queue a) e.closed (of_block_of g c)
    (subst (λ geo. image_view geo image' ≡ seen (image_view geo image) (pending_of queue) (next_cut queue a)) same (e.view h)) e.rest
    c.in_ok-count.count (subst (λ geo. IsImage geo image → IsImage geo image') same (e.frame h) (c.self.invariant.framed (e.honest h)))
    e.count (λ z. ap (map image_of) (e.unwritten z).1) (held_more g c))

pub returns-clause-idle : goal.returns-clause-idle
returns-clause-idle g c = λ none order. c.in_ok-count.ensures.untouched none order ∙ ap (λ (l : Alive _). l.device) c.self.view_is

pub returns-clause-written : goal.returns-clause-written
returns-clause-written g c = λ some.
    let w = c.in_ok-count.ensures.written some in
    subst (λ (l : Alive _). WritesBlock c.args.address (g.D.Device.image l.device) (g.D.Device.held l.device) (g.D.Device.image c.flush.new.device) (g.D.Device.held c.flush.new.device)) c.self.view_is
    (record { bytes = w.0; image_is = w.1; held_is = held_more g c some })

pub returns-clause-sound : goal.returns-clause-sound
returns-clause-sound g c = λ h safe.
    let e = c.in_ok-count.ensures in
    let new : Alive _ = record { device = c.flush.new.device; queue = c.flush.new.self; kept = c.self.inside.metadata; holdings = c.self.inside.holdings } in
    subst (λ (l : Alive _). GoesSoundly (g.D.Device.held l.device) l (g.D.Device.held c.flush.new.device) new safe safe [] []) c.self.view_is
    (goes_flushed (g.D.Device.held c.self.inside.device) (g.D.Device.held c.flush.new.device) (record { device = c.self.inside.device; queue = c.self.inside.queue; kept = c.self.inside.metadata; holdings = c.self.inside.holdings }) new
    refl refl g.D.Device.KEEPS_ORDER c.args.address c.in_ok-count.count e.flushed (λ zero. (e.unwritten zero).1) (λ some. let w = e.written some in (w.0, w.2)) (e.medium h) safe)

pub returns-in_err-count-clause-sound : goal.returns-in_err-count-clause-sound
returns-in_err-count-clause-sound g c = λ h safe.
    let e = c.in_err-count.ensures in
    let new : Alive _ = record { device = c.flush.new.device; queue = c.flush.new.self; kept = c.self.inside.metadata; holdings = c.self.inside.holdings } in
    subst (λ (l : Alive _). GoesSoundly (g.D.Device.held l.device) l (g.D.Device.held c.flush.new.device) new safe safe [] []) c.self.view_is
    (goes_still (g.D.Device.held c.self.inside.device) (g.D.Device.held c.flush.new.device) (record { device = c.self.inside.device; queue = c.self.inside.queue; kept = c.self.inside.metadata; holdings = c.self.inside.holdings }) new
    e.held e.refused refl refl safe)

pub returns-then-address-blocks-clause-sound : goal.returns-then-address-blocks-clause-sound
returns-then-address-blocks-clause-sound g c = λ h safe. goes_still (g.D.Device.held c.args.self.now.device) (g.D.Device.held c.args.self.now.device) c.args.self.now c.args.self.now refl refl refl refl safe
