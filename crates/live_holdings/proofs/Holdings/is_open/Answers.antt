use Rattle.std.proofs.Common.{◌≡◌, ◌<◌, List, Option, None, Some, true, false, eqb, sym, ap, ◌∙◌, subst, length, arith}
use Rattle.std.specs.Prelude.{ℕ, slice_index_or}
use Rattle.std.specs.Option.{option_eq}
use Rattle.live_holdings.proofs.Tables.{is_on, none_open, on_is_eq, some_open}
use Rattle.live_states.specs.Holdings.{Holdings, is_open_by}
use Rattle.live_holdings.proofs.Holdings.is_open.Goals as goal

pub returns-then-eq : goal.returns-then-eq
returns-then-eq c =
    let items = c.self.inside.handles.items in
    subst (λ (l : Holdings). true ≡ is_open_by l c.args.number) c.self.view_is
    (sym (some_open items c.args.number c.loop-handle.handle-index c.self.invariant (subst (λ (l : List (Option ℕ)). c.loop-handle.handle-index < length l) c.deref-handle-items.ensures.value c.loop-handle-test.true)
    (on_is_eq c.args.number (slice_index_or items c.loop-handle.handle-index None)
    ∙ ap (λ (l : List (Option ℕ)). option_eq eqb (slice_index_or l c.loop-handle.handle-index None) (Some c.args.number)) (sym c.deref-handle-items.ensures.value) ∙ sym c.eq.ensures ∙ c.if-eq.true)))

pub returns : goal.returns
returns c = subst (λ (l : Holdings). false ≡ is_open_by l c.args.number) c.self.view_is
    (sym (none_open c.self.inside.handles.items c.args.number (λ h low. subst (λ (l : Holdings). is_on c.args.number (slice_index_or l.opened h None) ≡ false) (sym c.self.view_is) (c.loop-handle.invariant h (omega (arith, low, c.loop-handle-test.false, ap length c.deref-handle-items.ensures.value))))))
