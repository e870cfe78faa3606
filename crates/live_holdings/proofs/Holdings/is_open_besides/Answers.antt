use Rattle.std.proofs.Common.{◌≡◌, ◌<◌, None, Some, true, false, eqb, sym, ap, ◌∙◌, subst, length, arith, set as slice_set, length-set, slice_index_or}
use Rattle.std.specs.Option.{option_eq}
use Rattle.std.proofs.lemmas.List.{get_or_read_under}
use Rattle.live_holdings.specs.Handles.{closed}
use Rattle.live_holdings.proofs.Tables.{besides, is_on, none_open, on_is_eq, some_open}
use Rattle.live_states.specs.Holdings.{Holdings, is_open_by}
use Rattle.live_holdings.proofs.Holdings.is_open_besides.Goals as goal

pub returns-then-eq : goal.returns-then-eq
returns-then-eq c =
    let items = c.self.inside.handles.items in
    let h = c.args.handle in
    let g = c.loop-other.other in
    let long = length-set items h None in
    let low : g < length items = omega (arith, c.loop-other-test.true, c.len-other-end.ensures, c.self.inside.handles.ok.0) in
    subst (λ (l : Holdings). true ≡ is_open_by (closed l h) c.args.number) c.self.view_is
    (sym (some_open (slice_set items h None) c.args.number g (omega (arith, long, c.self.invariant)) (omega (arith, long, low))
    (ap (is_on c.args.number) (besides items h g c.if-other-handle.true) ∙ on_is_eq c.args.number (slice_index_or items g None)
    ∙ ap (λ o. option_eq eqb o (Some c.args.number)) (sym (get_or_read_under items g c.self.inside.handles.len c.index.result.now None c.index.ensures (omega (arith, low, c.self.inside.handles.ok.0)) c.self.inside.handles.ok.0)) ∙ sym c.eq.ensures ∙ c.if-eq.true)))

pub returns : goal.returns
returns c =
    let items = c.self.inside.handles.items in
    let h = c.args.handle in
    subst (λ (l : Holdings). false ≡ is_open_by (closed l h) c.args.number) c.self.view_is
    (sym (none_open (slice_set items h None) c.args.number (λ g low. subst (λ (l : Holdings). is_on c.args.number (slice_index_or (slice_set l.opened h None) g None) ≡ false) (sym c.self.view_is)
    (c.loop-other.invariant g (omega (arith, low, length-set items h None, c.loop-other-test.false, c.len-other-end.ensures, c.self.inside.handles.ok.0))))))
