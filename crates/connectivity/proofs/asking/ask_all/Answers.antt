-- One number more is asked for.
use Rattle.std.proofs.Common.{◌<◌, [], ◌∷◌, take, length, sym, subst, rules, slice_index_or}
use Rattle.std.proofs.lemmas.List.{take_more}
use Rattle.frozen.specs.Kept.{frozen_view}
use Rattle.connectivity.specs.Asked.{Asks}
use Rattle.connectivity.proofs.AskLemmas.{asks_append}
use Rattle.connectivity.proofs.asking.ask_all.Goals as goal

pub loop-number-preserved : goal.loop-number-preserved
loop-number-preserved c =
    let kept = c.args.walk.now.frozen.now in
    let numbers = c.args.numbers.now in
    let i = c.loop-number.number-index in
    let low : i < length numbers = search rules in
    subst (λ xs. Asks kept.geometry (frozen_view kept) xs c.args.seat.now c.args.found.now.items c.ask.new.seat c.ask.new.found.items) (sym (take_more numbers i 0 low))
    (asks_append kept.geometry (frozen_view kept) (take i numbers) (slice_index_or numbers i 0 ∷ []) c.args.seat.now c.args.found.now.items
    c.loop-number.seat c.loop-number.found.items c.ask.new.seat c.ask.new.found.items c.loop-number.invariant c.in_ok-ask.ensures.asked)
