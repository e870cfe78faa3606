use Rattle.std.proofs.Common.{◌<◌, Bool, false, List, length, take, sym, ap, ◌∙◌, subst, slice_index_or, set as slice_set}
use Rattle.std.proofs.lemmas.List.Elements.{All-get_or}
use Rattle.live_holdings.proofs.Tables.{unmarked_length, unmarked_next}
use Rattle.live_holdings.proofs.unmark.Goals as goal

pub unmark-requires : goal.unmark-requires
unmark-requires c =
    let k = c.loop-number.number-index in
    let numbers = c.args.numbers.now in
    let marks = c.args.marks.now in
    subst (λ n. slice_index_or numbers k 0 < n) (sym (ap (λ (held : List Bool). length held) c.loop-number.invariant ∙ unmarked_length (take k numbers) marks))
    (All-get_or (λ n. n < length marks) numbers k 0 c.loop-number-test.true c.requires)

pub loop-number-preserved : goal.loop-number-preserved
loop-number-preserved c =
    let k = c.loop-number.number-index in
    let numbers = c.args.numbers.now in
    c.unmark.ensures ∙ ap (λ (held : List Bool). slice_set held (slice_index_or numbers k 0) false) c.loop-number.invariant ∙ sym (unmarked_next numbers k c.args.marks.now c.loop-number-test.true)
