-- One directory more is followed.
use Rattle.std.proofs.Common.{◌≡◌, ◌+◌, ◌<◌, ◌++◌, [], ◌∷◌, take, length, sym, ap, ◌∙◌, subst, rules, slice_index_or}
use Rattle.std.proofs.lemmas.List.{take_more, append-nil}
use Rattle.std.proofs.lemmas.Grind.{flat_map-append}
use Rattle.frozen.specs.Kept.{frozen_view}
use Rattle.connectivity.specs.Asked.{Asks, entries_in, round_in}
use Rattle.connectivity.proofs.AskLemmas.{asks_append}
use Rattle.connectivity.proofs.asking.follow_piece.Goals as goal

pub loop-directory-preserved : goal.loop-directory-preserved
loop-directory-preserved c =
    let geo = c.args.walk.now.frozen.now.geometry in
    let view = frozen_view c.args.walk.now.frozen.now in
    let round = c.args.round.now in
    let i = c.loop-directory.directory-index in
    let d = slice_index_or round i 0 in
    let low : i < length round = search rules in
    let more : round_in geo view (take (i + 1) round) c.args.piece.now ≡ round_in geo view (take i round) c.args.piece.now ++ entries_in geo view c.args.piece.now d =
    ap (λ ds. round_in geo view ds c.args.piece.now) (take_more round i 0 low) ∙ flat_map-append (entries_in geo view c.args.piece.now) (take i round) (d ∷ [])
    ∙ ap (λ xs. round_in geo view (take i round) c.args.piece.now ++ xs) (append-nil (entries_in geo view c.args.piece.now d)) in
    subst (λ xs. Asks geo view xs c.args.seat.now c.args.found.now.items c.follow_one.new.seat c.follow_one.new.found.items) (sym more)
    (asks_append geo view (round_in geo view (take i round) c.args.piece.now) (entries_in geo view c.args.piece.now d) c.args.seat.now c.args.found.now.items
    c.loop-directory.seat c.loop-directory.found.items c.follow_one.new.seat c.follow_one.new.found.items c.loop-directory.invariant c.in_ok-follow_one.ensures.asked)
