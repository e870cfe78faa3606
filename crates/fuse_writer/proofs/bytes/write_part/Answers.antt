use Rattle.std.proofs.Common.{◌≡◌, ◌++◌, ap, refl, rules, sym, ◌∙◌}
use Rattle.std.proofs.lemmas.Result.{err_from_is_err_and}
use Rattle.fuse_writer.specs.Requests.{filled, place_in}
use Rattle.fuse_writer.proofs.DoingLemmas.{on_left, on_same, on_then}
use Rattle.fuse_writer.proofs.WriteLemmas.{block_on, block_refused, part_at_start, part_behind, piece_none}
use Rattle.fuse_writer.proofs.bytes.write_part.Goals as goal

pub returns-in_default-clause-written : goal.returns-in_default-clause-written
returns-in_default-clause-written g c = λ done refused.
    on_same _ _ _ _ _ _ _ (part_at_start c.args.handle c.args.index (place_in c.args.index c.args.from) c.args.bytes.now done refused
    (sym c.place_in-at.ensures.place ∙ c.if-at-eq0.true)) (piece_none _ _ c.args.handle c.args.index c.args.bytes.now done refused)

pub returns-then-at-eq0-clause-written : goal.returns-then-at-eq0-clause-written
returns-then-at-eq0-clause-written g c =
    let items : c.in-Ok.piece.items ≡ c.args.bytes.now = search rules in
    λ done refused. on_same _ _ _ _ _ _ _ (part_at_start c.args.handle c.args.index (place_in c.args.index c.args.from) c.args.bytes.now done refused
    (sym c.place_in-at.ensures.place ∙ c.if-at-eq0.true)) (rw items at (c.write_piece.ensures.written done refused))

pub returns-in_err-block-clause-written : goal.returns-in_err-block-clause-written
returns-in_err-block-clause-written g c = λ done refused.
    let mid = c.ask_bytes.new.self in
    on_left _ _ _ _ _ _ _ _ _ (err_from_is_err_and c.from_residual.result c.from_residual.ensures.1)
    (on_same _ _ _ _ _ _ _ (part_behind c.args.handle c.args.index (place_in c.args.index c.args.from) c.args.bytes.now done refused
    (λ e. c.if-at-eq0.false (c.place_in-at.ensures.place ∙ e)))
    (block_refused c.args.mounted.now.asking mid.asking c.args.mounted.now.session mid.session c.args.handle c.args.index _ _ _ c.ask_bytes.ensures.asked (λ geo. refl) c.ask_bytes.ensures.session _ refused _
    c.in_err-block.was))

pub returns-in_default-filled-clause-written : goal.returns-in_default-filled-clause-written
returns-in_default-filled-clause-written g c = λ done refused.
    let mid = c.ask_bytes.new.self in
    on_same _ _ _ _ _ _ _ (part_behind c.args.handle c.args.index (place_in c.args.index c.args.from) c.args.bytes.now done refused
    (λ e. c.if-at-eq0.false (c.place_in-at.ensures.place ∙ e)))
    (on_then _ _ _ _ _ _ _ _ _
    (block_on c.args.mounted.now.asking mid.asking c.args.mounted.now.session mid.session c.args.handle c.args.index _ _ _ c.ask_bytes.ensures.asked (λ geo. refl) c.ask_bytes.ensures.session _ _ _
    c.in_ok-block.was)
    (piece_none mid.asking mid.session c.args.handle c.args.index (filled (place_in c.args.index c.args.from) c.in_ok-block.block.items ++ c.args.bytes.now) done refused))

pub returns-clause-written : goal.returns-clause-written
returns-clause-written g c =
    let mid = c.ask_bytes.new.self in
    let items : c.in-Ok-filled.piece.items ≡ filled (place_in c.args.index c.args.from) c.in_ok-block.block.items ++ c.args.bytes.now =
    c.in-Ok-filled.ensures ∙ ap (λ at. filled at c.in_ok-block.block.items ++ c.args.bytes.now) c.place_in-at.ensures.place in
    λ done refused. on_same _ _ _ _ _ _ _ (part_behind c.args.handle c.args.index (place_in c.args.index c.args.from) c.args.bytes.now done refused
    (λ e. c.if-at-eq0.false (c.place_in-at.ensures.place ∙ e)))
    (on_then _ _ _ _ _ _ _ _ _
    (block_on c.args.mounted.now.asking mid.asking c.args.mounted.now.session mid.session c.args.handle c.args.index _ _ _ c.ask_bytes.ensures.asked (λ geo. refl) c.ask_bytes.ensures.session _ _ _
    c.in_ok-block.was)
    (rw items at (c.write_piece-2.ensures.written done refused)))
