-- What is cut off is the next part of the walk.
use Rattle.std.proofs.Common.{◌≡◌, List, ℕ, ◌∷◌, [], Option, sym, ap, ◌∙◌, Bor}
use Rattle.std.specs.Option.{option_map_or}
use Rattle.std.proofs.lemmas.Result.{err_from_is_err_and}
use Rattle.frozen.specs.Kept.{frozen_view}
use Rattle.machine.specs.Paths.{walk}
use Rattle.live_paths.specs.Parts.{pieces}
use Rattle.live_paths.proofs.PartLemmas.{a_piece}
use Rattle.live_paths.proofs.WalkLemmas.{walk_ends, walk_last, walk_next}
use Rattle.live_paths.proofs.walking.holder.Goals as goal

pub returns-in_default : goal.returns-in_default
returns-in_default c =
    let geo = c.args.frozen.now.geometry in
    let view = frozen_view c.args.frozen.now in
    let part = c.split_first_piece.result.0.now in
    let cut : pieces c.pieces.rest.now ≡ part ∷ [] =
    c.split_first_piece.ensures.pieces ∙ ap (λ (o : Option (Bor (List ℕ))). part ∷ option_map_or (λ rest. pieces rest.now) o []) c.in_default.is in
    c.last.ensures ∙ sym (c.pieces.invariant ∙ ap (walk geo view c.pieces.directory) cut ∙ walk_last geo view c.pieces.directory part)

pub returns-in_err-directory : goal.returns-in_err-directory
returns-in_err-directory c =
    let geo = c.args.frozen.now.geometry in
    let view = frozen_view c.args.frozen.now in
    let part = c.split_first_piece.result.0.now in
    let cut : pieces c.pieces.rest.now ≡ part ∷ pieces c.in-Some.after.now =
    c.split_first_piece.ensures.pieces ∙ ap (λ (o : Option (Bor (List ℕ))). part ∷ option_map_or (λ rest. pieces rest.now) o []) c.in-Some.is in
    let more = a_piece c.in-Some.after.now in
    let p = err_from_is_err_and c.from_residual.result c.from_residual.ensures.1 in
    let ends = c.pieces.invariant ∙ ap (walk geo view c.pieces.directory) cut
    ∙ walk_ends geo view c.pieces.directory c.in_err-directory.field-0.0 part (pieces c.in-Some.after.now) more.0 more.1 more.2 (sym c.next.ensures ∙ c.in_err-directory.was) in
    rw (p.1, p.2) (sym ends)

pub pieces-preserved : goal.pieces-preserved
pieces-preserved c =
    let geo = c.args.frozen.now.geometry in
    let view = frozen_view c.args.frozen.now in
    let part = c.split_first_piece.result.0.now in
    let cut : pieces c.pieces.rest.now ≡ part ∷ pieces c.in-Some.after.now =
    c.split_first_piece.ensures.pieces ∙ ap (λ (o : Option (Bor (List ℕ))). part ∷ option_map_or (λ rest. pieces rest.now) o []) c.in-Some.is in
    let more = a_piece c.in-Some.after.now in
    c.pieces.invariant ∙ ap (walk geo view c.pieces.directory) cut
    ∙ walk_next geo view c.pieces.directory c.in_ok-directory.directory part (pieces c.in-Some.after.now) more.0 more.1 more.2 (sym c.next.ensures ∙ c.in_ok-directory.was)
