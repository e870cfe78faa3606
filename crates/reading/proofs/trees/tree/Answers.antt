use Rattle.std.proofs.Common.{inl, inr, refl, sym, subst, ◌∙◌}
use Rattle.std.specs.List.{All}
use Rattle.std.proofs.lemmas.List.Elements.{All-push}
use Rattle.std.proofs.lemmas.Result.{err_from_is_err_and}
use Rattle.frozen.specs.Kept.{frozen_view}
use Rattle.model.specs.Image.{image_view}
use Rattle.reading.specs.Trees.{IsListing}
use Rattle.reading.proofs.ByteLemmas.{same_directory}
use Rattle.reading.proofs.CauseLemmas.{list_of_file, list_refused}
use Rattle.reading.proofs.trees.tree.Goals as goal

pub returns-in_err-number-clause-refused : goal.returns-in_err-number-clause-refused
returns-in_err-number-clause-refused c =
    let p = err_from_is_err_and c.from_residual.result c.from_residual.ensures.1 in
    let kept = c.args.frozen.now in
    rw (p.1, p.2) (inr (λ image is. list_refused kept.geometry (image_view kept.geometry image) c.args.path.now c.in_err-number.field-0.0 (c.in_err-number.ensures.refused image is)))

pub returns-then-not-is_directory_at-clause-refused : goal.returns-then-not-is_directory_at-clause-refused
returns-then-not-is_directory_at-clause-refused c = inr (λ image is.
    let kept = c.args.frozen.now in
    let view = image_view kept.geometry image in
    let i = c.in_ok-number.number in
    list_of_file kept.geometry view c.args.path.now i (c.in_ok-number.ensures.found image is)
    (sym (same_directory kept.geometry (frozen_view kept) view is.metadata i) ∙ sym c.is_directory_at.ensures ∙ c.if-not-is_directory_at.true))

pub loop-turn-preserved : goal.loop-turn-preserved
loop-turn-preserved c = λ image is.
    let kept = c.args.frozen.now in
    let P = IsListing kept.geometry (image_view kept.geometry image) in
    subst (All P) (sym c.in_ok-push-2.ensures.items) (All-push P c.loop-turn.listings.items c.in_ok-listing.listing (c.loop-turn.invariant image is) (c.in_ok-listing.ensures image is))

pub returns-in_err-listing-clause-refused : goal.returns-in_err-listing-clause-refused
returns-in_err-listing-clause-refused c =
    let p = err_from_is_err_and c.from_residual-in_err-listing.result c.from_residual-in_err-listing.ensures.1 in
    rw (p.1, p.2) (inr (λ image is. (inl refl, refl)))

pub returns-in_err-add_directories-clause-refused : goal.returns-in_err-add_directories-clause-refused
returns-in_err-add_directories-clause-refused c =
    let p = err_from_is_err_and c.from_residual-in_err-add_directories.result c.from_residual-in_err-add_directories.ensures.1 in
    rw (p.1, p.2) (inr (λ image is. (inl refl, refl)))

pub returns-in_err-push-2-clause-refused : goal.returns-in_err-push-2-clause-refused
returns-in_err-push-2-clause-refused c =
    let p = err_from_is_err_and c.from_residual-in_err-push-2.result c.from_residual-in_err-push-2.ensures.1 in
    rw (p.1, p.2) (inr (λ image is. (inl refl, refl)))
