use Rattle.std.proofs.Common.{false, refl, sym, ap, ◌∙◌}
use Rattle.std.proofs.lemmas.Bool.{both_ways}
use Rattle.std.proofs.lemmas.Result.{err_from_is_err_and}
use Rattle.live_paths.specs.Walks.{named_of}
use Rattle.live_paths.proofs.WalkLemmas.{target_found, target_refused, target_root}
use Rattle.live_paths.proofs.walking.target.Goals as goal

pub returns-then-is_root : goal.returns-then-is_root
returns-then-is_root c = λ view shown. sym (target_root c.args.frozen.now.geometry view c.args.path.now (c.if-is_root.ensures.root.0 refl))

pub returns-in_err-directory : goal.returns-in_err-directory
returns-in_err-directory c = λ view shown.
    let p = err_from_is_err_and c.from_residual.result c.from_residual.ensures.1 in
    rw (p.1, p.2) (sym (target_refused c.args.frozen.now.geometry view c.args.path.now c.in_err-directory.field-0.0 (λ e. both_ways false refl (c.if-is_root.ensures.root.1 e)) (sym (c.walk.ensures view shown) ∙ c.in_err-directory.was)))

pub returns : goal.returns
returns c = λ view shown.
    c.named.ensures view shown
    ∙ ap (named_of c.args.frozen.now.geometry view c.in_ok-directory.directory) c.name.ensures.name
    ∙ sym (target_found c.args.frozen.now.geometry view c.args.path.now c.in_ok-directory.directory (λ e. both_ways false refl (c.if-is_root.ensures.root.1 e)) (sym (c.walk.ensures view shown) ∙ c.in_ok-directory.was))
