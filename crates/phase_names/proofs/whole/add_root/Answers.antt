use Rattle.std.proofs.Common.{refl, sym, ◌∙◌}
use Rattle.std.proofs.lemmas.Bool.{both_ways}
use Rattle.std.proofs.lemmas.Result.{err_from_is_err_and}
use Rattle.findings.specs.declared.finding.Finding.TheVariants.{RootBad}
use Rattle.phase_names.proofs.AddLemmas.{adds_pushed, adds_unless, adds_when}
use Rattle.phase_names.proofs.whole.add_root.Goals as goal

pub returns-in_err-push : goal.returns-in_err-push
returns-in_err-push c = let p = err_from_is_err_and c.from_residual.result c.from_residual.ensures.1 in rw p.1 tt

pub returns-in_ok-push : goal.returns-in_ok-push
returns-in_ok-push c =
    adds_when _ RootBad c.args.found.now.items c.push.new.self.items (sym c.is_directory_at.ensures ∙ c.if-not-is_directory_at.true)
    (adds_pushed RootBad c.args.found.now.items c.push.new.self.items c.in_ok-push.ensures.items)

pub returns-else-not-is_directory_at : goal.returns-else-not-is_directory_at
returns-else-not-is_directory_at c =
    adds_unless _ RootBad c.args.found.now.items c.args.found.now.items (λ f. both_ways _ f (sym c.is_directory_at.ensures ∙ c.if-not-is_directory_at.false)) refl
