use Rattle.std.proofs.Common.{ℕ, unwrap_or, replicate, sym, ap, ◌∙◌}
use Rattle.frozen.specs.Kept.{Kept, kept_at}
use Rattle.metadata.proofs.metadata.Metadata.kept_or_zeroes.Goals as goal

pub returns-in-Some : goal.returns-in-Some
returns-in-Some c =
    sym (ap (λ o. unwrap_or o (replicate {A = ℕ} 1024 0)) (ap (λ (k : Kept). kept_at k.blocks c.args.address) (sym c.self.view_is) ∙ sym c.in-Some.ensures.block))

pub returns-in-None : goal.returns-in-None
returns-in-None c =
    sym (ap (λ o. unwrap_or o (replicate {A = ℕ} 1024 0)) (ap (λ (k : Kept). kept_at k.blocks c.args.address) (sym c.self.view_is) ∙ sym c.in-None.ensures.block))
