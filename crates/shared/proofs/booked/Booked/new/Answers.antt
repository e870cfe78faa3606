use Rattle.std.proofs.Common.{◌≡◌, [], refl, rules, subst, sym}
use Rattle.std.proofs.lemmas.Result.{IfOk-at_ok, err_from_is_err_and}
use Rattle.snapshot.specs.Alive.{Alive}
use Rattle.shared.specs.Opened.{opened_of}
use Rattle.shared.proofs.TraceLemmas.{opened}
use Rattle.shared.proofs.booked.Booked.new.Goals as goal

pub returns-in_err-trace-clause-error : goal.returns-in_err-trace-clause-error
returns-in_err-trace-clause-error g c =
    let p = err_from_is_err_and c.from_residual.result c.from_residual.ensures.1 in
    rw (p.1, p.2) refl

pub invariant_of-result : goal.invariant_of-result
invariant_of-result g c =
    let volume = c.in_ok-trace.volume in
    let same : volume ≡ c.args.volume = search rules in
    let items : c.in_ok-trace.trace.items ≡ [] = IfOk-at_ok (λ trace. trace.items ≡ []) c.in_ok-trace.ensures.ok.0 c.with_capacity.ensures.items in (
      search rules,
      search rules,
      search rules,
      search rules,
      search rules,
      search rules,
      λ h. rw items (opened g.D.Device.held g.D.Device.image g.L.Sharing.opens volume (subst (λ (v : Alive _). g.L.Sharing.opens (opened_of g.D.Device.held g.D.Device.image v)) (sym same) c.requires.opens) (c.live.ensures.balance h)),
      search rules,
    )
