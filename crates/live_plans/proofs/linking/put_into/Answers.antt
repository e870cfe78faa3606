use Rattle.std.proofs.Common.{ℕ, List, ◌≡◌, ◌∙◌, sym, ap, refl, subst, IsOk, inl, inr}
use Rattle.std.specs.Arc.{arc_value}
use Rattle.std.specs.List.{each_same}
use Rattle.machine.specs.Cells.{with_pointer}
use Rattle.live_plans.proofs.linking.put_into.Goals as goal

pub returns : goal.returns
returns c =
    let old : List ℕ = arc_value c.args.pointers.now in
    let same : c.in_ok-bytes.bytes.now ≡ old = elim c.in_ok-bytes.ensures.value [ inl e ↦ e | inr e ↦ each_same old c.in_ok-bytes.bytes.now e.whole ] in
    c.make_mut.follows.holds c.put_pointer.new.pointers (subst IsOk (sym c.in_ok-bytes.was) refl)
    ∙ c.put_pointer.ensures
    ∙ ap (λ bytes. with_pointer bytes c.args.place c.args.block) same
