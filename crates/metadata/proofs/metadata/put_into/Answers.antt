use Rattle.std.proofs.Common.{ℕ, List, ◌≡◌, sym, refl, subst, IsOk, inl, inr}
use Rattle.std.specs.Arc.{arc_value}
use Rattle.std.specs.List.{each_same}
use Rattle.model.specs.Cells.{Update}
use Rattle.model.specs.Image.{IsBlock}
use Rattle.updates.specs.Values.{change}
use Rattle.updates.specs.Alone.{IsPutInto}
use Rattle.metadata.proofs.metadata.put_into.Goals as goal

pub returns-clause-put : goal.returns-clause-put
returns-clause-put c =
    let geo = c.args.geometry.now in
    let u : Update = change c.args.change.now in
    let old : List ℕ = arc_value c.args.block.now in
    let put : IsPutInto geo u c.in_ok-bytes.bytes.now c.put.new.block = record { view = c.put.ensures.view; alone = c.put.ensures.alone; group_block = c.put.ensures.group_block } in
    let same : c.in_ok-bytes.bytes.now ≡ old = elim c.in_ok-bytes.ensures.value [ inl e ↦ e | inr e ↦ each_same old c.in_ok-bytes.bytes.now e.whole ] in
    subst (IsPutInto geo u old) (sym (c.make_mut.follows.holds c.put.new.block (subst IsOk (sym c.in_ok-bytes.was) refl)))
    (subst (λ before. IsPutInto geo u before c.put.new.block) same put)

pub returns-clause-whole : goal.returns-clause-whole
returns-clause-whole c = subst IsBlock (sym (c.make_mut.follows.holds c.put.new.block (subst IsOk (sym c.in_ok-bytes.was) refl))) c.is_whole.ensures
