use Rattle.std.proofs.Common.{◌≡◌, ◌<◌, ◌/◌, ◌∙◌, false, sym, ap, subst, length, set}
use Rattle.std.specs.Vec.{with_items}
use Rattle.marks.specs.Words.{ChangesBit, ClearsBit, bits}
use Rattle.marks.proofs.Ladders.{level, number_within, number_place, group_place, top_place, ladder_left, ladder_group_left, ladder_emptied, marks_changed}
use Rattle.marks.proofs.Marks.unmark.Goals as goal
use Rattle.marks.proofs.Marks.unmark.Goals.{else-clear_bit-via-then-clear_bit+else-clear_bit-2, else-clear_bit-via-else-clear_bit}

pub clear_bit-requires : goal.clear_bit-requires
clear_bit-requires c =
    let m = c.self.inside in
    let low = number_within m.numbers.items c.args.self.now m.count c.args.number c.self.view_is c.requires in
    subst (λ xs. c.args.number / 64 < length xs) (sym c.deref_mut.ensures.value)
    (number_place m.count m.numbers.items m.groups.items m.tops.items c.args.number low c.self.invariant)

pub clear_bit-requires-then-clear_bit : goal.clear_bit-requires-then-clear_bit
clear_bit-requires-then-clear_bit c =
    let m = c.self.inside in
    let low = number_within m.numbers.items c.args.self.now m.count c.args.number c.self.view_is c.requires in
    subst (λ xs. c.args.number / 64 / 64 < length xs) (sym c.deref_mut-then-clear_bit.ensures.value)
    (group_place m.count m.numbers.items m.groups.items m.tops.items c.args.number low c.self.invariant)

pub clear_bit-requires-then-clear_bit-2 : goal.clear_bit-requires-then-clear_bit-2
clear_bit-requires-then-clear_bit-2 c =
    let m = c.self.inside in
    let low = number_within m.numbers.items c.args.self.now m.count c.args.number c.self.view_is c.requires in
    subst (λ xs. c.args.number / 64 / 64 / 64 < length xs) (sym c.deref_mut-then-clear_bit-2.ensures.value)
    (top_place m.count m.numbers.items m.groups.items m.tops.items c.args.number low c.self.invariant)

pub invariant_of-self : goal.invariant_of-self
invariant_of-self c =
    let m = c.self.inside in
    let low = number_within m.numbers.items c.args.self.now m.count c.args.number c.self.view_is c.requires in
    ladder_emptied m.count m.numbers.items m.groups.items m.tops.items c.args.number low c.self.invariant _
    c.clear_bit.result (level (λ old new. ClearsBit old new c.args.number c.clear_bit.result) m.numbers c.deref_mut.result.now c.clear_bit.new.words c.deref_mut.ensures.value c.deref_mut.ensures.len c.clear_bit.auto.words c.clear_bit.ensures)
    _ c.clear_bit-then-clear_bit.result (level (λ old new. ClearsBit old new (c.args.number / 64) c.clear_bit-then-clear_bit.result) m.groups c.deref_mut-then-clear_bit.result.now c.clear_bit-then-clear_bit.new.words c.deref_mut-then-clear_bit.ensures.value c.deref_mut-then-clear_bit.ensures.len c.clear_bit-then-clear_bit.auto.words c.clear_bit-then-clear_bit.ensures)
    c.if-clear_bit.true _ c.if-clear_bit-2.true (level (λ old new. ChangesBit old new (c.args.number / 64 / 64) false) m.tops c.deref_mut-then-clear_bit-2.result.now c.clear_bit-then-clear_bit-2.new.words c.deref_mut-then-clear_bit-2.ensures.value c.deref_mut-then-clear_bit-2.ensures.len c.clear_bit-then-clear_bit-2.auto.words c.clear_bit-then-clear_bit-2.ensures.changes)

pub invariant_of-self-else-clear_bit-2 : goal.invariant_of-self-else-clear_bit-2
invariant_of-self-else-clear_bit-2 c =
    let m = c.self.inside in
    let low = number_within m.numbers.items c.args.self.now m.count c.args.number c.self.view_is c.requires in
    ladder_group_left m.count m.numbers.items m.groups.items m.tops.items c.args.number low c.self.invariant _
    c.clear_bit.result (level (λ old new. ClearsBit old new c.args.number c.clear_bit.result) m.numbers c.deref_mut.result.now c.clear_bit.new.words c.deref_mut.ensures.value c.deref_mut.ensures.len c.clear_bit.auto.words c.clear_bit.ensures)
    _ c.clear_bit-then-clear_bit.result (level (λ old new. ClearsBit old new (c.args.number / 64) c.clear_bit-then-clear_bit.result) m.groups c.deref_mut-then-clear_bit.result.now c.clear_bit-then-clear_bit.new.words c.deref_mut-then-clear_bit.ensures.value c.deref_mut-then-clear_bit.ensures.len c.clear_bit-then-clear_bit.auto.words c.clear_bit-then-clear_bit.ensures)
    c.if-clear_bit.true c.if-clear_bit-2.false

pub invariant_of-self-else-clear_bit : goal.invariant_of-self-else-clear_bit
invariant_of-self-else-clear_bit c =
    let m = c.self.inside in
    let low = number_within m.numbers.items c.args.self.now m.count c.args.number c.self.view_is c.requires in
    ladder_left m.count m.numbers.items m.groups.items m.tops.items c.args.number low c.self.invariant _
    c.clear_bit.result (level (λ old new. ClearsBit old new c.args.number c.clear_bit.result) m.numbers c.deref_mut.result.now c.clear_bit.new.words c.deref_mut.ensures.value c.deref_mut.ensures.len c.clear_bit.auto.words c.clear_bit.ensures)
    c.if-clear_bit.false

pub returns-then-clear_bit-2 : goal.returns-then-clear_bit-2
returns-then-clear_bit-2 c =
    let m = c.self.inside in
    let low = number_within m.numbers.items c.args.self.now m.count c.args.number c.self.view_is c.requires in
    let change = level (λ old new. ChangesBit old new c.args.number false) m.numbers c.deref_mut.result.now c.clear_bit.new.words c.deref_mut.ensures.value c.deref_mut.ensures.len c.clear_bit.auto.words c.clear_bit.ensures.changes in
    marks_changed m.numbers.items _ c.args.number false change m.count low ∙ ap (λ marks. set marks c.args.number false) c.self.view_is

pub returns-else-clear_bit : goal.returns-else-clear_bit
returns-else-clear_bit c =
    let m = c.self.inside in
    let low = number_within m.numbers.items c.args.self.now m.count c.args.number c.self.view_is c.requires in
    let change = level (λ old new. ChangesBit old new c.args.number false) m.numbers c.deref_mut.result.now c.clear_bit.new.words c.deref_mut.ensures.value c.deref_mut.ensures.len c.clear_bit.auto.words c.clear_bit.ensures.changes in
    let marks : bits (with_items m.numbers c.clear_bit.new.words).items m.count ≡ set c.args.self.now c.args.number false =
    marks_changed m.numbers.items _ c.args.number false change m.count low ∙ ap (λ marks. set marks c.args.number false) c.self.view_is in
    elim c.else-clear_bit.branch [
      | else-clear_bit-via-then-clear_bit+else-clear_bit-2 w ↦ w.self-is ∙ marks
      | else-clear_bit-via-else-clear_bit w ↦ w.self-is ∙ marks
    ]
