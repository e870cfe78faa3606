use Rattle.std.proofs.Common.{◌<◌, ◌/◌, ◌∙◌, true, sym, ap, subst, length, set}
use Rattle.marks.specs.Words.{ChangesBit}
use Rattle.marks.proofs.Ladders.{level, number_within, number_place, group_place, top_place, ladder_marked, marks_changed}
use Rattle.marks.proofs.Marks.mark.Goals as goal

pub set_bit-requires : goal.set_bit-requires
set_bit-requires c =
    let m = c.self.inside in
    let low = number_within m.numbers.items c.args.self.now m.count c.args.number c.self.view_is c.requires in
    subst (λ xs. c.args.number / 64 < length xs) (sym c.deref_mut.ensures.value)
    (number_place m.count m.numbers.items m.groups.items m.tops.items c.args.number low c.self.invariant)

pub set_bit-requires-2 : goal.set_bit-requires-2
set_bit-requires-2 c =
    let m = c.self.inside in
    let low = number_within m.numbers.items c.args.self.now m.count c.args.number c.self.view_is c.requires in
    subst (λ xs. c.args.number / 64 / 64 < length xs) (sym c.deref_mut-2.ensures.value)
    (group_place m.count m.numbers.items m.groups.items m.tops.items c.args.number low c.self.invariant)

pub set_bit-requires-3 : goal.set_bit-requires-3
set_bit-requires-3 c =
    let m = c.self.inside in
    let low = number_within m.numbers.items c.args.self.now m.count c.args.number c.self.view_is c.requires in
    subst (λ xs. c.args.number / 64 / 64 / 64 < length xs) (sym c.deref_mut-3.ensures.value)
    (top_place m.count m.numbers.items m.groups.items m.tops.items c.args.number low c.self.invariant)

pub invariant_of-self : goal.invariant_of-self
invariant_of-self c =
    let m = c.self.inside in
    let low = number_within m.numbers.items c.args.self.now m.count c.args.number c.self.view_is c.requires in
    ladder_marked m.count m.numbers.items m.groups.items m.tops.items c.args.number low c.self.invariant _ _ _
    (level (λ old new. ChangesBit old new c.args.number true) m.numbers c.deref_mut.result.now c.set_bit.new.words c.deref_mut.ensures.value c.deref_mut.ensures.len c.set_bit.auto.words c.set_bit.ensures)
    (level (λ old new. ChangesBit old new (c.args.number / 64) true) m.groups c.deref_mut-2.result.now c.set_bit-2.new.words c.deref_mut-2.ensures.value c.deref_mut-2.ensures.len c.set_bit-2.auto.words c.set_bit-2.ensures)
    (level (λ old new. ChangesBit old new (c.args.number / 64 / 64) true) m.tops c.deref_mut-3.result.now c.set_bit-3.new.words c.deref_mut-3.ensures.value c.deref_mut-3.ensures.len c.set_bit-3.auto.words c.set_bit-3.ensures)

pub returns : goal.returns
returns c =
    let m = c.self.inside in
    let low = number_within m.numbers.items c.args.self.now m.count c.args.number c.self.view_is c.requires in
    marks_changed m.numbers.items _ c.args.number true
    (level (λ old new. ChangesBit old new c.args.number true) m.numbers c.deref_mut.result.now c.set_bit.new.words c.deref_mut.ensures.value c.deref_mut.ensures.len c.set_bit.auto.words c.set_bit.ensures)
    m.count low ∙ ap (λ marks. set marks c.args.number true) c.self.view_is
