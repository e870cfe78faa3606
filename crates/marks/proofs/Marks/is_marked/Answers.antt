use Rattle.std.proofs.Common.{◌<◌, ◌∙◌, sym, ap, subst, length, get_or, false, ◌/◌}
use Rattle.marks.specs.Words.{bit}
use Rattle.marks.proofs.Ladders.{number_within, number_place, mark_is_bit}
use Rattle.marks.proofs.Marks.is_marked.Goals as goal

pub has_bit-requires : goal.has_bit-requires
has_bit-requires c =
    let m = c.self.inside in
    let low : c.args.number < m.count = number_within m.numbers.items c.args.self.now m.count c.args.number c.self.view_is c.requires in
    subst (λ xs. c.args.number / 64 < length xs) (sym c.deref.ensures.value) (number_place m.count m.numbers.items m.groups.items m.tops.items c.args.number low c.self.invariant)

pub returns : goal.returns
returns c =
    let m = c.self.inside in
    let low : c.args.number < m.count = number_within m.numbers.items c.args.self.now m.count c.args.number c.self.view_is c.requires in
    c.has_bit.ensures ∙ ap (λ xs. bit xs c.args.number) c.deref.ensures.value
    ∙ sym (mark_is_bit m.numbers.items m.count c.args.number low) ∙ ap (λ xs. get_or xs c.args.number false) c.self.view_is
