-- A mark tells, and past the marks nothing is in the set.
use Rattle.std.proofs.Common.{◌<◌, false, ap, ◌∙◌, sym, subst, length, slice_index_or, arith}
use Rattle.std.proofs.lemmas.Bool.{ltb-true}
use Rattle.std.proofs.lemmas.List.{get_or_default}
use Rattle.sets.specs.Members.{is_among}
use Rattle.sets.proofs.MarkLemmas.{mark_tells}
use Rattle.sets.proofs.members.Members.has.Goals as goal

pub returns-in-Some : goal.returns-in-Some
returns-in-Some c =
    let marks = c.self.inside.marks.items in
    let low : c.args.number < length marks = subst (λ xs. c.args.number < length xs) c.deref.ensures.value (ltb-true c.args.number (length c.deref.result.now) (sym c.in-Some.ensures.lookup.0)) in
    c.in-Some.ensures.lookup.1 ∙ ap (λ xs. slice_index_or xs c.args.number c.in-Some.is_member.now) c.deref.ensures.value
    ∙ get_or_default marks c.args.number c.in-Some.is_member.now false low
    ∙ mark_tells c.self.inside.numbers.items marks c.args.number c.self.invariant ∙ ap (λ xs. is_among xs c.args.number) c.self.view_is

pub returns-in-None : goal.returns-in-None
returns-in-None c =
    let marks = c.self.inside.marks.items in
    c.in-None.ensures.lookup.4 (omega arith) false ∙ ap (λ xs. slice_index_or xs c.args.number false) c.deref.ensures.value
    ∙ mark_tells c.self.inside.numbers.items marks c.args.number c.self.invariant ∙ ap (λ xs. is_among xs c.args.number) c.self.view_is
