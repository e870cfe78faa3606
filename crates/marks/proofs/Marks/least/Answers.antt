use Rattle.std.proofs.Common.{subst}
use Rattle.marks.specs.Marks.{IsLeastMarked, NothingMarked}
use Rattle.marks.specs.Words.{IsFirstWord, IsLeastOfWord, NoWord}
use Rattle.marks.proofs.Ladders.{nothing_marked, least_mark, least_in_first, first_below}
use Rattle.marks.proofs.Marks.least.Goals as goal

pub returns-in_err-top : goal.returns-in_err-top
returns-in_err-top c =
    let m = c.self.inside in
    rw c.from_residual.ensures
    (subst NothingMarked c.self.view_is
    (nothing_marked m.count m.numbers.items m.groups.items m.tops.items c.self.invariant (subst NoWord c.deref.ensures.value c.in_err-top.ensures)))

pub returns : goal.returns
returns c =
    let m = c.self.inside in
    let top : IsFirstWord m.tops.items c.in_ok-top.top = subst (λ xs. IsFirstWord xs c.in_ok-top.top) c.deref.ensures.value c.in_ok-top.ensures in
    let group : IsLeastOfWord m.tops.items c.in_ok-top.top c.least_bit-group.result = subst (λ xs. IsLeastOfWord xs c.in_ok-top.top c.least_bit-group.result) c.deref-2.ensures.value c.least_bit-group.ensures in
    let word : IsLeastOfWord m.groups.items c.least_bit-group.result c.least_bit-word.result = subst (λ xs. IsLeastOfWord xs c.least_bit-group.result c.least_bit-word.result) c.deref-3.ensures.value c.least_bit-word.ensures in
    let number : IsLeastOfWord m.numbers.items c.least_bit-word.result c.least_bit-number.result = subst (λ xs. IsLeastOfWord xs c.least_bit-word.result c.least_bit-number.result) c.deref-4.ensures.value c.least_bit-number.ensures in
    let first_group : IsFirstWord m.groups.items c.least_bit-group.result = first_below m.tops.items m.groups.items c.least_bit-group.result c.self.invariant.tops_tell (least_in_first m.tops.items c.in_ok-top.top c.least_bit-group.result top group) in
    let first_word : IsFirstWord m.numbers.items c.least_bit-word.result = first_below m.groups.items m.numbers.items c.least_bit-word.result c.self.invariant.groups_tell (least_in_first m.groups.items c.least_bit-group.result c.least_bit-word.result first_group word) in
    subst (λ marks. IsLeastMarked marks c.least_bit-number.result) c.self.view_is
    (least_mark m.count m.numbers.items m.groups.items m.tops.items c.self.invariant c.least_bit-number.result
    (least_in_first m.numbers.items c.least_bit-word.result c.least_bit-number.result first_word number))
