use Rattle.std.proofs.Common.{◌≡◌, ℕ, ◌+◌, ◌/◌, ◌∙◌, refl, ap, length, replicate, arith}
use Rattle.std.proofs.lemmas.List.{length-replicate}
use Rattle.marks.specs.Words.{bits}
use Rattle.marks.proofs.Ladders.{fresh_ladder, same_ladder, no_marks}
use Rattle.marks.proofs.Marks.new.Goals as goal

pub invariant_of-result : goal.invariant_of-result
invariant_of-result c =
    let i : ℕ = (c.args.count + 63) / 64 in
    let first : c.len.result ≡ i = c.len.ensures ∙ c.in_ok-numbers.numbers.ok.0 ∙ ap length c.in_ok-numbers.ensures ∙ length-replicate i 0 in
    let j : ℕ = (c.len.result + 63) / 64 in
    let second : c.len-2.result ≡ j = c.len-2.ensures ∙ c.in_ok-groups.groups.ok.0 ∙ ap length c.in_ok-groups.ensures ∙ length-replicate j 0 in
    let k : ℕ = (c.len-2.result + 63) / 64 in
    same_ladder c.args.count (replicate i 0) (replicate j 0) (replicate k 0) c.in_ok-numbers.numbers.items c.in_ok-groups.groups.items c.in_ok-tops.tops.items
    c.in_ok-numbers.ensures c.in_ok-groups.ensures c.in_ok-tops.ensures
    (fresh_ladder c.args.count i j k (omega arith) refl (ap (λ n. (n + 63) / 64) first) (ap (λ n. (n + 63) / 64) second))

pub returns : goal.returns
returns c = ap (λ xs. bits xs c.args.count) c.in_ok-numbers.ensures ∙ no_marks c.args.count ((c.args.count + 63) / 64)
