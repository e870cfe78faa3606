use Rattle.std.proofs.Common.{◌≡◌, ℕ, ◌<◌, length, sym, ap, ◌∙◌, subst, arith}
use Rattle.std.proofs.lemmas.List.Sums.{position_or_len_is}
use Rattle.workers.specs.Turns.{begins_with}
use Rattle.workers.proofs.MergeLemmas.{no_holder}
use Rattle.workers.proofs.merging.holder_of.Goals as goal

pub returns-else-not-is_first : goal.returns-else-not-is_first
returns-else-not-is_first g c =
    let list = c.index-lists-holder.result in
    sym (position_or_len_is (λ q. begins_with c.args.unit q.items) c.args.lists.now c.loop-holder.holder list c.loop-holder.invariant.within (λ k. c.loop-holder.invariant.before k list)
    (λ within. ap (λ q. begins_with c.args.unit q.items) (sym c.index-lists-holder.is) ∙ sym c.is_first.ensures ∙ c.if-not-is_first.false))

pub returns-after-loop-holder : goal.returns-after-loop-holder
returns-after-loop-holder g c =
    let past = c.loop-holder-test.false in
    let all : length c.args.lists.now ≡ c.loop-holder.holder = omega (arith, c.loop-holder.invariant.within) in
    sym (no_holder (λ q. begins_with c.args.unit q.items) c.args.lists.now (λ k d within. c.loop-holder.invariant.before k d (subst (λ (n : ℕ). k < n) all within)) ∙ all)
