-- Before the loops nothing goes, each turn looks at one more position, and the second loop goes on where the tables of the blocks that go begin.
use Rattle.std.proofs.Common.{◌≡◌, ◌<◌, ◌≤◌, ◌⊎◌, ◌+◌, ◌++◌, ℕ, List, [], inl, inr, sym, ap, ◌∙◌, arith}
use Rattle.std.proofs.lemmas.Bool.{cases_lt}
use Rattle.model.specs.Shape.{most_blocks, position_count, tables}
use Rattle.model.specs.Uses.{blocks_of}
use Rattle.frozen.specs.Kept.{frozen_view}
use Rattle.live_states.specs.Holdings.{is_kept_by}
use Rattle.live_removals.specs.Blocks.{claimed_at, gone, gone_below, is_loose}
use Rattle.live_removals.proofs.Clearing.{between, clears_as, clears_more, clears_nothing, ends, fewer_tables, goes_from, gone_next, starts, table_goes}
use Rattle.live_removals.proofs.freeing.give_up.Goals as goal

pub loop-position-init : goal.loop-position-init
loop-position-init c =
    let geo = c.args.frozen.now.geometry in
    let view = frozen_view c.args.frozen.now in
    let n = c.args.number in
    let left = c.args.left in
    let start = c.min-start.result in
    let loose = is_loose c.args.holdings.now in
    let kept = is_kept_by c.args.holdings.now in
    let most : c.most_blocks.result ≡ most_blocks geo = c.most_blocks.ensures.count ∙ ap most_blocks c.geometry-geometry.ensures.geometry in
    let low : start ≤ left = omega (arith, c.min-start.ensures) in
    let few : start ≤ most_blocks geo = omega (arith, c.min-start.ensures, c.min-end.ensures, most) in (
      clears_as n [] (gone_below loose geo view n left start) c.args.plan.now c.args.plan.now (sym (starts loose geo view n left start low few)) (clears_nothing n c.args.plan.now),
      c.new-holds.ensures.items ∙ sym (starts kept geo view n left start low few),
      omega arith,
      omega (arith, c.min-start.ensures),
    )

pub loop-position-preserved : goal.loop-position-preserved
loop-position-preserved c =
    let geo = c.args.frozen.now.geometry in
    let view = frozen_view c.args.frozen.now in
    let n = c.args.number in
    let left = c.args.left in
    let k = c.loop-position.position in
    let loose = is_loose c.args.holdings.now in
    let kept = is_kept_by c.args.holdings.now in
    let inv = c.loop-position.invariant in
    let most : c.most_blocks.result ≡ most_blocks geo = c.most_blocks.ensures.count ∙ ap most_blocks c.geometry-geometry.ensures.geometry in
    let low : k < most_blocks geo = omega (arith, c.loop-position-test.true, c.min-end.ensures, most) in
    let goes = goes_from geo left k (omega (arith, inv.2, c.loop-position-test.true, c.min-start.ensures)) low in (
      clears_as n (gone_below loose geo view n left k ++ claimed_at loose geo view n k) (gone_below loose geo view n left (k + 1)) c.args.plan.now c.give_up_at.new.plan (sym (gone_next loose geo view n left k goes))
          (clears_more n (gone_below loose geo view n left k) (claimed_at loose geo view n k) c.args.plan.now c.loop-position.plan c.give_up_at.new.plan inv.0 c.in_ok-give_up_at.ensures.plan),
      c.in_ok-give_up_at.ensures.holds ∙ ap (λ (bs : List ℕ). bs ++ claimed_at kept geo view n k) inv.1 ∙ sym (gone_next kept geo view n left k goes),
      omega (arith, inv.2),
      omega (arith, c.loop-position-test.true),
    )

pub loop-table-init : goal.loop-table-init
loop-table-init c =
    let geo = c.args.frozen.now.geometry in
    let view = frozen_view c.args.frozen.now in
    let n = c.args.number in
    let left = c.args.left in
    let start = c.min-start.result in
    let end = c.min-end.result in
    let p = c.loop-position.position in
    let loose = is_loose c.args.holdings.now in
    let kept = is_kept_by c.args.holdings.now in
    let inv = c.loop-position.invariant in
    let most : c.most_blocks.result ≡ most_blocks geo = c.most_blocks.ensures.count ∙ ap most_blocks c.geometry-geometry.ensures.geometry in
    let first : c.tables_end-first.result ≡ most_blocks geo + tables start = c.tables_end-first.ensures.end ∙ ap (λ g. most_blocks g + tables start) c.geometry-geometry.ensures.geometry in
    let last : c.tables_end-last.result ≡ most_blocks geo + tables end = c.tables_end-last.ensures.end ∙ ap (λ g. most_blocks g + tables end) c.geometry-geometry.ensures.geometry in
    let low : start ≤ left = omega (arith, c.min-start.ensures) in
    let inside : end ≤ most_blocks geo = omega (arith, c.min-end.ensures, most) in
    let few : start ≤ most_blocks geo = omega (arith, c.min-start.ensures, inside) in
    let at : p ≡ end = omega (arith, c.loop-position-test.false, inv.3) in
    let all : (blocks_of (view.inode n).size ≤ end) ⊎ (most_blocks geo ≤ end) = elim (cases_lt end (most_blocks geo)) [
      | inl short ↦ inl (omega (arith, short, c.min-end.ensures, most, c.blocks-2.ensures))
      | inr full ↦ inr full
    ] in
    let fewer = fewer_tables geo start end (omega (arith, c.min-start.ensures)) inside in (
      clears_as n (gone_below loose geo view n left p) (gone_below loose geo view n left c.tables_end-first.result) c.args.plan.now c.loop-position.plan
          (ap (gone_below loose geo view n left) at ∙ sym (between loose geo view n left start low few end inside all) ∙ ap (gone_below loose geo view n left) (sym first)) inv.0,
      inv.1 ∙ ap (gone_below kept geo view n left) at ∙ sym (between kept geo view n left start low few end inside all) ∙ ap (gone_below kept geo view n left) (sym first),
      omega arith,
      omega (arith, first, last, fewer),
    )

pub loop-table-preserved : goal.loop-table-preserved
loop-table-preserved c =
    let geo = c.args.frozen.now.geometry in
    let view = frozen_view c.args.frozen.now in
    let n = c.args.number in
    let left = c.args.left in
    let start = c.min-start.result in
    let end = c.min-end.result in
    let k = c.loop-table.table in
    let loose = is_loose c.args.holdings.now in
    let kept = is_kept_by c.args.holdings.now in
    let inv = c.loop-table.invariant in
    let most : c.most_blocks.result ≡ most_blocks geo = c.most_blocks.ensures.count ∙ ap most_blocks c.geometry-geometry.ensures.geometry in
    let first : c.tables_end-first.result ≡ most_blocks geo + tables start = c.tables_end-first.ensures.end ∙ ap (λ g. most_blocks g + tables start) c.geometry-geometry.ensures.geometry in
    let last : c.tables_end-last.result ≡ most_blocks geo + tables end = c.tables_end-last.ensures.end ∙ ap (λ g. most_blocks g + tables end) c.geometry-geometry.ensures.geometry in
    let some : left ≤ end = elim (cases_lt end left) [
      | inr no_more ↦ no_more
      | inl more ↦ absurd (let same : start ≡ end = omega (arith, more, c.min-start.ensures) in let both = ap tables same in omega (arith, inv.2, c.loop-table-test.true, first, last, both))
    ] in
    let same : start ≡ left = omega (arith, some, c.min-start.ensures) in
    let of_left = ap tables same in
    let goes = table_goes geo left k (omega (arith, some, c.min-end.ensures, most)) (omega (arith, inv.2, first, of_left)) in (
      clears_as n (gone_below loose geo view n left k ++ claimed_at loose geo view n k) (gone_below loose geo view n left (k + 1)) c.args.plan.now c.give_up_at-in-loop-table.new.plan (sym (gone_next loose geo view n left k goes))
          (clears_more n (gone_below loose geo view n left k) (claimed_at loose geo view n k) c.args.plan.now c.loop-table.plan c.give_up_at-in-loop-table.new.plan inv.0 c.in_ok-give_up_at-2.ensures.plan),
      c.in_ok-give_up_at-2.ensures.holds ∙ ap (λ (bs : List ℕ). bs ++ claimed_at kept geo view n k) inv.1 ∙ sym (gone_next kept geo view n left k goes),
      omega (arith, inv.2),
      omega (arith, c.loop-table-test.true),
    )

pub returns : goal.returns
returns c =
    let geo = c.args.frozen.now.geometry in
    let view = frozen_view c.args.frozen.now in
    let n = c.args.number in
    let left = c.args.left in
    let end = c.min-end.result in
    let loose = is_loose c.args.holdings.now in
    let kept = is_kept_by c.args.holdings.now in
    let inv = c.loop-table.invariant in
    let most : c.most_blocks.result ≡ most_blocks geo = c.most_blocks.ensures.count ∙ ap most_blocks c.geometry-geometry.ensures.geometry in
    let last : c.tables_end-last.result ≡ most_blocks geo + tables end = c.tables_end-last.ensures.end ∙ ap (λ g. most_blocks g + tables end) c.geometry-geometry.ensures.geometry in
    let inside : end ≤ most_blocks geo = omega (arith, c.min-end.ensures, most) in
    let all : (blocks_of (view.inode n).size ≤ end) ⊎ (most_blocks geo ≤ end) = elim (cases_lt end (most_blocks geo)) [
      | inl short ↦ inl (omega (arith, short, c.min-end.ensures, most, c.blocks-2.ensures))
      | inr full ↦ inr full
    ] in
    let positions = ap position_count c.geometry-geometry.ensures.geometry in
    let within : most_blocks geo + tables end ≤ position_count geo = omega (arith, last, c.tables_end-last.ensures.inside, positions) in
    let at : c.loop-table.table ≡ most_blocks geo + tables end = omega (arith, c.loop-table-test.false, inv.3, last) in record {
      plan = clears_as n (gone_below loose geo view n left c.loop-table.table) (gone loose geo view n left) c.args.plan.now c.loop-table.plan
          (ap (gone_below loose geo view n left) at ∙ sym (ends loose geo view n left end inside all within)) inv.0;
      holds = inv.1 ∙ ap (gone_below kept geo view n left) at ∙ sym (ends kept geo view n left end inside all within);
    }
