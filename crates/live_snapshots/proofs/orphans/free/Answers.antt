-- First the number goes, then the block at each position that it may have, and then its tables.
use Rattle.std.proofs.Common.{◌≡◌, ◌≤◌, ◌⊎◌, ◌+◌, inl, inr, sym, ap, ◌∙◌, subst, eqb, add-one, arith}
use Rattle.std.proofs.lemmas.Bool.{cases_lt}
use Rattle.model.specs.Shape.{most_blocks, position_count, tables}
use Rattle.model.specs.Uses.{blocks_of}
use Rattle.model.specs.View.{Inode}
use Rattle.model.specs.Cells.{SetInode, Update}
use Rattle.frozen.specs.Kept.{frozen_view}
use Rattle.live_snapshots.specs.Orphans.{Adds, FreesToo, is_claimed_below}
use Rattle.live_snapshots.proofs.Freeing.{all_go, goes_on, number_goes, to_tables}
use Rattle.live_snapshots.proofs.orphans.free.Goals as goal

pub loop-position-init : goal.loop-position-init
loop-position-init c =
    let geo = c.args.frozen.now.geometry in
    let view = frozen_view c.args.frozen.now in (
      number_goes geo view c.args.number c.args.updates.now.items c.push.new.updates.items c.push-2.new.updates.items c.requires
          (subst (λ (r : Inode). Adds (SetInode c.args.number r) c.args.updates.now.items c.push.new.updates.items) c.free_record.ensures (subst (λ (u : Update). Adds u c.args.updates.now.items c.push.new.updates.items) c.in_ok-of_record.ensures c.in_ok-push.ensures)) c.in_ok-push-2.ensures,
      omega arith,
    )

pub loop-position-preserved : goal.loop-position-preserved
loop-position-preserved c =
    let geo = c.args.frozen.now.geometry in
    let view = frozen_view c.args.frozen.now in
    let n = c.args.number in
    let k = c.loop-position.position in
    let old = c.args.updates.now.items in (
      subst (λ m. FreesToo geo (λ i. eqb i n) (is_claimed_below geo view n m) old c.free_at.new.updates.items) (sym (add-one k))
          (goes_on geo view n k old c.loop-position.updates.items c.free_at.new.updates.items c.loop-position.invariant.0 c.in_ok-free_at.ensures),
      omega (arith, c.loop-position-test.true),
    )

pub loop-table-init : goal.loop-table-init
loop-table-init c =
    let geo = c.args.frozen.now.geometry in
    let view = frozen_view c.args.frozen.now in
    let n = c.args.number in
    let end = c.min-end.result in
    let old = c.args.updates.now.items in
    let most : c.most_blocks.result ≡ most_blocks geo = c.most_blocks.ensures.count ∙ ap most_blocks c.geometry-geometry.ensures.geometry in
    let first : c.most_blocks-table.result ≡ most_blocks geo = c.most_blocks-table.ensures.count ∙ ap most_blocks c.geometry-geometry.ensures.geometry in
    let last : c.tables_end-last.result ≡ most_blocks geo + tables end = c.tables_end-last.ensures.end ∙ ap (λ g. most_blocks g + tables end) c.geometry-geometry.ensures.geometry in
    let inside : end ≤ most_blocks geo = omega (arith, c.min-end.ensures, most) in
    let at : c.loop-position.position ≡ end = omega (arith, c.loop-position-test.false, c.loop-position.invariant.1) in
    let all : (blocks_of (view.inode n).size ≤ end) ⊎ (most_blocks geo ≤ end) = elim (cases_lt end (most_blocks geo)) [
      | inl short ↦ inl (omega (arith, short, c.min-end.ensures, most, c.blocks-2.ensures))
      | inr full ↦ inr full
    ] in (
      subst (λ m. FreesToo geo (λ i. eqb i n) (is_claimed_below geo view n m) old c.loop-position.updates.items) (sym first)
          (to_tables geo view n end old c.loop-position.updates.items inside all
          (subst (λ m. FreesToo geo (λ i. eqb i n) (is_claimed_below geo view n m) old c.loop-position.updates.items) at c.loop-position.invariant.0)),
      omega (arith, first, last),
    )

pub loop-table-preserved : goal.loop-table-preserved
loop-table-preserved c =
    let geo = c.args.frozen.now.geometry in
    let view = frozen_view c.args.frozen.now in
    let n = c.args.number in
    let k = c.loop-table.table in
    let old = c.args.updates.now.items in (
      subst (λ m. FreesToo geo (λ i. eqb i n) (is_claimed_below geo view n m) old c.free_at-in-loop-table.new.updates.items) (sym (add-one k))
          (goes_on geo view n k old c.loop-table.updates.items c.free_at-in-loop-table.new.updates.items c.loop-table.invariant.0 c.in_ok-free_at-2.ensures),
      omega (arith, c.loop-table-test.true),
    )

pub returns : goal.returns
returns c =
    let geo = c.args.frozen.now.geometry in
    let view = frozen_view c.args.frozen.now in
    let n = c.args.number in
    let end = c.min-end.result in
    let old = c.args.updates.now.items in
    let most : c.most_blocks.result ≡ most_blocks geo = c.most_blocks.ensures.count ∙ ap most_blocks c.geometry-geometry.ensures.geometry in
    let last : c.tables_end-last.result ≡ most_blocks geo + tables end = c.tables_end-last.ensures.end ∙ ap (λ g. most_blocks g + tables end) c.geometry-geometry.ensures.geometry in
    let inside : end ≤ most_blocks geo = omega (arith, c.min-end.ensures, most) in
    let all : (blocks_of (view.inode n).size ≤ end) ⊎ (most_blocks geo ≤ end) = elim (cases_lt end (most_blocks geo)) [
      | inl short ↦ inl (omega (arith, short, c.min-end.ensures, most, c.blocks-2.ensures))
      | inr full ↦ inr full
    ] in
    let positions = ap position_count c.geometry-geometry.ensures.geometry in
    let within : most_blocks geo + tables end ≤ position_count geo = omega (arith, last, c.tables_end-last.ensures.inside, positions) in
    let at : c.loop-table.table ≡ most_blocks geo + tables end = omega (arith, c.loop-table-test.false, c.loop-table.invariant.1, last) in
    all_go geo view n end old c.loop-table.updates.items inside all within
    (subst (λ m. FreesToo geo (λ i. eqb i n) (is_claimed_below geo view n m) old c.loop-table.updates.items) at c.loop-table.invariant.0)
