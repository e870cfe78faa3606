-- Each turn adds the block at its position, if there is one.
use Rattle.std.proofs.Common.{◌≡◌, ◌≤◌, ◌<◌, ◌∷◌, [], ◌++◌, ◌+◌, map, sym, ap, ◌∙◌, subst, arith, IsTrue, false}
use Rattle.smallvec.specs.SmallVec.{SmallVec}
use Rattle.std.proofs.lemmas.Bool.{and_parts, both_ways}
use Rattle.std.proofs.lemmas.List.{map-append}
use Rattle.frozen.specs.Kept.{Kept, frozen_view}
use Rattle.model.specs.Layout.{is_number}
use Rattle.model.specs.View.{Inode}
use Rattle.model.specs.Shape.{most_blocks}
use Rattle.model.specs.Uses.{blocks_of, claim_at, is_sound, is_sound_at}
use Rattle.model.proofs.Uses.{sound_few}
use Rattle.ordering.specs.Cuts.{Block}
use Rattle.updates.specs.declared.cell.Cell.{Cell}
use Rattle.updates.specs.declared.cell.Cell.TheVariants as variants
use Rattle.updates.specs.Values.{cell}
use Rattle.live_plans.proofs.BlockLemmas.{AddsBlocks, adds_block, adds_none, adds_nothing, has_blocks, has_only}
use Rattle.live_plans.proofs.entries.add_blocks.Goals as goal
use Rattle.live_plans.proofs.entries.add_blocks.Goals.{in-Some+in_ok-push, in_default}

pub loop-position-init : goal.loop-position-init
loop-position-init c = adds_none c.args.metadata.now.geometry (frozen_view c.args.metadata.now) c.args.directory (map cell c.args.cells.now.items)

pub loop-position-preserved : goal.loop-position-preserved
loop-position-preserved c =
    let geo = c.args.metadata.now.geometry in
    let view = frozen_view c.args.metadata.now in
    let d = c.args.directory in
    let k = c.loop-position.position in
    let old = map cell c.args.cells.now.items in
    let so_far = c.loop-position.cells.items in
    let held = c.frozen-frozen.result.now in
    let sound : IsTrue (is_sound_at held.geometry (frozen_view held) d) = sym c.is_sound_at.ensures ∙ c.if-not-is_sound_at.false in
    let parts = and_parts (is_number held.geometry d) (is_sound held.geometry ((frozen_view held).inode d)) sound in
    let on = parts.0 in
    let few : blocks_of ((frozen_view held).inode d).size ≤ most_blocks held.geometry = sound_few held.geometry ((frozen_view held).inode d) parts.1 in
    let count : c.blocks-position-end.result ≡ blocks_of ((frozen_view held).inode d).size = c.blocks-position-end.ensures ∙ ap (λ (n : Inode). blocks_of n.size) c.record-inode.ensures in
    let same : most_blocks held.geometry ≡ most_blocks geo = ap (λ (kept : Kept). most_blocks kept.geometry) c.frozen-frozen.ensures.same in
    let below : k < most_blocks geo = omega (arith, few, count, same, c.loop-position-test.true) in
    let claimed : c.claim_of.result ≡ claim_at geo view d k =
    c.claim_of.ensures d on (sym c.record-inode.ensures) ∙ ap (λ (kept : Kept). claim_at kept.geometry (frozen_view kept) d k) c.frozen-frozen.ensures.same in
    elim c.match-claim_of.branch [
      | in-Some+in_ok-push w ↦
          let items : map cell c.match-claim_of.cells.items ≡ map cell so_far ++ Block w.in-Some.block ∷ [] =
          ap (λ (v : SmallVec Cell). map cell v.items) w.cells-is ∙ ap (map cell) w.in_ok-push.ensures.ok ∙ map-append cell so_far (variants.Block w.in-Some.block ∷ []) in
          subst (AddsBlocks geo view d (k + 1) old) (sym items) (adds_block geo view d old k w.in-Some.block (map cell so_far) below (sym claimed ∙ w.in-Some.is) c.loop-position.invariant)
      | in_default w ↦
          let items : map cell c.match-claim_of.cells.items ≡ map cell so_far = ap (λ (v : SmallVec Cell). map cell v.items) w.cells-is in
          subst (AddsBlocks geo view d (k + 1) old) (sym items) (adds_nothing geo view d old k (map cell so_far) (sym claimed ∙ w.in_default.is) c.loop-position.invariant)
    ]

pub returns-clause-blocks : goal.returns-clause-blocks
returns-clause-blocks c = λ view shows.
    let kept = c.args.metadata.now in
    let d = c.args.directory in
    has_blocks kept view d c.loop-position.position (map cell c.args.cells.now.items) (map cell c.loop-position.cells.items) c.frozen-frozen.ensures.metadata shows
    (λ sound.
    let inode : c.record-inode.result ≡ (frozen_view kept).inode d = c.record-inode.ensures ∙ ap (λ (held : Kept). (frozen_view held).inode d) c.frozen-frozen.ensures.same in
    let count : c.blocks-position-end.result ≡ blocks_of ((frozen_view kept).inode d).size = c.blocks-position-end.ensures ∙ ap (λ (n : Inode). blocks_of n.size) inode in
    omega (arith, count, c.loop-position-test.false))
    c.loop-position.invariant

pub returns-then-not-is_sound_at-clause-blocks : goal.returns-then-not-is_sound_at-clause-blocks
returns-then-not-is_sound_at-clause-blocks c = λ view shows.
    let kept = c.args.metadata.now in
    let d = c.args.directory in
    let old = map cell c.args.cells.now.items in
    let is : is_sound_at kept.geometry (frozen_view kept) d ≡ false =
    sym (ap (λ (held : Kept). is_sound_at held.geometry (frozen_view held) d) c.frozen-frozen.ensures.same) ∙ sym c.is_sound_at.ensures ∙ c.if-not-is_sound_at.true in
    has_blocks kept view d 0 old old c.frozen-frozen.ensures.metadata shows (λ sound. absurd (both_ways (is_sound_at kept.geometry (frozen_view kept) d) is sound))
    (adds_none kept.geometry (frozen_view kept) d old)

pub returns-clause-only : goal.returns-clause-only
returns-clause-only c = λ view shows.
    has_only c.args.metadata.now view c.args.directory c.loop-position.position (map cell c.args.cells.now.items) (map cell c.loop-position.cells.items) c.frozen-frozen.ensures.metadata shows c.loop-position.invariant

pub returns-then-not-is_sound_at-clause-only : goal.returns-then-not-is_sound_at-clause-only
returns-then-not-is_sound_at-clause-only c = λ view shows.
    let kept = c.args.metadata.now in
    let old = map cell c.args.cells.now.items in
    has_only kept view c.args.directory 0 old old c.frozen-frozen.ensures.metadata shows (adds_none kept.geometry (frozen_view kept) c.args.directory old)
