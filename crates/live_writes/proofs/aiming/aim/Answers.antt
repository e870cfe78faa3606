-- Each test is one of the causes, in their order, and what is left is where the piece goes.
use Rattle.std.proofs.Common.{◌≡◌, ℕ, ◌<◌, ◌≤◌, ◌/◌, length, inl, inr, refl, sym, ap, ◌∙◌, subst, arith, IsTrue}
use Rattle.std.proofs.lemmas.Result.{err_from_is_err_and}
use Rattle.model.specs.Layout.{Geometry, is_number}
use Rattle.model.specs.View.{Inode}
use Rattle.model.specs.Shape.{most_blocks}
use Rattle.model.specs.Uses.{blocks_of}
use Rattle.machine.specs.Room.{unmarked_blocks}
use Rattle.frozen.specs.Kept.{Kept, frozen_view}
use Rattle.live_writes.specs.Aimed.{IsPlaced, blocks_needed}
use Rattle.live_writes.proofs.Facts.{behind_needed, claimed, next_is, none_from, numbered, opened_sound, placed_seen, some_from}
use Rattle.live_writes.proofs.Refusals.{bad_if, good_if, handle_refused, index_refused, piece_refused, position_refused, room_refused}
use Rattle.live_writes.proofs.aiming.aim.Goals.{else-index-blocks+in_ok-place-2, then-index-blocks+in_ok-place, then-is_empty-via-then-is_empty, then-is_empty-via-else-is_empty+then-piece-gt-BLOCK_BYTES}
use Rattle.live_writes.proofs.aiming.aim.Goals as goal

-- what the geometry says of the limit
limit : {kept held : Kept} {geo : Geometry} {n : ℕ} → n ≡ most_blocks geo → geo ≡ held.geometry → held ≡ kept → n ≡ most_blocks kept.geometry
limit e f g = e ∙ ap most_blocks f ∙ ap (λ (k : Kept). most_blocks k.geometry) g

pub returns-in_default-clause-refused : goal.returns-in_default-clause-refused
returns-in_default-clause-refused c =
    handle_refused c.args.metadata.now c.args.holdings.now c.args.handle c.args.index c.args.piece.now (sym c.file_of.ensures ∙ c.in_default.is)

pub returns-then-is_empty-clause-refused : goal.returns-then-is_empty-clause-refused
returns-then-is_empty-clause-refused c =
    piece_refused c.args.metadata.now c.args.holdings.now c.args.handle c.args.index c.args.piece.now c.in-Some.file (sym c.file_of.ensures ∙ c.in-Some.is)
    (elim c.then-is_empty.branch [
      | then-is_empty-via-then-is_empty w ↦ bad_if c.args.piece.now (inl (none_from (length c.args.piece.now) c.is_empty.result c.is_empty.ensures w.if-is_empty.true))
      | then-is_empty-via-else-is_empty+then-piece-gt-BLOCK_BYTES w ↦ bad_if c.args.piece.now (inr w.if-piece-gt-BLOCK_BYTES.true)
    ])

pub returns-then-index-most_blocks-clause-refused : goal.returns-then-index-most_blocks-clause-refused
returns-then-index-most_blocks-clause-refused c =
    let past = subst (λ n. n ≤ c.args.index) (limit c.most_blocks.ensures.count c.geometry.ensures.geometry c.frozen.ensures.same) c.if-index-most_blocks.true in
    let some : 1 ≤ length c.args.piece.now = some_from (length c.args.piece.now) c.is_empty.result c.is_empty.ensures c.if-is_empty.false in
    position_refused c.args.metadata.now c.args.holdings.now c.args.handle c.args.index c.args.piece.now c.in-Some.file (sym c.file_of.ensures ∙ c.in-Some.is)
    (good_if c.args.piece.now some c.if-piece-gt-BLOCK_BYTES.false) past

pub record-inode-requires : goal.record-inode-requires
record-inode-requires c =
    let kept = c.args.metadata.now in
    let sound = opened_sound kept c.args.holdings.now c.requires.volume c.args.handle c.in-Some.file (sym c.file_of.ensures ∙ c.in-Some.is) in
    subst (λ (f : Kept). IsTrue (is_number f.geometry c.in-Some.file)) (sym c.frozen-2.ensures.same) (numbered kept c.requires.volume.volume c.in-Some.file sound)

pub returns-then-inode-index-clause-refused : goal.returns-then-inode-index-clause-refused
returns-then-inode-index-clause-refused c =
    let kept = c.args.metadata.now in
    let low = subst (λ n. c.args.index < n) (limit c.most_blocks.ensures.count c.geometry.ensures.geometry c.frozen.ensures.same) c.if-index-most_blocks.false in
    let some : 1 ≤ length c.args.piece.now = some_from (length c.args.piece.now) c.is_empty.result c.is_empty.ensures c.if-is_empty.false in
    let same = c.record-inode.ensures ∙ ap (λ (f : Kept). (frozen_view f).inode c.in-Some.file) c.frozen-2.ensures.same in
    index_refused kept c.args.holdings.now c.args.handle c.args.index c.args.piece.now c.in-Some.file (sym c.file_of.ensures ∙ c.in-Some.is)
    (good_if c.args.piece.now some c.if-piece-gt-BLOCK_BYTES.false) low
    (subst (λ (n : Inode). n.size / 1024 < c.args.index) (c.inode.view_is ∙ same) c.if-inode-index.true)

pub place_over-requires-clause-claimed : goal.place_over-requires-clause-claimed
place_over-requires-clause-claimed c =
    let kept = c.args.metadata.now in
    let i = c.in-Some.file in
    let sound = opened_sound kept c.args.holdings.now c.requires.volume c.args.handle i (sym c.file_of.ensures ∙ c.in-Some.is) in
    let same = c.record-inode.ensures ∙ ap (λ (f : Kept). (frozen_view f).inode i) c.frozen-2.ensures.same in
    claimed kept c.requires.volume.volume i sound c.frozen.ensures.metadata c.args.index
    (subst (λ (n : Inode). c.args.index < blocks_of n.size) same (subst (λ n. c.args.index < n) c.blocks-2.ensures c.if-index-blocks.true))

pub returns-in_err-place-clause-refused : goal.returns-in_err-place-clause-refused
returns-in_err-place-clause-refused c =
    let kept = c.args.metadata.now in
    let low = subst (λ n. c.args.index < n) (limit c.most_blocks.ensures.count c.geometry.ensures.geometry c.frozen.ensures.same) c.if-index-most_blocks.false in
    let some : 1 ≤ length c.args.piece.now = some_from (length c.args.piece.now) c.is_empty.result c.is_empty.ensures c.if-is_empty.false in
    let same = c.record-inode.ensures ∙ ap (λ (f : Kept). (frozen_view f).inode c.in-Some.file) c.frozen-2.ensures.same in
    let p = err_from_is_err_and c.from_residual.result c.from_residual.ensures.1 in
    rw (p.1, p.2)
    (room_refused kept c.args.holdings.now c.args.handle c.args.index c.args.piece.now c.in-Some.file (sym c.file_of.ensures ∙ c.in-Some.is)
    (good_if c.args.piece.now some c.if-piece-gt-BLOCK_BYTES.false) low
    (subst (λ (n : Inode). c.args.index ≤ n.size / 1024) (c.inode.view_is ∙ same) c.if-inode-index.false) c.frozen.ensures.metadata
    c.in_err-place.field-0.0 c.in_err-place.ensures.refused.0 c.in_err-place.ensures.refused.1)

pub returns-in_err-place-2-clause-refused : goal.returns-in_err-place-2-clause-refused
returns-in_err-place-2-clause-refused c =
    let kept = c.args.metadata.now in
    let low = subst (λ n. c.args.index < n) (limit c.most_blocks.ensures.count c.geometry.ensures.geometry c.frozen.ensures.same) c.if-index-most_blocks.false in
    let i = c.in-Some.file in
    let some : 1 ≤ length c.args.piece.now = some_from (length c.args.piece.now) c.is_empty.result c.is_empty.ensures c.if-is_empty.false in
    let same = c.record-inode.ensures ∙ ap (λ (f : Kept). (frozen_view f).inode i) c.frozen-2.ensures.same in
    let near = subst (λ (n : Inode). c.args.index ≤ n.size / 1024) (c.inode.view_is ∙ same) c.if-inode-index.false in
    let past = subst (λ (n : Inode). blocks_of n.size ≤ c.args.index) same (subst (λ n. n ≤ c.args.index) c.blocks-2.ensures c.if-index-blocks.false) in
    let next = next_is ((frozen_view kept).inode i).size c.args.index near past in
    let p = err_from_is_err_and c.from_residual-in_err-place-2.result c.from_residual-in_err-place-2.ensures.1 in
    rw (p.1, p.2)
    (room_refused kept c.args.holdings.now c.args.handle c.args.index c.args.piece.now i (sym c.file_of.ensures ∙ c.in-Some.is)
    (good_if c.args.piece.now some c.if-piece-gt-BLOCK_BYTES.false) low near c.frozen.ensures.metadata
    c.in_err-place-2.field-0.0 c.in_err-place-2.ensures.refused.0 (omega (arith, c.in_err-place-2.ensures.refused.1, behind_needed kept c.args.holdings.now i c.args.index next)))

pub place_behind-requires : goal.place_behind-requires
place_behind-requires c =
    subst (λ n. c.args.index < n) (limit c.most_blocks.ensures.count c.geometry.ensures.geometry c.frozen.ensures.same) c.if-index-most_blocks.false

-- where the piece goes, and that there are blocks enough
pub returns-clause-aimed : goal.returns-clause-aimed
returns-clause-aimed c =
    let kept = c.args.metadata.now in
    let holdings = c.args.holdings.now in
    let i = c.in-Some.file in
    let low = subst (λ n. c.args.index < n) (limit c.most_blocks.ensures.count c.geometry.ensures.geometry c.frozen.ensures.same) c.if-index-most_blocks.false in
    let same = c.record-inode.ensures ∙ ap (λ (f : Kept). (frozen_view f).inode i) c.frozen-2.ensures.same in
    let near = subst (λ (n : Inode). c.args.index ≤ n.size / 1024) (c.inode.view_is ∙ same) c.if-inode-index.false in
    let placed : IsPlaced kept holdings i c.args.index c.if-index-blocks.place × (blocks_needed kept holdings i c.args.index ≤ unmarked_blocks kept.geometry (frozen_view kept)) = elim c.if-index-blocks.branch [
      | then-index-blocks+in_ok-place w ↦ rw (w.place-is) (w.in_ok-place.ensures.placed, w.in_ok-place.ensures.enough)
      | else-index-blocks+in_ok-place-2 w ↦
          let past = subst (λ (n : Inode). blocks_of n.size ≤ c.args.index) same (subst (λ n. n ≤ c.args.index) c.blocks-2.ensures w.if-index-blocks.false) in
          let next = next_is ((frozen_view kept).inode i).size c.args.index near past in
          rw (w.place-is) (w.in_ok-place-2.ensures.placed holdings i next, omega (arith, w.in_ok-place-2.ensures.enough, behind_needed kept holdings i c.args.index next))
    ] in
    record {
      opened = sym c.file_of.ensures ∙ c.in-Some.is;
      index = refl;
      some = some_from (length c.args.piece.now) c.is_empty.result c.is_empty.ensures c.if-is_empty.false;
      few = c.if-piece-gt-BLOCK_BYTES.false;
      near = near;
      fits = record {
        sound = opened_sound kept holdings c.requires.volume c.args.handle i (sym c.file_of.ensures ∙ c.in-Some.is);
        room = low;
        placed = placed.0;
      };
      enough = placed.1;
    }

pub returns-clause-seen : goal.returns-clause-seen
returns-clause-seen c =
    let kept = c.args.metadata.now in
    let holdings = c.args.holdings.now in
    let i = c.in-Some.file in
    let same = c.record-inode.ensures ∙ ap (λ (f : Kept). (frozen_view f).inode i) c.frozen-2.ensures.same in
    let near = subst (λ (n : Inode). c.args.index ≤ n.size / 1024) (c.inode.view_is ∙ same) c.if-inode-index.false in
    elim c.if-index-blocks.branch [
      | then-index-blocks+in_ok-place w ↦ rw (w.place-is) (placed_seen kept holdings i c.args.index w.in_ok-place.place w.in_ok-place.ensures.placed)
      | else-index-blocks+in_ok-place-2 w ↦
          let past = subst (λ (n : Inode). blocks_of n.size ≤ c.args.index) same (subst (λ n. n ≤ c.args.index) c.blocks-2.ensures w.if-index-blocks.false) in
          rw (w.place-is) (placed_seen kept holdings i c.args.index w.in_ok-place-2.place (w.in_ok-place-2.ensures.placed holdings i (next_is ((frozen_view kept).inode i).size c.args.index near past)))
    ]
