use Rattle.std.proofs.Common.{length, refl, sym, ap, ap₂, ◌∙◌, arith}
use Rattle.frozen.specs.Kept.{frozen_view}
use Rattle.model.specs.Shape.{most_blocks, new_tables}
use Rattle.live_places.proofs.RoomLemmas.{empty_claims, full_with}
use Rattle.live_places.proofs.ShownLemmas.{self_shown}
use Rattle.live_places.proofs.rooms.room_in.Goals as goal

-- an empty slot stands in a block
pub unreachable-requires : goal.unreachable-requires
unreachable-requires c =
    let view = frozen_view c.args.frozen.now in
    empty_claims c.args.frozen.now.geometry view c.args.directory c.in-Some.slot (c.in-Some.ensures.found view (self_shown c.args.frozen.now)).1 (sym c.claim_at.ensures ∙ c.in-None.is)

pub returns-then-blocks-most_blocks-clause-full : goal.returns-then-blocks-most_blocks-clause-full
returns-then-blocks-most_blocks-clause-full c =
    let kept = c.args.frozen.now in
    let size = c.blocks-blocks.ensures in
    let most = c.most_blocks.ensures.count ∙ ap most_blocks c.geometry-geometry.ensures.geometry in
    (refl, full_with kept.geometry (frozen_view kept) c.args.directory (c.in_default.ensures.found (frozen_view kept) (self_shown kept)) (omega (arith, size, most, c.if-blocks-most_blocks.true)))

-- so many tables come with the next block
pub new_tables-tables-requires : goal.new_tables-tables-requires
new_tables-tables-requires c = omega (arith, c.most_blocks.ensures.count, c.if-blocks-most_blocks.false)

pub returns-clause-room : goal.returns-clause-room
returns-clause-room c =
    let kept = c.args.frozen.now in
    let size = c.blocks-blocks.ensures in
    let most = c.most_blocks.ensures.count ∙ ap most_blocks c.geometry-geometry.ensures.geometry in
    record {
      none = c.in_default.ensures.found (frozen_view kept) (self_shown kept);
      left = omega (arith, size, most, c.if-blocks-most_blocks.false);
      tables = ap₂ (λ g n. length (new_tables g n)) (sym c.geometry-geometry.ensures.geometry) (sym size) ∙ sym c.new_tables-tables.ensures.count;
    }
