-- A block that is no data block has no bit; the bits of the others are cleared in their group's block of maps.
use Rattle.std.proofs.Common.{◌≡◌, ◌+◌, false, sym, ap, ◌∙◌, subst, arith}
use Rattle.model.specs.Layout.{group_block, is_data_address}
use Rattle.live_snapshots.specs.Unmarked.{IsUnmarked, held_between}
use Rattle.live_snapshots.proofs.Unmarking.{between_one, unmarks_none}
use Rattle.live_snapshots.proofs.held.unmark_from.Goals as goal

pub returns-in_default : goal.returns-in_default
returns-in_default c =
    let h = c.args.holdings.now in
    let n = c.args.address in (
      omega arith,
      omega (arith, c.requires.held.within),
      unmarks_none c.args.frozen.now (held_between h n (n + 1)) (λ a t. subst (λ g. is_data_address g a ≡ false) c.geometry-geometry.ensures.geometry
          (ap (is_data_address c.geometry-geometry.result) (between_one h n a t) ∙ sym c.in_default.ensures.exactly)),
    )

pub returns : goal.returns
returns c =
    let geo = c.args.frozen.now.geometry in
    let g = c.in-Some.place.group in
    let gone = held_between c.args.holdings.now c.args.address c.clear_bits-end.result in (
      c.clear_bits-end.ensures.end.0,
      c.clear_bits-end.ensures.end.1,
      c.in_ok-install.ensures gone
          (subst (λ m. IsUnmarked geo (group_block geo g) gone m c.clear_bits-end.new.maps) c.maps_of.ensures.maps
          (subst (λ q. IsUnmarked q (group_block q g) gone c.maps_of.result.now c.clear_bits-end.new.maps) c.geometry-geometry.ensures.geometry c.clear_bits-end.ensures.cleared)),
    )
