-- Each turn adds what is found of the block of its bit.
use Rattle.std.proofs.Common.{◌≡◌, ◌+◌, ◌∙◌, sym, ap, arith}
use Rattle.frozen.specs.Kept.{frozen_view, kept_bytes}
use Rattle.model.specs.Layout.{Geometry, header_blocks, data_address}
use Rattle.model.specs.View.{map_bit}
use Rattle.phase_maps.specs.Walks.{IsFoundAt, IsFoundInGroup, is_owned}
use Rattle.model.proofs.Adding.{AtBelow, adds_below_more, adds_element, adds_no_element, adds_same}
use Rattle.phase_maps.proofs.WalkLemmas.{found_at}
use Rattle.phase_maps.proofs.blocks.add_blocks.Goals as goal
use Rattle.phase_maps.proofs.blocks.add_blocks.Goals.{in-Some+in_ok-push, in_default}

pub loop-bit-preserved : goal.loop-bit-preserved
loop-bit-preserved c =
    let geo = c.args.frozen.now.geometry in
    let at = IsFoundAt geo (frozen_view c.args.frozen.now) (is_owned c.args.owners.now) c.args.group in
    let end : header_blocks geo + c.data_blocks-bit-end.result ≡ geo.blocks = ap (λ g. header_blocks g + c.data_blocks-bit-end.result) (sym c.geometry-geometry.ensures.geometry) ∙ c.data_blocks-bit-end.ensures ∙ ap (λ (g : Geometry). g.blocks) c.geometry-geometry.ensures.geometry in
    let here = found_at geo c.geometry-geometry.ensures.frame.geometry (kept_bytes c.args.frozen.now.blocks) c.args.group c.loop-bit.bit (omega arith) c.requires
    (is_owned c.args.owners.now) c.bit_of-is_marked.result c.has_owner.result c.data_address-address.result c.block_finding.result (c.data_address-address.ensures.address ∙ ap (λ g. data_address g c.args.group c.loop-bit.bit) c.geometry-geometry.ensures.geometry) (c.bit_of-is_marked.ensures ∙ ap (λ b. map_bit b 160 c.loop-bit.bit) c.maps_of-maps.ensures.maps) c.has_owner.ensures c.block_finding.ensures in
    adds_below_more at c.loop-bit.bit c.args.found.now.items c.loop-bit.found.items c.match-block_finding.found.items c.loop-bit.invariant
    (elim c.match-block_finding.branch [
      | in-Some+in_ok-push w ↦ adds_element _ c.loop-bit.found.items c.match-block_finding.found.items w.in-Some.finding (here ∙ w.in-Some.is) (cc (w.in_ok-push.ensures.items))
      | in_default w ↦ adds_no_element _ c.loop-bit.found.items c.match-block_finding.found.items (λ f e. w.in_default.not-Some f (sym here ∙ e)) (cc)
    ])

pub returns : goal.returns
returns c =
    let geo = c.args.frozen.now.geometry in
    let at = IsFoundAt geo (frozen_view c.args.frozen.now) (is_owned c.args.owners.now) c.args.group in
    let end : header_blocks geo + c.data_blocks-bit-end.result ≡ geo.blocks = ap (λ g. header_blocks g + c.data_blocks-bit-end.result) (sym c.geometry-geometry.ensures.geometry) ∙ c.data_blocks-bit-end.ensures ∙ ap (λ (g : Geometry). g.blocks) c.geometry-geometry.ensures.geometry in
    adds_same (AtBelow at c.loop-bit.bit) (IsFoundInGroup geo (frozen_view c.args.frozen.now) (is_owned c.args.owners.now) c.args.group) c.args.found.now.items c.loop-bit.found.items
    (λ f. ((λ h. (h.0, omega (arith, h.1), h.2)), (λ h. (h.0, omega (arith, h.1), h.2)))) c.loop-bit.invariant
