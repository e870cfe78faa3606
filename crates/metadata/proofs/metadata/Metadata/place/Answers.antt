use Rattle.std.proofs.Common.{◌≡◌, List, ap, ◌∙◌, refl, subst, sym}
use Rattle.queue_model.specs.Blocks.{home_of}
use Rattle.updates.specs.Values.{change}
use Rattle.frozen.specs.Kept.{Kept, KeepsMetadata}
use Rattle.frozen.specs.declared.frozen.Placed.{Placed}
use Rattle.metadata.specs.Staged.{HasChange, IsLastAt, NoneAt}
use Rattle.metadata.proofs.Placing.{has_again, has_first}
use Rattle.metadata.proofs.Steps.{on_both, on_ok}
use Rattle.metadata.proofs.metadata.Metadata.place.Goals as goal

pub returns-in-Some : goal.returns-in-Some
returns-in-Some c =
    let q : Placed = c.index_mut.result.now in
    let same : c.geometry-geometry.result ≡ c.args.self.now.geometry = c.geometry-geometry.ensures.geometry ∙ ap (λ (k : Kept). k.geometry) c.self.view_is in
    let keeps : KeepsMetadata c.args.self.now = subst KeepsMetadata c.self.view_is c.self.invariant.metadata in
    on_both c.put_into.result c.put_into.ensures.put c.put_into.ensures.whole (λ put whole.
    has_again c.args.self.now (change c.args.change.now) c.args.blocks.now.items (record { address = q.address; block = c.put_into.new.block }) keeps.frame c.geometry-geometry.result same
    c.home-address.result (c.home-address.ensures.address ∙ ap (home_of c.geometry-geometry.result) c.cell.ensures) c.home-address.ensures.not_super c.home-address.ensures.on_volume whole
    c.in-Some.place q c.index_mut.ensures.value refl (subst (λ (xs : List Placed). IsLastAt xs c.home-address.result c.in-Some.place) c.as_slice.ensures.value c.in-Some.ensures) put)

pub returns-in-None : goal.returns-in-None
returns-in-None c =
    let same : c.geometry-geometry.result ≡ c.args.self.now.geometry = c.geometry-geometry.ensures.geometry ∙ ap (λ (k : Kept). k.geometry) c.self.view_is in
    let keeps : KeepsMetadata c.args.self.now = subst KeepsMetadata c.self.view_is c.self.invariant.metadata in
    on_ok c.place_first.result c.place_first.ensures (λ made.
    subst (HasChange c.args.self.now (change c.args.change.now) c.args.blocks.now.items) (sym made.4)
    (has_first c.args.self.now (change c.args.change.now) c.args.blocks.now.items made.0 keeps.frame c.geometry-geometry.result same
    c.home-address.result (c.home-address.ensures.address ∙ ap (home_of c.geometry-geometry.result) c.cell.ensures) c.home-address.ensures.not_super c.home-address.ensures.on_volume made.2
    made.1 (subst (λ (xs : List Placed). NoneAt xs c.home-address.result) c.as_slice.ensures.value c.in-None.ensures) made.3))
