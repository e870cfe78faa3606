-- The block of maps is the only one that is installed.
use Rattle.std.proofs.Common.{◌≡◌, List, [], ◌∷◌, ◌++◌, ap, ◌∙◌}
use Rattle.model.specs.Layout.{Geometry, group_block}
use Rattle.frozen.specs.declared.frozen.Placed.{Placed}
use Rattle.live_snapshots.proofs.Unmarking.{all_fit, keeps_then, unmarks_then}
use Rattle.live_snapshots.proofs.held.install.Goals as goal

pub install-requires-clause-fits : goal.install-requires-clause-fits
install-requires-clause-fits c =
    let p : Placed = record { address = c.group_block-address.result; block = c.in_ok-block.block } in
    all_fit c.args.frozen.now c.requires.metadata c.args.group c.requires.group c.args.maps c.is_whole.ensures c.requires.unmarked.0 c.requires.unmarked.1 c.push.new.self.items p
    (c.in_ok-push.ensures.items ∙ ap (λ (ps : List Placed). ps ++ p ∷ []) c.new-blocks.ensures.items)
    (c.group_block-address.ensures.address ∙ ap (λ (q : Geometry). group_block q c.args.group) c.geometry.ensures.geometry) c.in_ok-block.ensures.ok

pub install-requires-clause-metadata : goal.install-requires-clause-metadata
install-requires-clause-metadata c =
    let p : Placed = record { address = c.group_block-address.result; block = c.in_ok-block.block } in
    keeps_then c.args.frozen.now c.requires.metadata c.args.group c.requires.group c.args.maps c.is_whole.ensures c.requires.unmarked.0 c.requires.unmarked.1 c.push.new.self.items p
    (c.in_ok-push.ensures.items ∙ ap (λ (ps : List Placed). ps ++ p ∷ []) c.new-blocks.ensures.items)
    (c.group_block-address.ensures.address ∙ ap (λ (q : Geometry). group_block q c.args.group) c.geometry.ensures.geometry) c.in_ok-block.ensures.ok

pub returns : goal.returns
returns c = λ gone is.
    let p : Placed = record { address = c.group_block-address.result; block = c.in_ok-block.block } in
    unmarks_then c.args.frozen.now c.requires.metadata c.args.group c.requires.group c.args.maps c.is_whole.ensures gone is c.push.new.self.items p
    (c.in_ok-push.ensures.items ∙ ap (λ (ps : List Placed). ps ++ p ∷ []) c.new-blocks.ensures.items)
    (c.group_block-address.ensures.address ∙ ap (λ (q : Geometry). group_block q c.args.group) c.geometry.ensures.geometry) c.in_ok-block.ensures.ok c.install.new.self c.install.ensures
