use Rattle.std.proofs.Common.{None, IsTrue, sym, ap, subst, ◌∙◌}
use Rattle.std.proofs.lemmas.List.{map-set}
use Rattle.std.specs.Option.{option_map}
use Rattle.std.specs.Arc.{arc_value}
use Rattle.model.specs.Layout.{is_data_address}
use Rattle.frozen.specs.Installed.{without_block}
use Rattle.frozen.specs.Kept.{Kept, KeepsFrame}
use Rattle.frozen.specs.Shared.{shared_blocks}
use Rattle.frozen.proofs.LettingGo.{frame_without}
use Rattle.frozen.proofs.held.Held.let_go.Goals as goal

pub invariant_of-self : goal.invariant_of-self
invariant_of-self c =
    let kept : Kept = record { geometry = c.self.inside.geometry; blocks = shared_blocks c.self.inside.blocks.items } in
    let of_data : IsTrue (is_data_address kept.geometry c.args.address) = subst (λ (k : Kept). IsTrue (is_data_address k.geometry c.args.address)) (sym c.self.view_is) c.requires in
    subst (λ blocks. KeepsFrame (record { geometry = c.self.inside.geometry; blocks = blocks }))
    (sym (map-set (option_map arc_value) c.self.inside.blocks.items c.args.address None))
    (frame_without kept c.self.invariant c.args.address of_data)

pub returns : goal.returns
returns c =
    ap (λ blocks. record { geometry = c.self.inside.geometry; blocks = blocks }) (map-set (option_map arc_value) c.self.inside.blocks.items c.args.address None)
    ∙ ap (λ (k : Kept). without_block k c.args.address) c.self.view_is
