use Rattle.std.proofs.Common.{◌≡◌, ◌++◌, ◌∷◌, [], List, ap, subst, map, sym, ◌∙◌}
use Rattle.snapshot.specs.Alive.{Alive}
use Rattle.fuse_writer.specs.Turns.{Call, GoesBy}
use Rattle.fuse_writer.proofs.Going.{goes_by_none}
use Rattle.fuse_writer.proofs.asking.Asking.begin.Goals as goal

pub invariant_of-self : goal.invariant_of-self
invariant_of-self g c = λ start is.
    let v = c.self.inside.volume in
    let held = g.D.Device.held in
    let began : map (λ e. e.1) c.and-self-inside.result.items ≡ v ∷ [] = ap (map (λ e. e.1)) (c.and-self-inside.ensures ∙ ap (λ xs. xs ++ (_, v) ∷ []) c.new.ensures) in
    let same : v ≡ start = cc in
    subst (λ (calls : List Call). GoesBy g.D.Device.honest g.D.Device.held g.D.Device.image start calls v) (sym c.new-self-inside.ensures)
    (subst (λ (t : Alive _). GoesBy g.D.Device.honest g.D.Device.held g.D.Device.image t [] v) same (goes_by_none g.D.Device.honest g.D.Device.held g.D.Device.image v))
