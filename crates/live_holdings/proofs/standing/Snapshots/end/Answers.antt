use Rattle.std.proofs.Common.{◌≡◌, eqb, not, rules, List, ap, ◌∙◌}
use Rattle.std.specs.List.{filter}
use Rattle.std.proofs.lemmas.Fn.{filter_same}
use Rattle.frozen.specs.Kept.{Kept}
use Rattle.machine.specs.Standing.{Snapshots, Standing, ended}
use Rattle.live_holdings.proofs.standing.Snapshots.end.Goals as goal

pub returns : goal.returns
returns c =
    let items = c.self.inside.standing.items in
    let left : c.retain.new.self.items ≡ filter (λ (x : Standing Kept). not (eqb x.number c.args.number)) items
    = filter_same _ (λ (x : Standing Kept). not (eqb x.number c.args.number)) _ (λ x b f called. search rules) items c.retain.new.self.items c.retain.ensures.filtered in
    ap (λ (xs : List (Standing Kept)). record { standing = xs; freezes = c.self.inside.freezes }) left ∙ ap (λ (s : Snapshots Kept). ended s c.args.number) c.self.view_is
