-- The nearest table first, and then those over it.
use Rattle.std.proofs.Common.{◌∷◌, [], ◌++◌, sym, ap, ◌∙◌, map}
use Rattle.std.proofs.lemmas.Result.{on_ok_weaker}
use Rattle.std.proofs.lemmas.List.{append-nil, append_assoc, map-append}
use Rattle.ordering.specs.Cuts.{Block}
use Rattle.updates.specs.declared.cell.Cell.TheVariants as variants
use Rattle.updates.specs.Values.{cell}
use Rattle.live_renames.proofs.moving.+add_tables.Goals as goal

pub returns-in_default : goal.returns-in_default
returns-in_default t c = sym (append-nil (map cell c.args.cells.now.items)) ∙ ap (λ xs. map cell c.args.cells.now.items ++ map Block xs) (sym c.in_default.ensures)

pub returns : goal.returns
returns t c =
    let old = c.args.cells.now.items in
    let table = c.in-Some.table in
    let over = c.rest.result in
    let pushed = ap (map cell) c.in_ok-push.ensures.ok ∙ map-append cell old (variants.Block table ∷ []) in
    on_ok_weaker c.add_tables.result
    (λ adds. adds ∙ ap (λ xs. xs ++ map Block over) pushed ∙ append_assoc (map cell old) (Block table ∷ []) (map Block over)
    ∙ ap (λ xs. map cell old ++ Block table ∷ map Block xs) c.rest.ensures ∙ ap (λ xs. map cell old ++ map Block xs) (sym c.in-Some.ensures))
    c.add_tables.ensures
