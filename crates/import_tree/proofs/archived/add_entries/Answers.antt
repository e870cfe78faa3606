use Rattle.std.proofs.Common.{◌++◌, ◌∷◌, [], map, sym, ap, ◌∙◌, append-nil, arith}
use Rattle.std.proofs.lemmas.List.{append_assoc, nil_from_length}
use Rattle.archives.specs.Entries.{views}
use Rattle.import_tree.specs.Placing.{placed, shown}
use Rattle.import_tree.proofs.PlaceLemmas.{placed_more}
use Rattle.import_tree.proofs.archived.add_entries.Goals as goal

pub loop-entry-init : goal.loop-entry-init
loop-entry-init c = record {
  split = sym c.into_iter-entry-iterator.ensures.into_iter_gives.0;
  done = sym (append-nil (map shown c.args.items.now.items));
}

pub loop-entry-preserved : goal.loop-entry-preserved
loop-entry-preserved c = record {
  split = c.loop-entry.invariant.split ∙ ap (λ l. c.loop-entry.yielded ++ l) c.in-Some.ensures.steps.0 ∙ sym (append_assoc c.loop-entry.yielded (c.in-Some.entry ∷ []) c.next.new.self.rest.items);
  done = placed_more c.args.path.now c.args.items.now.items c.loop-entry.items.items c.push.new.self.items c.in_ok-item_of_entry.field-0 c.loop-entry.yielded c.in-Some.entry c.in_ok-push.ensures.items
      c.in_ok-item_of_entry.ensures c.loop-entry.invariant.done;
}

pub returns : goal.returns
returns c =
    let all = c.loop-entry.invariant.split
    ∙ ap (λ l. c.loop-entry.yielded ++ l) (nil_from_length c.loop-entry.entry-iterator.rest.items (omega (arith, c.in-None.ensures.steps.0, c.loop-entry.entry-iterator.rest.ok))) ∙ append-nil c.loop-entry.yielded in
    c.loop-entry.invariant.done ∙ ap (λ l. map shown c.args.items.now.items ++ map (placed c.args.path.now) (views l)) (sym all)
