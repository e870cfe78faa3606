use Rattle.import_tree.proofs.filling.put_item.Goals as goal

pub returns-in-Ok-clause-item : goal.returns-in-Ok-clause-item
returns-in-Ok-clause-item g c = (c.in-Ok.given, c.and-readings.ensures, c.in-Ok.ensures.source, c.in-Ok.ensures.item)
