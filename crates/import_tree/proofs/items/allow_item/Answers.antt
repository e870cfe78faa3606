use Rattle.std.proofs.Common.{Err, subst}
use Rattle.layout.specs.declared.refusal.Refusal.TheVariants.{NotFound}
use Rattle.machine.specs.Command.{Stat}
use Rattle.reading.specs.Replies.{Replies}
use Rattle.import_tree.proofs.items.allow_item.Goals as goal

pub returns-in-Err-NotFound : goal.returns-in-Err-NotFound
returns-in-Err-NotFound c =
    let kept = c.args.frozen.now in
    subst (λ path. Replies kept (Stat path) (Err NotFound)) c.as_slice-path.ensures.value
    (subst (λ r. Replies kept (Stat c.as_slice-path.result.now) (Err r)) c.in-Err-NotFound.field-0-is c.in-Err-NotFound.ensures.refused)
