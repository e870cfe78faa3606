use Rattle.std.proofs.Common.{◌∙◌, Some, ap, arith, sym}
use Rattle.fuse_wire.specs.Requests.{Asked, SetAttributes, changes_of}
use Rattle.fuse_wire.proofs.Messages.{behind_long}
use Rattle.fuse_wire.proofs.reading.set_attributes.Goals as goal

pub returns : goal.returns
returns c =
    ap (λ r. Some (SetAttributes r)) c.changes_of.ensures
    ∙ sym (behind_long 88 c.args.fields.now (Some (SetAttributes (changes_of c.args.fields.now))) (omega (arith, c.if-fields-lt88.false)))
