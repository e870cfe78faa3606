-- An entry of the name has its length, its last byte and all its bytes.
use Rattle.std.proofs.Common.{arith}
use Rattle.model.specs.Slots as model
use Rattle.machine.specs.Paths as machine
use Rattle.live_paths.proofs.SlotTests.{last_stands, name_told, refuted}
use Rattle.live_paths.proofs.scan.may_have_name.Goals as goal
use Rattle.live_paths.proofs.scan.may_have_name.Goals.{then-length-name-via-then-length-name, then-length-name-via-else-length-name+then-length-eq0, then-length-name-via-else-length-name+else-length-eq0+then-length-gt-NAME_BYTES}

pub returns-then-length-name : goal.returns-then-length-name
returns-then-length-name c = λ no inodes. refuted (machine.has_name (model.slot_of inodes c.args.block.now c.args.slot) c.args.name.now) (λ e.
    let told = name_told inodes c.args.slot c.args.block.now c.args.name.now c.told-block e in
    elim c.then-length-name.branch [
      | then-length-name-via-then-length-name w ↦ w.if-length-name.true told.0
      | then-length-name-via-else-length-name+then-length-eq0 w ↦ omega (arith, told.0, told.1, w.if-length-eq0.true)
      | then-length-name-via-else-length-name+else-length-eq0+then-length-gt-NAME_BYTES w ↦ omega (arith, told.0, told.2, w.if-length-gt-NAME_BYTES.true)
    ])

pub returns-then-block-start : goal.returns-then-block-start
returns-then-block-start c = λ no inodes. refuted (machine.has_name (model.slot_of inodes c.args.block.now c.args.slot) c.args.name.now) (λ e.
    c.if-block-start.true (last_stands inodes c.args.slot c.args.block.now c.args.name.now c.told-block e))
