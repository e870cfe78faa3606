use Rattle.std.proofs.Common.{◌∙◌, ap, ap₂}
use Rattle.std.proofs.lemmas.List.{take_rest}
use Rattle.fuse_wire.specs.Opcodes.{opcode_of}
use Rattle.fuse_wire.specs.Requests.{asked_of, request_at}
use Rattle.fuse_wire.proofs.reading.request_at.Goals as goal

pub returns : goal.returns
unfolding request_at
returns c = c.request_of.ensures ∙ ap₂ asked_of (c.of_number-opcode.ensures ∙ ap opcode_of c.word_at.ensures) (take_rest c.args.message.now 40)
