use Rattle.std.proofs.Common.{◌≡◌, ◌+◌, ◌∷◌, ◌++◌, [], length, take, ap, ◌∙◌, arith}
use Rattle.file_device.specs.declared.run.Blocks.{Blocks}
use Rattle.file_device.specs.Calls.{writes_from}
use Rattle.file_device.proofs.RunLemmas.{writes_from-put}
use Rattle.file_device.proofs.run.Run.push.Goals as goal

pub returns : goal.returns
returns c =
    let span = c.args.self.now.span in
    let room : length c.deref_mut.result.now.all ≡ 32 = search in
    writes_from-put span.first span.count c.deref_mut.result.now.all c.args.block.now (omega (arith, c.requires.room, room))
    ∙ ap (λ (b : Blocks). writes_from span.first (take span.count b.all) ++ (span.first + span.count, c.args.block.now) ∷ []) c.deref_mut.ensures.value
