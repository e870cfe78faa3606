use Rattle.std.proofs.Common.{length}
use Rattle.std.proofs.lemmas.Result.{IfOk-weaker}
use Rattle.model.specs.Uses.{blocks_of}
use Rattle.import_tree.specs.Putting.{AddsBlocks}
use Rattle.import_tree.proofs.PutLemmas.{fills}
use Rattle.import_tree.proofs.copying.fill_from.Goals as goal

pub returns-clause-filled : goal.returns-clause-filled
returns-clause-filled g c =
    let held = g.D.Device.held in
    let image = g.D.Device.image in
    let v₀ = c.args.volume.now in
    let v₁ = c.open.new.volume in
    let v₂ = c.copy_parts-copied.new.volume in
    let v₃ = c.close.new.volume in
    let handle = c.in_ok-handle.handle in
    IfOk-weaker c.copy_parts-copied.result (λ given. g.D.Device.honest v₂.device → AddsBlocks handle given (blocks_of (length given)) (held v₁.device) (image v₁.device) v₁ (held v₂.device) (image v₂.device) v₂) _
    (λ given wrote honest.
    let closing = c.close.ensures.honest honest in
    fills (held v₀.device) (held v₁.device) (held v₂.device) (held v₃.device) (image v₀.device) (image v₁.device) (image v₂.device) (image v₃.device) v₀ v₁ v₂ v₃ c.args.path.now given handle
    (c.in_ok-handle.ensures.opened (c.copy_parts-copied.ensures.honest closing)) (wrote closing) (c.in_ok-close.ensures.closed honest)) c.copy_parts-copied.ensures.written
