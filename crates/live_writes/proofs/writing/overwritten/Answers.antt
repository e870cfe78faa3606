-- A piece that is as long as a block is all that the block holds then.
use Rattle.std.proofs.Common.{◌≡◌, ◌∙◌, arith}
use Rattle.std.specs.Arc.{arc_value}
use Rattle.std.proofs.lemmas.Result.{IfOk-weaker}
use Rattle.live_writes.specs.Written.{bytes_after}
use Rattle.live_writes.proofs.Bytes.{over_all}
use Rattle.live_writes.proofs.writing.overwritten.Goals as goal

pub returns-in-Some-clause-bytes : goal.returns-in-Some-clause-bytes
returns-in-Some-clause-bytes c =
    let place = c.args.place.now in
    let before = c.args.before.now in
    let piece = c.args.piece.now in
    let all = c.in-Some.ensures.cases in
    IfOk-weaker c.share.result (λ shared. arc_value shared ≡ c.in-Some.whole.now) (λ shared. arc_value shared ≡ bytes_after place before piece)
    (λ shared e. e ∙ all.same ∙ over_all place before piece (omega (arith, c.told-before)) all.long)
    c.share.ensures.bytes
