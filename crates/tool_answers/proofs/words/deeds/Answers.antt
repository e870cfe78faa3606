use Rattle.std.proofs.Common.{ℕ, Vec, Global, map, ap, ◌∙◌, arith}
use Rattle.std.proofs.lemmas.List.{take_all}
use Rattle.snapshot.specs.Asked.{asked}
use Rattle.tool_answers.specs.Words.{request_of}
use Rattle.tool_answers.proofs.WordLemmas.{deed_added}
use Rattle.tool_answers.proofs.words.deeds.Goals as goal

pub loop-path-preserved : goal.loop-path-preserved
loop-path-preserved c = λ geo.
    deed_added (asked geo) (λ (path : Vec ℕ Global). request_of c.args.deed path.items) c.args.paths.now c.loop-path.path-index c.path-item.result
    c.loop-path.commands.items c.push.new.self.items c.in_ok-command_of.field-0 (omega (arith, c.loop-path-test.true)) c.path-item.is c.in_ok-push.ensures.items (c.loop-path.invariant geo)
    (c.in_ok-command_of.ensures geo ∙ ap (request_of c.args.deed) c.deref.ensures.value)

pub returns : goal.returns
returns c = λ geo.
    c.loop-path.invariant geo
    ∙ ap (map (λ (path : Vec ℕ Global). request_of c.args.deed path.items)) (take_all c.loop-path.path-index c.args.paths.now (omega (arith, c.loop-path-test.false)))
