use Rattle.std.proofs.Common.{ℕ, List, Vec, Global, map, ap, ap₂, ◌∙◌, arith}
use Rattle.std.proofs.lemmas.List.{take_all}
use Rattle.snapshot.specs.Asked.{asked}
use Rattle.tool_answers.specs.Words.{naming_of, new_name}
use Rattle.tool_answers.proofs.WordLemmas.{deed_added}
use Rattle.tool_answers.proofs.words.namings.Goals as goal

pub loop-path-preserved : goal.loop-path-preserved
loop-path-preserved c = λ geo.
    deed_added (asked geo) (λ (path : Vec ℕ Global). naming_of c.args.naming path.items (new_name c.args.aim c.args.target.now path.items)) c.args.paths.now c.loop-path.path-index
    c.path-item.result c.loop-path.commands.items c.push.new.self.items c.in_ok-naming_of.field-0 (omega (arith, c.loop-path-test.true)) c.path-item.is c.in_ok-push.ensures.items
    (c.loop-path.invariant geo)
    (c.in_ok-naming_of.ensures geo ∙ ap₂ (λ (old new : List ℕ). naming_of c.args.naming old new) c.deref-in-loop-path.ensures.value
    (c.in_ok-new.ensures ∙ ap (new_name c.args.aim c.args.target.now) c.deref.ensures.value))

pub returns : goal.returns
returns c = λ geo.
    c.loop-path.invariant geo
    ∙ ap (map (λ (path : Vec ℕ Global). naming_of c.args.naming path.items (new_name c.args.aim c.args.target.now path.items)))
    (take_all c.loop-path.path-index c.args.paths.now (omega (arith, c.loop-path-test.false)))
