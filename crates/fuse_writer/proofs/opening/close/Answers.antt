use Rattle.std.proofs.Common.{refl, ap, ◌∙◌}
use Rattle.fuse_writer.proofs.EndLemmas.{closes_last, closes_none}
use Rattle.fuse_writer.proofs.RequestLemmas.{with_nodes}
use Rattle.fuse_writer.proofs.opening.close.Goals as goal

pub returns-in-Some-clause-session : goal.returns-in-Some-clause-session
returns-in-Some-clause-session g c = c.ask_done.ensures.session ∙ ap (with_nodes c.args.mounted.now.session) c.close.ensures.changed

pub returns-in-Some-clause-does : goal.returns-in-Some-clause-does
returns-in-Some-clause-does g c = λ next refused.
    let s = c.args.mounted.now.session in
    closes_last s _ c.args.number (c.ask_done.ensures.session ∙ ap (with_nodes s) c.close.ensures.changed) next refused _ _ _ _ _ c.in-Some.ensures.released c.ask_done.ensures.asked (λ geo. refl)

pub returns-in-None-clause-session : goal.returns-in-None-clause-session
returns-in-None-clause-session g c = ap (with_nodes c.args.mounted.now.session) c.close.ensures.changed

pub returns-in-None-clause-does : goal.returns-in-None-clause-does
returns-in-None-clause-does g c = λ next refused.
    let s = c.args.mounted.now.session in
    closes_none s _ c.args.number (ap (with_nodes s) c.close.ensures.changed) next refused _ c.in-None.ensures.released
