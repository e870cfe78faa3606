use Rattle.std.proofs.Common.{◌∷◌, ◌++◌, Ok, subst}
use Rattle.machine.specs.Command.{Done, Freeze, Image, Install}
use Rattle.machine.specs.Step.{Run}
use Rattle.snapshot.specs.Stages.{geometry_at, state_at}
use Rattle.snapshot.proofs.Splitting.{split}
use Rattle.snapshot.proofs.laws.whole_cycles_end_exact.Goals as goal

pub returns-clause-cycle : goal.returns-clause-cycle
returns-clause-cycle g c = λ from to number frozen check findings first second replies answers is e leads none none' found each.
    let geo = geometry_at from in
    let t = state_at to in
    let rest = split geo leads.run.0 t first (Install check ∷ second) replies (Ok Done ∷ answers) e leads.run.2 in
    c.checks_carried_out_end_exact.ensures.cycle geo is.stands.geometry (state_at from) leads.run.0 rest.0 rest.2.0 t number frozen check findings first second replies answers
    is.stands.balance leads.run.1 rest.1 none rest.2.1 rest.2.2 none' found each

pub returns-clause-within : goal.returns-clause-within
returns-clause-within g c = λ from to commands replies is leads cycle.
    let geo = geometry_at from in
    let s = state_at from in
    let t = state_at to in
    let cs = Freeze ∷ (cycle.first ++ (Install cycle.check ∷ cycle.second)) in
    let rs = Ok (Image cycle.number cycle.frozen) ∷ (cycle.replies ++ (Ok Done ∷ cycle.answers)) in
    let run = subst (λ x. Run geo s (cycle.earlier ++ cs) x t) cycle.responses_are (subst (λ x. Run geo s x replies t) cycle.commands_are leads.run) in
    let later = split geo s t cycle.earlier cs cycle.before rs cycle.as_many run in
    let balance = c.runs_keep_the_balance.ensures.balanced geo is.stands.geometry s later.0 cycle.earlier cycle.before is.stands.balance later.1 in
    let rest = split geo later.2.0 t cycle.first (Install cycle.check ∷ cycle.second) cycle.replies (Ok Done ∷ cycle.answers) cycle.as_many_first later.2.2 in
    c.checks_carried_out_end_exact.ensures.cycle geo is.stands.geometry later.0 later.2.0 rest.0 rest.2.0 t cycle.number cycle.frozen cycle.check cycle.findings cycle.first cycle.second cycle.replies cycle.answers
    balance later.2.1 rest.1 cycle.no_freeze_first rest.2.1 rest.2.2 cycle.no_freeze_second cycle.found cycle.each

pub returns-clause-planned : goal.returns-clause-planned
returns-clause-planned g c = λ s t commands replies plan is planned leads none each.
    c.whole_cycles_end_exact.ensures.cycle (geometry_at s) is.stands.geometry (state_at s) (state_at t) commands replies plan is.stands.balance planned leads.run none each

pub returns-clause-after : goal.returns-clause-after
returns-clause-after g c = λ s t commands replies is none leads.
    c.whole_cycles_end_exact.ensures.after (geometry_at s) is.stands.geometry (state_at s) (state_at t) commands replies is.stands.balance none leads.run
