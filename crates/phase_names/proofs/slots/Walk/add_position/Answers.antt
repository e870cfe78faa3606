-- Where there is no block, its slots are left out.
use Rattle.std.proofs.Common.{◌≡◌, ◌+◌, ◌*◌, ◌/◌, arith, subst}
use Rattle.frozen.specs.Kept.{frozen_view}
use Rattle.phase_names.specs.Walks.{IsWalked}
use Rattle.phase_names.proofs.WalkLemmas.{walked_all_absent}
use Rattle.phase_names.proofs.slots.Walk.add_position.Goals as goal

pub returns-in-None-clause-walked : goal.returns-in-None-clause-walked
returns-in-None-clause-walked c = λ h.
    let geo = c.args.frozen.now.geometry in
    let view = frozen_view c.args.frozen.now in
    let all : 16 * c.args.position + 16 ≡ 16 * (c.args.position + 1) = omega arith in
    subst (λ n. IsWalked geo view c.args.directory n c.args.self.now) all
    (walked_all_absent geo view c.args.directory (16 * c.args.position) 16 c.args.self.now
    (λ q from low. let here : q / 16 ≡ c.args.position = omega (arith, from, low) in c.in-None.ensures.slots q here) h)
