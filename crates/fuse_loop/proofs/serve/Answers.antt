use Rattle.std.proofs.Common.{inl, refl}
use Rattle.fuse_loop.proofs.SessionLemmas.{leaves_one, none_left, none_more, none_served, serves_more}
use Rattle.fuse_loop.proofs.serve.Goals as goal

pub returns-in_default-clause-left : goal.returns-in_default-clause-left
returns-in_default-clause-left g c = none_left _ _ _ _ (inl refl)

pub loop-turn-init : goal.loop-turn-init
loop-turn-init g c = none_served _ _ _

pub loop-turn-preserved : goal.loop-turn-preserved
loop-turn-preserved g c = serves_more _ _ _ _ _ _ _ _ _ _ _ c.loop-turn.invariant.0 c.loop-turn.invariant.1 c.in-Ok-true.ensures.served

pub returns-in-Ok-false-clause-served : goal.returns-in-Ok-false-clause-served
returns-in-Ok-false-clause-served g c = (serves_more _ _ _ _ _ _ _ _ _ _ _ c.loop-turn.invariant.0 c.loop-turn.invariant.1 c.in-Ok-false.ensures.served).0

pub returns-in-Err-clause-left : goal.returns-in-Err-clause-left
returns-in-Err-clause-left g c = leaves_one _ _ _ _ _ _ _ _ _ _ _ c.loop-turn.invariant.0 c.loop-turn.invariant.1 c.in-Err.ensures.left

pub returns-clause-left : goal.returns-clause-left
returns-clause-left g c = none_more _ _ _ _ _ _ _ c.loop-turn.invariant.0 (inl refl)

pub returns-in-Ok-false-clause-ended : goal.returns-in-Ok-false-clause-ended
returns-in-Ok-false-clause-ended g c = c.in-Ok-false.ensures.ended c.in-Ok-false.field-0-test
