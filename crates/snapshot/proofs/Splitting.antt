-- Runs of the calls of a volume, and the laws of the machine.
use Rattle.std.proofs.Common.{◌≡◌, List, [], ◌∷◌, ◌++◌, length, refl, arith}
use Rattle.model.specs.Layout.{Geometry}
use Rattle.machine.specs.Command.{Command, Reply}
use Rattle.machine.specs.State.{State}
use Rattle.machine.specs.Step.{Run}

-- a run of two lists is two runs
pub split : (geo : Geometry) (old new : State) (one other : List Command) (xs ys : List Reply) → length xs ≡ length one → Run geo old (one ++ other) (xs ++ ys) new → (mid : State) × Run geo old one xs mid × Run geo mid other ys new
split geo old new [] other [] ys e r = (old, refl, r)
split geo old new (c ∷ cs) other (x ∷ xs) ys e r = let rest = split geo r.0 new cs other xs ys (omega (arith, e)) r.2 in (rest.0, (r.0, r.1, rest.1), rest.2)
split geo old new [] other (x ∷ xs) ys e r = absurd (omega (arith, e))
split geo old new (c ∷ cs) other [] ys e r = absurd (omega (arith, e))
