use Rattle.std.proofs.Common.{◌≡◌, eqb, false, take, All}
use Rattle.live_paths.proofs.path.split_first_piece.Given as goal

-- no byte before this one is '/'
abbrev pub invariant-loop-at : goal.invariant-loop-at
invariant-loop-at l = All (λ x. eqb x 47 ≡ false) (take l.at l.bytes)
