-- The messages that were taken, and one more.
use Rattle.std.proofs.Common.{◌≡◌, ℕ, zero, suc, List, [], ◌∷◌, ◌++◌, take, Option, Some, slice_get, ap, ◌∙◌}
use Rattle.std.specs.Global.{Vec}
use Rattle.fuse_channels.specs.Messages.{texts}

abbrev some : Vec ℕ → Option (Vec ℕ)
some v = Some v

pub taken_more : (messages : List (Vec ℕ)) (i : ℕ) (message : Vec ℕ) → slice_get messages i ≡ some message → take (suc i) (texts messages) ≡ take i (texts messages) ++ message.items ∷ []
taken_more [] i message h = absurd cc
taken_more (first ∷ messages) zero message h = let e : first ≡ message = cc in ap (λ (v : Vec ℕ). v.items ∷ []) e
taken_more (first ∷ messages) (suc i) message h = ap (λ rest. first.items ∷ rest) (taken_more messages i message h)
