-- What a reply answered holds of its outcome.
use Rattle.std.proofs.Common.{◌≡◌, Result, Ok, Err}
use Rattle.std.specs.Prelude.{IfOk, OnOk, is_ok}

pub on_ok_as : {A B C E : Type 0} (P : Type 0) (reply : Result A B) (outcome : Result C E) → is_ok outcome ≡ is_ok reply → IfOk reply (λ _. P) → OnOk outcome P
on_ok_as P (Ok a) (Ok c) same p = p
on_ok_as P (Ok a) (Err e) same p = tt
on_ok_as P (Err b) (Ok c) same p = absurd cc
on_ok_as P (Err b) (Err e) same p = tt
