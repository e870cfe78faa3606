-- The inode of an open handle.
use Rattle.std.proofs.Common.{◌≡◌, ℕ, true, false, refl, Option, Some, None}
use Rattle.std.specs.Prelude.{is_none, unwrap_or}
use Rattle.std.proofs.lemmas.Bool.{both_ways}
use Rattle.layout.specs.declared.refusal.Refusal.TheVariants.{BadHandle}
use Rattle.machine.specs.State.{State, open_at}
use Rattle.machine.specs.Causes.{not_open, file_of}
use Rattle.machine.proofs.Walks.{when_none}

pub opened_file : (s : State) (h : ℕ) → not_open s h ≡ None → open_at s h ≡ Some (file_of s h)
opened_file s h e = go (open_at s h) (when_none (is_none (open_at s h)) BadHandle e)
  where
    go : (o : Option ℕ) → is_none o ≡ false → o ≡ Some (unwrap_or o 0)
    go None f = absurd (both_ways true f refl)
    go (Some i) f = refl
