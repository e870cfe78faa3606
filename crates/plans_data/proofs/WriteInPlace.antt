-- A block of a file is written in place.
use Rattle.std.proofs.Common.{ℕ, Bool, ◌<◌, List, [], ◌∷◌, length, refl, ap, IsTrue, arith}
use Rattle.std.proofs.lemmas.Bool.{and_parts, lt-leb}
use Rattle.model.specs.Layout.{Geometry, is_number}
use Rattle.model.specs.View.{View}
use Rattle.model.specs.Cells.{SetBytes}
use Rattle.model.specs.Shape.{most_blocks}
use Rattle.model.specs.Uses.{is_sound, IsClaim}
use Rattle.model.specs.Rules.{ObeysRules}
use Rattle.machine.specs.State.{State}
use Rattle.machine.specs.Cells.{block_of}
use Rattle.machine.specs.Effects.{Writes, InPlace, size_after}
use Rattle.ordering.specs.Cuts.{Block, Pending, users_view}
use Rattle.ordering.specs.Ghosts.{Ghost, at_rest}
use Rattle.ordering.specs.Agrees.{AllAgree}
use Rattle.ordering.specs.Histories.{Writes as WritesBlock}
use Rattle.ordering.proofs.Bits.{users_obey}
use Rattle.plans_data.specs.Issues.{Issues}
use Rattle.plans_data.specs.Now.{now, becomes}
use Rattle.plans_data.specs.Write.{MayWriteInPlace, written}
use Rattle.plans_data.proofs.Blocks.{few_blocks, block_claimed, same_blocks, no_less}
use Rattle.plans_data.proofs.Chains.{stand, step}
use Rattle.plans_data.proofs.Enlarging.{enlarged_view, enlarge}

module _ (geo : Geometry) (disk : View) (q : List Pending) (old : State) (safe : ℕ → Bool) (n k : ℕ) (piece bytes : List ℕ)
    (may : MayWriteInPlace geo (now disk q old) n k piece bytes) where
  abbrev users : View
  users = users_view disk q

  abbrev ghost : Ghost
  ghost = at_rest old.held safe

  abbrev b : ℕ
  b = block_of geo users n k

  abbrev size : ℕ
  size = size_after users n k piece

  abbrev q1 : List Pending
  q1 = record { change = SetBytes b bytes; after = [] } ∷ q

  pub in_place_writes : Writes geo (now disk q old) n k piece (becomes disk (written n (users.inode n) b bytes size q) old.held old)
  in_place_writes = record {
    bytes = bytes;
    overwritten = may.write.overwritten;
    stores = InPlace may.inside may.not_kept (ap (λ v. record old { view = v }) (enlarged_view disk q1 n (users.inode n) size (Block b ∷ []) refl (no_less (users.inode n).size k (length piece))));
  }

  pub in_place_issues : AllAgree geo disk q ghost → Issues geo disk q ghost (written n (users.inode n) b bytes size q) ghost
  in_place_issues all =
      (enlarge geo disk q ghost q1 ghost n (users.inode n) size (Block b ∷ []) refl sound may.write.file (same_blocks (users.inode n).size k (length piece) may.inside may.write.few)
      (step geo disk q ghost q ghost (record { change = SetBytes b bytes; after = [] }) ghost (stand geo disk q ghost all)
      (WritesBlock [] n k b bytes (record { claims = claim; no_table = lt-leb (most_blocks geo) k low; file = may.write.file })))).issues
    where
      rules : ObeysRules geo users
      rules = users_obey geo disk q ghost all

      sound : IsTrue (is_sound geo (users.inode n))
      sound = (and_parts (is_number geo n) (is_sound geo (users.inode n)) may.write.sound).1

      low : k < most_blocks geo
      low = omega (arith, may.inside, few_blocks geo users n may.write.sound)

      claim : IsClaim geo users n k b
      claim = block_claimed geo users rules n k may.write.sound may.inside
