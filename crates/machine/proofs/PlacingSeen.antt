-- What is seen after an unmarked block is placed.
use Rattle.std.proofs.Common.{◌≡◌, ℕ, List, sym, arith}
use Rattle.std.proofs.lemmas.Bool.{leb-true}
use Rattle.model.specs.Layout.{Geometry}
use Rattle.model.specs.View.{View}
use Rattle.model.specs.Shape.{most_blocks}
use Rattle.model.specs.Uses.{IsClaim}
use Rattle.model.specs.Rules.{ObeysRules}
use Rattle.machine.specs.Cells.{Places}
use Rattle.machine.proofs.Placing.{Placed, same_uses}
use Rattle.machine.proofs.Placements.{placed_size}
use Rattle.machine.proofs.SeenAfter.{OneBlock}

module _ (geo : Geometry) (v : View) (o : ObeysRules geo v) (i k : ℕ) (bytes : List ℕ) (size : ℕ) (x : View) (p : Places geo v i k bytes size x) where
  -- so one block of the inode has got other bytes
  pub by_placing : Placed geo v x i k p.block bytes → OneBlock geo v x i k size bytes
  by_placing s = record {
    there = s.there;
    sized = placed_size geo v x i k bytes size p;
    own_use = s.kept;
    own_bytes = λ q a d low c. sym (s.bytes a (o.rule3.marked i q a c) (λ m table e.
        let same = (o.rule3.once i q i m a c e).1 in let high = leb-true (most_blocks geo) m table in omega (arith, same, high, low)));
    other_use = λ j q d. sym (same_uses geo v x j q (s.there j d) (λ m a table c. other j m a d c));
    other_bytes = λ j q a d c. sym (other j q a d c);
    none = s.none;
    block = p.block;
    placed = s.placed;
    stored = s.stored;
  }
    where
      other : (j q a : ℕ) → (j ≡ i → ⊥) → IsClaim geo v j q a → v.bytes a ≡ x.bytes a
      other j q a d c = s.bytes a (o.rule3.marked j q a c) (λ m table e. d (o.rule3.once j q i m a c e).0)
