-- An update of a data block gives all of its bytes, so a flush that takes one needs none of those that stood there.
use Rattle.std.proofs.Common.{◌≡◌, ℕ, ◌≤◌, ◌/◌, Bool, List, [], ◌∷◌, refl, sym, subst, length, arith, IsTrue}
use Rattle.model.specs.Layout.{Geometry, IsGeometry, is_data_address, group_of_address}
use Rattle.model.specs.Cells.{Update, SetInode, SetNumber, SetBlock, SetBytes}
use Rattle.model.proofs.Places.{maps_are_no_data, inodes_are_no_data}
use Rattle.ordering.specs.Cuts.{Pending, cell_of}
use Rattle.queue_model.specs.Blocks.{home_of}
use Rattle.queue_model.specs.Entries.{Entry, Queue}
use Rattle.queue_model.proofs.Lists.{contains_head}
use Rattle.updates.specs.Alone.{IsPutInto, IsPutAll}
use Rattle.updates.proofs.CellPuts.{given_put}
use Rattle.softdep_queue.specs.declared.table.Table.{Table}
use Rattle.softdep_queue.specs.Taking.{TakesAll, changes_of}
use Rattle.softdep.proofs.Puts.{AreOf, later_of}

module _ (geo : Geometry) (ok : IsGeometry geo) (a : ℕ) (data_block : IsTrue (is_data_address geo a)) (old other : List ℕ) where
  put_over : (new : List ℕ) (u : Update) → home_of geo (cell_of u) ≡ a → IsPutInto geo u old new → IsPutInto geo u other new
  put_over new (SetInode n inode) e put = absurd (inodes_are_no_data geo ok n a data_block e)
  put_over new (SetNumber n marked) e put = absurd (maps_are_no_data geo ok (n / geo.inodes) a data_block e)
  put_over new (SetBlock b marked) e put = absurd (maps_are_no_data geo ok (group_of_address geo b) a data_block e)
  put_over new (SetBytes b bytes) e put =
      subst (IsPutInto geo (SetBytes b bytes) other) (sym put.alone) (given_put geo ok other bytes b (subst (λ k. IsTrue (is_data_address geo k)) (sym e) data_block))

  -- the first change that is put gives all bytes
  pub all_put_over : (es : List Entry) (new : List ℕ) → AreOf geo a es → 1 ≤ length es → IsPutAll geo (changes_of es) old new → IsPutAll geo (changes_of es) other new
  all_put_over [] new own some put = absurd (omega (arith, some))
  all_put_over (e ∷ []) new own some put = (other, refl, put_over new e.change (own e (contains_head e [])) (subst (λ b. IsPutInto geo e.change b new) put.1 put.2))
  all_put_over (e ∷ f ∷ es) new own some put = (put.0, all_put_over (f ∷ es) put.0 (later_of geo a e (f ∷ es) own) (omega arith) put.1, put.2)

  pub taken_over : (queue : Queue) (q : List Pending) (loose : List Bool) (t : Table) (new : List ℕ) (count : ℕ) → TakesAll geo queue q loose a t old new count → 1 ≤ count → TakesAll geo queue q loose a t other new count
  taken_over queue q loose t new count takes some = record {
    holds = takes.holds;
    last = takes.last;
    count = takes.count;
    put = all_put_over takes.last.es new takes.last.own (let n = takes.last.count in omega (arith, some, n)) takes.put;
    changes = takes.changes;
  }
