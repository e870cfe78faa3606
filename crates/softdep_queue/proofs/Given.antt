-- An update of a data block gives all of its bytes: of several that are put into it, only the last one counts.
use Rattle.std.proofs.Common.{◌≡◌, ℕ, ◌/◌, List, [], ◌∷◌, Option, Some, None, refl, sym, subst, IsTrue, IfSome, MatchOption, Contains, ◌++◌, ◌+◌, ◌≤◌, length, length-append, arith}
use Rattle.model.specs.Layout.{Geometry, IsGeometry, is_data_address, group_of_address}
use Rattle.model.specs.Cells.{Update, SetInode, SetNumber, SetBlock, SetBytes}
use Rattle.model.proofs.Places.{maps_are_no_data, inodes_are_no_data}
use Rattle.ordering.specs.Cuts.{Pending, cell_of}
use Rattle.queue_model.specs.Blocks.{home_of}
use Rattle.queue_model.specs.Entries.{Entry, Queue}
use Rattle.queue_model.proofs.Lists.{contains_head, contains_tail}
use Rattle.queue_model.proofs.Standing.{id_low}
use Rattle.updates.specs.Alone.{IsPutInto, IsPutAll}
use Rattle.updates.proofs.CellPuts.{given_put}
use Rattle.softdep_queue.specs.declared.table.Table.{Table}
use Rattle.softdep_queue.specs.Ties.{Takes, Shows, node_at}
use Rattle.softdep_queue.specs.Taking.{ShowsCell, changes_of}
use Rattle.softdep_queue.proofs.Taken.{few_taken}

-- the id of the one that was taken last
abbrev pub newest : List Entry → Option ℕ
newest [] = None
newest (e ∷ es) = Some e.id

-- no more are taken than there are nodes
pub few_more : (geo : Geometry) (t : Table) (queue : Queue) (q : List Pending) (e : Entry) (es ws : List Entry) (count : ℕ) → Takes geo t queue q (e ∷ es ++ ws) → length es ≡ count
    → count + 1 ≤ length t.nodes.items
few_more geo t queue q e es ws count takes n =
    let l = few_taken geo t queue q _ _ takes.ties (e ∷ es ++ ws) takes.each in
    let all = length-append es ws in
    omega (arith, l, n, all)

-- its node shows a change of one of the volume's cells
pub newest_shows : (geo : Geometry) (t : Table) (queue : Queue) (q : List Pending) (es ws : List Entry) → Takes geo t queue q (es ++ ws) → IfSome (newest es) (λ i. ShowsCell geo t i)
newest_shows geo t queue q [] ws takes = tt
newest_shows geo t queue q (e ∷ es) ws takes =
    let node = takes.ties.node (home_of geo (cell_of e.change)) e takes.each.0 in
    record {
      update = e.change;
      shows = node.change;
      cell = node.cell;
      fits = node.fits;
      low = (let l = id_low (home_of geo) queue q takes.ties.represents (home_of geo (cell_of e.change)) e takes.each.0 in let n = takes.ties.next in omega (arith, l, n));
    }

module _ (geo : Geometry) (ok : IsGeometry geo) (a : ℕ) (data_block : IsTrue (is_data_address geo a)) where
  -- the bytes that a change gives are put over any others
  given : (u : Update) → home_of geo (cell_of u) ≡ a → (old : List ℕ) → (new : List ℕ) × IsPutInto geo u old new
  given (SetInode n inode) e old = absurd (inodes_are_no_data geo ok n a data_block e)
  given (SetNumber n marked) e old = absurd (maps_are_no_data geo ok (n / geo.inodes) a data_block e)
  given (SetBlock b marked) e old = absurd (maps_are_no_data geo ok (group_of_address geo b) a data_block e)
  given (SetBytes b bytes) e old = (bytes, given_put geo ok old bytes b (subst (λ k. IsTrue (is_data_address geo k)) (sym e) data_block))

  put_over : (old other new : List ℕ) (u : Update) → home_of geo (cell_of u) ≡ a → IsPutInto geo u old new → IsPutInto geo u other new
  put_over old other new (SetInode n inode) e put = absurd (inodes_are_no_data geo ok n a data_block e)
  put_over old other new (SetNumber n marked) e put = absurd (maps_are_no_data geo ok (n / geo.inodes) a data_block e)
  put_over old other new (SetBlock b marked) e put = absurd (maps_are_no_data geo ok (group_of_address geo b) a data_block e)
  put_over old other new (SetBytes b bytes) e put =
      subst (IsPutInto geo (SetBytes b bytes) other) (sym put.alone) (given_put geo ok other bytes b (subst (λ k. IsTrue (is_data_address geo k)) (sym e) data_block))

  all_given : (es : List Entry) → ((e : Entry) → Contains es e → home_of geo (cell_of e.change) ≡ a) → (old : List ℕ) → (new : List ℕ) × IsPutAll geo (changes_of es) old new
  all_given [] own old = (old, refl)
  all_given (e ∷ es) own old =
      let before = all_given es (λ f m. own f (contains_tail e f es m)) old in
      let last = given e.change (own e (contains_head e es)) before.0 in
      (last.0, (before.0, before.1, last.1))

  -- where the last change alone was put, it is as if all had been
  pub last_put : (e : Entry) (es : List Entry) (old new : List ℕ) → ((f : Entry) → Contains (e ∷ es) f → home_of geo (cell_of f.change) ≡ a) → IsPutInto geo e.change old new
      → IsPutAll geo (changes_of (e ∷ es)) old new
  last_put e es old new own put =
      let before = all_given es (λ f m. own f (contains_tail e f es m)) old in
      (before.0, before.1, put_over old before.0 new e.change (own e (contains_head e es)) put)

  -- the change of the newest one was put, if there is one
  pub newest_put : (t : Table) (queue : Queue) (q : List Pending) (es ws : List Entry) (old new : List ℕ) → Takes geo t queue q (es ++ ws) → ((e : Entry) → Contains es e → home_of geo (cell_of e.change) ≡ a)
      → MatchOption (newest es) (new ≡ old) (λ i. (u : Update) → Shows (node_at t.nodes.items i).update u → IsPutInto geo u old new) → IsPutAll geo (changes_of es) old new
  newest_put t queue q [] ws old new takes own put = put
  newest_put t queue q (e ∷ es) ws old new takes own put =
      let node = takes.ties.node (home_of geo (cell_of e.change)) e takes.each.0 in
      last_put e es old new own (put e.change node.change)
