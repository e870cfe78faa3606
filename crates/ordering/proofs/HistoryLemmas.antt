-- Whatever a volume comes to, each closed cut is safe.
use Rattle.std.proofs.Common.{ℕ, Bool, List, IsTrue}
use Rattle.model.specs.Layout.{Geometry}
use Rattle.model.specs.View.{View}
use Rattle.ordering.specs.Cuts.{Pending, IsClosed, seen}
use Rattle.ordering.specs.Ghosts.{Ghost}
use Rattle.ordering.specs.Agrees.{AllAgree}
use Rattle.ordering.specs.Kinds.{Keeps}
use Rattle.ordering.specs.Histories.{Step, SetsBlock, SetsNumber, ClearsNumber, ClearsBlock, Fills, Writes, Raises, Lowers, RewritesFile, GrowsDirectory, CreatesFile, CreatesDirectory, Frees, AppendsSlot, MovesSlot, Removes, Enters, Renames, RemovesDirectory, EntersDirectory, Comes_to, Begins, Issues, Flushes, IsSafeCut}
use Rattle.ordering.proofs.Bits.{set_block_keeps, set_number_keeps, clear_number_keeps, clear_block_keeps}
use Rattle.ordering.proofs.Data.{fill_keeps, write_keeps}
use Rattle.ordering.proofs.Records.{raise_keeps, lower_keeps}
use Rattle.ordering.proofs.RecordKinds.{rewrite_file_keeps, create_file_keeps, create_directory_keeps, free_keeps}
use Rattle.ordering.proofs.Growth.{grow_directory_keeps}
use Rattle.ordering.proofs.Tables.{append_slot_keeps, move_slot_keeps}
use Rattle.ordering.proofs.SlotKinds.{remove_keeps}
use Rattle.ordering.proofs.NewNames.{enter_keeps, rename_keeps}
use Rattle.ordering.proofs.Prune.{remove_directory_keeps}
use Rattle.ordering.proofs.Graft.{enter_directory_keeps}
use Rattle.ordering.proofs.Flushes.{base_agrees, flush_agrees}

pub step_keeps : (geo : Geometry) (disk : View) (q : List Pending) (ghost : Ghost) (u : Pending) (ghost' : Ghost) → Step geo disk q ghost u ghost' → Keeps geo disk q ghost u ghost'
step_keeps geo disk q ghost u ghost' (SetsBlock after b h) = set_block_keeps geo disk q ghost after b h
step_keeps geo disk q ghost u ghost' (SetsNumber after n k h) = set_number_keeps geo disk q ghost after n k h
step_keeps geo disk q ghost u ghost' (ClearsNumber after n h) = clear_number_keeps geo disk q ghost after n h
step_keeps geo disk q ghost u ghost' (ClearsBlock after b h) = clear_block_keeps geo disk q ghost after b h
step_keeps geo disk q ghost u ghost' (Fills after b bytes h) = fill_keeps geo disk q ghost after b bytes h
step_keeps geo disk q ghost u ghost' (Writes after n p b bytes h) = write_keeps geo disk q ghost after n p b bytes h
step_keeps geo disk q ghost u ghost' (Raises after n x h) = raise_keeps geo disk q ghost after n x h
step_keeps geo disk q ghost u ghost' (Lowers after n x h) = lower_keeps geo disk q ghost after n x h
step_keeps geo disk q ghost u ghost' (RewritesFile held up after n x h) = rewrite_file_keeps geo disk q ghost held up after n x h
step_keeps geo disk q ghost u ghost' (GrowsDirectory after n x h) = grow_directory_keeps geo disk q ghost after n x h
step_keeps geo disk q ghost u ghost' (CreatesFile after n x h) = create_file_keeps geo disk q ghost after n x h
step_keeps geo disk q ghost u ghost' (CreatesDirectory after n x h) = create_directory_keeps geo disk q ghost after n x h
step_keeps geo disk q ghost u ghost' (Frees held up after n x h) = free_keeps geo disk q ghost held up after n x h
step_keeps geo disk q ghost u ghost' (AppendsSlot after n m x bytes h) = append_slot_keeps geo disk q ghost after n m x bytes h
step_keeps geo disk q ghost u ghost' (MovesSlot held up after n m x p bytes h) = move_slot_keeps geo disk q ghost held up after n m x p bytes h
step_keeps geo disk q ghost u ghost' (Removes after block bytes d s i name safe h) = remove_keeps geo disk q ghost after block bytes d s i name safe h
step_keeps geo disk q ghost u ghost' (Enters after block bytes d s i name h) = enter_keeps geo disk q ghost after block bytes d s i name h
step_keeps geo disk q ghost u ghost' (Renames after block bytes d s i old new h) = rename_keeps geo disk q ghost after block bytes d s i old new h
step_keeps geo disk q ghost u ghost' (RemovesDirectory after block bytes d s i b name h) = remove_directory_keeps geo disk q ghost after block bytes d s i b name h
step_keeps geo disk q ghost u ghost' (EntersDirectory after block bytes d s i b name h) = enter_directory_keeps geo disk q ghost after block bytes d s i b name h

-- a step makes no file safe that was not
pub step_safe : (geo : Geometry) (disk : View) (q : List Pending) (ghost : Ghost) (u : Pending) (ghost' : Ghost) → Step geo disk q ghost u ghost' → (f : ℕ) → IsTrue (ghost'.safe f) → IsTrue (ghost.safe f)
step_safe geo disk q ghost u ghost' (SetsBlock after b h) f t = t
step_safe geo disk q ghost u ghost' (SetsNumber after n k h) f t = t
step_safe geo disk q ghost u ghost' (ClearsNumber after n h) f t = t
step_safe geo disk q ghost u ghost' (ClearsBlock after b h) f t = t
step_safe geo disk q ghost u ghost' (Fills after b bytes h) f t = t
step_safe geo disk q ghost u ghost' (Writes after n p b bytes h) f t = t
step_safe geo disk q ghost u ghost' (Raises after n x h) f t = t
step_safe geo disk q ghost u ghost' (Lowers after n x h) f t = t
step_safe geo disk q ghost u ghost' (RewritesFile held up after n x h) f t = t
step_safe geo disk q ghost u ghost' (GrowsDirectory after n x h) f t = t
step_safe geo disk q ghost u ghost' (CreatesFile after n x h) f t = t
step_safe geo disk q ghost u ghost' (CreatesDirectory after n x h) f t = t
step_safe geo disk q ghost u ghost' (Frees held up after n x h) f t = t
step_safe geo disk q ghost u ghost' (AppendsSlot after n m x bytes h) f t = t
step_safe geo disk q ghost u ghost' (MovesSlot held up after n m x p bytes h) f t = t
step_safe geo disk q ghost u ghost' (Removes after block bytes d s i name safe h) f t = h.fewer_safe f t
step_safe geo disk q ghost u ghost' (Enters after block bytes d s i name h) f t = t
step_safe geo disk q ghost u ghost' (Renames after block bytes d s i old new h) f t = t
step_safe geo disk q ghost u ghost' (RemovesDirectory after block bytes d s i b name h) f t = t
step_safe geo disk q ghost u ghost' (EntersDirectory after block bytes d s i b name h) f t = t

pub comes_to_agrees : (geo : Geometry) (disk : View) (q : List Pending) (ghost : Ghost) → Comes_to geo disk q ghost → AllAgree geo disk q ghost
comes_to_agrees geo disk q ghost (Begins d held safe o r) = base_agrees geo d held safe o r
comes_to_agrees geo disk q ghost (Issues {disk = e} {q = p} {ghost = g} u g' before step) = step_keeps geo e p g u g' step (comes_to_agrees geo e p g before)
comes_to_agrees geo disk q ghost (Flushes {disk = e} {q = p} {ghost = g} cut before closed) = flush_agrees geo e p g cut closed (comes_to_agrees geo e p g before)

pub each_cut_is_safe : (geo : Geometry) (disk : View) (q : List Pending) (ghost : Ghost) → Comes_to geo disk q ghost → (cut : List Bool) → IsClosed q cut → IsSafeCut geo (seen disk q cut) ghost
each_cut_is_safe geo disk q ghost h cut closed =
    let a = comes_to_agrees geo disk q ghost h cut closed in record { rules = a.rules; files = a.safe }
