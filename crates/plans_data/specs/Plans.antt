-- Which plan carries out a command that no cause refuses.
use Rattle.std.specs.Prelude.{◌≡◌, ℕ, List, [], ◌∷◌, map, length, replicate}
use Rattle.std.specs.Option.{option_map_or}
use Rattle.model.specs.Layout.{Geometry}
use Rattle.model.specs.View.{View}
use Rattle.model.specs.Shape.{table_of, above, new_tables}
use Rattle.findings.specs.declared.repair.Repair.{Repair}
use Rattle.findings.specs.declared.repair.Repair.TheVariants.{DropInode, LowerCount, FreeBlock, FreeNumber}
use Rattle.machine.specs.Cells.{block_of, with_pointer}
use Rattle.machine.specs.Room.{IsFreeBlock}
use Rattle.plans_data.specs.Append.{Holder, KeptInRecord, KeptInTable, KeptInNew, AreApart}

-- where the pointer of position k of inode n to block b is kept, with these new tables, the nearest first
abbrev pub holder_of : Geometry → View → ℕ → ℕ → ℕ → List ℕ → Holder
holder_of geo view n k b [] =
    option_map_or (λ m. KeptInTable m (block_of geo view n m) (view.bytes (block_of geo view n m)) (map (block_of geo view n) (above geo m))) (table_of geo k) KeptInRecord
holder_of geo view n k b (x ∷ xs) =
    option_map_or (λ m. KeptInNew m x (with_pointer (replicate 1024 0) 0 b) (holder_of geo view n m x xs)) (table_of geo k) KeptInRecord

-- each of these is an unmarked block
abbrev pub AllFree : Geometry → View → List ℕ → Type 0
AllFree geo view [] = Unit {0}
AllFree geo view (x ∷ xs) = IsFreeBlock geo view x × AllFree geo view xs

-- An unmarked block, and as many new tables as come with block k of a file, the nearest first; no block twice.
pub record IsChoice (geo : Geometry) (view : View) (k b : ℕ) (news : List ℕ) : Type 0 where
  pub free : IsFreeBlock geo view b
  pub many : length news ≡ length (new_tables geo k)
  pub tables : AllFree geo view news
  pub apart : AreApart (b ∷ news)

-- the number that a repair names
abbrev pub named_by : Repair → ℕ
named_by (DropInode n) = n
named_by (LowerCount n x) = n
named_by (FreeBlock a) = a
named_by (FreeNumber n) = n
