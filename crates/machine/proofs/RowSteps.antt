-- On the fresh image a file can be created as number 3, opened, written and read.
use Rattle.std.proofs.Common.{◌≡◌, ◌<◌, ℕ, true, false, List, [], ◌∷◌, ◌++◌, refl, arith, inl, Some, Ok, codes, ltb, ltb-true, replicate}
use Rattle.std.specs.List.{All, list_all}
use Rattle.std.proofs.lemmas.List.Sums.{AllPass-from_list_all}
use Rattle.model.specs.View.{View, Inode, new_file}
use Rattle.model.specs.Shape.{most_blocks, position_count, table_of, place_in_table, first_block, above}
use Rattle.model.specs.Uses.{record_use, use_at, claim_at}
use Rattle.model.specs.Slots.{slot}
use Rattle.model.specs.Reach.{sum_below}
use Rattle.model.proofs.Shape.{direct_none}
use Rattle.model.specs.Cells.{SetInode, SetNumber, SetBlock, SetBytes, updated_all, put_at}
use Rattle.machine.specs.Below.{any_below, first_below}
use Rattle.machine.specs.State.{State}
use Rattle.machine.specs.Command.{Create, no_attributes, Open, Write, Read, ListNames, Stat, Unlink, Number, Done, Bytes, Listed, Status}
use Rattle.machine.specs.Paths.{parts_of, walk, target, lookup, slot_of}
use Rattle.machine.specs.Causes.{causes}
use Rattle.machine.specs.Cells.{with_entry, IsEntryFor, InRecord, claims}
use Rattle.machine.specs.Effects.{names_below, Appended, unlinked, closed, truncated}
use Rattle.machine.specs.Snapshot.{settled, frozen, released}
use Rattle.machine.specs.Step.{Step}
use Rattle.machine.specs.Rows.{small, fresh}

bytes_small : (bs : List ℕ) → list_all (λ b. ltb b 256) bs ≡ true → All (λ b. b < 256) bs
bytes_small bs h = λ k d below. ltb-true _ 256 (AllPass-from_list_all (λ b. ltb b 256) bs h k d below)

-- the slot that names 3 "a"
abbrev entry : List ℕ
entry = (3 ∷ 0 ∷ 0 ∷ 0 ∷ 1 ∷ 0 ∷ 0 ∷ 0 ∷ 97 ∷ []) ++ replicate 55 0

entry_for : IsEntryFor 3 (codes "a") entry
entry_for = record { whole = refl; bytes = bytes_small entry refl; number = refl; size = refl; text = refl }

abbrev pub first_view : View
first_view = updated_all fresh.view (SetNumber 3 true ∷ SetInode 3 new_file ∷ [])

abbrev pub created : State
created = record fresh { view = with_entry small first_view 2 2 entry }

pub create_is_three : Step small fresh (Create (codes "/a") no_attributes) (Ok (Number 3)) created
unfolding causes parts_of walk target lookup slot_of first_below any_below sum_below slot use_at record_use most_blocks position_count table_of place_in_table first_block claim_at
create_is_three = (
  (refl, tt),
  record {
    free = record { number = refl; unmarked = refl };
    view = with_entry small first_view 2 2 entry;
    enters = record { roomy = first_view; room = inl (refl, refl); place = 2; empty = refl; entry = entry; says = entry_for; whole = refl };
    whole = refl;
  },
)

pub listed : Step small created (ListNames (codes "/")) (Ok (Listed (record { name = codes "a"; number = 3 } ∷ []))) created
unfolding causes parts_of walk target lookup slot_of first_below any_below sum_below slot use_at record_use most_blocks position_count table_of place_in_table first_block claim_at names_below
listed = ((refl, tt), (refl, refl))

pub stated : Step small created (Stat (codes "/a")) (Ok (Status 3 1 1 0)) created
unfolding causes parts_of walk target lookup slot_of first_below any_below sum_below slot use_at record_use most_blocks position_count table_of place_in_table first_block claim_at
stated = ((refl, tt), (refl, refl))

abbrev pub opened : State
opened = record created { opened = put_at fresh.opened 0 (Some 3) }

pub open_is_zero : Step small created (Open (codes "/a")) (Ok (Number 0)) opened
unfolding causes parts_of walk target lookup slot_of first_below any_below sum_below slot use_at record_use most_blocks position_count table_of place_in_table first_block claim_at
open_is_zero = ((refl, tt), record { handle = omega arith; free = refl; whole = refl })

-- "abc" goes to block 5
abbrev content : List ℕ
content = codes "abc" ++ replicate 1021 0

abbrev file_of_three : Inode
file_of_three = record { mode = 1; links = 1; size = 3; direct = 5 ∷ replicate 11 0; indirect = 0; double = 0; attributes = replicate 16 0 }

abbrev pub written : State
written = record opened { view = updated_all opened.view (SetBlock 5 true ∷ SetBytes 5 content ∷ SetInode 3 file_of_three ∷ []) }

pub write_appends : Step small opened (Write 0 0 (codes "abc")) (Ok Done) written
unfolding causes sum_below any_below slot use_at record_use most_blocks position_count table_of place_in_table first_block above claim_at
write_appends = (
  (refl, tt),
  record {
    bytes = content;
    overwritten = record { whole = record { length = refl; bytes = bytes_small content refl }; begins = refl };
    stores = Appended written.view refl (record {
      block = 5;
      free = record { address = refl; unmarked = refl };
      cells = [];
      pointed = record new_file { direct = 5 ∷ replicate 11 0 };
      points = InRecord (direct_none small 0 (omega arith)) refl refl;
      apart = tt;
      whole = refl;
    }) refl;
  },
)

pub read_gives : Step small written (Read 0 0) (Ok (Bytes (codes "abc"))) written
unfolding causes use_at record_use most_blocks position_count table_of place_in_table first_block claim_at
read_gives = ((refl, tt), (refl, refl))

-- removed while it is open, the file stays marked without links; closed, it is freed with its block
abbrev pub gone : State
gone = unlinked small written (codes "/a")

pub unlink_open : Step small written (Unlink (codes "/a")) (Ok Done) gone
unfolding causes parts_of walk target lookup slot_of first_below any_below slot use_at record_use most_blocks position_count table_of place_in_table first_block claim_at
unlink_open = ((refl, tt), refl)

pub stays_marked : ((gone.view.inode 3).links ≡ 0) × (gone.view.number_marked 3 ≡ true) × (gone.view.block_marked 5 ≡ true)
unfolding parts_of walk target lookup slot_of first_below any_below slot use_at record_use most_blocks position_count table_of place_in_table first_block claim_at claims
stays_marked = (refl, refl, refl)

pub close_frees : ((closed small gone 0).view.number_marked 3 ≡ false) × ((closed small gone 0).view.block_marked 5 ≡ false) × ((closed small gone 0).view.block_marked 4 ≡ true)
unfolding parts_of walk target lookup slot_of first_below any_below slot use_at record_use most_blocks position_count table_of place_in_table first_block claim_at claims
close_frees = (refl, refl, refl)

-- the snapshot does not show it
pub frozen_without : ((settled small gone).number_marked 3 ≡ false) × ((settled small gone).block_marked 5 ≡ false)
unfolding parts_of walk target lookup slot_of first_below any_below slot use_at record_use most_blocks position_count table_of place_in_table first_block claim_at claims
frozen_without = (refl, refl)

-- under a snapshot a truncated block is held, which no check would see, and released with it
abbrev pub kept : State
kept = truncated small (frozen small written) 3 0

pub block_held : (kept.held 5 ≡ true) × (kept.view.block_marked 5 ≡ true) × ((settled small kept).block_marked 5 ≡ false) × ((released kept 0).view.block_marked 5 ≡ false)
unfolding any_below use_at record_use most_blocks position_count table_of place_in_table first_block claim_at claims
block_held = (refl, refl, refl, refl)
