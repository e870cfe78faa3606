-- Some first steps on the fresh image of one group of 16 blocks and 16 inodes.
use Rattle.std.specs.Prelude.{◌≡◌, ℕ, true, [], ◌∷◌, Some, None, Ok, replicate}
use Rattle.std.proofs.Common.{refl, codes}
use Rattle.model.specs.Layout.{Geometry}
use Rattle.model.specs.Fresh.{fresh_view}
use Rattle.model.specs.Slots.{Empty, Good, slot}
use Rattle.model.specs.View.{new_file}
use Rattle.model.specs.Cells.{SetInode, SetNumber, updated_all, put_at}
use Rattle.model.specs.Shape.{most_blocks, position_count, table_of, place_in_table, first_block}
use Rattle.model.specs.Uses.{record_use, use_at, claim_at}
use Rattle.model.specs.Reach.{sum_below}
use Rattle.layout.specs.declared.refusal.Refusal.TheVariants.{NotFound, BadName, BadHandle, TooManySnapshots, NoSnapshot, NoPlan, IsRoot}
use Rattle.machine.specs.Below.{any_below, first_below}
use Rattle.machine.specs.State.{State, mounted}
use Rattle.machine.specs.Command.{Create, no_attributes, Rmdir, Close, Freeze, Release, RepairAt}
use Rattle.machine.specs.Paths.{parts_of, walk, target, lookup, slot_of}
use Rattle.machine.specs.Causes.{causes, refusal_of}
use Rattle.machine.specs.Snapshot.{frozen}

-- it, with this version of the layout
abbrev pub small_of : ℕ → Geometry
small_of version = record { groups = 1; blocks = 16; inodes = 16; version = version }

abbrev pub small : Geometry
small = small_of 1

abbrev pub fresh : State
fresh = mounted (fresh_view small)

-- with an empty file, whose handle is 0
abbrev pub with_empty_file : State
with_empty_file = record fresh { view = updated_all fresh.view (SetNumber 3 true ∷ SetInode 3 new_file ∷ []); opened = put_at fresh.opened 0 (Some 3) }

pub create_root : refusal_of small fresh (Create (codes "/") no_attributes) ≡ Some IsRoot
unfolding causes parts_of
create_root = refl

pub create_bare : refusal_of small fresh (Create (codes "a") no_attributes) ≡ Some BadName
unfolding causes parts_of
create_bare = refl

pub create_long : refusal_of small fresh (Create (47 ∷ replicate 57 120) no_attributes) ≡ Some BadName
unfolding causes parts_of
create_long = refl

pub create_dots : refusal_of small fresh (Create (codes "/a/..") no_attributes) ≡ Some BadName
unfolding causes parts_of
create_dots = refl

pub rmdir_root : refusal_of small fresh (Rmdir (codes "/")) ≡ Some IsRoot
unfolding causes parts_of
rmdir_root = refl

pub close_none : refusal_of small fresh (Close 0) ≡ Some BadHandle
unfolding causes
close_none = refl

pub repair_none : refusal_of small fresh (RepairAt 0) ≡ Some NoPlan
unfolding causes
repair_none = refl

pub release_none : refusal_of small fresh (Release 0) ≡ Some NoSnapshot
unfolding causes
release_none = refl

pub freeze_first : refusal_of small fresh Freeze ≡ None
unfolding causes
freeze_first = refl

pub freeze_again : refusal_of small (frozen small fresh) Freeze ≡ None
unfolding causes
freeze_again = refl

pub freeze_fifth : refusal_of small (frozen small (frozen small (frozen small (frozen small fresh)))) Freeze ≡ Some TooManySnapshots
unfolding causes
freeze_fifth = refl

pub root_holds : walk small (fresh_view small) 2 (codes "a" ∷ []) ≡ Ok 2
unfolding walk most_blocks
root_holds = refl

pub root_dot : slot small (fresh_view small) 2 0 ≡ Good 2 (codes ".")
unfolding slot use_at record_use most_blocks position_count table_of place_in_table first_block claim_at
root_dot = refl

pub third_slot : slot small (fresh_view small) 2 2 ≡ Empty
unfolding slot use_at record_use most_blocks position_count table_of place_in_table first_block claim_at
third_slot = refl

pub nothing_named : lookup small (fresh_view small) 2 (codes "a") ≡ None
unfolding lookup slot_of first_below slot use_at record_use most_blocks position_count table_of place_in_table first_block claim_at
nothing_named = refl

pub create_deep : refusal_of small fresh (Create (codes "/a/b") no_attributes) ≡ Some NotFound
unfolding causes parts_of walk lookup slot_of first_below slot use_at record_use most_blocks position_count table_of place_in_table first_block claim_at
create_deep = refl

pub create_accepted : refusal_of small fresh (Create (codes "/a") no_attributes) ≡ None
unfolding causes parts_of walk target lookup slot_of first_below any_below sum_below slot use_at record_use most_blocks position_count table_of place_in_table first_block claim_at
create_accepted = refl
