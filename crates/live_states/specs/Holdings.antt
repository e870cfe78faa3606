-- What a volume has besides its image: open handles, what its snapshots ask for, and the repairs of a check.
use Rattle.std.specs.Prelude.{◌≡◌, ℕ, Bool, true, false, List, [], ◌∷◌, Option, Some, None, slice_index_or, slice_set, nat_lt, ◌==◌, if◌then◌else◌}
use Rattle.std.specs.List.{list_any}
use Rattle.std.specs.Option.{option_map, option_map_or}
use Rattle.findings.specs.declared.repair.Repair.{Repair}
use Rattle.model.specs.View.{View}
use Rattle.machine.specs.Below.{any_below}
use Rattle.machine.specs.Standing.{Standing, Snapshots, none_yet}
use Rattle.machine.specs.State.{State, Plan, handle_count}
use Rattle.frozen.specs.Kept.{Kept, frozen_view}
use Rattle.metadata.specs.Shown.{Shows}

-- The repairs of a check, and whether each is done.
pub record Repairs : Type 0 where
  pub list : List Repair
  pub done : List Bool

-- The inode that each handle is open on, whether each block is held, the metadata that each snapshot keeps, and the repairs of a check that was installed.
pub record Holdings : Type 0 where
  pub opened : List (Option ℕ)
  pub held : List Bool
  pub snapshots : Snapshots Kept
  pub repairs : Option Repairs

-- What stands in no memory of the volume: the whole images of the snapshots.
pub record Beside : Type 0 where
  pub snapshots : Snapshots View

-- nothing beside an image
abbrev pub nothing_beside : Beside
nothing_beside = record { snapshots = none_yet }

abbrev pub opened_by : Holdings → ℕ → Option ℕ
opened_by holdings h = slice_index_or holdings.opened h None

abbrev pub held_by : Holdings → ℕ → Bool
held_by holdings a = slice_index_or holdings.held a false

abbrev pub plan_of : Repairs → Plan
plan_of repairs = record { repairs = repairs.list; done = λ k. slice_index_or repairs.done k false }

abbrev pub plan_by : Holdings → Option Plan
plan_by holdings = option_map plan_of holdings.repairs

-- some handle is open on inode i
abbrev pub is_open_by : Holdings → ℕ → Bool
is_open_by holdings i = any_below handle_count (λ h. option_map_or (λ j. j == i) (if nat_lt h handle_count then opened_by holdings h else None) false)

-- one of these snapshots keeps block a
abbrev pub kept_by : List (Standing Kept) → ℕ → Bool
kept_by standing a = list_any (λ (k : Standing Kept). (frozen_view k.image).block_marked a) standing

abbrev pub is_kept_by : Holdings → ℕ → Bool
is_kept_by holdings a = kept_by holdings.snapshots.standing a

-- these blocks are held too
abbrev pub holding : List ℕ → List Bool → List Bool
holding [] held = held
holding (a ∷ blocks) held = holding blocks (slice_set held a true)

abbrev pub with_held : Holdings → List ℕ → Holdings
with_held holdings blocks = record holdings { held = holding blocks holdings.held }

-- repair k is done too
abbrev pub with_done : Holdings → ℕ → Holdings
with_done holdings k = record holdings { repairs = option_map (λ (repairs : Repairs). record repairs { done = slice_set repairs.done k true }) holdings.repairs }

-- The image of a snapshot has this metadata.
abbrev pub IsImageOf : Option Kept → Option View → Type 0
IsImageOf None None = Unit {0}
IsImageOf (Some kept) (Some view) = Shows kept view
IsImageOf _ _ = ⊥

-- The images of snapshots have this metadata, each the one of its number.
abbrev pub AreImages : List (Standing Kept) → List (Standing View) → Type 0
AreImages [] [] = Unit {0}
AreImages (k ∷ ks) (x ∷ xs) = (x.number ≡ k.number) × Shows k.image x.image × AreImages ks xs
AreImages _ _ = ⊥

abbrev pub AreImagesOf : Snapshots Kept → Snapshots View → Type 0
AreImagesOf kept images = (images.freezes ≡ kept.freezes) × AreImages kept.standing images.standing

-- A state has these handles, held blocks, snapshots and repairs.
pub record Has (holdings : Holdings) (old : State) : Type 0 where
  pub opened : old.opened ≡ opened_by holdings
  pub held : old.held ≡ held_by holdings
  pub snapshots : AreImagesOf holdings.snapshots old.snapshots
  pub plan : old.plan ≡ plan_by holdings

-- the state in which users see this image, with these handles, held blocks and repairs, and the snapshots as they were
abbrev pub going_on : State → Holdings → View → State
going_on old holdings view = record old { view = view; opened = opened_by holdings; held = held_by holdings; plan = plan_by holdings }

-- nothing is open or held, there was no freeze yet, and no check is installed
pub record IsIdle (holdings : Holdings) : Type 0 where
  pub opened : holdings.opened ≡ []
  pub held : (a : ℕ) → held_by holdings a ≡ false
  pub snapshots : holdings.snapshots ≡ none_yet
  pub repairs : holdings.repairs ≡ None
