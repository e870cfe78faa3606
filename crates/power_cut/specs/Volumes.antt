-- A volume on a device with a cache, from one moment to another.
use Rattle.std.specs.Prelude.{◌≡◌, ℕ, Bool, false, List, [], ◌∷◌, ◌++◌}
use Rattle.model.specs.Layout.{Geometry}
use Rattle.model.specs.View.{View, view_of}
use Rattle.ordering.specs.Cuts.{seen, rest, joined}
use Rattle.ordering.specs.Ghosts.{Ghost, at_rest}
use Rattle.ordering.specs.Histories.{Step}
use Rattle.queue_model.specs.History.{Holds, skipping}
use Rattle.queue_model.specs.Files.{Written, updates, NamesFiles}
use Rattle.queue_model.specs.Course.{IsGood, IsSafeImage}
use Rattle.device.specs.Media.{chosen}
use Rattle.power_cut.specs.Epochs.{Put, Shows, IsEpoch, blocks_with, together, all_behind, all_beyond, ready_put}

-- what was written since mount, which of it is durable, the blocks that are, the writes since the last sync that was answered, and the ghosts
pub record Moment : Type 0 where
  pub written : List Written
  pub cut : List Bool
  pub durable : ℕ → List ℕ
  pub loose : List Put
  pub ghost : Ghost

-- what is durable is a good moment, and what was written since the last sync is an epoch over it
pub record IsSound (geo : Geometry) (mounted : View) (m : Moment) : Type 0 where
  pub good : IsGood geo mounted m.written m.cut m.ghost
  pub view : view_of geo m.durable ≡ seen mounted (updates m.written) m.cut
  pub epoch : IsEpoch geo (view_of geo m.durable) (rest (updates m.written) m.cut) m.loose

-- an update is issued
abbrev pub adds : Written → Ghost → Moment → Moment
adds w next m = record m { written = w ∷ m.written; cut = false ∷ m.cut; loose = all_behind m.loose; ghost = next }

-- a block is written with what may go there now; what waits for other blocks waits until they are durable
abbrev pub writes : Geometry → ℕ → List ℕ → Moment → Moment
writes geo a bytes m = record m { loose = ready_put geo a bytes (rest (updates m.written) m.cut) ∷ m.loose }

-- the device tells that all has reached the medium
abbrev pub syncs : Moment → Moment
syncs m = record m { cut = joined (updates m.written) m.cut (together (rest (updates m.written) m.cut) m.loose); durable = blocks_with m.durable m.loose; loose = [] }

-- a sync that began once these older ones of the loose writes were made, and beside which the newer ones were: the older ones are durable
abbrev pub syncs_older : List Put → List Put → Moment → Moment
syncs_older newer older m = record m {
  cut = joined (updates m.written) m.cut (together (rest (updates m.written) m.cut) older);
  durable = blocks_with m.durable older;
  loose = all_beyond (together (rest (updates m.written) m.cut) older) newer;
}

-- From a moment a volume issues an update of some kind that names its file, writes a block, syncs the device, or lets go of held blocks with nothing pending. A call that the device refuses changes nothing.
pub data Goes_on (geo : Geometry) (mounted : View) (m : Moment) : Moment → Type 0 where
  Rests : Goes_on geo mounted m m
  Adds : {n : Moment} (w : Written) (next : Ghost) → Goes_on geo mounted m n → Step geo (seen mounted (updates n.written) n.cut) (rest (updates n.written) n.cut) n.ghost w.update next
      → NamesFiles geo mounted n.written w → Goes_on geo mounted m (adds w next n)
  Puts : {n : Moment} (a : ℕ) (bytes : List ℕ) → Goes_on geo mounted m n
      → Shows geo a bytes (seen (view_of geo n.durable) (rest (updates n.written) n.cut) (ready_put geo a bytes (rest (updates n.written) n.cut)).cut) → Goes_on geo mounted m (writes geo a bytes n)
  Syncs : {n : Moment} → Goes_on geo mounted m n → Goes_on geo mounted m (syncs n)
  SyncsOlder : {n : Moment} (newer older : List Put) → Goes_on geo mounted m n → n.loose ≡ newer ++ older → Goes_on geo mounted m (syncs_older newer older n)
  Settles : {n : Moment} (held : ℕ → Bool) → Goes_on geo mounted m n → rest (updates n.written) n.cut ≡ [] → Goes_on geo mounted m (record n { ghost = at_rest held n.ghost.safe })

-- what a power cut at a moment leaves
abbrev pub left : Moment → List Bool → ℕ → List ℕ
left m picks = blocks_with m.durable (chosen m.loose picks)

-- it is the image of a closed cut that holds what is durable: it obeys the rules, reaches the safe files, and holds in each block of a file what that file wrote
pub record IsSafelyLeft (geo : Geometry) (mounted : View) (m : Moment) (view : View) : Type 0 where
  pub cut : List Bool
  pub image : view ≡ seen mounted (updates m.written) cut
  pub durable : Holds cut m.cut
  pub safe : IsSafeImage geo mounted m.written cut m.ghost.safe

-- what was written since, and that what was durable is so still
pub record IsLater (m n : Moment) : Type 0 where
  pub added : List Written
  pub all : n.written ≡ added ++ m.written
  pub durable : Holds n.cut (skipping (updates added) m.cut)
