-- What a file was asked and answered, and whether an honest one would have answered so.
use Rattle.std.specs.Prelude.{◌≡◌, ℕ, suc, Bool, true, false, List, [], ◌∷◌, ◌++◌, map, replicate, slice_set}
use Rattle.std.specs.List.{range_with_len, flat_map}
use Rattle.file_device.specs.declared.file.Call.{Call}
use Rattle.file_device.specs.declared.file.Call.TheVariants.{ReadBlock, WriteBlock, Sync, Refuse}
use Rattle.model.specs.Image.{block_at}
use Rattle.device.specs.declared.cache.Step.{Step}
use Rattle.device.specs.declared.cache.Step.TheVariants.{Wrote, Synced}
use Rattle.device.specs.Media.{Held, Medium, begun, held_after, steps_of}
use Rattle.device.specs.Writes.{Write, image_after}

-- a call that was answered, with the block that it gave or was given
abbrev pub Answered : Type 0
Answered = Call × List ℕ

-- what stands for the block of a call that has none
abbrev pub no_block : List ℕ
no_block = replicate 1024 0

-- the write that a call made, if it made one
abbrev pub write_of : Call → List ℕ → List Write
write_of (ReadBlock a) block = []
write_of (WriteBlock a) block = (a, block) ∷ []
write_of Sync block = []
write_of Refuse block = []

-- the writes among these calls
abbrev pub writes_of : List Answered → List Write
writes_of calls = flat_map (λ e. write_of e.0 e.1) calls

-- whether the file has refused a write or a sync, after this call, if it had before (true) or not
abbrev pub refused_by : Call → Bool → Bool
refused_by (ReadBlock a) refused = refused
refused_by (WriteBlock a) refused = refused
refused_by Sync refused = refused
refused_by Refuse refused = true

abbrev pub has_refused : Bool → List Answered → Bool
has_refused refused [] = refused
has_refused refused (e ∷ es) = has_refused (refused_by e.0 refused) es

-- what a sync that is answered settles: all, if nothing was refused before (false), and else nothing that one could rely on
abbrev pub sync_of : Bool → List Step
sync_of true = []
sync_of false = Synced ∷ []

-- the step that a call was, if it was one
abbrev pub step_of : Call → List ℕ → Bool → List Step
step_of (ReadBlock a) block refused = []
step_of (WriteBlock a) block refused = Wrote a block ∷ []
step_of Sync block refused = sync_of refused
step_of Refuse block refused = []

-- the steps among these calls
abbrev pub steps_in : Bool → List Answered → List Step
steps_in refused [] = []
steps_in refused (e ∷ es) = step_of e.0 e.1 refused ++ steps_in (refused_by e.0 refused) es

-- the writes of these blocks, one after another from this address on
abbrev pub writes_from : ℕ → List (List ℕ) → List Write
writes_from a [] = []
writes_from a (block ∷ blocks) = (a, block) ∷ writes_from (suc a) blocks

-- the call that writes a block (true), or reads it
abbrev pub call_at : Bool → ℕ → Call
call_at true a = WriteBlock a
call_at false a = ReadBlock a

-- the calls that write these blocks (true), or read them
abbrev pub calls_of : Bool → List Write → List Answered
calls_of is_write ws = map (λ w. (call_at is_write w.0, w.1)) ws

-- what the image is after this call
abbrev pub after_call : List (List ℕ) → Call → List ℕ → List (List ℕ)
after_call image (ReadBlock a) block = image
after_call image (WriteBlock a) block = slice_set image a block
after_call image Sync block = image
after_call image Refuse block = image

-- a read gave the block that stood there
abbrev pub IsTrueAnswer : List (List ℕ) → Call → List ℕ → Type 0
IsTrueAnswer image (ReadBlock a) block = block ≡ block_at image a
IsTrueAnswer image (WriteBlock a) block = Unit {0}
IsTrueAnswer image Sync block = Unit {0}
IsTrueAnswer image Refuse block = Unit {0}

-- each read gave the block that stood there, of a file that held this image before these calls
abbrev pub AreHonest : List (List ℕ) → List Answered → Type 0
AreHonest image [] = Unit {0}
AreHonest image (e ∷ es) = IsTrueAnswer image e.0 e.1 × AreHonest (after_call image e.0 e.1) es

-- the image of this many blocks
abbrev pub image_of : (ℕ → List ℕ) → ℕ → List (List ℕ)
image_of block count = map block (range_with_len 0 count)

-- what a device over a file keeps beside the file: how many blocks it has, the calls that the file answered, the first first,
-- the writes that the device answered and the file was not given yet, and how many calls of the device failed
pub record Calls : Type 0 where
  pub count : ℕ
  pub answered : List Answered
  pub waiting : List Write
  pub failures : ℕ

-- the writes that the device answered: those that the file was given, and behind them those that wait
abbrev pub all_writes : Calls → List Write
all_writes calls = writes_of calls.answered ++ calls.waiting

-- each block that the file gave is what it held at first, or what it was given there since
abbrev pub IsHonestFile : (ℕ → List ℕ) → Calls → Type 0
IsHonestFile first calls = AreHonest (image_of first calls.count) calls.answered

-- the blocks of the device
abbrev pub image_now : (ℕ → List ℕ) → Calls → List (List ℕ)
image_now first calls = image_after (image_of first calls.count) (all_writes calls)

-- the steps of the device: those of the file, and behind them the writes that wait
abbrev pub all_steps : Calls → List Step
all_steps calls = steps_in false calls.answered ++ steps_of calls.waiting

-- When it was opened, the file held each of its blocks as one that may be lost, over what was on the medium then.
abbrev pub opened : (ℕ → List ℕ) → (ℕ → List ℕ) → ℕ → Medium
opened first below count = record { durable = image_of below count; loose = writes_from 0 (image_of first count) }

-- what the device held
abbrev pub held_so_far : (ℕ → List ℕ) → (ℕ → List ℕ) → Calls → Held
held_so_far first below calls = held_after false (begun (opened first below calls.count)) (all_steps calls)

-- The file answered more calls or none, and the device took these steps more.
pub record GoesOn (old new : Calls) (ss : List Step) : Type 0 where
  pub more : List Answered
  pub count : new.count ≡ old.count
  pub answered : new.answered ≡ old.answered ++ more
  pub steps : all_steps new ≡ all_steps old ++ ss
