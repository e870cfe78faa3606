-- The calls of a whole cycle, one after another.
use Rattle.std.proofs.Common.{◌≡◌, ℕ, suc, List, [], ◌∷◌, ◌++◌, refl, subst, Ok, Err}
use Rattle.device.specs.Media.{Held}
use Rattle.frozen.specs.Kept.{Kept}
use Rattle.machine.specs.Command.{Answer, Check, Command, Done, Freeze, Image, Install, Release, RepairAt, Reply, Sync}
use Rattle.machine.specs.Snapshot.{settled}
use Rattle.machine.specs.Standing.{ended}
use Rattle.live_states.specs.Holdings.{Beside, nothing_beside}
use Rattle.snapshot.specs.Alive.{Alive, state_of}
use Rattle.snapshot.specs.declared.answer.Answer.{Answer as Given}
use Rattle.snapshot.specs.Asked.{IsReply}
use Rattle.snapshot.specs.Goes.{Applies, Freezes, Goes, IsBeside, Releases, Replies}
use Rattle.snapshot.specs.Stages.{LeadsTo, Stage}
use Rattle.snapshot.proofs.AppliesLemmas.{goes_nowhere}
use Rattle.mending.specs.Repairs.{Mends, Repairs, all_done, one_beside, repairs_below, then_asked, then_replied}

-- no call at all
pub starts : {D : Type 0} (beside : Beside) (held : Held) (image : List (List ℕ)) (old : Alive D) → IsBeside image old beside → Goes beside held image old [] [] beside held image old
starts beside held image old = goes_nowhere held image old beside

-- that calls join
abbrev pub Joins : Type 0 → Type 0
Joins D = (beside beside' beside'' : Beside) (held held' held'' : Held) (image image' image'' : List (List ℕ)) (old mid new : Alive D) (commands more : List Command) (replies others : List Reply)
    → Goes beside held image old commands replies beside' held' image' mid → Goes beside' held' image' mid more others beside'' held'' image'' new
    → Goes beside held image old (commands ++ more) (replies ++ others) beside'' held'' image'' new

-- the law of snapshot that says so
pub joins_of : {D : Type 0} → ((s t u : Stage D) (commands more : List Command) (replies others : List Reply) → LeadsTo s commands replies t → LeadsTo t more others u → LeadsTo s (commands ++ more) (replies ++ others) u) → Joins D
joins_of join beside beside' beside'' held held' held'' image image' image'' old mid new =
    join (record { volume = old; beside = beside; held = held; image = image }) (record { volume = mid; beside = beside'; held = held'; image = image' }) (record { volume = new; beside = beside''; held = held''; image = image'' })

pub one_more : {D : Type 0} → Joins D → (held held' held'' : Held) (image image' image'' : List (List ℕ)) (old mid new : Alive D) (n : ℕ)
    → Repairs held image old n held' image' mid → Replies held' image' mid (RepairAt n) (Ok Done) held'' image'' new → Repairs held image old (suc n) held'' image'' new
one_more joins held held' held'' image image' image'' old mid new n before last = λ beside is.
    let first = before beside is in
    joins beside beside beside held held' held'' image image' image'' old mid new (repairs_below n) (RepairAt n ∷ []) (all_done n) (Ok Done ∷ []) first (last beside first.is)

-- a reply that answers is an answer's
answered : (given : Given) (response : Reply) → IsReply (Ok given) response → (answer : Answer) × (response ≡ Ok answer)
answered given (Ok answer) is = (answer, refl)
answered given (Err r) is = absurd is

-- from a volume without a snapshot: snapshot s, its check, so many repairs, the snapshot's end and a sync
pub record Cycle {D : Type 0} (held : Held) (image : List (List ℕ)) (old : Alive D) (s : ℕ) (check : Check) (n : ℕ) (held' : Held) (image' : List (List ℕ)) (new : Alive D) : Type 0 where
  pub beside : Beside
  pub answer : Answer
  pub goes : Goes nothing_beside held image old
      (Freeze ∷ Install check ∷ then_asked s n) (Ok (Image s (settled old.kept.geometry (state_of image old nothing_beside))) ∷ Ok Done ∷ then_replied n answer) beside held' image' new

module _ {D : Type 0} (joins : Joins D) (held1 held2 held3 held4 held5 : Held) (image1 image2 image3 image4 image5 : List (List ℕ)) (v1 v2 v3 v4 v5 : Alive D) where
  pub then_mends : (beside : Beside) (s : ℕ) (check : Check) (n : ℕ) (given : Given) → IsBeside image1 v1 beside → Replies held1 image1 v1 (Install check) (Ok Done) held2 image2 v2
      → Repairs held2 image2 v2 n held3 image3 v3 → Releases held3 image3 v3 s held4 image4 v4 → Applies held4 image4 v4 Sync (Ok given) held5 image5 v5 → Mends beside held1 image1 v1 s check n held5 image5 v5
  then_mends b s check n given is installs repairs releases syncs =
      let two = installs b is in
      let three = repairs b two.is in
      let four = releases b three.is in
      let left : Beside = record { snapshots = ended b.snapshots s } in
      let five = syncs left four.is in
      let said = answered given five.1 five.2 in
      let last : Goes left held4 image4 v4 (Sync ∷ []) (Ok said.0 ∷ []) five.0 held5 image5 v5 = subst (λ r. Goes left held4 image4 v4 (Sync ∷ []) (r ∷ []) five.0 held5 image5 v5) said.1 five.3 in
      let to_repairs = joins b b b held1 held2 held3 image1 image2 image3 v1 v2 v3 (Install check ∷ []) (repairs_below n) (Ok Done ∷ []) (all_done n) two three in
      let to_release = joins b b left held1 held3 held4 image1 image3 image4 v1 v3 v4 (Install check ∷ repairs_below n) (Release s ∷ []) (Ok Done ∷ all_done n) (Ok Done ∷ []) to_repairs four in
      record {
        beside' = five.0;
        answer = said.0;
        goes = joins b left five.0 held1 held4 held5 image1 image4 image5 v1 v4 v5
            (Install check ∷ (repairs_below n ++ Release s ∷ [])) (Sync ∷ []) (Ok Done ∷ (all_done n ++ Ok Done ∷ [])) (Ok said.0 ∷ []) to_release last;
      }

module _ {D : Type 0} (joins : Joins D) (held0 held1 held2 : Held) (image0 image1 image2 : List (List ℕ)) (v0 v1 v2 : Alive D) where
  pub whole_cycle : (s : ℕ) (snapshot : Kept) (check : Check) (n : ℕ) → IsBeside image0 v0 nothing_beside → Freezes held0 image0 v0 s snapshot held1 image1 v1
      → Mends (one_beside 0 (settled v0.kept.geometry (state_of image0 v0 nothing_beside))) held1 image1 v1 s check n held2 image2 v2 → Cycle held0 image0 v0 s check n held2 image2 v2
  whole_cycle s snapshot check n is freezes mends =
      let view = settled v0.kept.geometry (state_of image0 v0 nothing_beside) in
      let b : Beside = one_beside 0 view in
      record {
        beside = mends.beside';
        answer = mends.answer;
        goes = joins nothing_beside b mends.beside' held0 held1 held2 image0 image1 image2 v0 v1 v2 (Freeze ∷ []) (Install check ∷ then_asked s n) (Ok (Image s view) ∷ []) (Ok Done ∷ then_replied n mends.answer)
            (freezes nothing_beside is).2 mends.goes;
      }
