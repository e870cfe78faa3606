-- Files have their own bytes on the medium, whatever is written and let go, and through each plan.
use Rattle.std.proofs.Common.{◌≡◌, ℕ, zero, suc, Bool, false, List, [], ◌∷◌, ◌++◌, ◌⊎◌, inl, inr, Contains, arith, drop, length, map, refl, replicate, slice_index, sym, ap, ◌∙◌, subst}
use Rattle.model.specs.Layout.{Geometry}
use Rattle.model.specs.View.{View}
use Rattle.device.specs.Media.{Medium}
use Rattle.ordering.specs.Cuts.{Pending, IsClosed, joined, rest}
use Rattle.ordering.specs.Ghosts.{at_rest}
use Rattle.machine.specs.State.{State}
use Rattle.plans_data.specs.Now.{now}
use Rattle.plans_data.specs.Release.{MayRelease, releasing}
use Rattle.queue_model.specs.Files.{IsFileBlock, Written, generation, updates}
use Rattle.queue_model.proofs.HoldLemmas.{mount_holds, write_holds}
use Rattle.courses.specs.Leads.{IsMoment}
use Rattle.courses.specs.Life.{Begins, Carries, IsLived, Releases}
use Rattle.courses.specs.Plans.{IsPlan}
use Rattle.courses.proofs.Lasting.{plan_lasts, release_lasts}
use Rattle.courses.proofs.LifeBytes.{IsWriteOf, LeavesBehind}
use Rattle.courses.proofs.OwnBytes.{over_byte, zero_byte}
use Rattle.live.specs.Durable.{WritesLooksOf, LeavesOwn, MayHave, MayShow, Owns, Piece, Put, PutAlong, Puts, Starts, Writes}

-- ---- members

pub later_member : {X : Type 0} (added puts : List X) (x : X) → Contains puts x → Contains (added ++ puts) x
later_member [] puts x c = c
later_member (a ∷ added) puts x c = let one = later_member added puts x c in let low = one.1 in (suc one.0, omega (arith, low), one.2)

pub first_member : {X : Type 0} (added puts : List X) (x : X) → Contains added x → Contains (added ++ puts) x
first_member [] puts x (i, low, e) = absurd (omega (arith, low))
first_member (a ∷ added) puts x (zero, low, e) = (zero, omega arith, e)
first_member (a ∷ added) puts x (suc i, low, e) = let one = first_member added puts x (i, omega (arith, low), e) in let less = one.1 in (suc one.0, omega (arith, less), one.2)

mapped_member : {X Y : Type 0} (f : X → Y) (xs : List X) (x : X) → Contains xs x → Contains (map f xs) (f x)
mapped_member f [] x (i, low, e) = absurd (omega (arith, low))
mapped_member f (y ∷ ys) x (zero, low, e) = (zero, omega arith, ap f e)
mapped_member f (y ∷ ys) x (suc i, low, e) = let one = mapped_member f ys x (i, omega (arith, low), e) in let less = one.1 in (suc one.0, omega (arith, less), one.2)

-- ---- more pieces

module _ (geo : Geometry) (mount : View) (puts added : List Put) where
  more_may : (n g k : ℕ) (bytes : List ℕ) → MayHave geo mount puts n g k bytes → MayHave geo mount (added ++ puts) n g k bytes
  more_may n g k bytes may j = elim (may j) [
    | inl none ↦ inl none
    | inr some ↦ elim some [
      | inl one ↦ inr (inl (one.0, later_member added puts _ one.1, one.2, one.3))
      | inr had ↦ inr (inr had)
    ]
  ]

  more_own : (h : List Written) (cut : List Bool) → Owns geo mount h cut puts → Owns geo mount h cut (added ++ puts)
  more_own h cut o = record {
    users = λ n k b f. more_may n _ k _ (o.users n k b f);
    cuts = λ more l g n k b f. more_may n _ k _ (o.cuts more l g n k b f);
  }

  pub more_left : (h : List Written) (m : Medium) → LeavesOwn geo mount h puts m → LeavesOwn geo mount h (added ++ puts) m
  more_left h m left image may = let one = left image may in (one.0, one.1, one.2, λ n k b f. more_may n _ k _ (one.3 n k b f))

-- what is written later is not in it
pub left_later : (geo : Geometry) (mount : View) (added h : List Written) (puts : List Put) (m : Medium) → LeavesOwn geo mount h puts m → LeavesOwn geo mount (added ++ h) puts m
left_later geo mount [] h puts m left = left
left_later geo mount (w ∷ added) h puts m left = λ image may. let one = left_later geo mount added h puts m left image may in (false ∷ one.0, one.1, one.2, one.3)

-- ---- at a mount, and over writes

pub owns_first : (geo : Geometry) (mount : View) → Owns geo mount [] [] []
owns_first geo mount =
    let had : (n k b : ℕ) → IsFileBlock geo mount n k b → MayHave geo mount [] n 0 k (mount.bytes b) = λ n k b f j. inr (inr (refl, (b, f, refl))) in
    record { users = had; cuts = mount_holds geo mount (MayHave geo mount []) had }

pub owns_put : (geo : Geometry) (mount : View) (h : List Written) (cut next : List Bool) (puts : List Put) → IsClosed (updates h) cut → IsClosed (rest (updates h) cut) next → Owns geo mount h cut puts
    → Owns geo mount h (joined (updates h) cut next) puts
owns_put geo mount h cut next puts k l o = record { users = o.users; cuts = write_holds geo mount (MayHave geo mount puts) h cut next k l o.cuts }

-- ---- one after another

pub along_written : (mount : View) (start h : List Written) (puts : List Put) (more : List Written) → PutAlong mount start h puts → PutAlong mount start (more ++ h) puts
along_written mount start h puts [] along = along
along_written mount start h puts (w ∷ more) along = Writes w (along_written mount start h puts more along)

pub along_then : (mount : View) (start mid h : List Written) (puts more : List Put) → PutAlong mount start mid puts → PutAlong mount mid h more → PutAlong mount start h (more ++ puts)
along_then mount start mid h puts more first Starts = first
along_then mount start mid h puts more first (Writes {h = before} {puts = others} w later) = Writes w (along_then mount start mid before puts others first later)
along_then mount start mid h puts more first (Puts {h = same} {puts = others} piece later) = Puts piece (along_then mount start mid same puts others first later)

-- ---- over a plan

pieces_in : (mount : View) (h : List Written) (asked : List Piece) → map (λ (put : Put). put.piece) (map (λ (p : Piece). record { generation = generation mount h p.file; piece = p }) asked) ≡ asked
pieces_in mount h [] = refl
pieces_in mount h (p ∷ asked) = ap (λ l. p ∷ l) (pieces_in mount h asked)

put_here : (mount : View) (h : List Written) (asked : List Piece) → PutAlong mount h h (map (λ (p : Piece). record { generation = generation mount h p.file; piece = p }) asked)
put_here mount h [] = Starts
put_here mount h (p ∷ asked) = Puts p (put_here mount h asked)

-- After this was written behind what was, and of it this is durable, files have their own bytes, these pieces among them.
abbrev pub OwnsWith : Geometry → View → List Written → List Written → List Bool → List Piece → List Put → Type 0
OwnsWith geo mount start h cut asked puts = (added : List Put) × (map (λ (put : Put). put.piece) added ≡ asked) × PutAlong mount start h added × Owns geo mount h cut (added ++ puts)

module _ (geo : Geometry) (mount : View) (h : List Written) (cut : List Bool) (disk : View) (q : List Pending) (held safe : ℕ → Bool)
    (moment : IsMoment geo mount h cut (at_rest held safe) disk q) (puts : List Put) (o : Owns geo mount h cut puts) where
  over_may : (all : List Put) (n g k : ℕ) (piece under : List ℕ) → Contains all (record { generation = g; piece = record { file = n; position = k; bytes = piece } })
      → (under ≡ replicate 1024 0) ⊎ MayHave geo mount all n g k under → MayHave geo mount all n g k (piece ++ drop (length piece) under)
  over_may all n g k piece under there was j = elim (over_byte piece under j) [
    | inl here ↦ inr (inl (piece, there, here.0, here.1))
    | inr behind ↦ elim was [
      | inl zeroes ↦ inl (behind ∙ ap (λ (l : List ℕ). slice_index l j) zeroes ∙ zero_byte 1024 j)
      | inr may ↦ subst (λ x. MayShow geo mount all n g k j x) (sym behind) (may j)
    ]
  ]

  pub plan_owns : (old : State) (e : old.held ≡ held) (file : ℕ) (p : List Pending) (held' safe' : ℕ → Bool) (plan : IsPlan geo disk q old safe file p held' safe') → LeavesBehind plan
      → (asked : List Piece) → ((n k : ℕ) (piece : List ℕ) → IsWriteOf n k piece plan → Contains asked (record { file = n; position = k; bytes = piece }))
      → (lived : IsLived geo mount h cut disk q held safe disk p held' safe' [] (Carries old file p held' safe' Begins e plan)) → (more : List Written) → lived.h' ≡ more ++ h → OwnsWith geo mount h lived.h' lived.cut' asked puts
  plan_owns old e file p held' safe' plan leaves asked asks lived more longer =
      let put : Piece → Put = λ piece. record { generation = generation mount h piece.file; piece = piece } in
      let added = map put asked in
      let all = added ++ puts in
      let now = more_own geo mount puts added h cut o in
      let lasts = plan_lasts geo mount (MayHave geo mount all) h cut disk q held safe moment now.users now.cuts old e file p held' safe' plan leaves
      (λ n k piece under write was. over_may all n (generation mount h n) k piece under (first_member added puts _ (mapped_member put asked _ (asks n k piece write))) was) lived in
      (added, pieces_in mount h asked, subst (λ l. PutAlong mount h l added) (sym longer) (along_written mount h h added more (put_here mount h asked)), record { users = lasts.0; cuts = lasts.1 })

-- ---- over the end of a snapshot

pub release_owns : (geo : Geometry) (mount : View) (h : List Written) (cut : List Bool) (disk : View) (held safe : ℕ → Bool) (moment : IsMoment geo mount h cut (at_rest held safe) disk []) (puts : List Put) (o : Owns geo mount h cut puts)
    (old : State) (held' : ℕ → Bool) (blocks : List ℕ) (e : old.held ≡ held) (may : MayRelease geo (now disk [] old) held' blocks)
    → (lived : IsLived geo mount h cut disk [] held safe disk (releasing blocks []) held' safe [] (Releases old held' blocks Begins e may)) → Owns geo mount lived.h' lived.cut' puts
release_owns geo mount h cut disk held safe moment puts o old held' blocks e may lived =
    let lasts = release_lasts geo mount (MayHave geo mount puts) h cut disk held safe moment o.users o.cuts old held' blocks e may lived in
    record { users = lasts.0; cuts = lasts.1 }
