-- A reply of bytes or names changes nothing, and may be refused instead.
use Rattle.std.proofs.Common.{◌≡◌, inl, refl, sym, subst, ℕ, Bool, List, [], ◌∷◌, ◌++◌, Ok, Err}
use Rattle.layout.specs.declared.refusal.Refusal.TheVariants.{NoMemory}
use Rattle.model.specs.Layout.{Geometry}
use Rattle.model.specs.View.{View}
use Rattle.ordering.specs.Cuts.{Pending}
use Rattle.machine.specs.State.{State}
use Rattle.machine.specs.Causes.{Accepts}
use Rattle.machine.specs.Command.{Command, Read, ListNames, Stat, ReadAttributes, Freeze, SnapRead, Answer, Done, Number, Bytes, Listed, Attributes, Status, Image, Reply}
use Rattle.machine.specs.Step.{Run, Step}
use Rattle.courses.specs.Done.{IsDoneBy, CreatesInSlot, CreatesInNewBlock, MakesInSlot, MakesInNewBlock, LinksInSlot, LinksInNewBlock, RenamesInSlot, MovesToSlot, MovesToNewBlock, UnlinksName, UnlinksFile, RemovesName, RemovesDirectory, WritesInPlace, WritesBehind, WritesElsewhere, TruncatesFile, ClosesHandle, CarriesOutRepair, SetsItsAttributes}
use Rattle.courses.specs.Serves.{Serves, ByPlan, Quietly, FlushesNone, FlushesSome, SyncsAll, Freezes, Releases, Service, Starts, CarriesOut, Refuses, Flushed}
use Rattle.replies.specs.Replies.{IsCopied}

pub copied_keeps : (geo : Geometry) (old new : State) (command : Command) (reply : Reply) → IsCopied reply → Step geo old command reply new → new ≡ old
copied_keeps geo old new command (Ok Done) c s = absurd c
copied_keeps geo old new command (Ok (Number n)) c s = absurd c
copied_keeps geo old new command (Ok (Status i mode links size)) c s = absurd c
copied_keeps geo old new command (Ok (Image n view)) c s = absurd c
copied_keeps geo old new command (Ok (Attributes words)) c s = absurd c
copied_keeps geo old new command (Err r) c s = absurd c
copied_keeps geo old new (Read h k) (Ok (Bytes bytes)) c s = s.1.1
copied_keeps geo old new (SnapRead n i k) (Ok (Bytes bytes)) c s = s.1.3
copied_keeps geo old new (Stat p) (Ok (Bytes bytes)) c s = s.1.1
copied_keeps geo old new (ReadAttributes i) (Ok (Bytes bytes)) c s = s.1.1
copied_keeps geo old new (ListNames p) (Ok (Listed names)) c s = s.1.1
copied_keeps geo old new (Stat p) (Ok (Listed names)) c s = s.1.1
copied_keeps geo old new (ReadAttributes i) (Ok (Listed names)) c s = s.1.1
copied_keeps geo old new Freeze (Ok (Bytes bytes)) c s = let e = s.1.0 in cc
copied_keeps geo old new Freeze (Ok (Listed names)) c s = let e = s.1.0 in cc
copied_keeps geo old new _ (Ok (Bytes bytes)) c s = absurd s.1
copied_keeps geo old new _ (Ok (Listed names)) c s = absurd s.1

pub run_refused : (geo : Geometry) (old new : State) (command : Command) (reply : Reply) → IsCopied reply → Run geo old (command ∷ []) (reply ∷ []) new → Run geo old (command ∷ []) (Err NoMemory ∷ []) new
run_refused geo old new command reply copied run = (run.0, (inl refl, copied_keeps geo old run.0 command reply copied run.1), run.2)

-- ---- a service

-- a plan answers with no bytes and no names
plan_not_copied : (geo : Geometry) (disk : View) (q : List Pending) (old : State) (safe : ℕ → Bool) (command : Command) (answer : Answer) (file : ℕ) (plan : List Pending) (new : State) (safe' : ℕ → Bool)
    → IsDoneBy geo disk q old safe command answer file plan new safe' → IsCopied (Ok answer) → ⊥
plan_not_copied geo disk q old safe command answer file plan new safe' (CreatesInSlot p words n s entry after free place) c = c
plan_not_copied geo disk q old safe command answer file plan new safe' (CreatesInNewBlock p words n b kept s entry after free place) c = c
plan_not_copied geo disk q old safe command answer file plan new safe' (MakesInSlot p words i a dots s entry after free block are place) c = c
plan_not_copied geo disk q old safe command answer file plan new safe' (MakesInNewBlock p words i a dots b kept s entry after free block are differ place) c = c
plan_not_copied geo disk q old safe command answer file plan new safe' (LinksInSlot p r s entry after place) c = c
plan_not_copied geo disk q old safe command answer file plan new safe' (LinksInNewBlock p r b kept s entry after place) c = c
plan_not_copied geo disk q old safe command answer file plan new safe' (RenamesInSlot p r entry after same says others) c = c
plan_not_copied geo disk q old safe command answer file plan new safe' (MovesToSlot p r s entry after' after differ place there grounds) c = c
plan_not_copied geo disk q old safe command answer file plan new safe' (MovesToNewBlock p r b kept s entry after' after differ place there grounds known) c = c
plan_not_copied geo disk q old safe command answer file plan new safe' (UnlinksName p stays) c = c
plan_not_copied geo disk q old safe command answer file plan new safe' (UnlinksFile p blocks one goes) c = c
plan_not_copied geo disk q old safe command answer file plan new safe' (RemovesName p after has stays) c = c
plan_not_copied geo disk q old safe command answer file plan new safe' (RemovesDirectory p blocks after has two goes) c = c
plan_not_copied geo disk q old safe command answer file plan new safe' (WritesInPlace h k piece bytes over within unkept) c = c
plan_not_copied geo disk q old safe command answer file plan new safe' (WritesBehind h k piece bytes b news over choice behind) c = c
plan_not_copied geo disk q old safe command answer file plan new safe' (WritesElsewhere h k piece bytes b over free within is_kept) c = c
plan_not_copied geo disk q old safe command answer file plan new safe' (TruncatesFile h size) c = c
plan_not_copied geo disk q old safe command answer file plan new safe' (SetsItsAttributes n words) c = c
plan_not_copied geo disk q old safe command answer file plan new safe' (ClosesHandle h) c = c
plan_not_copied geo disk q old safe command answer file plan new safe' (CarriesOutRepair k plan' r stands there) c = c

lone_last : {A : Type 0} (xs : List A) (x y : A) → xs ++ x ∷ [] ≡ y ∷ [] → (xs ≡ []) × (x ≡ y)
lone_last [] x y e = (refl, cc)
lone_last (z ∷ []) x y e = let bad : z ∷ x ∷ [] ≡ y ∷ [] = e in cc
lone_last (z ∷ w ∷ xs) x y e = let bad : z ∷ w ∷ (xs ++ x ∷ []) ≡ y ∷ [] = e in cc

module _ (geo : Geometry) (disk0 : View) (q0 : List Pending) (old0 : State) (safe0 : ℕ → Bool) where
  abbrev Refused : View → List Pending → State → (ℕ → Bool) → Command → List View → Type 0
  Refused disk q new safe command images = Service geo disk0 q0 old0 safe0 disk q new safe (command ∷ []) (Err NoMemory ∷ []) images

  refused_after : (disk : View) (q : List Pending) (old : State) (safe : ℕ → Bool) (commands : List Command) (replies : List Reply) (images : List View) → Service geo disk0 q0 old0 safe0 disk q old safe commands replies images
      → commands ≡ [] → replies ≡ [] → (command : Command) → Refused disk q old safe command images
  refused_after disk q old safe commands replies images service none no_replies command =
      subst (λ cs. Service geo disk0 q0 old0 safe0 disk q old safe (cs ++ command ∷ []) (Err NoMemory ∷ []) images) none
      (subst (λ rs. Service geo disk0 q0 old0 safe0 disk q old safe (commands ++ command ∷ []) (rs ++ Err NoMemory ∷ []) images) no_replies (Refuses command NoMemory service (inl refl, refl)))

  refused_instead : (disk : View) (q : List Pending) (old : State) (safe : ℕ → Bool) (images : List View) (command : Command) (answer : Answer) (disk' : View) (q' : List Pending) (new : State) (safe' : ℕ → Bool) (later : List View)
      → Refused disk q old safe command images → Accepts geo old command → IsCopied (Ok answer) → Serves geo disk q old safe command answer disk' q' new safe' later → Refused disk' q' new safe' command (later ++ images)
  refused_instead disk q old safe images command answer disk' q' new safe' later refused accepts copied (ByPlan c a file plan n s done rest) = absurd (plan_not_copied geo disk q old safe c a file plan n s done copied)
  refused_instead disk q old safe images command answer disk' q' new safe' later refused accepts copied (Quietly c a n quiet effect) =
      subst (λ (s : State). Refused disk q s safe c images) (sym (copied_keeps geo old n c (Ok a) copied (accepts, effect))) refused
  refused_instead disk q old safe images command answer disk' q' new safe' later refused accepts copied (FlushesNone a) = absurd copied
  refused_instead disk q old safe images command answer disk' q' new safe' later refused accepts copied (FlushesSome a cut closed of_block some) = absurd copied
  refused_instead disk q old safe images command answer disk' q' new safe' later refused accepts copied (SyncsAll blocks views d writes) = absurd copied
  refused_instead disk q old safe images command answer disk' q' new safe' later refused accepts copied (Freezes blocks views d writes) = absurd copied
  refused_instead disk q old safe images command answer disk' q' new safe' later refused accepts copied (Releases r blocks views d n writes below) = absurd copied

  lone_refused : (command : Command) (reply : Reply) → IsCopied reply → (disk : View) (q : List Pending) (new : State) (safe : ℕ → Bool) (commands : List Command) (replies : List Reply) (images : List View)
      → Service geo disk0 q0 old0 safe0 disk q new safe commands replies images → commands ≡ command ∷ [] → replies ≡ reply ∷ [] → Refused disk q new safe command images
  lone_refused command reply copied disk q new safe commands replies images Starts one answered = let bad : [] ≡ command ∷ [] = one in cc
  lone_refused command reply copied disk q new safe cs rs is (CarriesOut {disk = d} {q = p} {old = old} {safe = s} {commands = commands} {replies = replies} {images = images} c answer d' p' n s' later service accepts serves) one answered =
      let first = lone_last commands c command one in
      let only = lone_last replies (Ok answer) reply answered in
      subst (λ x. Refused d' p' n s' x (later ++ images)) first.1
      (refused_instead d p old s images c answer d' p' n s' later (refused_after d p old s commands replies images service first.0 only.0 c) accepts (subst IsCopied (sym only.1) copied) serves)
  lone_refused command reply copied disk q new safe cs rs is (Refuses {disk = d} {q = p} {old = old} {safe = s} {commands = commands} {replies = replies} {images = images} c r service step) one answered =
      absurd (subst IsCopied (sym (lone_last replies (Err r) reply answered).1) copied)
  lone_refused command reply copied disk q new safe cs rs is (Flushed {disk = d} {q = p} {old = old} {safe = s} {commands = commands} {replies = replies} {images = images} a cut service closed of_block) one answered =
      Flushed a cut (lone_refused command reply copied d p old s commands replies images service one answered) closed of_block

pub service_refused : (geo : Geometry) (disk0 : View) (q0 : List Pending) (old0 : State) (safe0 : ℕ → Bool) (disk : View) (q : List Pending) (new : State) (safe : ℕ → Bool) (command : Command) (reply : Reply) (images : List View) → IsCopied reply
    → Service geo disk0 q0 old0 safe0 disk q new safe (command ∷ []) (reply ∷ []) images → Service geo disk0 q0 old0 safe0 disk q new safe (command ∷ []) (Err NoMemory ∷ []) images
service_refused geo disk0 q0 old0 safe0 disk q new safe command reply images copied service = lone_refused geo disk0 q0 old0 safe0 command reply copied disk q new safe (command ∷ []) (reply ∷ []) images service refl refl
