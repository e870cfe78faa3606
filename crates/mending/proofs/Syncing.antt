-- Nothing is pending after a sync.
use Rattle.std.proofs.Common.{◌≡◌, ℕ, Bool, true, false, List, [], ◌∷◌, ◌++◌, refl, sym, ap, ◌∙◌, IsTrue, Ok, Err}
use Rattle.model.specs.Layout.{Geometry}
use Rattle.model.specs.View.{View}
use Rattle.ordering.specs.Cuts.{Pending, rest}
use Rattle.machine.specs.Command.{Answer, Command, Reply, Sync}
use Rattle.machine.specs.State.{State}
use Rattle.courses.specs.Done.{IsDoneBy, CreatesInSlot, CreatesInNewBlock, MakesInSlot, MakesInNewBlock, LinksInSlot, LinksInNewBlock, RenamesInSlot, MovesToSlot, MovesToNewBlock, UnlinksName, UnlinksFile, RemovesName, RemovesDirectory, WritesInPlace, WritesBehind, WritesElsewhere, TruncatesFile, SetsItsAttributes, ClosesHandle, CarriesOutRepair}
use Rattle.courses.specs.Serves.{is_quiet, Serves, ByPlan, Quietly, FlushesNone, FlushesSome, SyncsAll, Freezes, Releases, Service, Starts, CarriesOut, Refuses, Flushed}

is_sync : Command → Bool
is_sync Sync = true
is_sync _ = false

last_of : {A : Type 0} → A → List A → A
last_of d [] = d
last_of d (x ∷ xs) = last_of x xs

last_is : {A : Type 0} (d : A) (xs : List A) (x : A) → last_of d (xs ++ x ∷ []) ≡ x
unfolding last_of
last_is d [] x = refl
last_is d (y ∷ xs) x = last_is y xs x

-- lists that end alike have the same last element
same_last : {A : Type 0} (xs ys : List A) (x y : A) → xs ++ x ∷ [] ≡ ys ++ y ∷ [] → x ≡ y
same_last xs ys x y e = sym (last_is x xs x) ∙ ap (last_of x) e ∙ last_is x ys y

no_end : {A : Type 0} (xs : List A) (x : A) → [] ≡ xs ++ x ∷ [] → ⊥
no_end [] x e = cc
no_end (y ∷ xs) x e = cc

module _ (geo : Geometry) where
  no_plan : (disk : View) (q : List Pending) (old : State) (safe : ℕ → Bool) (command : Command) (answer : Answer) (file : ℕ) (plan : List Pending) (new : State) (safe' : ℕ → Bool)
      → IsDoneBy geo disk q old safe command answer file plan new safe' → is_sync command ≡ true → ⊥
  unfolding is_sync
  no_plan disk q old safe command answer file plan new safe' (CreatesInSlot p words n s entry after f slot) t = let bad : false ≡ true = t in cc
  no_plan disk q old safe command answer file plan new safe' (CreatesInNewBlock p words n b kept s entry after f block) t = let bad : false ≡ true = t in cc
  no_plan disk q old safe command answer file plan new safe' (MakesInSlot p words i a dots s entry after f h d slot) t = let bad : false ≡ true = t in cc
  no_plan disk q old safe command answer file plan new safe' (MakesInNewBlock p words i a dots b kept s entry after f h d other block) t = let bad : false ≡ true = t in cc
  no_plan disk q old safe command answer file plan new safe' (LinksInSlot p r s entry after slot) t = let bad : false ≡ true = t in cc
  no_plan disk q old safe command answer file plan new safe' (LinksInNewBlock p r b kept s entry after block) t = let bad : false ≡ true = t in cc
  no_plan disk q old safe command answer file plan new safe' (RenamesInSlot p r entry after same says blocks) t = let bad : false ≡ true = t in cc
  no_plan disk q old safe command answer file plan new safe' (MovesToSlot p r s entry after' after differs slot there grounds) t = let bad : false ≡ true = t in cc
  no_plan disk q old safe command answer file plan new safe' (MovesToNewBlock p r b kept s entry after' after differs block there grounds known) t = let bad : false ≡ true = t in cc
  no_plan disk q old safe command answer file plan new safe' (UnlinksName p stays) t = let bad : false ≡ true = t in cc
  no_plan disk q old safe command answer file plan new safe' (UnlinksFile p blocks links goes) t = let bad : false ≡ true = t in cc
  no_plan disk q old safe command answer file plan new safe' (RemovesName p after blocks stays) t = let bad : false ≡ true = t in cc
  no_plan disk q old safe command answer file plan new safe' (RemovesDirectory p blocks after has links goes) t = let bad : false ≡ true = t in cc
  no_plan disk q old safe command answer file plan new safe' (WritesInPlace h k piece bytes over low kept) t = let bad : false ≡ true = t in cc
  no_plan disk q old safe command answer file plan new safe' (WritesBehind h k piece bytes b news over choice behind) t = let bad : false ≡ true = t in cc
  no_plan disk q old safe command answer file plan new safe' (WritesElsewhere h k piece bytes b over f low kept) t = let bad : false ≡ true = t in cc
  no_plan disk q old safe command answer file plan new safe' (TruncatesFile h size) t = let bad : false ≡ true = t in cc
  no_plan disk q old safe command answer file plan new safe' (SetsItsAttributes n words) t = let bad : false ≡ true = t in cc
  no_plan disk q old safe command answer file plan new safe' (ClosesHandle h) t = let bad : false ≡ true = t in cc
  no_plan disk q old safe command answer file plan new safe' (CarriesOutRepair k planned r plans there) t = let bad : false ≡ true = t in cc

  sync_leaves : (disk : View) (q : List Pending) (old : State) (safe : ℕ → Bool) (command : Command) (answer : Answer) (disk' : View) (q' : List Pending) (new : State) (safe' : ℕ → Bool) (later : List View)
      → Serves geo disk q old safe command answer disk' q' new safe' later → is_sync command ≡ true → q' ≡ []
  unfolding is_sync
  sync_leaves disk q old safe command answer disk' q' new safe' later (ByPlan c a file plan s f done rest) t = absurd (no_plan disk q old safe c a file plan s f done t)
  sync_leaves disk q old safe command answer disk' q' new safe' later (Quietly c a s quiet effect) t = quiet_is_none c quiet t
    where
      quiet_is_none : (c : Command) → IsTrue (is_quiet c) → is_sync c ≡ true → q ≡ []
      quiet_is_none Sync quiet t = cc
      quiet_is_none _ quiet t = cc
  sync_leaves disk q old safe command answer disk' q' new safe' later (FlushesNone a) t = cc
  sync_leaves disk q old safe command answer disk' q' new safe' later (FlushesSome a cut closed of_block some) t = cc
  sync_leaves disk q old safe command answer disk' q' new safe' later (SyncsAll blocks views d writes) t = refl
  sync_leaves disk q old safe command answer disk' q' new safe' later (Freezes blocks views d writes) t = cc
  sync_leaves disk q old safe command answer disk' q' new safe' later (Releases s blocks views d n writes held) t = cc

  module _ (disk0 : View) (q0 : List Pending) (old0 : State) (safe0 : ℕ → Bool) where
    pub none_left : (disk : View) (q : List Pending) (new : State) (safe : ℕ → Bool) (commands cs : List Command) (replies rs : List Reply) (answer : Answer) (images : List View)
        → Service geo disk0 q0 old0 safe0 disk q new safe commands replies images → commands ≡ cs ++ Sync ∷ [] → replies ≡ rs ++ Ok answer ∷ [] → q ≡ []
    unfolding is_sync
    none_left disk q new safe commands cs replies rs answer images Starts e f = absurd (no_end cs Sync e)
    none_left disk q new safe commands cs replies rs answer images (CarriesOut {disk = d} {q = p} {old = s} {safe = g} {commands = before} command a d' q' t g' later service accepts serves) e f =
        sync_leaves d p s g command a d' q' t g' later serves (ap is_sync (same_last before cs command Sync e))
    none_left disk q new safe commands cs replies rs answer images (Refuses {replies = before} command r service step) e f =
        let bad : Err r ≡ Ok answer = same_last before rs (Err r) (Ok answer) f in absurd cc
    none_left disk q new safe commands cs replies rs answer images (Flushed {disk = d} {q = p} {old = s} {safe = g} {images = before} a cut service closed of_block) e f =
        ap (λ pending. rest pending cut) (none_left d p s g commands cs replies rs answer before service e f)
