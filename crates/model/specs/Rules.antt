-- The rules that an image obeys whatever stop it comes from.
use Rattle.std.specs.Prelude.{◌≡◌, ◌≢◌, ℕ, zero, suc, ◌<◌, ◌≤◌, List, ◌⊎◌, IsTrue}
use Rattle.model.specs.Layout.{Geometry, is_data_address, is_number, root}
use Rattle.model.specs.View.{View}
use Rattle.model.specs.Uses.{is_sound, is_directory_at, IsUse, IsClaim}
use Rattle.model.specs.Slots.{Good, Bad, slot, Names}
use Rattle.model.specs.Reach.{IsReachableDirectory, IsReachable, IsEntry, HasEntries, HasParent}

-- The root is a sound directory.
abbrev pub RootIsDirectory : Geometry → View → Type 0
RootIsDirectory geo view = IsTrue (is_directory_at geo view root)

-- Each record is free or sound.
abbrev pub RecordsAreSound : Geometry → View → Type 0
RecordsAreSound geo view = (i : ℕ) → IsTrue (is_number geo i) → ((view.inode i).mode ≡ 0) ⊎ IsTrue (is_sound geo (view.inode i))

-- Each use is a claim, its block is marked, and no block has two claims.
pub record UsesAreClaims (geo : Geometry) (view : View) : Type 0 where
  pub claims : (i k v : ℕ) → IsUse geo view i k v → IsTrue (is_data_address geo v)
  pub marked : (i k a : ℕ) → IsClaim geo view i k a → IsTrue (view.block_marked a)
  pub once : (i k j l a : ℕ) → IsClaim geo view i k a → IsClaim geo view j l a → (i ≡ j) × (k ≡ l)

-- Each number whose record is not free is marked.
abbrev pub NumbersAreMarked : Geometry → View → Type 0
NumbersAreMarked geo view = (i : ℕ) → IsTrue (is_number geo i) → (view.inode i).mode ≢ 0 → IsTrue (view.number_marked i)

-- In each reachable directory slot 0 names it, and slot 1 its parent.
abbrev pub DotsAreRight : Geometry → View → Type 0
DotsAreRight geo view = (d : ℕ) → IsReachableDirectory geo view d → Names geo view d 0 d × HasParent geo view d

-- In each reachable directory no slot is bad, no name stands twice from slot 2 on, and each good slot names a sound inode.
pub record SlotsAreRight (geo : Geometry) (view : View) : Type 0 where
  pub none_bad : (d s : ℕ) → IsReachableDirectory geo view d → slot geo view d s ≢ Bad
  pub distinct : (d s t i j : ℕ) (name : List ℕ) → IsReachableDirectory geo view d → 2 ≤ s → 2 ≤ t → slot geo view d s ≡ Good i name → slot geo view d t ≡ Good j name → s ≡ t
  pub sound : (d s i : ℕ) → IsReachableDirectory geo view d → Names geo view d s i → IsTrue (is_sound geo (view.inode i))

-- A directory has at most one entry, and the root none.
pub record DirectoriesHaveOneEntry (geo : Geometry) (view : View) : Type 0 where
  pub once : (d s e t i : ℕ) → IsTrue (is_directory_at geo view i) → IsEntry geo view d s i → IsEntry geo view e t i → (d ≡ e) × (s ≡ t)
  pub no_root : (d s : ℕ) → IsEntry geo view d s root → ⊥

-- Each reachable inode has at least as many links as entries.
abbrev pub LinksCoverEntries : Geometry → View → Type 0
LinksCoverEntries geo view = (i n : ℕ) → IsReachable geo view i → HasEntries geo view i n → n ≤ (view.inode i).links

-- an image with this view obeys the rules
pub record ObeysRules (geo : Geometry) (view : View) : Type 0 where
  pub rule1 : RootIsDirectory geo view
  pub rule2 : RecordsAreSound geo view
  pub rule3 : UsesAreClaims geo view
  pub rule4 : NumbersAreMarked geo view
  pub rule5 : DotsAreRight geo view
  pub rule6 : SlotsAreRight geo view
  pub rule7 : DirectoriesHaveOneEntry geo view
  pub rule8 : LinksCoverEntries geo view

-- the rule of this number, from 1 to 8
abbrev pub Rule : Geometry → View → ℕ → Type 0
Rule geo view (suc zero) = RootIsDirectory geo view
Rule geo view (suc (suc zero)) = RecordsAreSound geo view
Rule geo view (suc (suc (suc zero))) = UsesAreClaims geo view
Rule geo view (suc (suc (suc (suc zero)))) = NumbersAreMarked geo view
Rule geo view (suc (suc (suc (suc (suc zero))))) = DotsAreRight geo view
Rule geo view (suc (suc (suc (suc (suc (suc zero)))))) = SlotsAreRight geo view
Rule geo view (suc (suc (suc (suc (suc (suc (suc zero))))))) = DirectoriesHaveOneEntry geo view
Rule geo view (suc (suc (suc (suc (suc (suc (suc (suc zero)))))))) = LinksCoverEntries geo view
Rule geo view _ = Unit {0}

-- rule n is broken, and those before it hold
pub record IsLeastBroken (geo : Geometry) (view : View) (n : ℕ) : Type 0 where
  pub broken : Rule geo view n → ⊥
  pub before : (k : ℕ) → k < n → Rule geo view k
