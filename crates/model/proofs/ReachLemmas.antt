-- What is reachable: directories by paths, and whatever holds of the root and of what entries name.
use Rattle.std.proofs.Common.{◌≤◌, ℕ, zero, suc, inl, inr, sym, subst, IsTrue}
use Rattle.std.proofs.lemmas.Bool.{and_parts}
use Rattle.model.specs.Layout.{Geometry, root}
use Rattle.model.specs.View.{View}
use Rattle.model.specs.Uses.{is_sound_at, is_directory_at, is_directory}
use Rattle.model.specs.Slots.{Names}
use Rattle.model.specs.Reach.{Path, IsReachableDirectory, IsReachable}
use Rattle.model.proofs.SlotLemmas.{reachable_directory}

module _ (geo : Geometry) (view : View) where
  pub sound_directory : (d : ℕ) → IsTrue (is_directory_at geo view d) → IsTrue (is_sound_at geo view d)
  sound_directory d t = (and_parts (is_sound_at geo view d) (is_directory (view.inode d)) t).0

  -- what is reachable is sound
  pub reachable_sound : (i : ℕ) → IsReachable geo view i → IsTrue (is_sound_at geo view i)
  reachable_sound i (inl r) = sound_directory i (reachable_directory geo view i r)
  reachable_sound i (inr h) = h.0

  -- a reachable inode that is a sound directory is the end of a path
  pub directory_reached : (d : ℕ) → IsReachable geo view d → IsTrue (is_directory_at geo view d) → IsReachableDirectory geo view d
  directory_reached d (inl r) t = r
  directory_reached d (inr h) t = let e = h.3 in (suc e.reachable.0, (h.1, h.2, e.reachable.1, e.after_dots, e.names, t))

  -- what a reachable directory's slot from 2 on names is reachable, if it is sound
  pub entry_reached : (d s i : ℕ) → IsReachable geo view d → IsTrue (is_directory_at geo view d) → 2 ≤ s → Names geo view d s i → IsTrue (is_sound_at geo view i) → IsReachable geo view i
  entry_reached d s i r t after names sound = inr (sound, d, s, record { reachable = directory_reached d r t; after_dots = after; names = names })

  -- P holds of the root, and of each sound inode that a slot from 2 on of a sound directory with P names
  pub record IsClosed (P : ℕ → Type 0) : Type 0 where
    pub at_root : IsTrue (is_directory_at geo view root) → P root
    pub at_entries : (d s i : ℕ) → P d → IsTrue (is_directory_at geo view d) → 2 ≤ s → Names geo view d s i → IsTrue (is_sound_at geo view i) → P i

  closed_path : (P : ℕ → Type 0) → IsClosed P → (n d : ℕ) → Path geo view n d → P d
  closed_path P closed zero d p = subst P (sym p.0) (closed.at_root p.1)
  closed_path P closed (suc n) d p =
      closed.at_entries p.0 p.1 d (closed_path P closed n p.0 p.2) (reachable_directory geo view p.0 (n, p.2)) p.3 p.4 (sound_directory d p.5)

  -- and so it holds of all that is reachable
  pub closed_reachable : (P : ℕ → Type 0) → IsClosed P → (i : ℕ) → IsReachable geo view i → P i
  closed_reachable P closed i (inl r) = closed_path P closed r.0 i r.1
  closed_reachable P closed i (inr h) =
      let e = h.3 in
      closed.at_entries h.1 h.2 i (closed_path P closed e.reachable.0 h.1 e.reachable.1) (reachable_directory geo view h.1 e.reachable) e.after_dots e.names h.0
