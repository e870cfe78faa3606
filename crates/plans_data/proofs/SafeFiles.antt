-- A file that no stop loses keeps its mode, whatever is issued.
use Rattle.std.proofs.Common.{◌≡◌, ℕ, List, ◌∷◌, inl, inr, refl, sym, ap, ◌∙◌, subst, IsTrue}
use Rattle.model.specs.Layout.{Geometry}
use Rattle.model.specs.View.{View, Inode}
use Rattle.model.specs.Cells.{put_at}
use Rattle.model.specs.Reach.{IsReachable}
use Rattle.model.specs.Rules.{ObeysRules}
use Rattle.model.proofs.ReachLemmas.{reachable_sound}
use Rattle.model.proofs.Places.{put_same, put_there}
use Rattle.ordering.specs.Cuts.{Pending, users_view}
use Rattle.ordering.specs.Places.{HasPlace}
use Rattle.ordering.specs.Ghosts.{Ghost}
use Rattle.ordering.specs.Agrees.{AllAgree}
use Rattle.ordering.specs.Histories.{Step, SetsBlock, SetsNumber, ClearsNumber, ClearsBlock, Fills, Writes, Raises, Lowers, RewritesFile, GrowsDirectory, CreatesFile, CreatesDirectory, Frees, AppendsSlot, MovesSlot, Removes, Enters, Renames, RemovesDirectory, EntersDirectory}
use Rattle.ordering.proofs.Bits.{users_obey, sound_used}
use Rattle.ordering.proofs.Places.{place_of}
use Rattle.ordering.proofs.CutLemmas.{users_cut}
use Rattle.ordering.proofs.HistoryLemmas.{step_safe}
use Rattle.machine.proofs.Decisions.{sound_parts}
use Rattle.plans_data.specs.Issues.{Issues, Nothing, Then}
use Rattle.plans_data.proofs.Chains.{issues_agree}

safe_reachable : (geo : Geometry) (disk : View) (q : List Pending) (ghost : Ghost) → AllAgree geo disk q ghost → (f : ℕ) → IsTrue (ghost.safe f) → IsReachable geo (users_view disk q) f
safe_reachable geo disk q ghost all f t = users_cut disk q (λ v. IsReachable geo v f) (λ cut closed. (all cut closed).safe f t)

-- what is reachable has a place
placed : (geo : Geometry) (v : View) → ObeysRules geo v → (f : ℕ) → IsReachable geo v f → ((d s b : ℕ) → HasPlace geo v f d s b → ⊥) → ⊥
placed geo v o f (inl r) none = let p = place_of geo v f f 0 r (o.rule5 f r).0 in none f 0 p.0 p.1
placed geo v o f (inr r) none = let p = place_of geo v f r.1 r.2 r.3.reachable r.3.names in none r.1 r.2 p.0 p.1

-- another record of a number that is not this one
at_other : (f : ℕ → Inode) (n m : ℕ) (x : Inode) → (m ≡ n → ⊥) → (put_at f n x m).mode ≡ (f m).mode
at_other f n m x other = ap (λ (y : Inode). y.mode) (put_there f n m x other)

same_mode : (f : ℕ → Inode) (n m : ℕ) (x : Inode) → (f n).mode ≡ x.mode → (put_at f n x m).mode ≡ (f m).mode
same_mode f n m x e = sym (put_same f n x (λ k (y : Inode). y.mode) e m)

step_mode : (geo : Geometry) (disk : View) (q : List Pending) (ghost : Ghost) (u : Pending) (ghost' : Ghost) → Step geo disk q ghost u ghost' → AllAgree geo disk q ghost
    → (f : ℕ) → IsTrue (ghost.safe f) → ((users_view disk (u ∷ q)).inode f).mode ≡ ((users_view disk q).inode f).mode
step_mode geo disk q ghost u ghost' (SetsBlock after b h) all f t = refl
step_mode geo disk q ghost u ghost' (SetsNumber after n k h) all f t = refl
step_mode geo disk q ghost u ghost' (ClearsNumber after n h) all f t = refl
step_mode geo disk q ghost u ghost' (ClearsBlock after b h) all f t = refl
step_mode geo disk q ghost u ghost' (Fills after b bytes h) all f t = refl
step_mode geo disk q ghost u ghost' (Writes after n p b bytes h) all f t = refl
step_mode geo disk q ghost u ghost' (Raises after n x h) all f t = same_mode (users_view disk q).inode n f x h.body.mode
step_mode geo disk q ghost u ghost' (Lowers after n x h) all f t = same_mode (users_view disk q).inode n f x h.body.mode
step_mode geo disk q ghost u ghost' (RewritesFile held up after n x h) all f t = same_mode (users_view disk q).inode n f x (h.file ∙ sym h.still_file)
step_mode geo disk q ghost u ghost' (GrowsDirectory after n x h) all f t = same_mode (users_view disk q).inode n f x (h.directory ∙ sym h.still_directory)
step_mode geo disk q ghost u ghost' (CreatesFile after n x h) all f t = at_other (users_view disk q).inode n f x (λ e.
    let r = sound_parts geo (users_view disk q) f (reachable_sound geo (users_view disk q) f (safe_reachable geo disk q ghost all f t)) in
    sound_used geo ((users_view disk q).inode f) r.1 (ap (λ k. ((users_view disk q).inode k).mode) e ∙ h.free))
step_mode geo disk q ghost u ghost' (CreatesDirectory after n x h) all f t = at_other (users_view disk q).inode n f x (λ e.
    let r = sound_parts geo (users_view disk q) f (reachable_sound geo (users_view disk q) f (safe_reachable geo disk q ghost all f t)) in
    sound_used geo ((users_view disk q).inode f) r.1 (ap (λ k. ((users_view disk q).inode k).mode) e ∙ h.free))
step_mode geo disk q ghost u ghost' (Frees held up after n x h) all f t = at_other (users_view disk q).inode n f x (λ e.
    placed geo (users_view disk q) (users_obey geo disk q ghost all) n (subst (λ k. IsReachable geo (users_view disk q) k) e (safe_reachable geo disk q ghost all f t)) h.no_place)
step_mode geo disk q ghost u ghost' (AppendsSlot after n m x bytes h) all f t = refl
step_mode geo disk q ghost u ghost' (MovesSlot held up after n m x p bytes h) all f t = refl
step_mode geo disk q ghost u ghost' (Removes after block bytes d s i name safe h) all f t = refl
step_mode geo disk q ghost u ghost' (Enters after block bytes d s i name h) all f t = refl
step_mode geo disk q ghost u ghost' (Renames after block bytes d s i old new h) all f t = refl
step_mode geo disk q ghost u ghost' (RemovesDirectory after block bytes d s i b name h) all f t = refl
step_mode geo disk q ghost u ghost' (EntersDirectory after block bytes d s i b name h) all f t = refl

module _ (geo : Geometry) (disk : View) (q : List Pending) (ghost : Ghost) where
  pub fewer_safe : (p : List Pending) (g : Ghost) → Issues geo disk q ghost p g → (f : ℕ) → IsTrue (g.safe f) → IsTrue (ghost.safe f)
  fewer_safe p g Nothing f t = t
  fewer_safe p g (Then {p = r} {g = h} u g' first s) f t = fewer_safe r h first f (step_safe geo disk r h u g' s f t)

  pub safe_modes : (p : List Pending) (g : Ghost) → Issues geo disk q ghost p g → AllAgree geo disk q ghost → (f : ℕ) → IsTrue (g.safe f)
      → ((users_view disk p).inode f).mode ≡ ((users_view disk q).inode f).mode
  safe_modes p g Nothing all f t = refl
  safe_modes p g (Then {p = r} {g = h} u g' first s) all f t =
      let before = step_safe geo disk r h u g' s f t in
      step_mode geo disk r h u g' s (issues_agree geo disk q ghost r h first all) f before ∙ safe_modes r h first all f before
