-- What is true of the bytes of each file's block, as users see them after each update, is true of them in each closed cut.
use Rattle.std.proofs.Common.{◌≡◌, ◌≤◌, ◌+◌, ℕ, zero, suc, Bool, true, false, List, [], ◌∷◌, Contains, length, drop, inl, inr, sym, subst, arith}
use Rattle.model.specs.Layout.{Geometry}
use Rattle.model.specs.View.{View}
use Rattle.model.specs.Cells.{Update, updated}
use Rattle.ordering.specs.Cuts.{Block, IsClosed, cell_of, fresh, seen, rest, joined, users_view}
use Rattle.ordering.specs.Ghosts.{Ghost}
use Rattle.ordering.specs.Histories.{Step}
use Rattle.ordering.proofs.Bits.{claim_used}
use Rattle.ordering.proofs.Flushes.{joined_closed}
use Rattle.queue_model.specs.History.{Holds}
use Rattle.queue_model.specs.Files.{Written, updates, generation, shown, IsFileBlock}
use Rattle.queue_model.specs.Course.{Course, Rests, Adds, Puts, Settles, IsGood}
use Rattle.queue_model.proofs.HistoryLemmas.{joined_holds}
use Rattle.queue_model.proofs.FileLemmas.{differs_from}
use Rattle.queue_model.proofs.CourseLemmas.{course_good}
use Rattle.queue_model.proofs.OwnLemmas.{accounts, before, bytes_stay, shorter, shown_stays, take_generations, then}

-- what P says of a number, a generation of it, a position and bytes is true of each file's blocks in the users' view
abbrev pub UsersHold : Geometry → View → (ℕ → ℕ → ℕ → List ℕ → Type 0) → List Written → Type 0
UsersHold geo mounted P h = (n k b : ℕ) → IsFileBlock geo (users_view mounted (updates h)) n k b → P n (generation mounted h n) k ((users_view mounted (updates h)).bytes b)

-- in the view of a cut, and in that of each closed cut that holds what is on the device
abbrev pub CutHolds : Geometry → View → (ℕ → ℕ → ℕ → List ℕ → Type 0) → List Written → List Bool → Type 0
CutHolds geo mounted P h more = (n k b : ℕ) → IsFileBlock geo (seen mounted (updates h) more) n k b → P n (shown mounted h more n) k ((seen mounted (updates h) more).bytes b)

abbrev pub CutsHold : Geometry → View → (ℕ → ℕ → ℕ → List ℕ → Type 0) → List Written → List Bool → Type 0
CutsHold geo mounted P h cut = (more : List Bool) → IsClosed (updates h) more → Holds more cut → CutHolds geo mounted P h more

pub mount_holds : (geo : Geometry) (mounted : View) (P : ℕ → ℕ → ℕ → List ℕ → Type 0) → UsersHold geo mounted P [] → CutsHold geo mounted P [] []
mount_holds geo mounted P users [] l g = users
mount_holds geo mounted P users (b ∷ more) l g = absurd l

pub write_holds : (geo : Geometry) (mounted : View) (P : ℕ → ℕ → ℕ → List ℕ → Type 0) (h : List Written) (cut next : List Bool) → IsClosed (updates h) cut → IsClosed (rest (updates h) cut) next → CutsHold geo mounted P h cut
    → CutsHold geo mounted P h (joined (updates h) cut next)
write_holds geo mounted P h cut next k l cuts more m g = cuts more m (λ i t. g i (joined_holds (updates h) cut next k l i t))

module _ (geo : Geometry) (mounted : View) (P : ℕ → ℕ → ℕ → List ℕ → Type 0) (h : List Written) (cut : List Bool) (ghost : Ghost) (w : Written) (ghost' : Ghost) (good : IsGood geo mounted h cut ghost)
    (step : Step geo (seen mounted (updates h) cut) (rest (updates h) cut) ghost w.update ghost') (users : UsersHold geo mounted P (w ∷ h)) (cuts : CutsHold geo mounted P h cut) where
  taken : (c : List Bool) → IsClosed (updates (w ∷ h)) (true ∷ c) → Holds (true ∷ c) (false ∷ cut) → CutHolds geo mounted P (w ∷ h) (true ∷ c)
  taken c l g n k b (claim, low, file) =
      let u : Update = w.update.change in
      let view = seen mounted (updates h) c in
      let users' = updated (users_view mounted (updates h)) u in
      let on = shorter geo mounted h cut ghost w ghost' good.closed good.agree step true c g in
      let a = before geo mounted h cut ghost w ghost' good.closed good.agree step c l.0 on in
      let a' = then geo mounted h cut ghost w ghost' good.closed good.agree step (true ∷ c) l g in
      let own = good.own.cuts c l.0 on in
      elim (accounts geo mounted h cut ghost w ghost' good.closed good.agree step (fresh (updates h) c) view a l.1 l.2 n k b (claim, low, file)) [
        | inl old ↦
            subst (λ g. P n g k ((updated view u).bytes b)) (sym (shown_stays geo mounted h w ghost c a own l.1 n old.0.2))
            (subst (λ bytes. P n (shown mounted h c n) k bytes) (sym (bytes_stay view u b (differs_from (cell_of u) (Block b) old.1))) (cuts c l.0 on n k b old.0))
        | inr new ↦
            let bit = (a'.blocks.claimed b n k n k (a'.blocks.marked b n k new.0.0 new.1) new.0.0 claim).2 in
            let same = take_generations geo mounted h w ghost c a own n bit (λ z. claim_used geo users' n k b new.0.0 z) (λ z. claim_used geo (updated view u) n k b claim z) in
            subst (λ g. P n g k ((updated view u).bytes b)) (sym same)
            (subst (λ bytes. P n (generation mounted (w ∷ h) n) k bytes) (sym (a'.same (Block b) new.1)) (users n k b new.0))
      ]

  pub issue_holds : CutsHold geo mounted P (w ∷ h) (false ∷ cut)
  issue_holds [] l g = absurd l
  issue_holds (false ∷ c) l g = cuts c l (shorter geo mounted h cut ghost w ghost' good.closed good.agree step false c g)
  issue_holds (true ∷ c) l g = taken c l g

-- ---- a course

pub course_longer : (geo : Geometry) (mounted : View) (h : List Written) (cut : List Bool) (ghost : Ghost) (h' : List Written) (cut' : List Bool) (images : List View) (ghost' : Ghost) → Course geo mounted h cut ghost h' cut' images ghost'
    → length h ≤ length h'
course_longer geo mounted h cut ghost h' cut' images ghost' Rests = omega (arith)
course_longer geo mounted h cut ghost h' cut' images ghost' (Adds {h' = i} {cut' = c} {images = im} {ghost' = o} w next course step names) =
    let less = course_longer geo mounted h cut ghost i c im o course in omega (arith, less)
course_longer geo mounted h cut ghost h' cut' images ghost' (Puts {h' = i} {cut' = c} {images = im} {ghost' = o} next course l) = course_longer geo mounted h cut ghost i c im o course
course_longer geo mounted h cut ghost h' cut' images ghost' (Settles {h' = i} {cut' = c} {images = im} {ghost' = o} held course e) = course_longer geo mounted h cut ghost i c im o course

-- in the users' view after each update since a beginning, and there
abbrev pub HeldSince : Geometry → View → (ℕ → ℕ → ℕ → List ℕ → Type 0) → List Written → List Written → Type 0
HeldSince geo mounted P h h' = (m : ℕ) → m + length h ≤ length h' → UsersHold geo mounted P (drop m h')

-- the image is that of a closed cut, in whose view it is true
abbrev pub ImageHolds : Geometry → View → (ℕ → ℕ → ℕ → List ℕ → Type 0) → List Written → View → Type 0
ImageHolds geo mounted P h image = (less : List Bool) × (image ≡ seen mounted (updates h) less) × IsClosed (updates h) less × CutHolds geo mounted P h less

module _ (geo : Geometry) (mounted : View) (P : ℕ → ℕ → ℕ → List ℕ → Type 0) (h : List Written) (cut : List Bool) (ghost : Ghost) (good : IsGood geo mounted h cut ghost) (cuts : CutsHold geo mounted P h cut) where
  -- the images after a write
  after : (i : List Written) (c : List Bool) (im : List View) (next : List Bool) → IsClosed (updates i) (joined (updates i) c next) → CutsHold geo mounted P i (joined (updates i) c next)
      → ((image : View) → Contains im image → ImageHolds geo mounted P i image)
      → (image : View) → Contains (seen mounted (updates i) (joined (updates i) c next) ∷ im) image → ImageHolds geo mounted P i image
  after i c im next closed there older image (zero, low, e) = (joined (updates i) c next, sym e, closed, there (joined (updates i) c next) closed (λ k t. t))
  after i c im next closed there older image (suc k, low, e) = older image (k, omega (arith, low), e)

  pub course_holds : (h' : List Written) (cut' : List Bool) (images : List View) (ghost' : Ghost) → Course geo mounted h cut ghost h' cut' images ghost' → HeldSince geo mounted P h h'
      → CutsHold geo mounted P h' cut' × ((image : View) → Contains images image → ImageHolds geo mounted P h' image)
  course_holds h' cut' images ghost' Rests held = (cuts, λ image (i, low, e). absurd (omega (arith, low)))
  course_holds h' cut' images ghost' (Adds {h' = i} {cut' = c} {images = im} {ghost' = o} w next course step names) held =
      let longer = course_longer geo mounted h cut ghost i c im o course in
      let r = course_holds i c im o course (λ m l. held (suc m) (omega (arith, l))) in (
        issue_holds geo mounted P i c o w next (course_good geo mounted h cut ghost i c im o course good).0 step (held 0 (omega (arith, longer))) r.0,
        λ image there. let one = r.1 image there in (false ∷ one.0, one.1, one.2, one.3),
      )
  course_holds h' cut' images ghost' (Puts {h' = i} {cut' = c} {images = im} {ghost' = o} next course l) held =
      let r = course_holds i c im o course held in
      let before_it = (course_good geo mounted h cut ghost i c im o course good).0 in
      let there = write_holds geo mounted P i c next before_it.closed l r.0 in
      (there, after i c im next (joined_closed (updates i) c next before_it.closed l) there r.1)
  course_holds h' cut' images ghost' (Settles {h' = i} {cut' = c} {images = im} {ghost' = o} kept course e) held = course_holds i c im o course held
