-- A file stays safe while no plan takes a name of it.
use Rattle.std.proofs.Common.{◌≡◌, ℕ, Bool, not, ◌&&◌, eqb, List, [], IsTrue, ne_eqb}
use Rattle.std.proofs.lemmas.Bool.{and_from, not_from_false}
use Rattle.model.specs.Layout.{Geometry}
use Rattle.model.specs.View.{View}
use Rattle.ordering.specs.Cuts.{Pending}
use Rattle.machine.specs.State.{State}
use Rattle.courses.specs.Plans.{IsPlan, WritesInPlace, WritesAppended, WritesMoved, Truncates, Relinks, Closes, Repairs, Creates, CreatesGrown, Links, LinksGrown, Unlinks, UnlinksLast, Makes, MakesGrown, Removes, RemovesName, Renames, Moves, MovesGrown, SetsAttributes}
use Rattle.courses.specs.Life.{Life, Begins, Carries, Puts as Writes, Releases, SparesIn, Spares}

pub but_other : (i f : ℕ) (safe : ℕ → Bool) → (f ≡ i → ⊥) → IsTrue (safe f) → IsTrue (safe f && not (eqb f i))
but_other i f safe other t = and_from (safe f) (not (eqb f i)) t (not_from_false (eqb f i) (ne_eqb f i other))

spared_in : (geo : Geometry) (disk : View) (q : List Pending) (old : State) (safe : ℕ → Bool) (file : ℕ) (p : List Pending) (held' safe' : ℕ → Bool) (plan : IsPlan geo disk q old safe file p held' safe') (f : ℕ) → SparesIn f plan → IsTrue (safe f) → IsTrue (safe' f)
spared_in geo disk q old safe file p held' safe' (WritesInPlace n k piece bytes may) f spares t = t
spared_in geo disk q old safe file p held' safe' (WritesAppended n k b piece bytes holder may) f spares t = t
spared_in geo disk q old safe file p held' safe' (WritesMoved n k b piece bytes holder may) f spares t = t
spared_in geo disk q old safe file p held' safe' (Truncates n size blocks may) f spares t = t
spared_in geo disk q old safe file p held' safe' (SetsAttributes n words at) f spares t = t
spared_in geo disk q old safe file p held' safe' (Relinks n links blocks may) f spares t = t
spared_in geo disk q old safe file p held' safe' (Closes h n blocks may) f spares t = t
spared_in geo disk q old safe file p held' safe' (Repairs r any blocks may) f spares t = t
spared_in geo disk q old safe file p held' safe' (Creates n words d s block name entry after can) f spares t = t
spared_in geo disk q old safe file p held' safe' (CreatesGrown n words d b kept s name entry after spare can) f spares t = t
spared_in geo disk q old safe file p held' safe' (Links i d s block name entry after can) f spares t = t
spared_in geo disk q old safe file p held' safe' (LinksGrown i d b kept s name entry after spare can) f spares t = t
spared_in geo disk q old safe file p held' safe' (Unlinks i d s block name can) f spares t = but_other i f safe spares t
spared_in geo disk q old safe file p held' safe' (UnlinksLast i d s block name blocks can free one) f spares t = but_other i f safe spares t
spared_in geo disk q old safe file p held' safe' (Makes i b words dots d s block name entry after can spare) f spares t = t
spared_in geo disk q old safe file p held' safe' (MakesGrown i a words dots d b kept s name entry after spare can) f spares t = t
spared_in geo disk q old safe file p held' safe' (Removes i b d s block name after blocks can free two not) f spares t = t
spared_in geo disk q old safe file p held' safe' (RemovesName i b d s block name after can not) f spares t = t
spared_in geo disk q old safe file p held' safe' (Renames i d s block name other entry after can) f spares t = t
spared_in geo disk q old safe file p held' safe' (Moves i d' s' block' name' entry after' d s block name after can) f spares t = t
spared_in geo disk q old safe file p held' safe' (MovesGrown i d' b kept s' name' entry after' d s block name after spare can) f spares t = t

pub spared : (geo : Geometry) (disk0 : View) (q0 : List Pending) (held0 safe0 : ℕ → Bool) (disk : View) (q : List Pending) (held safe : ℕ → Bool) (images : List View) (life : Life geo disk0 q0 held0 safe0 disk q held safe images)
    → (f : ℕ) → Spares f life → IsTrue (safe0 f) → IsTrue (safe f)
spared geo disk0 q0 held0 safe0 disk q held safe images Begins f spares t = t
spared geo disk0 q0 held0 safe0 disk q held' safe' images (Carries {disk = d} {q = q1} {held = held} {safe = safe} {images = im} old file p0 held1 safe1 life e plan) f spares t =
    spared_in geo d q1 old safe file p0 held1 safe1 plan f spares.1 (spared geo disk0 q0 held0 safe0 d q1 held safe im life f spares.0 t)
spared geo disk0 q0 held0 safe0 disk q held' safe' images (Writes {disk = d} {q = q1} {held = held} {safe = safe} {images = im} next life closed) f spares t = spared geo disk0 q0 held0 safe0 d q1 held safe im life f spares t
spared geo disk0 q0 held0 safe0 disk q held' safe' images (Releases {disk = d} {held = held} {safe = safe} {images = im} old held1 blocks life e may) f spares t = spared geo disk0 q0 held0 safe0 d [] held safe im life f spares t
