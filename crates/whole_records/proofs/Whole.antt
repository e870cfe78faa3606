-- A record on the image of a cut is the users' at some moment.
use Rattle.std.proofs.Common.{◌≡◌, ◌≤◌, ◌+◌, ℕ, zero, suc, Bool, true, false, List, [], ◌∷◌, ◌++◌, length, drop, inl, inr, refl, sym, ap, ◌∙◌, arith}
use Rattle.std.proofs.lemmas.Bool.{cases_eq}
use Rattle.model.specs.View.{View, Inode}
use Rattle.model.specs.Cells.{Update, SetInode, SetNumber, SetBlock, SetBytes, updated, put_at}
use Rattle.model.proofs.Places.{put_here, put_there}
use Rattle.ordering.specs.Cuts.{Pending, seen, users_view}

-- an update gives record n a value, whatever the view, or leaves it
pub data Gives (u : Update) (n : ℕ) : Type 0 where
  Value : (x : Inode) → ((v : View) → (updated v u).inode n ≡ x) → Gives u n
  Leaves : ((v : View) → (updated v u).inode n ≡ v.inode n) → Gives u n

gives : (u : Update) (n : ℕ) → Gives u n
gives (SetInode m x) n = elim (cases_eq n m) [
  | inl same ↦ Value x (λ v. ap (put_at v.inode m x) same ∙ put_here v.inode m x)
  | inr other ↦ Leaves (λ v. put_there v.inode m n x other)
]
gives (SetNumber m marked) n = Leaves (λ v. refl)
gives (SetBlock a marked) n = Leaves (λ v. refl)
gives (SetBytes a bytes) n = Leaves (λ v. refl)

nothing_seen : (disk : View) (q : List Pending) → seen disk q [] ≡ disk
nothing_seen disk [] = refl
nothing_seen disk (u ∷ q) = refl

-- what was there when k of the newest updates were left out
pub record WasSeen (disk : View) (q : List Pending) (most n : ℕ) (x : Inode) : Type 0 where
  pub k : ℕ
  pub few : k ≤ most
  pub is : x ≡ (users_view disk (drop k q)).inode n

earlier : (disk : View) (q : List Pending) (u : Pending) (most n : ℕ) (x : Inode) → WasSeen disk q most n x → WasSeen disk (u ∷ q) (suc most) n x
earlier disk q u most n x was = record { k = suc was.k; few = omega (arith, was.few); is = was.is }

taken : (disk : View) (q : List Pending) (u : Pending) (cut : List Bool) (most n : ℕ) → WasSeen disk q most n ((seen disk q cut).inode n)
    → WasSeen disk (u ∷ q) (suc most) n ((updated (seen disk q cut) u.change).inode n)
taken disk q u cut most n was = by (gives u.change n)
  where
    by : Gives u.change n → WasSeen disk (u ∷ q) (suc most) n ((updated (seen disk q cut) u.change).inode n)
    by (Value x value) = record { k = 0; few = omega arith; is = value (seen disk q cut) ∙ sym (value (users_view disk q)) }
    by (Leaves same) = record { k = suc was.k; few = omega (arith, was.few); is = same (seen disk q cut) ∙ was.is }

pub was_seen : (disk : View) (q : List Pending) (cut : List Bool) (n : ℕ) → WasSeen disk q (length q) n ((seen disk q cut).inode n)
was_seen disk [] cut n = record { k = 0; few = omega arith; is = refl }
was_seen disk (u ∷ q) [] n =
    let was = earlier disk q u (length q) n ((seen disk q []).inode n) (was_seen disk q [] n) in
    record { k = was.k; few = was.few; is = ap (λ (v : View). v.inode n) (sym (nothing_seen disk q)) ∙ was.is }
was_seen disk (u ∷ q) (true ∷ cut) n = taken disk q u cut (length q) n (was_seen disk q cut n)
was_seen disk (u ∷ q) (false ∷ cut) n = earlier disk q u (length q) n ((seen disk q cut).inode n) (was_seen disk q cut n)

drop_nothing : (m : ℕ) → drop {A = Bool} m [] ≡ []
drop_nothing zero = refl
drop_nothing (suc m) = refl

pub seen_since : (disk : View) (added q : List Pending) (cut : List Bool) (n : ℕ) → seen disk q (drop (length added) cut) ≡ users_view disk q
    → WasSeen disk (added ++ q) (length added) n ((seen disk (added ++ q) cut).inode n)
seen_since disk [] q cut n all = record { k = 0; few = omega arith; is = ap (λ (v : View). v.inode n) all }
seen_since disk (u ∷ added) q [] n all =
    let was = earlier disk (added ++ q) u (length added) n ((seen disk (added ++ q) []).inode n) (seen_since disk added q [] n (ap (seen disk q) (drop_nothing (length added)) ∙ all)) in
    record { k = was.k; few = was.few; is = ap (λ (v : View). v.inode n) (sym (nothing_seen disk (added ++ q))) ∙ was.is }
seen_since disk (u ∷ added) q (true ∷ cut) n all = taken disk (added ++ q) u cut (length added) n (seen_since disk added q cut n all)
seen_since disk (u ∷ added) q (false ∷ cut) n all = earlier disk (added ++ q) u (length added) n ((seen disk (added ++ q) cut).inode n) (seen_since disk added q cut n all)
