-- The images of snapshots, and the metadata of them that a volume keeps.
use Rattle.std.proofs.Common.{◌≡◌, ℕ, zero, suc, Bool, true, false, not, leb, eqb, ◌||◌, List, [], ◌∷◌, length, cond, refl, sym, ap, ap₂, subst, Option, Some}
use Rattle.std.proofs.lemmas.Bool.{both_ways}
use Rattle.model.specs.View.{View}
use Rattle.machine.specs.Standing.{Standing, Snapshots, image_at, latest_at, others, begun, ended, too_many}
use Rattle.machine.specs.State.{keeps}
use Rattle.frozen.specs.Kept.{Kept}
use Rattle.metadata.specs.Shown.{Shows}
use Rattle.live_states.specs.Holdings.{IsImageOf, AreImages, AreImagesOf, kept_by}

-- one more, by whether each has the number
one_at : (k : Kept) (x : View) (o : Option Kept) (p : Option View) (b c : Bool) → c ≡ b → Shows k x → IsImageOf o p → IsImageOf (cond b (Some k) o) (cond c (Some x) p)
one_at k x o p true true e shows rest = shows
one_at k x o p false false e shows rest = rest
one_at k x o p true false e shows rest = absurd (both_ways false refl e)
one_at k x o p false true e shows rest = absurd (both_ways true e refl)

-- what stands with a number, and that of the latest freeze
pub same_at : (ks : List (Standing Kept)) (xs : List (Standing View)) → AreImages ks xs → (s : ℕ) → IsImageOf (image_at ks s) (image_at xs s)
same_at [] [] are s = tt
same_at (k ∷ ks) (x ∷ xs) are s = one_at k.image x.image (image_at ks s) (image_at xs s) (eqb k.number s) (eqb x.number s) (ap (λ n. eqb n s) are.0) are.1 (same_at ks xs are.2 s)
same_at [] (x ∷ xs) are s = absurd are
same_at (k ∷ ks) [] are s = absurd are

pub same_latest : (kept : Snapshots Kept) (images : Snapshots View) → AreImagesOf kept images → IsImageOf (latest_at kept.standing kept.freezes) (latest_at images.standing images.freezes)
same_latest kept images are = subst (λ n. IsImageOf (latest_at kept.standing kept.freezes) (latest_at images.standing n)) (sym are.0) (by kept.freezes)
  where
    by : (n : ℕ) → IsImageOf (latest_at kept.standing n) (latest_at images.standing n)
    by zero = tt
    by (suc s) = same_at kept.standing images.standing are.1 s

-- what they keep, and how many there are
pub same_kept : (ks : List (Standing Kept)) (xs : List (Standing View)) → AreImages ks xs → (a : ℕ) → keeps xs a ≡ kept_by ks a
same_kept [] [] are a = refl
same_kept (k ∷ ks) (x ∷ xs) are a = ap₂ (λ p q. p || q) (sym (are.1.block_marked a)) (same_kept ks xs are.2 a)
same_kept [] (x ∷ xs) are a = absurd are
same_kept (k ∷ ks) [] are a = absurd are

same_length : (ks : List (Standing Kept)) (xs : List (Standing View)) → AreImages ks xs → length xs ≡ length ks
same_length [] [] are = refl
same_length (k ∷ ks) (x ∷ xs) are = ap suc (same_length ks xs are.2)
same_length [] (x ∷ xs) are = absurd are
same_length (k ∷ ks) [] are = absurd are

pub same_room : (kept : Snapshots Kept) (images : Snapshots View) → AreImagesOf kept images → too_many images ≡ too_many kept
same_room kept images are = ap₂ (λ (l f : ℕ). leb 4 l || leb 18446744073709551615 f) (same_length kept.standing images.standing are.1) are.0

-- once one more begins, and once one ends
pub images_begun : (kept : Snapshots Kept) (images : Snapshots View) (snapshot : Kept) (view : View) → AreImagesOf kept images → Shows snapshot view → AreImagesOf (begun kept snapshot) (begun images view)
images_begun kept images snapshot view are shows = (ap suc are.0, (are.0, shows, are.1))

one_left : (k : Standing Kept) (x : Standing View) (ks : List (Standing Kept)) (xs : List (Standing View)) (b c : Bool) → c ≡ b → x.number ≡ k.number → Shows k.image x.image → AreImages ks xs
    → AreImages (cond (not b) (k ∷ ks) ks) (cond (not c) (x ∷ xs) xs)
one_left k x ks xs true true e same shows rest = rest
one_left k x ks xs false false e same shows rest = (same, shows, rest)
one_left k x ks xs true false e same shows rest = absurd (both_ways false refl e)
one_left k x ks xs false true e same shows rest = absurd (both_ways true e refl)

pub same_others : (s : ℕ) (ks : List (Standing Kept)) (xs : List (Standing View)) → AreImages ks xs → AreImages (others ks s) (others xs s)
same_others s [] [] are = tt
same_others s (k ∷ ks) (x ∷ xs) are = one_left k x (others ks s) (others xs s) (eqb k.number s) (eqb x.number s) (ap (λ n. eqb n s) are.0) are.0 are.1 (same_others s ks xs are.2)
same_others s [] (x ∷ xs) are = absurd are
same_others s (k ∷ ks) [] are = absurd are

pub images_ended : (kept : Snapshots Kept) (images : Snapshots View) (s : ℕ) → AreImagesOf kept images → AreImagesOf (ended kept s) (ended images s)
images_ended kept images s are = (are.0, same_others s kept.standing images.standing are.1)
