-- What a power cut leaves of a medium, block by block, and a moment of a volume on it.
use Rattle.std.proofs.Common.{◌≡◌, ℕ, ◌<◌, Bool, true, false, if◌then◌else◌, eqb, List, [], ◌∷◌, ◌++◌, inl, inr, refl, sym, ap, ◌∙◌, subst, length, map, get_or, arith, eq-eqb, ne_eqb, slice_set, get_or-set_same, get_or-set_other, append-nil}
use Rattle.std.proofs.lemmas.Bool.{cases_Bool, cases_eq, cond-true, cond-false}
use mathlib.Core.Path.{fun_ext}
use Rattle.model.specs.Layout.{Geometry}
use Rattle.model.specs.View.{View, view_of}
use Rattle.model.specs.Cells.{put_at}
use Rattle.model.specs.Image.{block_at, image_view}
use Rattle.ordering.specs.Ghosts.{Ghost}
use Rattle.queue_model.specs.Files.{Written}
use Rattle.device.specs.Media.{Medium, MayBeLeft, cached, chosen, image_of, settled}
use Rattle.device.specs.MediaLaws.{image_after-push}
use Rattle.device.specs.Writes.{Write, image_after}
use Rattle.device.proofs.MediaLemmas.{chosen-push}
use Rattle.device.proofs.WriteLemmas.{length-image_after}
use Rattle.power_cut.specs.Epochs.{Put, all_behind, blocks_with}
use Rattle.power_cut.specs.Standing.{AreWithin, StandsOn, writes_of}
use Rattle.power_cut.specs.Volumes.{IsSafelyLeft, IsSound, Moment, adds, left, syncs, writes}
use Rattle.power_cut.proofs.VolumeLemmas.{cut_safe}

-- ---- writes that are chosen

abbrev all_of : {X : Type 0} → List X → List Bool
all_of xs = map (λ _. true) xs

chosen_all : {X : Type 0} (xs : List X) → chosen xs (all_of xs) ≡ xs
chosen_all [] = refl
chosen_all (x ∷ xs) = ap (λ ys. x ∷ ys) (chosen_all xs)

-- without one more
chosen_before : {X : Type 0} (xs : List X) (x : X) (picks : List Bool) → (more : List Bool) × (chosen (xs ++ x ∷ []) more ≡ chosen xs picks)
chosen_before [] x picks = ([], refl)
chosen_before (y ∷ xs) x [] = ([], refl)
chosen_before (y ∷ xs) x (true ∷ picks) = let r = chosen_before xs x picks in (true ∷ r.0, ap (λ ys. y ∷ ys) r.1)
chosen_before (y ∷ xs) x (false ∷ picks) = let r = chosen_before xs x picks in (false ∷ r.0, r.1)

-- of puts, which stand the other way round
chosen_puts : (ps : List Put) (picks : List Bool) → (more : List Bool) × (chosen (writes_of ps) picks ≡ writes_of (chosen ps more))
chosen_puts [] picks = ([], refl)
chosen_puts (p ∷ ps) picks =
    let r = chosen_puts ps picks in
    let w : Write = (p.address, p.bytes) in
    let last = get_or picks (length (writes_of ps)) false in
    let split = chosen-push (writes_of ps) w picks ∙ ap (λ ws. ws ++ (if last then w ∷ [] else [])) r.1 in
    elim (cases_Bool last) [
      | inl t ↦ (true ∷ r.0, split ∙ ap (λ b. writes_of (chosen ps r.0) ++ (if b then w ∷ [] else [])) t)
      | inr f ↦ (false ∷ r.0, split ∙ ap (λ b. writes_of (chosen ps r.0) ++ (if b then w ∷ [] else [])) f ∙ append-nil (writes_of (chosen ps r.0)))
    ]

within_chosen : (n : ℕ) (ps : List Put) (picks : List Bool) → AreWithin n ps → AreWithin n (chosen ps picks)
within_chosen n [] picks w = tt
within_chosen n (p ∷ ps) [] w = tt
within_chosen n (p ∷ ps) (true ∷ picks) w = (w.0, within_chosen n ps picks w.1)
within_chosen n (p ∷ ps) (false ∷ picks) w = within_chosen n ps picks w.1

-- ---- what a medium may leave

pub settled_leaves : (m : Medium) (image : List (List ℕ)) → MayBeLeft (settled m) image → MayBeLeft m image
settled_leaves m image may = (all_of m.loose, may.1 ∙ ap (image_after m.durable) (sym (chosen_all m.loose)))

pub earlier_leaves : (m : Medium) (a : ℕ) (block : List ℕ) (image : List (List ℕ)) → MayBeLeft m image → MayBeLeft (cached m a block) image
earlier_leaves m a block image may = let r = chosen_before m.loose (a, block) may.0 in (r.0, may.1 ∙ ap (image_after m.durable) (sym r.1))

pub answered_leaves : (m : Medium) → MayBeLeft m (image_of m)
answered_leaves m = (all_of m.loose, ap (image_after m.durable) (sym (chosen_all m.loose)))

pub in_order_leaves : (m : Medium) (image : List (List ℕ)) → m.loose ≡ [] → MayBeLeft m image → image ≡ image_of m
in_order_leaves m image none may = may.1 ∙ ap (λ ws. image_after m.durable (chosen ws may.0)) none ∙ ap (image_after m.durable) (sym none)

-- ---- blocks

block_written : (image : List (List ℕ)) (a : ℕ) (block : List ℕ) → a < length image → block_at (slice_set image a block) ≡ put_at (block_at image) a block
block_written image a block low = fun_ext (λ k. elim (cases_eq k a) [
  | inl d ↦ ap (block_at (slice_set image a block)) d ∙ get_or-set_same image a block [] low ∙ sym (cond-true (eqb k a) block (block_at image k) (eq-eqb k a d))
  | inr d ↦ get_or-set_other image a k block [] d ∙ sym (cond-false (eqb k a) block (block_at image k) (ne_eqb k a d))
])

blocks_after : (image : List (List ℕ)) (ps : List Put) → AreWithin (length image) ps → block_at (image_after image (writes_of ps)) ≡ blocks_with (block_at image) ps
blocks_after image [] w = refl
blocks_after image (p ∷ ps) w =
    let low = w.0 in
    let count = length-image_after image (writes_of ps) in
    ap block_at (image_after-push image (writes_of ps) (p.address, p.bytes))
    ∙ block_written (image_after image (writes_of ps)) p.address p.bytes (omega (arith, low, count))
    ∙ ap (λ f. put_at f p.address p.bytes) (blocks_after image ps w.1)

-- ---- a moment on a medium

behind_writes : (ps : List Put) → writes_of (all_behind ps) ≡ writes_of ps
behind_writes [] = refl
behind_writes (p ∷ ps) = ap (λ ws. ws ++ (p.address, p.bytes) ∷ []) (behind_writes ps)

behind_within : (n : ℕ) (ps : List Put) → AreWithin n ps → AreWithin n (all_behind ps)
behind_within n [] w = tt
behind_within n (p ∷ ps) w = (w.0, behind_within n ps w.1)

pub stands_issued : (m : Medium) (n : Moment) (w : Written) (next : Ghost) → StandsOn m n → StandsOn m (adds w next n)
stands_issued m n w next s = record { durable = s.durable; loose = s.loose ∙ sym (behind_writes n.loose); within = behind_within (length m.durable) n.loose s.within }

pub stands_written : (geo : Geometry) (m : Medium) (n : Moment) (a : ℕ) (bytes : List ℕ) → a < length m.durable → StandsOn m n → StandsOn (cached m a bytes) (writes geo a bytes n)
stands_written geo m n a bytes low s = record { durable = s.durable; loose = ap (λ ws. ws ++ (a, bytes) ∷ []) s.loose; within = (low, s.within) }

pub stands_synced : (m : Medium) (n : Moment) → StandsOn m n → StandsOn (settled m) (syncs n)
stands_synced m n s = record {
  durable = ap (λ ws. block_at (image_after m.durable ws)) s.loose ∙ blocks_after m.durable n.loose s.within ∙ ap (λ f. blocks_with f n.loose) s.durable;
  loose = refl;
  within = tt;
}

-- ---- what is left of it

pub left_of_medium : (geo : Geometry) (m : Medium) (n : Moment) (image : List (List ℕ)) → StandsOn m n → MayBeLeft m image → (picks : List Bool) × (image_view geo image ≡ view_of geo (left n picks))
left_of_medium geo m n image s may =
    let r = chosen_puts n.loose may.0 in (
      r.0,
      ap (image_view geo) (may.1 ∙ ap (λ ws. image_after m.durable (chosen ws may.0)) s.loose ∙ ap (image_after m.durable) r.1)
          ∙ ap (view_of geo) (blocks_after m.durable (chosen n.loose r.0) (within_chosen (length m.durable) n.loose r.0 s.within) ∙ ap (λ f. blocks_with f (chosen n.loose r.0)) s.durable),
    )

pub safely_left : (geo : Geometry) (mounted : View) (m : Medium) (n : Moment) (image : List (List ℕ)) → IsSound geo mounted n → StandsOn m n → MayBeLeft m image → IsSafelyLeft geo mounted n (image_view geo image)
safely_left geo mounted m n image sound s may =
    let r = left_of_medium geo m n image s may in subst (IsSafelyLeft geo mounted n) (sym r.1) (cut_safe geo mounted n sound r.0)
