-- One more write, and blocks that stay whole.
use Rattle.std.proofs.Common.{◌≡◌, ℕ, List, [], ◌∷◌, ◌++◌, length, ◌<◌, ◌+◌, suc, take, get_or, refl, sym, ap, ◌∙◌, set as slice_set, All, arith}
use Rattle.std.specs.List.{AllByRecursion}
use Rattle.std.proofs.lemmas.List.{length-set}
use Rattle.std.proofs.Math.Seq.{take-suc}
use Rattle.std.proofs.lemmas.List.Elements.{All-push, All-set, recursion_from_All}
use Rattle.model.specs.Image.{IsBlock}
use Rattle.device.specs.MediaLaws.{image_after-push}
use Rattle.device.specs.Memory.{IsMemory, IsWriteTo}
use Rattle.device.specs.Writes.{Write, image_after}

pub image_after-append : (image : List (List ℕ)) (ws vs : List Write) → image_after image (ws ++ vs) ≡ image_after (image_after image ws) vs
image_after-append image [] vs = refl
image_after-append image (w ∷ ws) vs = image_after-append (slice_set image w.0 w.1) ws vs

pub length-image_after : (image : List (List ℕ)) (ws : List Write) → length (image_after image ws) ≡ length image
length-image_after image [] = refl
length-image_after image (w ∷ ws) = length-image_after (slice_set image w.0 w.1) ws ∙ length-set image w.0 w.1

-- the image after the writes up to one, and that one
image_after-take : (image : List (List ℕ)) (ws : List Write) (i : ℕ) (d : Write) → i < length ws
    → image_after image (take (i + 1) ws) ≡ slice_set (image_after image (take i ws)) (get_or ws i d).0 (get_or ws i d).1
image_after-take image ws i d low = ap (λ n. image_after image (take n ws)) (let e : i + 1 ≡ suc i = omega arith in e) ∙ ap (image_after image) (take-suc ws i d low) ∙ image_after-push image (take i ws) (get_or ws i d)

pub one_more_write : (image blocks : List (List ℕ)) (ws : List Write) (i : ℕ) (d : Write) → i < length ws → blocks ≡ image_after image (take i ws)
    → slice_set blocks (get_or ws i d).0 (get_or ws i d).1 ≡ image_after image (take (i + 1) ws)
one_more_write image blocks ws i d low before = ap (λ now. slice_set now (get_or ws i d).0 (get_or ws i d).1) before ∙ sym (image_after-take image ws i d low)

written_by_recursion : (image : List (List ℕ)) (count : ℕ) (ws : List Write) → All IsBlock image → AllByRecursion (IsWriteTo count) ws → All IsBlock (image_after image ws)
written_by_recursion image count [] whole bs = whole
written_by_recursion image count (w ∷ ws) whole bs = written_by_recursion (slice_set image w.0 w.1) count ws (All-set IsBlock image w.0 w.1 bs.0.block whole) bs.1

-- writes of blocks leave blocks
pub whole_after_writes : (image : List (List ℕ)) (count : ℕ) (ws : List Write) → All IsBlock image → All (IsWriteTo count) ws → All IsBlock (image_after image ws)
whole_after_writes image count ws whole bs = written_by_recursion image count ws whole (recursion_from_All (IsWriteTo count) ws bs)

-- a device in memory after one more write
pub memory-push : (first now : List (List ℕ)) (ws : List Write) (a : ℕ) (block : List ℕ) → IsMemory first now ws → a < length (image_after first ws) → IsBlock block
    → IsMemory first (slice_set now a block) (ws ++ (a, block) ∷ [])
memory-push first now ws a block m low is = record {
  kept = ap (λ blocks. slice_set blocks a block) m.kept ∙ sym (image_after-push first ws (a, block));
  began = m.began;
  written = All-push (IsWriteTo (length first)) ws (a, block) m.written (record { address = omega (arith, length-image_after first ws, low); block = is });
  whole = All-set IsBlock now a block is m.whole;
  few = omega (arith, m.few, length-set now a block);
}
