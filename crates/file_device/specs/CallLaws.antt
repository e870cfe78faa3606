-- What a device over a file answers: what its laws cite.
use Rattle.std.specs.Prelude.{◌≡◌, ℕ, suc, Bool, true, false, List, [], ◌∷◌, ◌++◌, length, slice_set}
use Rattle.std.proofs.Common.{refl, sym, ap, ap₂, ◌∙◌, arith}
use Rattle.std.proofs.lemmas.List.FromFn.{length-map-range_with_len}
use Rattle.device.specs.Media.{begun, image_of as answered_image, steps_of, writes_in}
use Rattle.device.specs.MediaLaws.{image_of-held_after, writes_in-steps_of}
use Rattle.device.specs.Writes.{image_after}
use Rattle.device.proofs.MediaLemmas.{writes_in-append}
use Rattle.file_device.specs.declared.file.Call.{Call}
use Rattle.file_device.specs.declared.file.Call.TheVariants.{ReadBlock, WriteBlock, Sync, Refuse}
use Rattle.file_device.specs.Calls.{Answered, Calls, all_steps, all_writes, held_so_far, image_now, image_of, opened, refused_by, step_of, steps_in, write_of, writes_from, writes_of}

-- the writes among the steps of calls
one_write : (call : Call) (block : List ℕ) (refused : Bool) → writes_in (step_of call block refused) ≡ write_of call block
one_write (ReadBlock a) block refused = refl
one_write (WriteBlock a) block refused = refl
one_write Sync block true = refl
one_write Sync block false = refl
one_write Refuse block refused = refl

pub writes_in-steps_in : (refused : Bool) (es : List Answered) → writes_in (steps_in refused es) ≡ writes_of es
writes_in-steps_in refused [] = refl
writes_in-steps_in refused (e ∷ es) =
    writes_in-append (step_of e.0 e.1 refused) (steps_in (refused_by e.0 refused) es)
    ∙ ap₂ (λ vs ws. vs ++ ws) (one_write e.0 e.1 refused) (writes_in-steps_in (refused_by e.0 refused) es)

pub writes_in-all_steps : (calls : Calls) → writes_in (all_steps calls) ≡ all_writes calls
writes_in-all_steps calls =
    writes_in-append (steps_in false calls.answered) (steps_of calls.waiting) ∙ ap₂ (λ vs ws. vs ++ ws) (writes_in-steps_in false calls.answered) (writes_in-steps_of calls.waiting)

-- blocks that are written over all blocks
behind_first : (a : ℕ) (block : List ℕ) (image blocks : List (List ℕ)) → image_after (block ∷ image) (writes_from (suc a) blocks) ≡ block ∷ image_after image (writes_from a blocks)
behind_first a block image [] = refl
behind_first a block image (x ∷ xs) = behind_first (suc a) block (slice_set image a x) xs

pub all_written_over : (image blocks : List (List ℕ)) → length image ≡ length blocks → image_after image (writes_from 0 blocks) ≡ blocks
all_written_over [] [] same = refl
all_written_over [] (x ∷ xs) same = absurd (omega (arith, same))
all_written_over (y ∷ image) [] same = absurd (omega (arith, same))
all_written_over (y ∷ image) (x ∷ xs) same = behind_first 0 x image xs ∙ ap (λ blocks. x ∷ blocks) (all_written_over image xs (omega (arith, same)))

pub opened_image : (first below : ℕ → List ℕ) (count : ℕ) → answered_image (opened first below count) ≡ image_of first count
opened_image first below count = all_written_over (image_of below count) (image_of first count) (length-map-range_with_len below 0 count ∙ sym (length-map-range_with_len first 0 count))

pub file_answers : (first below : ℕ → List ℕ) (calls : Calls) → image_now first calls ≡ answered_image (held_so_far first below calls).now
file_answers first below calls =
    sym (image_of-held_after false (begun (opened first below calls.count)) (all_steps calls)
    ∙ ap₂ (λ image ws. image_after image ws) (opened_image first below calls.count) (writes_in-all_steps calls))
