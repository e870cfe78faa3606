-- A file that held zeroes before its first call, and none was made.
use Rattle.std.proofs.Common.{◌≡◌, ℕ, [], length, ap, ◌∙◌, arith}
use Rattle.std.proofs.lemmas.List.FromFn.{get_or-map-range_with_len, length-map-range_with_len}
use Rattle.model.specs.Image.{block_at}
use Rattle.layout.specs.Fresh.{zero_block}
use Rattle.device.specs.Zeroes.{AreZeroes}
use Rattle.file_device.specs.Calls.{Calls, image_now}

module _ (calls : Calls) (count : ℕ) (new : calls ≡ record { count = count; answered = []; waiting = []; failures = 0 }) where
  pub new_file_count : length (image_now (λ _. zero_block) calls) ≡ count
  new_file_count = ap (λ c. length (image_now (λ _. zero_block) c)) new ∙ length-map-range_with_len (λ _. zero_block) 0 count

  pub new_file_zeroes : AreZeroes (image_now (λ _. zero_block) calls)
  new_file_zeroes a b =
      ap (λ c. block_at (image_now (λ _. zero_block) c) a) new
      ∙ get_or-map-range_with_len (λ _. zero_block) 0 count a a [] (omega (arith, b, new_file_count, length-map-range_with_len (λ _. zero_block) 0 count)) (omega arith)
