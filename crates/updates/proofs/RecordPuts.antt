-- A record that was written over its bytes in its block.
use Rattle.std.proofs.Common.{◌≡◌, ◌<◌, ◌≤◌, ◌+◌, ◌-◌, ◌*◌, ◌⊎◌, inl, inr, ℕ, List, length, take, drop, replicate, slice_index, sym, ap, ap₂, ◌∙◌, arith}
use Rattle.model.specs.View.{Inode, IsSpare, free_inode, inode_at}
use Rattle.std.proofs.lemmas.List.{get_or-drop, get_or-take}
use Rattle.layout.specs.Fresh.{put}
use Rattle.layout.proofs.PutLemmas.{put_inside, put_apart, zeroes}
use Rattle.inode.proofs.RecordBytes.{part_put, record_here, record_there}
use Rattle.updates.specs.Alone.{ChangesRecord}
use borrow.Rule.Slice.PartMut.{put_mid, mid_of}

module _ (version place : ℕ) (low : place < 8) (block bytes : List ℕ) (size : length block ≡ 1024) (long : length bytes ≡ 128) where
  abbrev after : List ℕ
  after = put_mid (place * 128) (place * 128 + 128 - place * 128) block bytes

  after_is_put : after ≡ put (128 * place) bytes block
  after_is_put =
      ap (λ n. put_mid n (n + 128 - n) block bytes) (omega arith)
      ∙ part_put (128 * place) (128 * place + 128 - 128 * place) block bytes (long ∙ omega arith)

  fits : 128 * place + 128 ≤ length block
  fits = omega (arith, low, size)

  pub written_there : (inode : Inode) → inode_at version bytes 0 ≡ inode → inode_at version after (128 * place) ≡ inode
  written_there inode e =
      ap (λ xs. inode_at version xs (128 * place)) after_is_put ∙ record_here block bytes (128 * place) long fits version ∙ e

  pub others_stay : (k : ℕ) → (k ≡ place → ⊥) → inode_at version after (128 * k) ≡ inode_at version block (128 * k)
  others_stay k differs =
      ap (λ xs. inode_at version xs (128 * k)) after_is_put ∙ record_there version block bytes place k long fits (λ e. differs (sym e))

  before_is_cut : mid_of (place * 128) (place * 128 + 128 - place * 128) block ≡ take 128 (drop (128 * place) block)
  before_is_cut =
      let from : place * 128 ≡ 128 * place = omega arith in
      let count : place * 128 + 128 - place * 128 ≡ 128 = omega arith in
      ap₂ (λ n m. take n (drop m block)) count from

  whole : 128 * place + length bytes ≤ length block
  whole = omega (arith, fits, long)

  outside_stays : (k : ℕ) → (k < 128 * place) ⊎ (128 * place + 128 ≤ k) → slice_index after k ≡ slice_index block k
  outside_stays k (inl before) = ap (λ xs. slice_index xs k) after_is_put ∙ put_apart (128 * place) bytes block whole k (inl before)
  outside_stays k (inr behind) = ap (λ xs. slice_index xs k) after_is_put ∙ put_apart (128 * place) bytes block whole k (inr (omega (arith, long, behind)))

  zero_there : bytes ≡ replicate 128 0 → (k : ℕ) → k < 128 → slice_index after (128 * place + k) ≡ 0
  zero_there e k inside =
      ap (λ xs. slice_index xs (128 * place + k)) after_is_put
      ∙ put_inside (128 * place) bytes block whole (128 * place + k) (omega arith) (omega (arith, long, inside))
      ∙ ap (λ xs. slice_index xs (128 * place + k - 128 * place)) e
      ∙ zeroes 128 (128 * place + k - 128 * place)

  spare_stays_there : (k : ℕ) → k < 128 → slice_index bytes k ≡ slice_index (mid_of (place * 128) (place * 128 + 128 - place * 128) block) k
      → slice_index after (128 * place + k) ≡ slice_index block (128 * place + k)
  spare_stays_there k inside e =
      ap (λ xs. slice_index xs (128 * place + k)) after_is_put
      ∙ put_inside (128 * place) bytes block whole (128 * place + k) (omega arith) (omega (arith, long, inside))
      ∙ ap (slice_index bytes) (omega arith)
      ∙ e ∙ ap (λ xs. slice_index xs k) before_is_cut
      ∙ get_or-take 128 (drop (128 * place) block) k 0 inside
      ∙ get_or-drop (128 * place) block k 0

  pub record_changed : (inode : Inode) → (inode ≡ free_inode → bytes ≡ replicate 128 0)
      → ((inode ≡ free_inode → ⊥) → (k : ℕ) → IsSpare version k → slice_index bytes k ≡ slice_index (mid_of (place * 128) (place * 128 + 128 - place * 128) block) k) → ChangesRecord version block after (128 * place) inode
  record_changed inode freed kept = record {
    outside = outside_stays;
    freed = λ e k inside. zero_there (freed e) k inside;
    kept = λ other k spare. spare_stays_there k (omega (arith, spare.below)) (kept other k spare);
  }
