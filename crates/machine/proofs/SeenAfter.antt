-- What is seen after one block of one file has got other bytes.
use Rattle.std.proofs.Common.{◌≡◌, ◌<◌, ◌≤◌, ◌+◌, ◌-◌, ◌*◌, ◌/◌, ℕ, max, min, List, length, take, drop, ◌++◌, ◌⊎◌, inl, inr, sym, ap, ap₂, ◌∙◌, arith, IsTrue}
use Rattle.std.specs.Prelude.{unwrap_or}
use Rattle.std.proofs.lemmas.Bool.{cases_lt}
use Rattle.std.proofs.lemmas.List.{length-take, length-drop, length-append, take_all}
use Rattle.model.specs.Layout.{Geometry}
use Rattle.model.specs.View.{View, Inode}
use Rattle.model.specs.Shape.{most_blocks}
use Rattle.model.specs.Uses.{is_sound_at, use_at, blocks_of, IsUse, IsClaim}
use Rattle.model.specs.Rules.{ObeysRules}
use Rattle.model.proofs.UseLemmas.{claim_from}
use Rattle.model.proofs.Uses.{sound_few}
use Rattle.machine.specs.Cells.{seen, block_of}
use Rattle.machine.specs.Whole.{HasWholeBlocks}
use Rattle.machine.specs.Effects.{IsOverwritten}
use Rattle.machine.proofs.Decisions.{sound_parts}
use Rattle.machine.proofs.Reading.{claimed}
use Rattle.machine.proofs.SameFiles.{SameFile}

-- w is v, but block k of file i has these bytes, and the file this size
pub record OneBlock (geo : Geometry) (v w : View) (i k size : ℕ) (bytes : List ℕ) : Type 0 where
  pub there : (j : ℕ) → (j ≡ i → ⊥) → w.inode j ≡ v.inode j
  pub sized : (w.inode i).size ≡ size
  pub own_use : (q a : ℕ) → (q ≡ k → ⊥) → IsUse geo v i q a → IsUse geo w i q a
  pub own_bytes : (q a : ℕ) → (q ≡ k → ⊥) → q < most_blocks geo → IsClaim geo v i q a → w.bytes a ≡ v.bytes a
  pub other_use : (j q : ℕ) → (j ≡ i → ⊥) → use_at geo w j q ≡ use_at geo v j q
  pub other_bytes : (j q a : ℕ) → (j ≡ i → ⊥) → IsClaim geo v j q a → w.bytes a ≡ v.bytes a
  pub none : w.bytes 0 ≡ v.bytes 0
  pub block : ℕ
  pub placed : IsClaim geo w i k block
  pub stored : w.bytes block ≡ bytes

-- two takes of a whole block that both reach its end
take_whole : (m n : ℕ) (xs : List ℕ) → length xs ≡ 1024 → 1024 ≤ m → 1024 ≤ n → take m xs ≡ take n xs
take_whole m n xs e f g = take_all m xs (omega (arith, e, f)) ∙ sym (take_all n xs (omega (arith, e, g)))

module _ (geo : Geometry) (v w : View) (i k size : ℕ) (bytes : List ℕ) (s : OneBlock geo v w i k size bytes) where
  -- ---- the other inodes

  pub other_file : (j : ℕ) → (j ≡ i → ⊥) → SameFile geo v w j
  other_file j d = record {
    mode = ap (λ (r : Inode). r.mode) (sym (s.there j d));
    size = ap (λ (r : Inode). r.size) (sym (s.there j d));
    uses = λ q. sym (s.other_use j q d);
    bytes = λ q a c. sym (s.other_bytes j q a d c);
    none = sym s.none;
  }

  -- ---- the file

  module _ (o : ObeysRules geo v) (whole : HasWholeBlocks geo v) (sound : IsTrue (is_sound_at geo v i)) (n : ℕ) (some : 1 ≤ n) (short : n ≤ 1024) (reaches : k ≤ (v.inode i).size / 1024) (grows : size ≡ max (v.inode i).size (1024 * k + n)) where
    abbrev before : ℕ
    before = (v.inode i).size

    resized : (q : ℕ) → seen geo w i q ≡ take (size - 1024 * q) (w.bytes (block_of geo w i q))
    resized q = ap (λ m. take (m - 1024 * q) (w.bytes (block_of geo w i q))) s.sized

    beyond : (q : ℕ) → (q ≡ k → ⊥) → blocks_of before ≤ q → seen geo w i q ≡ seen geo v i q
    beyond q d past =
        resized q ∙ ap (λ m. take m (w.bytes (block_of geo w i q))) zero_now ∙ sym (ap (λ m. take m (v.bytes (block_of geo v i q))) zero_before)
      where
        zero_before : before - 1024 * q ≡ 0
        zero_before = omega (arith, past)

        later : k < q
        later = omega (arith, past, reaches, d)

        zero_now : size - 1024 * q ≡ 0
        zero_now = elim (cases_lt before (1024 * k + n)) [
          | inl less ↦ (let m : max before (1024 * k + n) ≡ 1024 * k + n = omega (arith, less) in omega (arith, m, grows, later, short))
          | inr more ↦ (let m : max before (1024 * k + n) ≡ before = omega (arith, more) in omega (arith, m, grows, zero_before))
        ]

    inside : (q : ℕ) → (q ≡ k → ⊥) → q < blocks_of before → seen geo w i q ≡ seen geo v i q
    inside q d low =
        resized q ∙ ap (λ b. take (size - 1024 * q) (w.bytes b)) now ∙ ap (λ xs. take (size - 1024 * q) xs) same ∙ lengths (cases_lt q k) ∙ sym (ap (λ b. take (before - 1024 * q) (v.bytes b)) was)
      where
        a : ℕ
        a = (claimed geo v o whole i q sound low).0

        c : IsClaim geo v i q a
        c = (claimed geo v o whole i q sound low).1

        was : block_of geo v i q ≡ a
        was = ap (λ p. unwrap_or p 0) (claim_from geo v i q a c)

        now : block_of geo w i q ≡ a
        now = ap (λ p. unwrap_or p 0) (claim_from geo w i q a (s.own_use q a d c.0, c.1))

        few : blocks_of before ≤ most_blocks geo
        few = sound_few geo (v.inode i) (sound_parts geo v i sound).1

        same : w.bytes a ≡ v.bytes a
        same = s.own_bytes q a d (omega (arith, few, low)) c

        lengths : (q < k) ⊎ (k ≤ q) → take (size - 1024 * q) (v.bytes a) ≡ take (before - 1024 * q) (v.bytes a)
        lengths (inl less) = take_whole (size - 1024 * q) (before - 1024 * q) (v.bytes a) (whole a c.1).length (omega (arith, full, long)) full
          where
            full : 1024 ≤ before - 1024 * q
            full = omega (arith, less, reaches)

            long : before ≤ size
            long = elim (cases_lt before (1024 * k + n)) [
              | inl shorter ↦ (let m : max before (1024 * k + n) ≡ 1024 * k + n = omega (arith, shorter) in omega (arith, m, grows, shorter))
              | inr longer ↦ (let m : max before (1024 * k + n) ≡ before = omega (arith, longer) in omega (arith, m, grows))
            ]
        lengths (inr more) = ap (λ m. take (m - 1024 * q) (v.bytes a)) (grows ∙ longer)
          where
            later : k < q
            later = omega (arith, more, d)

            longer : max before (1024 * k + n) ≡ before
            longer = omega (arith, later, short, low)

    pub own_seen : (q : ℕ) → (q ≡ k → ⊥) → seen geo w i q ≡ seen geo v i q
    own_seen q d = elim (cases_lt q (blocks_of before)) [ inl low ↦ inside q d low | inr past ↦ beyond q d past ]

    -- ---- the block itself

    module _ (piece : List ℕ) (measure : n ≡ length piece) (over : IsOverwritten piece (seen geo v i k) bytes) where
      abbrev target : List ℕ
      target = piece ++ drop (length piece) (seen geo v i k)

      seen_before : length (seen geo v i k) ≡ min (before - 1024 * k) 1024
      seen_before = elim (cases_lt k (blocks_of before)) [
        | inl low ↦
            let c = claimed geo v o whole i k sound low in
            length-take (before - 1024 * k) (v.bytes (block_of geo v i k))
            ∙ ap (λ m. min (before - 1024 * k) m) (ap (λ b. length (v.bytes (unwrap_or b 0))) (claim_from geo v i k c.0 c.1) ∙ (whole c.0 c.1.1).length)
        | inr past ↦
            let z : before - 1024 * k ≡ 0 = omega (arith, past) in
            ap (λ m. length (take m (v.bytes (block_of geo v i k)))) z ∙ sym (ap (λ m. min m 1024) z)
      ]

      target_length : length target ≡ n + (min (before - 1024 * k) 1024 - n)
      target_length = length-append piece (drop (length piece) (seen geo v i k))
          ∙ ap₂ (λ x y. x + y) (sym measure) (length-drop (length piece) (seen geo v i k) ∙ ap₂ (λ x y. x - y) seen_before (sym measure))

      shown : (length target ≡ size - 1024 * k) ⊎ ((1024 ≤ size - 1024 * k) × (length target ≡ 1024))
      shown = elim (cases_lt before (1024 * k + n)) [
        | inl less ↦
            let m : max before (1024 * k + n) ≡ 1024 * k + n = omega (arith, less) in
            let p : min (before - 1024 * k) 1024 ≡ before - 1024 * k = omega (arith, less, short) in
            inl (omega (arith, m, grows, target_length, p, less))
        | inr more ↦
            let m : max before (1024 * k + n) ≡ before = omega (arith, more) in
            elim (cases_lt (before - 1024 * k) 1024) [
              | inl low ↦ (let p : min (before - 1024 * k) 1024 ≡ before - 1024 * k = omega (arith, low) in inl (omega (arith, m, grows, target_length, p, more)))
              | inr high ↦ (let p : min (before - 1024 * k) 1024 ≡ 1024 = omega (arith, high) in inr (omega (arith, m, grows, high), omega (arith, target_length, p, short)))
            ]
      ]

      taken : take (size - 1024 * k) bytes ≡ target
      taken = elim shown [
        | inl e ↦ sym (ap (λ m. take m bytes) e) ∙ over.begins
        | inr h ↦ take_all (size - 1024 * k) bytes (omega (arith, over.whole.length, h.0)) ∙ sym (take_all (length target) bytes (omega (arith, over.whole.length, h.1))) ∙ over.begins
      ]

      pub block_seen : seen geo w i k ≡ piece ++ drop (length piece) (seen geo v i k)
      block_seen =
          resized k ∙ ap (λ b. take (size - 1024 * k) (w.bytes (unwrap_or b 0))) (claim_from geo w i k s.block s.placed)
          ∙ ap (λ xs. take (size - 1024 * k) xs) s.stored ∙ taken
