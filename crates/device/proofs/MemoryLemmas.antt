-- Bytes that are cut into blocks.
use Rattle.std.proofs.Common.{◌≡◌, ◌<◌, ◌≤◌, ◌+◌, ◌*◌, ℕ, List, [], ◌∷◌, ◌++◌, length, take, drop, get_or, All, sym, ap, ap₂, ◌∙◌, subst, arith, append-nil, length-append, take-add, length-take-le, length-drop, inl, inr}
use Rattle.std.specs.List.{flat_map}
use Rattle.std.proofs.lemmas.Grind.{flat_map-append}
use Rattle.std.proofs.lemmas.List.Elements.{All-append, All-nil, All-cons}
use Rattle.std.proofs.lemmas.List.{get_or-take, get_or-drop, get_or_past}
use Rattle.std.proofs.lemmas.Bool.{cases_lt}
use Rattle.model.specs.Image.{IsBlock}
use Rattle.model.proofs.ImageLemmas.{is_block}

-- the first i blocks of the bytes
pub record IsCut (bytes : List ℕ) (blocks : List (List ℕ)) (i : ℕ) : Type 0 where
  pub cut : flat_map (λ block. block) blocks ≡ take (1024 * i) bytes
  pub whole : All IsBlock blocks
  pub count : length blocks ≡ i

one_block : (block : List ℕ) → flat_map (λ b. b) (block ∷ []) ≡ block
one_block block = append-nil block

-- one block more
pub cut_more : (bytes : List ℕ) (old new : List (List ℕ)) (i : ℕ) (block : List ℕ) → IsCut bytes old i → IsBlock block
    → block ≡ take 1024 (drop (1024 * i) bytes) → new ≡ old ++ block ∷ [] → IsCut bytes new (i + 1)
cut_more bytes old new i block cut whole is added = record {
  cut = ap (flat_map (λ b. b)) added ∙ flat_map-append (λ b. b) old (block ∷ []) ∙ ap₂ (λ x y. x ++ y) cut.cut (one_block block ∙ is)
      ∙ sym (take-add (1024 * i) 1024 bytes) ∙ ap (λ n. take n bytes) (let e : 1024 * i + 1024 ≡ 1024 * (i + 1) = omega arith in e);
  whole = subst (All IsBlock) (sym added) (All-append IsBlock old (block ∷ []) cut.whole (All-cons IsBlock block [] whole (All-nil IsBlock)));
  count = ap length added ∙ omega (arith, length-append old (block ∷ []), cut.count);
}

-- 1,024 of the bytes are a block
pub part_is_block : (bytes : List ℕ) (i : ℕ) → 1024 * (i + 1) ≤ length bytes → ((k : ℕ) → get_or bytes k 0 < 256) → IsBlock (take 1024 (drop (1024 * i) bytes))
part_is_block bytes i long fits =
    is_block (take 1024 (drop (1024 * i) bytes)) (length-take-le 1024 (drop (1024 * i) bytes) (omega (arith, length-drop (1024 * i) bytes)))
    (λ k. small k)
  where
    small : (k : ℕ) → get_or (take 1024 (drop (1024 * i) bytes)) k 0 < 256
    small k = elim (cases_lt k 1024) [
      | inl b ↦ omega (arith, get_or-take 1024 (drop (1024 * i) bytes) k 0 b, get_or-drop (1024 * i) bytes k 0, fits (1024 * i + k))
      | inr far ↦ omega (arith, get_or_past (take 1024 (drop (1024 * i) bytes)) k 0 (omega (arith, length-take-le 1024 (drop (1024 * i) bytes) (omega (arith, length-drop (1024 * i) bytes)))))
    ]
