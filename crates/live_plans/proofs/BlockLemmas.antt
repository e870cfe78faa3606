-- The blocks of a directory, as they are kept and as users see them.
use Rattle.std.proofs.Common.{◌≡◌, ◌<◌, ◌≤◌, ◌+◌, ◌⊎◌, ℕ, List, [], ◌∷◌, ◌++◌, inl, inr, refl, sym, ap, ◌∙◌, subst, arith, IsTrue, All, Contains, Some, None, map}
use Rattle.std.proofs.lemmas.Bool.{cases_lt}
use Rattle.std.proofs.lemmas.Option.{none-some, same_Some}
use Rattle.std.proofs.lemmas.List.Elements.{All-contains_itself, All-push, All-weaker, Contains-append_left, Contains-push}
use Rattle.model.specs.Layout.{Geometry}
use Rattle.model.specs.View.{View}
use Rattle.model.specs.Shape.{most_blocks}
use Rattle.model.specs.Uses.{IsClaim, blocks_of, claim_at, is_sound_at}
use Rattle.model.proofs.Same.{same_facts}
use Rattle.model.proofs.UseLemmas.{claim_from, claim_parts}
use Rattle.model.proofs.Uses.{has_below, use_parts, used_has}
use Rattle.ordering.specs.Cuts.{Block, Cell}
use Rattle.updates.specs.declared.cell.Cell as program
use Rattle.updates.specs.Places.{IsCell}
use Rattle.updates.specs.Values.{cell}
use Rattle.frozen.specs.Kept.{Kept, KeepsMetadata, frozen_view}
use Rattle.metadata.specs.Shown.{Shows}
use Rattle.metadata.proofs.ShownLemmas.{shows_metadata}
use Rattle.plans_naming.specs.Entries.{HasBlocks}
use Rattle.courses.specs.After.{AreBlocks, IsBlockOf}

-- a position below the last that is claimed is one of the blocks
pub claimed_below : (geo : Geometry) (v : View) (d k a : ℕ) → IsClaim geo v d k a → k < most_blocks geo → k < blocks_of (v.inode d).size
claimed_below geo v d k a claim low = has_below geo (v.inode d) k low (used_has geo v d k a claim.0)

-- To these cells were added the blocks of d at the positions below n, and no others.
pub record AddsBlocks (geo : Geometry) (v : View) (d n : ℕ) (old new : List Cell) : Type 0 where
  pub kept : (c : Cell) → Contains old c → Contains new c
  pub blocks : (k b : ℕ) → k < n → IsClaim geo v d k b → Contains new (Block b)
  pub only : All (λ c. Contains old c ⊎ IsBlockOf geo v d c) new
  pub cells : All (IsCell geo) old → All (IsCell geo) new

module _ (geo : Geometry) (v : View) (d : ℕ) (old : List Cell) where
  abbrev IsThere : Cell → Type 0
  IsThere c = Contains old c ⊎ IsBlockOf geo v d c

  pub adds_none : AddsBlocks geo v d 0 old old
  adds_none = record {
    kept = λ c m. m;
    blocks = λ k b low claim. absurd (omega (arith, low));
    only = All-weaker (Contains old) IsThere (λ c m. inl m) old (All-contains_itself old);
    cells = λ all. all;
  }

  pub adds_block : (n b : ℕ) (now : List Cell) → n < most_blocks geo → claim_at geo v d n ≡ Some b → AddsBlocks geo v d n old now → AddsBlocks geo v d (n + 1) old (now ++ Block b ∷ [])
  adds_block n b now below claimed adds = record {
    kept = λ c m. Contains-append_left now (Block b ∷ []) c (adds.kept c m);
    blocks = λ k e low claim. elim (cases_lt k n) [
      | inl before ↦ Contains-append_left now (Block b ∷ []) (Block e) (adds.blocks k e before claim)
      | inr from ↦
          let at : k ≡ n = omega (arith, low, from) in
          let same : b ≡ e = same_Some b e (sym claimed ∙ ap (claim_at geo v d) (sym at) ∙ claim_from geo v d k e claim) in
          subst (λ x. Contains (now ++ Block b ∷ []) (Block x)) same (Contains-push now (Block b))
    ];
    only = All-push IsThere now (Block b) adds.only (inr (n, below, (b, claim_parts geo v d n b claimed, refl)));
    cells = λ all. All-push (IsCell geo) now (Block b) (adds.cells all) (claim_parts geo v d n b claimed).1;
  }

  pub adds_nothing : (n : ℕ) (now : List Cell) → claim_at geo v d n ≡ None → AddsBlocks geo v d n old now → AddsBlocks geo v d (n + 1) old now
  adds_nothing n now none adds = record {
    kept = adds.kept;
    blocks = λ k e low claim. elim (cases_lt k n) [
      | inl before ↦ adds.blocks k e before claim
      | inr from ↦
          let at : k ≡ n = omega (arith, low, from) in
          absurd (none-some e (sym none ∙ ap (claim_at geo v d) (sym at) ∙ claim_from geo v d k e claim))
    ];
    only = adds.only;
    cells = adds.cells;
  }

-- and these are all blocks that users see
pub has_blocks : (kept : Kept) (view : View) (d n : ℕ) (old new : List Cell) → KeepsMetadata kept → Shows kept view → (IsTrue (is_sound_at kept.geometry (frozen_view kept) d) → blocks_of ((frozen_view kept).inode d).size ≤ n)
    → AddsBlocks kept.geometry (frozen_view kept) d n old new → HasBlocks kept.geometry view d new
has_blocks kept view d n old new keeps shows many adds k b low claim =
    let same = same_facts kept.geometry (frozen_view kept) view (shows_metadata kept view keeps shows) in
    let here : IsClaim kept.geometry (frozen_view kept) d k b = (same.uses d k ∙ claim.0, claim.1) in
    let inside = claimed_below kept.geometry (frozen_view kept) d k b here low in
    let enough = many (use_parts kept.geometry (frozen_view kept) d k b here.0).sound in
    adds.blocks k b (omega (arith, inside, enough)) here

-- and blocks that users see
pub has_only : (kept : Kept) (view : View) (d n : ℕ) (old new : List Cell) → KeepsMetadata kept → Shows kept view → AddsBlocks kept.geometry (frozen_view kept) d n old new
    → All (λ c. Contains old c ⊎ IsBlockOf kept.geometry view d c) new
has_only kept view d n old new keeps shows adds =
    All-weaker (λ c. Contains old c ⊎ IsBlockOf kept.geometry (frozen_view kept) d c) (λ c. Contains old c ⊎ IsBlockOf kept.geometry view d c) there new adds.only
  where
    there : (c : Cell) → Contains old c ⊎ IsBlockOf kept.geometry (frozen_view kept) d c → Contains old c ⊎ IsBlockOf kept.geometry view d c
    there c (inl m) = inl m
    there c (inr h) =
        let same = same_facts kept.geometry (frozen_view kept) view (shows_metadata kept view keeps shows) in
        inr (h.0, h.1, (h.2.0, (sym (same.uses d h.0) ∙ h.2.1.0, h.2.1.1), h.2.2))

-- cells that were added to none are a directory's blocks
pub are_blocks : (geo : Geometry) (view : View) (d : ℕ) (none : List program.Cell) (new : List Cell) → none ≡ [] → HasBlocks geo view d new → All (λ c. Contains (map cell none) c ⊎ IsBlockOf geo view d c) new → AreBlocks geo view d new
are_blocks geo view d none new is has all = record {
  needs = has;
  only = All-weaker (λ c. Contains [] c ⊎ IsBlockOf geo view d c) (IsBlockOf geo view d) added new (subst (λ (xs : List program.Cell). All (λ c. Contains (map cell xs) c ⊎ IsBlockOf geo view d c) new) is all);
}
  where
    added : (c : Cell) → Contains [] c ⊎ IsBlockOf geo view d c → IsBlockOf geo view d c
    added c (inl m) = let below = m.1 in absurd (omega (arith, below))
    added c (inr b) = b
