-- Places of an image that a path leads to, as the commands ask for them.
use Rattle.std.proofs.Common.{◌≡◌, ◌<◌, ◌≤◌, ◌/◌, ℕ, Bool, true, false, not, ◌&&◌, eqb, leb, List, ◌∷◌, inl, inr, refl, sym, ap, ◌∙◌, subst, arith, IsFalse, None, Option, eqb-true, ne_eqb, leb-false}
use Rattle.std.specs.Prelude.{unwrap_or}
use Rattle.std.proofs.lemmas.Bool.{both_ways, and_parts, and_from, or_cases, cond-true}
use Rattle.model.specs.Layout.{Geometry, is_number}
use Rattle.model.specs.View.{View}
use Rattle.model.specs.Shape.{most_blocks}
use Rattle.model.specs.Uses.{IsClaim, is_directory, is_directory_at, is_sound, blocks_of}
use Rattle.model.specs.Slots.{Slot, Absent, Empty, Good, slot}
use Rattle.model.specs.Reach.{IsReachableDirectory, IsReachable}
use Rattle.model.specs.Rules.{ObeysRules}
use Rattle.model.proofs.ReachLemmas.{reachable_sound}
use Rattle.model.proofs.SlotLemmas.{HasContent, slot_content}
use Rattle.model.proofs.UseLemmas.{claim_parts}
use Rattle.ordering.specs.Cuts.{Cell}
use Rattle.layout.specs.declared.refusal.Refusal.{Refusal}
use Rattle.layout.specs.declared.refusal.Refusal.TheVariants.{TooBig}
use Rattle.machine.specs.State.{State}
use Rattle.machine.specs.Paths.{holder, name_in, number_at, slot_at}
use Rattle.machine.specs.Room.{IsFreeBlock, has_room}
use Rattle.machine.specs.Cells.{block_of}
use Rattle.machine.specs.Causes.{only, full}
use Rattle.machine.specs.Balance.{Balance}
use Rattle.machine.specs.Whole.{HasWholeBlocks}
use Rattle.machine.proofs.Behind.{behind_dots}
use Rattle.machine.proofs.Decisions.{sound_parts}
use Rattle.machine.proofs.Holders.{IsNewPlace}
use Rattle.machine.proofs.Renaming.{IsPlace}
use Rattle.machine.proofs.Walks.{when_none}
use Rattle.plans_data.specs.Append.{Holder, IsWhole, IsKeptIn, AreApart, new_blocks}
use Rattle.plans_naming.specs.Entries.{StandsAt, TakesName, HasBlocks, UnmarkedAreNotHeld}
use Rattle.plans_naming.specs.Grow.{CanEnterGrown}

pub held_are_marked : (geo : Geometry) (old : State) → Balance geo old → UnmarkedAreNotHeld old.view old.held
held_are_marked geo old b a f = by (old.held a) refl
  where
    by : (t : Bool) → old.held a ≡ t → old.held a ≡ false
    by true e = absurd (both_ways (old.view.block_marked a) f (b.held_block a e).1)
    by false e = e

-- the block that a slot stands in is the one that its directory claims
pub content_block : (geo : Geometry) (v : View) (d s : ℕ) (what : Slot) (at : HasContent geo v d s what) → at.block ≡ block_of geo v d (s / 16)
content_block geo v d s what at = sym (ap (λ o. unwrap_or o 0) at.claimed)

pub content_claim : (geo : Geometry) (v : View) (d s : ℕ) (what : Slot) → HasContent geo v d s what → IsClaim geo v d (s / 16) (block_of geo v d (s / 16))
content_claim geo v d s what at = subst (λ c. IsClaim geo v d (s / 16) c) (content_block geo v d s what at) (claim_parts geo v d (s / 16) at.block at.claimed)

module _ (geo : Geometry) (v : View) (blocks : HasWholeBlocks geo v) where
  -- a slot that is there stands in the block that its directory claims for it
  pub stands_at : (d s : ℕ) (what : Slot) → IsReachableDirectory geo v d → 2 ≤ s → (Absent ≡ what → ⊥) → slot geo v d s ≡ what → StandsAt geo v d s (block_of geo v d (s / 16)) what
  stands_at d s what r low there e =
      let at = slot_content geo v d s what there e in
      let claim = claim_parts geo v d (s / 16) at.block at.claimed in
      let is : at.block ≡ block_of geo v d (s / 16) = content_block geo v d s what at in
      subst (λ k. StandsAt geo v d s k what) is (record {
        reachable = r;
        after_dots = low;
        below = omega (arith, at.below);
        claim = claim;
        whole = (blocks at.block claim.1).length;
        holds = e;
      })

  pub empty_at : (rules : ObeysRules geo v) (d s : ℕ) → IsReachableDirectory geo v d → slot geo v d s ≡ Empty → StandsAt geo v d s (block_of geo v d (s / 16)) Empty
  empty_at rules d s r e = stands_at d s Empty r (behind_dots geo v rules d s r e) (λ q. cc) e

  pub good_at : (p : List ℕ) → IsPlace geo v p → StandsAt geo v (holder geo v p) (slot_at geo v p) (block_of geo v (holder geo v p) (slot_at geo v p / 16)) (Good (number_at geo v p) (name_in p))
  good_at p at = stands_at (holder geo v p) (slot_at geo v p) (Good (number_at geo v p) (name_in p)) at.entry.reachable at.entry.after_dots (λ q. cc) at.good

pub file_mode : (geo : Geometry) (v : View) (i : ℕ) → IsReachable geo v i → IsFalse (is_directory_at geo v i) → (v.inode i).mode ≡ 1
file_mode geo v i r f =
    let p = sound_parts geo v i (reachable_sound geo v i r) in
    let x = v.inode i in
    elim (or_cases (eqb x.mode 1) _ (and_parts _ (leb (blocks_of x.size) (most_blocks geo)) p.1).0) [
      | inl one ↦ eqb-true x.mode 1 one
      | inr dir ↦ absurd (both_ways (is_directory_at geo v i) f (and_from (is_number geo i && is_sound geo x) (is_directory x) (and_from (is_number geo i) (is_sound geo x) p.0 p.1) (and_parts (is_directory x) _ (and_parts _ _ dir).0).0))
    ]

pub takes : (geo : Geometry) (v : View) (p : List ℕ) → IsNewPlace geo v p → TakesName geo v (holder geo v p) (name_in p)
takes geo v p at = record { part = at.part; new = at.new }

-- the directory that is to get a block
pub enters_grown : (geo : Geometry) (v : View) (p : List ℕ) (b : ℕ) (kept : Holder) (s : ℕ) (after : List Cell) → IsNewPlace geo v p → full geo v (holder geo v p) ≡ None → IsWhole geo v
    → IsFalse (has_room geo v (holder geo v p)) → IsFreeBlock geo v b → IsKeptIn geo v (holder geo v p) (blocks_of (v.inode (holder geo v p)).size) b kept → AreApart (b ∷ new_blocks kept) → s / 16 ≡ blocks_of (v.inode (holder geo v p)).size
    → HasBlocks geo v (holder geo v p) after → CanEnterGrown geo v (holder geo v p) b kept s (name_in p) after
enters_grown geo v p b kept s after at not_full whole no_room free keeps news stands first = record {
  reachable = at.reachable;
  takes = takes geo v p at;
  grow = record { whole = whole; full = no_room; room = room; free = free; kept = keeps; apart = news };
  stands = stands;
  blocks_first = first;
}
  where
    d : ℕ
    d = holder geo v p

    room : blocks_of (v.inode d).size < most_blocks geo
    room = by (leb (most_blocks geo) (blocks_of (v.inode d).size)) refl
      where
        by : (t : Bool) → leb (most_blocks geo) (blocks_of (v.inode d).size) ≡ t → blocks_of (v.inode d).size < most_blocks geo
        by false e = leb-false (most_blocks geo) (blocks_of (v.inode d).size) e
        by true e = absurd (both_ways (not (has_room geo v d) && leb (most_blocks geo) (blocks_of (v.inode d).size)) (when_none (not (has_room geo v d) && leb (most_blocks geo) (blocks_of (v.inode d).size)) TooBig not_full)
            (and_from (not (has_room geo v d)) (leb (most_blocks geo) (blocks_of (v.inode d).size)) (ap not no_room) e))

-- between directories each cause matters
pub across_none : (d e : ℕ) (cause : Option Refusal) → (d ≡ e → ⊥) → only (not (eqb d e)) cause ≡ None → cause ≡ None
across_none d e cause apart h = sym (cond-true (not (eqb d e)) cause None (ap not (ne_eqb d e apart))) ∙ h
