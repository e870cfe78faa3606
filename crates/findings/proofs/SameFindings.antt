-- Two views with the same metadata have the same findings.
use Rattle.std.proofs.Common.{◌≡◌, ℕ, ◌||◌, inl, inr, ◌↔◌, refl, sym, ap, ◌∙◌, IsTrue}
use Rattle.findings.specs.declared.finding.Finding.{Finding}
use Rattle.findings.specs.declared.finding.Finding.TheVariants.{BadInode, BadPointer, Duplicate, RootBad, BadSlot, DupName, BadDot, BadDotDot, ToUnsound, ExtraName, LostInode, CountHigh, CountLow, LostBlock, UnmarkedBlock, LostNumber, UnmarkedInode}
use Rattle.findings.specs.Findings.{IsFinding, is_of_blocks, is_of_maps}
use Rattle.model.specs.Layout.{Geometry, is_data_address, is_number, root}
use Rattle.model.specs.View.{View, Inode}
use Rattle.model.specs.Uses.{is_sound, use_at, IsClaim, IsClaimed}
use Rattle.model.specs.Metadata.{SameMetadata}
use Rattle.model.proofs.Same.{SameFacts, same_facts, other_way, reached_there, names_there, parent_there, entry_there, entry_number, directory_there, sound_there, reachable_there, reachable_number, has_entries_there}

-- what the findings of records, uses and maps look at, both ways the same
pub record SameUses (geo : Geometry) (v w : View) : Type 0 where
  pub inode : (i : ℕ) → IsTrue (is_number geo i) → v.inode i ≡ w.inode i
  pub number_marked : (i : ℕ) → IsTrue (is_number geo i) → v.number_marked i ≡ w.number_marked i
  pub block_marked : (a : ℕ) → IsTrue (is_data_address geo a) → v.block_marked a ≡ w.block_marked a
  pub uses : (i k : ℕ) → use_at geo v i k ≡ use_at geo w i k

uses_back : {geo : Geometry} {v w : View} → SameUses geo v w → SameUses geo w v
uses_back h = record {
  inode = λ i n. sym (h.inode i n);
  number_marked = λ i n. sym (h.number_marked i n);
  block_marked = λ a n. sym (h.block_marked a n);
  uses = λ i k. sym (h.uses i k);
}

module _ (geo : Geometry) (v w : View) (h : SameUses geo v w) where
  claim_of : (i k a : ℕ) → IsClaim geo v i k a → IsClaim geo w i k a
  claim_of i k a c = (sym (h.uses i k) ∙ c.0, c.1)

  claimed_of : (a : ℕ) → IsClaimed geo v a → IsClaimed geo w a
  claimed_of a c = (c.0, c.1, claim_of c.0 c.1 a c.2)

  mode_of : (i : ℕ) → IsTrue (is_number geo i) → (w.inode i).mode ≡ (v.inode i).mode
  mode_of i n = ap (λ (r : Inode). r.mode) (sym (h.inode i n))

used_there : (geo : Geometry) (v w : View) (h : SameUses geo v w) (f : Finding) → IsTrue (is_of_blocks f || is_of_maps f) → IsFinding geo v f → IsFinding geo w f
used_there geo v w h (BadInode i) t f = (f.0, (λ z. f.1 (sym (mode_of geo v w h i f.0) ∙ z)), ap (is_sound geo) (sym (h.inode i f.0)) ∙ f.2)
used_there geo v w h (BadPointer i k x) t f = (sym (h.uses i k) ∙ f.0, f.1)
used_there geo v w h (Duplicate i k a) t f = (claim_of geo v w h i k a f.0, f.1, f.2, claim_of geo v w h f.1 f.2 a f.3, f.4)
used_there geo v w h (LostBlock a) t f = (f.0, sym (h.block_marked a f.0) ∙ f.1, λ c. f.2 (claimed_of geo w v (uses_back h) a c))
used_there geo v w h (UnmarkedBlock a) t f = (claimed_of geo v w h a f.0, sym (h.block_marked a f.0.2.1) ∙ f.1)
used_there geo v w h (LostNumber i) t f = (f.0, sym (h.number_marked i f.0) ∙ f.1, mode_of geo v w h i f.0 ∙ f.2)
used_there geo v w h (UnmarkedInode i) t f = (f.0, (λ z. f.1 (sym (mode_of geo v w h i f.0) ∙ z)), sym (h.number_marked i f.0) ∙ f.2)
used_there geo v w h _ t f = absurd cc

-- and so they have the same findings of these kinds
pub same_used_findings : (geo : Geometry) (v w : View) → SameUses geo v w → (f : Finding) → IsTrue (is_of_blocks f || is_of_maps f) → IsFinding geo v f ↔ IsFinding geo w f
same_used_findings geo v w h f t = (used_there geo v w h f t, used_there geo w v (uses_back h) f t)

uses_of : {geo : Geometry} {v w : View} → SameFacts geo v w → SameUses geo v w
uses_of h = record { inode = h.inode; number_marked = h.number_marked; block_marked = h.block_marked; uses = h.uses }

pub finding_there : (geo : Geometry) (v w : View) (h : SameFacts geo v w) (f : Finding) → IsFinding geo v f → IsFinding geo w f
finding_there geo v w h (BadInode i) f = used_there geo v w (uses_of h) (BadInode i) refl f
finding_there geo v w h (BadPointer i k x) f = used_there geo v w (uses_of h) (BadPointer i k x) refl f
finding_there geo v w h (Duplicate i k a) f = used_there geo v w (uses_of h) (Duplicate i k a) refl f
finding_there geo v w h RootBad f = sym (h.directory_at root) ∙ f
finding_there geo v w h (BadSlot d s) f = (reached_there geo v w h d f.0, f.1, sym (h.slots d s) ∙ f.2)
finding_there geo v w h (DupName d s) f =
    (reached_there geo v w h d f.0, f.1, f.2, f.3, f.4, f.5, f.6, sym (h.slots d f.1) ∙ f.7, sym (h.slots d s) ∙ f.8)
finding_there geo v w h (BadDot d) f = (reached_there geo v w h d f.0, λ n. f.1 (names_there geo w v (other_way h) d 0 d n))
finding_there geo v w h (BadDotDot d) f = (reached_there geo v w h d f.0, λ n. f.1 (parent_there geo w v (other_way h) d n))
finding_there geo v w h (ToUnsound d s) f =
    (f.0, entry_there geo v w h d s f.0 f.1, ap (is_sound geo) (sym (h.inode f.0 (entry_number geo v d s f.0 f.1))) ∙ f.2)
finding_there geo v w h (ExtraName d s) f = (
  f.0,
  entry_there geo v w h d s f.0 f.1,
  elim f.2 [ inl r ↦ inl r | inr o ↦ inr (directory_there geo v w h f.0 o.0, o.1, o.2, entry_there geo v w h o.1 o.2 f.0 o.3, o.4) ],
)
finding_there geo v w h (LostInode i) f = (sound_there geo v w h i f.0, λ r. f.1 (reachable_there geo w v (other_way h) i r))
finding_there geo v w h (CountHigh i l e) f =
    (reachable_there geo v w h i f.0, f.1 ∙ ap (λ (r : Inode). r.links) (h.inode i (reachable_number geo v i f.0)), has_entries_there geo v w h i e f.2, f.3)
finding_there geo v w h (CountLow i l e) f =
    (reachable_there geo v w h i f.0, f.1 ∙ ap (λ (r : Inode). r.links) (h.inode i (reachable_number geo v i f.0)), has_entries_there geo v w h i e f.2, f.3)
finding_there geo v w h (LostBlock a) f = used_there geo v w (uses_of h) (LostBlock a) refl f
finding_there geo v w h (UnmarkedBlock a) f = used_there geo v w (uses_of h) (UnmarkedBlock a) refl f
finding_there geo v w h (LostNumber i) f = used_there geo v w (uses_of h) (LostNumber i) refl f
finding_there geo v w h (UnmarkedInode i) f = used_there geo v w (uses_of h) (UnmarkedInode i) refl f

pub same_findings : (geo : Geometry) (v w : View) → SameMetadata geo v w → (f : Finding) → IsFinding geo v f ↔ IsFinding geo w f
same_findings geo v w m f =
    let h = same_facts geo v w m in (finding_there geo v w h f, finding_there geo w v (other_way h) f)
