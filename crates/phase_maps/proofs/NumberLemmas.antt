-- What is found of the numbers of no inode, of more inodes, and of the same inodes.
use Rattle.std.proofs.Common.{◌≡◌, ◌<◌, ◌≤◌, ◌+◌, ◌/◌, ℕ, Bool, false, ◌||◌, ◌&&◌, eqb, ltb, List, ◌⊎◌, inl, inr, sym, ap, ◌∙◌, IsTrue}
use Rattle.std.proofs.lemmas.Bool.{eq-eqb, eqb-true}
use Rattle.findings.specs.declared.finding.Finding.{Finding}
use Rattle.findings.specs.declared.finding.Finding.TheVariants.{LostNumber, UnmarkedInode}
use Rattle.model.specs.Layout.{Geometry, is_number}
use Rattle.model.specs.View.{View}
use Rattle.model.specs.Growth.{Adds}
use Rattle.model.specs.Units.{only, stands_in}
use Rattle.model.proofs.Adding.{adds_both, adds_nothing, adds_same, or_left, or_parts, or_right}
use Rattle.model.proofs.GroupNumbers.{before_all, before_more, before_none}
use Rattle.phase_maps.specs.NumberFindings.{IsFoundOfNumbers}

module _ (geo : Geometry) (view : View) where
  module _ (m n : ℕ → Bool) (there : (i : ℕ) → IsTrue (is_number geo i) → IsTrue (m i) → IsTrue (n i)) where
    found_there : (f : Finding) → IsFoundOfNumbers geo view m f → IsFoundOfNumbers geo view n f
    found_there (LostNumber i) h = (there i h.1.0 h.0, h.1)
    found_there (UnmarkedInode i) h = (there i h.1.0 h.0, h.1)
    found_there _ h = absurd cc

  -- of the same inodes the same is found
  same_found : (m n : ℕ → Bool) (old new : List Finding) → ((i : ℕ) → IsTrue (is_number geo i) → m i ≡ n i) → Adds (IsFoundOfNumbers geo view m) old new → Adds (IsFoundOfNumbers geo view n) old new
  same_found m n old new same added =
      adds_same (IsFoundOfNumbers geo view m) (IsFoundOfNumbers geo view n) old new
      (λ f. (found_there m n (λ i num t. sym (same i num) ∙ t) f, found_there n m (λ i num t. same i num ∙ t) f)) added

  none_found : (m : ℕ → Bool) → ((i : ℕ) → IsTrue (is_number geo i) → m i ≡ false) → (f : Finding) → IsFoundOfNumbers geo view m f → ⊥
  none_found m none (LostNumber i) h = let e = none i h.1.0 in cc
  none_found m none (UnmarkedInode i) h = let e = none i h.1.0 in cc
  none_found m none _ h = absurd cc

  module _ (m n : ℕ → Bool) where
    abbrev both : ℕ → Bool
    both i = m i || n i

    of_both : (f : Finding) → (IsFoundOfNumbers geo view m f ⊎ IsFoundOfNumbers geo view n f) → IsFoundOfNumbers geo view both f
    of_both (LostNumber i) h = elim h [ inl k ↦ (or_left (m i) (n i) k.0, k.1) | inr k ↦ (or_right (m i) (n i) k.0, k.1) ]
    of_both (UnmarkedInode i) h = elim h [ inl k ↦ (or_left (m i) (n i) k.0, k.1) | inr k ↦ (or_right (m i) (n i) k.0, k.1) ]
    of_both _ h = elim h [ inl k ↦ absurd cc | inr k ↦ absurd cc ]

    of_one : (f : Finding) → IsFoundOfNumbers geo view both f → IsFoundOfNumbers geo view m f ⊎ IsFoundOfNumbers geo view n f
    of_one (LostNumber i) h = elim (or_parts (m i) (n i) h.0) [ inl k ↦ inl (k, h.1) | inr k ↦ inr (k, h.1) ]
    of_one (UnmarkedInode i) h = elim (or_parts (m i) (n i) h.0) [ inl k ↦ inl (k, h.1) | inr k ↦ inr (k, h.1) ]
    of_one _ h = absurd cc

    -- what is found of some inodes, and then of others
    more_found : (old mid new : List Finding) → Adds (IsFoundOfNumbers geo view m) old mid → Adds (IsFoundOfNumbers geo view n) mid new → Adds (IsFoundOfNumbers geo view both) old new
    more_found old mid new one two =
        adds_same (λ f. IsFoundOfNumbers geo view m f ⊎ IsFoundOfNumbers geo view n f) (IsFoundOfNumbers geo view both) old new (λ f. (of_both f, of_one f))
        (adds_both (IsFoundOfNumbers geo view m) (IsFoundOfNumbers geo view n) old mid new one two)

-- the numbers of a group, one after another
module _ (geo : Geometry) (view : View) (group : ℕ) (old : List Finding) where
  abbrev In : ℕ → ℕ → Bool
  In n i = stands_in geo (only group) i && ltb i n

  -- before the first number of the group
  pub found_first : (n : ℕ) → ((i : ℕ) → IsTrue (is_number geo i) → i / geo.inodes ≡ group → n ≤ i) → Adds (IsFoundOfNumbers geo view (In n)) old old
  found_first n first =
      adds_nothing (IsFoundOfNumbers geo view (In n)) old
      (none_found geo view (In n) (λ i t. before_none (only group (i / geo.inodes)) i n (λ u. first i t (eqb-true (i / geo.inodes) group u))))

  -- one number more
  pub found_next : (n : ℕ) (mid new : List Finding) → n / geo.inodes ≡ group → Adds (IsFoundOfNumbers geo view (In n)) old mid → Adds (IsFoundOfNumbers geo view (λ i. eqb i n)) mid new
      → Adds (IsFoundOfNumbers geo view (In (n + 1))) old new
  found_next n mid new here one two =
      same_found geo view (λ i. In n i || eqb i n) (In (n + 1)) old new
      (λ i t. before_more (only group (i / geo.inodes)) i n (λ e. eq-eqb (i / geo.inodes) group (ap (λ m. m / geo.inodes) e ∙ here)))
      (more_found geo view (In n) (λ i. eqb i n) old mid new one two)

  -- all numbers of the group
  pub found_all : (n : ℕ) (new : List Finding) → ((i : ℕ) → IsTrue (is_number geo i) → i / geo.inodes ≡ group → i < n) → Adds (IsFoundOfNumbers geo view (In n)) old new
      → Adds (IsFoundOfNumbers geo view (stands_in geo (only group))) old new
  found_all n new last added =
      same_found geo view (In n) (stands_in geo (only group)) old new
      (λ i t. before_all (only group (i / geo.inodes)) i n (λ u. last i t (eqb-true (i / geo.inodes) group u))) added
