-- Two views with the same metadata have the same uses, slots, paths and entries, and obey the same rules.
use Rattle.std.proofs.Common.{◌≡◌, ◌≤◌, ◌/◌, ℕ, zero, suc, Bool, cond, ◌&&◌, eqb, inl, inr, ◌↔◌, sym, ap, ◌∙◌, subst, IsTrue}
use Rattle.std.proofs.lemmas.Bool.{and_parts}
use Rattle.model.specs.Layout.{Geometry, is_number, is_data_address, root, inode_count}
use Rattle.model.specs.View.{View, Inode}
use Rattle.model.specs.Shape.{is_table}
use Rattle.model.specs.Uses.{is_directory_at, is_sound_at, is_directory, is_sound, use_at, IsUse, IsClaim, IsClaimed}
use Rattle.model.specs.Slots.{slot, slot_in, number_in, Names}
use Rattle.model.specs.Reach.{Path, IsReachableDirectory, IsReachable, IsEntry, IsReachableSet, HasEntries, entries_of, entries_in, names_once, slot_count, HasParent}
use Rattle.model.specs.Rules.{ObeysRules}
use Rattle.model.specs.Metadata.{SameMetadata}
use Rattle.model.proofs.Sums.{sum-same}
use Rattle.model.proofs.SlotLemmas.{names_stands, directory_number, reachable_directory}
use Rattle.model.proofs.Alike.{same_and}
use Rattle.model.proofs.Uses.{above_table, uses_agree}
use Rattle.model.proofs.Slots.{slots_of_uses}

-- what the findings look at, both ways the same
pub record SameFacts (geo : Geometry) (v w : View) : Type 0 where
  pub inode : (i : ℕ) → IsTrue (is_number geo i) → v.inode i ≡ w.inode i
  pub number_marked : (i : ℕ) → IsTrue (is_number geo i) → v.number_marked i ≡ w.number_marked i
  pub block_marked : (a : ℕ) → IsTrue (is_data_address geo a) → v.block_marked a ≡ w.block_marked a
  pub sound_at : (i : ℕ) → is_sound_at geo v i ≡ is_sound_at geo w i
  pub directory_at : (i : ℕ) → is_directory_at geo v i ≡ is_directory_at geo w i
  pub uses : (i k : ℕ) → use_at geo v i k ≡ use_at geo w i k
  pub slots : (d s : ℕ) → slot geo v d s ≡ slot geo w d s

pub other_way : {geo : Geometry} {v w : View} → SameFacts geo v w → SameFacts geo w v
other_way h = record {
  inode = λ i n. sym (h.inode i n);
  number_marked = λ i n. sym (h.number_marked i n);
  block_marked = λ a n. sym (h.block_marked a n);
  sound_at = λ i. sym (h.sound_at i);
  directory_at = λ i. sym (h.directory_at i);
  uses = λ i k. sym (h.uses i k);
  slots = λ d s. sym (h.slots d s);
}

module _ (geo : Geometry) (v w : View) (inode : (i : ℕ) → IsTrue (is_number geo i) → v.inode i ≡ w.inode i) (tables : (i m a : ℕ) → IsTrue (is_table geo m) → IsClaim geo v i m a → v.bytes a ≡ w.bytes a) where
  same_sound : (i : ℕ) → is_sound_at geo v i ≡ is_sound_at geo w i
  same_sound i = same_and (is_number geo i) (is_sound geo (v.inode i)) (is_sound geo (w.inode i)) (λ n. ap (is_sound geo) (inode i n))

  sound_number : (i : ℕ) → IsTrue (is_sound_at geo v i) → IsTrue (is_number geo i)
  sound_number i h = (and_parts (is_number geo i) (is_sound geo (v.inode i)) h).0

  same_directory : (i : ℕ) → is_directory_at geo v i ≡ is_directory_at geo w i
  same_directory i =
      same_and (is_sound_at geo v i) (is_directory (v.inode i)) (is_directory (w.inode i)) (λ h. ap is_directory (inode i (sound_number i h)))
      ∙ ap (λ b. b && is_directory (w.inode i)) (same_sound i)

  -- the same records, and the same bytes of the tables that are claimed, make the same uses
  pub same_use : (i k : ℕ) → use_at geo v i k ≡ use_at geo w i k
  same_use i k = uses_agree geo v w i k (inode i) (λ m a above c. tables i m a (above_table geo k m above) c)

module _ (geo : Geometry) (v w : View) (m : SameMetadata geo v w) where
  same_slot : (d s : ℕ) → slot geo v d s ≡ slot geo w d s
  same_slot d s =
      slots_of_uses geo v w d s (same_directory geo v w m.inode m.tables d) (same_use geo v w m.inode m.tables d (s / 16)) (λ a directory low c.
      ap (λ bytes. slot_in geo bytes s) (m.directory_blocks d (s / 16) a directory c))

  pub same_facts : SameFacts geo v w
  same_facts = record {
    inode = m.inode;
    number_marked = m.number_marked;
    block_marked = m.block_marked;
    sound_at = same_sound geo v w m.inode m.tables;
    directory_at = same_directory geo v w m.inode m.tables;
    uses = same_use geo v w m.inode m.tables;
    slots = same_slot;
  }

-- ---- what is so in one of them is so in the other

module _ (geo : Geometry) (v w : View) (h : SameFacts geo v w) where
  pub use_there : (i k x : ℕ) → IsUse geo v i k x → IsUse geo w i k x
  use_there i k x u = sym (h.uses i k) ∙ u

  pub claim_there : (i k a : ℕ) → IsClaim geo v i k a → IsClaim geo w i k a
  claim_there i k a c = (use_there i k a c.0, c.1)

  pub names_there : (d s i : ℕ) → Names geo v d s i → Names geo w d s i
  names_there d s i n = (n.0, sym (h.slots d s) ∙ n.1)

  pub directory_there : (d : ℕ) → IsTrue (is_directory_at geo v d) → IsTrue (is_directory_at geo w d)
  directory_there d t = sym (h.directory_at d) ∙ t

  pub sound_there : (i : ℕ) → IsTrue (is_sound_at geo v i) → IsTrue (is_sound_at geo w i)
  sound_there i t = sym (h.sound_at i) ∙ t

  path_there : (n d : ℕ) → Path geo v n d → Path geo w n d
  path_there zero d p = (p.0, directory_there root p.1)
  path_there (suc n) d p = (p.0, p.1, path_there n p.0 p.2, p.3, names_there p.0 p.1 d p.4, directory_there d p.5)

  pub reached_there : (d : ℕ) → IsReachableDirectory geo v d → IsReachableDirectory geo w d
  reached_there d r = (r.0, path_there r.0 d r.1)

  pub entry_there : (d s i : ℕ) → IsEntry geo v d s i → IsEntry geo w d s i
  entry_there d s i e = record { reachable = reached_there d e.reachable; after_dots = e.after_dots; names = names_there d s i e.names }

  pub reachable_there : (i : ℕ) → IsReachable geo v i → IsReachable geo w i
  reachable_there i (inl r) = inl (reached_there i r)
  reachable_there i (inr r) = inr (sound_there i r.0, r.1, r.2, entry_there r.1 r.2 i r.3)

  pub parent_there : (d : ℕ) → HasParent geo v d → HasParent geo w d
  parent_there d (inl p) = inl (p.0, names_there d 1 root p.1)
  parent_there d (inr p) = inr (p.0, p.1, p.2, names_there d 1 p.1 p.3, entry_there p.1 p.2 d p.4)

  pub claimed_there : (a : ℕ) → IsClaimed geo v a → IsClaimed geo w a
  claimed_there a c = (c.0, c.1, claim_there c.0 c.1 a c.2)

  entries_there : (set : ℕ → Bool) (i : ℕ) → entries_of geo v set i ≡ entries_of geo w set i
  entries_there set i =
      sum-same (inode_count geo) (λ d. cond (set d) (entries_in geo v i d) 0) (λ d. cond (set d) (entries_in geo w i d) 0)
      (λ d b. ap (λ n. cond (set d) n 0) (sum-same (slot_count geo) (names_once geo v i d) (names_once geo w i d)
      (λ s c. ap (λ x. cond (eqb (number_in x) i) 1 0) (h.slots d s))))

pub entry_number : (geo : Geometry) (v : View) (d s i : ℕ) → IsEntry geo v d s i → IsTrue (is_number geo i)
entry_number geo v d s i e = (names_stands geo v d s i e.names).number

-- a use is of a number that is looked at
pub reachable_number : (geo : Geometry) (v : View) (i : ℕ) → IsReachable geo v i → IsTrue (is_number geo i)
reachable_number geo v i (inl r) = directory_number geo v i (reachable_directory geo v i r)
reachable_number geo v i (inr r) = entry_number geo v r.1 r.2 i r.3

set_there : (geo : Geometry) (v w : View) (h : SameFacts geo v w) (set : ℕ → Bool) → IsReachableSet geo v set → IsReachableSet geo w set
set_there geo v w h set is_set d = ((λ t. reached_there geo v w h d ((is_set d).0 t)), (λ r. (is_set d).1 (reached_there geo w v (other_way h) d r)))

pub has_entries_there : (geo : Geometry) (v w : View) (h : SameFacts geo v w) (i n : ℕ) → HasEntries geo v i n → HasEntries geo w i n
has_entries_there geo v w h i n e = (e.0, set_there geo v w h e.0 e.1, e.2 ∙ entries_there geo v w h e.0 i)

-- ---- and the rules

mode_there : (geo : Geometry) (v w : View) (h : SameFacts geo v w) (i : ℕ) → IsTrue (is_number geo i) → (w.inode i).mode ≡ (v.inode i).mode
mode_there geo v w h i n = ap (λ (r : Inode). r.mode) (sym (h.inode i n))

sound_record_there : (geo : Geometry) (v w : View) (h : SameFacts geo v w) (i : ℕ) → IsTrue (is_number geo i) → IsTrue (is_sound geo (v.inode i)) → IsTrue (is_sound geo (w.inode i))
sound_record_there geo v w h i n s = ap (is_sound geo) (sym (h.inode i n)) ∙ s

rules_there : (geo : Geometry) (v w : View) → SameFacts geo v w → ObeysRules geo v → ObeysRules geo w
rules_there geo v w h o =
    let back = other_way h in record {
      rule1 = directory_there geo v w h root o.rule1;
      rule2 = λ i n. elim (o.rule2 i n) [
        | inl z ↦ inl (mode_there geo v w h i n ∙ z)
        | inr s ↦ inr (sound_record_there geo v w h i n s)
      ];
      rule3 = record {
        claims = λ i k x u. o.rule3.claims i k x (use_there geo w v back i k x u);
        marked = λ i k a c. sym (h.block_marked a c.1) ∙ o.rule3.marked i k a (claim_there geo w v back i k a c);
        once = λ i k j l a c b. o.rule3.once i k j l a (claim_there geo w v back i k a c) (claim_there geo w v back j l a b);
      };
      rule4 = λ i n used. sym (h.number_marked i n) ∙ o.rule4 i n (λ z. used (mode_there geo v w h i n ∙ z));
      rule5 = λ d r.
          let old = o.rule5 d (reached_there geo w v back d r) in (names_there geo v w h d 0 d old.0, parent_there geo v w h d old.1);
      rule6 = record {
        none_bad = λ d s r b. o.rule6.none_bad d s (reached_there geo w v back d r) (h.slots d s ∙ b);
        distinct = λ d s t i j name r p q e f. o.rule6.distinct d s t i j name (reached_there geo w v back d r) p q (h.slots d s ∙ e) (h.slots d t ∙ f);
        sound = λ d s i r n.
            let there = names_there geo w v back d s i n in
            sound_record_there geo v w h i (names_stands geo v d s i there).number (o.rule6.sound d s i (reached_there geo w v back d r) there);
      };
      rule7 = record {
        once = λ d s e t i dir x y. o.rule7.once d s e t i (directory_there geo w v back i dir) (entry_there geo w v back d s i x) (entry_there geo w v back e t i y);
        no_root = λ d s x. o.rule7.no_root d s (entry_there geo w v back d s root x);
      };
      rule8 = λ i n r e.
          let reached = reachable_there geo w v back i r in
          subst (λ (x : Inode). n ≤ x.links) (h.inode i (reachable_number geo v i reached)) (o.rule8 i n reached (has_entries_there geo w v back i n e));
    }

pub same_rules : (geo : Geometry) (v w : View) → SameMetadata geo v w → ObeysRules geo v ↔ ObeysRules geo w
same_rules geo v w m = let h = same_facts geo v w m in (rules_there geo v w h, rules_there geo w v (other_way h))
