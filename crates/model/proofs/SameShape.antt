-- Two views with the same modes, uses and names.
use Rattle.std.proofs.Common.{◌≡◌, ◌≢◌, ℕ, ◌≤◌, ◌/◌, refl, sym, ◌∙◌, IsTrue}
use Rattle.model.specs.Layout.{Geometry, is_number, root}
use Rattle.model.specs.View.{View}
use Rattle.model.specs.Uses.{use_at, is_directory_at, is_sound_at, IsUse, IsClaim}
use Rattle.model.specs.Slots.{slot}
use Rattle.model.specs.Reach.{IsReachable}
use Rattle.model.specs.Rules.{ObeysRules, RecordsAreSound}
use Rattle.model.proofs.UseLemmas.{uses_obey}
use Rattle.model.proofs.SameTree.{SameTree, same_tree, tree_obeys, links_cover}

pub record SameShape (geo : Geometry) (v w : View) : Type 0 where
  pub modes : (n : ℕ) → (v.inode n).mode ≡ (w.inode n).mode
  pub directories : (n : ℕ) → is_directory_at geo v n ≡ is_directory_at geo w n
  pub uses : (n k : ℕ) → use_at geo v n k ≡ use_at geo w n k
  pub tree : SameTree geo v w

pub same_shape : (geo : Geometry) (v : View) → SameShape geo v v
same_shape geo v = record { modes = λ n. refl; directories = λ n. refl; uses = λ n k. refl; tree = same_tree geo v }

-- where the slots are the same one by one
pub shape_from : (geo : Geometry) (v w : View) → ((n : ℕ) → (v.inode n).mode ≡ (w.inode n).mode) → ((n : ℕ) → is_directory_at geo v n ≡ is_directory_at geo w n)
    → ((n : ℕ) → is_sound_at geo v n ≡ is_sound_at geo w n) → ((n k : ℕ) → use_at geo v n k ≡ use_at geo w n k) → ((d s : ℕ) → slot geo v d s ≡ slot geo w d s) → SameShape geo v w
shape_from geo v w modes directories sound uses slots = record {
  modes = modes;
  directories = directories;
  uses = uses;
  tree = record {
    top = directories root;
    directory = λ d s i r n. directories i;
    sound = λ d s i r n. sound i;
    good = λ d s i name r. ((λ h. sym (slots d s) ∙ h), (λ h. slots d s ∙ h));
    bad = λ d s r h. slots d s ∙ h;
    blocks = λ d s i b r n. ((λ c. (sym (uses d (s / 16)) ∙ c.0, c.1)), (λ c. (uses d (s / 16) ∙ c.0, c.1)));
  };
}

pub use_kept : (geo : Geometry) (v w : View) → SameShape geo v w → (n k b : ℕ) → IsUse geo v n k b → IsUse geo w n k b
use_kept geo v w s n k b u = sym (s.uses n k) ∙ u

pub use_back : (geo : Geometry) (v w : View) → SameShape geo v w → (n k b : ℕ) → IsUse geo w n k b → IsUse geo v n k b
use_back geo v w s n k b u = s.uses n k ∙ u

pub claim_kept : (geo : Geometry) (v w : View) → SameShape geo v w → (n k b : ℕ) → IsClaim geo v n k b → IsClaim geo w n k b
claim_kept geo v w s n k b c = (use_kept geo v w s n k b c.0, c.1)

pub claim_back : (geo : Geometry) (v w : View) → SameShape geo v w → (n k b : ℕ) → IsClaim geo w n k b → IsClaim geo v n k b
claim_back geo v w s n k b c = (use_back geo v w s n k b c.0, c.1)

-- the rules, where uses and names stay
pub shape_rules : (geo : Geometry) (v w : View) → SameShape geo v w → ObeysRules geo v → RecordsAreSound geo w
    → ((b n k : ℕ) → IsClaim geo v n k b → IsTrue (w.block_marked b))
    → ((n : ℕ) → IsTrue (is_number geo n) → (v.inode n).mode ≢ 0 → IsTrue (w.number_marked n))
    → ((i : ℕ) → IsReachable geo v i → (v.inode i).links ≤ (w.inode i).links) → ObeysRules geo w
shape_rules geo v w s o sound blocks numbers links =
    tree_obeys geo v w s.tree o sound (uses_obey geo v w s.uses blocks o.rule3) (λ n h u. numbers n h (λ z. u (sym (s.modes n) ∙ z))) (links_cover geo v w s.tree links o.rule8)
