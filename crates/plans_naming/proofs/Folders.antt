-- A directory that an update elsewhere leaves as it is.
use Rattle.std.proofs.Common.{◌≡◌, ◌<◌, ◌/◌, ℕ, Bool, List, length, refl, sym, ap, ◌∙◌, subst}
use Rattle.model.specs.Layout.{Geometry}
use Rattle.model.specs.View.{View, Inode}
use Rattle.model.specs.Cells.{SetInode, SetNumber, SetBlock, SetBytes, updated}
use Rattle.model.specs.Shape.{most_blocks}
use Rattle.model.specs.Uses.{use_at, is_directory_at, IsClaim, IsClaimed}
use Rattle.model.specs.Slots.{Slot, slot, slot_in}
use Rattle.model.specs.Reach.{IsReachableDirectory}
use Rattle.ordering.specs.Cuts.{Cell}
use Rattle.ordering.specs.Kinds.{SameBody}
use Rattle.ordering.specs.OneSlot.{ChangesSlot, IsNewName}
use Rattle.ordering.proofs.Data.{bytes_shape}
use Rattle.model.proofs.CellLemmas.{slot_stays}
use Rattle.ordering.proofs.Bits.{number_bit_shape, block_bit_shape}
use Rattle.model.proofs.Slots.{slots_of_uses}
use Rattle.model.proofs.SameTree.{SameTree, kept, names_kept}
use Rattle.model.proofs.Places.{put_there}
use Rattle.model.proofs.NewRecord.{other_directory, other_use}
use Rattle.ordering.proofs.Records.{body_shape}
use Rattle.plans_naming.specs.Entries.{StandsAt, TakesName, HasBlocks}

pub record SameFolder (geo : Geometry) (v w : View) (d : ℕ) : Type 0 where
  pub reach : IsReachableDirectory geo v d → IsReachableDirectory geo w d
  pub directory : is_directory_at geo v d ≡ is_directory_at geo w d
  pub uses : (k : ℕ) → use_at geo v d k ≡ use_at geo w d k
  pub slots : (t : ℕ) → slot geo v d t ≡ slot geo w d t
  pub bytes : (k b : ℕ) → k < most_blocks geo → IsClaim geo v d k b → v.bytes b ≡ w.bytes b

pub folder_on : (geo : Geometry) (u v w : View) (d : ℕ) → SameFolder geo u v d → SameFolder geo v w d → SameFolder geo u w d
folder_on geo u v w d f g = record {
  reach = λ r. g.reach (f.reach r);
  directory = f.directory ∙ g.directory;
  uses = λ k. f.uses k ∙ g.uses k;
  slots = λ t. f.slots t ∙ g.slots t;
  bytes = λ k b low c. f.bytes k b low c ∙ g.bytes k b low (sym (f.uses k) ∙ c.0, c.1);
}

module _ (geo : Geometry) (v w : View) (d : ℕ) (f : SameFolder geo v w d) where
  pub claim_there : (k b : ℕ) → IsClaim geo v d k b → IsClaim geo w d k b
  claim_there k b c = (sym (f.uses k) ∙ c.0, c.1)

  pub claim_then : (k b : ℕ) → IsClaim geo w d k b → IsClaim geo v d k b
  claim_then k b c = (f.uses k ∙ c.0, c.1)

  pub change_there : (block : ℕ) (bytes : List ℕ) (s : ℕ) (old new : Slot) → ChangesSlot geo v block bytes d s old new → ChangesSlot geo w block bytes d s old new
  change_there block bytes s old new h =
      let same = f.bytes (s / 16) block h.slot.below h.slot.claim in
      record {
        slot = record {
          claim = claim_there (s / 16) block h.slot.claim;
          directory = sym f.directory ∙ h.slot.directory;
          below = h.slot.below;
          others = λ t at other. ap (λ b. slot_in geo b t) (sym same) ∙ h.slot.others t at other;
          before = ap (λ b. slot_in geo b s) (sym same) ∙ h.slot.before;
          now = h.slot.now;
        };
        reachable = f.reach h.reachable;
        after_dots = h.after_dots;
      }

  pub name_there : (after : List Cell) (block s : ℕ) (name : List ℕ) → IsNewName geo v after block d s name → IsNewName geo w after block d s name
  name_there after block s name h = record {
    new = λ t j low other e. h.new t j low other (f.slots t ∙ e);
    others = λ k b low c other. h.others k b low (claim_then k b c) other;
  }

  pub stands_there : (s block : ℕ) (what : Slot) → StandsAt geo v d s block what → StandsAt geo w d s block what
  stands_there s block what h = record {
    reachable = f.reach h.reachable;
    after_dots = h.after_dots;
    below = h.below;
    claim = claim_there (s / 16) block h.claim;
    whole = ap (λ (b : List ℕ). length b) (sym (f.bytes (s / 16) block h.below h.claim)) ∙ h.whole;
    holds = sym (f.slots s) ∙ h.holds;
  }

  pub takes_there : (name : List ℕ) → TakesName geo v d name → TakesName geo w d name
  takes_there name h = record { part = h.part; new = λ t j e. h.new t j (f.slots t ∙ e) }

  pub blocks_there : (after : List Cell) → HasBlocks geo v d after → HasBlocks geo w d after
  blocks_there after h k b low c = h k b low (claim_then k b c)

-- a bit
pub number_folder : (geo : Geometry) (v : View) (n : ℕ) (marked : Bool) (d : ℕ) → SameFolder geo v (updated v (SetNumber n marked)) d
number_folder geo v n marked d = record {
  reach = kept geo v (updated v (SetNumber n marked)) (number_bit_shape geo v n marked).tree d;
  directory = (number_bit_shape geo v n marked).directories d;
  uses = (number_bit_shape geo v n marked).uses d;
  slots = λ t. slots_of_uses geo v (updated v (SetNumber n marked)) d t ((number_bit_shape geo v n marked).directories d) ((number_bit_shape geo v n marked).uses d (t / 16)) (λ a dir low c. refl);
  bytes = λ k b low c. refl;
}

pub block_folder : (geo : Geometry) (v : View) (b : ℕ) (marked : Bool) (d : ℕ) → SameFolder geo v (updated v (SetBlock b marked)) d
block_folder geo v b marked d = record {
  reach = kept geo v (updated v (SetBlock b marked)) (block_bit_shape geo v b marked).tree d;
  directory = (block_bit_shape geo v b marked).directories d;
  uses = (block_bit_shape geo v b marked).uses d;
  slots = λ t. slots_of_uses geo v (updated v (SetBlock b marked)) d t ((block_bit_shape geo v b marked).directories d) ((block_bit_shape geo v b marked).uses d (t / 16)) (λ a dir low c. refl);
  bytes = λ k b low c. refl;
}

-- a record with the same blocks
pub body_folder : (geo : Geometry) (v : View) (n : ℕ) (x : Inode) (d : ℕ) → SameBody geo (v.inode n) x → SameFolder geo v (updated v (SetInode n x)) d
body_folder geo v n x d body =
    let shape = body_shape geo v n x body in
    record {
      reach = kept geo v (updated v (SetInode n x)) shape.tree d;
      directory = shape.directories d;
      uses = λ k. shape.uses d k;
      slots = λ t. slots_of_uses geo v (updated v (SetInode n x)) d t (shape.directories d) (shape.uses d (t / 16)) (λ a dir low c. refl);
      bytes = λ k b low c. refl;
    }

-- a record of another number
pub other_folder : (geo : Geometry) (v : View) (n : ℕ) (x : Inode) (d : ℕ) → (d ≡ n → ⊥) → (IsReachableDirectory geo v d → IsReachableDirectory geo (updated v (SetInode n x)) d)
    → SameFolder geo v (updated v (SetInode n x)) d
other_folder geo v n x d apart reach = record {
  reach = reach;
  directory = other_directory geo v n x d apart;
  uses = λ k. other_use geo v n x d k apart;
  slots = λ t. slots_of_uses geo v (updated v (SetInode n x)) d t (other_directory geo v n x d apart) (other_use geo v n x d (t / 16) apart) (λ a dir low c. refl);
  bytes = λ k b low c. refl;
}

-- new bytes of a block that nobody claims
pub bytes_folder : (geo : Geometry) (v : View) (b : ℕ) (bytes : List ℕ) (d : ℕ) → (IsClaimed geo v b → ⊥) → SameFolder geo v (updated v (SetBytes b bytes)) d
bytes_folder geo v b bytes d none =
    let shape = bytes_shape geo v b bytes (λ i m t c. none (i, m, c)) (λ e k t c. none (e, k, c)) in
    record {
      reach = kept geo v (updated v (SetBytes b bytes)) shape.tree d;
      directory = shape.directories d;
      uses = λ k. shape.uses d k;
      slots = λ t. slot_stays geo v b bytes (λ i m t c. none (i, m, c)) d t (λ c. none (d, t / 16, c));
      bytes = λ k c low claim. sym (put_there v.bytes b c bytes (λ e. none (d, k, subst (λ x. IsClaim geo v d k x) e claim)));
    }

-- ---- trees one after the other

pub tree_on : (geo : Geometry) (u v w : View) → SameTree geo u v → SameTree geo v w → SameTree geo u w
tree_on geo u v w f g = record {
  top = f.top ∙ g.top;
  directory = λ d s i r n. f.directory d s i r n ∙ g.directory d s i (kept geo u v f d r) (names_kept geo u v f d s i r n);
  sound = λ d s i r n. f.sound d s i r n ∙ g.sound d s i (kept geo u v f d r) (names_kept geo u v f d s i r n);
  good = λ d s i name r. let r' = kept geo u v f d r in (
    (λ h. (g.good d s i name r').0 ((f.good d s i name r).0 h)),
    (λ h. (f.good d s i name r).1 ((g.good d s i name r').1 h)),
  );
  bad = λ d s r h. f.bad d s r (g.bad d s (kept geo u v f d r) h);
  blocks = λ d s i b r n.
      let r' = kept geo u v f d r in
      let n' = names_kept geo u v f d s i r n in
      ((λ c. (g.blocks d s i b r' n').0 ((f.blocks d s i b r n).0 c)), (λ c. (f.blocks d s i b r n).1 ((g.blocks d s i b r' n').1 c)));
}
