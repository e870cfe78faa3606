-- Views with the same metadata, and images that no view has.
use Rattle.std.proofs.Common.{◌≡◌, true, ◌&&◌, eqb, length, IsTrue, inl, inr, ◌⊎◌, refl, sym, ap, ◌∙◌, subst, arith}
use Rattle.std.proofs.lemmas.Bool.{and_from, and_parts, cases_Bool, cond-true, cond-false, eq-eqb, eqb-true}
use Rattle.model.specs.Layout.{Geometry, IsGeometry, inode_block, inode_byte, is_number, root}
use Rattle.model.specs.Metadata.{SameMetadata}
use Rattle.model.specs.Shape.{direct_positions}
use Rattle.model.specs.View.{Inode, View, free_inode, inode_at}
use Rattle.model.proofs.FreshLemmas.{root_number}
use Rattle.model.proofs.Same.{claim_there, directory_there, other_way, same_facts}
use Rattle.frozen.specs.Kept.{Kept, frozen_view, kept_bytes}
use Rattle.fsck.specs.Checked.{CheckedImage}
use Rattle.snapshot.specs.Asked.{check_of, is_same_geometry, no_image}

pub same_as_itself : (geo : Geometry) (v : View) → SameMetadata geo v v
same_as_itself geo v = record {
  inode = λ i t. refl;
  number_marked = λ i t. refl;
  block_marked = λ a t. refl;
  tables = λ i m a t c. refl;
  directory_blocks = λ d k a t c. refl;
}

pub other_metadata : (geo : Geometry) (v w : View) → SameMetadata geo v w → SameMetadata geo w v
other_metadata geo v w m =
    let back = other_way (same_facts geo v w m) in
    record {
      inode = λ i t. sym (m.inode i t);
      number_marked = λ i t. sym (m.number_marked i t);
      block_marked = λ a t. sym (m.block_marked a t);
      tables = λ i n a t c. sym (m.tables i n a t (claim_there geo w v back i n a c));
      directory_blocks = λ d k a t c. sym (m.directory_blocks d k a (directory_there geo w v back d t) (claim_there geo w v back d k a c));
    }

then_metadata : (geo : Geometry) (u v w : View) → SameMetadata geo u v → SameMetadata geo v w → SameMetadata geo u w
then_metadata geo u v w m n =
    let there = same_facts geo u v m in
    record {
      inode = λ i t. m.inode i t ∙ n.inode i t;
      number_marked = λ i t. m.number_marked i t ∙ n.number_marked i t;
      block_marked = λ a t. m.block_marked a t ∙ n.block_marked a t;
      tables = λ i k a t c. m.tables i k a t c ∙ n.tables i k a t (claim_there geo u v there i k a c);
      directory_blocks = λ d k a t c. m.directory_blocks d k a t c ∙ n.directory_blocks d k a (directory_there geo u v there d t) (claim_there geo u v there d k a c);
    }

-- two that are as a third one
pub alike : (geo : Geometry) (u v w : View) → SameMetadata geo u v → SameMetadata geo u w → SameMetadata geo v w
alike geo u v w one two = then_metadata geo v u w (other_metadata geo u v one) two

-- and one that is as the second of two
pub alike_through : (geo : Geometry) (u v w : View) → SameMetadata geo u v → SameMetadata geo v w → SameMetadata geo u w
alike_through geo u v w one two = then_metadata geo u v w one two

-- the record of the root has pointers
root_pointers : (geo : Geometry) (kept : Kept) → IsGeometry geo → kept.geometry ≡ geo → length (((frozen_view kept).inode root).direct) ≡ direct_positions
root_pointers geo kept ok same =
    let number : IsTrue (is_number kept.geometry root) = subst (λ g. IsTrue (is_number g root)) (sym same) (root_number geo ok) in
    ap (λ (x : Inode). length x.direct) (cond-true (is_number kept.geometry root) (inode_at kept.geometry.version (kept_bytes kept.blocks (inode_block kept.geometry root)) (inode_byte root)) free_inode number)

-- so no image of a volume is as that
pub not_no_image : (geo : Geometry) (kept : Kept) (view : View) → IsGeometry geo → kept.geometry ≡ geo → SameMetadata geo (frozen_view kept) view → SameMetadata geo view no_image → ⊥
not_no_image geo kept view ok same shown none =
    let number = root_number geo ok in
    let bad : direct_positions ≡ 0 = sym (root_pointers geo kept ok same) ∙ ap (λ (x : Inode). length x.direct) (shown.inode root number ∙ none.inode root number) in omega (arith, bad)

geometry_parts : (g h : Geometry) → is_same_geometry g h ≡ true → g ≡ h
geometry_parts g h t =
    let three = and_parts (eqb g.groups h.groups && eqb g.blocks h.blocks && eqb g.inodes h.inodes) (eqb g.version h.version) t in
    let two = and_parts (eqb g.groups h.groups && eqb g.blocks h.blocks) (eqb g.inodes h.inodes) three.0 in
    let one = and_parts (eqb g.groups h.groups) (eqb g.blocks h.blocks) two.0 in
    let a : g.groups ≡ h.groups = eqb-true g.groups h.groups one.0 in
    let b : g.blocks ≡ h.blocks = eqb-true g.blocks h.blocks one.1 in
    let c : g.inodes ≡ h.inodes = eqb-true g.inodes h.inodes two.1 in
    let d : g.version ≡ h.version = eqb-true g.version h.version three.1 in
    λ i. record { groups = a i; blocks = b i; inodes = c i; version = d i }

-- the image of a check is of the volume's geometry, or none
pub image_of_check : (geo : Geometry) (checked : CheckedImage) → ((checked.frozen.geometry ≡ geo) × ((check_of geo checked).image ≡ frozen_view checked.frozen)) ⊎ ((check_of geo checked).image ≡ no_image)
image_of_check geo checked = elim (cases_Bool (is_same_geometry checked.frozen.geometry geo)) [
  | inl t ↦ inl (geometry_parts checked.frozen.geometry geo t, cond-true (is_same_geometry checked.frozen.geometry geo) (frozen_view checked.frozen) no_image t)
  | inr f ↦ inr (cond-false (is_same_geometry checked.frozen.geometry geo) (frozen_view checked.frozen) no_image f)
]

pub image_where_same : (geo : Geometry) (checked : CheckedImage) → checked.frozen.geometry ≡ geo → (check_of geo checked).image ≡ frozen_view checked.frozen
image_where_same geo checked same = cond-true (is_same_geometry checked.frozen.geometry geo) (frozen_view checked.frozen) no_image (subst (λ g. is_same_geometry checked.frozen.geometry g ≡ true) same (itself checked.frozen.geometry))
  where
    itself : (g : Geometry) → is_same_geometry g g ≡ true
    itself g =
        and_from (eqb g.groups g.groups && eqb g.blocks g.blocks && eqb g.inodes g.inodes) (eqb g.version g.version)
        (and_from (eqb g.groups g.groups && eqb g.blocks g.blocks) (eqb g.inodes g.inodes) (and_from (eqb g.groups g.groups) (eqb g.blocks g.blocks) (eq-eqb g.groups g.groups refl) (eq-eqb g.blocks g.blocks refl)) (eq-eqb g.inodes g.inodes refl))
        (eq-eqb g.version g.version refl)
