-- Views with the same metadata have the same picture.
use Rattle.std.proofs.Common.{◌≡◌, ℕ, ◌∙◌, cond, sym, ap, get_or}
use Rattle.model.specs.Layout.{Geometry}
use Rattle.model.specs.View.{View}
use Rattle.model.specs.Shape.{is_table}
use Rattle.model.specs.Metadata.{SameMetadata}
use Rattle.model.proofs.Same.{SameFacts, claim_there, other_way, same_facts}
use Rattle.pictures.specs.Pictured.{Pictured}
use Rattle.pictures.specs.Uses.{AreNoClaims, AreTwoClaims, IsOneClaim, IsPicture, IsUsedAs, claims_of, purpose}
use Rattle.pictures.specs.declared.uses.Use.{Use}
use Rattle.pictures.specs.declared.uses.Use.TheVariants.{Maps, Inodes, Directory, Indirect, File, Free, Lost, Duplicate}

module _ (geo : Geometry) (v w : View) (facts : SameFacts geo v w) where
  there : (a i k : ℕ) → claims_of geo v a i k → claims_of geo w a i k
  there a i k c = claim_there geo v w facts i k a c

  here : (a i k : ℕ) → claims_of geo w a i k → claims_of geo v a i k
  here a i k c = claim_there geo w v (other_way facts) i k a c

  same_purpose : (i k : ℕ) → purpose geo v i k ≡ purpose geo w i k
  same_purpose i k = ap (λ b. cond (is_table geo k) Indirect (cond b Directory File)) (facts.directory_at i)

  same_one : (a : ℕ) (cell : Use) → IsOneClaim geo v (claims_of geo v a) cell → IsOneClaim geo w (claims_of geo w a) cell
  same_one a cell h = record {
    inode = h.inode;
    position = h.position;
    claim = there a h.inode h.position h.claim;
    alone = λ j l c. h.alone j l (here a j l c);
    purpose = sym (same_purpose h.inode h.position) ∙ h.purpose;
  }

  same_none : (a : ℕ) → AreNoClaims (claims_of geo v a) → AreNoClaims (claims_of geo w a)
  same_none a h j l c = h j l (here a j l c)

  same_two : (a : ℕ) → AreTwoClaims (claims_of geo v a) → AreTwoClaims (claims_of geo w a)
  same_two a h = (h.0, h.1, h.2, h.3, there a h.0 h.1 h.4, there a h.2 h.3 h.5, h.6)

  same_used : (a : ℕ) (cell : Use) → IsUsedAs geo v a cell → IsUsedAs geo w a cell
  same_used a Maps h = h
  same_used a Inodes h = h
  same_used a Directory h = (h.0, same_one a Directory h.1)
  same_used a Indirect h = (h.0, same_one a Indirect h.1)
  same_used a File h = (h.0, same_one a File h.1)
  same_used a Free h = (h.0, same_none a h.1, sym (facts.block_marked a h.0) ∙ h.2)
  same_used a Lost h = (h.0, same_none a h.1, sym (facts.block_marked a h.0) ∙ h.2)
  same_used a Duplicate h = (h.0, same_two a h.1)

  same_cells : (picture : Pictured) → IsPicture geo v picture → IsPicture geo w picture
  same_cells picture is = record {
    geometry = is.geometry;
    cells = record {
      count = is.cells.count;
      each = λ a low d. same_used a (get_or picture.cells a d) (is.cells.each a low d);
    };
  }

pub same_picture : (geo : Geometry) (v w : View) → SameMetadata geo v w → (picture : Pictured) → IsPicture geo v picture → IsPicture geo w picture
same_picture geo v w same = same_cells geo v w (same_facts geo v w same)
