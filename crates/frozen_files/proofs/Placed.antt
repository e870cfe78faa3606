-- An unmarked block is placed at a position of an inode: what it claims as metadata then is what it claimed, the block, and new tables.
use Rattle.std.proofs.Common.{◌≡◌, ◌<◌, ◌≤◌, ℕ, true, ◌&&◌, List, length, ◌⊎◌, inl, inr, refl, sym, ap, ◌∙◌, subst, Some, IsTrue, IsFalse}
use Rattle.std.proofs.lemmas.Bool.{both_ways}
use Rattle.model.specs.Layout.{Geometry, IsGeometry, is_number, is_data_address}
use Rattle.model.specs.View.{View, Inode}
use Rattle.model.specs.Cells.{put_at}
use Rattle.model.specs.Image.{IsBlock}
use Rattle.model.specs.Shape.{direct_positions, is_table}
use Rattle.model.specs.Uses.{is_sound, is_directory, blocks_of, has_position, record_use, use_at}
use Rattle.model.proofs.Places.{put_here, put_there}
use Rattle.model.proofs.Shape.{more_reach, IsAbove}
use Rattle.model.proofs.Uses.{above_table, number_use, sound_few, uses_agree}
use Rattle.machine.specs.Cells.{Places}
use Rattle.machine.proofs.Pointing.{IsNew, Before, Comes, HoldsTables, Leaves, pointed_like, new_free, new_marked, leaves_taken, leaves, came_use, came_once, still_marked}
use Rattle.machine.proofs.Placements.{r, filled, z, x, placed_whole}
use Rattle.frozen_files.proofs.Metadata.{IsMetadata, MetadataOf, metadata_from, record_metadata}
use Rattle.frozen_files.proofs.Good.{Good, gains, free_none}

-- the record of inode n is another one with this mode and size, and the others stay
pub record Resized (v w : View) (n mode size : ℕ) : Type 0 where
  pub inode : Inode
  pub records : w.inode ≡ put_at v.inode n inode
  pub moded : inode.mode ≡ mode
  pub sized : inode.size ≡ size

-- what it is
pub resized_here : (v w : View) (n mode size : ℕ) (s : Resized v w n mode size) → w.inode n ≡ s.inode
resized_here v w n mode size s = ap (λ (f : ℕ → Inode). f n) s.records ∙ put_here v.inode n s.inode

pub resized_there : (v w : View) (n mode size j : ℕ) (s : Resized v w n mode size) → (j ≡ n → ⊥) → w.inode j ≡ v.inode j
resized_there v w n mode size j s d = ap (λ (f : ℕ → Inode). f j) s.records ∙ put_there v.inode n j s.inode d

-- Inode n, whose record is sound if it has blocks, gets no more of them than position k takes.
pub record Gets (geo : Geometry) (v : View) (n k size : ℕ) : Type 0 where
  pub geometry : IsGeometry geo
  pub number : IsTrue (is_number geo n)
  pub sound : (l : ℕ) → IsTrue (has_position geo (v.inode n) l) → IsTrue (is_sound geo (v.inode n))
  pub still : IsTrue (is_sound geo (record (v.inode n) { size = size }))
  pub more : blocks_of (v.inode n).size ≤ blocks_of size
  pub inside : k < blocks_of size
  pub came : (q : ℕ) → q < blocks_of size → (q < blocks_of (v.inode n).size) ⊎ (q ≡ k)
  pub whole : (m c : ℕ) → IsTrue (is_table geo m) → IsMetadata geo v n m c → IsBlock (v.bytes c)
  pub twelve : length (v.inode n).direct ≡ direct_positions

module _ (geo : Geometry) (v : View) (n k : ℕ) (bytes : List ℕ) (size : ℕ) (w : View) (p : Places geo v n k bytes size w) where
  abbrev old : Inode
  old = v.inode n

  -- the record as it will be, and the views with the block's contents, with the cells too, and with the record
  abbrev new : Inode
  new = r geo v w n k bytes size p

  abbrev before : View
  before = filled geo v w n k bytes size p

  abbrev after : View
  after = z geo v w n k bytes size p

  abbrev done : View
  done = x geo v w n k bytes size p

  left : Leaves geo v old p.cells before after
  left = leaves geo v old p.points before

  pub resized : Resized v w n old.mode size
  resized = record {
    inode = new;
    records = ap (λ (y : View). y.inode) (placed_whole geo v w n k bytes size p) ∙ ap (λ (f : ℕ → Inode). put_at f n new) left.inode;
    moded = (pointed_like geo v old p.points).mode;
    sized = refl;
  }

  module _ (a : ℕ) (content : List ℕ) (g : Good geo a content v) (s : Gets geo v n k size) where
    -- a table that the record uses is metadata
    table_of_record : (m t : ℕ) → IsTrue (is_table geo m) → record_use geo v old m ≡ Some t → IsTrue (is_data_address geo t) → IsMetadata geo v n m t
    table_of_record m t table e d = ((number_use geo v n m t s.number e, d), inl table)

    sound_new : IsTrue (is_sound geo new)
    sound_new = ap (λ m. is_sound geo (record p.pointed { mode = m; size = size })) (pointed_like geo v old p.points).mode ∙ s.still

    known : Before geo v old s.geometry new
    known = record {
      sound = s.sound;
      still_sound = sound_new;
      keeps = λ l h. more_reach geo (blocks_of old.size) (blocks_of size) l s.more h;
      once = λ l m t tl tm e f d. (g.once n l n m t (table_of_record l t tl e d) (table_of_record m t tm f d)).1;
      unused = λ t free m table e. free_none geo a content v g t n m free.unmarked (table_of_record m t table e free.address);
      whole = λ m t table e d. s.whole m t table (table_of_record m t table e d);
      twelve = s.twelve;
    }

    comes : Comes geo v old s.geometry new k p.block p.points
    comes = record { before = known; fields = λ l. refl; address = p.free.address; inside = s.inside; few = sound_few geo (record old { size = size }) s.still; came = s.came }

    holds : HoldsTables geo v old s.geometry new before
    holds m t table e d = sym (put_there v.bytes p.block t bytes (λ is. free_none geo a content v g p.block n m p.free.unmarked
        (table_of_record m p.block table (e ∙ ap Some is) p.free.address)))

    -- ---- the other inodes
    -- blocks of metadata that n does not claim as a table have their bytes
    bytes_stay : (c : ℕ) → IsTrue (v.block_marked c) → ((m : ℕ) → IsTrue (is_table geo m) → record_use geo v old m ≡ Some c → ⊥) → after.bytes c ≡ v.bytes c
    bytes_stay c mark none =
        left.bytes c (leaves_taken geo v old p.points c (λ free. both_ways (v.block_marked c) free.unmarked mark)) none
        ∙ put_there v.bytes p.block c bytes (λ e. both_ways (v.block_marked c) (subst (λ q. IsFalse (v.block_marked q)) (sym e) p.free.unmarked) mark)

    other_uses : (i q : ℕ) → (i ≡ n → ⊥) → use_at geo v i q ≡ use_at geo after i q
    other_uses i q apart = uses_agree geo v after i q (λ number. sym (ap (λ (f : ℕ → Inode). f i) left.inode)) (λ m t above claim.
        let mine : IsMetadata geo v i m t = (claim, inl (above_table geo q m above)) in
        sym (bytes_stay t (g.marked i m t mine) (λ l table e. apart (g.once i m n l t mine (table_of_record l t table e claim.1)).0)))

    other_claims : (i q c : ℕ) → (i ≡ n → ⊥) → IsMetadata geo after i q c → IsMetadata geo v i q c
    other_claims i q c apart m = (
      (other_uses i q apart ∙ (m.0).0, (m.0).1),
      elim m.1 [ inl table ↦ inl table | inr d ↦ inr (ap (λ (f : ℕ → Inode). is_number geo i && is_sound geo (f i) && is_directory (f i)) (sym left.inode) ∙ d) ],
    )

    -- ---- the inode itself
    abbrev IsNewHere : ℕ → ℕ → Type 0
    IsNewHere q c = ((q ≡ k) × (c ≡ p.block)) ⊎ (IsAbove geo k q × IsNew geo v old p.points q c)

    abbrev New : ℕ → ℕ → ℕ → Type 0
    New i q c = (i ≡ n) × IsNewHere q c

    own_claims : (q c : ℕ) → MetadataOf geo after n new q c → IsMetadata geo v n q c ⊎ New n q c
    own_claims q c m = elim (came_use geo v old s.geometry new k p.block p.points comes before holds q c m.uses) [
      | inl was ↦ inl (metadata_from geo v n q c (record {
        number = m.number;
        uses = was.1;
        address = m.address;
        kind = elim m.kind [ inl table ↦ inl table | inr d ↦ inr (ap (λ y. is_directory (record old { mode = y })) (sym (pointed_like geo v old p.points).mode) ∙ d) ];
      }))
      | inr came ↦ inr (refl, came)
    ]

    new_fresh : (i q c : ℕ) → New i q c → IsFalse (v.block_marked c) × IsTrue (done.block_marked c)
    new_fresh i q c h = elim h.1 [
      | inl at ↦ subst (λ e. IsFalse (v.block_marked e) × IsTrue (done.block_marked e)) (sym at.1) (p.free.unmarked, left.marks_kept p.block (put_here v.block_marked p.block true))
      | inr t ↦ ((new_free geo v old p.points q c t.1).unmarked, new_marked geo v old p.points before q c t.1)
    ]

    placed_x : Good geo a content done
    placed_x = gains geo a content v g done New
        (λ i q c m. elim (record_metadata geo after i q c n new m) [
          | inl there ↦ inl (other_claims i q c there.0 there.1)
          | inr here ↦ subst (λ j. IsMetadata geo v j q c ⊎ New j q c) (sym here.0) (own_claims q c here.1)
        ])
        new_fresh (λ i q j l c f h. (f.0 ∙ sym h.0, came_once geo v old s.geometry new k p.block p.points comes before holds p.apart q l c f.1 h.1))
        (λ c m. left.marks_kept c (still_marked v.block_marked p.block c m)) (bytes_stay a g.mark (λ m table e. g.other n m (table_of_record m a table e g.address)))

    pub placed : Good geo a content w
    placed = subst (λ y. Good geo a content y) (sym (placed_whole geo v w n k bytes size p)) placed_x
