-- What is shown of the image is what is shown of what is kept of it.
use Rattle.std.proofs.Common.{◌≡◌, ◌<◌, ◌≤◌, ◌+◌, ◌*◌, ◌-◌, ◌/◌, ◌%◌, ◌&&◌, ℕ, zero, suc, Bool, true, false, cond, eqb, leb, ltb, min, List, [], ◌∷◌, ◌++◌, length, drop, take, Option, Some, None, Result, Ok, Err, OnErr, OnOk, inl, refl, sym, ap, ap₂, subst, ◌∙◌, arith}
use Rattle.std.specs.Prelude.{bit_and, is_some, not, option_map, unwrap_or}
use Rattle.attributes.specs.Kinds.{kind_of as number_of_kind, shown_mode}
use Rattle.attributes.specs.Words.{attributes_in}
use Rattle.attributes.specs.declared.Attributes.{Attributes as Own}
use Rattle.std.proofs.lemmas.Bool.{eq-eqb, le-leb, le-ltb, lt-ltb, ne_eqb}
use Rattle.census.specs.Census.{count_of}
use Rattle.census.specs.declared.counting.Counted.TheVariants.{FreeBlocks, FreeNumbers, UsedBlocks, UsedNumbers}
use Rattle.frozen.specs.Kept.{IsKeptOf, Kept, frozen_view}
use Rattle.fuse_wire.specs.declared.bodies.Attributes.{Attributes}
use Rattle.fuse_wire.specs.declared.bodies.Body.TheVariants as bodies
use Rattle.fuse_wire.specs.declared.bodies.Statistics.{Statistics}
use Rattle.fuse_wire.specs.declared.entries.Kind.{Kind}
use Rattle.fuse_wire.specs.declared.errors.Errno.TheVariants as errors
use Rattle.fuse_wire.specs.declared.numbers.Unique.{Unique}
use Rattle.fuse_wire.specs.Fields.{numbers}
use Rattle.fuse_wire.specs.Replies.{kind_number, padded}
use Rattle.live_paths.proofs.ShownLemmas.{shown_directory, shown_lookup, shown_slot}
use Rattle.machine.proofs.Decisions.{any_same}
use Rattle.machine.specs.Paths.{lookup}
use Rattle.model.proofs.Alike.{same_and}
use Rattle.model.proofs.Sums.{sum-same}
use Rattle.model.specs.Image.{image_view}
use Rattle.model.specs.Layout.{block_count, inode_count, is_data_address, is_number}
use Rattle.model.specs.Slots.{Slot, Absent, Empty, Good, Bad, slot}
use Rattle.model.specs.Uses.{blocks_of, is_directory_at}
use Rattle.model.specs.View.{Inode}
use Rattle.fuse_nodes.specs.Table.{Table, id_of}
use Rattle.fuse_reader.specs.declared.owner.Owner.{Owner}
use Rattle.fuse_reader.specs.Listings.{Listing, add_bytes, add_slot, kind_numbered, kind_of, listed, listing_from}
use Rattle.fuse_reader.specs.Pieces.{lacks_block, piece_blocks, piece_end, piece_of, seen_from}
use Rattle.fuse_reader.specs.Said.{Said, Refused, Says, Told, spelled, told}
use Rattle.fuse_reader.specs.Shown.{attributes_of, default_attributes, kept_time, kind_at, room_of, time_shown}
use Rattle.fuse_reader.specs.Turns.{attributes_said, directory_opened, entry_said, is_below_root, listed_said, looked_up, on_inode, opened_said, piece_said, read_said, sized, target_said, told_of, told_under}
use Rattle.fuse_reader.proofs.PieceLemmas.{lacks_none, same_claim, same_inode}

-- ---- clauses

-- what follows from a clause, and from two
pub on_ok : {T E P Q : Type 0} (r : Result T E) → OnOk r P → (P → Q) → OnOk r Q
on_ok (Ok x) p f = f p
on_ok (Err e) p f = tt

pub on_ok_both : {T E P Q R : Type 0} (r : Result T E) → OnOk r P → OnOk r Q → (P → Q → R) → OnOk r R
on_ok_both (Ok x) p q f = f p q
on_ok_both (Err e) p q f = tt

pub on_err : {T E P Q : Type 0} (r : Result T E) → OnErr r P → (P → Q) → OnErr r Q
on_err (Ok x) p f = tt
on_err (Err e) p f = f p

-- what holds whatever a call answers
pub on_err_too : {T E P : Type 0} (r : Result T E) → P → OnErr r P
on_err_too (Ok x) p = tt
on_err_too (Err e) p = p

-- ---- nodes

-- what is said of each inode alike is said alike
pub same_on : (f g : ℕ → Said) → ((i : ℕ) → f i ≡ g i) → (o : Option ℕ) → on_inode f o ≡ on_inode g o
same_on f g h None = refl
same_on f g h (Some i) = h i

-- what is said of an inode to who asks for no more than may be
pub says_on : (f : ℕ → Said) (o : Option ℕ) (i size : ℕ) (unique : Unique) (failed : Type 0) (reply : List ℕ) → o ≡ Some i → size ≤ 1048576 → Says unique (f i) failed reply
    → Says unique (on_inode (λ j. sized size (f j)) o) failed reply
says_on f o i size unique failed reply e small h =
    subst (λ p. Says unique (on_inode (λ j. sized size (f j)) p) failed reply) (sym e)
    (subst (λ x. Says unique x failed reply) (sym (ap (λ b. cond b (f i) (Refused errors.Invalid)) (le-leb size 1048576 small))) h)

module _ (kept : Kept) (image : List (List ℕ)) (is : IsKeptOf kept image) where
  pub same_directory : (i : ℕ) → is_directory_at kept.geometry (frozen_view kept) i ≡ is_directory_at kept.geometry (image_view kept.geometry image) i
  same_directory i = shown_directory kept (image_view kept.geometry image) is.metadata i

  -- ---- attributes

  same_attributes : (owner : Owner) (i : ℕ) → attributes_of kept.geometry (frozen_view kept) owner i ≡ attributes_of kept.geometry (image_view kept.geometry image) owner i
  same_attributes owner i =
      let shown : Inode → Bool → Attributes = λ r b.
      let own = unwrap_or (attributes_in r.attributes) (default_attributes owner b) in
      record {
        inode = i;
        size = r.size;
        blocks = 2 * blocks_of r.size;
        accessed = time_shown own.accessed;
        modified = time_shown own.modified;
        changed = time_shown own.changed;
        mode = shown_mode b own.mode;
        links = r.links;
        user = own.user;
        group = own.group;
        device = own.device;
        block_bytes = 1024;
      } in
      ap₂ shown (same_inode kept image is i) (same_directory i)

  pub same_kind_at : (i : ℕ) → kind_at kept.geometry (frozen_view kept) i ≡ kind_at kept.geometry (image_view kept.geometry image) i
  same_kind_at i =
      ap₂ (λ (r : Inode) b. number_of_kind b (unwrap_or (option_map (λ (own : Own). own.mode) (attributes_in r.attributes)) 0)) (same_inode kept image is i) (same_directory i)

  pub same_attributes_said : (owner : Owner) (o : Option ℕ)
      → on_inode (attributes_said kept.geometry (frozen_view kept) owner) o ≡ on_inode (attributes_said kept.geometry (image_view kept.geometry image) owner) o
  same_attributes_said owner o = same_on _ _ (λ i. ap (λ (a : Attributes). told (bodies.Attributes kept_time a)) (same_attributes owner i)) o

  -- ---- names

  same_lookup : (d : ℕ) (name : List ℕ) → lookup kept.geometry (frozen_view kept) d name ≡ lookup kept.geometry (image_view kept.geometry image) d name
  same_lookup d name = shown_lookup kept (image_view kept.geometry image) is.metadata d name

  same_entry : (owner : Owner) (t : Table) (o : Option ℕ)
      → entry_said kept.geometry (frozen_view kept) owner t o ≡ entry_said kept.geometry (image_view kept.geometry image) owner t o
  same_entry owner t None = refl
  same_entry owner t (Some i) =
      ap (λ (a : Attributes). cond (is_below_root kept.geometry i)
      (told (bodies.Entry (record { node = record { 0 = id_of t i }; generation = 0; name_kept = kept_time; attributes_kept = kept_time; attributes = a })))
      (Refused errors.Device)) (same_attributes owner i)

  pub same_looked_up : (owner : Owner) (t : Table) (name : List ℕ) (o : Option ℕ)
      → on_inode (looked_up kept.geometry (frozen_view kept) owner t name) o ≡ on_inode (looked_up kept.geometry (image_view kept.geometry image) owner t name) o
  same_looked_up owner t name o =
      same_on _ _ (λ d. ap₂ (λ b s. cond b (cond (leb (length name) 56) s (Refused errors.NameTooLong)) (Refused errors.NotDirectory)) (same_directory d)
      (ap (entry_said kept.geometry (frozen_view kept) owner t) (same_lookup d name) ∙ same_entry owner t (lookup kept.geometry (image_view kept.geometry image) d name))) o

  pub same_told : (name : List ℕ) (o : Option ℕ) → told_of kept.geometry (frozen_view kept) name o ≡ told_of kept.geometry (image_view kept.geometry image) name o
  same_told name None = refl
  same_told name (Some d) = ap₂ (λ b o. cond (b && leb (length name) 56) (told_under kept.geometry d name o) []) (same_directory d) (same_lookup d name)

  -- ---- opening

  pub same_opened : (flags : ℕ) (o : Option ℕ)
      → on_inode (opened_said kept.geometry (frozen_view kept) flags) o ≡ on_inode (opened_said kept.geometry (image_view kept.geometry image) flags) o
  same_opened flags o =
      same_on _ _ (λ i. ap (λ b. cond b (Refused errors.IsDirectory)
      (cond (eqb (bit_and flags 3) 0) (told (bodies.Opened (record { handle = record { 0 = 0 }; flags = 2 }))) (Refused errors.ReadOnly))) (same_directory i)) o

  pub same_directory_opened : (o : Option ℕ)
      → on_inode (directory_opened kept.geometry (frozen_view kept)) o ≡ on_inode (directory_opened kept.geometry (image_view kept.geometry image)) o
  same_directory_opened o =
      same_on _ _ (λ i. ap (λ b. cond b (told (bodies.Opened (record { handle = record { 0 = 0 }; flags = 10 }))) (Refused errors.NotDirectory)) (same_directory i)) o

  -- ---- listings

  same_kind : (i : ℕ) → kind_of kept.geometry (frozen_view kept) i ≡ kind_of kept.geometry (image_view kept.geometry image) i
  same_kind i = ap kind_numbered (same_kind_at i)

  same_added : (room s : ℕ) (x : Slot) (l : Listing) → add_slot kept.geometry (frozen_view kept) room s x l ≡ add_slot kept.geometry (image_view kept.geometry image) room s x l
  same_added room s Absent l = refl
  same_added room s Empty l = refl
  same_added room s (Good i name) l =
      ap (λ (k : Kind). add_bytes room ((numbers 8 (i ∷ (s + 1) ∷ []) ++ numbers 4 (length name ∷ kind_number k ∷ [])) ++ padded name) l) (same_kind i)
  same_added room s Bad l = refl

  same_slot : (d s : ℕ) → slot kept.geometry (frozen_view kept) d s ≡ slot kept.geometry (image_view kept.geometry image) d s
  same_slot d s = shown_slot kept (image_view kept.geometry image) is.metadata d s

  same_listed : (d room from n : ℕ) → listed kept.geometry (frozen_view kept) d room from n ≡ listed kept.geometry (image_view kept.geometry image) d room from n
  unfolding listed
  same_listed d room from zero = refl
  same_listed d room from (suc n) =
      ap₂ (add_slot kept.geometry (frozen_view kept) room (from + n)) (same_slot d (from + n)) (same_listed d room from n)
      ∙ same_added room (from + n) (slot kept.geometry (image_view kept.geometry image) d (from + n)) (listed kept.geometry (image_view kept.geometry image) d room from n)

  same_listing : (d from room : ℕ) → listing_from kept.geometry (frozen_view kept) d from room ≡ listing_from kept.geometry (image_view kept.geometry image) d from room
  same_listing d from room =
      ap (λ (r : Inode). (listed kept.geometry (frozen_view kept) d room from (16 * blocks_of r.size - from)).bytes) (same_inode kept image is d)
      ∙ ap (λ (l : Listing). l.bytes) (same_listed d room from (16 * blocks_of ((image_view kept.geometry image).inode d).size - from))

  pub same_listed_said : (from size : ℕ) (o : Option ℕ)
      → on_inode (λ d. sized size (listed_said kept.geometry (frozen_view kept) from size d)) o
      ≡ on_inode (λ d. sized size (listed_said kept.geometry (image_view kept.geometry image) from size d)) o
  same_listed_said from size o =
      same_on _ _ (λ d. ap₂ (λ b (bytes : List ℕ). cond (leb size 1048576) (cond b (Told bytes) (Refused errors.NotDirectory)) (Refused errors.Invalid)) (same_directory d)
      (same_listing d from size)) o

  -- ---- the room

  same_used_blocks : count_of kept.geometry (frozen_view kept) UsedBlocks ≡ count_of kept.geometry (image_view kept.geometry image) UsedBlocks
  same_used_blocks =
      sum-same (block_count kept.geometry) _ _ (λ a below. ap (λ b. cond b 1 0) (same_and (is_data_address kept.geometry a) _ _ (is.metadata.block_marked a)))

  same_free_blocks : count_of kept.geometry (frozen_view kept) FreeBlocks ≡ count_of kept.geometry (image_view kept.geometry image) FreeBlocks
  same_free_blocks =
      sum-same (block_count kept.geometry) _ _
      (λ a below. ap (λ b. cond b 1 0) (same_and (is_data_address kept.geometry a) _ _ (λ t. ap not (is.metadata.block_marked a t))))

  same_used_numbers : count_of kept.geometry (frozen_view kept) UsedNumbers ≡ count_of kept.geometry (image_view kept.geometry image) UsedNumbers
  same_used_numbers =
      sum-same (inode_count kept.geometry) _ _ (λ i below. ap (λ b. cond b 1 0) (same_and (is_number kept.geometry i) _ _ (is.metadata.number_marked i)))

  same_free_numbers : count_of kept.geometry (frozen_view kept) FreeNumbers ≡ count_of kept.geometry (image_view kept.geometry image) FreeNumbers
  same_free_numbers =
      sum-same (inode_count kept.geometry) _ _
      (λ i below. ap (λ b. cond b 1 0) (same_and (is_number kept.geometry i) _ _ (λ t. ap not (is.metadata.number_marked i t))))

  pub same_room : room_of kept.geometry (frozen_view kept) ≡ room_of kept.geometry (image_view kept.geometry image)
  same_room =
      let shown : ℕ → ℕ → ℕ → ℕ → Statistics = λ used free marked spare. record {
        blocks = used + free;
        free_blocks = free;
        available_blocks = free;
        inodes = marked + spare;
        free_inodes = spare;
        block_bytes = 1024;
        name_bytes = 56;
      } in
      ap₂ (λ used free. shown used free (count_of kept.geometry (frozen_view kept) UsedNumbers) (count_of kept.geometry (frozen_view kept) FreeNumbers)) same_used_blocks same_free_blocks
      ∙ ap₂ (shown (count_of kept.geometry (image_view kept.geometry image) UsedBlocks) (count_of kept.geometry (image_view kept.geometry image) FreeBlocks)) same_used_numbers same_free_numbers

  -- ---- pieces

  pub same_lacks : (i k n : ℕ) → lacks_block kept.geometry (frozen_view kept) i k n ≡ lacks_block kept.geometry (image_view kept.geometry image) i k n
  same_lacks i k n =
      any_same n _ _ (λ j below. ap (λ o. not (is_some o)) (same_claim kept.geometry (frozen_view kept) (image_view kept.geometry image) is.metadata i (k + j)))

  -- the blocks are there, or one is not
  pub piece_there : (i offset bytes count : ℕ) (unique : Unique) (failed : Type 0) (reply got : List ℕ)
      → lacks_block kept.geometry (frozen_view kept) i (offset / 1024) count ≡ false
      → got ≡ seen_from kept.geometry (image_view kept.geometry image) i (offset / 1024) count
      → reply ≡ spelled unique (Told (take bytes (drop (offset % 1024) got)))
      → Says unique (piece_said kept.geometry (image_view kept.geometry image) offset bytes count i) failed reply
  piece_there i offset bytes count unique failed reply got whole same r =
      let view = image_view kept.geometry image in
      inl (r ∙ ap (λ xs. spelled unique (Told (take bytes (drop (offset % 1024) xs)))) same
      ∙ sym (ap (λ b. spelled unique (cond b (Refused errors.Device) (Told (piece_of kept.geometry view i offset bytes count))))
      (sym (same_lacks i (offset / 1024) count) ∙ whole)))

  pub piece_lacks : (i offset bytes count : ℕ) (unique : Unique) (failed : Type 0) (reply : List ℕ)
      → lacks_block kept.geometry (frozen_view kept) i (offset / 1024) count ≡ true → reply ≡ spelled unique (Refused errors.Device)
      → Says unique (piece_said kept.geometry (image_view kept.geometry image) offset bytes count i) failed reply
  piece_lacks i offset bytes count unique failed reply lacks r =
      let view = image_view kept.geometry image in
      inl (r ∙ sym (ap (λ b. spelled unique (cond b (Refused errors.Device) (Told (piece_of kept.geometry view i offset bytes count))))
      (sym (same_lacks i (offset / 1024) count) ∙ lacks)))

  same_end : (i offset size : ℕ) → piece_end (image_view kept.geometry image) i offset size ≡ piece_end (frozen_view kept) i offset size
  same_end i offset size = ap (λ (r : Inode). min (offset + size) r.size) (sym (same_inode kept image is i))

  module _ (i offset size end : ℕ) (no_directory : is_directory_at kept.geometry (frozen_view kept) i ≡ false) (here : end ≡ piece_end (frozen_view kept) i offset size) where
    end_there : piece_end (image_view kept.geometry image) i offset size ≡ end
    end_there = same_end i offset size ∙ sym here

    -- of a file a piece is said, as long as the file reaches
    read_piece : (count : ℕ) → cond (ltb offset end) (blocks_of end - offset / 1024) 0 ≡ count
        → read_said kept.geometry (image_view kept.geometry image) offset size i ≡ piece_said kept.geometry (image_view kept.geometry image) offset (end - offset) count i
    read_piece count e =
        let view = image_view kept.geometry image in
        let blocks : piece_blocks view i offset size ≡ count = ap (λ n. cond (ltb offset n) (blocks_of n - offset / 1024) 0) end_there ∙ e in
        ap (λ b. cond b (Refused errors.IsDirectory) (piece_said kept.geometry view offset (piece_end view i offset size - offset) (piece_blocks view i offset size) i))
        (sym (same_directory i) ∙ no_directory)
        ∙ ap₂ (λ n c. piece_said kept.geometry view offset (n - offset) c i) end_there blocks

    pub read_of : (unique : Unique) (failed : Type 0) (reply : List ℕ) → offset < end
        → Says unique (piece_said kept.geometry (image_view kept.geometry image) offset (end - offset) (blocks_of end - offset / 1024) i) failed reply
        → Says unique (read_said kept.geometry (image_view kept.geometry image) offset size i) failed reply
    read_of unique failed reply before h =
        subst (λ x. Says unique x failed reply)
        (sym (read_piece (blocks_of end - offset / 1024) (ap (λ b. cond b (blocks_of end - offset / 1024) 0) (lt-ltb offset end before)))) h

    -- and nothing where the file ends before
    pub read_nothing : end ≤ offset → read_said kept.geometry (image_view kept.geometry image) offset size i ≡ Told []
    read_nothing after =
        let view = image_view kept.geometry image in
        let none : end - offset ≡ 0 = omega (arith, after) in
        read_piece 0 (ap (λ b. cond b (blocks_of end - offset / 1024) 0) (le-ltb offset end after))
        ∙ ap (λ n. piece_said kept.geometry view offset n 0 i) none
        ∙ ap (λ b. cond b (Refused errors.Device) (Told [])) (lacks_none kept.geometry view i (offset / 1024))

  pub read_of_directory : (i offset size : ℕ) → is_directory_at kept.geometry (frozen_view kept) i ≡ true
      → read_said kept.geometry (image_view kept.geometry image) offset size i ≡ Refused errors.IsDirectory
  read_of_directory i offset size e =
      let view = image_view kept.geometry image in
      ap (λ b. cond b (Refused errors.IsDirectory) (piece_said kept.geometry view offset (piece_end view i offset size - offset) (piece_blocks view i offset size) i))
      (sym (same_directory i) ∙ e)

  -- ---- targets

  -- the bytes that are the target of a symbolic link
  abbrev target : ℕ → Said
  target i = read_said kept.geometry (image_view kept.geometry image) 0 4095 i

  pub target_of : (i : ℕ) (unique : Unique) (failed : Type 0) (reply : List ℕ) → kind_at kept.geometry (frozen_view kept) i ≡ 10 → Says unique (target i) failed reply
      → Says unique (target_said kept.geometry (image_view kept.geometry image) i) failed reply
  target_of i unique failed reply e h =
      subst (λ x. Says unique x failed reply)
      (sym (ap (λ b. cond b (target i) (Refused errors.Invalid)) (eq-eqb (kind_at kept.geometry (image_view kept.geometry image) i) 10 (sym (same_kind_at i) ∙ e)))) h

  pub no_target : (i : ℕ) → (kind_at kept.geometry (frozen_view kept) i ≡ 10 → ⊥) → target_said kept.geometry (image_view kept.geometry image) i ≡ Refused errors.Invalid
  no_target i apart =
      ap (λ b. cond b (target i) (Refused errors.Invalid)) (ne_eqb (kind_at kept.geometry (image_view kept.geometry image) i) 10 (λ e. apart (same_kind_at i ∙ e)))
