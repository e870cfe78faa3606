-- The plans of the commands that change data, and of repairs, give new metadata its bytes.
use Rattle.std.proofs.Common.{◌≡◌, ◌<◌, ◌≤◌, ◌+◌, ◌-◌, ℕ, Bool, true, false, cond, ltb, List, [], ◌∷◌, length, inl, inr, refl, sym, ◌∙◌, subst, IsTrue, arith, eqb-true}
use Rattle.std.proofs.lemmas.Bool.{cases_lt, and_parts}
use Rattle.model.specs.Layout.{Geometry, is_number}
use Rattle.model.specs.View.{View, Inode, with_attributes}
use Rattle.model.specs.Cells.{SetInode, SetBytes}
use Rattle.model.specs.Shape.{most_blocks, top, field_at}
use Rattle.model.specs.Uses.{blocks_of, has_position, is_sound, is_sound_at, is_directory}
use Rattle.model.specs.Rules.{ObeysRules}
use Rattle.model.proofs.Shape.{more_reach}
use Rattle.model.proofs.Steps.{use_sound}
use Rattle.model.proofs.Uses.{use_has, below_has, same_field}
use Rattle.findings.specs.declared.repair.Repair.{Repair}
use Rattle.findings.specs.declared.repair.Repair.TheVariants.{DropInode, LowerCount, FreeBlock, FreeNumber}
use Rattle.ordering.specs.Cuts.{Cell, Block, Pending, users_view}
use Rattle.machine.specs.Cells.{block_of}
use Rattle.machine.specs.Effects.{with_links, size_after}
use Rattle.machine.specs.State.{State}
use Rattle.plans_data.specs.Append.{Holder, KeptInRecord, KeptInTable, KeptInNew, AreApart, filled, linked, sized, known, appended}
use Rattle.plans_data.specs.Freeing.{freeing}
use Rattle.plans_data.specs.Now.{now}
use Rattle.plans_data.specs.Relink.{goes_away, relinking, closing, repairing, inode_of}
use Rattle.plans_data.specs.Truncate.{MayTruncate, truncation}
use Rattle.plans_data.specs.Write.{MayWriteInPlace, MayWriteAppended, MayWriteMoved, enlarged, written, relocated}
use Rattle.plans_data.proofs.Blocks.{block_claimed, few_blocks, same_blocks, one_more}
use Rattle.plans_data.proofs.Holders.{none_new}
use Rattle.kept_claims.proofs.Views.{MetadataOf, metadata_from}
use Rattle.kept_claims.proofs.Since.{Since, nothing, start as nothing_yet, number_on, block_on, bytes_on, record_on, links_on, cleared_on, freeing_on, data_no_table, attributes_on}
use Rattle.kept_claims.proofs.Grows.{Gets, Grown, linked_once, tables_on}
use Rattle.plans_data.specs.Attributes.{attributing}

module _ (geo : Geometry) (disk : View) (q : List Pending) where
  abbrev start : View
  start = users_view disk q

  -- either of two lists of updates
  either_on : (t : Bool) (p p' : List Pending) (new : ℕ → ℕ → Type 0) → Since geo disk q p new → Since geo disk q p' new → Since geo disk q (cond t p p') new
  either_on true p p' new s s' = s
  either_on false p p' new s s' = s'

  -- a file's record with the same pointers, and no more blocks
  file_on : (p : List Pending) (new : ℕ → ℕ → Type 0) → Since geo disk q p new → (n : ℕ) (x : Inode) (after : List Cell) → (users_view disk p).inode n ≡ start.inode n → IsTrue (is_sound_at geo start n) → x.mode ≡ 1
      → ((l : ℕ) → field_at geo x l ≡ field_at geo (start.inode n) l) → blocks_of x.size ≤ blocks_of (start.inode n).size → Since geo disk q (record { change = SetInode n x; after = after } ∷ p) new
  file_on p new s n x after here sound one fields few = record_on geo disk q p new s n x after (λ k a m.
      let v = users_view disk p in
      let y = start.inode n in
      let parts = and_parts (is_number geo n) (is_sound geo y) sound in
      let has = use_has geo v x k a m.uses in
      let had : IsTrue (has_position geo y k) = more_reach geo (blocks_of x.size) (blocks_of y.size) k few has in
      metadata_from geo v n k a (subst (λ z. MetadataOf geo v n z k a) (sym here) (record {
        number = parts.0;
        uses = sym (same_field geo v x y (use_sound geo v x k a m.uses) parts.1 k has had (fields (top geo k))) ∙ m.uses;
        address = m.address;
        kind = elim m.kind [ inl table ↦ inl table | inr d ↦ absurd (let two : x.mode ≡ 2 = eqb-true x.mode 2 d in omega (arith, one, two)) ];
      })))

  -- ---- links, handles and repairs

  relinking_since : (n links : ℕ) (opened : Bool) (blocks : List ℕ) → Since geo disk q (relinking n (start.inode n) links opened blocks q) nothing
  relinking_since n links opened blocks =
      either_on (goes_away links opened) (freeing n blocks [] q) (record { change = SetInode n (with_links (start.inode n) links); after = [] } ∷ q) nothing
      (freeing_on geo disk q n blocks [] q nothing (nothing_yet geo disk q)) (links_on geo disk q q nothing (nothing_yet geo disk q) n (with_links (start.inode n) links) [] links refl)

  pub attributing_since : (n : ℕ) (words : List ℕ) → Since geo disk q (attributing n (start.inode n) words q) nothing
  attributing_since n words = attributes_on geo disk q q nothing (nothing_yet geo disk q) n (with_attributes (start.inode n) words) [] words refl

  pub closing_since : (n : ℕ) (opened : Bool) (blocks : List ℕ) → Since geo disk q (closing n (start.inode n) opened blocks q) nothing
  closing_since n opened blocks = either_on (goes_away (start.inode n).links opened) (freeing n blocks [] q) q nothing (freeing_on geo disk q n blocks [] q nothing (nothing_yet geo disk q)) (nothing_yet geo disk q)

  pub repairing_since : (r : Repair) (opened : Bool) (blocks : List ℕ) → Since geo disk q (repairing r (inode_of start r) opened blocks q) nothing
  repairing_since (DropInode n) opened blocks = relinking_since n 0 opened blocks
  repairing_since (LowerCount n x) opened blocks = relinking_since n ((start.inode n).links - x) opened blocks
  repairing_since (FreeBlock a) opened blocks = block_on geo disk q q nothing (nothing_yet geo disk q) a false []
  repairing_since (FreeNumber n) opened blocks = number_on geo disk q q nothing (nothing_yet geo disk q) n false []

  -- ---- data

  pub truncation_since : (old : State) (n size : ℕ) (blocks : List ℕ) → MayTruncate geo (now disk q old) n size blocks → Since geo disk q (truncation n (start.inode n) size blocks q) nothing
  truncation_since old n size blocks may =
      cleared_on geo disk q n blocks (record { change = SetInode n (sized (start.inode n) size); after = [] } ∷ q) nothing
      (file_on q nothing (nothing_yet geo disk q) n (sized (start.inode n) size) [] refl may.sound may.file (λ l. refl) (let less = may.no_more in omega (arith, less)))

  module _ (rules : ObeysRules geo start) where
    enlarged_on : (p : List Pending) (new : ℕ → ℕ → Type 0) → Since geo disk q p new → (n size : ℕ) (after : List Cell) → (users_view disk p).inode n ≡ start.inode n → IsTrue (is_sound_at geo start n) → (start.inode n).mode ≡ 1
        → blocks_of (start.inode n).size ≡ blocks_of size → Since geo disk q (enlarged n (start.inode n) size after p) new
    enlarged_on p new s n size after here sound one same =
        either_on (ltb (start.inode n).size size) (record { change = SetInode n (sized (start.inode n) size); after = after } ∷ p) p new
        (file_on p new s n (sized (start.inode n) size) after here sound one (λ l. refl) (omega (arith, same))) s

    pub written_since : (old : State) (n k : ℕ) (piece bytes : List ℕ) → MayWriteInPlace geo (now disk q old) n k piece bytes
        → Since geo disk q (written n (start.inode n) (block_of geo start n k) bytes (size_after start n k piece) q) nothing
    written_since old n k piece bytes may =
        let few = few_blocks geo start n may.write.sound in
        let low : k < most_blocks geo = let inside = may.inside in omega (arith, few, inside) in
        let claim = block_claimed geo start rules n k may.write.sound may.inside in
        let s = bytes_on geo disk q q nothing (nothing_yet geo disk q) (block_of geo start n k) bytes [] (data_no_table geo start rules n k (block_of geo start n k) low claim) in
        enlarged_on (record { change = SetBytes (block_of geo start n k) bytes; after = [] } ∷ q) nothing s n (size_after start n k piece) (Block (block_of geo start n k) ∷ []) refl may.write.sound may.write.file
        (same_blocks (start.inode n).size k (length piece) may.inside may.write.few)

    -- what a write puts behind the blocks of a file, or elsewhere
    module _ (old : State) (n k b : ℕ) (piece bytes : List ℕ) (holder : Holder) where
      abbrev size : ℕ
      size = size_after start n k piece

      -- a file is no directory
      no_directory : (start.inode n).mode ≡ 1 → IsTrue (is_directory (start.inode n)) → ⊥
      no_directory one d = let two : (start.inode n).mode ≡ 2 = eqb-true (start.inode n).mode 2 d in omega (arith, one, two)

      pub appended_since : MayWriteAppended geo (now disk q old) n k b piece bytes holder → Since geo disk q (appended geo n (start.inode n) k b bytes size holder q) (Grown nothing k b holder)
      appended_since may =
          linked_once geo disk q rules q nothing (nothing_yet geo disk q) (λ l c table m. m) n (start.inode n).links k b size bytes holder refl gets (λ m x table c. refl)
        where
          one : blocks_of size ≡ 1 + k
          one = one_more (start.inode n).size k (length piece) may.next may.write.some may.write.few

          gets : Gets geo start n k b size holder
          gets = record {
            whole = may.whole;
            sound = may.write.sound;
            room = may.room;
            free = may.free;
            kept = may.kept;
            apart = may.apart;
            untouched = λ has d. no_directory may.write.file d;
            more = let next = may.next in omega (arith, one, next);
            inside = omega (arith, one);
            few = let room = may.room in omega (arith, one, room);
            came = λ j less. elim (cases_lt j k) [ inl low ↦ inl (let next = may.next in omega (arith, low, next)) | inr high ↦ inr (omega (arith, high, less, one)) ];
          }

      moved_gets : MayWriteMoved geo (now disk q old) n k b piece bytes holder → Gets geo start n k b size holder
      moved_gets may = record {
        whole = may.whole;
        sound = may.write.sound;
        room = omega (arith, may.inside, few);
        free = may.free;
        kept = may.kept;
        apart = subst (λ xs. AreApart (b ∷ xs)) (sym (none_new geo start n k b holder may.kept (below_has geo (start.inode n) k may.inside few))) (tt, tt);
        untouched = λ has d. no_directory may.write.file d;
        more = omega (arith, same);
        inside = let inside = may.inside in omega (arith, inside, same);
        few = omega (arith, same, few);
        came = λ j less. inl (omega (arith, less, same));
      }
        where
          few : blocks_of (start.inode n).size ≤ most_blocks geo
          few = few_blocks geo start n may.write.sound

          same : blocks_of (start.inode n).size ≡ blocks_of size
          same = same_blocks (start.inode n).size k (length piece) may.inside may.write.few

    pub relocated_since : (old : State) (n k b : ℕ) (piece bytes : List ℕ) (holder : Holder) → MayWriteMoved geo (now disk q old) n k b piece bytes holder
        → Since geo disk q (relocated geo n (start.inode n) k b bytes (size_after start n k piece) holder q) (Grown nothing k b holder)
    relocated_since old n k b piece bytes KeptInRecord may =
        linked_once geo disk q rules q nothing (nothing_yet geo disk q) (λ l c table m. m) n (start.inode n).links k b (size_after start n k piece) bytes KeptInRecord refl
        (moved_gets old n k b piece bytes KeptInRecord may) (λ m x table c. refl)
    relocated_since old n k b piece bytes (KeptInNew m x table up) may =
        linked_once geo disk q rules q nothing (nothing_yet geo disk q) (λ l c table m. m) n (start.inode n).links k b (size_after start n k piece) bytes (KeptInNew m x table up) refl
        (moved_gets old n k b piece bytes (KeptInNew m x table up) may) (λ m x table c. refl)
    relocated_since old n k b piece bytes (KeptInTable m x table over) may =
        enlarged_on (linked geo n k b (KeptInTable m x table over) (filled b bytes q)) (Grown nothing k b (KeptInTable m x table over))
        (tables_on geo disk q rules q nothing (nothing_yet geo disk q) (λ l c table m. m) n (start.inode n).links k b (size_after start n k piece) bytes (KeptInTable m x table over) refl
        (moved_gets old n k b piece bytes (KeptInTable m x table over) may) (λ m x table c. refl))
        n (size_after start n k piece) (known b (KeptInTable m x table over)) refl may.write.sound may.write.file (same_blocks (start.inode n).size k (length piece) may.inside may.write.few)
