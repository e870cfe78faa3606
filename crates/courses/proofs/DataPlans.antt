-- The plans of writes, truncations, closings and repairs, update by update.
use Rattle.std.proofs.Common.{◌≡◌, ◌<◌, ℕ, ◌-◌, ◌==◌, Bool, true, false, ltb, List, [], ◌∷◌, map, Contains, inl, inr, sym, ap, ◌∙◌, subst, IsFalse, arith}
use Rattle.std.specs.Prelude.{if◌then◌else◌}
use Rattle.std.proofs.lemmas.Bool.{leb-true}
use Rattle.model.specs.Layout.{Geometry}
use Rattle.model.specs.View.{View, Inode, with_attributes}
use Rattle.model.specs.Cells.{SetInode, SetBlock, SetBytes}
use Rattle.model.specs.Shape.{most_blocks, place_in_table, pointer_in, IsAbove}
use Rattle.model.specs.Uses.{IsClaim, IsClaimed}
use Rattle.model.specs.Rules.{ObeysRules}
use Rattle.model.proofs.Uses.{above_table}
use Rattle.findings.specs.declared.repair.Repair.{Repair}
use Rattle.findings.specs.declared.repair.Repair.TheVariants.{DropInode, LowerCount, FreeBlock, FreeNumber}
use Rattle.ordering.specs.Agrees.{AllAgree}
use Rattle.ordering.specs.Cuts.{Cell, Record, BlockBit, Block, Pending, users_view}
use Rattle.ordering.specs.Ghosts.{Ghost, at_rest}
use Rattle.machine.specs.State.{State}
use Rattle.machine.specs.Cells.{block_of, with_pointer}
use Rattle.machine.specs.Effects.{size_after, with_links}
use Rattle.plans_data.specs.Now.{now}
use Rattle.plans_data.specs.Append.{Holder, KeptInRecord, KeptInTable, KeptInNew, IsWhole, IsSpare, filled, linked, pointed, pointer_after, known, sized, appended}
use Rattle.plans_data.specs.Freeing.{freeing}
use Rattle.plans_data.specs.Write.{MayWriteInPlace, MayWriteAppended, MayWriteMoved, written, relocated}
use Rattle.plans_data.specs.Truncate.{truncation}
use Rattle.plans_data.specs.Relink.{relinking, closing, repairing, goes_away}
use Rattle.plans_data.proofs.Append.{at, change}
use Rattle.plans_data.proofs.Blocks.{block_claimed, few_blocks}
use Rattle.plans_data.proofs.Holders.{first_of, later_of, one_of_both, unmapped, over_claimed}
use Rattle.plans_data.proofs.Linking.{At, further, table_uses}
use Rattle.plans_data.proofs.Moved.{MayMove, stays_claimed, no_new_table}
use Rattle.plans_data.proofs.Placed.{same_inode}
use Rattle.plans_data.proofs.WriteAppended.{may_append}
use Rattle.plans_data.proofs.WriteMoved.{may_move}
use Rattle.queue_model.proofs.NewClaims.{number_of_block}
use Rattle.courses.proofs.Fits.{AreOf}
use Rattle.courses.proofs.Walks.{Own, Fits, Start, On}
use Rattle.courses.proofs.Pieces.{unmarked_no_files, files_own, no_cells, one_block, one_more, both_of, Still, Fitting, fitting, nothing_yet, cleared_fits, record_still, record_fits, bytes_fits, bit_fits, filled_fits, freeing_still, bit_still, number_still}
use Rattle.plans_data.specs.Attributes.{attributing}

module _ (geo : Geometry) (disk : View) (q : List Pending) (rules : ObeysRules geo (users_view disk q)) where
  abbrev start : View
  start = users_view disk q

  -- ---- writes of a file

  module _ (n : ℕ) (one : (start.inode n).mode ≡ 1) where
    -- a larger size after blocks that the plan has written
    enlarged_fits : (inode : Inode) (size : ℕ) (after : List Cell) (p : List Pending) (calm : Bool) (ws : List ℕ) → Fits geo disk n q calm ws p → ((users_view disk p).inode n).mode ≡ 1 → AreOf geo (users_view disk p) after ws
        → (more : Bool) → Fitting geo disk n q (if more then record { change = SetInode n (sized inode size); after = after } ∷ p else p)
    enlarged_fits inode size after p calm ws f file of true = record_fits geo disk n q (sized inode size) after p calm ws f file of
    enlarged_fits inode size after p calm ws f file of false = (calm, ws, f)

    pub written_fits : (k b : ℕ) (bytes : List ℕ) (size : ℕ) → IsClaim geo start n k b → Fitting geo disk n q (written n (start.inode n) b bytes size q)
    written_fits k b bytes size claim =
        let u : Pending = record { change = SetBytes b bytes; after = [] } in
        enlarged_fits (start.inode n) size (Block b ∷ []) (u ∷ q) false (b ∷ [])
        (On u Start (Own b bytes [] (files_own geo start rules n k b claim) (no_cells geo start []))) one (one_block geo (users_view disk (u ∷ q)) b (b ∷ []) (first_of b [])) (ltb (start.inode n).size size)

    -- what a pointer comes after: a block that the plan has written, the record, and tables that are claimed
    pointer_of : (v : View) (place b : ℕ) (before over : List ℕ) (ws : List ℕ) → Contains ws b → ((c : ℕ) → Contains over c → IsClaimed geo v c) → AreOf geo v (pointer_after n place b before over) ws
    pointer_of v place b before over ws here claimed = one_more geo v b _ ws here (rest_of (pointer_in before place == 0))
      where
        rest_of : (none : Bool) → AreOf geo v (if none then [] else Record n ∷ map Block over) ws
        rest_of true = no_cells geo v ws
        rest_of false = λ c m. elim (one_of_both (Record n) (map Block over) (Block c) m) [
          | inl e ↦ cc
          | inr d ↦ let r = unmapped Block over (Block c) d in inr (claimed c (subst (λ y. Contains over y) (ap number_of_block r.2) r.1))
        ]

    over_of : (v : View) (over ws : List ℕ) → ((c : ℕ) → Contains over c → IsClaimed geo v c) → AreOf geo v (map Block over) ws
    over_of v over ws claimed c m = let r = unmapped Block over (Block c) m in inr (claimed c (subst (λ y. Contains over y) (ap number_of_block r.2) r.1))

    -- ---- a new pointer is put where it is kept
    -- the plan then, which has written the block, and what the record comes after
    record Ends (b : ℕ) (h : Holder) (ws : List ℕ) (p : List Pending) : Type 0 where
      calm : Bool
      written : List ℕ
      fits : Fits geo disk n q calm written p
      keeps : (c : ℕ) → Contains ws c → Contains written c
      of : AreOf geo (users_view disk p) (known b h) written

    module _ (ghost : Ghost) (whole : IsWhole geo start) (spare : IsSpare start ghost) where
      link_fits : (k b : ℕ) (h : Holder) (p : List Pending) → At geo disk q ghost n k b h p → (ws : List ℕ) → Contains ws b → Fits geo disk n q true ws p → Ends b h ws (linked geo n k b h p)
      link_fits k b KeptInRecord p at ws here f = record { calm = true; written = ws; fits = f; keeps = λ c i. i; of = one_block geo (users_view disk p) b ws here }
      link_fits k b (KeptInTable m x table over) p at ws here f =
          let after = pointer_after n (place_in_table geo k) b table over in
          let bytes = with_pointer table (place_in_table geo k) b in
          let u : Pending = record { change = SetBytes x bytes; after = after } in
          let claimed = over_claimed geo start n k b m x table over at.kept in
          record {
            calm = false;
            written = x ∷ ws;
            fits = On u f (Own x bytes after (files_own geo start rules n m x (at.kept).1) (pointer_of (users_view disk p) (place_in_table geo k) b table over ws here (λ c i. let r = claimed c i in (n, r.0, (sym (at.stage.quiet.uses n r.0) ∙ r.2.0, r.2.1)))));
            keeps = λ c i. later_of x ws c i;
            of = both_of geo (users_view disk (u ∷ p)) (map Block over) (Block x ∷ Block b ∷ []) (x ∷ ws)
                (over_of (users_view disk (u ∷ p)) over (x ∷ ws) (λ c i. let r = claimed c i in (n, r.0, (sym (at.stage.quiet.uses n r.0 ∙ table_uses geo disk q ghost n whole.geometry whole.blocks rules spare k b m x table over p at n r.0) ∙ r.2.0, r.2.1))))
                (one_more geo (users_view disk (u ∷ p)) x (Block b ∷ []) (x ∷ ws) (first_of x ws) (one_block geo (users_view disk (u ∷ p)) b (x ∷ ws) (later_of x ws b here)));
          }
      link_fits k b (KeptInNew m x table up) p at ws here f =
          let before : List Pending = record { change = SetBlock x true; after = [] } ∷ p in
          let founded : List Pending = record { change = SetBytes x table; after = BlockBit x ∷ Block b ∷ [] } ∷ before in
          let rest = link_fits m x up founded (further geo disk q ghost n whole.geometry whole.blocks rules spare k b m x table up p at) (x ∷ ws) (first_of x ws)
          (bytes_fits geo disk n q x table (BlockBit x ∷ Block b ∷ []) before ws (unmarked_no_files geo start rules x ((at.kept).2).free.unmarked) (bit_fits geo disk n q x true [] p ws f)) in
          record {
            calm = rest.calm;
            written = rest.written;
            fits = rest.fits;
            keeps = λ c i. rest.keeps c (later_of x ws c i);
            of = both_of geo (users_view disk (linked geo n m x up founded)) (known x up) (Block b ∷ []) rest.written rest.of
                (one_block geo (users_view disk (linked geo n m x up founded)) b rest.written (rest.keeps b (later_of x ws b here)));
          }

  -- ---- what these ask for says so

  pub in_place_fits : (old : State) (n k : ℕ) (piece bytes : List ℕ) → MayWriteInPlace geo (now disk q old) n k piece bytes
      → Fitting geo disk n q (written n (start.inode n) (block_of geo start n k) bytes (size_after start n k piece) q)
  in_place_fits old n k piece bytes may =
      written_fits n may.write.file k (block_of geo start n k) bytes (size_after start n k piece) (block_claimed geo start rules n k may.write.sound may.inside)

  module _ (old : State) (safe : ℕ → Bool) (all : AllAgree geo disk q (at_rest old.held safe)) where
    filled_first : (n b : ℕ) (bytes : List ℕ) → IsFalse (start.block_marked b) → Fits geo disk n q true (b ∷ []) (filled b bytes q)
    filled_first n b bytes unmarked = filled_fits geo disk n q b bytes q [] (unmarked_no_files geo start rules b unmarked) Start

    pub extended_fits : (n k b : ℕ) (piece bytes : List ℕ) (holder : Holder) → MayWriteAppended geo (now disk q old) n k b piece bytes holder
        → Fitting geo disk n q (appended geo n (start.inode n) k b bytes (size_after start n k piece) holder q)
    extended_fits n k b piece bytes holder may =
        let size = size_after start n k piece in
        let append = may_append geo disk q old safe n k b piece bytes holder may in
        let ends = link_fits n may.write.file (at_rest old.held safe) may.whole append.spare k b holder (filled b bytes q) (at geo disk q (at_rest old.held safe) n k b bytes size holder append all) (b ∷ []) (first_of b []) (filled_first n b bytes may.free.unmarked) in
        record_fits geo disk n q (sized (pointed geo (start.inode n) k b holder) size) (known b holder) (linked geo n k b holder (filled b bytes q)) ends.calm ends.written ends.fits
        (ap (λ (y : Inode). y.mode) (same_inode geo disk q n k b bytes size holder (change geo disk q (at_rest old.held safe) n k b bytes size holder append all)) ∙ may.write.file) ends.of

    pub moved_fits : (n k b : ℕ) (piece bytes : List ℕ) (holder : Holder) → MayWriteMoved geo (now disk q old) n k b piece bytes holder
        → Fitting geo disk n q (relocated geo n (start.inode n) k b bytes (size_after start n k piece) holder q)
    moved_fits n k b piece bytes KeptInRecord may =
        record_fits geo disk n q (sized (pointed geo (start.inode n) k b KeptInRecord) (size_after start n k piece)) (Block b ∷ []) (filled b bytes q) true (b ∷ []) (filled_first n b bytes may.free.unmarked) may.write.file
        (one_block geo (users_view disk (filled b bytes q)) b (b ∷ []) (first_of b []))
    moved_fits n k b piece bytes (KeptInTable m x table over) may =
        let size = size_after start n k piece in
        let moving = may_move geo disk q old safe n k b piece bytes all (KeptInTable m x table over) may in
        let claimed = over_claimed geo start n k b m x table over may.kept in
        let after = pointer_after n (place_in_table geo k) b table over in
        let u : Pending = record { change = SetBytes x (with_pointer table (place_in_table geo k) b); after = after } in
        let p : List Pending = u ∷ filled b bytes q in
        enlarged_fits n may.write.file (start.inode n) size (known b (KeptInTable m x table over)) p false (x ∷ b ∷ [])
        (On u (filled_first n b bytes may.free.unmarked) (Own x (with_pointer table (place_in_table geo k) b) after (files_own geo start rules n m x (may.kept).1)
        (pointer_of n may.write.file (users_view disk (filled b bytes q)) (place_in_table geo k) b table over (b ∷ []) (first_of b []) (λ c i. let r = claimed c i in (n, r.0, (sym (moving.filled.uses n r.0) ∙ r.2.0, r.2.1))))))
        may.write.file
        (both_of geo (users_view disk p) (map Block over) (Block x ∷ Block b ∷ []) (x ∷ b ∷ [])
        (over_of n may.write.file (users_view disk p) over (x ∷ b ∷ []) (λ c i. let r = claimed c i in (n, r.0, stays_claimed geo disk q old safe n k b bytes size m x table over moving r.0 c (no_table_at n k b size m x table over moving r.0 r.1) r.2)))
        (one_more geo (users_view disk p) x (Block b ∷ []) (x ∷ b ∷ []) (first_of x (b ∷ [])) (one_block geo (users_view disk p) b (x ∷ b ∷ []) (later_of x (b ∷ []) b (first_of b [])))))
        (ltb (start.inode n).size size)
      where
        no_table_at : (n k b size m x : ℕ) (table over : List ℕ) → MayMove geo disk q old safe n k b bytes size (KeptInTable m x table over) → (t : ℕ) → IsAbove geo m t → t ≡ k → ⊥
        no_table_at n k b size m x table over moving t up e =
            let past = leb-true (most_blocks geo) t (above_table geo m t up) in
            let low = omega_low n k b size m x table over moving in
            omega (arith, past, e, low)
          where
            omega_low : (n k b size m x : ℕ) (table over : List ℕ) → MayMove geo disk q old safe n k b bytes size (KeptInTable m x table over) → k < most_blocks geo
            omega_low n k b size m x table over moving = let most = few_blocks geo start n moving.sound in let inside = moving.inside in omega (arith, most, inside)
    moved_fits n k b piece bytes (KeptInNew m x table up) may =
        absurd (no_new_table geo disk q old safe n k b bytes (size_after start n k piece) m x table up (may_move geo disk q old safe n k b piece bytes all (KeptInNew m x table up) may))

  -- ---- plans that give no file a block

  pub truncation_fits : (file n : ℕ) (inode : Inode) (size : ℕ) (blocks : List ℕ) → Fitting geo disk file q (truncation n inode size blocks q)
  truncation_fits file n inode size blocks =
      cleared_fits geo disk file q n blocks (record { change = SetInode n (sized inode size); after = [] } ∷ q) (fitting geo disk file q _ (record_still geo disk file q n (sized inode size) q (nothing_yet geo disk file q)))

  pub attributing_fits : (file n : ℕ) (inode : Inode) (words : List ℕ) → Still geo disk file q (attributing n inode words q)
  attributing_fits file n inode words = record_still geo disk file q n (with_attributes inode words) q (nothing_yet geo disk file q)

  relinked_by : (file n : ℕ) (inode : Inode) (links : ℕ) (blocks : List ℕ) (goes : Bool) → Still geo disk file q (if goes then freeing n blocks [] q else record { change = SetInode n (with_links inode links); after = [] } ∷ q)
  relinked_by file n inode links blocks true = freeing_still geo disk file q n blocks [] q (nothing_yet geo disk file q)
  relinked_by file n inode links blocks false = record_still geo disk file q n (with_links inode links) q (nothing_yet geo disk file q)

  pub relinking_fits : (file n : ℕ) (inode : Inode) (links : ℕ) (opened : Bool) (blocks : List ℕ) → Still geo disk file q (relinking n inode links opened blocks q)
  relinking_fits file n inode links opened blocks = relinked_by file n inode links blocks (goes_away links opened)

  closed_by : (file n : ℕ) (blocks : List ℕ) (goes : Bool) → Still geo disk file q (if goes then freeing n blocks [] q else q)
  closed_by file n blocks true = freeing_still geo disk file q n blocks [] q (nothing_yet geo disk file q)
  closed_by file n blocks false = nothing_yet geo disk file q

  pub closing_fits : (file n : ℕ) (inode : Inode) (opened : Bool) (blocks : List ℕ) → Still geo disk file q (closing n inode opened blocks q)
  closing_fits file n inode opened blocks = closed_by file n blocks (goes_away inode.links opened)

  pub repairing_fits : (file : ℕ) (r : Repair) (inode : Inode) (opened : Bool) (blocks : List ℕ) → Still geo disk file q (repairing r inode opened blocks q)
  repairing_fits file (DropInode n) inode opened blocks = relinking_fits file n inode 0 opened blocks
  repairing_fits file (LowerCount n x) inode opened blocks = relinking_fits file n inode (inode.links - x) opened blocks
  repairing_fits file (FreeBlock a) inode opened blocks = bit_still geo disk file q a false [] q (nothing_yet geo disk file q)
  repairing_fits file (FreeNumber n) inode opened blocks = number_still geo disk file q n false [] q (nothing_yet geo disk file q)
