-- The updates of a write leave the blocks of files as they are, but for the block that is written.
use Rattle.std.proofs.Common.{◌≡◌, ℕ, ltb, Bool, true, false, List, [], ◌∷◌, ◌⊎◌, inl, inr, refl, sym, ap, ◌∙◌, subst, Some, IsTrue, IsFalse, arith}
use Rattle.std.specs.Prelude.{if◌then◌else◌}
use Rattle.std.proofs.lemmas.Bool.{both_ways, cases_eq, and_parts, le-leb}
use Rattle.model.specs.Layout.{Geometry, is_number}
use Rattle.model.specs.View.{View, Inode}
use Rattle.model.specs.Cells.{Update, SetInode, SetBlock, SetBytes, updated, put_at}
use Rattle.model.specs.Shape.{most_blocks, is_table, place_in_table}
use Rattle.model.specs.Uses.{IsClaim, IsUse, blocks_of, is_sound, is_sound_at, record_use, use_at}
use Rattle.model.specs.Rules.{ObeysRules}
use Rattle.model.proofs.Shape.{table_is_table}
use Rattle.model.proofs.Uses.{use_number, number_use, record_uses_agree, same_fields, bytes_leave_uses, above_table}
use Rattle.model.proofs.NewRecord.{other_use, other_mode}
use Rattle.model.proofs.Places.{put_here, put_there}
use Rattle.ordering.specs.Agrees.{AllAgree}
use Rattle.ordering.specs.Cuts.{Cell, Record, BlockBit, Block, Pending, users_view}
use Rattle.ordering.specs.Ghosts.{Ghost, at_rest}
use Rattle.ordering.proofs.Bits.{users_obey}
use Rattle.machine.specs.State.{State}
use Rattle.machine.specs.Cells.{with_pointer}
use Rattle.plans_data.specs.Append.{Holder, KeptInRecord, KeptInTable, KeptInNew, IsWhole, IsSpare, MayAppend, filled, known, linked, pointed, pointer_after, sized, appended}
use Rattle.plans_data.specs.Write.{relocated, written}
use Rattle.plans_data.proofs.Append.{at, change, done}
use Rattle.plans_data.proofs.Linking.{At, further, unclaimed_new, claimed_table, table_uses}
use Rattle.plans_data.proofs.Moved.{MayMove, change as moving_change, was_claimed, slot_others, no_new_table, claim2}
use Rattle.plans_data.proofs.Numbers.{still_sound}
use Rattle.plans_data.proofs.Placed.{Change, came_at, contents, same_inode}
use Rattle.queue_model.specs.Files.{creates}
use Rattle.queue_model.proofs.FileLemmas.{in_use}
use Rattle.courses.proofs.Fits.{IsNoFiles, bit_fewer, bytes_fewer}
use Rattle.courses.proofs.Firm.{Keeps, Firm, Begin, Further}

module _ (geo : Geometry) (i k : ℕ) (bytes : List ℕ) where
  -- the block at position k of file i has these bytes
  abbrev pub Put : ℕ → ℕ → List ℕ → Type 0
  Put n j held = (n ≡ i) × (j ≡ k) × (held ≡ bytes)

  quiet : (v : View) (u : Update) → (v.inode i).mode ≡ 1 → (n j : ℕ) (held : List ℕ) → Put n j held → IsFalse (creates v u n)
  quiet v u one n j held x =
      let same : (v.inode n).mode ≡ (v.inode i).mode = ap (λ m. (v.inode m).mode) x.0 in
      in_use v u n (λ z. let zero : (v.inode n).mode ≡ 0 = z in omega (arith, zero, same, one))

  bit_keep : (v : View) (a : ℕ) (m : Bool) → Keeps geo Put v (SetBlock a m)
  bit_keep v a m n j b (c, low, one) = let r = bit_fewer geo v a m n j b c one in inl ((r.0, low, r.1), refl)

  -- a block of no file
  other_keep : (v : View) (a : ℕ) (held : List ℕ) → IsNoFiles geo v a → Keeps geo Put v (SetBytes a held)
  other_keep v a held none n j b (c, low, one) =
      let r = bytes_fewer geo v a held none n j b c one in
      inl ((r.0, low, r.1), put_there v.bytes a b held (λ e. none n j (subst (λ y. IsClaim geo v n j y) e r.0) r.1))

  -- the file's block in place
  own_keep : (v : View) → ObeysRules geo v → (b : ℕ) → IsClaim geo v i k b → IsFalse (is_table geo k) → Keeps geo Put v (SetBytes b bytes)
  own_keep v rules b claim below n j a (c, low, one) =
      let stay = bytes_leave_uses geo v b bytes n (λ m table d. both_ways (is_table geo k) below (subst (λ t. IsTrue (is_table geo t)) (rules.rule3.once n m i k b d claim).1 table)) j in
      let old : IsClaim geo v n j a = (stay ∙ c.0, c.1) in
      elim (cases_eq a b) [
        | inl e ↦ let both = rules.rule3.once n j i k b (subst (λ y. IsClaim geo v n j y) e old) claim in inr (both.0, both.1, ap (put_at v.bytes b bytes) e ∙ put_here v.bytes b bytes)
        | inr other ↦ inl ((old, low, one), put_there v.bytes b a bytes other)
      ]

  -- new bytes of a table that change no use
  table_keep : (v : View) → ObeysRules geo v → (m x : ℕ) (held : List ℕ) → IsTrue (is_table geo m) → IsClaim geo v i m x → ((n j : ℕ) → use_at geo v n j ≡ use_at geo (updated v (SetBytes x held)) n j) → Keeps geo Put v (SetBytes x held)
  table_keep v rules m x held table claim uses n j a (c, low, one) =
      let old : IsClaim geo v n j a = (uses n j ∙ c.0, c.1) in
      inl ((old, low, one), put_there v.bytes x a held (λ e. both_ways (is_table geo j) low (subst (λ t. IsTrue (is_table geo t)) (sym (rules.rule3.once n j i m x (subst (λ y. IsClaim geo v n j y) e old) claim).1) table)))

  -- the file's record with a larger size over the same blocks
  size_keep : (v : View) (size : ℕ) → (v.inode i).mode ≡ 1 → IsTrue (is_sound_at geo v i) → blocks_of (v.inode i).size ≡ blocks_of size → Keeps geo Put v (SetInode i (sized (v.inode i) size))
  size_keep v size file sound same n j a (c, low, one) = elim (cases_eq n i) [
    | inr other ↦ inl (((other_use geo v i (sized (v.inode i) size) n j other ∙ c.0, c.1), low, other_mode geo v i (sized (v.inode i) size) n other ∙ one), refl)
    | inl e ↦
        let x : Inode = sized (v.inode i) size in
        let w : View = updated v (SetInode i x) in
        let u = use_number geo w i j a (subst (λ m. IsUse geo w m j a) e c.0) in
        let was = (and_parts (is_number geo i) (is_sound geo (v.inode i)) sound).1 in
        let used : record_use geo v (v.inode i) j ≡ Some a
        = same_fields geo v (v.inode i) x was (still_sound geo (v.inode i) x file file (sym same) was) same (λ q. refl) j
        ∙ record_uses_agree geo v w x j (λ m t above d y. refl) ∙ ap (λ y. record_use geo w y j) (sym (put_here v.inode i x)) ∙ u.1 in
        inl (((subst (λ m. IsUse geo v m j a) (sym e) (number_use geo v i j a u.0 used), c.1), low, ap (λ m. (v.inode m).mode) e ∙ file), refl)
  ]

  -- ---- the plans

  module _ (disk : View) (q : List Pending) (file : ((users_view disk q).inode i).mode ≡ 1) (sound : IsTrue (is_sound_at geo (users_view disk q) i)) where
    abbrev start : View
    start = users_view disk q

    abbrev inode : Inode
    inode = start.inode i

    abbrev Goes : List Pending → Type 0
    Goes p = Firm geo Put disk q p

    -- a larger size, if it is one
    larger : (p : List Pending) (x : Inode) (after : List Cell) (more : Bool) → Goes p → Keeps geo Put (users_view disk p) (SetInode i x) → ((users_view disk p).inode i).mode ≡ 1
        → Goes (if more then record { change = SetInode i x; after = after } ∷ p else p)
    larger p x after true f keeps one = Further (record { change = SetInode i x; after = after }) f keeps (quiet (users_view disk p) (SetInode i x) one)
    larger p x after false f keeps one = f

    pub written_firm : ObeysRules geo start → (b size : ℕ) → IsClaim geo start i k b → IsFalse (is_table geo k) → blocks_of inode.size ≡ blocks_of size → Goes (written i inode b bytes size q)
    written_firm rules b size claim below same =
        let u : Pending = record { change = SetBytes b bytes; after = [] } in
        larger (u ∷ q) (sized inode size) (Block b ∷ []) (ltb inode.size size) (Further u Begin (own_keep start rules b claim below) (quiet start (SetBytes b bytes) file))
        (size_keep (users_view disk (u ∷ q)) size file sound same) file

    filled_firm : (b : ℕ) → IsNoFiles geo start b → Goes (filled b bytes q)
    filled_firm b none =
        Further (record { change = SetBytes b bytes; after = BlockBit b ∷ [] })
        (Further (record { change = SetBlock b true; after = [] }) Begin (bit_keep start b true) (quiet start (SetBlock b true) file))
        (other_keep (updated start (SetBlock b true)) b bytes (λ n j c one. let r = bit_fewer geo start b true n j b c one in none n j r.0 r.1)) (quiet (updated start (SetBlock b true)) (SetBytes b bytes) file)

    -- the new record, once the pointers stand where they are kept, with no other use changed
    record_keep : (b size : ℕ) (h : Holder) (c : Change geo disk q i k b bytes size h)
        → ((j : ℕ) → use_at geo start i j ≡ use_at geo (users_view disk (linked geo i k b h (filled b bytes q))) i j)
        → Keeps geo Put (users_view disk (linked geo i k b h (filled b bytes q))) (SetInode i (sized (pointed geo inode k b h) size))
    record_keep b size h c uses n j a (d, low, one) = elim (cases_eq n i) [
      | inr other ↦ inl (((other_use geo v i x n j other ∙ d.0, d.1), low, other_mode geo v i x n other ∙ one), refl)
      | inl e ↦
          let u = use_number geo w i j a (subst (λ m. IsUse geo w m j a) e d.0) in
          let used : record_use geo v x j ≡ Some a = record_uses_agree geo v w x j (λ m t above d y. refl) ∙ ap (λ y. record_use geo w y j) (sym (put_here v.inode i x)) ∙ u.1 in
          elim (came_at geo disk q i k b bytes size h c j a used) [
            | inl was ↦ inl (
              (
                (subst (λ m. IsUse geo v m j a) (sym e) (sym (uses j) ∙ number_use geo start i j a u.0 was.1), d.1),
                low,
                ap (λ m. (v.inode m).mode) e ∙ ap (λ (y : Inode). y.mode) (same_inode geo disk q i k b bytes size h c) ∙ file,
              ),
              refl,
            )
            | inr new ↦ elim new [
              | inl is ↦ inr (e, is.0, ap v.bytes is.1 ∙ contents geo disk q i k b bytes size h c)
              | inr table ↦ absurd (both_ways (is_table geo j) low (above_table geo k j table.0))
            ]
          ]
    ]
      where
        v : View
        v = users_view disk (linked geo i k b h (filled b bytes q))

        x : Inode
        x = sized (pointed geo inode k b h) size

        w : View
        w = updated (users_view disk (linked geo i k b h (filled b bytes q))) (SetInode i (sized (pointed geo inode k b h) size))

    -- ---- after the last block
    module _ (ghost : Ghost) (rules : ObeysRules geo start) (whole : IsWhole geo start) (spare : IsSpare start ghost) where
      link_firm : (l c : ℕ) (h : Holder) (p : List Pending) → At geo disk q ghost i l c h p → Goes p → Goes (linked geo i l c h p)
      link_firm l c KeptInRecord p turn f = f
      link_firm l c (KeptInTable m x table over) p turn f =
          Further (record { change = SetBytes x (with_pointer table (place_in_table geo l) c); after = pointer_after i (place_in_table geo l) c table over }) f
          (table_keep (users_view disk p) (users_obey geo disk p ghost turn.stage.quiet.goes.all) m x (with_pointer table (place_in_table geo l) c) (le-leb (most_blocks geo) m (table_is_table geo l m turn.kept.0))
          (claimed_table geo disk q ghost i whole.geometry whole.blocks rules spare l c m x table over p turn)
          (table_uses geo disk q ghost i whole.geometry whole.blocks rules spare l c m x table over p turn))
          (quiet (users_view disk p) (SetBytes x (with_pointer table (place_in_table geo l) c)) (ap (λ (y : Inode). y.mode) turn.stage.inode ∙ file))
      link_firm l c (KeptInNew m x table up) p turn f =
          let one : ((users_view disk p).inode i).mode ≡ 1 = ap (λ (y : Inode). y.mode) turn.stage.inode ∙ file in
          let marked : View = updated (users_view disk p) (SetBlock x true) in
          link_firm m x up _ (further geo disk q ghost i whole.geometry whole.blocks rules spare l c m x table up p turn)
          (Further (record { change = SetBytes x table; after = BlockBit x ∷ Block c ∷ [] })
          (Further (record { change = SetBlock x true; after = [] }) f (bit_keep (users_view disk p) x true) (quiet (users_view disk p) (SetBlock x true) one))
          (other_keep marked x table (λ n j d single. let r = bit_fewer geo (users_view disk p) x true n j x d single in unclaimed_new geo disk q ghost i whole.geometry whole.blocks rules spare l c m x table up p turn n j r.0))
          (quiet marked (SetBytes x table) one))

    pub append_firm : (ghost : Ghost) (b size : ℕ) (h : Holder) (may : MayAppend geo start ghost i k b bytes size h) → AllAgree geo disk q ghost → IsNoFiles geo start b → Goes (appended geo i inode k b bytes size h q)
    append_firm ghost b size h may all none =
        let rules = users_obey geo disk q ghost all in
        let p : List Pending = linked geo i k b h (filled b bytes q) in
        let x : Inode = sized (pointed geo inode k b h) size in
        let c = change geo disk q ghost i k b bytes size h may all in
        Further (record { change = SetInode i x; after = known b h })
        (link_firm ghost rules may.whole may.spare k b h (filled b bytes q) (at geo disk q ghost i k b bytes size h may all) (filled_firm b none))
        (record_keep b size h c (λ j. (done geo disk q ghost i k b bytes size h may all).quiet.uses i j))
        (quiet (users_view disk p) (SetInode i x) (ap (λ (y : Inode). y.mode) (same_inode geo disk q i k b bytes size h c) ∙ file))

    -- ---- over a block that is kept
    pub move_firm : (old : State) (safe : ℕ → Bool) (b size : ℕ) (h : Holder) → MayMove geo disk q old safe i k b bytes size h → IsNoFiles geo start b → Goes (relocated geo i inode k b bytes size h q)
    move_firm old safe b size KeptInRecord may none =
        Further (record { change = SetInode i (sized (pointed geo inode k b KeptInRecord) size); after = known b KeptInRecord }) (filled_firm b none)
        (record_keep b size KeptInRecord (moving_change geo disk q old safe i k b bytes size KeptInRecord may) (λ j. may.filled.uses i j))
        (quiet (users_view disk (filled b bytes q)) (SetInode i (sized (pointed geo inode k b KeptInRecord) size)) file)
    move_firm old safe b size (KeptInTable m x table over) may none =
        larger (slot ∷ filled b bytes q) (sized inode size) (known b (KeptInTable m x table over)) (ltb inode.size size)
        (Further slot (filled_firm b none) slot_keep (quiet u2 slot.change file)) (size_keep u3 size file sound may.blocks) file
      where
        h : Holder
        h = KeptInTable m x table over

        slot : Pending
        slot = record { change = SetBytes x (with_pointer table (place_in_table geo k) b); after = pointer_after i (place_in_table geo k) b table over }

        u2 : View
        u2 = users_view disk (filled b bytes q)

        u3 : View
        u3 = updated (users_view disk (filled b bytes q)) (SetBytes x (with_pointer table (place_in_table geo k) b))

        slot_keep : Keeps geo Put (users_view disk (filled b bytes q)) (SetBytes x (with_pointer table (place_in_table geo k) b))
        slot_keep n j a (c, low, one) = elim (cases_eq n i) [
          | inr other ↦ unchanged ((slot_others geo disk q old safe i k b bytes size m x table over may n j other ∙ c.0, c.1))
          | inl e ↦ elim (was_claimed geo disk q old safe i k b bytes size m x table over may j a (subst (λ l. IsUse geo u3 l j a) e c.0, c.1)) [
            | inl was ↦ unchanged (subst (λ l. IsUse geo u2 l j a) (sym e) (sym (may.filled.uses i j) ∙ was.1.0), c.1)
            | inr is ↦ inr (e, is.0, ap (u3.bytes) is.1 ∙ contents geo disk q i k b bytes size h (moving_change geo disk q old safe i k b bytes size h may))
          ]
        ]
          where
            unchanged : IsClaim geo u2 n j a → ((IsClaim geo u2 n j a × IsFalse (is_table geo j) × ((u2.inode n).mode ≡ 1)) × (u3.bytes a ≡ u2.bytes a)) ⊎ Put n j (u3.bytes a)
            unchanged d =
                inl (
                  (d, low, one),
                  put_there u2.bytes x a _ (λ e. both_ways (is_table geo j) low
                      (subst (λ t. IsTrue (is_table geo t)) (sym ((users_obey geo disk (filled b bytes q) (at_rest old.held safe) may.filled.goes.all).rule3.once n j i m x (subst (λ y. IsClaim geo u2 n j y) e d) (claim2 geo disk q old safe i k b bytes size m x table over may)).1)
                      (le-leb (most_blocks geo) m (table_is_table geo k m may.kept.0)))),
                )
    move_firm old safe b size (KeptInNew m x table up) may none = absurd (no_new_table geo disk q old safe i k b bytes size m x table up may)
