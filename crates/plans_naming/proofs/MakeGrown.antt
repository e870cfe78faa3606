-- A directory is made in one that gets a block for its entry: the updates in their order, and the entry as users see it.
use Rattle.std.proofs.Common.{◌≡◌, ◌<◌, ◌+◌, ◌/◌, ℕ, Bool, true, false, eqb, List, ◌++◌, length, replicate, All, inl, inr, refl, sym, ap, ◌∙◌, subst, arith, IsTrue, IsFalse, eq-eqb}
use Rattle.std.proofs.lemmas.Bool.{cases_eq, both_ways, or_left}
use Rattle.std.proofs.lemmas.List.{length-replicate, length-append}
use Rattle.std.proofs.lemmas.List.Elements.{All-append, All-replicate}
use Rattle.model.specs.Layout.{Geometry, is_number}
use Rattle.model.specs.View.{View, Inode}
use Rattle.model.specs.Cells.{put_at}
use Rattle.model.specs.Image.{IsBlock}
use Rattle.model.specs.Uses.{blocks_of, IsClaim, direct_positions}
use Rattle.model.specs.Rules.{ObeysRules}
use Rattle.model.proofs.SlotLemmas.{number_low, directory_number, reachable_directory}
use Rattle.model.proofs.Places.{put_here, put_there}
use Rattle.model.proofs.SameTree.{count_back}
use Rattle.ordering.specs.Cuts.{Cell, Record, Block, Pending, users_view, IsAfter}
use Rattle.ordering.specs.Ghosts.{Ghost, at_rest}
use Rattle.ordering.specs.Agrees.{AllAgree}
use Rattle.ordering.specs.Rewrites.{entered}
use Rattle.ordering.specs.OneSlot.{now_entered}
use Rattle.ordering.specs.Histories.{EntersDirectory}
use Rattle.ordering.proofs.Bits.{users_obey}
use Rattle.ordering.proofs.Places.{place_back}
use Rattle.machine.specs.Cells.{with_slot, Enters}
use Rattle.machine.specs.Whole.{HasWholeBlocks}
use Rattle.machine.specs.Effects.{with_links, new_directory, AreDots}
use Rattle.plans_data.specs.Issues.{Issues, Then}
use Rattle.plans_data.specs.Append.{Holder, KeptInRecord, KeptInTable, KeptInNew, IsSpare, IsKeptIn, new_blocks}
use Rattle.plans_data.proofs.Chains.{issues_agree, joined}
use Rattle.plans_data.proofs.Holders.{is_none}
use Rattle.plans_naming.specs.Entries.{UnmarkedAreNotHeld, slot_written}
use Rattle.plans_naming.specs.Grow.{CanGrow, empty_block, grown}
use Rattle.plans_naming.specs.Make.{CanMakeGrown, made, making_grown}
use Rattle.plans_naming.proofs.DirectoryEntries.{may_enter_directory}
use Rattle.plans_naming.proofs.Dots.{dots_first}
use Rattle.plans_naming.proofs.Folders.{SameFolder, takes_there, blocks_there}
use Rattle.plans_naming.proofs.MakeInSlot.{entered_again}
use Rattle.plans_naming.proofs.MakeOrder.{made_issues, dots_before}
use Rattle.plans_naming.proofs.MakeViews.{v5, more, unclaimed, apart, made_folder, made_tree, made_unnamed, made_record, made_dots, parent_record}
use Rattle.plans_naming.proofs.Puts.{new_name}
use Rattle.plans_naming.proofs.Rooms.{grow_there, NewRoom, Grows, grow_issues, IsOtherTable, after_grown, fills_slot, enters_in_block}

dots_whole : (i d : ℕ) (bytes : List ℕ) → AreDots i d bytes → IsBlock bytes
dots_whole i d bytes h = subst IsBlock (sym h.whole) (record {
  length = long;
  bytes = All-append (λ b. b < 256) (h.own ++ h.parent) (replicate 896 0) (All-append (λ b. b < 256) h.own h.parent h.names_own.bytes h.names_parent.bytes) zeroes;
})
  where
    long : length (h.own ++ h.parent ++ replicate 896 0) ≡ 1024
    long =
        let a : length h.own ≡ 64 = h.names_own.whole in
        let b : length h.parent ≡ 64 = h.names_parent.whole in
        omega (arith, length-append (h.own ++ h.parent) (replicate 896 0), length-append h.own h.parent, length-replicate {A = ℕ} 896 0, a, b)

    zeroes : All (λ b. b < 256) (replicate 896 0)
    zeroes = All-replicate (λ b. b < 256) 896 0 (omega arith)

-- ---- what is known once the new directory has its record

module _ (geo : Geometry) (v : View) (rules : ObeysRules geo v) (i a : ℕ) (words dots : List ℕ) (d b : ℕ) (kept : Holder) (s : ℕ) (name entry : List ℕ) (after : List Cell)
    (can : CanMakeGrown geo v i a dots d b kept s name entry after) where
  abbrev w : View
  w = v5 geo v rules i a d words dots can.make can.enter.reachable

  parent : w.inode d ≡ with_links (v.inode d) ((v.inode d).links + 1)
  parent = parent_record geo v rules i a d words dots can.make can.enter.reachable

  pub not_claimed : (m x : ℕ) → IsClaim geo v d m x → x ≡ a → ⊥
  not_claimed m x c e = unclaimed geo v rules i a d words dots can.make can.enter.reachable (d, m, subst (λ y. IsClaim geo v d m y) e c)

  pub other_table : IsOtherTable a kept
  other_table = go (blocks_of (v.inode d).size) b kept can.enter.grow.kept
    where
      go : (k b : ℕ) (h : Holder) → IsKeptIn geo v d k b h → IsOtherTable a h
      go k b KeptInRecord h = tt
      go k b (KeptInTable m x table over) h = λ e. not_claimed m x h.1 e
      go k b (KeptInNew m x table up) h = go m x up h.3

  pub can_grow : CanGrow geo w d b kept
  can_grow = grow_there geo v w d b kept can.enter.grow pointers blocks (ap (λ (y : Inode). y.size) parent)
      (made_folder geo v rules i a d words dots can.make can.enter.reachable)
      (put_there v.block_marked a b true (can.other).0 ∙ (can.enter.grow.free).unmarked)
      (λ x c f. put_there v.block_marked a x true (is_none a x (new_blocks kept) (can.other).1 c) ∙ f)
      (λ m x c. sym (put_there v.bytes a x dots (not_claimed m x c)))
    where
      pointers : (m : ℕ) → IsTrue (is_number geo m) → length (w.inode m).direct ≡ direct_positions
      pointers m number = elim (cases_eq m i) [
        | inl e ↦ ap (λ k. length (w.inode k).direct) e ∙ ap (λ (y : Inode). length y.direct) (made_record geo v rules i a d words dots can.make can.enter.reachable) ∙ ap (λ n. 1 + n) (length-replicate {A = ℕ} 11 0)
        | inr e ↦ elim (cases_eq m d) [
          | inl f ↦ ap (λ k. length (w.inode k).direct) f ∙ ap (λ (y : Inode). length y.direct) parent ∙ ap (λ k. length (v.inode k).direct) (sym f) ∙ (can.enter.grow.whole).pointers m number
          | inr f ↦ ap (λ (y : Inode). length y.direct) (put_there (put_at v.inode d (more geo v rules i a d words dots can.make can.enter.reachable)) i m (new_directory a words) e ∙ put_there v.inode d m (more geo v rules i a d words dots can.make can.enter.reachable) f)
              ∙ (can.enter.grow.whole).pointers m number
        ]
      ]

      blocks : HasWholeBlocks geo w
      blocks c address = elim (cases_eq c a) [
        | inl e ↦ subst (λ k. IsBlock (put_at v.bytes a dots k)) (sym e) (subst IsBlock (sym (put_here v.bytes a dots)) (dots_whole i d dots can.make.are_dots))
        | inr e ↦ subst IsBlock (sym (put_there v.bytes a c dots e)) ((can.enter.grow.whole).blocks c address)
      ]

  pub still_spare : (held : ℕ → Bool) → UnmarkedAreNotHeld v held → (c : ℕ) → IsFalse (w.block_marked c) → IsFalse (held c)
  still_spare held marked c f = elim (cases_eq c a) [
    | inl e ↦ absurd (both_ways (put_at v.block_marked a true c) f (subst (λ k. IsTrue (put_at v.block_marked a true k)) (sym e) (put_here v.block_marked a true)))
    | inr e ↦ marked c (sym (put_there v.block_marked a c true e) ∙ f)
  ]

module _ (geo : Geometry) (disk : View) (q : List Pending) (held safe : ℕ → Bool) (marked : UnmarkedAreNotHeld (users_view disk q) held)
    (i a : ℕ) (words dots : List ℕ) (d b : ℕ) (kept : Holder) (s : ℕ) (name entry : List ℕ) (after : List Cell) (can : CanMakeGrown geo (users_view disk q) i a dots d b kept s name entry after)
    (all : AllAgree geo disk q (at_rest held safe)) where
  abbrev ghost : Ghost
  ghost = at_rest held safe

  abbrev ghost' : Ghost
  ghost' = entered i ghost

  abbrev users : View
  users = users_view disk q

  abbrev x : Inode
  x = users.inode d

  abbrev y : Inode
  y = with_links x (x.links + 1)

  abbrev p : List Pending
  p = made i a words dots d x q

  abbrev mid : View
  mid = users_view disk p

  o : ObeysRules geo users
  o = users_obey geo disk q ghost all

  not_held : IsFalse (held a)
  not_held = marked a can.make.block_unmarked

  first : Issues geo disk q ghost p ghost'
  first = made_issues geo disk q held safe i a d words dots can.make can.enter.reachable not_held all

  all5 : AllAgree geo disk p ghost'
  all5 = issues_agree geo disk q ghost p ghost' first all

  folder : SameFolder geo users mid d
  folder = made_folder geo users o i a d words dots can.make can.enter.reachable

  here : mid.inode d ≡ y
  here = parent_record geo users o i a d words dots can.make can.enter.reachable

  spare : IsSpare mid ghost'
  spare c f = (still_spare geo users o i a words dots d b kept s name entry after can held marked c f, λ n k. refl)

  grow_now : CanGrow geo mid d b kept
  grow_now = can_grow geo users o i a words dots d b kept s name entry after can

  grows : Grows geo disk p ghost' d y b kept s
  grows = grow_issues geo disk p ghost' d y b kept s here grow_now (folder.reach can.enter.reachable) spare can.enter.stands all5

  pub making_grown_enters : Enters geo mid d name i (users_view disk (making_grown geo i a words dots d x b kept s entry after q))
  making_grown_enters = enters_in_block geo disk p ghost' d y b kept s here grow_now (folder.reach can.enter.reachable) spare can.enter.stands all5 i name entry after can.says

  abbrev q2 : List Pending
  q2 = grown geo d y b kept p

  abbrev w2 : View
  w2 = users_view disk q2

  second : Issues geo disk q ghost q2 ghost'
  second = joined geo disk q ghost p ghost' q2 ghost' first grows.issues

  room : NewRoom geo mid w2 d b s
  room = grows.room

  apart_it : d ≡ i → ⊥
  apart_it = apart geo users o i a d words dots can.make can.enter.reachable

  record_is : w2.inode i ≡ new_directory a words
  record_is = room.records i (λ e. apart_it (sym e)) ∙ made_record geo users o i a d words dots can.make can.enter.reachable

  parent_number : IsTrue (is_number geo d)
  parent_number = directory_number geo users d (reachable_directory geo users d can.enter.reachable)

  dots_are : w2.bytes a ≡ dots
  dots_are =
      let at = made_dots geo users o i a d words dots can.make can.enter.reachable in
      let claim = dots_first geo mid i d a dots can.make.are_dots can.make.number parent_number can.make.address (made_record geo users o i a d words dots can.make can.enter.reachable) at in
      sym ((room.folder i (λ e. apart_it (sym e))).bytes 0 a (omega arith) claim) ∙ at

  still_before : IsAfter disk q2 (Record i) (Block a)
  still_before = after_grown geo disk p d y b kept (Record i) a can.other (other_table geo users o i a words dots d b kept s name entry after can)
      (dots_before geo disk q held safe i a d words dots can.make can.enter.reachable not_held all)

  pub making_grown_issues : Issues geo disk q ghost (making_grown geo i a words dots d x b kept s entry after q) ghost
  making_grown_issues =
      let links : (w2.inode d).links ≡ x.links + 1 = room.links ∙ ap (λ (z : Inode). z.links) here in
      let low = number_low geo d parent_number in
      let enter = may_enter_directory geo disk q2 ghost' after b (with_slot empty_block s entry) d s i a name dots (users_obey geo disk q2 ghost' (issues_agree geo disk q ghost q2 ghost' second all))
      (fills_slot geo mid w2 d b s i name entry room (takes_there geo users mid d folder name can.enter.takes) can.make.number can.says)
      (new_name geo w2 d s b name after (room.takes name (takes_there geo users mid d folder name can.enter.takes)) (room.others after (blocks_there geo users mid d folder after can.enter.blocks_first)))
      can.make.are_dots can.make.number can.make.address record_is dots_are
      (λ e t c z. made_unnamed geo users o i a d words dots can.make can.enter.reachable e t c (place_back geo mid w2 room.tree i e t c z)) apart_it
      (λ g. refl) (or_left (eqb i i) false (eq-eqb i i refl)) can.record_first still_before
      (λ cut closed f g c. grows.credit cut closed g d (s / 16) c)
      (λ m h.
      let then = count_back geo mid w2 room.tree d m (omega (arith, low)) h in
      let was = count_back geo users mid (made_tree geo users o i a d words dots can.make can.enter.reachable) d then.0 (omega (arith, low)) then.1 in
      let enough = o.rule8 d was.0 (inl can.enter.reachable) was.1 in
      omega (arith, then.2, was.2, enough, links)) in
      subst (λ g. Issues geo disk q ghost (making_grown geo i a words dots d x b kept s entry after q) g) (entered_again geo disk q held safe i a words dots d s b name entry after)
      (Then (slot_written b empty_block s entry after) (now_entered i ghost') second (EntersDirectory after b (with_slot empty_block s entry) d s i a name enter))
