-- A file gets one more name in a directory that gets a block for it: what users see, and the updates in their order.
use Rattle.std.proofs.Common.{◌≡◌, ◌+◌, ℕ, Bool, List, length, inl, inr, refl, sym, ap, ◌∙◌, subst, arith, IsTrue}
use Rattle.std.proofs.lemmas.Bool.{cases_eq, and_from}
use Rattle.model.specs.Layout.{Geometry, is_number}
use Rattle.model.specs.View.{View, Inode}
use Rattle.model.specs.Cells.{SetInode, updated, put_at}
use Rattle.model.specs.Uses.{is_sound, direct_positions}
use Rattle.model.specs.Slots.{Empty, Good}
use Rattle.model.specs.Rules.{ObeysRules}
use Rattle.model.proofs.SlotLemmas.{reachable_directory, number_low}
use Rattle.model.proofs.Places.{put_here, put_there}
use Rattle.model.proofs.SameTree.{count_back}
use Rattle.ordering.specs.Cuts.{Cell, Pending, users_view}
use Rattle.ordering.specs.Ghosts.{Ghost, at_rest}
use Rattle.ordering.specs.Agrees.{AllAgree}
use Rattle.ordering.specs.Kinds.{SameBody}
use Rattle.ordering.specs.OneSlot.{ChangesSlot}
use Rattle.ordering.specs.Histories as histories
use Rattle.ordering.proofs.Bits.{users_obey}
use Rattle.ordering.proofs.Data.{directory_mode}
use Rattle.ordering.proofs.Records.{body_shape}
use Rattle.machine.specs.State.{State}
use Rattle.machine.specs.Cells.{with_slot, Enters}
use Rattle.machine.specs.Paths.{holder, name_in, number_at}
use Rattle.machine.specs.Effects.{with_links, Links}
use Rattle.plans_data.specs.Issues.{Issues, Then}
use Rattle.plans_data.specs.Append.{Holder}
use Rattle.plans_data.proofs.Chains.{issues_agree, joined}
use Rattle.plans_naming.specs.Entries.{UnmarkedAreNotHeld}
use Rattle.plans_naming.specs.Grow.{CanGrow, empty_block, grown}
use Rattle.plans_naming.specs.Link.{CanLinkGrown, raised, linking_grown}
use Rattle.plans_naming.proofs.Folders.{SameFolder, body_folder, takes_there, blocks_there}
use Rattle.plans_naming.proofs.Links.{same_body, reachable_parts, raised_leads}
use Rattle.plans_naming.proofs.Puts.{may_enter, new_name}
use Rattle.plans_naming.proofs.Rooms.{grow_there, Grows, grow_issues, fills_slot, enters_in_block}

-- another record of an inode with its pointers, and a directory that may grow
pub grow_beside : (geo : Geometry) (v : View) (i : ℕ) (x : Inode) (d b : ℕ) (kept : Holder) → CanGrow geo v d b kept → x.direct ≡ (v.inode i).direct → (d ≡ i → ⊥) → SameFolder geo v (updated v (SetInode i x)) d
    → CanGrow geo (updated v (SetInode i x)) d b kept
grow_beside geo v i x d b kept can direct apart folder =
    grow_there geo v (updated v (SetInode i x)) d b kept can pointers (can.whole).blocks (ap (λ (y : Inode). y.size) parent) folder (can.free).unmarked (λ y i f. f) (λ m y c. refl)
  where
    parent : put_at v.inode i x d ≡ v.inode d
    parent = put_there v.inode i d x apart

    pointers : (m : ℕ) → IsTrue (is_number geo m) → length (put_at v.inode i x m).direct ≡ direct_positions
    pointers m number = elim (cases_eq m i) [
      | inl e ↦ ap (λ k. length (put_at v.inode i x k).direct) e ∙ ap (λ (y : Inode). length y.direct) (put_here v.inode i x) ∙ ap (λ (l : List ℕ). length l) direct
          ∙ ap (λ k. length (v.inode k).direct) (sym e) ∙ (can.whole).pointers m number
      | inr e ↦ ap (λ (y : Inode). length y.direct) (put_there v.inode i m x e) ∙ (can.whole).pointers m number
    ]

module _ (geo : Geometry) (disk : View) (q : List Pending) (held safe : ℕ → Bool) (marked : UnmarkedAreNotHeld (users_view disk q) held)
    (i d b : ℕ) (kept : Holder) (s : ℕ) (name entry : List ℕ) (after : List Cell) (can : CanLinkGrown geo (users_view disk q) i d b kept s name entry after)
    (all : AllAgree geo disk q (at_rest held safe)) where
  abbrev pub ghost : Ghost
  ghost = at_rest held safe

  abbrev users : View
  users = users_view disk q

  abbrev x : Inode
  x = users.inode i

  abbrev more : Inode
  more = with_links x (x.links + 1)

  abbrev p : List Pending
  p = raised i x q

  abbrev mid : View
  mid = users_view disk p

  o : ObeysRules geo users
  o = users_obey geo disk q ghost all

  pub parts : IsTrue (is_number geo i) × IsTrue (is_sound geo x)
  parts = reachable_parts geo users i can.reachable

  pub body : SameBody geo x more
  body = same_body geo x (x.links + 1) parts.1

  first : Issues geo disk q ghost p ghost
  first = raised_leads geo disk q ghost i parts.1

  all1 : AllAgree geo disk p ghost
  all1 = issues_agree geo disk q ghost p ghost first all

  folder : SameFolder geo users mid d
  folder = body_folder geo users i more d body

  pub apart : d ≡ i → ⊥
  apart e =
      let two : (users.inode d).mode ≡ 2 = directory_mode geo users d (reachable_directory geo users d can.enter.reachable) in
      let one : (users.inode d).mode ≡ 1 = subst (λ n. (users.inode n).mode ≡ 1) (sym e) can.file in
      omega (arith, one, two)

  parent : mid.inode d ≡ users.inode d
  parent = put_there users.inode i d more apart

  can_grow : CanGrow geo mid d b kept
  can_grow = grow_beside geo users i more d b kept can.enter.grow refl apart folder

  pub grows : Grows geo disk p ghost d (users.inode d) b kept s
  grows = grow_issues geo disk p ghost d (users.inode d) b kept s parent can_grow (folder.reach can.enter.reachable) (λ a f. (marked a f, λ m k. refl)) can.enter.stands all1

  pub linking_grown_enters : Enters geo mid d name i (users_view disk (linking_grown geo i x d (users.inode d) b kept s entry after q))
  linking_grown_enters = enters_in_block geo disk p ghost d (users.inode d) b kept s parent can_grow (folder.reach can.enter.reachable) (λ a f. (marked a f, λ m k. refl)) can.enter.stands all1 i name entry after can.says

  abbrev pub q2 : List Pending
  q2 = grown geo d (users.inode d) b kept p

  abbrev w : View
  w = users_view disk q2

  pub second : Issues geo disk q ghost q2 ghost
  second = joined geo disk q ghost p ghost q2 ghost first grows.issues

  pub record_is : w.inode i ≡ more
  record_is = (grows.room).records i (λ e. apart (sym e)) ∙ put_here users.inode i more

  pub fills : ChangesSlot geo w b (with_slot empty_block s entry) d s Empty (Good i name)
  fills = fills_slot geo mid w d b s i name entry grows.room (takes_there geo users mid d folder name can.enter.takes) parts.0 can.says

  pub linking_grown_issues : Issues geo disk q ghost (linking_grown geo i x d (users.inode d) b kept s entry after q) ghost
  linking_grown_issues =
      let room = grows.room in
      let links : (w.inode i).links ≡ x.links + 1 = ap (λ (y : Inode). y.links) record_is in
      let low = number_low geo i parts.0 in
      Then _ ghost second (histories.Enters after b (with_slot empty_block s entry) d s i name
      (may_enter geo w ghost after b (with_slot empty_block s entry) d s i name (users_obey geo disk q2 ghost (issues_agree geo disk q ghost q2 ghost second all)) (λ g. refl) fills
      (new_name geo w d s b name after (room.takes name (takes_there geo users mid d folder name can.enter.takes)) (room.others after (blocks_there geo users mid d folder after can.enter.blocks_first)))
      (ap (λ (y : Inode). y.mode) record_is ∙ can.file) parts.0 (and_from (is_number geo i) (is_sound geo (w.inode i)) parts.0 (ap (is_sound geo) record_is ∙ parts.1)) can.record_first
      (λ m h.
      let then = count_back geo mid w room.tree i m (omega (arith, low)) h in
      let was = count_back geo users mid (body_shape geo users i more body).tree i then.0 (omega (arith, low)) then.1 in
      let enough = o.rule8 i was.0 can.reachable was.1 in
      omega (arith, then.2, was.2, enough, links))))

-- ---- what users see

pub linking_grown_links : (geo : Geometry) (old : State) (path other : List ℕ) (b : ℕ) (kept : Holder) (s : ℕ) (entry : List ℕ) (after : List Cell)
    → CanLinkGrown geo old.view (number_at geo old.view path) (holder geo old.view other) b kept s (name_in other) entry after
    → (disk : View) (q : List Pending) → users_view disk q ≡ old.view → (safe : ℕ → Bool) → UnmarkedAreNotHeld old.view old.held
    → AllAgree geo disk q (at_rest old.held safe)
    → Links geo old path other (record old {
      view = users_view disk
          (linking_grown geo (number_at geo old.view path) (old.view.inode (number_at geo old.view path)) (holder geo old.view other) (old.view.inode (holder geo old.view other)) b kept s entry after q);
    })
linking_grown_links geo old path other b kept s entry after can disk q same safe marked all = record {
  view = users_view disk (linking_grown geo i (old.view.inode i) d (old.view.inode d) b kept s entry after q);
  enters = subst (λ (v : View). Enters geo (updated v (SetInode i (with_links (v.inode i) ((v.inode i).links + 1)))) d (name_in other) i (users_view disk (linking_grown geo i (v.inode i) d (v.inode d) b kept s entry after q))) same
      (linking_grown_enters geo disk q old.held safe (subst (λ v. UnmarkedAreNotHeld v old.held) (sym same) marked) i d b kept s (name_in other) entry after
      (subst (λ v. CanLinkGrown geo v i d b kept s (name_in other) entry after) (sym same) can) all);
  whole = refl;
}
  where
    i : ℕ
    i = number_at geo old.view path

    d : ℕ
    d = holder geo old.view other
