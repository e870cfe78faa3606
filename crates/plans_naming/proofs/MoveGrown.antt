-- A file's name goes to a directory that gets a block for it: the updates in their order.
use Rattle.std.proofs.Common.{◌≡◌, ◌+◌, ◌/◌, ℕ, Bool, List, Contains, ◌∷◌, inl, inr, refl, sym, ap, ◌∙◌, subst, arith, IsTrue}
use Rattle.std.proofs.lemmas.Bool.{cases_eq, both_ways}
use Rattle.model.specs.Layout.{Geometry}
use Rattle.model.specs.View.{View, Inode}
use Rattle.model.specs.Cells.{SetInode, SetBytes, updated}
use Rattle.model.specs.Uses.{blocks_of, is_sound, IsClaim}
use Rattle.model.specs.Slots.{Empty, Good}
use Rattle.model.specs.Rules.{ObeysRules}
use Rattle.model.proofs.SlotChange.{slot_uses, slot_now}
use Rattle.ordering.specs.Cuts.{Cell, Pending, users_view}
use Rattle.ordering.specs.Ghosts.{Ghost, at_rest}
use Rattle.ordering.specs.Agrees.{AllAgree}
use Rattle.ordering.specs.Kinds.{SameBody}
use Rattle.ordering.specs.OneSlot.{ChangesSlot, HasOtherName, ArePointersKnown}
use Rattle.ordering.proofs.Bits.{users_obey}
use Rattle.ordering.proofs.SlotKinds.{no_file_directory}
use Rattle.ordering.proofs.Places.{slot_change}
use Rattle.machine.specs.Cells.{with_slot}
use Rattle.machine.specs.Effects.{with_links}
use Rattle.plans_data.specs.Issues.{Issues}
use Rattle.plans_data.specs.Append.{Holder, KeptInRecord, KeptInTable, KeptInNew, new_blocks, blocks_on_way}
use Rattle.plans_data.proofs.Chains.{issues_agree, joined}
use Rattle.plans_data.proofs.Holders.{first_of, later_of, nothing_in, one_of_both}
use Rattle.plans_naming.specs.Entries.{UnmarkedAreNotHeld, no_entry}
use Rattle.plans_naming.specs.Grow.{empty_block}
use Rattle.plans_naming.specs.Link.{linking_grown}
use Rattle.plans_naming.specs.Move.{CanMoveGrown, moving_grown}
use Rattle.plans_naming.proofs.Folders.{SameFolder, folder_on, body_folder, change_there}
use Rattle.plans_naming.proofs.Grounds.{SameGrounds, body_grounds, entry_grounds, path_on, grounds_on}
use Rattle.plans_naming.proofs.LinkGrown.{q2, parts, body, grows, second, record_is, fills, linking_grown_issues}
use Rattle.plans_naming.proofs.Puts.{empties_slot, entry_folder}
use Rattle.plans_naming.proofs.Removals.{lower_leads}
use Rattle.plans_naming.proofs.Rooms.{NewRoom}

-- the grounds, where a directory got a block and its tables are known
pub room_grounds : (geo : Geometry) (after : List Cell) (block : ℕ) (v w : View) (d b s : ℕ) → NewRoom geo v w d b s
    → (ArePointersKnown geo v after block d → ArePointersKnown geo w after block d) → SameGrounds geo after block v w
room_grounds geo after block v w d b s r tables = record {
  directories = λ e t. sym (r.directories e) ∙ t;
  names = r.names;
  claims = r.claims;
  pointers = λ e known m t one c. elim (cases_eq e d) [
    | inr other ↦ known m t one ((r.folder e other).uses m ∙ c.0, c.1)
    | inl at ↦ tables (subst (ArePointersKnown geo v after block) at known) m t one (subst (λ n. IsClaim geo w n m t) at c)
  ];
}

-- a new table is one on the way
new_on_way : (h : Holder) (x : ℕ) → Contains (new_blocks h) x → Contains (blocks_on_way h) x
new_on_way KeptInRecord x c = c
new_on_way (KeptInTable m y table over) x c = absurd (nothing_in x c)
new_on_way (KeptInNew m y table up) x c = elim (one_of_both y (new_blocks up) x c) [
  | inl e ↦ subst (λ z. Contains (y ∷ blocks_on_way up) z) e (first_of y (blocks_on_way up))
  | inr d ↦ later_of y (blocks_on_way up) x (new_on_way up x d)
]

module _ (geo : Geometry) (disk : View) (q : List Pending) (held safe : ℕ → Bool)
    (i d' b : ℕ) (kept : Holder) (s' : ℕ) (name' entry : List ℕ) (after' : List Cell) (d s block : ℕ) (name : List ℕ) (after : List Cell)
    (marked : UnmarkedAreNotHeld (users_view disk q) held) (can : CanMoveGrown geo (users_view disk q) i d' b kept s' name' entry after' d s block name after)
    (all : AllAgree geo disk q (at_rest held safe)) where
  abbrev ghost : Ghost
  ghost = at_rest held safe

  abbrev users : View
  users = users_view disk q

  abbrev x : Inode
  x = users.inode i

  abbrev parent : Inode
  parent = users.inode d'

  abbrev more : Inode
  more = with_links x (x.links + 1)

  abbrev k : ℕ
  k = blocks_of parent.size

  abbrev bytes' : List ℕ
  bytes' = with_slot empty_block s' entry

  abbrev zeroed : List ℕ
  zeroed = with_slot (users.bytes block) s no_entry

  abbrev users1 : View
  users1 = updated users (SetInode i more)

  abbrev grown_list : List Pending
  grown_list = q2 geo disk q held safe marked i d' b kept s' name' entry after' can.to all

  abbrev users2 : View
  users2 = users_view disk grown_list

  abbrev q3 : List Pending
  q3 = linking_grown geo i x d' parent b kept s' entry after' q

  abbrev users3 : View
  users3 = updated users2 (SetBytes b bytes')

  first : Issues geo disk q ghost q3 ghost
  first = linking_grown_issues geo disk q held safe marked i d' b kept s' name' entry after' can.to all

  room : NewRoom geo users1 users2 d' b s'
  room = (grows geo disk q held safe marked i d' b kept s' name' entry after' can.to all).room

  o : ObeysRules geo users
  o = users_obey geo disk q ghost all

  o2 : ObeysRules geo users2
  o2 = users_obey geo disk grown_list ghost (issues_agree geo disk q ghost grown_list ghost (second geo disk q held safe marked i d' b kept s' name' entry after' can.to all) all)

  here : users2.inode i ≡ more
  here = record_is geo disk q held safe marked i d' b kept s' name' entry after' can.to all

  file2 : (users2.inode i).mode ≡ 1
  file2 = ap (λ (y : Inode). y.mode) here ∙ can.to.file

  enters : ChangesSlot geo users2 b bytes' d' s' Empty (Good i name')
  enters = fills geo disk q held safe marked i d' b kept s' name' entry after' can.to all

  its_body : SameBody geo x more
  its_body = body geo disk q held safe marked i d' b kept s' name' entry after' can.to all

  sound : IsTrue (is_sound geo x)
  sound = (parts geo disk q held safe marked i d' b kept s' name' entry after' can.to all).1

  folder : SameFolder geo users users3 d
  folder = folder_on geo users users1 users3 d (body_folder geo users i more d its_body) (folder_on geo users1 users2 users3 d (room.folder d can.apart)
      (entry_folder geo users2 b bytes' d' s' i name' (slot_change enters.slot) o2.rule3 (no_file_directory geo users2 i file2) d can.apart))

  goes : ChangesSlot geo users3 block zeroed d s (Good i name) Empty
  goes = change_there geo users users3 d folder block zeroed s (Good i name) Empty (empties_slot geo users d s block (Good i name) can.from)

  tables_known : ArePointersKnown geo users1 after block d' → ArePointersKnown geo users2 after block d'
  tables_known known m t one c = elim ((grows geo disk q held safe marked i d' b kept s' name' entry after' can.to all).tables m t one c) [
    | inl was ↦ known m t one was
    | inr new ↦ can.tables_first t (new_on_way kept t new)
  ]

  to_raised : SameGrounds geo after block users users1
  to_raised = body_grounds geo after block users i more its_body

  to_grown : SameGrounds geo after block users1 users2
  to_grown = room_grounds geo after block users1 users2 d' b s' room tables_known

  to_entered : SameGrounds geo after block users2 users3
  to_entered = entry_grounds geo after block users2 b bytes' d' s' (Good i name') (slot_change enters.slot) o2.rule3

  unclaimed : (n j : ℕ) → IsClaim geo users n j b → ⊥
  unclaimed n j c = both_ways (users.block_marked b) ((can.to.enter).grow.free).unmarked (o.rule3.marked n j b c)

  other_name : HasOtherName geo users3 after block i
  other_name =
      let g = can.grounds in
      let p1 = path_on geo after block users users1 to_raised g.steps d' g.path in
      let p2 = path_on geo after block users1 users2 to_grown g.steps d' p1 in
      record {
        steps = g.steps;
        directory = d';
        path = path_on geo after block users2 users3 to_entered g.steps d' p2;
        grounds = grounds_on geo after block users2 users3 to_entered g.steps d' p2 (grounds_on geo after block users1 users2 to_grown g.steps d' p1 (grounds_on geo after block users users1 to_raised g.steps d' g.path g.grounds));
        slot = s';
        after_dots = enters.after_dots;
        names = (name', slot_now geo users2 b bytes' d' s' Empty (Good i name') (slot_change enters.slot) o2.rule3);
        other = b;
        claim = (sym (slot_uses geo users2 b bytes' d' s' Empty (Good i name') (slot_change enters.slot) o2.rule3 d' (s' / 16)) ∙ enters.slot.claim.0, enters.slot.claim.1);
        differs = λ e. unclaimed d (s / 16) (subst (λ c. IsClaim geo users d (s / 16) c) (sym e) can.from.claim);
        known = can.entry_first;
      }

  pub moving_grown_issues : Issues geo disk q ghost (moving_grown geo i x d' parent b kept s' entry after' block (users.bytes block) s after q) ghost
  moving_grown_issues =
      joined geo disk q ghost q3 ghost (moving_grown geo i x d' parent b kept s' entry after' block (users.bytes block) s after q) ghost first
      (lower_leads geo disk q3 held safe after block zeroed d s i name safe goes file2 (λ f t. t) (λ t. other_name) (issues_agree geo disk q ghost q3 ghost first all)
      x (subst (λ y. SameBody geo y x) (sym here) (record { sound = sound; still_sound = sound; mode = refl; blocks = refl; direct = refl; indirect = refl; double = refl }))
      (let links : (users2.inode i).links ≡ x.links + 1 = ap (λ (y : Inode). y.links) here in omega (arith, links)))
