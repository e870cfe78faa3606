-- A file's name goes to another directory: the updates in their order.
use Rattle.std.proofs.Common.{◌≡◌, ◌+◌, ◌/◌, ℕ, Bool, List, refl, sym, ap, ◌∙◌, subst, arith, IsTrue}
use Rattle.model.specs.Layout.{Geometry, is_number}
use Rattle.model.specs.View.{View, Inode}
use Rattle.model.specs.Cells.{SetInode, SetBytes, updated, put_at}
use Rattle.model.specs.Uses.{is_sound, IsClaim}
use Rattle.model.specs.Slots.{Empty, Good}
use Rattle.model.specs.Rules.{ObeysRules}
use Rattle.model.proofs.Places.{put_here}
use Rattle.model.proofs.SlotChange.{slot_uses, slot_now}
use Rattle.ordering.specs.Cuts.{Cell, Pending, users_view}
use Rattle.ordering.specs.Ghosts.{Ghost, at_rest}
use Rattle.ordering.specs.Agrees.{AllAgree}
use Rattle.ordering.specs.Kinds.{SameBody}
use Rattle.ordering.specs.OneSlot.{ChangesSlot, HasOtherName}
use Rattle.ordering.proofs.Bits.{users_obey}
use Rattle.ordering.proofs.SlotKinds.{no_file_directory}
use Rattle.ordering.proofs.Places.{slot_change}
use Rattle.machine.specs.Cells.{with_slot}
use Rattle.machine.specs.Effects.{with_links}
use Rattle.plans_data.specs.Issues.{Issues}
use Rattle.plans_naming.specs.Entries.{no_entry}
use Rattle.plans_naming.specs.Link.{raised, linking}
use Rattle.plans_naming.specs.Move.{CanMove, moving}
use Rattle.plans_data.proofs.Chains.{issues_agree, joined}
use Rattle.plans_naming.proofs.Folders.{SameFolder, folder_on, body_folder, change_there}
use Rattle.plans_naming.proofs.Puts.{enters_slot, empties_slot, entry_folder}
use Rattle.plans_naming.proofs.Links.{same_body, reachable_parts, raised_leads, linking_leads}
use Rattle.plans_naming.proofs.Grounds.{SameGrounds, body_grounds, entry_grounds, path_on, grounds_on}
use Rattle.plans_naming.proofs.Removals.{lower_leads}

module _ (geo : Geometry) (disk : View) (q : List Pending) (held safe : ℕ → Bool)
    (i d' s' block' : ℕ) (name' entry : List ℕ) (after' : List Cell) (d s block : ℕ) (name : List ℕ) (after : List Cell)
    (can : CanMove geo (users_view disk q) i d' s' block' name' entry after' d s block name after)
    (all : AllAgree geo disk q (at_rest held safe)) where
  abbrev ghost : Ghost
  ghost = at_rest held safe

  abbrev users : View
  users = users_view disk q

  abbrev x : Inode
  x = users.inode i

  abbrev more : Inode
  more = with_links x (x.links + 1)

  abbrev bytes' : List ℕ
  bytes' = with_slot (users.bytes block') s' entry

  abbrev zeroed : List ℕ
  zeroed = with_slot (users.bytes block) s no_entry

  abbrev users1 : View
  users1 = updated users (SetInode i more)

  abbrev users2 : View
  users2 = updated users1 (SetBytes block' bytes')

  abbrev q2 : List Pending
  q2 = linking i x block' (users.bytes block') s' entry after' q

  first : Issues geo disk q ghost q2 ghost
  first = linking_leads geo disk q held safe i d' s' block' name' entry after' can.to all

  parts : IsTrue (is_number geo i) × IsTrue (is_sound geo x)
  parts = reachable_parts geo users i can.to.reachable

  body : SameBody geo x more
  body = same_body geo x (x.links + 1) parts.1

  o1 : ObeysRules geo users1
  o1 = users_obey geo disk (raised i x q) ghost (issues_agree geo disk q ghost (raised i x q) ghost (raised_leads geo disk q ghost i parts.1) all)

  here : put_at users.inode i more i ≡ more
  here = put_here users.inode i more

  file1 : (users1.inode i).mode ≡ 1
  file1 = ap (λ (y : Inode). y.mode) here ∙ can.to.file

  enters : ChangesSlot geo users1 block' bytes' d' s' Empty (Good i name')
  enters = change_there geo users users1 d' (body_folder geo users i more d' body) block' bytes' s' Empty (Good i name') (enters_slot geo users d' s' block' i Empty name' entry can.to.place can.to.takes parts.0 can.to.says)

  folder : SameFolder geo users users2 d
  folder = folder_on geo users users1 users2 d (body_folder geo users i more d body)
      (entry_folder geo users1 block' bytes' d' s' i name' (slot_change enters.slot) o1.rule3 (no_file_directory geo users1 i file1) d can.apart)

  goes : ChangesSlot geo users2 block zeroed d s (Good i name) Empty
  goes = change_there geo users users2 d folder block zeroed s (Good i name) Empty (empties_slot geo users d s block (Good i name) can.from)

  to_raised : SameGrounds geo after block users users1
  to_raised = body_grounds geo after block users i more body

  to_entered : SameGrounds geo after block users1 users2
  to_entered = entry_grounds geo after block users1 block' bytes' d' s' (Good i name') (slot_change enters.slot) o1.rule3

  other_name : HasOtherName geo users2 after block i
  other_name =
      let g = can.grounds in
      let p1 = path_on geo after block users users1 to_raised g.steps d' g.path in
      record {
        steps = g.steps;
        directory = d';
        path = path_on geo after block users1 users2 to_entered g.steps d' p1;
        grounds = grounds_on geo after block users1 users2 to_entered g.steps d' p1 (grounds_on geo after block users users1 to_raised g.steps d' g.path g.grounds);
        slot = s';
        after_dots = can.to.place.after_dots;
        names = (name', slot_now geo users1 block' bytes' d' s' Empty (Good i name') (slot_change enters.slot) o1.rule3);
        other = block';
        claim = (sym (slot_uses geo users1 block' bytes' d' s' Empty (Good i name') (slot_change enters.slot) o1.rule3 d' (s' / 16)) ∙ enters.slot.claim.0, enters.slot.claim.1);
        differs = λ e. can.apart (sym (o.rule3.once d' (s' / 16) d (s / 16) block (subst (λ b. IsClaim geo users d' (s' / 16) b) e can.to.place.claim) can.from.claim).0);
        known = can.entry_first;
      }
    where
      o : ObeysRules geo users
      o = users_obey geo disk q ghost all

  pub moving_leads : Issues geo disk q ghost (moving i x block' (users.bytes block') s' entry after' block (users.bytes block) s after q) ghost
  moving_leads =
      joined geo disk q ghost q2 ghost (moving i x block' (users.bytes block') s' entry after' block (users.bytes block) s after q) ghost first
      (lower_leads geo disk q2 held safe after block zeroed d s i name safe goes file1 (λ f t. t) (λ t. other_name) (issues_agree geo disk q ghost q2 ghost first all)
      x (subst (λ y. SameBody geo y x) (sym here) (record { sound = parts.1; still_sound = parts.1; mode = refl; blocks = refl; direct = refl; indirect = refl; double = refl }))
      (let links : (put_at users.inode i more i).links ≡ x.links + 1 = ap (λ (y : Inode). y.links) here in omega (arith, links)))
