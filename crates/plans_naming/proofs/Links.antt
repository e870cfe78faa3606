-- A file gets one more name in an empty slot: what users see, and the updates in their order.
use Rattle.std.proofs.Common.{◌≡◌, ◌+◌, ℕ, Bool, List, [], refl, sym, ap, ◌∙◌, subst, arith, IsTrue}
use Rattle.std.proofs.lemmas.Bool.{and_from}
use Rattle.model.specs.Layout.{Geometry, is_number}
use Rattle.model.specs.View.{View, Inode}
use Rattle.model.specs.Cells.{SetInode, SetBytes, updated, put_at}
use Rattle.model.specs.Uses.{is_sound}
use Rattle.model.specs.Slots.{Empty, Good}
use Rattle.model.specs.Reach.{IsReachable}
use Rattle.model.proofs.SlotLemmas.{number_low}
use Rattle.model.proofs.ReachLemmas.{reachable_sound}
use Rattle.model.proofs.Places.{put_here}
use Rattle.model.proofs.SameTree.{count_back}
use Rattle.ordering.specs.Cuts.{Cell, Pending, users_view}
use Rattle.ordering.specs.Ghosts.{Ghost, at_rest}
use Rattle.ordering.specs.Agrees.{AllAgree}
use Rattle.ordering.specs.Kinds.{SameBody}
use Rattle.ordering.specs.Histories.{Raises, Enters}
use Rattle.ordering.proofs.Bits.{users_obey}
use Rattle.ordering.proofs.Records.{body_shape}
use Rattle.machine.specs.State.{State}
use Rattle.machine.specs.Cells.{with_slot}
use Rattle.machine.specs.Paths.{holder, name_in, number_at}
use Rattle.machine.specs.Effects.{with_links, Links}
use Rattle.machine.proofs.Decisions.{sound_parts}
use Rattle.plans_data.specs.Issues.{Issues, Nothing, Then}
use Rattle.plans_naming.specs.Link.{CanLink, raised, linking}
use Rattle.plans_data.proofs.Chains.{issues_agree}
use Rattle.plans_naming.proofs.Folders.{body_folder, stands_there, change_there, name_there}
use Rattle.plans_naming.proofs.Puts.{enters_slot, new_name, may_enter}
use Rattle.plans_naming.proofs.EntryEffects.{enters_in_slot}

pub same_body : (geo : Geometry) (x : Inode) (n : ℕ) → IsTrue (is_sound geo x) → SameBody geo x (with_links x n)
same_body geo x n h = record { sound = h; still_sound = h; mode = refl; blocks = refl; direct = refl; indirect = refl; double = refl }

pub reachable_parts : (geo : Geometry) (v : View) (i : ℕ) → IsReachable geo v i → IsTrue (is_number geo i) × IsTrue (is_sound geo (v.inode i))
reachable_parts geo v i r = sound_parts geo v i (reachable_sound geo v i r)

module _ (geo : Geometry) (old : State) (path other : List ℕ) (s block : ℕ) (entry : List ℕ) (after : List Cell)
    (can : CanLink geo old.view (number_at geo old.view path) (holder geo old.view other) s block (name_in other) entry after) where
  abbrev i : ℕ
  i = number_at geo old.view path

  abbrev more : Inode
  more = with_links (old.view.inode i) ((old.view.inode i).links + 1)

  abbrev mid : View
  mid = updated old.view (SetInode i more)

  links : Links geo old path other (record old { view = updated mid (SetBytes block (with_slot (old.view.bytes block) s entry)) })
  links =
      let d = holder geo old.view other in
      let same = body_folder geo old.view i more d (same_body geo (old.view.inode i) ((old.view.inode i).links + 1) (reachable_parts geo old.view i can.reachable).1) in
      record {
        view = updated mid (SetBytes block (with_slot (old.view.bytes block) s entry));
        enters = enters_in_slot geo mid d s block i (name_in other) entry (stands_there geo old.view mid d same s block Empty can.place) can.says;
        whole = refl;
      }

  pub linking_links : (disk : View) (q : List Pending) → users_view disk q ≡ old.view
      → Links geo old path other (record old { view = users_view disk (linking i (old.view.inode i) block (old.view.bytes block) s entry after q) })
  linking_links disk q same =
      subst (λ (v : View). Links geo old path other (record old { view = updated (updated v (SetInode i more)) (SetBytes block (with_slot (old.view.bytes block) s entry)) })) (sym same) links

module _ (geo : Geometry) (disk : View) (q : List Pending) (ghost : Ghost) where
  abbrev users : View
  users = users_view disk q

  pub raised_leads : (i : ℕ) → IsTrue (is_sound geo (users.inode i)) → Issues geo disk q ghost (raised i (users.inode i) q) ghost
  raised_leads i sound =
      let x = users.inode i in
      Then (record { change = SetInode i (with_links x (x.links + 1)); after = [] }) ghost Nothing
      (Raises [] i (with_links x (x.links + 1)) (record { body = same_body geo x (x.links + 1) sound; links = omega arith }))

module _ (geo : Geometry) (disk : View) (q : List Pending) (held safe : ℕ → Bool)
    (i d s block : ℕ) (name entry : List ℕ) (after : List Cell) (can : CanLink geo (users_view disk q) i d s block name entry after) where
  abbrev ghost : Ghost
  ghost = at_rest held safe

  abbrev before : View
  before = users_view disk q

  pub linking_leads : AllAgree geo disk q ghost → Issues geo disk q ghost (linking i (before.inode i) block (before.bytes block) s entry after q) ghost
  linking_leads all =
      let x = before.inode i in
      let o = users_obey geo disk q ghost all in
      let parts = reachable_parts geo before i can.reachable in
      let first = raised_leads geo disk q ghost i parts.1 in
      let all1 = issues_agree geo disk q ghost (raised i x q) ghost first all in
      let now = with_links x (x.links + 1) in
      let mid = users_view disk (raised i x q) in
      let body = same_body geo x (x.links + 1) parts.1 in
      let same = body_folder geo before i now d body in
      let here : put_at before.inode i now i ≡ now = put_here before.inode i now in
      let change = change_there geo before mid d same block (with_slot (before.bytes block) s entry) s Empty (Good i name) (enters_slot geo before d s block i Empty name entry can.place can.takes parts.0 can.says) in
      let fresh_name = name_there geo before mid d same after block s name (new_name geo before d s block name after can.takes can.others_first) in
      let links : (put_at before.inode i now i).links ≡ x.links + 1 = ap (λ (y : Inode). y.links) here in
      Then _ ghost first (Enters after block (with_slot (before.bytes block) s entry) d s i name
      (may_enter geo mid ghost after block (with_slot (before.bytes block) s entry) d s i name (users_obey geo disk (raised i x q) ghost all1) (λ g. refl) change fresh_name
      (ap (λ (y : Inode). y.mode) here ∙ can.file) parts.0 (and_from (is_number geo i) (is_sound geo (put_at before.inode i now i)) parts.0 (ap (is_sound geo) here ∙ parts.1)) can.record_first
      (λ m h.
      let was = count_back geo before mid (body_shape geo before i now body).tree i m (omega (arith, number_low geo i parts.0)) h in
      let enough = o.rule8 i was.0 can.reachable was.1 in
      omega (arith, was.2, enough, links))))
