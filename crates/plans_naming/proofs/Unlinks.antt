-- A name of a file goes, and the file stays: what users see, and the updates in their order.
use Rattle.std.proofs.Common.{◌≡◌, ◌-◌, ℕ, Bool, not, ◌&&◌, eqb, List, [], refl, sym, ap, ◌∙◌, arith, IsTrue, IsFalse, eq-eqb}
use Rattle.std.proofs.lemmas.Bool.{both_ways, and_parts, cond-false}
use Rattle.model.specs.Layout.{Geometry}
use Rattle.model.specs.View.{View, Inode}
use Rattle.model.specs.Cells.{SetInode, SetBytes, updated}
use Rattle.model.specs.Slots.{Good}
use Rattle.model.proofs.Places.{put_here}
use Rattle.ordering.specs.Cuts.{Pending, users_view}
use Rattle.ordering.specs.Ghosts.{at_rest}
use Rattle.ordering.specs.Agrees.{AllAgree}
use Rattle.machine.specs.State.{State, is_open}
use Rattle.machine.specs.Cells.{with_slot, with_entry}
use Rattle.machine.specs.Paths.{holder, number_at, slot_at}
use Rattle.machine.specs.Effects.{with_links, unlinked, swept}
use Rattle.plans_data.specs.Issues.{Issues}
use Rattle.plans_naming.specs.Entries.{no_entry}
use Rattle.plans_naming.specs.Unlink.{CanUnlink, StaysWith, unlinking, safe_but}
use Rattle.plans_naming.proofs.Puts.{empties_slot}
use Rattle.plans_naming.proofs.EntryEffects.{written_slot}
use Rattle.plans_naming.proofs.Links.{same_body}
use Rattle.plans_naming.proofs.Removals.{lower_leads, it_sound}

-- ---- what users see

-- an inode with links, or an open one, is not swept
pub not_swept : (geo : Geometry) (old : State) (i : ℕ) → IsFalse (eqb (old.view.inode i).links 0 && not (is_open old i)) → swept geo old i ≡ old
not_swept geo old i f = cond-false (eqb (old.view.inode i).links 0 && not (is_open old i)) _ old f

module _ (geo : Geometry) (old : State) (path : List ℕ) (block : ℕ) (name : List ℕ)
    (can : CanUnlink geo old.view (number_at geo old.view path) (holder geo old.view path) (slot_at geo old.view path) block name) where
  abbrev i : ℕ
  i = number_at geo old.view path

  abbrev s : ℕ
  s = slot_at geo old.view path

  abbrev x : Inode
  x = old.view.inode i

  abbrev fewer : Inode
  fewer = with_links x (x.links - 1)

  abbrev bytes : List ℕ
  bytes = with_slot (old.view.bytes block) s no_entry

  unlinks : StaysWith old i (x.links - 1) → record old { view = updated (updated old.view (SetBytes block bytes)) (SetInode i fewer) } ≡ unlinked geo old path
  unlinks stays =
      ap (λ (v : View). record old { view = updated v (SetInode i fewer) }) (sym (written_slot geo old.view (holder geo old.view path) s block (Good i name) no_entry can.place))
      ∙ sym (not_swept geo (record old { view = updated (with_entry geo old.view (holder geo old.view path) s no_entry) (SetInode i fewer) }) i
      (ap (λ (y : Inode). eqb y.links 0 && not (is_open old i)) (put_here old.view.inode i fewer) ∙ stays))

  pub unlinking_unlinks : StaysWith old i (x.links - 1) → (disk : View) (q : List Pending) → users_view disk q ≡ old.view
      → record old { view = users_view disk (unlinking i x block (old.view.bytes block) s q) } ≡ unlinked geo old path
  unlinking_unlinks stays disk q same = ap (λ (v : View). record old { view = updated (updated v (SetBytes block bytes)) (SetInode i fewer) }) same ∙ unlinks stays

-- ---- the updates in their order

module _ (geo : Geometry) (disk : View) (q : List Pending) (held safe : ℕ → Bool)
    (i d s block : ℕ) (name : List ℕ) where
  abbrev users : View
  users = users_view disk q

  but_it : (f : ℕ) → IsTrue (safe_but i safe f) → IsTrue (safe f)
  but_it f t = (and_parts (safe f) (not (eqb f i)) t).0

  it_is_out : {P : Type 0} → IsTrue (safe_but i safe i) → P
  it_is_out t = absurd (both_ways (not (eqb i i)) (ap not (eq-eqb i i refl)) (and_parts (safe i) (not (eqb i i)) t).1)

  pub unlinking_leads : CanUnlink geo users i d s block name → AllAgree geo disk q (at_rest held safe)
      → Issues geo disk q (at_rest held safe) (unlinking i (users.inode i) block (users.bytes block) s q) (at_rest held (safe_but i safe))
  unlinking_leads can all =
      let x = users.inode i in
      let change = empties_slot geo users d s block (Good i name) can.place in
      let zeroed = with_slot (users.bytes block) s no_entry in
      lower_leads geo disk q held safe [] block zeroed d s i name (safe_but i safe) change can.file but_it (λ t. it_is_out t) all
      (with_links x (x.links - 1)) (same_body geo x (x.links - 1) (it_sound geo disk q held safe [] block zeroed d s i name (safe_but i safe) change can.file but_it (λ t. it_is_out t) all))
      (omega arith)
