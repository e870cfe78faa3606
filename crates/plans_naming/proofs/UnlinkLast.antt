-- The last name of a file goes, and the file with it: what users see, and the updates in their order.
use Rattle.std.proofs.Common.{◌≡◌, ◌-◌, ℕ, Bool, not, eqb, List, [], ◌∷◌, refl, sym, ap, ◌∙◌, subst, arith, IsTrue, eq-eqb}
use mathlib.Core.Path.{fun_ext}
use Rattle.std.proofs.lemmas.Bool.{both_ways, and_parts}
use Rattle.model.specs.Layout.{Geometry}
use Rattle.model.specs.View.{View, free_inode}
use Rattle.model.specs.Cells.{SetBytes, updated}
use Rattle.model.specs.Slots.{Empty, Good}
use Rattle.model.specs.Uses.{use_at}
use Rattle.model.specs.Rules.{ObeysRules}
use Rattle.model.proofs.Finite.{entries_exist}
use Rattle.model.proofs.SlotLemmas.{number_low}
use Rattle.model.proofs.SlotChange.{slot_uses}
use Rattle.ordering.specs.Cuts.{Block, Pending, users_view}
use Rattle.ordering.specs.Ghosts.{Ghost, at_rest}
use Rattle.ordering.specs.Agrees.{AllAgree}
use Rattle.ordering.specs.OneSlot.{ChangesSlot, is_gone_at}
use Rattle.ordering.proofs.Bits.{users_obey}
use Rattle.ordering.proofs.SlotKinds.{gone_parts}
use Rattle.ordering.proofs.Places.{slot_change}
use Rattle.machine.specs.State.{State}
use Rattle.machine.specs.Cells.{with_slot}
use Rattle.machine.specs.Paths.{holder, number_at, slot_at}
use Rattle.machine.specs.Effects.{relinked, unlinked, emptied}
use Rattle.plans_data.specs.Issues.{Issues}
use Rattle.plans_data.specs.Now.{now, becomes}
use Rattle.plans_data.specs.Freeing.{MayFreeing, held_with, within, but_of}
use Rattle.plans_data.proofs.Chains.{issues_agree, joined}
use Rattle.plans_data.proofs.Freeing.{freeing_issues}
use Rattle.plans_data.proofs.Swept.{freeing_relinked}
use Rattle.plans_naming.specs.Entries.{no_entry, slot_written}
use Rattle.plans_naming.specs.Unlink.{CanUnlink, CanFree, unlinking_last, safe_but}
use Rattle.plans_naming.proofs.Tallies.{some_counted}
use Rattle.plans_naming.proofs.Puts.{empties_slot}
use Rattle.plans_naming.proofs.EntryEffects.{written_slot}
use Rattle.plans_naming.proofs.Frees.{given_there, held_there, held_with_there}
use Rattle.plans_naming.proofs.Rests.{same_ghost, out_again}
use Rattle.plans_naming.proofs.Removals.{gone, removed_leads, it_number, fewer_left, gone_witness}

pub now_is : (disk : View) (q : List Pending) (old : State) → users_view disk q ≡ old.view → now disk q old ≡ old
now_is disk q old same = ap (λ (v : View). record old { view = v }) same

-- the state is that of what is pending
module _ (geo : Geometry) (disk : View) (q : List Pending) (st : State) (i d s block : ℕ) (name : List ℕ) (blocks : List ℕ) (safe : ℕ → Bool)
    (can : CanUnlink geo (users_view disk q) i d s block name) (free : CanFree geo (now disk q st) i blocks) (one : ((users_view disk q).inode i).links ≡ 1)
    (all : AllAgree geo disk q (at_rest st.held safe)) where
  abbrev users : View
  users = users_view disk q

  abbrev ghost : Ghost
  ghost = at_rest st.held safe

  abbrev zeroed : List ℕ
  zeroed = with_slot (users.bytes block) s no_entry

  change : ChangesSlot geo users block zeroed d s (Good i name) Empty
  change = empties_slot geo users d s block (Good i name) can.place

  but_it : (f : ℕ) → IsTrue (safe_but i safe f) → IsTrue (safe f)
  but_it f t = (and_parts (safe f) (not (eqb f i)) t).0

  it_is_out : {P : Type 0} → IsTrue (safe_but i safe i) → P
  it_is_out t = absurd (both_ways (not (eqb i i)) (ap not (eq-eqb i i refl)) (and_parts (safe i) (not (eqb i i)) t).1)

  abbrev after_name : List Pending
  after_name = slot_written block (users.bytes block) s no_entry [] ∷ q

  abbrev with_gone : Ghost
  with_gone = gone geo disk q st.held safe [] block zeroed d s i name (safe_but i safe) change can.file but_it (λ t. it_is_out t) all

  first : Issues geo disk q ghost after_name with_gone
  first = removed_leads geo disk q st.held safe [] block zeroed d s i name (safe_but i safe) change can.file but_it (λ t. it_is_out t) all

  all1 : AllAgree geo disk after_name with_gone
  all1 = issues_agree geo disk q ghost after_name with_gone first all

  rules : ObeysRules geo users
  rules = users_obey geo disk q ghost all

  uses_kept : (n k : ℕ) → use_at geo users n k ≡ use_at geo (users_view disk after_name) n k
  uses_kept = slot_uses geo users block zeroed d s (Good i name) Empty (slot_change change.slot) rules.rule3

  may : MayFreeing geo (now disk after_name st) with_gone.gone i blocks (Block block ∷ [])
  may = record {
    number = it_number geo disk q st.held safe [] block zeroed d s i name (safe_but i safe) change can.file but_it (λ t. it_is_out t) all;
    no_place = λ e t c p.
        let number = it_number geo disk q st.held safe [] block zeroed d s i name (safe_but i safe) change can.file but_it (λ y. it_is_out y) all in
        let n = entries_exist geo (users_view disk after_name) i in
        let some = some_counted geo (users_view disk after_name) i (omega (arith, number_low geo i number)) e t c p n.0 n.1 in
        let few = fewer_left geo disk q st.held safe [] block zeroed d s i name (safe_but i safe) change can.file but_it (λ y. it_is_out y) all n.0 n.1 in
        omega (arith, some, few, one);
    witnesses = λ g t e. gone_witness geo disk q st.held safe [] block zeroed d s i name (safe_but i safe) change can.file but_it (λ y. it_is_out y) all g t;
    given_up = given_there geo (now disk q st) (users_view disk after_name) i uses_kept blocks free.given_up;
    held = held_there geo (now disk q st) (users_view disk after_name) i uses_kept free.held;
  }

  abbrev held' : ℕ → Bool
  held' = held_with geo (now disk after_name st) i free_inode

  held_is : held' ≡ held_with geo (now disk q st) i free_inode
  held_is = held_with_there geo (now disk q st) (users_view disk after_name) i uses_kept

  at_rest_again : within held' (but_of i with_gone.gone) (safe_but i safe) ≡ at_rest (held_with geo (now disk q st) i free_inode) (safe_but i safe)
  at_rest_again = same_ghost held_is (fun_ext (λ g. out_again (is_gone_at g i d s block) (eqb g.number i) (λ t. eq-eqb g.number i (gone_parts g i d s block t).number))) refl refl refl refl

  pub last_issues : Issues geo disk q ghost (unlinking_last i blocks block (users.bytes block) s q) (at_rest (held_with geo (now disk q st) i free_inode) (safe_but i safe))
  last_issues = subst (λ g. Issues geo disk q ghost (unlinking_last i blocks block (users.bytes block) s q) g) at_rest_again
      (joined geo disk q ghost after_name with_gone (unlinking_last i blocks block (users.bytes block) s q) (within held' (but_of i with_gone.gone) (safe_but i safe)) first
      (freeing_issues geo disk after_name st with_gone.gone (safe_but i safe) i blocks (Block block ∷ []) may all1))

  pub last_relinked : becomes disk (unlinking_last i blocks block (users.bytes block) s q) (held_with geo (now disk q st) i free_inode) st ≡ relinked geo (now disk after_name st) i 0
  last_relinked = ap (λ h. becomes disk (unlinking_last i blocks block (users.bytes block) s q) h st) (sym held_is)
      ∙ freeing_relinked geo disk after_name st with_gone.gone (safe_but i safe) i blocks (Block block ∷ []) may all1 free.closed

-- ---- the same, for the state that users see

module _ (geo : Geometry) (old : State) (i d s block : ℕ) (name : List ℕ) (blocks : List ℕ) (can : CanUnlink geo old.view i d s block name) (free : CanFree geo old i blocks) (one : (old.view.inode i).links ≡ 1)
    (disk : View) (q : List Pending) (same : users_view disk q ≡ old.view) (safe : ℕ → Bool) (all : AllAgree geo disk q (at_rest old.held safe)) where
  abbrev is_old : now disk q old ≡ old
  is_old = now_is disk q old same

  can' : CanUnlink geo (users_view disk q) i d s block name
  can' = subst (λ (v : View). CanUnlink geo v i d s block name) (sym same) can

  free' : CanFree geo (now disk q old) i blocks
  free' = subst (λ st. CanFree geo st i blocks) (sym is_old) free

  one' : ((users_view disk q).inode i).links ≡ 1
  one' = subst (λ (v : View). (v.inode i).links ≡ 1) (sym same) one

  pub unlinking_last_issues : Issues geo disk q (at_rest old.held safe) (unlinking_last i blocks block (old.view.bytes block) s q) (at_rest (held_with geo old i free_inode) (safe_but i safe))
  unlinking_last_issues =
      subst (λ (st : State). Issues geo disk q (at_rest old.held safe) (unlinking_last i blocks block (st.view.bytes block) s q) (at_rest (held_with geo st i free_inode) (safe_but i safe))) is_old
      (last_issues geo disk q old i d s block name blocks safe can' free' one' all)

  pub unlinking_last_relinked : becomes disk (unlinking_last i blocks block (old.view.bytes block) s q) (held_with geo old i free_inode) old
      ≡ relinked geo (record old { view = updated old.view (SetBytes block (with_slot (old.view.bytes block) s no_entry)) }) i 0
  unlinking_last_relinked =
      subst (λ (st : State). becomes disk (unlinking_last i blocks block (st.view.bytes block) s q) (held_with geo st i free_inode) old
      ≡ relinked geo (record st { view = updated st.view (SetBytes block (with_slot (st.view.bytes block) s no_entry)) }) i 0) is_old
      (last_relinked geo disk q old i d s block name blocks safe can' free' one' all)

module _ (geo : Geometry) (old : State) (path : List ℕ) (block : ℕ) (name : List ℕ) (blocks : List ℕ)
    (can : CanUnlink geo old.view (number_at geo old.view path) (holder geo old.view path) (slot_at geo old.view path) block name)
    (free : CanFree geo old (number_at geo old.view path) blocks) (one : (old.view.inode (number_at geo old.view path)).links ≡ 1) where
  abbrev n : ℕ
  n = number_at geo old.view path

  pub unlinking_last_unlinks : (disk : View) (q : List Pending) → users_view disk q ≡ old.view → (safe : ℕ → Bool) → AllAgree geo disk q (at_rest old.held safe)
      → becomes disk (unlinking_last n blocks block (old.view.bytes block) (slot_at geo old.view path) q) (held_with geo old n free_inode) old ≡ unlinked geo old path
  unlinking_last_unlinks disk q same safe all =
      unlinking_last_relinked geo old n (holder geo old.view path) (slot_at geo old.view path) block name blocks can free one disk q same safe all
      ∙ ap (λ (v : View). relinked geo (record old { view = v }) n 0) (sym (written_slot geo old.view (holder geo old.view path) (slot_at geo old.view path) block (Good n name) no_entry can.place))
      ∙ ap (λ (links : ℕ). relinked geo (emptied geo old (holder geo old.view path) (slot_at geo old.view path)) n (links - 1)) (sym one)
