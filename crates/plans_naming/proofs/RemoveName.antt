-- An empty directory with links too many loses its entry: what users see, and the updates in their order.
use Rattle.std.proofs.Common.{◌≡◌, ◌≤◌, ◌-◌, ℕ, Bool, true, false, not, ◌&&◌, eqb, List, [], ◌∷◌, refl, sym, ap, ◌∙◌, subst, arith, IsFalse, eqb-true}
use mathlib.Core.Path.{fun_ext}
use Rattle.std.proofs.lemmas.Bool.{and_parts}
use Rattle.model.specs.Layout.{Geometry}
use Rattle.model.specs.View.{View, Inode}
use Rattle.model.specs.Cells.{SetInode, SetBytes, updated, put_at}
use Rattle.model.specs.Slots.{Good}
use Rattle.model.proofs.SlotLemmas.{number_low, directory_sound, reachable_directory}
use Rattle.model.proofs.Places.{put_here, put_there}
use Rattle.model.proofs.SameTree.{count_back}
use Rattle.ordering.specs.Cuts.{Cell, Block, Pending, users_view}
use Rattle.ordering.specs.Ghosts.{Ghost, at_rest}
use Rattle.ordering.specs.Agrees.{AllAgree}
use Rattle.ordering.specs.Kinds.{SameBody, MayLower, settled}
use Rattle.ordering.specs.Histories.{Lowers}
use Rattle.ordering.proofs.Records.{body_shape}
use Rattle.machine.specs.State.{State, is_open}
use Rattle.machine.specs.Cells.{with_slot, with_entry}
use Rattle.machine.specs.Paths.{holder, number_at, slot_at}
use Rattle.machine.specs.Effects.{with_links, removed, relinked}
use Rattle.plans_data.specs.Issues.{Issues, Then}
use Rattle.plans_naming.specs.Entries.{no_entry}
use Rattle.plans_naming.specs.Unlink.{StaysWith}
use Rattle.plans_naming.specs.RemoveDirectory.{CanRemove, removing_name}
use Rattle.plans_naming.proofs.EntryEffects.{written_slot}
use Rattle.plans_naming.proofs.Links.{same_body}
use Rattle.plans_naming.proofs.Unlinks.{not_swept}
use Rattle.plans_naming.proofs.Rests.{same_ghost}
use Rattle.plans_naming.proofs.RemoveOrder.{with_gone, apart, entry_issues, parent_number, parent_links, fewer_of_it, fewer_of_parent, gone_first, none_other}

-- ---- the updates in their order

module _ (geo : Geometry) (disk : View) (q : List Pending) (held safe : ℕ → Bool) (i b d s block : ℕ) (name : List ℕ) (after : List Cell)
    (can : CanRemove geo (users_view disk q) i b d s block name after) (not_safe : IsFalse (safe i)) (all : AllAgree geo disk q (at_rest held safe)) where
  abbrev ghost : Ghost
  ghost = at_rest held safe

  abbrev users : View
  users = users_view disk q

  abbrev x : Inode
  x = users.inode i

  abbrev y : Inode
  y = users.inode d

  abbrev fewer : Inode
  fewer = with_links x (x.links - 2)

  abbrev less : Inode
  less = with_links y (y.links - 1)

  abbrev gone : Ghost
  gone = with_gone geo disk q held safe i b d s block name after can not_safe all

  abbrev users1 : View
  users1 = updated users (SetBytes block (with_slot (users.bytes block) s no_entry))

  abbrev users2 : View
  users2 = updated users1 (SetInode i fewer)

  body : SameBody geo x fewer
  body = same_body geo x (x.links - 2) (directory_sound geo users i can.directory)

  lower : MayLower geo users1 gone (Block block ∷ []) i fewer
  lower = record {
    body = body;
    witnesses = λ g t e. gone_first geo disk q held safe i b d s block name after can not_safe all g t;
    links = λ m h. (let few = fewer_of_it geo disk q held safe i b d s block name after can not_safe all m h in omega (arith, few));
  }

  parent_there : users2.inode d ≡ y
  parent_there = put_there users.inode i d fewer (apart geo disk q held safe i b d s block name after can not_safe all)

  lower_parent : MayLower geo users2 (settled i gone) (Block block ∷ []) d less
  lower_parent = record {
    body = subst (λ r. SameBody geo r less) (sym parent_there) (same_body geo y (y.links - 1) (directory_sound geo users d (reachable_directory geo users d can.place.reachable)));
    witnesses = λ g t e. gone_first geo disk q held safe i b d s block name after can not_safe all g (and_parts (gone.gone g) (not (eqb g.number i)) t).0;
    links = λ m h.
        let was = count_back geo users1 users2 (body_shape geo users1 i fewer body).tree d m (omega (arith, number_low geo d (parent_number geo disk q held safe i b d s block name after can not_safe all))) h in
        let few = fewer_of_parent geo disk q held safe i b d s block name after can not_safe all was.0 was.1 in
        omega (arith, was.2, few);
  }

  pub removing_name_issues : Issues geo disk q ghost (removing_name i x d y block (users.bytes block) s after q) ghost
  removing_name_issues =
      subst (λ g. Issues geo disk q ghost (removing_name i x d y block (users.bytes block) s after q) g)
      (same_ghost refl (fun_ext (λ g. none_other geo disk q held safe i b d s block name after can not_safe all g)) refl refl refl refl)
      (Then (record { change = SetInode d less; after = Block block ∷ [] }) (settled d (settled i gone))
      (Then (record { change = SetInode i fewer; after = Block block ∷ [] }) (settled i gone)
      (entry_issues geo disk q held safe i b d s block name after can not_safe all)
      (Lowers (Block block ∷ []) i fewer lower))
      (Lowers (Block block ∷ []) d less lower_parent))

-- ---- what users see

-- a state in which the parent loses a link that is not its last
pub parent_relinked : (geo : Geometry) (st : State) (d : ℕ) (y : Inode) → st.view.inode d ≡ y → 2 ≤ y.links
    → record st { view = updated st.view (SetInode d (with_links y (y.links - 1))) } ≡ relinked geo st d (y.links - 1)
parent_relinked geo st d y here links =
    ap (λ (r : Inode). record st { view = updated st.view (SetInode d (with_links r (y.links - 1))) }) (sym here)
    ∙ sym (not_swept geo (record st { view = updated st.view (SetInode d (with_links (st.view.inode d) (y.links - 1))) }) d
    (ap (λ (r : Inode). eqb r.links 0 && not (is_open st d)) (put_here' st.view.inode d (with_links (st.view.inode d) (y.links - 1))) ∙ not_zero (eqb (y.links - 1) 0) refl))
  where
    put_here' : (f : ℕ → Inode) (n : ℕ) (r : Inode) → put_at f n r n ≡ r
    put_here' = put_here

    not_zero : (t : Bool) → eqb (y.links - 1) 0 ≡ t → (eqb (y.links - 1) 0 && not (is_open st d)) ≡ false
    not_zero false e = ap (λ u. u && not (is_open st d)) e
    not_zero true e = absurd (let z : y.links - 1 ≡ 0 = eqb-true (y.links - 1) 0 e in omega (arith, z, links))

module _ (geo : Geometry) (old : State) (path : List ℕ) (b block : ℕ) (name : List ℕ) (after : List Cell)
    (can : CanRemove geo old.view (number_at geo old.view path) b (holder geo old.view path) (slot_at geo old.view path) block name after) where
  abbrev n : ℕ
  n = number_at geo old.view path

  abbrev e : ℕ
  e = holder geo old.view path

  abbrev t : ℕ
  t = slot_at geo old.view path

  abbrev it : Inode
  it = old.view.inode n

  abbrev its_parent : Inode
  its_parent = old.view.inode e

  abbrev all_three : View → View
  all_three v = updated (updated (updated v (SetBytes block (with_slot (old.view.bytes block) t no_entry))) (SetInode n (with_links it (it.links - 2)))) (SetInode e (with_links its_parent (its_parent.links - 1)))

  removes : (e ≡ n → ⊥) → 2 ≤ its_parent.links → StaysWith old n (it.links - 2) → record old { view = all_three old.view } ≡ removed geo old path
  removes differs links stays =
      parent_relinked geo (record old { view = updated (updated old.view (SetBytes block (with_slot (old.view.bytes block) t no_entry))) (SetInode n (with_links it (it.links - 2))) }) e its_parent
      (put_there old.view.inode n e (with_links it (it.links - 2)) differs) links
      ∙ ap (λ (v : View). relinked geo (record old { view = updated v (SetInode n (with_links it (it.links - 2))) }) e (its_parent.links - 1)) (sym (written_slot geo old.view e t block (Good n name) no_entry can.place))
      ∙ ap (λ st. relinked geo st e (its_parent.links - 1)) (sym (not_swept geo (record old { view = updated (with_entry geo old.view e t no_entry) (SetInode n (with_links it (it.links - 2))) }) n
      (ap (λ (r : Inode). eqb r.links 0 && not (is_open old n)) (put_here old.view.inode n (with_links it (it.links - 2))) ∙ stays)))

  pub removing_name_removes : (disk : View) (q : List Pending) → users_view disk q ≡ old.view → (safe : ℕ → Bool)
      → IsFalse (safe n) → AllAgree geo disk q (at_rest old.held safe) → StaysWith old n (it.links - 2)
      → record old { view = users_view disk (removing_name n it e its_parent block (old.view.bytes block) t after q) } ≡ removed geo old path
  removing_name_removes disk q same safe not_safe all stays =
      let can' : CanRemove geo (users_view disk q) n b e t block name after = subst (λ (v : View). CanRemove geo v n b e t block name after) (sym same) can in
      ap (λ (v : View). record old { view = all_three v }) same
      ∙ removes (apart geo disk q old.held safe n b e t block name after can' not_safe all)
      (subst (λ (v : View). 2 ≤ (v.inode e).links) same (parent_links geo disk q old.held safe n b e t block name after can' not_safe all)) stays
