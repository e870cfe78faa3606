-- A directory is made in an empty slot: what users see, and the updates in their order.
use Rattle.std.proofs.Common.{◌≡◌, ◌+◌, ◌/◌, ℕ, Bool, true, false, eqb, List, inl, refl, sym, ap, subst, arith, eq-eqb}
use mathlib.Core.Path.{fun_ext}
use Rattle.std.proofs.lemmas.Bool.{or_left}
use Rattle.model.specs.Layout.{Geometry}
use Rattle.model.specs.View.{View, Inode}
use Rattle.model.specs.Cells.{SetInode, SetNumber, SetBlock, SetBytes, updated}
use Rattle.model.specs.Slots.{Empty, Good}
use Rattle.model.specs.Rules.{ObeysRules}
use Rattle.model.proofs.SlotLemmas.{number_low, directory_number, reachable_directory}
use Rattle.model.proofs.SameTree.{count_back}
use Rattle.ordering.specs.Cuts.{Cell, Pending, users_view}
use Rattle.ordering.specs.Ghosts.{Ghost, at_rest}
use Rattle.ordering.specs.Agrees.{AllAgree}
use Rattle.ordering.specs.Rewrites.{entered}
use Rattle.ordering.specs.OneSlot.{now_entered}
use Rattle.ordering.specs.Histories.{EntersDirectory}
use Rattle.ordering.proofs.Bits.{users_obey}
use Rattle.machine.specs.State.{State}
use Rattle.machine.specs.Cells.{with_slot}
use Rattle.machine.specs.Paths.{holder, name_in}
use Rattle.machine.specs.Effects.{MakesDirectory, with_links, new_directory}
use Rattle.plans_data.specs.Issues.{Issues, Then}
use Rattle.plans_data.proofs.Chains.{issues_agree}
use Rattle.plans_naming.specs.Entries.{UnmarkedAreNotHeld, slot_written}
use Rattle.plans_naming.specs.Make.{CanMakeIn, made, making}
use Rattle.plans_naming.proofs.Folders.{stands_there, change_there, name_there}
use Rattle.plans_naming.proofs.Puts.{enters_slot, new_name}
use Rattle.plans_naming.proofs.EntryEffects.{enters_in_slot}
use Rattle.plans_naming.proofs.MakeViews.{v5, apart, made_folder, made_tree, made_unnamed, made_record, made_dots, parent_record}
use Rattle.plans_naming.proofs.MakeOrder.{made_issues, dots_before, link_before}
use Rattle.plans_naming.proofs.DirectoryEntries.{may_enter_directory}
use Rattle.plans_naming.proofs.Rests.{same_ghost, out_again}

-- ---- what users see

module _ (geo : Geometry) (old : State) (path words : List ℕ) (i b : ℕ) (dots : List ℕ) (s block : ℕ) (entry : List ℕ) (after : List Cell) (rules : ObeysRules geo old.view)
    (can : CanMakeIn geo old.view i b dots (holder geo old.view path) s block (name_in path) entry after) where
  abbrev d : ℕ
  d = holder geo old.view path

  abbrev mid : View
  mid = v5 geo old.view rules i b d words dots can.make can.place.reachable

  makes : MakesDirectory geo old path words i (record old { view = updated mid (SetBytes block (with_slot (old.view.bytes block) s entry)) })
  makes =
      let same = made_folder geo old.view rules i b d words dots can.make can.place.reachable in
      record {
        free = record { number = can.make.number; unmarked = can.make.unmarked };
        block = b;
        free_block = record { address = can.make.address; unmarked = can.make.block_unmarked };
        bytes = dots;
        dots = can.make.are_dots;
        view = updated mid (SetBytes block (with_slot (mid.bytes block) s entry));
        enters = enters_in_slot geo mid d s block i (name_in path) entry (stands_there geo old.view mid d same s block Empty can.place) can.says;
        whole = ap (λ c. record old { view = updated mid (SetBytes block (with_slot c s entry)) }) (same.bytes (s / 16) block can.place.below can.place.claim);
      }

  abbrev all_six : View → View
  all_six v = updated (updated (updated (updated (updated (updated v (SetNumber i true)) (SetBlock b true)) (SetInode d (with_links (old.view.inode d) ((old.view.inode d).links + 1)))) (SetBytes b dots)) (SetInode i (new_directory b words)))
      (SetBytes block (with_slot (old.view.bytes block) s entry))

  pub making_makes : (disk : View) (q : List Pending) → users_view disk q ≡ old.view
      → MakesDirectory geo old path words i (record old { view = users_view disk (making i b words dots d (old.view.inode d) block (old.view.bytes block) s entry after q) })
  making_makes disk q same = subst (λ (v : View). MakesDirectory geo old path words i (record old { view = all_six v })) (sym same) makes

-- ---- the updates in their order

module _ (geo : Geometry) (disk : View) (q : List Pending) (held safe : ℕ → Bool)
    (i b : ℕ) (words dots : List ℕ) (d s block : ℕ) (name entry : List ℕ) (after : List Cell) where
  abbrev ghost : Ghost
  ghost = at_rest held safe

  abbrev users : View
  users = users_view disk q

  pub entered_again : now_entered i (entered i ghost) ≡ ghost
  entered_again = same_ghost refl refl refl refl (fun_ext (λ j. out_again (eqb j i) (eqb j i) (λ t. t))) refl

  pub making_issues : CanMakeIn geo users i b dots d s block name entry after → UnmarkedAreNotHeld users held → AllAgree geo disk q ghost
      → Issues geo disk q ghost (making i b words dots d (users.inode d) block (users.bytes block) s entry after q) ghost
  making_issues can marked all =
      let not_held = marked b can.make.block_unmarked in
      let o = users_obey geo disk q ghost all in
      let x = users.inode d in
      let p = made i b words dots d x q in
      let w = users_view disk p in
      let r = can.place.reachable in
      let first = made_issues geo disk q held safe i b d words dots can.make r not_held all in
      let all5 = issues_agree geo disk q ghost p (entered i ghost) first all in
      let same = made_folder geo users o i b d words dots can.make r in
      let change = change_there geo users w d same block (with_slot (users.bytes block) s entry) s Empty (Good i name) (enters_slot geo users d s block i Empty name entry can.place can.takes can.make.number can.says) in
      let fresh_name = name_there geo users w d same after block s name (new_name geo users d s block name after can.takes can.others_first) in
      let links : (w.inode d).links ≡ x.links + 1 = ap (λ (y : Inode). y.links) (parent_record geo users o i b d words dots can.make r) in
      let enter = may_enter_directory geo disk p (entered i ghost) after block (with_slot (users.bytes block) s entry) d s i b name dots (users_obey geo disk p (entered i ghost) all5) change fresh_name
      can.make.are_dots can.make.number can.make.address (made_record geo users o i b d words dots can.make r) (made_dots geo users o i b d words dots can.make r) (made_unnamed geo users o i b d words dots can.make r) (apart geo users o i b d words dots can.make r)
      (λ g. refl) (or_left (eqb i i) false (eq-eqb i i refl)) can.record_first (dots_before geo disk q held safe i b d words dots can.make r not_held all)
      (λ cut closed f g c. link_before geo disk q held safe i b d words dots can.make r not_held all cut closed f)
      (λ n h.
      let was = count_back geo users w (made_tree geo users o i b d words dots can.make r) d n (omega (arith, number_low geo d (directory_number geo users d (reachable_directory geo users d r)))) h in
      let enough = o.rule8 d was.0 (inl r) was.1 in
      omega (arith, was.2, enough, links)) in
      subst (λ g. Issues geo disk q ghost (making i b words dots d x block (users.bytes block) s entry after q) g) entered_again
      (Then (slot_written block (users.bytes block) s entry after) (now_entered i (entered i ghost)) first (EntersDirectory after block (with_slot (users.bytes block) s entry) d s i b name enter))
