-- A file is created in a directory that gets a block for its entry: what users see, and the updates in their order.
use Rattle.std.proofs.Common.{◌≡◌, ℕ, Bool, true, List, [], length, inl, inr, refl, sym, ap, ◌∙◌, subst, arith, IsTrue}
use Rattle.std.proofs.lemmas.Bool.{cases_eq, and_from}
use Rattle.std.proofs.lemmas.List.{length-replicate}
use Rattle.model.specs.Layout.{Geometry, is_number}
use Rattle.model.specs.View.{View, Inode}
use Rattle.model.specs.Cells.{SetInode, SetNumber, updated}
use Rattle.model.specs.Uses.{is_sound, is_directory_at, direct_positions}
use Rattle.model.specs.Rules.{ObeysRules}
use Rattle.model.proofs.SlotLemmas.{reachable_directory, directory_sound, number_low}
use Rattle.model.proofs.Uses.{new_file_sound}
use Rattle.model.proofs.Places.{put_here, put_there}
use Rattle.ordering.specs.Cuts.{Cell, Pending, users_view}
use Rattle.ordering.specs.Ghosts.{Ghost, at_rest}
use Rattle.ordering.specs.Agrees.{AllAgree}
use Rattle.ordering.specs.Histories as histories
use Rattle.ordering.proofs.Bits.{users_obey, sound_used}
use Rattle.ordering.proofs.Places.{place_back}
use Rattle.machine.specs.State.{State}
use Rattle.machine.specs.Cells.{with_slot, Enters}
use Rattle.machine.specs.Paths.{holder, name_in}
use Rattle.machine.specs.Effects.{file_with, Creates}
use Rattle.plans_data.specs.Issues.{Issues, Then}
use Rattle.plans_data.specs.Append.{Holder}
use Rattle.plans_data.proofs.Chains.{issues_agree, joined}
use Rattle.plans_naming.specs.Entries.{UnmarkedAreNotHeld}
use Rattle.plans_naming.specs.Grow.{CanGrow, empty_block, grown}
use Rattle.plans_naming.specs.Create.{CanCreateGrown, born, creating_grown}
use Rattle.plans_naming.proofs.Births.{recorded, free, born_folder, born_unnamed}
use Rattle.plans_naming.proofs.CreateOrder.{born_leads}
use Rattle.plans_naming.proofs.Folders.{SameFolder, takes_there, blocks_there}
use Rattle.plans_naming.proofs.Puts.{may_enter, new_name}
use Rattle.plans_naming.proofs.Rooms.{grow_there, Grows, grow_issues, fills_slot, enters_in_block}
use Rattle.plans_naming.proofs.Tallies.{none_counted}

-- what is known once the number has its record
module _ (geo : Geometry) (v : View) (rules : ObeysRules geo v) (n : ℕ) (words : List ℕ) (d b : ℕ) (kept : Holder) (s : ℕ) (name entry : List ℕ) (after : List Cell) (can : CanCreateGrown geo v n d b kept s name entry after) where
  abbrev mid : View
  mid = recorded geo v rules n can.number can.unmarked (file_with words)

  dir : IsTrue (is_directory_at geo v d)
  dir = reachable_directory geo v d can.enter.reachable

  pub apart : n ≡ d → ⊥
  apart e = sound_used geo (v.inode n) (subst (λ k. IsTrue (is_sound geo (v.inode k))) (sym e) (directory_sound geo v d dir)) (free geo v rules n can.number can.unmarked (file_with words))

  pub same : SameFolder geo v mid d
  same = born_folder geo v rules n can.number can.unmarked (file_with words) d dir

  pub parent_same : mid.inode d ≡ v.inode d
  parent_same = put_there v.inode n d (file_with words) (λ e. apart (sym e))

  pub can_grow : CanGrow geo mid d b kept
  can_grow = grow_there geo v mid d b kept can.enter.grow pointers (can.enter.grow.whole).blocks (ap (λ (y : Inode). y.size) parent_same)
      same (can.enter.grow.free).unmarked (λ x i f. f) (λ m x c. refl)
    where
      pointers : (m : ℕ) → IsTrue (is_number geo m) → length (mid.inode m).direct ≡ direct_positions
      pointers m number = elim (cases_eq m n) [
        | inl e ↦ ap (λ k. length (mid.inode k).direct) e ∙ ap (λ (y : Inode). length y.direct) (put_here v.inode n (file_with words)) ∙ length-replicate {A = ℕ} 12 0
        | inr e ↦ ap (λ (y : Inode). length y.direct) (put_there v.inode n m (file_with words) e) ∙ (can.enter.grow.whole).pointers m number
      ]

module _ (geo : Geometry) (disk : View) (q : List Pending) (held safe : ℕ → Bool) (marked : UnmarkedAreNotHeld (users_view disk q) held)
    (n : ℕ) (words : List ℕ) (d b : ℕ) (kept : Holder) (s : ℕ) (name entry : List ℕ) (after : List Cell) (can : CanCreateGrown geo (users_view disk q) n d b kept s name entry after)
    (all : AllAgree geo disk q (at_rest held safe)) where
  abbrev ghost : Ghost
  ghost = at_rest held safe

  abbrev users : View
  users = users_view disk q

  abbrev p : List Pending
  p = born n (file_with words) [] q

  o : ObeysRules geo users
  o = users_obey geo disk q ghost all

  first : Issues geo disk q ghost p ghost
  first = born_leads geo disk q held safe n words can.number can.unmarked all

  all1 : AllAgree geo disk p ghost
  all1 = issues_agree geo disk q ghost p ghost first all

  folder : SameFolder geo users (users_view disk p) d
  folder = same geo users o n words d b kept s name entry after can

  parent : (users_view disk p).inode d ≡ users.inode d
  parent = parent_same geo users o n words d b kept s name entry after can

  grows : Grows geo disk p ghost d (users.inode d) b kept s
  grows = grow_issues geo disk p ghost d (users.inode d) b kept s parent (can_grow geo users o n words d b kept s name entry after can) (folder.reach can.enter.reachable)
      (λ a f. (marked a f, λ m k. refl)) can.enter.stands all1

  pub creating_grown_enters : Enters geo (users_view disk p) d name n (users_view disk (creating_grown geo n words d (users.inode d) b kept s entry after q))
  creating_grown_enters = enters_in_block geo disk p ghost d (users.inode d) b kept s parent (can_grow geo users o n words d b kept s name entry after can) (folder.reach can.enter.reachable)
      (λ a f. (marked a f, λ m k. refl)) can.enter.stands all1 n name entry after can.says

  abbrev q2 : List Pending
  q2 = grown geo d (users.inode d) b kept p

  abbrev w : View
  w = users_view disk q2

  second : Issues geo disk q ghost q2 ghost
  second = joined geo disk q ghost p ghost q2 ghost first grows.issues

  record_is : w.inode n ≡ (file_with words)
  record_is = (grows.room).records n (apart geo users o n words d b kept s name entry after can) ∙ put_here users.inode n (file_with words)

  pub creating_grown_issues : Issues geo disk q ghost (creating_grown geo n words d (users.inode d) b kept s entry after q) ghost
  creating_grown_issues =
      let room = grows.room in
      let links : (w.inode n).links ≡ 1 = ap (λ (y : Inode). y.links) record_is in
      Then _ ghost second (histories.Enters after b (with_slot empty_block s entry) d s n name
      (may_enter geo w ghost after b (with_slot empty_block s entry) d s n name (users_obey geo disk q2 ghost (issues_agree geo disk q ghost q2 ghost second all)) (λ g. refl)
      (fills_slot geo (users_view disk p) w d b s n name entry room (takes_there geo users (users_view disk p) d folder name can.enter.takes) can.number can.says)
      (new_name geo w d s b name after (room.takes name (takes_there geo users (users_view disk p) d folder name can.enter.takes)) (room.others after (blocks_there geo users (users_view disk p) d folder after can.enter.blocks_first)))
      (ap (λ (y : Inode). y.mode) record_is) can.number (and_from (is_number geo n) (is_sound geo (w.inode n)) can.number (ap (is_sound geo) record_is ∙ new_file_sound geo)) can.record_first
      (λ m h. let none = none_counted geo w n (omega (arith, number_low geo n can.number)) (λ e t c y. born_unnamed geo users o n can.number can.unmarked (file_with words) e t c (place_back geo (users_view disk p) w room.tree n e t c y)) m h in omega (arith, none, links))))

-- ---- what users see

pub creating_grown_creates : (geo : Geometry) (old : State) (path words : List ℕ) (n b : ℕ) (kept : Holder) (s : ℕ) (entry : List ℕ) (after : List Cell) → CanCreateGrown geo old.view n (holder geo old.view path) b kept s (name_in path) entry after
    → (disk : View) (q : List Pending) → users_view disk q ≡ old.view → (safe : ℕ → Bool) → UnmarkedAreNotHeld old.view old.held
    → AllAgree geo disk q (at_rest old.held safe)
    → Creates geo old path words n (record old { view = users_view disk (creating_grown geo n words (holder geo old.view path) (old.view.inode (holder geo old.view path)) b kept s entry after q) })
creating_grown_creates geo old path words n b kept s entry after can disk q same safe marked all = record {
  free = record { number = can.number; unmarked = can.unmarked };
  view = users_view disk (creating_grown geo n words d (old.view.inode d) b kept s entry after q);
  enters = subst (λ (v : View). Enters geo (updated (updated v (SetNumber n true)) (SetInode n (file_with words))) d (name_in path) n (users_view disk (creating_grown geo n words d (v.inode d) b kept s entry after q))) same
      (creating_grown_enters geo disk q old.held safe (subst (λ v. UnmarkedAreNotHeld v old.held) (sym same) marked) n words d b kept s (name_in path) entry after
      (subst (λ v. CanCreateGrown geo v n d b kept s (name_in path) entry after) (sym same) can) all);
  whole = refl;
}
  where
    d : ℕ
    d = holder geo old.view path
