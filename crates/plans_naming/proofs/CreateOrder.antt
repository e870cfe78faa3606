-- The updates by which a file is created in an empty slot, in their order.
use Rattle.std.proofs.Common.{◌≡◌, ℕ, Bool, true, List, [], ◌∷◌, inr, refl, ap, ◌∙◌, arith, IsTrue, IsFalse}
use Rattle.std.proofs.lemmas.Bool.{both_ways, and_from}
use Rattle.model.specs.Layout.{Geometry, is_number}
use Rattle.model.specs.View.{View, Inode}
use Rattle.model.specs.Cells.{SetInode, SetNumber, updated, put_at}
use Rattle.model.specs.Uses.{is_sound, has_position}
use Rattle.model.specs.Slots.{Empty, Good}
use Rattle.model.specs.Rules.{ObeysRules}
use Rattle.model.proofs.SlotLemmas.{reachable_directory, number_low}
use Rattle.model.proofs.Uses.{new_file_sound}
use Rattle.model.proofs.Places.{put_here}
use Rattle.machine.specs.Effects.{file_with}
use Rattle.ordering.specs.Cuts.{Cell, NumberBit, Pending, users_view}
use Rattle.ordering.specs.Ghosts.{Ghost, at_rest}
use Rattle.ordering.specs.Agrees.{AllAgree}
use Rattle.ordering.specs.Rewrites.{MayCreate}
use Rattle.ordering.specs.Histories.{SetsNumber, CreatesFile, Enters}
use Rattle.ordering.proofs.Bits.{users_obey, claim_used}
use Rattle.machine.specs.Cells.{with_slot}
use Rattle.machine.proofs.NewFile.{new_has_none}
use Rattle.plans_data.specs.Issues.{Issues, Nothing, Then}
use Rattle.plans_naming.specs.Create.{CanCreate, born, creating}
use Rattle.plans_data.proofs.Chains.{issues_agree}
use Rattle.plans_naming.proofs.Folders.{change_there, name_there}
use Rattle.plans_naming.proofs.Puts.{enters_slot, new_name, may_enter}
use Rattle.plans_naming.proofs.Births.{free, born_folder, born_unnamed}
use Rattle.plans_naming.proofs.Tallies.{none_counted}

unused : (geo : Geometry) (words : List ℕ) (k : ℕ) → IsTrue (has_position geo (file_with words) k) → ⊥
unused geo words k u = both_ways (has_position geo (file_with words) k) (new_has_none geo k) u

module _ (geo : Geometry) (disk : View) (q : List Pending) (held safe : ℕ → Bool) where
  abbrev ghost : Ghost
  ghost = at_rest held safe

  abbrev users : View
  users = users_view disk q

  -- a free number gets its bit and an empty file
  module _ (n : ℕ) (words : List ℕ) (number : IsTrue (is_number geo n)) (unmarked : IsFalse (users.number_marked n)) (all : AllAgree geo disk q ghost) where
    rules : ObeysRules geo users
    rules = users_obey geo disk q ghost all

    abbrev q1 : List Pending
    q1 = record { change = SetNumber n true; after = [] } ∷ q

    create : MayCreate geo disk q1 ghost (NumberBit n ∷ []) n (file_with words)
    create = record {
      free = free geo users rules n number unmarked (file_with words);
      marked = put_here users.number_marked n true;
      not_zeroed = refl;
      bit = (0, omega arith, refl);
      sound = new_file_sound geo;
      blocks = record {
        number = number;
        sound = inr (new_file_sound geo);
        came = λ k t u. absurd (unused geo words k u);
        once = λ k j b u v x y. absurd (unused geo words k u);
        went = λ k b c. absurd (claim_used geo (updated users (SetNumber n true)) n k b c (free geo users rules n number unmarked (file_with words)));
        held = λ b t. t;
        given_up = λ b m k t. t;
      };
    }

    pub born_leads : Issues geo disk q ghost (born n (file_with words) [] q) ghost
    born_leads = Then (record { change = SetInode n (file_with words); after = NumberBit n ∷ [] }) ghost
        (Then (record { change = SetNumber n true; after = [] }) ghost Nothing (SetsNumber [] n number unmarked))
        (CreatesFile (NumberBit n ∷ []) n (file_with words) create)

  module _ (n : ℕ) (words : List ℕ) (d s block : ℕ) (name entry : List ℕ) (after : List Cell) (can : CanCreate geo users n d s block name entry after) where
    pub creating_leads : AllAgree geo disk q ghost → Issues geo disk q ghost (creating n words block (users.bytes block) s entry after q) ghost
    creating_leads all =
        let o = users_obey geo disk q ghost all in
        let first = born_leads n words can.number can.unmarked all in
        let all2 = issues_agree geo disk q ghost (born n (file_with words) [] q) ghost first all in
        let mid = users_view disk (born n (file_with words) [] q) in
        let same = born_folder geo users o n can.number can.unmarked (file_with words) d (reachable_directory geo users d can.place.reachable) in
        let here : put_at users.inode n (file_with words) n ≡ (file_with words) = put_here users.inode n (file_with words) in
        let change = change_there geo users mid d same block (with_slot (users.bytes block) s entry) s Empty (Good n name) (enters_slot geo users d s block n Empty name entry can.place can.takes can.number can.says) in
        let fresh_name = name_there geo users mid d same after block s name (new_name geo users d s block name after can.takes can.others_first) in
        let links : (put_at users.inode n (file_with words) n).links ≡ 1 = ap (λ (y : Inode). y.links) here in
        Then _ ghost first (Enters after block (with_slot (users.bytes block) s entry) d s n name
        (may_enter geo mid ghost after block (with_slot (users.bytes block) s entry) d s n name (users_obey geo disk (born n (file_with words) [] q) ghost all2) (λ g. refl) change fresh_name
        (ap (λ (y : Inode). y.mode) here) can.number (and_from (is_number geo n) (is_sound geo (put_at users.inode n (file_with words) n)) can.number (ap (is_sound geo) here ∙ new_file_sound geo)) can.record_first
        (λ m h. let none = none_counted geo mid n (omega (arith, number_low geo n can.number)) (born_unnamed geo users o n can.number can.unmarked (file_with words)) m h in omega (arith, none, links))))
