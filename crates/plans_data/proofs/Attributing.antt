-- An inode gets other attributes: the update is of its kind, and does what the command does.
use Rattle.std.proofs.Common.{◌≡◌, ℕ, Bool, List, [], ◌∷◌, refl, sym, subst, IsTrue, arith}
use Rattle.std.proofs.lemmas.Bool.{and_parts}
use Rattle.model.specs.Layout.{Geometry, is_number}
use Rattle.model.specs.View.{View, Inode, with_attributes}
use Rattle.model.specs.Cells.{SetInode}
use Rattle.model.specs.Uses.{is_sound, is_sound_at}
use Rattle.machine.specs.State.{State}
use Rattle.machine.specs.Command.{Done, SetAttributes}
use Rattle.machine.specs.Causes.{Accepts}
use Rattle.machine.specs.Effects.{attributed}
use Rattle.ordering.specs.Cuts.{Pending, users_view}
use Rattle.ordering.specs.Ghosts.{at_rest}
use Rattle.ordering.specs.Agrees.{AllAgree}
use Rattle.ordering.specs.Histories.{Raises}
use Rattle.plans_data.specs.Issues.{Issues}
use Rattle.plans_data.specs.Now.{now, becomes}
use Rattle.plans_data.specs.Carried.{Stands, IsCarriedOut}
use Rattle.plans_data.specs.Attributes.{attributing}
use Rattle.plans_data.proofs.Accepted.{accepted_attributes}
use Rattle.plans_data.proofs.Chains.{stand, step}
use Rattle.plans_data.proofs.Stands.{carried}

module _ (geo : Geometry) (disk : View) (q : List Pending) (old : State) (safe : ℕ → Bool) (n : ℕ) (words : List ℕ) where
  abbrev users : View
  users = users_view disk q

  abbrev new : Inode
  new = with_attributes (users.inode n) words

  pub attributes_issue : IsTrue (is_sound_at geo users n) → AllAgree geo disk q (at_rest old.held safe)
      → Issues geo disk q (at_rest old.held safe) (attributing n (users.inode n) words q) (at_rest old.held safe)
  attributes_issue at all =
      let sound = (and_parts (is_number geo n) (is_sound geo (users.inode n)) at).1 in
      (step geo disk q (at_rest old.held safe) q (at_rest old.held safe) (record { change = SetInode n new; after = [] }) (at_rest old.held safe)
      (stand geo disk q (at_rest old.held safe) all)
      (Raises [] n new (record { body = record { sound = sound; still_sound = sound; mode = refl; blocks = refl; direct = refl; indirect = refl; double = refl }; links = omega arith }))).issues

  pub attributes_set : becomes disk (attributing n (users.inode n) words q) old.held old ≡ attributed (now disk q old) n words
  attributes_set = refl

module _ (geo : Geometry) (disk : View) (q : List Pending) (old : State) (safe : ℕ → Bool) (stands : Stands geo disk q old safe) (n : ℕ) (words : List ℕ)
    (accepted : Accepts geo old (SetAttributes n words)) where
  abbrev set : View → List Pending
  set v = attributing n (v.inode n) words q

  pub carries_attributes : IsCarriedOut geo disk q old (SetAttributes n words) Done (set old.view) (becomes disk (set old.view) old.held old) safe safe
  carries_attributes =
      let at = subst (λ v. IsTrue (is_sound_at geo v n)) (sym stands.same) (accepted_attributes geo old n words accepted) in
      carried geo disk q old safe stands (SetAttributes n words) Done (set old.view) (becomes disk (set old.view) old.held old) safe
      (accepted, subst (λ v. becomes disk (set v) old.held old ≡ attributed (record old { view = v }) n words) stands.same (attributes_set geo disk q old safe n words)) refl
      (subst (λ v. Issues geo disk q (at_rest old.held safe) (set v) (at_rest old.held safe)) stands.same (attributes_issue geo disk q old safe n words at stands.agree))
