-- An inode gets fewer links or is freed, and a handle is closed: each update is of its kind.
use Rattle.std.proofs.Common.{◌≡◌, ℕ, ◌≤◌, Bool, true, false, not, ◌&&◌, cond, eqb, List, [], ◌∷◌, refl, sym, ap, ◌∙◌, IsTrue, IsFalse, arith, eqb-true}
use Rattle.std.proofs.lemmas.Bool.{both_ways, and_parts, cond-false}
use Rattle.model.specs.Layout.{Geometry, is_number}
use Rattle.model.specs.View.{View, Inode}
use Rattle.model.specs.Cells.{SetInode, updated}
use Rattle.model.specs.Uses.{is_sound}
use Rattle.model.specs.Reach.{HasEntries}
use Rattle.model.specs.Rules.{ObeysRules}
use Rattle.model.proofs.Finite.{entries_exist}
use Rattle.model.proofs.Places.{put_here}
use Rattle.machine.specs.State.{State, is_open}
use Rattle.machine.specs.Effects.{swept, relinked, with_links, closed}
use Rattle.machine.specs.Causes.{file_of}
use Rattle.machine.proofs.Clears.{named_reachable}
use Rattle.machine.proofs.Counting.{counted}
use Rattle.ordering.specs.Cuts.{Pending, users_view}
use Rattle.ordering.specs.Ghosts.{Ghost, at_rest}
use Rattle.ordering.specs.Places.{HasPlace}
use Rattle.ordering.specs.Agrees.{AllAgree}
use Rattle.ordering.specs.Histories.{Lowers}
use Rattle.ordering.proofs.Bits.{users_obey}
use Rattle.plans_data.specs.Issues.{Issues}
use Rattle.plans_data.specs.Now.{now, becomes}
use Rattle.plans_data.specs.Freeing.{MayFreeing, freeing}
use Rattle.plans_data.specs.Relink.{goes_away, relinking, closing, held_if, MayRelink, MayClose, without_handle}
use Rattle.plans_data.proofs.Chains.{stand, step}
use Rattle.plans_data.proofs.Freeing.{freeing_issues}
use Rattle.plans_data.proofs.LetsGo.{true_not}
use Rattle.plans_data.proofs.Swept.{freeing_swept, freeing_relinked}

-- an inode without entries stands nowhere
pub no_place : (geo : Geometry) (v : View) (n : ℕ) → ((m : ℕ) → HasEntries geo v n m → m ≤ 0) → (d s b : ℕ) → HasPlace geo v n d s b → ⊥
no_place geo v n none d s b p =
    let m = entries_exist geo v n in
    let some = counted geo v d s n m.0 p.reachable p.names m.1 in
    let few = none m.0 m.1 in
    omega (arith, some, few)

module _ (geo : Geometry) (disk : View) (q : List Pending) (old : State) (safe : ℕ → Bool) (n : ℕ) (blocks : List ℕ)
    (all : AllAgree geo disk q (at_rest old.held safe)) where
  abbrev users : View
  users = users_view disk q

  abbrev ghost : Ghost
  ghost = at_rest old.held safe

  rules : ObeysRules geo users
  rules = users_obey geo disk q ghost all

  module _ (links : ℕ) (may : MayRelink geo (now disk q old) n links blocks) where
    abbrev gone : Bool
    gone = goes_away links (is_open old n)

    abbrev held : ℕ → Bool
    held = held_if gone geo (now disk q old) n

    abbrev fewer : Inode
    fewer = with_links (users.inode n) links

    abbrev q1 : List Pending
    q1 = record { change = SetInode n fewer; after = [] } ∷ q

    none_left : IsTrue gone → links ≡ 0
    none_left t = eqb-true links 0 (and_parts (eqb links 0) (not (is_open old n)) t).0

    shut : IsTrue gone → IsFalse (is_open old n)
    shut t = true_not (is_open old n) (and_parts (eqb links 0) (not (is_open old n)) t).1

    may_free : IsTrue gone → MayFreeing geo (now disk q old) (λ g. false) n blocks []
    may_free t = record {
      number = (and_parts (is_number geo n) (is_sound geo (users.inode n)) may.sound).0;
      no_place = no_place geo users n (λ m h. omega (arith, may.enough m h, none_left t));
      witnesses = λ g h e. absurd (both_ways false refl h);
      given_up = may.given_up t;
      held = may.held;
    }

    stays : Issues geo disk q ghost q1 ghost
    stays = (step geo disk q ghost q ghost (record { change = SetInode n fewer; after = [] }) ghost (stand geo disk q ghost all)
        (Lowers [] n fewer (record {
          body = let sound = (and_parts (is_number geo n) (is_sound geo (users.inode n)) may.sound).1 in record { sound = sound; still_sound = sound; mode = refl; blocks = refl; direct = refl; indirect = refl; double = refl };
          witnesses = λ g h e. absurd (both_ways false refl h);
          links = may.enough;
        }))).issues

    pub relink_issues : Issues geo disk q ghost (relinking n (users.inode n) links (is_open old n) blocks q) (at_rest held safe)
    relink_issues = by gone refl
      where
        by : (t : Bool) → gone ≡ t → Issues geo disk q ghost (cond t (freeing n blocks [] q) q1) (at_rest (held_if t geo (now disk q old) n) safe)
        by true e = freeing_issues geo disk q old (λ g. false) safe n blocks [] (may_free e) all
        by false e = stays

    pub relink_relinks : becomes disk (relinking n (users.inode n) links (is_open old n) blocks q) held old ≡ relinked geo (now disk q old) n links
    relink_relinks = by gone refl
      where
        by : (t : Bool) → gone ≡ t → becomes disk (cond t (freeing n blocks [] q) q1) (held_if t geo (now disk q old) n) old ≡ relinked geo (now disk q old) n links
        by true e = freeing_relinked geo disk q old (λ g. false) safe n blocks [] (may_free e) all (shut e) ∙ ap (relinked geo (now disk q old) n) (sym (none_left e))
        by false e = sym (cond-false (eqb (((updated users (SetInode n fewer)).inode n).links) 0 && not (is_open old n)) _ (record old { view = updated users (SetInode n fewer) })
            (ap (λ (x : Inode). eqb x.links 0 && not (is_open old n)) (put_here users.inode n fewer) ∙ e))

  -- ---- a handle is closed

  module _ (h : ℕ) (may : MayClose geo (now disk q old) h n blocks) where
    abbrev left : State
    left = without_handle h old

    abbrev gone_too : Bool
    gone_too = goes_away (users.inode n).links (is_open left n)

    may_free_it : IsTrue gone_too → MayFreeing geo (now disk q left) (λ g. false) n blocks []
    may_free_it t = record {
      number = may.number;
      no_place = λ d s b p. no_place geo users n (λ m e.
          let few = rules.rule8 n m (named_reachable geo users rules d s n p.reachable p.names) e in
          let none : (users.inode n).links ≡ 0 = eqb-true (users.inode n).links 0 (and_parts (eqb (users.inode n).links 0) (not (is_open left n)) t).0 in
          omega (arith, few, none)) d s b p;
      witnesses = λ g e f. absurd (both_ways false refl e);
      given_up = may.given_up t;
      held = may.held;
    }

    pub close_issues : Issues geo disk q ghost (closing n (users.inode n) (is_open left n) blocks q) (at_rest (held_if gone_too geo (now disk q old) n) safe)
    close_issues = by gone_too refl
      where
        by : (t : Bool) → gone_too ≡ t → Issues geo disk q ghost (cond t (freeing n blocks [] q) q) (at_rest (held_if t geo (now disk q old) n) safe)
        by true e = freeing_issues geo disk q left (λ g. false) safe n blocks [] (may_free_it e) all
        by false e = (stand geo disk q ghost all).issues

    pub close_closes : n ≡ file_of old h → becomes disk (closing n (users.inode n) (is_open left n) blocks q) (held_if gone_too geo (now disk q old) n) left ≡ closed geo (now disk q old) h
    close_closes same = by gone_too refl ∙ ap (λ i. swept geo (now disk q left) i) same
      where
        by : (t : Bool) → gone_too ≡ t → becomes disk (cond t (freeing n blocks [] q) q) (held_if t geo (now disk q old) n) left ≡ swept geo (now disk q left) n
        by true e =
            let parts = and_parts (eqb (users.inode n).links 0) (not (is_open left n)) e in
            freeing_swept geo disk q left (λ g. false) safe n blocks [] (may_free_it e) all (true_not (is_open left n) parts.1) (eqb-true (users.inode n).links 0 parts.0)
        by false e = sym (cond-false gone_too _ (now disk q left) e)
