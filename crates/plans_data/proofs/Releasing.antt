-- Held blocks are unmarked, with nothing pending before.
use Rattle.std.proofs.Common.{◌≡◌, ℕ, Bool, true, false, not, ◌&&◌, ◌||◌, cond, eqb, List, [], ◌∷◌, inl, inr, refl, sym, ap, ◌∙◌, subst, IsTrue, IsFalse, eq-eqb}
use mathlib.Core.Path.{fun_ext}
use Rattle.std.proofs.lemmas.Bool.{cases_Bool, and_parts, and_from, both_ways, or_left, or_right}
use Rattle.model.specs.Layout.{Geometry}
use Rattle.model.specs.View.{View}
use Rattle.model.specs.Cells.{SetBlock, updated}
use Rattle.model.specs.Uses.{IsClaimed}
use Rattle.model.proofs.SameShape.{claim_back}
use Rattle.machine.specs.Standing.{others, ended}
use Rattle.machine.specs.State.{State, keeps}
use Rattle.machine.specs.Snapshot.{released, held_still}
use Rattle.machine.proofs.Tests.{and_true}
use Rattle.ordering.specs.Cuts.{Pending, users_view}
use Rattle.ordering.specs.Ghosts.{Ghost, at_rest}
use Rattle.ordering.specs.Agrees.{AllAgree}
use Rattle.ordering.specs.Histories.{Comes_to, Begins, ClearsBlock}
use Rattle.ordering.proofs.Bits.{block_bit_shape}
use Rattle.ordering.proofs.Flushes.{base_agrees}
use Rattle.ordering.proofs.HistoryLemmas.{comes_to_agrees}
use Rattle.plans_data.specs.Issues.{Issues}
use Rattle.plans_data.specs.Now.{now, becomes}
use Rattle.plans_data.specs.Held.{HeldAreRight}
use Rattle.plans_data.specs.Release.{MayRelease, releasing}
use Rattle.plans_data.proofs.Chains.{Goes, stand, step, issues_come}
use Rattle.plans_data.proofs.Clearing.{among, among_contains, contains_among}
use Rattle.plans_data.proofs.LetGoRight.{marks_shape}
use Rattle.plans_data.proofs.LetsGo.{same_truth, true_not}

-- ---- what users see

released_marks : (disk : View) (bs : List ℕ) (p : List Pending) → users_view disk (releasing bs p) ≡ record (users_view disk p) { block_marked = λ a. (users_view disk p).block_marked a && not (among a bs) }
released_marks disk [] p = ap (λ f. record (users_view disk p) { block_marked = f }) (fun_ext (λ a. sym (and_true ((users_view disk p).block_marked a))))
released_marks disk (b ∷ bs) p =
    released_marks disk bs (record { change = SetBlock b false; after = [] } ∷ p)
    ∙ ap (λ f. record (users_view disk p) { block_marked = f }) (fun_ext (λ a. one ((users_view disk p).block_marked a) (eqb a b) (among a bs)))
  where
    one : (m e r : Bool) → (cond e false m && not r) ≡ (m && not (e || r))
    one true true r = refl
    one false true r = refl
    one true false r = refl
    one false false r = refl

-- the image without the bits of these blocks
abbrev unmarking : View → List ℕ → View
unmarking disk bs = record disk { block_marked = λ a. disk.block_marked a && not (among a bs) }

-- the bits of what is held now and not then are cleared
pub release_unmarks : (geo : Geometry) (disk : View) (old : State) (held : ℕ → Bool) (blocks : List ℕ) → MayRelease geo (now disk [] old) held blocks
    → users_view disk (releasing blocks []) ≡ record disk { block_marked = λ a. disk.block_marked a && not (old.held a && not (held a)) }
release_unmarks geo disk old held blocks may =
    released_marks disk blocks [] ∙ ap (λ f. record disk { block_marked = f }) (fun_ext (λ a. ap (λ t. disk.block_marked a && not t) (same_truth (among a blocks) (old.held a && not (held a))
    (λ t. let c = (may.all a).0 (among_contains a blocks t) in and_from (old.held a) (not (held a)) c.0 (ap not c.1))
    (λ t. let p = and_parts (old.held a) (not (held a)) t in contains_among a blocks ((may.all a).1 (p.0, true_not (held a) p.1))))))

pub release_releases : (geo : Geometry) (disk : View) (old : State) (s : ℕ) (blocks : List ℕ) → MayRelease geo (now disk [] old) (held_still old s) blocks
    → becomes disk (releasing blocks []) (held_still old s) (record old { snapshots = ended old.snapshots s }) ≡ released (now disk [] old) s
release_releases geo disk old s blocks may =
    ap (λ v. record old { view = v; held = held_still old s; snapshots = ended old.snapshots s }) (release_unmarks geo disk old (held_still old s) blocks may)
    ∙ ap (λ f. record old { view = record disk { block_marked = f }; held = held_still old s; snapshots = ended old.snapshots s })
    (fun_ext (λ a. ap (λ t. disk.block_marked a && not t) (not_still (old.held a) (keeps (others old.snapshots.standing s) a))))
  where
    not_still : (h k : Bool) → (h && not (h && k)) ≡ (h && not k)
    not_still true k = refl
    not_still false k = refl

-- ---- the chain

release_steps : (geo : Geometry) (disk : View) (q : List Pending) (ghost : Ghost) (p : List Pending) (held safe : ℕ → Bool) (bs : List ℕ)
    → Goes geo disk q ghost p (at_rest held safe) → ((b : ℕ) → IsTrue (among b bs) → IsFalse (held b)) → ((b : ℕ) → IsTrue (among b bs) → IsClaimed geo (users_view disk p) b → ⊥)
    → Goes geo disk q ghost (releasing bs p) (at_rest held safe)
release_steps geo disk q ghost p held safe [] goes free unclaimed = goes
release_steps geo disk q ghost p held safe (b ∷ bs) goes free unclaimed =
    release_steps geo disk q ghost (u ∷ p) held safe bs
    (step geo disk q ghost p (at_rest held safe) u (at_rest held safe) goes (ClearsBlock [] b (record {
      unclaimed = unclaimed b (or_left (eqb b b) (among b bs) (eq-eqb b b refl));
      not_held = free b (or_left (eqb b b) (among b bs) (eq-eqb b b refl));
      record_first = λ n k t. absurd (both_ways false refl t);
      no_position = λ n k t. absurd (both_ways false refl t);
    })))
    (λ c t. free c (or_right (eqb c b) (among c bs) t))
    (λ c t h. unclaimed c (or_right (eqb c b) (among c bs) t) (h.0, h.1, claim_back geo (users_view disk p) (updated (users_view disk p) (SetBlock b false)) (block_bit_shape geo (users_view disk p) b false) h.0 h.1 c h.2))
  where
    u : Pending
    u = record { change = SetBlock b false; after = [] }

module _ (geo : Geometry) (disk : View) (old : State) (safe held : ℕ → Bool) (blocks : List ℕ) (may : MayRelease geo (now disk [] old) held blocks) where
  abbrev rest : Ghost
  rest = at_rest held safe

  -- with nothing pending, what is held may be forgotten
  pub release_agrees : AllAgree geo disk [] (at_rest old.held safe) → AllAgree geo disk [] rest
  release_agrees all = let a = all [] tt in base_agrees geo disk held safe a.rules a.safe

  pub release_issues : AllAgree geo disk [] (at_rest old.held safe) → Issues geo disk [] rest (releasing blocks []) rest
  release_issues all = (release_steps geo disk [] rest [] held safe blocks (stand geo disk [] rest (release_agrees all))
      (λ b t. ((may.all b).0 (among_contains b blocks t)).1) (λ b t. may.unclaimed b ((may.all b).0 (among_contains b blocks t)).0)).issues

  pub release_comes : Comes_to geo disk [] (at_rest old.held safe) → Comes_to geo disk (releasing blocks []) rest
  release_comes comes =
      let all = comes_to_agrees geo disk [] (at_rest old.held safe) comes in
      let a = all [] tt in
      issues_come geo disk [] rest (releasing blocks []) rest (release_issues all) (Begins disk held safe a.rules a.safe)

  -- what stays held stays right
  pub release_right : HeldAreRight geo (now disk [] old) → HeldAreRight geo (becomes disk (releasing blocks []) held old)
  release_right right = subst (λ v. HeldAreRight geo (record old { view = v; held = held })) (sym (released_marks disk blocks [])) (record {
    unclaimed = λ a t c. right.unclaimed a (may.still a t) (c.0, c.1, claim_back geo disk (unmarking disk blocks) (marks_shape geo disk (λ x. disk.block_marked x && not (among x blocks))) c.0 c.1 a c.2);
    marked = λ a t. ap (λ b. disk.block_marked a && not b) (not_among a t) ∙ and_true (disk.block_marked a) ∙ right.marked a (may.still a t);
  })
    where
      not_among : (a : ℕ) → IsTrue (held a) → among a blocks ≡ false
      not_among a t = elim (cases_Bool (among a blocks)) [ inl m ↦ absurd (both_ways (held a) ((may.all a).0 (among_contains a blocks m)).1 t) | inr f ↦ f ]
