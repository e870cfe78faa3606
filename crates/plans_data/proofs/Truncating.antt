-- A file is truncated: each update is of its kind, and nothing is left over.
use Rattle.std.proofs.Common.{◌≡◌, ℕ, ◌≤◌, Bool, false, not, ◌&&◌, eqb, List, [], ◌∷◌, inl, inr, refl, sym, ap, ◌∙◌, subst, IsTrue, IsFalse, arith, eqb-true, eq-eqb}
use mathlib.Core.Path.{fun_ext}
use Rattle.std.proofs.lemmas.Bool.{both_ways, and_parts, and_from, or_left}
use Rattle.model.specs.Layout.{Geometry, is_number}
use Rattle.model.specs.View.{View, Inode}
use Rattle.model.specs.Cells.{SetInode}
use Rattle.model.specs.Uses.{blocks_of, is_sound, has_position}
use Rattle.model.specs.Rules.{ObeysRules}
use Rattle.model.proofs.Shape.{more_reach}
use Rattle.model.proofs.Uses.{sound_few, number_use, same_field}
use Rattle.model.proofs.Places.{put_here}
use Rattle.machine.specs.State.{State}
use Rattle.machine.specs.Effects.{truncated}
use Rattle.ordering.specs.Cuts.{Pending, users_view}
use Rattle.ordering.specs.Ghosts.{Ghost, at_rest}
use Rattle.ordering.specs.Agrees.{AllAgree}
use Rattle.ordering.specs.Rewrites.{Comes, moved}
use Rattle.ordering.specs.Histories.{RewritesFile}
use Rattle.ordering.proofs.Bits.{users_obey}
use Rattle.plans_data.specs.Issues.{Issues}
use Rattle.plans_data.specs.Now.{now, becomes}
use Rattle.plans_data.specs.Append.{sized}
use Rattle.plans_data.specs.Freeing.{held_with}
use Rattle.plans_data.specs.Truncate.{MayTruncate, truncation}
use Rattle.plans_data.proofs.Chains.{Goes, stand, step}
use Rattle.plans_data.proofs.Clearing.{among, cleared_marks, clear_all, all_cleared, none_left}
use Rattle.plans_data.proofs.LetsGo.{Shrinks, among_let_go, went, given_unclaimed, given_not_held, true_not, not_true}
use Rattle.plans_data.proofs.Numbers.{sound_file}

module _ (geo : Geometry) (disk : View) (q : List Pending) (old : State) (safe : ℕ → Bool) (n size : ℕ) (blocks : List ℕ)
    (may : MayTruncate geo (now disk q old) n size blocks) (all : AllAgree geo disk q (at_rest old.held safe)) where
  abbrev s : State
  s = now disk q old

  abbrev users : View
  users = users_view disk q

  abbrev was : Inode
  was = users.inode n

  abbrev new : Inode
  new = sized was size

  abbrev ghost : Ghost
  ghost = at_rest old.held safe

  abbrev held : ℕ → Bool
  held = held_with geo s n new

  abbrev given : ℕ → ℕ → ℕ → Bool
  given b m k = eqb m n && among b blocks && not (has_position geo new k)

  abbrev ghost1 : Ghost
  ghost1 = moved held given ghost

  abbrev q1 : List Pending
  q1 = record { change = SetInode n new; after = [] } ∷ q

  rules : ObeysRules geo users
  rules = users_obey geo disk q ghost all

  number : IsTrue (is_number geo n)
  number = (and_parts (is_number geo n) (is_sound geo was) may.sound).0

  sound : IsTrue (is_sound geo was)
  sound = (and_parts (is_number geo n) (is_sound geo was) may.sound).1

  fewer : blocks_of size ≤ blocks_of was.size
  fewer = omega (arith, may.no_more)

  new_sound : IsTrue (is_sound geo new)
  new_sound = sound_file geo new may.file (omega (arith, fewer, sound_few geo was sound))

  was_used : (k : ℕ) → IsTrue (has_position geo new k) → IsTrue (has_position geo was k)
  was_used k has = more_reach geo (blocks_of size) (blocks_of was.size) k fewer has

  pub shrinks : Shrinks geo s n new
  shrinks = record { sound = λ t. sound; kept = λ k t has. (was_used k has, refl); used = λ k has. new_sound }

  -- no block comes
  none_comes : (k b : ℕ) → IsTrue (has_position geo new k) → Comes geo disk q ghost [] new k b → ⊥
  none_comes k b has comes =
      comes.free.unclaimed (n, k, (number_use geo users n k b number (same_field geo users was new sound new_sound k (was_used k has) has refl ∙ comes.uses), comes.address))

  record_step : Goes geo disk q ghost q1 ghost1
  record_step = step geo disk q ghost q ghost (record { change = SetInode n new; after = [] }) ghost1 (stand geo disk q ghost all)
      (RewritesFile held given [] n new (record {
        file = may.file;
        sound = sound;
        still_file = may.file;
        links = omega arith;
        blocks = record {
          number = number;
          sound = inr new_sound;
          came = λ k t u. inl (record { sound = sound; used = was_used k u; field = refl });
          once = λ k j b u v x y. absurd (none_comes k b u x);
          went = λ k b c. elim (went geo s n new blocks rules shrinks may.given_up k b c) [
            | inl stays ↦ inl stays
            | inr gives ↦ inr (elim gives [
              | inl h ↦ inl h
              | inr t ↦ inr (and_from (eqb n n && among b blocks) (not (has_position geo new k)) (and_from (eqb n n) (among b blocks) (eq-eqb n n refl) t.0) (not_true (has_position geo new k) t.1))
            ])
          ];
          held = λ b t. or_left (old.held b) _ t;
          given_up = λ b m k t. absurd (both_ways false refl t);
        };
      }))

  given_parts : (b m k : ℕ) → IsTrue (given b m k) → (m ≡ n) × IsTrue (among b blocks) × IsFalse (has_position geo new k)
  given_parts b m k t =
      let parts = and_parts (eqb m n && among b blocks) (not (has_position geo new k)) t in
      let first = and_parts (eqb m n) (among b blocks) parts.0 in
      (eqb-true m n first.0, first.1, true_not (has_position geo new k) parts.1)

  all_steps : Goes geo disk q ghost (truncation n was size blocks q) (all_cleared blocks ghost1)
  all_steps = clear_all geo disk q ghost q1 ghost1 n blocks record_step (record {
    unclaimed = λ b t h. given_unclaimed geo s n new blocks rules shrinks may.given_up b t h.0 h.1 h.2;
    not_held = given_not_held geo s n new blocks rules shrinks may.given_up may.held;
    owner = λ b m k t. (given_parts b m k t).0;
    no_position = λ b m k t sound used.
        let parts = given_parts b m k t in
        both_ways (has_position geo new k) parts.2 (ap (λ x. has_position geo x k) (sym (ap (users_view disk q1).inode parts.0 ∙ put_here users.inode n new)) ∙ used);
  })

  pub truncate_issues : Issues geo disk q ghost (truncation n was size blocks q) (at_rest held safe)
  truncate_issues = subst (λ g. Issues geo disk q ghost (truncation n was size blocks q) g) (none_left blocks ghost1 (λ b m k t. (given_parts b m k t).1)) all_steps.issues

  pub truncate_truncates : becomes disk (truncation n was size blocks q) held old ≡ truncated geo s n size
  truncate_truncates =
      ap (λ v. record old { view = v; held = held }) (cleared_marks disk n blocks q1)
      ∙ ap (λ f. record old { view = record (users_view disk q1) { block_marked = f }; held = held })
      (fun_ext (λ a. ap (λ t. users.block_marked a && not t) (among_let_go geo s n new blocks rules shrinks may.given_up a)))
