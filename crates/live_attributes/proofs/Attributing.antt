-- The update carries the command out.
use Rattle.std.proofs.Common.{◌≡◌, ℕ, Bool, true, false, not, ◌&&◌, List, [], ◌∷◌, Some, refl, sym, ap, ◌∙◌, subst, IsTrue, IsFalse}
use Rattle.model.specs.Layout.{Geometry, is_number}
use Rattle.model.specs.Uses.{is_sound, is_sound_at}
use Rattle.model.specs.View.{Inode, View}
use Rattle.layout.specs.declared.refusal.Refusal.TheVariants.{NotFound}
use Rattle.ordering.specs.Cuts.{Pending, users_view}
use Rattle.machine.specs.Below.{first_of, when}
use Rattle.machine.specs.Causes.{Accepts, FirstRefusal, causes, refusal_of}
use Rattle.machine.specs.Command.{Done, ReadAttributes, SetAttributes}
use Rattle.machine.specs.State.{State}
use Rattle.plans_data.specs.Attributes.{attributing}
use Rattle.plans_data.specs.Carried.{Stands}
use Rattle.plans_data.specs.Now.{now}
use Rattle.courses.specs.Done.{IsDoneBy, SetsItsAttributes}
use Rattle.frozen.specs.Kept.{Kept, frozen_view}
use Rattle.metadata.specs.Shown.{Shows}
use Rattle.metadata.proofs.ShownLemmas.{shows_metadata}
use Rattle.live_states.specs.Drafts.{Draft, over}
use Rattle.live_states.specs.Planned.{IsPlanned}
use Rattle.live_attributes.specs.Attributed.{Attributed}

module _ (geo : Geometry) (old : State) (n : ℕ) (words : List ℕ) where
  pub attributes_refused : IsFalse (is_sound_at geo old.view n) → refusal_of geo old (SetAttributes n words) ≡ Some NotFound
  unfolding causes
  attributes_refused none = ap (λ b. first_of (when (not b) NotFound ∷ [])) none

  pub reading_refused : IsFalse (is_sound_at geo old.view n) → refusal_of geo old (ReadAttributes n) ≡ Some NotFound
  unfolding causes
  reading_refused none = ap (λ b. first_of (when (not b) NotFound ∷ [])) none

  pub reading_accepted : IsTrue (is_sound_at geo old.view n) → Accepts geo old (ReadAttributes n)
  unfolding causes
  reading_accepted at = (ap (λ b. first_of (when (not b) NotFound ∷ [])) at, tt)

  pub attributes_accepted : IsTrue (is_sound_at geo old.view n) → Accepts geo old (SetAttributes n words)
  unfolding causes
  attributes_accepted at = (ap (λ b. first_of (when (not b) NotFound ∷ [])) at, tt)

-- what is kept shows which inodes are sound
pub sound_shown : (kept f : Kept) → f ≡ kept → (n : ℕ) (view : View) → Shows kept view → (b c : Bool) → b ≡ is_sound_at f.geometry (frozen_view f) n → b ≡ c → is_sound_at kept.geometry view n ≡ c
sound_shown kept f same n view shows b c is e =
    sym (ap (λ (i : Inode). is_number kept.geometry n && is_sound kept.geometry i) (shows.inode n)) ∙ sym (ap (λ (k : Kept). is_sound_at k.geometry (frozen_view k) n) same) ∙ sym is ∙ e

-- done as another draft says
done_so : (geo : Geometry) (disk : View) (q : List Pending) (old : State) (safe : ℕ → Bool) (n : ℕ) (words : List ℕ) (file : ℕ) (plan : List Pending) → file ≡ n
    → plan ≡ attributing n ((users_view disk q).inode n) words q → IsDoneBy geo disk q old safe (SetAttributes n words) Done file plan (now disk plan old) safe
done_so geo disk q old safe n words file plan e is =
    subst (λ f. IsDoneBy geo disk q old safe (SetAttributes n words) Done f plan (now disk plan old) safe) (sym e)
    (subst (λ p. IsDoneBy geo disk q old safe (SetAttributes n words) Done n p (now disk p old) safe) (sym is) (SetsItsAttributes n words))

pub attributes_planned : (kept : Kept) (n : ℕ) (words : List ℕ) (draft : Draft) (any : View) → Shows kept any → ((view : View) → Shows kept view → IsTrue (is_sound_at kept.geometry view n))
    → ((view : View) → Shows kept view → Attributed kept.geometry view n words draft) → IsPlanned kept (SetAttributes n words) Done draft
attributes_planned kept n words draft any shown sound updates = record {
  geometry = (updates any shown).geometry;
  accepted = λ old shows. attributes_accepted kept.geometry old n words (sound old.view shows);
  done = λ disk q old safe stands shows.
      let u = updates (users_view disk q) (subst (λ v. Shows kept v) (sym stands.same) shows) in
      done_so kept.geometry disk q old safe n words draft.file (over q draft.updates) u.file (u.pending q);
}
