-- What handles are open on.
use Rattle.std.proofs.Common.{◌≡◌, ℕ, List, Option, Some, None, cond, ltb, IsTrue, IsFalse, length, inl, inr, sym, ap, ◌∙◌, subst, arith, length-set, get_or-set_same, get_or-set_other, slice_index_or, set as slice_set}
use Rattle.std.specs.Prelude.{unwrap_or, ◌&&◌}
use Rattle.std.proofs.lemmas.Bool.{cases_eq, cases_lt}
use Rattle.std.proofs.lemmas.List.{get_or_past}
use mathlib.Core.Path.{fun_ext}
use Rattle.model.specs.Cells.{put_at}
use Rattle.model.specs.Layout.{is_number}
use Rattle.model.specs.Uses.{is_directory, is_directory_at, is_sound, is_sound_at}
use Rattle.model.proofs.Places.{put_here, put_there}
use Rattle.machine.specs.Causes.{file_of}
use Rattle.machine.specs.State.{State, is_open, open_at}
use Rattle.machine.proofs.Decisions.{sound_parts}
use Rattle.plans_data.specs.Relink.{without_handle}
use Rattle.frozen.specs.Kept.{Kept, frozen_view}
use Rattle.live_states.specs.Holdings.{Has, Holdings, is_open_by, opened_by}
use Rattle.live_states.specs.Planned.{IsOfVolumeWith}
use Rattle.live_holdings.specs.Handles.{closed, handle_at}

-- ---- handles of a state

pub handle_there : (holdings : Holdings) (old : State) (h : ℕ) → Has holdings old → open_at old h ≡ handle_at holdings h
handle_there holdings old h has = ap (λ (o : ℕ → Option ℕ). cond (ltb h 1024) (o h) None) has.opened

pub file_there : (holdings : Holdings) (old : State) (h n : ℕ) → Has holdings old → handle_at holdings h ≡ Some n → file_of old h ≡ n
file_there holdings old h n has is = ap (λ o. unwrap_or o 0) (handle_there holdings old h has ∙ is)

-- ---- and of one with a handle less

is_closed : (l : List (Option ℕ)) (h : ℕ) → slice_index_or (slice_set l h None) h None ≡ None
is_closed l h = elim (cases_lt h (length l)) [
  | inl low ↦ get_or-set_same l h None None low
  | inr high ↦ get_or_past (slice_set l h None) h None (omega (arith, high, length-set l h None))
]

pub left_open : (holdings : Holdings) (h : ℕ) → opened_by (closed holdings h) ≡ put_at (opened_by holdings) h None
left_open holdings h = fun_ext (λ g. elim (cases_eq g h) [
  | inl e ↦ ap (λ (x : ℕ). slice_index_or (slice_set holdings.opened h None) x None) e ∙ is_closed holdings.opened h ∙ sym (put_here (opened_by holdings) h None) ∙ ap (put_at (opened_by holdings) h None) (sym e)
  | inr d ↦ get_or-set_other holdings.opened h g None None d ∙ sym (put_there (opened_by holdings) h g None d)
])

pub still_open : (holdings : Holdings) (old : State) (h i : ℕ) → Has holdings old → is_open (without_handle h old) i ≡ is_open_by (closed holdings h) i
still_open holdings old h i has = ap (λ (o : ℕ → Option ℕ). is_open (record old { opened = o }) i) (ap (λ (o : ℕ → Option ℕ). put_at o h None) has.opened ∙ sym (left_open holdings h))

-- ---- what is open is a file

module _ (kept : Kept) (holdings : Holdings) (volume : IsOfVolumeWith kept holdings) (h n : ℕ) (is : handle_at holdings h ≡ Some n) where
  abbrev there : State
  there = volume.volume.old

  file_of_there : IsTrue (is_sound_at kept.geometry there.view n) × IsFalse (is_directory_at kept.geometry there.view n)
  file_of_there = volume.volume.stands.balance.open_file n (h, handle_there holdings there h volume.has ∙ is)

  pub opened_sound : IsTrue (is_sound_at kept.geometry (frozen_view kept) n)
  opened_sound = subst (λ r. IsTrue (is_number kept.geometry n && is_sound kept.geometry r)) (sym (volume.volume.shows.inode n)) file_of_there.0

  pub opened_file : IsFalse (is_directory_at kept.geometry (frozen_view kept) n)
  opened_file = subst (λ r. IsFalse ((is_number kept.geometry n && is_sound kept.geometry r) && is_directory r)) (sym (volume.volume.shows.inode n)) file_of_there.1

  pub opened_number : IsTrue (is_number kept.geometry n)
  opened_number = (sound_parts kept.geometry (frozen_view kept) n opened_sound).0
