use Rattle.std.proofs.Common.{◌≡◌, ℕ, false, [], ◌∷◌, ◌++◌, inl, inr, refl, sym, ap, ◌∙◌, subst, Ok, None, IsFalse}
use Rattle.std.specs.Prelude.{nat_lt, slice_index_or}
use Rattle.std.proofs.lemmas.Bool.{both_ways, cases_Bool, cond-true, cond-false}
use Rattle.model.specs.Layout.{Geometry}
use Rattle.findings.specs.Findings.{AreFindings}
use Rattle.machine.specs.Balance.{Balance}
use Rattle.machine.specs.Command.{Done, Freeze, Image, Install, Release}
use Rattle.machine.specs.State.{State, is_kept, keeps, open_at}
use Rattle.ordering.specs.Cuts.{users_view}
use Rattle.softdep.specs.Queued.{pending_of}
use Rattle.live_states.specs.Holdings.{nothing_beside}
use Rattle.snapshot.specs.Alive.{disk_of, state_of}
use Rattle.mending.specs.Repairs.{all_done, repairs_below, then_asked, then_replied}
use Rattle.mending.proofs.Cycle.{each_repaired, no_freeze, stands_alone, stays_open}
use Rattle.mending.proofs.Syncing.{none_left}
use Rattle.mending.proofs.laws.mended_images_are_clean.Goals as goal

pub returns : goal.returns
returns g c = λ beside' held held' image image' old new number frozen check findings n answer mountable none idle is found count goes.
    let geo = old.kept.geometry in
    let s : State = state_of image old nothing_beside in
    let t : State = state_of image' new beside' in
    let exact = (c.whole_cycles_end_exact.ensures.cycle (record { volume = old; beside = nothing_beside; held = held; image = image }) (record { volume = new; beside = beside'; held = held'; image = image' })
    number frozen check findings [] (then_asked number n) [] (then_replied n answer)
    is refl goes (λ h. h) (no_freeze number n answer) found (each_repaired findings number n answer count)).1 in
    let balance : Balance geo t = subst (λ g. Balance g t) goes.geometry goes.is.stands.balance in
    let opened = stays_open geo s t check number frozen n answer goes.run in
    let alone = stands_alone geo s t check number frozen n answer refl goes.run in
    let clean : AreFindings geo t.view [] = c.nothing_is_found_on_exact_images.ensures geo t balance exact
    (λ h. closed h t s opened (ap (λ xs. slice_index_or xs h None) idle.opened)) (none_held geo t balance alone) in
    let begins = c.mounted_volumes_begin.ensures image old mountable none idle (λ f. false) (λ f t. absurd (both_ways false refl t)) in
    let service = goes.service (disk_of image old) [] [] (λ f. false) begins in
    let nothing : pending_of new.queue ≡ [] =
    none_left geo (disk_of image old) (pending_of old.queue) s (λ f. false) (disk_of image' new) (pending_of new.queue) t service.0
    (Freeze ∷ Install check ∷ then_asked number n) (Freeze ∷ Install check ∷ (repairs_below n ++ Release number ∷ []))
    (Ok (Image number frozen) ∷ Ok Done ∷ then_replied n answer) (Ok (Image number frozen) ∷ Ok Done ∷ (all_done n ++ Ok Done ∷ [])) answer goes.later service.1 refl refl in
    subst (λ g. AreFindings g (disk_of image' new) []) (sym goes.geometry) (subst (λ v. AreFindings geo v []) (ap (λ q. users_view (disk_of image' new) q) nothing) clean)
  where
    -- nothing is held where no snapshot stands
    none_held : (geo : Geometry) (t : State) → Balance geo t → t.snapshots.standing ≡ [] → (a : ℕ) → IsFalse (t.held a)
    none_held geo t balance alone a = elim (cases_Bool (t.held a)) [
      | inl h ↦ absurd (both_ways (is_kept t a) (ap (λ xs. keeps xs a) alone) (balance.held_for a h))
      | inr f ↦ f
    ]

    closed : (h : ℕ) (t s : State) → t.opened ≡ s.opened → s.opened h ≡ None → open_at t h ≡ None
    closed h t s same free = elim (cases_Bool (nat_lt h 1024)) [
      | inl low ↦ cond-true (nat_lt h 1024) (t.opened h) None low ∙ ap (λ f. f h) same ∙ free
      | inr high ↦ cond-false (nat_lt h 1024) (t.opened h) None high
    ]
