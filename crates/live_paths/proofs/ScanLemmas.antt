-- The first slot that is sought, block after block and slot after slot.
use Rattle.std.proofs.Common.{◌≡◌, ◌<◌, ◌≤◌, ◌+◌, ℕ, false, leb, inl, inr, refl, sym, ap, ◌∙◌, subst, arith}
use Rattle.std.proofs.lemmas.Bool.{cases_eq, cases_lt}
use Rattle.model.specs.Slots.{Absent}
use Rattle.frozen.specs.Kept.{Kept}
use Rattle.machine.proofs.Tests.{and_false}
use Rattle.live_paths.specs.declared.scan.Entry.{Entry}
use Rattle.live_paths.specs.declared.scan.Sought.{Sought}
use Rattle.live_paths.specs.declared.scan.Sought.TheVariants.{Name, Room, AnyName}
use Rattle.live_paths.specs.Sought.{is_sought, kept_slot, IsFirst, NoneIsSought}

-- a slot that is left out is not sought
pub absent_is_not : (sought : Sought) (s : ℕ) → is_sought sought s Absent ≡ false
absent_is_not (Name name) s = refl
absent_is_not Room s = refl
absent_is_not AnyName s = and_false (leb 2 s)

module _ (kept : Kept) (d : ℕ) (sought : Sought) where
  pub absent_none : (from end : ℕ) → ((s : ℕ) → from ≤ s → s < end → kept_slot kept d s ≡ Absent) → NoneIsSought kept d sought from end
  absent_none from end absent s low high = ap (is_sought sought s) (absent s low high) ∙ absent_is_not sought s

  pub none_joined : (from mid end : ℕ) → NoneIsSought kept d sought from mid → NoneIsSought kept d sought mid end → NoneIsSought kept d sought from end
  none_joined from mid end before after s low high = elim (cases_lt s mid) [
    | inl below ↦ before s low below
    | inr above ↦ after s above high
  ]

  pub none_more : (from s : ℕ) → NoneIsSought kept d sought from s → is_sought sought s (kept_slot kept d s) ≡ false → NoneIsSought kept d sought from (s + 1)
  none_more from s before here t low high = elim (cases_eq t s) [
    | inl e ↦ subst (λ q. is_sought sought q (kept_slot kept d q) ≡ false) (sym e) here
    | inr differs ↦ before t low (omega arith)
  ]

  pub first_joined : (from mid end last : ℕ) (entry : Entry) → from ≤ mid → end ≤ last → NoneIsSought kept d sought from mid → IsFirst kept d sought mid end entry → IsFirst kept d sought from last entry
  first_joined from mid end last entry low high before first = record {
    behind = let start : mid ≤ entry.slot = first.behind in omega arith;
    below = let stop : entry.slot < end = first.below in omega arith;
    met = first.met;
    number = first.number;
    before = none_joined from mid entry.slot before first.before;
  }
