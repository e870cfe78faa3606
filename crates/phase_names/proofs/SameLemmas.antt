-- What is told of the directories of a table that are reached is told of all that is reached.
use Rattle.std.proofs.Common.{◌≡◌, ℕ, zero, suc, Bool, true, false, cond, ◌&&◌, List, [], ◌++◌, Option, Some, None, refl, sym, ap, ◌∙◌, Ordering, Less, Equal, Greater}
use Rattle.std.specs.Map.{keys_of}
use Rattle.std.specs.List.{filter}
use Rattle.std.specs.Option.{option_map_or, is_some}
use Rattle.std.proofs.lemmas.Bool.{false≢true}
use Rattle.std.proofs.lemmas.Map.Lookups.{exact_unsigned}
use Rattle.std.proofs.lemmas.Map.Made.{is_some-lookup}
use Rattle.std.proofs.lemmas.Map.Views.{any-filter_same}
use Rattle.std.specs.BTreeMap.{is_at}
use Rattle.std.specs.Ordering.{nat_cmp, is_eq}
use Rattle.model.specs.Growth.{Adds}
use Rattle.model.specs.Tables.{value_in}
use Rattle.model.proofs.Adding.{adds_same}
use Rattle.sets.specs.Members.{is_among}
use Rattle.findings.specs.declared.finding.Finding.{Finding}
use Rattle.phase_names.specs.declared.entries.Entry.{Entry}
use Rattle.phase_names.specs.Told.{Told}
use Rattle.phase_names.specs.Entries.{AtBelow, IsFoundAlone, IsWithoutParent, entries_at, entries_below, entries_from, told_by}
use Rattle.phase_names.proofs.StepLemmas.{more_entries_below, no_entries_below}

equal_from : (o : Ordering) → is_eq o ≡ true → o ≡ Equal
equal_from Less t = absurd (false≢true t)
equal_from Equal t = refl
equal_from Greater t = absurd (false≢true t)

among_filter : (p : ℕ → Bool) (xs : List ℕ) (d : ℕ) → is_among (filter p xs) d ≡ (p d && is_among xs d)
among_filter p xs d = any-filter_same (is_at (nat_cmp d)) p (p d) (λ k found. ap p (sym (exact_unsigned d k (equal_from (nat_cmp d k) found)))) xs

module _ (table : List (ℕ × Told)) where
  -- the value of what is in the table, if it is reached
  kept : (k r : Bool) (o : Option Told) → is_some o ≡ k → cond (r && k) o None ≡ cond r o None
  kept k false o is = refl
  kept true true o is = refl
  kept false true None is = refl
  kept false true (Some v) is = absurd (false≢true (sym is))

  pub told_kept : (directories reached : List ℕ) → directories ≡ filter (is_among reached) (keys_of table) → (d : ℕ) → told_by table directories d ≡ told_by table reached d
  told_kept directories reached are d =
      ap (λ (xs : List ℕ). told_by table xs d) are ∙ ap (λ b. cond b (value_in table d) None) (among_filter (is_among reached) (keys_of table) d)
      ∙ kept (is_among (keys_of table) d) (is_among reached d) (value_in table d) (is_some-lookup (is_at (nat_cmp d)) table)

  module _ (directories reached : List ℕ) (same : (d : ℕ) → told_by table directories d ≡ told_by table reached d) where
    entries_at_same : (d : ℕ) → entries_at table directories d ≡ entries_at table reached d
    entries_at_same d = ap (λ (o : Option Told). option_map_or (λ (told : Told). entries_from d told.directories) o []) (same d)

    pub entries_same : (n : ℕ) → entries_below table directories n ≡ entries_below table reached n
    entries_same zero = no_entries_below table directories ∙ sym (no_entries_below table reached)
    entries_same (suc n) =
        more_entries_below table directories n ∙ ap (λ (es : List Entry). es ++ entries_at table directories n) (entries_same n)
        ∙ ap (λ (es : List Entry). entries_below table reached n ++ es) (entries_at_same n) ∙ sym (more_entries_below table reached n)

    pub alone_same : (n : ℕ) (old new : List Finding) → Adds (AtBelow (IsFoundAlone table directories) n) old new → Adds (AtBelow (IsFoundAlone table reached) n) old new
    alone_same n old new = adds_same (AtBelow (IsFoundAlone table directories) n) (AtBelow (IsFoundAlone table reached) n) old new (λ f. (
      (λ found. (found.0, found.1, (found.2.0, sym (same found.0) ∙ found.2.1, found.2.2))),
      (λ found. (found.0, found.1, (found.2.0, same found.0 ∙ found.2.1, found.2.2))),
    ))

    pub without_parent_same : (held : List ℕ) (n : ℕ) (old new : List Finding) → Adds (AtBelow (IsWithoutParent table directories held) n) old new → Adds (AtBelow (IsWithoutParent table reached held) n) old new
    without_parent_same held n old new = adds_same (AtBelow (IsWithoutParent table directories held) n) (AtBelow (IsWithoutParent table reached held) n) old new (λ f. (
      (λ found. (found.0, found.1, (found.2.0, sym (same found.0) ∙ found.2.1, found.2.2, found.2.3))),
      (λ found. (found.0, found.1, (found.2.0, same found.0 ∙ found.2.1, found.2.2, found.2.3))),
    ))
