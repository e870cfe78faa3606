-- What the paths of a command lead to is the entry that was found.
use Rattle.std.proofs.Common.{◌≡◌, ◌/◌, ℕ, List, [], Some, ap, ap₂, ◌∙◌, subst}
use Rattle.std.specs.Prelude.{unwrap_or}
use Rattle.std.specs.Result.{result_unwrap_or}
use Rattle.model.specs.Layout.{Geometry, root}
use Rattle.model.specs.View.{View}
use Rattle.model.proofs.SlotLemmas.{slot_stands}
use Rattle.model.proofs.UseLemmas.{claim_parts}
use Rattle.machine.specs.Cells.{block_of}
use Rattle.machine.specs.Paths.{holder, last_part, number_at, parts, parts_of, slot_at, slot_of, target, walk}
use Rattle.plans_naming.specs.Plans.{entry_block}
use Rattle.frozen.specs.Kept.{Kept, frozen_view}
use Rattle.live_plans.specs.Found.{IsFoundAt}
use Rattle.live_plans.specs.declared.locating.Found.{Found}
use Rattle.live_removals.specs.Entries.{IsEntry}

-- it stands in a block of a directory
pub entry_stands : (geo : Geometry) (view : View) (ps : List (List ℕ)) (found : Found) → IsFoundAt geo view ps found → IsEntry geo view found
entry_stands geo view ps found at =
    let stands = slot_stands geo view found.directory found.slot found.number (last_part ps) at.entry in
    record { directory = stands.place.directory; claim = claim_parts geo view found.directory (found.slot / 16) found.block at.block; number = stands.number }

-- in what is kept, where it was found in the same that is lent
pub entry_kept : (held kept : Kept) (ps : List (List ℕ)) (found : Found) → held ≡ kept → IsFoundAt held.geometry (frozen_view held) ps found → IsEntry kept.geometry (frozen_view kept) found
entry_kept held kept ps found same at = subst (λ (k : Kept). IsEntry k.geometry (frozen_view k) found) same (entry_stands held.geometry (frozen_view held) ps found at)

module _ (geo : Geometry) (view : View) (path : List ℕ) (ps : List (List ℕ)) (found : Found) (is : parts_of path ≡ Some ps) (at : IsFoundAt geo view ps found) where
  parts_are : parts path ≡ ps
  parts_are = ap (λ o. unwrap_or o []) is

  pub number_is : number_at geo view path ≡ found.number
  number_is = ap (λ qs. result_unwrap_or (target geo view qs) 0) parts_are ∙ ap (λ r. result_unwrap_or r 0) at.number

  pub holder_is : holder geo view path ≡ found.directory
  holder_is = ap (λ qs. result_unwrap_or (walk geo view root qs) 0) parts_are ∙ ap (λ r. result_unwrap_or r 0) at.directory

  pub slot_is : slot_at geo view path ≡ found.slot
  slot_is = ap₂ (λ d qs. unwrap_or (slot_of geo view d (last_part qs)) 0) holder_is parts_are ∙ ap (λ o. unwrap_or o 0) at.slot

  pub block_is : entry_block geo view path ≡ found.block
  block_is = ap₂ (λ d s. block_of geo view d (s / 16)) holder_is slot_is ∙ ap (λ o. unwrap_or o 0) at.block
