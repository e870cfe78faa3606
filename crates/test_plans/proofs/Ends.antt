-- What was found in what is lent stands in what is kept; and where a path ends.
use Rattle.std.proofs.Common.{◌≡◌, ◌≤◌, ◌&&◌, ◌/◌, IsTrue, ℕ, not, leb, List, [], ◌∷◌, length, subst, Ok, Err}
use Rattle.std.proofs.lemmas.Bool.{and_parts, leb-true}
use Rattle.model.specs.Layout.{Geometry, root}
use Rattle.model.specs.Slots.{is_dot, is_dot_dot, is_name}
use Rattle.model.specs.View.{View}
use Rattle.model.proofs.SlotLemmas.{slot_stands}
use Rattle.model.proofs.UseLemmas.{claim_parts}
use Rattle.machine.specs.Paths.{is_part, last_part, walk}
use Rattle.frozen.specs.Kept.{Kept, frozen_view}
use Rattle.layout.specs.declared.refusal.Refusal.{Refusal}
use Rattle.layout.specs.declared.refusal.Refusal.TheVariants.{IsRoot}
use Rattle.live_paths.specs.Shown.{IsShownBy}
use Rattle.live_plans.specs.Found.{IsFoundAt}
use Rattle.live_plans.specs.declared.locating.Found.{Found}
use Rattle.live_removals.specs.Entries.{IsEntry}

-- an entry that was found stands in a block of a directory
entry_stands : (geo : Geometry) (view : View) (ps : List (List ℕ)) (found : Found) → IsFoundAt geo view ps found → IsEntry geo view found
entry_stands geo view ps found at =
    let stands = slot_stands geo view found.directory found.slot found.number (last_part ps) at.entry in
    record { directory = stands.place.directory; claim = claim_parts geo view found.directory (found.slot / 16) found.block at.block; number = stands.number }

pub entry_kept : (held kept : Kept) (ps : List (List ℕ)) (found : Found) → held ≡ kept → IsFoundAt held.geometry (frozen_view held) ps found → IsEntry kept.geometry (frozen_view kept) found
entry_kept held kept ps found same at = subst (λ (k : Kept). IsEntry k.geometry (frozen_view k) found) same (entry_stands held.geometry (frozen_view held) ps found at)

-- what holds in each view that the blocks show that are lent holds in each that those show that are kept
pub there : (P : Geometry → View → Type 0) (held kept : Kept) → held ≡ kept → ((v : View) → IsShownBy held v → P held.geometry v) → (v : View) → IsShownBy kept v → P kept.geometry v
there P held kept same h = subst (λ (k : Kept). (v : View) → IsShownBy k v → P k.geometry v) same h

-- a part of a path fits in an entry
pub part_short : (name : List ℕ) → IsTrue (is_part name) → length name ≤ 56
part_short name part =
    let a_name : IsTrue (is_name name) = (and_parts (is_name name) (not (is_dot name)) (and_parts (is_name name && not (is_dot name)) (not (is_dot_dot name)) part).0).0 in
    leb-true (length name) 56 (and_parts _ (leb (length name) 56) (and_parts _ _ a_name).0).1

not_ok : {P : Type 0} (r : Refusal) (x : ℕ) → Err r ≡ Ok x → P
not_ok r x e = absurd cc

-- a path that leads to a directory of an entry has parts
pub walked_parts : (geo : Geometry) (v : View) (qs : List (List ℕ)) (d : ℕ) → walk geo v root qs ≡ Ok d → qs ≡ [] → ⊥
unfolding walk
walked_parts geo v [] d e none = not_ok IsRoot d e
walked_parts geo v (part ∷ qs) d e none = cc
