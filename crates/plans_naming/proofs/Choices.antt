-- An accepted command finds the number, the slot and the blocks that it needs.
use Rattle.std.proofs.Common.{◌≡◌, ◌≤◌, ◌+◌, ℕ, Bool, true, false, not, ◌&&◌, ltb, List, [], ◌∷◌, length, refl, arith, IsTrue, IsFalse, None, ltb-false}
use Rattle.std.proofs.lemmas.Bool.{cond-false, and_parts, both_ways}
use Rattle.model.specs.Layout.{Geometry, is_number, block_count, inode_count}
use Rattle.model.specs.View.{View}
use Rattle.model.specs.Shape.{new_tables}
use Rattle.model.specs.Uses.{blocks_of}
use Rattle.model.specs.Slots.{Slot, Absent, Empty, Good, Bad, slot}
use Rattle.model.specs.Reach.{slot_count}
use Rattle.layout.specs.declared.refusal.Refusal.TheVariants.{NoInode, NoBlock}
use Rattle.machine.specs.State.{State}
use Rattle.machine.specs.Command.{Create, Mkdir, Link, Rename}
use Rattle.machine.specs.Paths.{holder}
use Rattle.machine.specs.Causes.{Accepts, causes, too_few}
use Rattle.machine.specs.Room.{IsFreeNumber, IsFreeBlock, has_number, has_room, is_empty, unmarked_blocks, blocks_to_append, blocks_to_enter}
use Rattle.machine.proofs.Decisions.{any_found}
use Rattle.machine.proofs.Walks.{quiet, when_none}
use Rattle.plans_data.specs.Append.{AreApart}
use Rattle.plans_data.specs.Plans.{AllFree}
use Rattle.plans_data.proofs.Room.{Found, found, choice, one_free}
use Rattle.plans_naming.specs.Choices.{FindsBlocks, FindsOtherBlocks}
use Rattle.plans_naming.proofs.AcceptedPlaces.{across_none}

is_false : (t : Bool) → IsTrue (not t) → IsFalse t
is_false true h = absurd (both_ways false refl h)
is_false false h = refl

number_there : (geo : Geometry) (view : View) → has_number geo view ≡ true → (n : ℕ) × IsFreeNumber geo view n
number_there geo view h =
    let r = any_found (inode_count geo) (λ i. is_number geo i && not (view.number_marked i)) h in
    let p = and_parts (is_number geo r.0) (not (view.number_marked r.0)) r.2 in
    (r.0, record { number = p.0; unmarked = is_false (view.number_marked r.0) p.1 })

pub slot_there : (geo : Geometry) (view : View) (d : ℕ) → IsTrue (has_room geo view d) → (s : ℕ) × (slot geo view d s ≡ Empty)
slot_there geo view d h = let r = any_found (slot_count geo) (λ s. is_empty (slot geo view d s)) h in (r.0, empty (slot geo view d r.0) r.2)
  where
    empty : (x : Slot) → is_empty x ≡ true → x ≡ Empty
    empty Absent e = absurd (both_ways false refl e)
    empty Empty e = refl
    empty (Good n name) e = absurd (both_ways false refl e)
    empty Bad e = absurd (both_ways false refl e)

not_false : (t : Bool) → not t ≡ false → t ≡ true
not_false true e = refl
not_false false e = absurd (both_ways true e refl)

module _ (geo : Geometry) (view : View) (d : ℕ) where
  abbrev k : ℕ
  k = blocks_of (view.inode d).size

  need : IsFalse (has_room geo view d) → blocks_to_enter geo view d ≡ 1 + length (new_tables geo k)
  need none = cond-false (has_room geo view d) 0 (blocks_to_append geo (view.inode d)) none

  finds : IsFalse (has_room geo view d) → blocks_to_enter geo view d ≤ unmarked_blocks geo view → FindsBlocks geo view d
  finds none enough = let r = choice geo view k (omega (arith, enough, need none)) in record { block = r.0; tables = r.1; choice = r.2 }

  finds_other : IsFalse (has_room geo view d) → 1 + blocks_to_enter geo view d ≤ unmarked_blocks geo view → FindsOtherBlocks geo view d
  finds_other none enough = by r.blocks r.many r.free r.apart
    where
      r : Found geo view (2 + length (new_tables geo k)) (block_count geo)
      r = found geo view (block_count geo) (2 + length (new_tables geo k)) (omega (arith, enough, need none))

      by : (xs : List ℕ) → length xs ≡ 2 + length (new_tables geo k) → AllFree geo view xs → AreApart xs → FindsOtherBlocks geo view d
      by [] many free apart = absurd (omega (arith, many))
      by (a ∷ []) many free apart = absurd (omega (arith, many))
      by (a ∷ b ∷ news) many free apart = record {
        own = a;
        free_own = free.0;
        blocks = record { block = b; tables = news; choice = record { free = (free.1).0; many = omega (arith, many); tables = (free.1).1; apart = apart.1 } };
        other = apart.0;
      }

enough_of : (geo : Geometry) (view : View) (need : ℕ) → too_few geo view need ≡ None → need ≤ unmarked_blocks geo view
enough_of geo view need e = ltb-false (unmarked_blocks geo view) need (when_none (ltb (unmarked_blocks geo view) need) NoBlock e)

module _ (geo : Geometry) (old : State) where
  pub create_number : (p words : List ℕ) → Accepts geo old (Create p words) → (n : ℕ) × IsFreeNumber geo old.view n
  unfolding causes
  create_number p words accepts = let q = quiet (causes geo old (Create p words)) accepts.0 in number_there geo old.view (not_false (has_number geo old.view) (when_none (not (has_number geo old.view)) NoInode q.1.1.1.1.0))

  pub make_number : (p words : List ℕ) → Accepts geo old (Mkdir p words) → (n : ℕ) × IsFreeNumber geo old.view n
  unfolding causes
  make_number p words accepts = let q = quiet (causes geo old (Mkdir p words)) accepts.0 in number_there geo old.view (not_false (has_number geo old.view) (when_none (not (has_number geo old.view)) NoInode q.1.1.1.1.1.0))

  pub create_blocks : (p words : List ℕ) → Accepts geo old (Create p words) → IsFalse (has_room geo old.view (holder geo old.view p)) → FindsBlocks geo old.view (holder geo old.view p)
  unfolding causes
  create_blocks p words accepts none =
      let q = quiet (causes geo old (Create p words)) accepts.0 in
      finds geo old.view (holder geo old.view p) none (enough_of geo old.view (blocks_to_enter geo old.view (holder geo old.view p)) q.1.1.1.1.1.1.0)

  pub make_block : (p words : List ℕ) → Accepts geo old (Mkdir p words) → (a : ℕ) × IsFreeBlock geo old.view a
  unfolding causes
  make_block p words accepts =
      let q = quiet (causes geo old (Mkdir p words)) accepts.0 in
      let enough = enough_of geo old.view (1 + blocks_to_enter geo old.view (holder geo old.view p)) q.1.1.1.1.1.1.1.0 in
      one_free geo old.view (omega (arith, enough))

  pub make_blocks : (p words : List ℕ) → Accepts geo old (Mkdir p words) → IsFalse (has_room geo old.view (holder geo old.view p)) → FindsOtherBlocks geo old.view (holder geo old.view p)
  unfolding causes
  make_blocks p words accepts none =
      let q = quiet (causes geo old (Mkdir p words)) accepts.0 in
      finds_other geo old.view (holder geo old.view p) none (enough_of geo old.view (1 + blocks_to_enter geo old.view (holder geo old.view p)) q.1.1.1.1.1.1.1.0)

  pub link_blocks : (p r : List ℕ) → Accepts geo old (Link p r) → IsFalse (has_room geo old.view (holder geo old.view r)) → FindsBlocks geo old.view (holder geo old.view r)
  unfolding causes
  link_blocks p r accepts none =
      let q = quiet (causes geo old (Link p r)) accepts.0 in
      finds geo old.view (holder geo old.view r) none (enough_of geo old.view (blocks_to_enter geo old.view (holder geo old.view r)) q.1.1.1.1.1.1.1.1.1.0)

  pub move_blocks : (p r : List ℕ) → Accepts geo old (Rename p r) → (holder geo old.view p ≡ holder geo old.view r → ⊥) → IsFalse (has_room geo old.view (holder geo old.view r)) → FindsBlocks geo old.view (holder geo old.view r)
  unfolding causes
  move_blocks p r accepts apart none =
      let q = quiet (causes geo old (Rename p r)) accepts.0 in
      finds geo old.view (holder geo old.view r) none (enough_of geo old.view (blocks_to_enter geo old.view (holder geo old.view r))
      (across_none (holder geo old.view p) (holder geo old.view r) (too_few geo old.view (blocks_to_enter geo old.view (holder geo old.view r))) apart q.1.1.1.1.1.1.1.1.1.1.0))
