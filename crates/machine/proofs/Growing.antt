-- A directory without an empty slot grows by a block of them, which keeps the ledger.
use Rattle.std.proofs.Common.{◌≡◌, ◌<◌, ◌+◌, ◌/◌, ◌%◌, ℕ, Bool, true, false, not, ◌&&◌, ◌||◌, eqb, ltb, leb, ◌⊎◌, inl, inr, refl, sym, ap, ◌∙◌, subst, arith, IsTrue, eq-eqb, eqb-true, lt-ltb, ltb-true, le-leb}
use Rattle.std.proofs.lemmas.Bool.{cases_lt, and_parts, and_from, both_ways}
use Rattle.model.specs.Layout.{Geometry, IsGeometry}
use Rattle.model.specs.View.{View, Inode}
use Rattle.model.specs.Shape.{most_blocks}
use Rattle.model.specs.Uses.{is_sound, is_sound_at, is_directory, is_directory_at, blocks_of, IsUse, IsClaim}
use Rattle.model.specs.Slots.{Absent, Empty, slot, slot_in}
use Rattle.model.specs.Reach.{IsReachableDirectory}
use Rattle.findings.specs.declared.repair.Repair.{Repair}
use Rattle.model.proofs.SlotLemmas.{reachable_directory}
use Rattle.model.proofs.Uses.{use_number, use_has, has_below}
use Rattle.model.proofs.Slots.{slot_claimed}
use Rattle.model.proofs.SameTree.{SameTree, same_tree}
use Rattle.machine.specs.State.{State}
use Rattle.machine.specs.Room.{has_room, is_full}
use Rattle.machine.specs.Cells.{MakesRoom, Places}
use Rattle.machine.proofs.Bools.{or_right}
use Rattle.machine.proofs.Decisions.{sound_parts, directory_is_sound}
use Rattle.machine.proofs.ZeroBlocks.{zero_block, zero_whole, zero_slot}
use Rattle.machine.proofs.Placing.{Placed, sounds, directories, added_ledger, placed_directory, grown_slot}
use Rattle.machine.proofs.Placements.{places}
use Rattle.machine.proofs.SameFiles.{SameFile, same_file}
use Rattle.machine.proofs.SeenAfter.{other_file}
use Rattle.machine.proofs.PlacingSeen.{by_placing}
use Rattle.machine.proofs.Ledger.{Ledger}

-- ---- room in a directory

-- the view in which directory d has room, with the ledger there
pub record Roomy (geo : Geometry) (owed : Repair → Type 0) (slack : ℕ → ℕ) (st : State) (d : ℕ) (roomy : View) : Type 0 where
  pub ledger : Ledger geo owed slack (record st { view = roomy })
  pub tree : SameTree geo st.view roomy
  pub sounds : (j : ℕ) → is_sound_at geo st.view j ≡ is_sound_at geo roomy j
  pub directories : (j : ℕ) → is_directory_at geo st.view j ≡ is_directory_at geo roomy j
  -- a slot is as it was, or was absent and is empty
  pub slots : (e s : ℕ) → (slot geo st.view e s ≡ slot geo roomy e s) ⊎ ((slot geo st.view e s ≡ Absent) × (slot geo roomy e s ≡ Empty))
  -- the other inodes show what they showed
  pub files : (j : ℕ) → (j ≡ d → ⊥) → SameFile geo st.view roomy j

module _ (geo : Geometry) (g : IsGeometry geo) (owed : Repair → Type 0) (slack : ℕ → ℕ) (st : State) (l : Ledger geo owed slack st) (d : ℕ) (reachable : IsReachableDirectory geo st.view d) where
  abbrev v : View
  v = st.view

  abbrev inode : Inode
  inode = v.inode d

  abbrev size : ℕ
  size = inode.size + 1024

  dir : IsTrue (is_directory_at geo v d)
  dir = reachable_directory geo v d reachable

  sound : IsTrue (is_sound_at geo v d)
  sound = directory_is_sound geo v d dir

  is_dir : IsTrue (is_directory inode)
  is_dir = (and_parts (is_sound_at geo v d) (is_directory inode) dir).1

  -- a directory's size is some whole blocks
  whole_size : (0 < inode.size) × (inode.size % 1024 ≡ 0)
  whole_size =
      let one = (and_parts (eqb inode.mode 1 || is_directory inode && ltb 0 inode.size && eqb (inode.size % 1024) 0) (leb (blocks_of inode.size) (most_blocks geo)) (sound_parts geo v d sound).1).0 in
      let two = and_parts (is_directory inode && ltb 0 inode.size) (eqb (inode.size % 1024) 0) (second (eqb inode.mode 1) _ no_file one) in
      (ltb-true 0 inode.size (and_parts (is_directory inode) (ltb 0 inode.size) two.0).1, eqb-true (inode.size % 1024) 0 two.1)
    where
      second : (a b : Bool) → a ≡ false → (a || b) ≡ true → b ≡ true
      second true b e h = absurd (both_ways true e refl)
      second false b e h = h

      no_file : eqb inode.mode 1 ≡ false
      no_file = ap (λ m. eqb m 1) (eqb-true inode.mode 2 is_dir)

  more : blocks_of size ≡ blocks_of inode.size + 1
  more = omega arith

  module _ (room_left : blocks_of inode.size < most_blocks geo) where
    still : IsTrue (is_sound geo (record inode { size = inode.size + 1024 }))
    still = and_from (eqb inode.mode 1 || is_directory inode && ltb 0 size && eqb (size % 1024) 0) (leb (blocks_of size) (most_blocks geo))
        (or_right (eqb inode.mode 1) (is_directory inode && ltb 0 size && eqb (size % 1024) 0)
        (and_from (is_directory inode && ltb 0 size) (eqb (size % 1024) 0) (and_from (is_directory inode) (ltb 0 size) is_dir (lt-ltb 0 size (omega arith))) (eq-eqb (size % 1024) 0 (omega (arith, whole_size.1)))))
        (le-leb (blocks_of size) (most_blocks geo) (omega (arith, more, room_left)))

    unused : (a : ℕ) → IsUse geo v d (blocks_of inode.size) a → ⊥
    unused a u = let below = has_below geo inode (blocks_of inode.size) room_left (use_has geo v inode (blocks_of inode.size) a (use_number geo v d (blocks_of inode.size) a u).1) in omega (arith, below)

    module _ (x : View) (p : Places geo v d (blocks_of inode.size) zero_block size x) where
      placed : Placed geo v x d (blocks_of inode.size) p.block zero_block
      placed = places geo v x d (blocks_of inode.size) zero_block size p (record {
        geometry = g;
        obeys = l.rules;
        whole = l.whole;
        records = l.records;
        sound = sound;
        free = p.free;
        content = zero_whole;
        still = still;
        inside = omega (arith, more);
        few = omega (arith, more, room_left);
        more = omega (arith, more);
        came = λ q b. elim (cases_lt q (blocks_of inode.size)) [ inl was ↦ inl was | inr past ↦ inr (omega (arith, b, past, more)) ];
      })

      empty : (s : ℕ) → s / 16 ≡ blocks_of inode.size → slot geo x d s ≡ Empty
      empty s at =
          slot_claimed geo x d s p.block (sym (directories geo owed slack st l x d (blocks_of inode.size) p.block zero_block placed sound d) ∙ dir)
          (omega (arith, at, room_left)) (subst (λ q. IsClaim geo x d q p.block) (sym at) placed.placed)
          ∙ ap (λ b. slot_in geo b s) placed.stored ∙ zero_slot geo s

      tree_grown : SameTree geo v x
      tree_grown = placed_directory geo owed slack st l x d (blocks_of inode.size) p.block zero_block placed sound unused room_left empty

      grown : Roomy geo owed slack st d x
      grown = record {
        ledger = added_ledger geo owed slack st l x d (blocks_of inode.size) p.block zero_block placed sound unused tree_grown;
        tree = tree_grown;
        sounds = sounds geo owed slack st l x d (blocks_of inode.size) p.block zero_block placed sound;
        directories = directories geo owed slack st l x d (blocks_of inode.size) p.block zero_block placed sound;
        slots = grown_slot geo owed slack st l x d (blocks_of inode.size) p.block zero_block placed sound unused room_left empty;
        files = other_file geo v x d (blocks_of inode.size) size zero_block (by_placing geo v l.rules d (blocks_of inode.size) zero_block size x p placed);
      }

  as_it_was : Roomy geo owed slack st d v
  as_it_was = record { ledger = l; tree = same_tree geo v; sounds = λ j. refl; directories = λ j. refl; slots = λ e s. inl refl; files = λ j apart. same_file geo v j }

  pub makes_room : is_full geo v d ≡ false → (roomy : View) → MakesRoom geo v d roomy → Roomy geo owed slack st d roomy
  makes_room not_full roomy (inl h) = subst (λ x. Roomy geo owed slack st d x) (sym h.1) as_it_was
  makes_room not_full roomy (inr h) = grown (elim (cases_lt (blocks_of inode.size) (most_blocks geo)) [
    | inl low ↦ low
    | inr high ↦ absurd (both_ways (is_full geo v d) not_full (and_from (not (has_room geo v d)) (leb (most_blocks geo) (blocks_of inode.size)) (ap not h.0) (le-leb (most_blocks geo) (blocks_of inode.size) high)))
  ]) roomy h.1
