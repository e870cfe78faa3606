-- A directory gets an entry, or loses one, and gets a block where it has no room.
use Rattle.std.proofs.Common.{◌≡◌, ◌<◌, ◌+◌, ◌/◌, ◌%◌, ℕ, Bool, true, false, ◌&&◌, ◌||◌, eqb, ltb, leb, List, inl, inr, length, refl, sym, ap, ap₂, ◌∙◌, subst, IsTrue, arith, Option, Some, None, eqb-true, eq-eqb, lt-ltb, le-leb}
use Rattle.std.specs.Prelude.{unwrap_or}
use Rattle.std.proofs.lemmas.Bool.{cases_lt, and_parts, and_from, both_ways, leb-true, or_right}
use Rattle.model.specs.Layout.{Geometry, IsGeometry, is_data_address}
use Rattle.model.specs.View.{View, Inode}
use Rattle.model.specs.Cells.{SetBytes, updated}
use Rattle.model.specs.Image.{IsBlock}
use Rattle.model.specs.Slots.{Empty}
use Rattle.model.specs.Shape.{most_blocks, direct_positions, is_table}
use Rattle.model.specs.Uses.{blocks_of, is_sound, is_sound_at, is_directory, is_directory_at, claim_at}
use Rattle.model.proofs.SlotLemmas.{slot_content}
use Rattle.model.proofs.UseLemmas.{claim_parts}
use Rattle.model.proofs.Shape.{reach_parts}
use Rattle.model.proofs.Uses.{sound_few}
use Rattle.machine.specs.Cells.{MakesRoom, Enters, with_slot, with_entry}
use Rattle.machine.proofs.Decisions.{sound_parts}
use Rattle.machine.proofs.Putting.{slot_low}
use Rattle.frozen_files.proofs.Metadata.{IsMetadata}
use Rattle.frozen_files.proofs.Good.{Good, bytes_good}
use Rattle.frozen_files.proofs.Placed.{placed, resized, resized_here}

-- a directory that has a block more was sound if it had blocks
sound_before : (geo : Geometry) (x y : Inode) → y.mode ≡ x.mode → y.size ≡ x.size + 1024 → IsTrue (is_sound geo y) → IsTrue (is_directory y) → 0 < blocks_of x.size → IsTrue (is_sound geo x)
sound_before geo x y mode size sound dir some =
    and_from (eqb x.mode 1 || is_directory x && ltb 0 x.size && eqb (x.size % 1024) 0) (leb (blocks_of x.size) (most_blocks geo))
    (or_right (eqb x.mode 1) (is_directory x && ltb 0 x.size && eqb (x.size % 1024) 0)
    (and_from (is_directory x && ltb 0 x.size) (eqb (x.size % 1024) 0) (and_from (is_directory x) (ltb 0 x.size) (eq-eqb x.mode 2 two) (lt-ltb 0 x.size (omega (arith, some)))) (eq-eqb (x.size % 1024) 0 whole)))
    (le-leb (blocks_of x.size) (most_blocks geo) (let few = sound_few geo y sound in omega (arith, few, size)))
  where
    at_two : y.mode ≡ 2
    at_two = eqb-true y.mode 2 dir

    two : x.mode ≡ 2
    two = sym mode ∙ at_two

    second : (p q : Bool) → p ≡ false → (p || q) ≡ true → q ≡ true
    second true q e h = absurd (both_ways true e refl)
    second false q e h = h

    whole : x.size % 1024 ≡ 0
    whole =
        let first = (and_parts (eqb y.mode 1 || is_directory y && ltb 0 y.size && eqb (y.size % 1024) 0) (leb (blocks_of y.size) (most_blocks geo)) sound).0 in
        let as_directory = second (eqb y.mode 1) (is_directory y && ltb 0 y.size && eqb (y.size % 1024) 0) (ap (λ m. eqb m 1) at_two) first in
        let e = eqb-true (y.size % 1024) 0 (and_parts (is_directory y && ltb 0 y.size) (eqb (y.size % 1024) 0) as_directory).1 in
        omega (arith, e, size)

module _ (geo : Geometry) (a : ℕ) (content : List ℕ) where
  -- a slot of a directory gets other bytes
  pub entry_good : (w : View) → Good geo a content w → (d s : ℕ) (entry : List ℕ) → IsTrue (is_directory_at geo w d) → s / 16 < most_blocks geo → Good geo a content (with_entry geo w d s entry)
  entry_good w g d s entry dir low = go (claim_at geo w d (s / 16)) refl
    where
      over : ℕ → View
      over b = updated w (SetBytes b (with_slot (w.bytes b) s entry))

      go : (o : Option ℕ) → claim_at geo w d (s / 16) ≡ o → Good geo a content (with_entry geo w d s entry)
      go (Some b) e =
          let mine : IsMetadata geo w d (s / 16) b = (claim_parts geo w d (s / 16) b e, inr dir) in
          subst (λ o. Good geo a content (updated w (SetBytes (unwrap_or o 0) (with_slot (w.bytes (unwrap_or o 0)) s entry)))) (sym e)
          (bytes_good geo a content w g b (with_slot (w.bytes b) s entry) (λ q. g.other d (s / 16) (subst (λ c. IsMetadata geo w d (s / 16) c) (sym q) mine))
          (λ i m table t. let at = (g.once i m d (s / 16) b t mine).1 in let high = leb-true (most_blocks geo) m table in omega (arith, at, high, low)))
      go None e =
          subst (λ o. Good geo a content (updated w (SetBytes (unwrap_or o 0) (with_slot (w.bytes (unwrap_or o 0)) s entry)))) (sym e)
          (bytes_good geo a content w g 0 (with_slot (w.bytes 0) s entry) (λ q. both_ways (is_data_address geo a) (ap (λ c. is_data_address geo c) q) g.address)
          (λ i m table t. both_ways (is_data_address geo 0) refl (t.0).1))

  module _ (ok : IsGeometry geo) (v : View) (g : Good geo a content v) (d : ℕ) (whole : (m c : ℕ) → IsTrue (is_table geo m) → IsMetadata geo v d m c → IsBlock (v.bytes c)) (twelve : length (v.inode d).direct ≡ direct_positions) where
    -- it has room where it is a directory then
    pub roomy_good : (roomy : View) → IsTrue (is_directory_at geo roomy d) → MakesRoom geo v d roomy → Good geo a content roomy
    roomy_good roomy dir (inl h) = subst (λ x. Good geo a content x) (sym h.1) g
    roomy_good roomy dir (inr h) =
        let size = (v.inode d).size + 1024 in
        let r = resized geo v d (blocks_of (v.inode d).size) _ size roomy h.1 in
        let e = resized_here v roomy d (v.inode d).mode size r in
        let parts = and_parts (is_sound_at geo roomy d) (is_directory (roomy.inode d)) dir in
        let sound = sound_parts geo roomy d parts.0 in
        let moded : (roomy.inode d).mode ≡ (v.inode d).mode = ap (λ (y : Inode). y.mode) e ∙ r.moded in
        let sized : (roomy.inode d).size ≡ (v.inode d).size + 1024 = ap (λ (y : Inode). y.size) e ∙ r.sized in
        placed geo v d (blocks_of (v.inode d).size) _ size roomy h.1 a content g (record {
          geometry = ok;
          number = sound.0;
          sound = λ l has. sound_before geo (v.inode d) (roomy.inode d) moded sized sound.1 parts.1 (let few = (reach_parts geo (blocks_of (v.inode d).size) l has).1 in omega (arith, few));
          still = sym (ap₂ (λ (m n : ℕ). is_sound geo (record (v.inode d) { mode = m; size = n })) moded sized) ∙ sound.1;
          more = omega arith;
          inside = omega arith;
          came = λ q less. elim (cases_lt q (blocks_of (v.inode d).size)) [ inl was ↦ inl was | inr past ↦ inr (omega (arith, past, less)) ];
          whole = whole;
          twelve = twelve;
        })

    pub enters_good : (name : List ℕ) (i : ℕ) (w : View) → Enters geo v d name i w → Good geo a content w
    enters_good name i w e =
        let at = slot_content geo e.roomy d e.place Empty (λ q. cc) e.empty in
        subst (λ x. Good geo a content x) (sym e.whole)
        (entry_good e.roomy (roomy_good e.roomy at.directory e.room) d e.place e.entry at.directory (slot_low geo e.roomy d e.place Empty (λ q. cc) e.empty))
