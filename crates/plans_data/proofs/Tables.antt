-- A new table of zeroes with its first pointer, and where the pointer to a new block is kept.
use Rattle.std.proofs.Common.{◌≡◌, ◌<◌, ℕ, List, [], ◌∷◌, map, length, replicate, inl, inr, refl, sym, ap, ◌∙◌, subst, arith, Some, IsTrue, IsFalse}
use Rattle.std.specs.Option.{option_map_or}
use Rattle.std.proofs.lemmas.Bool.{false_from_ne_true, le-leb}
use Rattle.std.proofs.lemmas.Option.{none-some}
use Rattle.model.specs.Layout.{Geometry, IsGeometry}
use Rattle.model.specs.View.{View}
use Rattle.model.specs.Rules.{ObeysRules}
use Rattle.model.specs.Shape.{most_blocks, position_count, is_table, table_of, first_block, above, Next}
use Rattle.model.specs.Uses.{blocks_of, is_sound_at, has_position, IsClaim}
use Rattle.model.proofs.Shape.{New, NoNew, OneNew, TwoNew, new, table_cases, table_is_table, table_inside, shallow, some_table, reach_parts, reach_from, reach_table}
use Rattle.machine.specs.Cells.{block_of, with_pointer}
use Rattle.machine.specs.Room.{IsFreeBlock}
use Rattle.machine.proofs.PointerTables.{pointer_here, pointer_whole}
use Rattle.machine.proofs.ZeroBlocks.{zero_whole}
use Rattle.plans_data.specs.Append.{Holder, KeptInRecord, KeptInTable, KeptInNew, IsKeptIn, IsNewTable, new_blocks}
use Rattle.plans_data.specs.Plans.{IsChoice, holder_of}
use Rattle.plans_data.proofs.Blocks.{position_claimed}
use Rattle.plans_data.proofs.Numbers.{address_small}

pub new_table : (geo : Geometry) → IsGeometry geo → (view : View) (b x : ℕ) → IsFreeBlock geo view b → IsFreeBlock geo view x → (x ≡ b → ⊥) → IsNewTable geo view b x (with_pointer (replicate 1024 0) 0 b)
new_table geo ok view b x free other apart = record {
  free = other;
  other = apart;
  whole = pointer_whole (replicate 1024 0) zero_whole 0 b (omega arith) (address_small geo ok b free.address);
  first = pointer_here (replicate 1024 0) zero_whole 0 b (omega arith) (address_small geo ok b free.address);
}

module _ (geo : Geometry) (v : View) (n : ℕ) where
  -- kept there, with these new tables
  pub record Keeps (k b : ℕ) (h : Holder) (news : List ℕ) : Type 0 where
    pub kept : IsKeptIn geo v n k b h
    pub tables : new_blocks h ≡ news

  -- inode n claims the tables that it has
  abbrev pub ClaimsTables : Type 0
  ClaimsTables = (m : ℕ) → IsTrue (is_table geo m) → IsTrue (has_position geo (v.inode n) m) → IsClaim geo v n m (block_of geo v n m)

  -- which it does where the rules hold
  pub rules_claim : ObeysRules geo v → IsTrue (is_sound_at geo v n) → ClaimsTables
  rules_claim rules sound m is has = position_claimed geo v rules n m sound has

  module _ (ok : IsGeometry geo) (claims : ClaimsTables) where
    -- in the record, or in a table that is there
    kept_there : (k b : ℕ) → ((m : ℕ) → table_of geo k ≡ Some m → IsTrue (has_position geo (v.inode n) m)) → Keeps k b (holder_of geo v n k b []) []
    kept_there k b has = elim (table_cases geo k) [
      | inl none ↦ subst (λ o. Keeps k b (option_map_or (λ m. KeptInTable m (block_of geo v n m) (v.bytes (block_of geo v n m)) (map (block_of geo v n) (above geo m))) o KeptInRecord) [])
          (sym none) (record { kept = none; tables = refl })
      | inr one ↦ subst (λ o. Keeps k b (option_map_or (λ m. KeptInTable m (block_of geo v n m) (v.bytes (block_of geo v n m)) (map (block_of geo v n) (above geo m))) o KeptInRecord) [])
          (sym one.1) (record { kept = (one.1, claims one.0 (le-leb (most_blocks geo) one.0 (table_is_table geo k one.0 one.1)) (has one.0 one.1), refl, refl); tables = refl })
    ]

    -- in a new one
    kept_new : (k b m x : ℕ) (xs : List ℕ) → table_of geo k ≡ Some m → IsFalse (has_position geo (v.inode n) m) → IsFreeBlock geo v b → IsFreeBlock geo v x → (x ≡ b → ⊥)
        → Keeps m x (holder_of geo v n m x xs) xs → Keeps k b (holder_of geo v n k b (x ∷ xs)) (x ∷ xs)
    kept_new k b m x xs one late free other apart up =
        subst (λ o. Keeps k b (option_map_or (λ l. KeptInNew l x (with_pointer (replicate 1024 0) 0 b) (holder_of geo v n l x xs)) o KeptInRecord) (x ∷ xs)) (sym one)
        (record { kept = (one, late, new_table geo ok v b x free other apart, up.kept); tables = ap (λ ys. x ∷ ys) up.tables })

    -- where position k is in use
    pub kept_in_use : (k b : ℕ) → IsTrue (has_position geo (v.inode n) k) → Keeps k b (holder_of geo v n k b []) []
    kept_in_use k b has = kept_there k b (λ m one. reach_table geo (blocks_of (v.inode n).size) k m one has)

    module _ (k b : ℕ) (next : k ≡ blocks_of (v.inode n).size) (room : k < most_blocks geo) where
      inside : k < position_count geo
      inside = omega (arith, room, some_table geo)

      was : (m : ℕ) → m < position_count geo → first_block geo m < k → IsTrue (has_position geo (v.inode n) m)
      was m low early = reach_from geo (blocks_of (v.inode n).size) m low (omega (arith, early, next))

      late : (m : ℕ) → first_block geo m ≡ k → IsFalse (has_position geo (v.inode n) m)
      late m is = false_from_ne_true (has_position geo (v.inode n) m) (λ has. let early = (reach_parts geo (blocks_of (v.inode n).size) m has).1 in omega (arith, early, is, next))

      by_new : (news : List ℕ) → IsChoice geo v k b news → New geo k → Keeps k b (holder_of geo v n k b news) news
      by_new [] c (NoNew none list) = kept_there k b (λ m one. was m (table_inside geo k m inside one) (none m (Next one)))
      by_new (x ∷ xs) c (NoNew none list) = absurd (let many = c.many in let few = ap length list in omega (arith, many, few))
      by_new [] c (OneNew m one is early list) = absurd (let many = c.many in let few = ap length list in omega (arith, many, few))
      by_new (x ∷ []) c (OneNew m one is early list) =
          kept_new k b m x [] one (late m is) c.free (c.tables).0 ((c.apart).0).0
          (kept_there m x (λ t two. was t (table_inside geo m t (table_inside geo k m inside one) two) (early t two)))
      by_new (x ∷ y ∷ ys) c (OneNew m one is early list) = absurd (let many = c.many in let few = ap length list in omega (arith, many, few))
      by_new [] c (TwoNew m t one two is also list) = absurd (let many = c.many in let few = ap length list in omega (arith, many, few))
      by_new (x ∷ []) c (TwoNew m t one two is also list) = absurd (let many = c.many in let few = ap length list in omega (arith, many, few))
      by_new (x ∷ y ∷ []) c (TwoNew m t one two is also list) =
          kept_new k b m x (y ∷ []) one (late m is) c.free (c.tables).0 ((c.apart).0).0
          (kept_new m x t y [] two (late t also) (c.tables).0 ((c.tables).1).0 (((c.apart).1).0).0
          (kept_there t y (λ u three. absurd (none-some u (sym (shallow geo k m t one two) ∙ three)))))
      by_new (x ∷ y ∷ z ∷ zs) c (TwoNew m t one two is also list) = absurd (let many = c.many in let few = ap length list in omega (arith, many, few))

      -- where it comes next
      pub kept_next : (news : List ℕ) → IsChoice geo v k b news → Keeps k b (holder_of geo v n k b news) news
      kept_next news c = by_new news c (new geo k room)
