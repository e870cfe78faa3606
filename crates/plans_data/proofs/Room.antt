-- An accepted write finds the unmarked blocks that it needs.
use Rattle.std.proofs.Common.{◌≡◌, ℕ, zero, suc, ◌+◌, ◌<◌, ◌≤◌, ◌/◌, Bool, not, ◌&&◌, cond, ltb, List, [], ◌∷◌, length, inl, inr, refl, ap, ◌∙◌, IsTrue, arith, ltb-false, lt-ltb, le-ltb}
use Rattle.std.proofs.lemmas.Bool.{cases_Bool, cond-true, cond-false, and_parts}
use Rattle.model.specs.Layout.{Geometry, is_data_address, block_count}
use Rattle.model.specs.View.{View}
use Rattle.model.specs.Shape.{new_tables}
use Rattle.model.specs.Uses.{blocks_of}
use Rattle.model.specs.Reach.{sum_below}
use Rattle.layout.specs.declared.refusal.Refusal.TheVariants.{NoBlock, BadIndex}
use Rattle.machine.specs.State.{State, is_kept}
use Rattle.machine.specs.Command.{Write}
use Rattle.machine.specs.Causes.{Accepts, causes, file_of, blocks_to_write}
use Rattle.machine.specs.Room.{IsFreeBlock, unmarked_blocks, blocks_to_append}
use Rattle.machine.specs.Cells.{block_of}
use Rattle.machine.proofs.Walks.{quiet, when_none}
use Rattle.plans_data.specs.Append.{IsNoneOf, AreApart}
use Rattle.plans_data.specs.Plans.{AllFree, IsChoice}
use Rattle.plans_data.proofs.LetsGo.{true_not}

one_of : (p : ℕ → Bool) (n : ℕ) → 1 ≤ sum_below n (λ a. cond (p a) 1 0) → (a : ℕ) × (a < n) × IsTrue (p a)
unfolding sum_below
one_of p zero h = absurd (omega (arith, h))
one_of p (suc n) h = elim (cases_Bool (p n)) [
  | inl t ↦ (n, omega arith, t)
  | inr f ↦ let r = one_of p n (omega (arith, h, cond-false {A = ℕ} (p n) 1 0 f)) in (r.0, omega (arith, r.1), r.2)
]

module _ (geo : Geometry) (view : View) where
  free_at : (a : ℕ) → IsTrue (is_data_address geo a && not (view.block_marked a)) → IsFreeBlock geo view a
  free_at a t = let parts = and_parts (is_data_address geo a) (not (view.block_marked a)) t in record { address = parts.0; unmarked = true_not (view.block_marked a) parts.1 }

  pub one_free : 1 ≤ unmarked_blocks geo view → (b : ℕ) × IsFreeBlock geo view b
  one_free h = let r = one_of (λ a. is_data_address geo a && not (view.block_marked a)) (block_count geo) h in (r.0, free_at r.0 r.2)

  -- so many of them below this address, no block twice
  pub record Found (count n : ℕ) : Type 0 where
    pub blocks : List ℕ
    pub many : length blocks ≡ count
    pub free : AllFree geo view blocks
    pub apart : AreApart blocks
    pub low : (m : ℕ) → n ≤ m → IsNoneOf m blocks

  pub found : (n count : ℕ) → count ≤ sum_below n (λ a. cond (is_data_address geo a && not (view.block_marked a)) 1 0) → Found count n
  unfolding sum_below
  found n zero h = record { blocks = []; many = refl; free = tt; apart = tt; low = λ m l. tt }
  found zero (suc count) h = absurd (omega (arith, h))
  found (suc n) (suc count) h = elim (cases_Bool (is_data_address geo n && not (view.block_marked n))) [
    | inl t ↦
        let r = found n count (omega (arith, h, cond-true {A = ℕ} (is_data_address geo n && not (view.block_marked n)) 1 0 t)) in record {
          blocks = n ∷ r.blocks;
          many = ap suc r.many;
          free = (free_at n t, r.free);
          apart = (r.low n (omega arith), r.apart);
          low = λ m l. ((λ e. omega (arith, e, l)), r.low m (omega (arith, l)));
        }
    | inr f ↦
        let r = found n (suc count) (omega (arith, h, cond-false {A = ℕ} (is_data_address geo n && not (view.block_marked n)) 1 0 f)) in
        record { blocks = r.blocks; many = r.many; free = r.free; apart = r.apart; low = λ m l. r.low m (omega (arith, l)) }
  ]

  -- where enough are unmarked, there is a choice
  pub choice : (k : ℕ) → 1 + length (new_tables geo k) ≤ unmarked_blocks geo view → (b : ℕ) × (news : List ℕ) × IsChoice geo view k b news
  choice k enough = by r.blocks r.many r.free r.apart
    where
      r : Found (1 + length (new_tables geo k)) (block_count geo)
      r = found (block_count geo) (1 + length (new_tables geo k)) enough

      by : (xs : List ℕ) → length xs ≡ 1 + length (new_tables geo k) → AllFree geo view xs → AreApart xs → (b : ℕ) × (news : List ℕ) × IsChoice geo view k b news
      by [] many free apart = absurd (omega (arith, many))
      by (b ∷ news) many free apart = (b, news, record { free = free.0; many = omega (arith, many); tables = free.1; apart = apart })

module _ (geo : Geometry) (old : State) (h k : ℕ) (piece : List ℕ) (accepted : Accepts geo old (Write h k piece)) where
  enough : blocks_to_write geo old (file_of old h) k ≤ unmarked_blocks geo old.view
  unfolding causes
  enough =
      let q = quiet (causes geo old (Write h k piece)) accepted.0 in
      ltb-false (unmarked_blocks geo old.view) (blocks_to_write geo old (file_of old h) k) (when_none (ltb (unmarked_blocks geo old.view) (blocks_to_write geo old (file_of old h) k)) NoBlock q.1.1.1.1.0)

  pub room_to_move : k < blocks_of (old.view.inode (file_of old h)).size → IsTrue (is_kept old (block_of geo old.view (file_of old h) k)) → (b : ℕ) × IsFreeBlock geo old.view b
  room_to_move inside keeps = one_free geo old.view (omega (arith, enough, need))
    where
      need : blocks_to_write geo old (file_of old h) k ≡ 1
      need = cond-true (ltb k (blocks_of (old.view.inode (file_of old h)).size)) _ (blocks_to_append geo (old.view.inode (file_of old h))) (lt-ltb k (blocks_of (old.view.inode (file_of old h)).size) inside)
          ∙ cond-true (is_kept old (block_of geo old.view (file_of old h) k)) 1 0 keeps

  appends : blocks_of (old.view.inode (file_of old h)).size ≤ k → blocks_to_write geo old (file_of old h) k ≡ blocks_to_append geo (old.view.inode (file_of old h))
  appends past = cond-false (ltb k (blocks_of (old.view.inode (file_of old h)).size)) _ _ (le-ltb k (blocks_of (old.view.inode (file_of old h)).size) past)

  pub room_to_append : blocks_of (old.view.inode (file_of old h)).size ≤ k → (b : ℕ) × (news : List ℕ) × IsChoice geo old.view k b news
  unfolding causes
  room_to_append past =
      let q = quiet (causes geo old (Write h k piece)) accepted.0 in
      let at = ltb-false ((old.view.inode (file_of old h)).size / 1024) k (when_none (ltb ((old.view.inode (file_of old h)).size / 1024) k) BadIndex q.1.1.1.0) in
      let next : blocks_of (old.view.inode (file_of old h)).size ≡ k = omega (arith, past, at) in
      let need : blocks_to_append geo (old.view.inode (file_of old h)) ≡ 1 + length (new_tables geo k) = ap (λ j. 1 + length (new_tables geo j)) next in
      choice geo old.view k (omega (arith, enough, appends past, need))
