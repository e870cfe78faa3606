-- The blocks that go, position by position, and the bits that a loop clears.
use Rattle.std.proofs.Common.{◌≡◌, ◌<◌, ◌≤◌, ◌+◌, ◌-◌, ℕ, zero, suc, Bool, true, false, not, ◌&&◌, List, [], ◌∷◌, ◌++◌, Option, Some, None, ◌⊎◌, inl, inr, IsTrue, IsFalse, refl, sym, ap, ◌∙◌, subst, is_some, add-one, arith, append-nil}
use mathlib.Core.Path.{fun_ext}
use Rattle.std.specs.Prelude.{unwrap_or}
use Rattle.std.proofs.lemmas.Bool.{cases_Bool, cases_lt, cond-true, cond-false, false_from_ne_true}
use Rattle.findings.specs.Numbers.{found_below}
use Rattle.findings.proofs.FoundBelow.{found-no, found-none, found-yes}
use Rattle.model.specs.Layout.{Geometry}
use Rattle.model.specs.View.{View}
use Rattle.model.specs.Cells.{SetBlock}
use Rattle.model.specs.Shape.{most_blocks, position_count, reaches, tables}
use Rattle.model.specs.Uses.{blocks_of, claim_at, has_position, is_sound}
use Rattle.model.proofs.UseLemmas.{claim_parts}
use Rattle.model.proofs.Shape.{more_reach, own_first, reach_from, reach_parts, some_table, tables_range}
use Rattle.model.proofs.Steps.{use_sound}
use Rattle.model.proofs.Uses.{has_below, sound_few, use_has, use_number}
use Rattle.machine.specs.Cells.{block_of}
use Rattle.ordering.specs.Cuts.{Pending, Record}
use Rattle.plans_data.specs.Freeing.{cleared}
use Rattle.live_states.specs.Drafts.{Draft, GoesOn}
use Rattle.live_plans.proofs.DraftLemmas.{goes_as, goes_then}
use Rattle.live_removals.specs.Blocks.{claimed_at, goes_at, gone, gone_below, is_claimed_at}

abbrev pub clearing : ℕ → ℕ → Pending
clearing n b = record { change = SetBlock b false; after = Record n ∷ [] }

pub cleared_more : (n : ℕ) (bs cs : List ℕ) (q : List Pending) → cleared n cs (cleared n bs q) ≡ cleared n (bs ++ cs) q
cleared_more n [] cs q = refl
cleared_more n (c ∷ bs) cs q = cleared_more n bs cs (clearing n c ∷ q)

-- one list of blocks after another
pub clears_more : (n : ℕ) (bs cs : List ℕ) (old mid new : Draft) → GoesOn old mid (cleared n bs) → GoesOn mid new (cleared n cs) → GoesOn old new (cleared n (bs ++ cs))
clears_more n bs cs old mid new a b =
    goes_as old new (λ q. cleared n cs (cleared n bs q)) (cleared n (bs ++ cs)) (cleared_more n bs cs) (goes_then old mid new (cleared n bs) (cleared n cs) a b)

pub clears_as : (n : ℕ) (bs cs : List ℕ) (old new : Draft) → bs ≡ cs → GoesOn old new (cleared n bs) → GoesOn old new (cleared n cs)
clears_as n bs cs old new e = subst (λ (xs : List ℕ). GoesOn old new (cleared n xs)) e

pub clears_nothing : (n : ℕ) (draft : Draft) → GoesOn draft draft (cleared n [])
clears_nothing n draft = record { geometry = refl; file = refl; pending = λ q. refl }

-- ---- which positions stay

-- those of the blocks that are left
stays_below : (geo : Geometry) (left k : ℕ) → k < left → k < most_blocks geo → IsTrue (reaches geo left k)
stays_below geo left k low inside = reach_from geo left k (omega (arith, inside, some_table geo)) (let own = own_first geo k inside in omega (arith, own, low))

pub goes_from : (geo : Geometry) (left k : ℕ) → left ≤ k → k < most_blocks geo → IsFalse (reaches geo left k)
goes_from geo left k high inside = false_from_ne_true (reaches geo left k) (λ t.
    let few = (reach_parts geo left k t).1 in let own = own_first geo k inside in omega (arith, few, own, high))

-- and those of their tables
pub table_goes : (geo : Geometry) (left k : ℕ) → left ≤ most_blocks geo → most_blocks geo + tables left ≤ k → IsFalse (reaches geo left k)
table_goes geo left k few high = false_from_ne_true (reaches geo left k) (λ t. let low = (tables_range geo left k few (omega (arith, high))).0 t in omega (arith, low, high))

-- fewer blocks have no more tables
pub fewer_tables : (geo : Geometry) (few many : ℕ) → few ≤ many → many ≤ most_blocks geo → tables few ≤ tables many
fewer_tables geo few many low inside = elim (cases_lt (tables many) (tables few)) [
  | inr no_more ↦ no_more
  | inl more ↦
      let k = most_blocks geo + tables many in
      let reached = (tables_range geo few k (omega (arith, low, inside)) (omega arith)).1 (omega (arith, more)) in
      absurd (let past = (tables_range geo many k inside (omega arith)).0 (more_reach geo few many k low reached) in omega (arith, past))
]

-- ---- the lists of a loop

module _ (which : ℕ → Bool) (geo : Geometry) (view : View) (n left : ℕ) where
  pub none_yet : gone_below which geo view n left 0 ≡ []
  none_yet = found-none (goes_at which geo view n left) (block_of geo view n)

  -- nothing goes at a position that stays, or where nothing is claimed
  abbrev pub IsPast : ℕ → Type 0
  IsPast k = IsTrue (reaches geo left k) ⊎ (claim_at geo view n k ≡ None)

  past_test : (k : ℕ) → IsPast k → IsFalse (goes_at which geo view n left k)
  past_test k (inl s) = ap (λ b. is_some (claim_at geo view n k) && not b && which (block_of geo view n k)) s ∙ none (is_some (claim_at geo view n k)) (which (block_of geo view n k))
    where
      none : (a b : Bool) → (a && false && b) ≡ false
      none true b = refl
      none false b = refl
  past_test k (inr e) = ap (λ b. b && not (reaches geo left k) && which (block_of geo view n k)) (ap is_some e)

  gone_past : (k : ℕ) → IsPast k → gone_below which geo view n left (suc k) ≡ gone_below which geo view n left k
  gone_past k p = found-no (goes_at which geo view n left) (block_of geo view n) k (past_test k p)

  pub gone_over : (d a : ℕ) → ((k : ℕ) → a ≤ k → k < d + a → IsPast k) → gone_below which geo view n left (d + a) ≡ gone_below which geo view n left a
  gone_over zero a p = let e : zero + a ≡ a = omega arith in ap (gone_below which geo view n left) e
  gone_over (suc d) a p =
      let e : suc d + a ≡ suc (d + a) = omega arith in
      ap (gone_below which geo view n left) e ∙ gone_past (d + a) (p (d + a) (omega arith) (omega arith)) ∙ gone_over d a (λ k l h. p k l (omega (arith, h)))

  pub gone_to : (a b : ℕ) → a ≤ b → ((k : ℕ) → a ≤ k → k < b → IsPast k) → gone_below which geo view n left b ≡ gone_below which geo view n left a
  gone_to a b low p =
      let e : b ≡ (b - a) + a = omega (arith, low) in
      ap (gone_below which geo view n left) e ∙ gone_over (b - a) a (λ k l h. p k l (omega (arith, h, low)))

  goes_test : (k : ℕ) → IsFalse (reaches geo left k) → goes_at which geo view n left k ≡ is_claimed_at which geo view n k
  goes_test k f = ap (λ b. is_some (claim_at geo view n k) && not b && which (block_of geo view n k)) f ∙ ap (λ b. b && which (block_of geo view n k)) (same (is_some (claim_at geo view n k)))
    where
      same : (a : Bool) → (a && true) ≡ a
      same true = refl
      same false = refl

  -- one more position
  pub gone_next : (k : ℕ) → IsFalse (reaches geo left k) → gone_below which geo view n left (k + 1) ≡ gone_below which geo view n left k ++ claimed_at which geo view n k
  gone_next k f = ap (gone_below which geo view n left) (add-one k) ∙ elim (cases_Bool (is_claimed_at which geo view n k)) [
    | inl t ↦ found-yes (goes_at which geo view n left) (block_of geo view n) k (goes_test k f ∙ t)
        ∙ ap (λ bs. gone_below which geo view n left k ++ bs) (sym (cond-true (is_claimed_at which geo view n k) (block_of geo view n k ∷ []) [] t))
    | inr e ↦ found-no (goes_at which geo view n left) (block_of geo view n) k (goes_test k f ∙ e) ∙ sym (append-nil (gone_below which geo view n left k))
        ∙ ap (λ bs. gone_below which geo view n left k ++ bs) (sym (cond-false (is_claimed_at which geo view n k) (block_of geo view n k ∷ []) [] e))
  ]

  -- before the loops
  pub starts : (start : ℕ) → start ≤ left → start ≤ most_blocks geo → gone_below which geo view n left start ≡ []
  starts start low few = gone_to 0 start (omega arith) (λ k l h. inl (stays_below geo left k (omega (arith, h, low)) (omega (arith, h, few)))) ∙ none_yet

  -- a position that the inode does not have claims nothing
  unclaimed : (k : ℕ) → (IsTrue (is_sound geo (view.inode n)) → IsTrue (has_position geo (view.inode n) k) → ⊥) → claim_at geo view n k ≡ None
  unclaimed k none = by (claim_at geo view n k) refl
    where
      by : (o : Option ℕ) → claim_at geo view n k ≡ o → claim_at geo view n k ≡ None
      by None e = e
      by (Some b) e =
          let u = (use_number geo view n k b (claim_parts geo view n k b e).0).1 in
          absurd (none (use_sound geo view (view.inode n) k b u) (use_has geo view (view.inode n) k b u))

  -- from the first loop, over the inode's blocks, to the second one, over its tables
  pub between : (start : ℕ) → start ≤ left → start ≤ most_blocks geo → (end : ℕ) → end ≤ most_blocks geo → (blocks_of (view.inode n).size ≤ end) ⊎ (most_blocks geo ≤ end)
      → gone_below which geo view n left (most_blocks geo + tables start) ≡ gone_below which geo view n left end
  between start low few end inside all = gone_to end (most_blocks geo + tables start) (omega (arith, inside)) (λ k l h. elim (cases_lt k (most_blocks geo)) [
    | inl below_all ↦ inr (unclaimed k (λ sound has. let below = has_below geo (view.inode n) k below_all has in elim all [ inl e ↦ omega (arith, e, below, l) | inr e ↦ omega (arith, e, below_all, l) ]))
    | inr table ↦ inl (more_reach geo start left k low ((tables_range geo start k few table).1 h))
  ])

  -- and behind it nothing is claimed
  pub ends : (end : ℕ) → end ≤ most_blocks geo → (blocks_of (view.inode n).size ≤ end) ⊎ (most_blocks geo ≤ end) → most_blocks geo + tables end ≤ position_count geo
      → gone which geo view n left ≡ gone_below which geo view n left (most_blocks geo + tables end)
  ends end inside all within = gone_to (most_blocks geo + tables end) (position_count geo) within (λ k l h. inr (unclaimed k (λ sound has.
      let few = sound_few geo (view.inode n) sound in
      let fewer : blocks_of (view.inode n).size ≤ end = elim all [ inl e ↦ e | inr e ↦ omega (arith, e, few) ] in
      let past = (tables_range geo end k inside (omega (arith, l))).0 (more_reach geo (blocks_of (view.inode n).size) end k fewer has) in omega (arith, past, l))))

-- what two views claim alike
pub gone_same : (which : ℕ → Bool) (geo : Geometry) (v w : View) (n left : ℕ) → ((k : ℕ) → claim_at geo v n k ≡ claim_at geo w n k) → gone which geo v n left ≡ gone which geo w n left
gone_same which geo v w n left same =
    ap (λ (c : ℕ → Option ℕ). found_below (λ k. is_some (c k) && not (reaches geo left k) && which (unwrap_or (c k) 0)) (λ k. unwrap_or (c k) 0) (position_count geo)) (fun_ext same)
