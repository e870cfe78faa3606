-- The pending updates that nodes show.
use Rattle.std.proofs.Common.{◌≡◌, ℕ, zero, suc, ◌<◌, ◌≤◌, Bool, true, false, List, [], ◌∷◌, inl, inr, Option, Some, None, refl, sym, ap, ap₂, ◌∙◌, subst, IsTrue, IsFalse, Contains, length, arith}
use Rattle.std.proofs.lemmas.Bool.{cases_eq, cases_Bool}
use Rattle.std.specs.List.{cons_option}
use Rattle.ordering.specs.Cuts.{Pending, rest}
use Rattle.queue_model.specs.Entries.{Entry, Stand, marks}
use Rattle.queue_model.proofs.Lists.{contains_head, contains_tail, contains_cases}
use Rattle.updates.specs.declared.change.Update.{Update}
use Rattle.updates.specs.Values.{written}
use Rattle.softdep_queue.specs.declared.table.Node.{Node}
use Rattle.softdep_queue.specs.Ties.{node_at, pending_in, shown_by}
use Rattle.softdep_queue.specs.Moving.{flag_if, taken_by}

-- so many nodes with the same updates
pub same_below : (ns ms : List Node) (n : ℕ) → ((i : ℕ) → i < n → (node_at ns i).update ≡ (node_at ms i).update) → shown_by ns n ≡ shown_by ms n
same_below ns ms zero same = refl
same_below ns ms (suc n) same = ap₂ (λ o l. cons_option (pending_in o) l) (same n (omega arith)) (same_below ns ms n (λ i l. same i (omega (arith, l))))

-- all of them
pub same_shown : (ns ms : List Node) → length ns ≡ length ms → ((i : ℕ) → (node_at ns i).update ≡ (node_at ms i).update) → shown_by ns (length ns) ≡ shown_by ms (length ms)
same_shown ns ms long same = same_below ns ms (length ns) (λ i l. same i) ∙ ap (shown_by ms) long

-- ---- without some of them

-- the nodes of these entries show something
abbrev pub AreShown : List Node → List Entry → Type 0
AreShown ns es = (e : Entry) → Contains es e → (node_at ns e.id).update ≡ None → ⊥

tail_shown : (ns : List Node) (e : Entry) (es : List Entry) → AreShown ns (e ∷ es) → AreShown ns es
tail_shown ns e es some f m = some f (contains_tail e f es m)

stand_long : (n : ℕ) (es : List Entry) (q : List Pending) → Stand n es q → length es ≡ length q
stand_long n [] [] s = refl
stand_long n [] (u ∷ q) s = absurd s
stand_long n (e ∷ es) [] s = absurd s
stand_long n (e ∷ es) (u ∷ q) s = ap suc (stand_long e.id es q s.1)

few_shown : (ns : List Node) (n : ℕ) (es : List Entry) (q : List Pending) → Stand n es q → AreShown ns es → length es ≤ length (shown_by ns n)
few_shown ns n [] q s some = omega arith
few_shown ns n (e ∷ es) [] s some = absurd s
few_shown ns zero (e ∷ es) (u ∷ q) s some = let low = s.0 in absurd (omega (arith, low))
few_shown ns (suc n) (e ∷ es) (u ∷ q) s some = elim (cases_eq e.id n) [
  | inl d ↦ here (node_at ns n).update (λ z. some e (contains_head e es) (ap (λ i. (node_at ns i).update) d ∙ z))
      (few_shown ns n es q (subst (λ k. Stand k es q) d s.1) (tail_shown ns e es some))
  | inr d ↦ below (node_at ns n).update (few_shown ns n (e ∷ es) (u ∷ q) (let low = s.0 in omega (arith, low, d), s.1, s.2) some)
]
  where
    here : (o : Option Update) → (o ≡ None → ⊥) → length es ≤ length (shown_by ns n) → suc (length es) ≤ length (cons_option (pending_in o) (shown_by ns n))
    here None is l = absurd (is refl)
    here (Some x) is l = omega (arith, l)

    below : (o : Option Update) → suc (length es) ≤ length (shown_by ns n) → suc (length es) ≤ length (cons_option (pending_in o) (shown_by ns n))
    below None l = l
    below (Some x) l = omega (arith, l)

module _ (ns ms : List Node) (set : ℕ → Bool) (same : (i : ℕ) → IsFalse (set i) → (node_at ms i).update ≡ (node_at ns i).update) (gone : (i : ℕ) → IsTrue (set i) → (node_at ms i).update ≡ None) where
  still_none : (i : ℕ) → (node_at ns i).update ≡ None → (node_at ms i).update ≡ None
  still_none i z = elim (cases_Bool (set i)) [ inl t ↦ gone i t | inr f ↦ same i f ∙ z ]

  -- where some updates are gone, the others are left
  pub left_shown : (n : ℕ) (es : List Entry) (q : List Pending) → Stand n es q → AreShown ns es → shown_by ns n ≡ q → shown_by ms n ≡ rest q (marks set es)
  left_shown zero [] [] s some is = refl
  left_shown zero [] (u ∷ q) s some is = absurd s
  left_shown zero (e ∷ es) [] s some is = absurd s
  left_shown zero (e ∷ es) (u ∷ q) s some is = let low = s.0 in absurd (omega (arith, low))
  left_shown (suc n) es q s some is = at (λ es q s some is. left_shown n es q s some is) (node_at ns n).update refl is
    where
      lower : (es : List Entry) (q : List Pending) → Stand (suc n) es q → AreShown ns es → (node_at ns n).update ≡ None → Stand n es q
      lower [] [] s some z = tt
      lower [] (u ∷ q) s some z = absurd s
      lower (e ∷ es) [] s some z = absurd s
      lower (e ∷ es) (u ∷ q) s some z =
          let low = s.0 in
          let other : e.id ≡ n → ⊥ = λ d. some e (contains_head e es) (ap (λ i. (node_at ns i).update) d ∙ z) in
          (omega (arith, low, other), s.1, s.2)

      first : ((es : List Entry) (q : List Pending) → Stand n es q → AreShown ns es → shown_by ns n ≡ q → shown_by ms n ≡ rest q (marks set es))
          → (x : Update) (es : List Entry) (q : List Pending) → Stand (suc n) es q → AreShown ns es → (node_at ns n).update ≡ Some x → (written x).update ∷ shown_by ns n ≡ q → shown_by ms (suc n) ≡ rest q (marks set es)
      first more x [] [] s some o is = absurd (let l = ap length is in omega (arith, l))
      first more x [] (u ∷ q) s some o is = absurd s
      first more x (e ∷ es) [] s some o is = absurd s
      first more x (e ∷ es) (u ∷ q) s some o is =
          let head : (written x).update ≡ u = cc in
          let tail : shown_by ns n ≡ q = cc in
          elim (cases_eq e.id n) [
            | inl d ↦ by head d (more es q (subst (λ k. Stand k es q) d s.1) (tail_shown ns e es some) tail) (set e.id) refl
            | inr d ↦
                let low = s.0 in
                let few = few_shown ns n (e ∷ es) (u ∷ q) (omega (arith, low, d), s.1, s.2) some in
                let long = stand_long e.id es q s.1 in
                let same_long = ap length tail in
                absurd (omega (arith, few, long, same_long))
          ]
        where
          by : (written x).update ≡ u → e.id ≡ n → shown_by ms n ≡ rest q (marks set es) → (b : Bool) → set e.id ≡ b → shown_by ms (suc n) ≡ rest (u ∷ q) (b ∷ marks set es)
          by head d more true t = ap (λ o. cons_option (pending_in o) (shown_by ms n)) (ap (λ i. (node_at ms i).update) (sym d) ∙ gone e.id t) ∙ more
          by head d more false f =
              ap (λ o. cons_option (pending_in o) (shown_by ms n)) (ap (λ i. (node_at ms i).update) (sym d) ∙ same e.id f ∙ ap (λ i. (node_at ns i).update) d ∙ o) ∙ ap₂ (λ u l. u ∷ l) head more

      at : ((es : List Entry) (q : List Pending) → Stand n es q → AreShown ns es → shown_by ns n ≡ q → shown_by ms n ≡ rest q (marks set es))
          → (o : Option Update) → (node_at ns n).update ≡ o → cons_option (pending_in o) (shown_by ns n) ≡ q → shown_by ms (suc n) ≡ rest q (marks set es)
      at more None z is = ap (λ o. cons_option (pending_in o) (shown_by ms n)) (still_none n z) ∙ more es q (lower es q s some z) some is
      at more (Some x) o is = first more x es q s some o is

-- what is left was there
pub within_rest : (q : List Pending) (cut : List Bool) (u : Pending) → Contains (rest q cut) u → Contains q u
within_rest [] cut u m = m
within_rest (p ∷ q) [] u m = m
within_rest (p ∷ q) (true ∷ cut) u m = contains_tail p u q (within_rest q cut u m)
within_rest (p ∷ q) (false ∷ cut) u m = elim (contains_cases p u (rest q cut) m) [
  | inl d ↦ subst (Contains (p ∷ q)) d (contains_head p q)
  | inr later ↦ contains_tail p u q (within_rest q cut u later)
]

-- ---- which of them were taken

module _ (ns : List Node) (set : ℕ → Bool) where
  -- the nodes of these entries tell whether they are in the set
  abbrev pub TellTaken : List Entry → Type 0
  TellTaken es = (e : Entry) → Contains es e → (node_at ns e.id).taken ≡ set e.id

  tail_tell : (e : Entry) (es : List Entry) → TellTaken (e ∷ es) → TellTaken es
  tail_tell e es tell f m = tell f (contains_tail e f es m)

  pub taken_marks : (n : ℕ) (es : List Entry) (q : List Pending) → Stand n es q → AreShown ns es → TellTaken es → shown_by ns n ≡ q → taken_by ns n ≡ marks set es
  taken_marks zero [] [] s some tell is = refl
  taken_marks zero [] (u ∷ q) s some tell is = absurd s
  taken_marks zero (e ∷ es) [] s some tell is = absurd s
  taken_marks zero (e ∷ es) (u ∷ q) s some tell is = let low = s.0 in absurd (omega (arith, low))
  taken_marks (suc n) es q s some tell is = at (λ es q s some tell is. taken_marks n es q s some tell is) (node_at ns n).update refl is
    where
      lower : (es : List Entry) (q : List Pending) → Stand (suc n) es q → AreShown ns es → (node_at ns n).update ≡ None → Stand n es q
      lower [] [] s some z = tt
      lower [] (u ∷ q) s some z = absurd s
      lower (e ∷ es) [] s some z = absurd s
      lower (e ∷ es) (u ∷ q) s some z =
          let low = s.0 in
          let other : e.id ≡ n → ⊥ = λ d. some e (contains_head e es) (ap (λ i. (node_at ns i).update) d ∙ z) in
          (omega (arith, low, other), s.1, s.2)

      first : ((es : List Entry) (q : List Pending) → Stand n es q → AreShown ns es → TellTaken es → shown_by ns n ≡ q → taken_by ns n ≡ marks set es)
          → (x : Update) (es : List Entry) (q : List Pending) → Stand (suc n) es q → AreShown ns es → TellTaken es → (node_at ns n).update ≡ Some x → (written x).update ∷ shown_by ns n ≡ q → taken_by ns (suc n) ≡ marks set es
      first more x [] [] s some tell o is = absurd (let l = ap length is in omega (arith, l))
      first more x [] (u ∷ q) s some tell o is = absurd s
      first more x (e ∷ es) [] s some tell o is = absurd s
      first more x (e ∷ es) (u ∷ q) s some tell o is =
          let tail : shown_by ns n ≡ q = cc in
          elim (cases_eq e.id n) [
            | inl d ↦ ap (λ y. cons_option (flag_if y (node_at ns n).taken) (taken_by ns n)) o
                ∙ ap₂ (λ b l. b ∷ l) (ap (λ i. (node_at ns i).taken) (sym d) ∙ tell e (contains_head e es)) (more es q (subst (λ k. Stand k es q) d s.1) (tail_shown ns e es some) (tail_tell e es tell) tail)
            | inr d ↦
                let low = s.0 in
                let few = few_shown ns n (e ∷ es) (u ∷ q) (omega (arith, low, d), s.1, s.2) some in
                let long = stand_long e.id es q s.1 in
                let same_long = ap length tail in
                absurd (omega (arith, few, long, same_long))
          ]

      at : ((es : List Entry) (q : List Pending) → Stand n es q → AreShown ns es → TellTaken es → shown_by ns n ≡ q → taken_by ns n ≡ marks set es)
          → (o : Option Update) → (node_at ns n).update ≡ o → cons_option (pending_in o) (shown_by ns n) ≡ q → taken_by ns (suc n) ≡ marks set es
      at more None z is = ap (λ y. cons_option (flag_if y (node_at ns n).taken) (taken_by ns n)) z ∙ more es q (lower es q s some z) some tell is
      at more (Some x) o is = first more x es q s some tell o is
