-- A node that the kernel was told is found until it is forgotten, or its number is given to a new inode.
use Rattle.std.proofs.Common.{◌≡◌, ◌≢◌, ℕ, ◌+◌, ◌*◌, ◌/◌, ◌%◌, ◌^◌, ◌<◌, ◌≤◌, inl, inr, Bool, true, false, cond, ◌&&◌, eqb, min, List, [], ◌∷◌, length, Option, Some, None, refl, sym, ap, ap₂, subst, ◌∙◌, arith, eq-eqb}
use Rattle.std.proofs.lemmas.Bool.{cases_lt, eqb-true, ltb-true, lt-ltb, ne_eqb}
use Rattle.std.proofs.lemmas.List.{get_or-set_same, get_or-set_other}
use Rattle.std.proofs.lemmas.Nat.{mod_low, shr_high}
use Rattle.std.proofs.lemmas.Option.{cond_some}
use Rattle.std.proofs.Math.Nat.{min-eq_left, min-eq_right}
use Rattle.fuse_nodes.specs.Known.{Known, Named, fresh, one_more, told_once, born_again, forgot, with_its_name, without_its_name, opened_once, closed_once}
use Rattle.fuse_nodes.specs.Table.{Table, Event, Told, Born, Forgot, Got, Lost, Opened, Closed, after, change, found, found_known, id_of, is_known, known}
use Rattle.fuse_nodes.specs.Runs.{StaysKnown, after_all}
use Rattle.fuse_nodes.proofs.Runs.{at_change, both}

-- the kernel knows a node of this generation
record IsTold (g : ℕ) (k : Known) : Type 0 where
  pub generation : k.generation ≡ g
  pub some : 0 < k.lookups

one_more-some : (n : ℕ) → 0 < one_more n
one_more-some n = elim (cases_lt n 18446744073709551615) [
  | inl low ↦ let e : min (n + 1) 18446744073709551615 ≡ n + 1 = min-eq_left (omega arith) in omega (arith, e)
  | inr high ↦ let e : min (n + 1) 18446744073709551615 ≡ 18446744073709551615 = min-eq_right (omega arith) in omega (arith, e)
]

at_other : (P : Known → Type 0) (f : Known → Known) (k n : ℕ) (t : Table) → n ≢ k → P (known t n) → P (known (change f k t) n)
at_other P f k n t apart h = subst P (sym (get_or-set_other t k n (f (known t k)) fresh apart)) h

if_chosen : (P : Known → Type 0) (b : Bool) (x y : Table) (n : ℕ) → (b ≡ true → P (known x n)) → P (known y n) → P (known (cond b x y) n)
if_chosen P true x y n p q = p refl
if_chosen P false x y n p q = q

parts : (a b : Bool) → (a && b) ≡ true → (a ≡ true) × (b ≡ true)
parts true b e = (refl, e)
parts false b e = absurd cc

told_event : (event : Event) (id g n : ℕ) (t : Table) → id ≡ g * 2 ^ 32 + n → (event ≡ Born n → ⊥) → ((lookups : ℕ) → event ≡ Forgot id lookups → ⊥) → IsTold g (known t n)
    → IsTold g (known (after event t) n)
told_event (Told number name) id g n t place no_birth no_end h =
    at_change (IsTold g) (told_once name) number n t h (record { generation = h.generation; some = one_more-some (known t n).lookups })
told_event (Born number) id g n t place no_birth no_end h = at_other (IsTold g) born_again number n t (λ e. no_birth (ap Born (sym e))) h
told_event (Forgot other lookups) id g n t place no_birth no_end h =
    if_chosen (IsTold g) (is_known (other / 2 ^ 32) (known t (other % 2 ^ 32))) (change (forgot lookups) (other % 2 ^ 32) t) t n
    (λ chosen.
    let same : (known t (other % 2 ^ 32)).generation ≡ other / 2 ^ 32 = eqb-true _ _ (both _ _ chosen) in
    at_other (IsTold g) (forgot lookups) (other % 2 ^ 32) n t
    (λ e.
    let high : g ≡ other / 2 ^ 32 = sym h.generation ∙ ap (λ i. (known t i).generation) e ∙ same in
    let here : other ≡ id = omega (arith, high, e, place) in
    no_end lookups (ap (λ i. Forgot i lookups) here))
    h)
    h
told_event (Got number name) id g n t place no_birth no_end h = at_change (IsTold g) (with_its_name name) number n t h (record { generation = h.generation; some = h.some })
told_event (Lost number name) id g n t place no_birth no_end h = at_change (IsTold g) (without_its_name name) number n t h (record { generation = h.generation; some = h.some })
told_event (Opened number handle) id g n t place no_birth no_end h = at_change (IsTold g) (opened_once handle) number n t h (record { generation = h.generation; some = h.some })
told_event (Closed number) id g n t place no_birth no_end h = at_change (IsTold g) closed_once number n t h (record { generation = h.generation; some = h.some })

told_all : (events : List Event) (id g n : ℕ) (t : Table) → id ≡ g * 2 ^ 32 + n → StaysKnown id n events → IsTold g (known t n) → IsTold g (known (after_all events t) n)
told_all [] id g n t place quiet h = h
told_all (event ∷ events) id g n t place quiet h = told_all events id g n (after event t) place quiet.2 (told_event event id g n t place quiet.0 quiet.1 h)

-- ---- what is found

abbrev number : ℕ → Option ℕ
number n = Some n

found_told : (t : Table) (id g n : ℕ) → id ≡ g * 2 ^ 32 + n → 2 < n → n < 2 ^ 32 → IsTold g (known t n) → found t id ≡ number n
found_told t id g n place no_root below h =
    let high : id / 2 ^ 32 ≡ g = ap (λ i. i / 2 ^ 32) place ∙ shr_high g 32 n below in
    let rest : id % 2 ^ 32 ≡ n = ap (λ i. i % 2 ^ 32) place ∙ mod_low g 32 n below in
    let no_one : eqb id 1 ≡ false = ne_eqb id 1 (λ e. omega (arith, e, place)) in
    let test : is_known (id / 2 ^ 32) (known t (id % 2 ^ 32)) ≡ true =
    ap₂ (λ q i. is_known q (known t i)) high rest ∙ ap₂ (λ a b. a && b) (eq-eqb (known t n).generation g h.generation) (lt-ltb 0 (known t n).lookups h.some) in
    ap (λ b. cond b (number 2) (found_known t id)) no_one ∙ ap₂ (λ b i. cond b (number i) None) test rest

told_found : (t : Table) (id n : ℕ) → 2 < n → found t id ≡ number n → (n ≡ id % 2 ^ 32) × IsTold (id / 2 ^ 32) (known t n)
told_found t id n no_root e = by (eqb id 1) e
  where
    by : (b : Bool) → cond b (number 2) (found_known t id) ≡ number n → (n ≡ id % 2 ^ 32) × IsTold (id / 2 ^ 32) (known t n)
    by true q = let two : 2 ≡ n = cc in absurd (omega (arith, two))
    by false q =
        let split = cond_some (is_known (id / 2 ^ 32) (known t (id % 2 ^ 32))) (id % 2 ^ 32) n q in
        let both_hold = parts _ _ split.0 in
        let told : IsTold (id / 2 ^ 32) (known t (id % 2 ^ 32)) = record { generation = eqb-true _ _ both_hold.0; some = ltb-true _ _ both_hold.1 } in
        (sym split.1, subst (λ i. IsTold (id / 2 ^ 32) (known t i)) split.1 told)

pub stays_found : (t : Table) (id n : ℕ) (events : List Event) → 2 < n → found t id ≡ Some n → StaysKnown id n events → found (after_all events t) id ≡ Some n
stays_found t id n events no_root e quiet =
    let h = told_found t id n no_root e in
    let place : id ≡ (id / 2 ^ 32) * 2 ^ 32 + n = omega (arith, h.0) in
    found_told (after_all events t) id (id / 2 ^ 32) n place no_root (omega (arith, h.0)) (told_all events id (id / 2 ^ 32) n t place quiet h.1)

pub told_is_found : (t : Table) (n : ℕ) (name : Named) → 2 < n → n < length t → length t ≤ 2 ^ 32 → found (after (Told n name) t) (id_of t n) ≡ Some n
told_is_found t n name no_root within small =
    let k = known t n in
    let now : known (after (Told n name) t) n ≡ told_once name k = get_or-set_same t n (told_once name k) fresh within in
    let told : IsTold k.generation (told_once name k) = record { generation = refl; some = one_more-some k.lookups } in
    found_told (after (Told n name) t) (id_of t n) k.generation n refl no_root (omega arith) (subst (IsTold k.generation) (sym now) told)
