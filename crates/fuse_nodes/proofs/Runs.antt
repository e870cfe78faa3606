-- A number's generation never falls, and rises where the number is given to a new inode: so an old node is found no more.
use Rattle.std.proofs.Common.{◌≡◌, ℕ, ◌+◌, ◌-◌, ◌/◌, ◌%◌, ◌^◌, ◌<◌, ◌≤◌, inl, inr, Bool, true, false, cond, ◌&&◌, eqb, leb, min, List, [], ◌∷◌, length, Some, refl, sym, ap, subst, ◌∙◌, arith}
use Rattle.std.proofs.lemmas.Bool.{cases_lt, eqb-true, ne_eqb}
use Rattle.std.proofs.lemmas.List.{get_or-set_same, get_or-set_other, get_or_past, length-set}
use Rattle.std.proofs.lemmas.Nat.{mod_low, shr_high}
use Rattle.std.proofs.lemmas.Option.{cond_some}
use Rattle.std.proofs.Math.Nat.{min-eq_left, min-eq_right, min-le_right}
use Rattle.fuse_nodes.specs.Known.{Known, fresh, told_once, born_again, forgot, with_its_name, without_its_name, opened_once, closed_once}
use Rattle.fuse_nodes.specs.Table.{Table, Event, Told, Born, Forgot, Got, Lost, Opened, Closed, after, change, found, found_known, id_of, is_known, known}
use Rattle.fuse_nodes.specs.Runs.{StaysItself, after_all}

-- ---- one number

-- what holds of what was known of n and of what f makes of it holds of what is known of n after a change by f
pub at_change : (P : Known → Type 0) (f : Known → Known) (k n : ℕ) (t : Table) → P (known t n) → P (f (known t n)) → P (known (change f k t) n)
at_change P f k n t same changed = elim (cases_lt n k) [
  | inl low ↦ subst P (sym (get_or-set_other t k n (f (known t k)) fresh (λ e. omega arith))) same
  | inr high ↦ elim (cases_lt k n) [
    | inl low ↦ subst P (sym (get_or-set_other t k n (f (known t k)) fresh (λ e. omega arith))) same
    | inr low ↦
        let e : n ≡ k = omega arith in
        elim (cases_lt k (length t)) [
          | inl within ↦ subst P (sym (ap (known (change f k t)) e ∙ get_or-set_same t k (f (known t k)) fresh within ∙ ap (λ i. f (known t i)) (sym e))) changed
          | inr past ↦
              let out : length t ≤ n = omega arith in
              let beyond : known (change f k t) n ≡ fresh = get_or_past (change f k t) n fresh (omega (arith, length-set t k (f (known t k)))) in
              subst P (get_or_past t n fresh out ∙ sym beyond) same
        ]
  ]
]

at_choice : (P : Known → Type 0) (b : Bool) (x y : Table) (n : ℕ) → P (known x n) → P (known y n) → P (known (cond b x y) n)
at_choice P true x y n p q = p
at_choice P false x y n p q = q

forgot-generation : (n : ℕ) (k : Known) → (forgot n k).generation ≡ k.generation
forgot-generation n k = by (leb k.lookups n)
  where
    by : (b : Bool) → (cond b (record k { lookups = 0; names = [] }) (record k { lookups = k.lookups - n })).generation ≡ k.generation
    by true = refl
    by false = refl

-- ---- one event

-- The generation is at least g, and no more than the last.
record IsFrom (g : ℕ) (k : Known) : Type 0 where
  pub least : g ≤ k.generation
  pub most : k.generation ≤ 4294967295

from_born : (g : ℕ) (k : Known) → IsFrom g k → IsFrom g (born_again k)
from_born g k h = elim (cases_lt k.generation 4294967295) [
  | inl low ↦ let e : min (k.generation + 1) 4294967295 ≡ k.generation + 1 = min-eq_left (omega arith) in record { least = omega (arith, e, h.least); most = min-le_right (k.generation + 1) 4294967295 }
  | inr high ↦ let e : min (k.generation + 1) 4294967295 ≡ 4294967295 = min-eq_right (omega arith) in record { least = omega (arith, e, h.least, h.most); most = min-le_right (k.generation + 1) 4294967295 }
]

from_same : (g : ℕ) (k l : Known) → l.generation ≡ k.generation → IsFrom g k → IsFrom g l
from_same g k l e h = record { least = omega (arith, h.least); most = omega (arith, h.most) }

from_event : (event : Event) (g n : ℕ) (t : Table) → IsFrom g (known t n) → IsFrom g (known (after event t) n)
from_event (Told number name) g n t h = at_change (IsFrom g) (told_once name) number n t h (from_same g (known t n) (told_once name (known t n)) refl h)
from_event (Born number) g n t h = at_change (IsFrom g) born_again number n t h (from_born g (known t n) h)
from_event (Forgot id lookups) g n t h =
    at_choice (IsFrom g) (is_known (id / 2 ^ 32) (known t (id % 2 ^ 32))) (change (forgot lookups) (id % 2 ^ 32) t) t n
    (at_change (IsFrom g) (forgot lookups) (id % 2 ^ 32) n t h (from_same g (known t n) (forgot lookups (known t n)) (forgot-generation lookups (known t n)) h))
    h
from_event (Got number name) g n t h = at_change (IsFrom g) (with_its_name name) number n t h (from_same g (known t n) (with_its_name name (known t n)) refl h)
from_event (Lost number name) g n t h = at_change (IsFrom g) (without_its_name name) number n t h (from_same g (known t n) (without_its_name name (known t n)) refl h)
from_event (Opened number handle) g n t h = at_change (IsFrom g) (opened_once handle) number n t h (from_same g (known t n) (opened_once handle (known t n)) refl h)
from_event (Closed number) g n t h = at_change (IsFrom g) closed_once number n t h (from_same g (known t n) (closed_once (known t n)) refl h)

length-choice : (b : Bool) (x y : Table) (n : ℕ) → length x ≡ n → length y ≡ n → length (cond b x y) ≡ n
length-choice true x y n p q = p
length-choice false x y n p q = q

length-after : (event : Event) (t : Table) → length (after event t) ≡ length t
length-after (Told number name) t = length-set t number (told_once name (known t number))
length-after (Born number) t = length-set t number (born_again (known t number))
length-after (Forgot id lookups) t =
    length-choice (is_known (id / 2 ^ 32) (known t (id % 2 ^ 32))) (change (forgot lookups) (id % 2 ^ 32) t) t (length t)
    (length-set t (id % 2 ^ 32) (forgot lookups (known t (id % 2 ^ 32)))) refl
length-after (Got number name) t = length-set t number (with_its_name name (known t number))
length-after (Lost number name) t = length-set t number (without_its_name name (known t number))
length-after (Opened number handle) t = length-set t number (opened_once handle (known t number))
length-after (Closed number) t = length-set t number (closed_once (known t number))

-- ---- many events

from_all : (events : List Event) (g n : ℕ) (t : Table) → IsFrom g (known t n) → IsFrom g (known (after_all events t) n)
from_all [] g n t h = h
from_all (event ∷ events) g n t h = from_all events g n (after event t) (from_event event g n t h)

-- a birth raises the generation
from_birth : (n : ℕ) (t : Table) → n < length t → (known t n).generation < 4294967295 → IsFrom ((known t n).generation + 1) (known (after (Born n) t) n)
from_birth n t within low =
    subst (IsFrom ((known t n).generation + 1)) (sym (get_or-set_same t n (born_again (known t n)) fresh within))
    (let e : min ((known t n).generation + 1) 4294967295 ≡ (known t n).generation + 1 = min-eq_left (omega arith) in
    record { least = omega (arith, e); most = min-le_right ((known t n).generation + 1) 4294967295 })

stays : (events : List Event) (n : ℕ) (t : Table) → n < length t → (known t n).generation < 4294967295 → (known (after_all events t) n).generation ≡ (known t n).generation
    → StaysItself n events
stays [] n t within low e = tt
stays (event ∷ events) n t within low e =
    let once : IsFrom (known t n).generation (known (after event t) n) = from_event event (known t n).generation n t (record { least = omega arith; most = omega (arith, low) }) in
    let rest : IsFrom (known (after event t) n).generation (known (after_all events (after event t)) n) =
    from_all events (known (after event t) n).generation n (after event t) (record { least = omega arith; most = once.most }) in
    let g : (known (after event t) n).generation ≡ (known t n).generation = omega (arith, once.least, rest.least, e) in (
      λ (q : event ≡ Born n).
          let birth : IsFrom ((known t n).generation + 1) (known (after event t) n) = subst (λ b. IsFrom ((known t n).generation + 1) (known (after b t) n)) (sym q) (from_birth n t within low) in
          omega (arith, birth.least, g),
      stays events n (after event t) (omega (arith, length-after event t)) (omega (arith, g, low)) (e ∙ sym g),
    )

-- ---- the law

pub both : (a b : Bool) → (a && b) ≡ true → a ≡ true
both true b e = refl
both false b e = absurd cc

pub leads : (t : Table) (number m : ℕ) (events : List Event) → 2 < number → number < length t → length t ≤ 2 ^ 32 → (known t number).generation < 2 ^ 32 - 1
    → found (after_all events t) (id_of t number) ≡ Some m → (m ≡ number) × StaysItself number events
leads t number m events no_root within small low e =
    let g = (known t number).generation in
    let last = after_all events t in
    let below : number < 2 ^ 32 = omega arith in
    let no_one : eqb (id_of t number) 1 ≡ false = ne_eqb (id_of t number) 1 (λ q. omega (arith, q)) in
    let inner : found_known last (id_of t number) ≡ Some m = sym (ap (λ b. cond b (Some 2) (found_known last (id_of t number))) no_one) ∙ e in
    let high : id_of t number / 2 ^ 32 ≡ g = shr_high g 32 number below in
    let rest : id_of t number % 2 ^ 32 ≡ number = mod_low g 32 number below in
    let split = cond_some (is_known (id_of t number / 2 ^ 32) (known last (id_of t number % 2 ^ 32))) (id_of t number % 2 ^ 32) m inner in
    let same : (known last (id_of t number % 2 ^ 32)).generation ≡ id_of t number / 2 ^ 32 = eqb-true _ _ (both _ _ split.0) in
    let now : (known last number).generation ≡ g = ap (λ i. (known last i).generation) (sym rest) ∙ same ∙ high in
    (sym split.1 ∙ rest, stays events number t within low now)
