-- What holds between the rounds of a shared walk, and once all seats are back.
use Rattle.std.proofs.Common.{◌≡◌, ℕ, zero, suc, ◌+◌, ◌<◌, ◌≤◌, Bool, true, false, cond, eqb, List, [], ◌∷◌, map, length, Contains, Some, slice_get, All, refl, sym, ap, ◌∙◌, subst, arith, inl, inr, ◌⊎◌, IsTrue, IsFalse}
use Rattle.std.proofs.lemmas.Bool.{and_parts, cases_lt, cases_Bool}
use Rattle.std.proofs.lemmas.Map.Keys.{sorted_from_strictly_increasing}
use Rattle.std.proofs.lemmas.Option.{slice_get_within, get_or_from_slice_get}
use Rattle.std.specs.List.Sorted.{IsStrictlyIncreasing}
use Rattle.findings.proofs.Sorted.{Contains-here, Contains-cases, Contains-none}
use Rattle.claims.specs.Counting.{one_if, times, total}
use Rattle.claims.specs.Seats.{Claimed, Seated, AreBack, all_taken, all_met}
use Rattle.claims.proofs.CountLemmas.{sum_below, lengths-by_times}
use Rattle.model.specs.Layout.{Geometry, inode_count, is_number, root}
use Rattle.model.specs.View.{View}
use Rattle.model.specs.Uses.{is_sound, is_sound_at, is_directory_at}
use Rattle.model.specs.Named.{named_from}
use Rattle.model.specs.Reach.{IsReachable}
use Rattle.model.specs.Reached.{AreReached}
use Rattle.model.proofs.NamedLemmas.{named_are_names}
use Rattle.model.proofs.ReachLemmas.{entry_reached, IsClosed, closed_reachable, reachable_sound}
use Rattle.model.proofs.SlotLemmas.{number_below, directory_number}
use Rattle.connectivity.specs.Asked.{all_told, all_given, opening_round, claimed, IsFollowed, HaveAsked, IsSharedWalk, HasWalked}
use Rattle.connectivity.proofs.FlatLemmas.{contains_times, times_contains, total-has, total-map}

-- ---- sums
total-plus : {X : Type 0} (f g : X → ℕ) (xs : List X) → total (λ x. f x + g x) xs ≡ total f xs + total g xs
total-plus f g [] = refl
total-plus f g (x ∷ xs) = let rest = total-plus f g xs in omega arith

sum_most : (f : ℕ → ℕ) (m : ℕ) → ((x : ℕ) → f x ≤ 1) → sum_below f m ≤ m
sum_most f zero most = omega arith
sum_most f (suc m) most = let rest = sum_most f m most in let here = most m in omega arith

-- where each number is claimed once at most, there are no more of them than numbers
few_given : (m : ℕ) (opening : List ℕ) (seats : List Seated) → ((n : ℕ) → claimed opening seats n ≤ 1) → ((n : ℕ) → 0 < claimed opening seats n → n < m) → length opening + all_given seats ≤ m
few_given m opening seats once low =
    let lists : List (List ℕ) = map (λ (s : Seated). s.taken) seats in
    let same : (n : ℕ) → total (λ (xs : List ℕ). times n xs) (opening ∷ lists) ≡ claimed opening seats n = λ n. ap (λ t. times n opening + t) (total-map (λ (xs : List ℕ). times n xs) (λ (s : Seated). s.taken) seats) in
    let sums : sum_below (λ n. total (λ (xs : List ℕ). times n xs) (opening ∷ lists)) m ≡ length opening + total (λ (xs : List ℕ). length xs) lists =
    lengths-by_times (λ (xs : List ℕ). xs) (opening ∷ lists) m (λ n above. elim (cases_lt 0 (claimed opening seats n)) [
      | inl stands ↦ (let less = low n stands in absurd (omega arith))
      | inr lacks ↦ (let e = same n in omega arith)
    ]) in
    let most = sum_most (λ n. total (λ (xs : List ℕ). times n xs) (opening ∷ lists)) m (λ n. (let e = same n in let o = once n in omega arith)) in
    let long = total-map (λ (xs : List ℕ). length xs) (λ (s : Seated). s.taken) seats in
    omega arith

-- ---- new seats
pub all_at : {X : Type 0} (P : X → Type 0) (xs : List X) → All P xs → (w : ℕ) (x : X) → slice_get xs w ≡ Some x → P x
all_at P xs all w x h = subst P (get_or_from_slice_get xs w x x h) (all w x (slice_get_within xs w x h))

nothing_taken : (new : Seated) (seats : List Seated) → new.taken ≡ [] → All (λ (s : Seated). s ≡ new) seats → (i : ℕ) → all_taken seats i ≡ 0
nothing_taken new seats none fresh i = elim (cases_lt 0 (all_taken seats i)) [
  | inl stands ↦ (
      let has = total-has (λ (s : Seated). times i s.taken) seats stands in
      let same = all_at (λ (s : Seated). s ≡ new) seats fresh has.0 has.1 has.2 in
      absurd (nothing (times i has.1.taken) has.3 (ap (λ (s : Seated). times i s.taken) same ∙ ap (times i) none))
      )
  | inr lacks ↦ omega arith
]
  where
    nothing : (n : ℕ) → 0 < n → n ≡ 0 → ⊥
    nothing n stands lacks = omega arith

some_or_none : (xs : List ℕ) → (xs ≡ []) ⊎ (0 < length xs)
some_or_none [] = inl refl
some_or_none (x ∷ xs) = inr (omega arith)

module _ (geo : Geometry) (view : View) where
  -- ---- before the first round
  start_root : (seats : List Seated) → ((i : ℕ) → all_taken seats i ≡ 0) → IsTrue (is_directory_at geo view root) → IsSharedWalk geo view (root ∷ []) seats (root ∷ []) 0
  start_root seats none dir = record {
    reachable = λ i stands. inl (0, (sym (is_root i (in_opening i stands)), dir));
    followed = λ d stands t. inl (in_opening d stands);
    to_follow = λ d c. (subst (λ z. IsTrue (is_directory_at geo view z)) (is_root d c) dir, (let there = contains_times d (root ∷ []) c in omega arith));
    progress = inr (omega arith);
  }
    where
      is_root : (i : ℕ) → Contains (root ∷ []) i → root ≡ i
      is_root i c = elim (Contains-cases root [] i c) [ inl e ↦ e | inr k ↦ absurd (Contains-none i k) ]

      in_opening : (i : ℕ) → 0 < claimed (root ∷ []) seats i → Contains (root ∷ []) i
      in_opening i stands = times_contains i (root ∷ []) (let e = none i in omega arith)

  start_nothing : (seats : List Seated) → ((i : ℕ) → all_taken seats i ≡ 0) → IsSharedWalk geo view [] seats [] 0
  start_nothing seats none = record {
    reachable = λ i stands. absurd (nowhere i stands);
    followed = λ d stands t. absurd (nowhere d stands);
    to_follow = λ d c. absurd (Contains-none d c);
    progress = inl refl;
  }
    where
      nowhere : (i : ℕ) → 0 < claimed [] seats i → ⊥
      nowhere i stands = let e = none i in omega arith

  pub opening_yes : IsTrue (is_directory_at geo view root) → opening_round geo view ≡ root ∷ []
  opening_yes t = ap (λ b. cond b (root ∷ []) []) t

  pub opening_no : IsFalse (is_directory_at geo view root) → opening_round geo view ≡ []
  opening_no f = ap (λ b. cond b (root ∷ []) []) f

  pub walk_start : (new : Seated) (opening round : List ℕ) (seats : List Seated) → new.taken ≡ [] → All (λ (s : Seated). s ≡ new) seats
      → opening ≡ opening_round geo view → round ≡ opening_round geo view → IsSharedWalk geo view opening seats round 0
  walk_start new opening round seats none fresh o r =
      let first : IsSharedWalk geo view (opening_round geo view) seats (opening_round geo view) 0 = elim (cases_Bool (is_directory_at geo view root)) [
        | inl t ↦ subst (λ (xs : List ℕ). IsSharedWalk geo view xs seats xs 0) (sym (opening_yes t)) (start_root seats (nothing_taken new seats none fresh) t)
        | inr f ↦ subst (λ (xs : List ℕ). IsSharedWalk geo view xs seats xs 0) (sym (opening_no f)) (start_nothing seats (nothing_taken new seats none fresh))
      ] in
      subst (λ (xs : List ℕ). IsSharedWalk geo view xs seats round 0) (sym o) (subst (λ (xs : List ℕ). IsSharedWalk geo view (opening_round geo view) seats xs 0) (sym r) first)

  -- what is claimed from the start is a number of the volume, once
  pub opening_low : (n : ℕ) → 0 < times n (opening_round geo view) → n < inode_count geo
  opening_low n stands = elim (cases_Bool (is_directory_at geo view root)) [
    | inl t ↦ (
        let c = times_contains n (root ∷ []) (subst (λ (xs : List ℕ). 0 < times n xs) (opening_yes t) stands) in
        elim (Contains-cases root [] n c) [
          | inl e ↦ subst (λ (m : ℕ). m < inode_count geo) e (number_below geo root (directory_number geo view root t))
          | inr none ↦ absurd (Contains-none n none)
        ]
        )
    | inr f ↦ absurd (let stands' = subst (λ (xs : List ℕ). 0 < times n xs) (opening_no f) stands in omega arith)
  ]

  pub opening_once : (n : ℕ) → times n (opening_round geo view) ≤ 1
  opening_once n = elim (cases_Bool (is_directory_at geo view root)) [
    | inl t ↦ subst (λ (xs : List ℕ). times n xs ≤ 1) (sym (opening_yes t)) (at_most_one (eqb root n))
    | inr f ↦ subst (λ (xs : List ℕ). times n xs ≤ 1) (sym (opening_no f)) (omega arith)
  ]
    where
      at_most_one : (b : Bool) → one_if b + 0 ≤ 1
      at_most_one true = omega arith
      at_most_one false = omega arith

  -- ---- one round
  module _ (opening : List ℕ) (seats : List Seated) (round : List ℕ) (rounds : ℕ) (walk : IsSharedWalk geo view opening seats round rounds)
      (after : List Seated) (found : List ℕ) (asked : HaveAsked geo view round seats after found) where
    -- an inode that is claimed was so before, or the round gave it to a seat
    old_or_new : (i : ℕ) → 0 < claimed opening after i → (0 < claimed opening seats i) ⊎ (0 < all_taken after i)
    old_or_new i stands = elim (cases_lt 0 (all_taken after i)) [
      | inl given ↦ inr given
      | inr lacks ↦ inl (omega arith)
    ]

    still : (i : ℕ) → 0 < all_taken seats i → 0 < claimed opening seats i
    still i stands = omega arith

    reached_by : (d i : ℕ) → Contains round d → Contains (named_from geo view 2 d) i → IsTrue (is_sound_at geo view i) → IsReachable geo view i
    reached_by d i c n t =
        let there = walk.to_follow d c in
        let entry = (named_are_names geo view d 2 i).0 n in
        entry_reached geo view d entry.0 i (walk.reachable d there.1) there.0 entry.1 entry.2 t

    followed_before : (d : ℕ) → 0 < claimed opening seats d → IsTrue (is_directory_at geo view d) → IsFollowed geo view after d
    followed_before d stands t = elim (walk.followed d stands t) [
      | inl here ↦ λ i n s. asked.told_now d i here n s
      | inr all ↦ λ i n s. asked.told_before i (all i n s)
    ]

    pub walk_round : 0 < length round → IsSharedWalk geo view opening after found (rounds + 1)
    walk_round some_round = record {
      reachable = λ i stands. elim (old_or_new i stands) [
        | inl old ↦ walk.reachable i old
        | inr given ↦ elim (asked.taken_now i given) [
          | inl old ↦ walk.reachable i (still i old)
          | inr v ↦ reached_by v.0 i v.1 v.2 v.3
        ]
      ];
      followed = λ d stands t. elim (old_or_new d stands) [
        | inl old ↦ inr (followed_before d old t)
        | inr given ↦ elim (asked.directories d given t) [
          | inl old ↦ inr (followed_before d (still d old) t)
          | inr here ↦ inl here
        ]
      ];
      to_follow = λ d c. (let f = asked.found_now d c in (f.0, (let given = f.1 in omega arith)));
      progress = elim (some_or_none found) [
        | inl none ↦ inl none
        | inr more ↦ inr (elim walk.progress [
          | inl none ↦ (let e = ap length none in absurd (omega arith))
          | inr less ↦ (let count = asked.count in omega arith)
        ])
      ];
    }

  -- ---- after the last round
  pub walk_ended : (opening : List ℕ) (seats : List Seated) (round : List ℕ) (rounds : ℕ) → IsSharedWalk geo view opening seats round rounds
      → (round ≡ []) ⊎ (inode_count geo ≤ rounds) → HasWalked geo view opening seats
  walk_ended opening seats round rounds walk ended = record {
    reachable = walk.reachable;
    followed = λ few d stands t. elim (walk.followed d stands t) [
      | inl here ↦ absurd (Contains-none d (subst (λ (r : List ℕ). Contains r d) (no_round few) here))
      | inr all ↦ all
    ];
  }
    where
      no_round : length opening + all_given seats ≤ inode_count geo → round ≡ []
      no_round few = elim ended [
        | inl none ↦ none
        | inr late ↦ elim walk.progress [
          | inl none ↦ none
          | inr less ↦ absurd (omega arith)
        ]
      ]

  -- ---- once all seats are back
  module _ (all : Claimed) (seats : List Seated) (back : AreBack all seats) (walked : HasWalked geo view all.opening seats) where
    few : length all.opening + all_given seats ≤ inode_count geo
    few = few_given (inode_count geo) all.opening seats back.once
        (λ n stands. number_below geo n (and_parts (is_number geo n) (is_sound geo (view.inode n)) (reachable_sound geo view n (walked.reachable n stands))).0)

    told_claimed : (i : ℕ) → 0 < all_told seats i → 0 < claimed all.opening seats i
    told_claimed i stands =
        let both = total-plus (λ (s : Seated). times i s.taken) (λ (s : Seated). times i s.met) seats in
        elim (cases_lt 0 (all_met seats i)) [
          | inl met ↦ (let one = back.refused i met in omega arith)
          | inr lacks ↦ omega arith
        ]

    pub walk_reached : (marked : List ℕ) → IsStrictlyIncreasing marked → ((n : ℕ) → times n marked ≡ claimed all.opening seats n)
        → (IsTrue (is_directory_at geo view root) → all.opening ≡ root ∷ []) → AreReached geo view marked
    walk_reached marked rising is at_root = record {
      in_order = sorted_from_strictly_increasing marked rising;
      exactly = λ i. (
        (λ c. walked.reachable i (claimed_of i c)),
        closed_reachable geo view (λ j. Contains marked j) closed i,
      );
    }
      where
        claimed_of : (i : ℕ) → Contains marked i → 0 < claimed all.opening seats i
        claimed_of i c = subst (λ (n : ℕ). 0 < n) (is i) (contains_times i marked c)

        marked_of : (i : ℕ) → 0 < claimed all.opening seats i → Contains marked i
        marked_of i stands = times_contains i marked (subst (λ (n : ℕ). 0 < n) (sym (is i)) stands)

        opened : (o : List ℕ) → o ≡ root ∷ [] → 0 < times root o
        opened o e = contains_times root o (subst (λ (r : List ℕ). Contains r root) (sym e) (Contains-here root []))

        closed : IsClosed geo view (λ j. Contains marked j)
        closed = record {
          at_root = λ t. marked_of root (let there = opened all.opening (at_root t) in omega arith);
          at_entries = λ d s i c t after names sound. marked_of i (told_claimed i (walked.followed few d (claimed_of d c) t i ((named_are_names geo view d 2 i).1 (s, after, names)) sound));
        }
