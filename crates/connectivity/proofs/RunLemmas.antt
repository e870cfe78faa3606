-- What the seats of all workers were told in a round.
use Rattle.std.proofs.Common.{◌≡◌, ℕ, suc, ◌+◌, ◌<◌, ◌≤◌, cond, List, [], ◌∷◌, map, length, Contains, Option, None, Some, slice_get, refl, sym, ap, ◌∙◌, subst, arith, inl, inr, IsTrue, All, length-append}
use Rattle.std.proofs.lemmas.List.{length-map}
use Rattle.std.specs.Option.{option_map_or}
use Rattle.std.proofs.lemmas.Bool.{cases_Bool}
use Rattle.std.proofs.lemmas.Option.{slice_get_within, get_or_from_slice_get}
use Rattle.std.specs.List.{flat_map}
use Rattle.findings.proofs.Sorted.{Contains-none}
use Rattle.claims.specs.Counting.{times, total}
use Rattle.claims.specs.Seats.{Claimed, Seated}
use Rattle.frozen.specs.Kept.{Kept, frozen_view}
use Rattle.model.specs.Layout.{Geometry, inode_count}
use Rattle.model.specs.View.{View}
use Rattle.model.specs.Uses.{is_sound_at}
use Rattle.model.specs.Named.{named_from}
use Rattle.directories.specs.declared.cutting.Piece.{Piece}
use Rattle.directories.specs.Pieces.{AreCut, in_piece}
use Rattle.directories.proofs.PieceLemmas.{piece_of}
use Rattle.workers.specs.Turns.{AreDone, Runs, calls_of}
use Rattle.workers.proofs.EveryPart.{in_calls}
use Rattle.connectivity.specs.Asked.{Asks, HaveAsked, Round, asked_of, entries_in, round_in, told}
use Rattle.connectivity.proofs.AskLemmas.{asks_none, asks_append}
use Rattle.connectivity.proofs.FlatLemmas.{from_flat, to_flat, at_contains, contains_at, total-has, total-some, total-map, place-is}

module _ (geo : Geometry) (view : View) where
  -- a directory's entries are those of its own piece
  entries_here : (piece : Piece) (d : ℕ) → IsTrue (in_piece piece d) → entries_in geo view piece d ≡ named_from geo view 2 d
  entries_here piece d is = ap (λ b. cond b (named_from geo view 2 d) []) is

  entries_from : (piece : Piece) (d i : ℕ) → Contains (entries_in geo view piece d) i → Contains (named_from geo view 2 d) i
  entries_from piece d i c = elim (cases_Bool (in_piece piece d)) [
    | inl t ↦ subst (λ xs. Contains xs i) (ap (λ b. cond b (named_from geo view 2 d) []) t) c
    | inr f ↦ absurd (Contains-none i (subst (λ xs. Contains xs i) (ap (λ b. cond b (named_from geo view 2 d) []) f) c))
  ]

  -- what is asked for in a unit, a directory of the round names
  pub asked_from : (round : Round) (unit i : ℕ) → Contains (asked_of geo view round unit) i → (d : ℕ) × Contains round.0 d × Contains (named_from geo view 2 d) i
  asked_from round unit i = go (slice_get round.1 unit)
    where
      go : (o : Option Piece) → Contains (option_map_or (λ piece. round_in geo view round.0 piece) o []) i → (d : ℕ) × Contains round.0 d × Contains (named_from geo view 2 d) i
      go None c = absurd (Contains-none i c)
      go (Some piece) c = let d = from_flat (entries_in geo view piece) round.0 i c in (d.0, d.1, entries_from piece d.0 i d.2)

  asked_has : (round : Round) (unit : ℕ) (piece : Piece) → slice_get round.1 unit ≡ Some piece → (d i : ℕ) → IsTrue (in_piece piece d) → Contains round.0 d → Contains (named_from geo view 2 d) i
      → Contains (asked_of geo view round unit) i
  asked_has round unit piece at d i is c n =
      subst (λ o. Contains (option_map_or (λ q. round_in geo view round.0 q) o []) i) (sym at)
      (to_flat (entries_in geo view piece) round.0 d i c (subst (λ xs. Contains xs i) (sym (entries_here piece d is)) n))

  -- and what a directory of the round names is asked for in some unit
  pub asked_somewhere : (round : Round) → AreCut 0 round.1 (inode_count geo) → (d i : ℕ) → d < inode_count geo → Contains round.0 d → Contains (named_from geo view 2 d) i
      → (unit : ℕ) × (unit < length round.1) × Contains (asked_of geo view round unit) i
  asked_somewhere round cut d i low c n =
      let found = piece_of 0 round.1 (inode_count geo) cut d (omega arith) low in
      (found.0, slice_get_within round.1 found.0 found.1 found.2, asked_has round found.0 found.1 found.2 d i found.3 c n)

module _ {C P : Type 0} (claims_of : C → Claimed) (kept_of : C → Kept) (round_of : C → Round) (seat_of : C → Seated) (found_of : C → List ℕ) where
  -- what a worker makes of a unit
  abbrev pub Gave : C → ℕ → P → C → Type 0
  Gave before unit part after = (claims_of after ≡ claims_of before) × (kept_of after ≡ kept_of before) × (round_of after ≡ round_of before)
      × Asks (kept_of before).geometry (frozen_view (kept_of before)) (asked_of (kept_of before).geometry (frozen_view (kept_of before)) (round_of before) unit)
      (seat_of before) (found_of before) (seat_of after) (found_of after)

  pub runs_claims : (before : C) (calls : List (ℕ × P)) (after : C) → Runs Gave before calls after → claims_of after ≡ claims_of before
  runs_claims before [] after runs = ap claims_of (sym runs)
  runs_claims before (call ∷ calls) after runs = runs_claims runs.0 calls after runs.2 ∙ runs.1.0

  module _ (units : ℕ) (befores : List C) (parts : List P) (afters : List C) (done : AreDone Gave units befores parts afters) (claims : Claimed)
      (same : (w : ℕ) (before : C) → slice_get befores w ≡ Some before → claims_of before ≡ claims) (own : (after : C) → (seat_of after).of ≡ (claims_of after).id) where
    -- the seats that come back are those of the claims that went in
    pub after_own : All (λ (c : C). (seat_of c).of ≡ claims.id) afters
    after_own k d within =
        let before = place-is befores k (subst (λ (n : ℕ). k < n) done.workers within) in
        let after = place-is afters k within in
        let claims_are = runs_claims before.0 (calls_of done.dealt k parts) after.0 (done.each k before.0 after.0 before.1 after.1) ∙ same k before.0 before.1 in
        subst (λ (c : C). (seat_of c).of ≡ claims.id) (sym (get_or_from_slice_get afters k after.0 d after.1)) (own after.0 ∙ ap (λ (q : Claimed). q.id) claims_are)

  module _ (kept : Kept) (round : Round) where
    -- what the directories of a worker's units name
    abbrev asked_in : List (ℕ × P) → List ℕ
    asked_in calls = flat_map (λ call. asked_of kept.geometry (frozen_view kept) round call.0) calls

    -- its questions of all its units
    runs_ask : (before : C) (calls : List (ℕ × P)) (after : C) → kept_of before ≡ kept → round_of before ≡ round → Runs Gave before calls after
        → Asks kept.geometry (frozen_view kept) (asked_in calls) (seat_of before) (found_of before) (seat_of after) (found_of after)
    runs_ask before [] after k r runs = subst (λ (c : C). Asks kept.geometry (frozen_view kept) [] (seat_of before) (found_of before) (seat_of c) (found_of c)) runs (asks_none kept.geometry (frozen_view kept) (seat_of before) (found_of before))
    runs_ask before (call ∷ calls) after k r runs =
        let next = runs.0 in
        let here : Asks kept.geometry (frozen_view kept) (asked_of kept.geometry (frozen_view kept) round call.0) (seat_of before) (found_of before) (seat_of next) (found_of next) =
        subst (λ (ds : Round). Asks kept.geometry (frozen_view kept) (asked_of kept.geometry (frozen_view kept) ds call.0) (seat_of before) (found_of before) (seat_of next) (found_of next)) r
        (subst (λ (one : Kept). Asks one.geometry (frozen_view one) (asked_of one.geometry (frozen_view one) (round_of before) call.0) (seat_of before) (found_of before) (seat_of next) (found_of next)) k runs.1.3) in
        asks_append kept.geometry (frozen_view kept) (asked_of kept.geometry (frozen_view kept) round call.0) (asked_in calls) (seat_of before) (found_of before) (seat_of next) (found_of next) (seat_of after) (found_of after) here
        (runs_ask next calls after (runs.1.1 ∙ k) (runs.1.2 ∙ r) runs.2)

    module _ (units : ℕ) (befores : List C) (parts : List P) (afters : List C) (done : AreDone Gave units befores parts afters)
        (alike : (w : ℕ) (before : C) → slice_get befores w ≡ Some before → (kept_of before ≡ kept) × (round_of before ≡ round) × (found_of before ≡ [])) where
      -- one worker's questions
      of_one : (w : ℕ) (before after : C) → slice_get befores w ≡ Some before → slice_get afters w ≡ Some after
          → Asks kept.geometry (frozen_view kept) (asked_in (calls_of done.dealt w parts)) (seat_of before) [] (seat_of after) (found_of after)
      of_one w before after h k =
          let same = alike w before h in
          subst (λ (f : List ℕ). Asks kept.geometry (frozen_view kept) (asked_in (calls_of done.dealt w parts)) (seat_of before) f (seat_of after) (found_of after)) same.2
          (runs_ask before (calls_of done.dealt w parts) after same.0 same.1 (done.each w before after h k))

      before_at : (w : ℕ) (after : C) → slice_get afters w ≡ Some after → (before : C) × (slice_get befores w ≡ Some before)
      before_at w after k = place-is befores w (subst (λ (n : ℕ). w < n) done.workers (slice_get_within afters w after k))

      after_at : (w : ℕ) (before : C) → slice_get befores w ≡ Some before → (after : C) × (slice_get afters w ≡ Some after)
      after_at w before h = place-is afters w (subst (λ (n : ℕ). w < n) (sym done.workers) (slice_get_within befores w before h))

      -- what holds of some worker before holds of some worker after
      goes_on : (f g : Seated → ℕ) → ((w : ℕ) (before after : C) → slice_get befores w ≡ Some before → slice_get afters w ≡ Some after → 0 < f (seat_of before) → 0 < g (seat_of after))
          → 0 < total (λ c. f (seat_of c)) befores → 0 < total (λ c. g (seat_of c)) afters
      goes_on f g each stands =
          let has = total-has (λ c. f (seat_of c)) befores stands in
          let after = after_at has.0 has.1 has.2 in
          total-some (λ c. g (seat_of c)) afters has.0 after.0 after.1 (each has.0 has.1 after.0 has.2 after.1 has.3)

      -- an inode that a directory of a unit names is told to the worker who drew the unit
      told_of_unit : (unit i : ℕ) → unit < units → Contains (asked_of kept.geometry (frozen_view kept) round unit) i → IsTrue (is_sound_at kept.geometry (frozen_view kept) i) → 0 < total (λ c. told i (seat_of c)) afters
      told_of_unit unit i below c t =
          let w = done.dealt unit in
          let before = place-is befores w (done.to_one unit below) in
          let after = after_at w before.0 before.1 in
          let part = place-is parts unit (subst (λ (n : ℕ). unit < n) (sym done.count) below) in
          let call = in_calls done.dealt parts unit part.0 part.1 in
          let asked = to_flat (λ (call : ℕ × P). asked_of kept.geometry (frozen_view kept) round call.0) (calls_of done.dealt w parts) (unit, part.0) i (at_contains (calls_of done.dealt w parts) call.0 (unit, part.0) call.1) c in
          total-some (λ c. told i (seat_of c)) afters w after.0 after.1 ((of_one w before.0 after.0 before.1 after.1).told_now i asked t)

      -- the counts of two lists of workers, place by place
      counted : (xs ys : List C) → length ys ≡ length xs
          → ((w : ℕ) (x y : C) → slice_get xs w ≡ Some x → slice_get ys w ≡ Some y → length (found_of y) + length (seat_of x).taken ≤ length (seat_of y).taken)
          → length (flat_map found_of ys) + total (λ c. length (seat_of c).taken) xs ≤ total (λ c. length (seat_of c).taken) ys
      counted [] [] same each = omega arith
      counted [] (y ∷ ys) same each = absurd (omega arith)
      counted (x ∷ xs) [] same each = absurd (omega arith)
      counted (x ∷ xs) (y ∷ ys) same each =
          let here = each 0 x y refl refl in
          let rest = counted xs ys (omega arith) (λ w a b h k. each (suc w) a b h k) in
          let long = length-append (found_of y) (flat_map found_of ys) in
          omega arith

      -- all of it, of the seats
      pub all_asked : ((d i : ℕ) → Contains round.0 d → Contains (named_from kept.geometry (frozen_view kept) 2 d) i
          → (unit : ℕ) × (unit < units) × Contains (asked_of kept.geometry (frozen_view kept) round unit) i)
          → HaveAsked kept.geometry (frozen_view kept) round.0 (map seat_of befores) (map seat_of afters) (flat_map found_of afters)
      all_asked has_unit = record {
        seats = length-map afters seat_of ∙ done.workers ∙ sym (length-map befores seat_of);
        told_before = λ i stands. back (told i) afters (goes_on (told i) (told i) (λ w b a h k s. (of_one w b a h k).told_before i s) (forth (told i) befores stands));
        told_now = λ d i c n t. (let unit = has_unit d i c n in back (told i) afters (told_of_unit unit.0 i unit.1 unit.2 t));
        taken_now = λ i stands.
            let has = total-has (λ c. times i (seat_of c).taken) afters (forth (λ s. times i s.taken) afters stands) in
            let before = before_at has.0 has.1 has.2 in
            elim ((of_one has.0 before.0 has.1 before.1 has.2).taken_now i has.3) [
              | inl old ↦ inl (back (λ s. times i s.taken) befores (total-some (λ c. times i (seat_of c).taken) befores has.0 before.0 before.1 old))
              | inr v ↦ (
                  let call = from_flat (λ (call : ℕ × P). asked_of kept.geometry (frozen_view kept) round call.0) (calls_of done.dealt has.0 parts) i v.0 in
                  let d = asked_from kept.geometry (frozen_view kept) round call.0.0 i call.2 in
                  inr (d.0, d.1, d.2, v.1)
                  )
            ];
        found_now = λ d c.
            let one = from_flat found_of afters d c in
            let place = contains_at afters one.0 one.1 in
            let before = before_at place.0 one.0 place.1 in
            elim ((of_one place.0 before.0 one.0 before.1 place.1).found_now d one.2) [
              | inl none ↦ absurd (Contains-none d none)
              | inr v ↦ (v.0, back (λ s. times d s.taken) afters (total-some (λ c. times d (seat_of c).taken) afters place.0 one.0 place.1 v.1))
            ];
        directories = λ d stands t.
            let has = total-has (λ c. times d (seat_of c).taken) afters (forth (λ s. times d s.taken) afters stands) in
            let before = before_at has.0 has.1 has.2 in
            elim ((of_one has.0 before.0 has.1 before.1 has.2).directories d has.3 t) [
              | inl old ↦ inl (back (λ s. times d s.taken) befores (total-some (λ c. times d (seat_of c).taken) befores has.0 before.0 before.1 old))
              | inr c ↦ inr (to_flat found_of afters has.1 d (at_contains afters has.0 has.1 has.2) c)
            ];
        count = (
            let all = counted befores afters done.workers (λ w b a h k. (let c = (of_one w b a h k).count in omega arith)) in
            let x = total-map (λ (s : Seated). length s.taken) seat_of befores in
            let y = total-map (λ (s : Seated). length s.taken) seat_of afters in
            omega arith
            );
      }
        where
          forth : (f : Seated → ℕ) (cs : List C) → 0 < total f (map seat_of cs) → 0 < total (λ c. f (seat_of c)) cs
          forth f cs stands = subst (λ (n : ℕ). 0 < n) (total-map f seat_of cs) stands

          back : (f : Seated → ℕ) (cs : List C) → 0 < total (λ c. f (seat_of c)) cs → 0 < total f (map seat_of cs)
          back f cs stands = subst (λ (n : ℕ). 0 < n) (sym (total-map f seat_of cs)) stands
