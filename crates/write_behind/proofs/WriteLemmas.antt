-- Writes in rooms: one more, where they go, and how many bytes they have.
use Rattle.std.proofs.Common.{◌≡◌, ◌<◌, ◌≤◌, ◌+◌, ◌||◌, ℕ, zero, suc, List, [], ◌∷◌, ◌++◌, length, map, drop, slice_index_or, set as slice_set, refl, sym, ap, ap₂, ◌∙◌, arith}
use Rattle.std.specs.Prelude.{IsSome, MatchOption, Option, Some, None, option_to_list}
use Rattle.std.specs.List.{list_any}
use Rattle.std.proofs.Math.Seq.{take-length}
use Rattle.std.proofs.lemmas.List.{append-nil, append_assoc, drop-append-le, length-drop, length-take-le, length-append, take-append-le}
use Rattle.std.proofs.lemmas.Bool.{false≢true}
use Rattle.std.proofs.lemmas.List.Folds.{list_any-append}
use Rattle.write_behind.specs.declared.rooms.Span.{Span}
use Rattle.write_behind.specs.Writes.{Write, bytes_in, count_of, has_byte_of, meet, span_of, write_of, writes_in, writes_of_rooms}

-- the bytes behind those of the first of these spans
rest_of : (span : Span) (spans : List Span) (bytes : List ℕ) → bytes_in (span ∷ spans) ≡ length bytes → bytes_in spans ≡ length (drop span.count bytes)
rest_of span spans bytes same = omega (arith, same, length-drop span.count bytes)

first_of : (span : Span) (spans : List Span) (bytes : List ℕ) → bytes_in (span ∷ spans) ≡ length bytes → span.count ≤ length bytes
first_of span spans bytes same = omega (arith, same)

-- one more write
pub added : (spans : List Span) (bytes more : List ℕ) (offset : ℕ) → bytes_in spans ≡ length bytes
    → writes_in (spans ++ record { offset = offset; count = length more } ∷ []) (bytes ++ more) ≡ writes_in spans bytes ++ write_of more offset ∷ []
added [] [] more offset same = ap (λ bs. write_of bs offset ∷ []) (take-length more)
added [] (b ∷ bytes) more offset same = absurd (omega (arith, same))
added (span ∷ spans) bytes more offset same =
    ap₂ (λ bs ws. write_of bs span.offset ∷ ws) (take-append-le span.count bytes more (first_of span spans bytes same))
    (ap (writes_in (spans ++ record { offset = offset; count = length more } ∷ [])) (drop-append-le span.count bytes more (first_of span spans bytes same))
    ∙ added spans (drop span.count bytes) more offset (rest_of span spans bytes same))

pub added_bytes : (spans : List Span) (offset count : ℕ) → bytes_in (spans ++ record { offset = offset; count = count } ∷ []) ≡ bytes_in spans + count
added_bytes [] offset count = omega arith
added_bytes (span ∷ spans) offset count = omega (arith, added_bytes spans offset count)

pub grown : (spans : List Span) (bytes more : List ℕ) (offset : ℕ) (spans' : List Span) (bytes' : List ℕ)
    → spans' ≡ spans ++ record { offset = offset; count = length more } ∷ [] → bytes' ≡ bytes ++ more → bytes_in spans ≡ length bytes → bytes_in spans' ≡ length bytes'
grown spans bytes more offset spans' bytes' s b same =
    omega (arith, ap bytes_in s, ap length b, added_bytes spans offset (length more), length-append bytes more, same)

-- where the writes go
pub spans_of : (spans : List Span) (bytes : List ℕ) → bytes_in spans ≡ length bytes → map span_of (writes_in spans bytes) ≡ spans
spans_of [] bytes same = refl
spans_of (span ∷ spans) bytes same =
    ap₂ (λ n ss. record { offset = span.offset; count = n } ∷ ss) (length-take-le span.count bytes (first_of span spans bytes same))
    (spans_of spans (drop span.count bytes) (rest_of span spans bytes same))

-- how many bytes they have
pub counted : (spans : List Span) (bytes : List ℕ) → bytes_in spans ≡ length bytes → count_of (writes_in spans bytes) ≡ bytes_in spans
counted [] bytes same = refl
counted (span ∷ spans) bytes same =
    ap₂ (λ a b. a + b) (length-take-le span.count bytes (first_of span spans bytes same)) (counted spans (drop span.count bytes) (rest_of span spans bytes same))

-- which spans they have a byte of
pub met : (own : Span) (spans : List Span) (bytes : List ℕ) → bytes_in spans ≡ length bytes → list_any (λ s. meet s own) spans ≡ has_byte_of own (writes_in spans bytes)
met own [] bytes same = refl
met own (span ∷ spans) bytes same =
    ap₂ (λ n q. meet (record { offset = span.offset; count = n }) own || q) (sym (length-take-le span.count bytes (first_of span spans bytes same)))
    (met own spans (drop span.count bytes) (rest_of span spans bytes same))

pub met_in_rooms : (own : Span) (rooms : List (List Write)) → list_any (λ room. has_byte_of own room) rooms ≡ has_byte_of own (writes_of_rooms rooms)
met_in_rooms own [] = refl
met_in_rooms own (room ∷ rooms) =
    ap (λ q. has_byte_of own room || q) (met_in_rooms own rooms) ∙ sym (list_any-append (λ w. meet (span_of w) own) room (writes_of_rooms rooms))

-- one more write in the last room
pub added_to_last : (rooms : List (List Write)) (k : ℕ) (d ws : List Write) → suc k ≡ length rooms
    → writes_of_rooms (slice_set rooms k (slice_index_or rooms k d ++ ws)) ≡ writes_of_rooms rooms ++ ws
added_to_last [] k d ws last = absurd (omega (arith, last))
added_to_last (room ∷ []) zero d ws last = append-nil (room ++ ws) ∙ ap (λ r. r ++ ws) (sym (append-nil room))
added_to_last (room ∷ []) (suc k) d ws last = absurd (omega (arith, last))
added_to_last (room ∷ next ∷ rooms) zero d ws last = absurd (omega (arith, last))
added_to_last (room ∷ next ∷ rooms) (suc k) d ws last =
    ap (λ r. room ++ r) (added_to_last (next ∷ rooms) k d ws (omega (arith, last))) ∙ sym (append_assoc room (writes_of_rooms (next ∷ rooms)) ws)

-- the first room is taken
pub first_taken : (A : Type 0) (B : List Write → Type 0) (first : Option (List Write)) (rooms rest : List (List Write)) → IsSome first
    → rooms ≡ option_to_list first ++ rest → ((room : List Write) → rooms ≡ room ∷ rest → B room) → MatchOption first A B
first_taken A B None rooms rest some is holds = absurd (false≢true some)
first_taken A B (Some room) rooms rest some is holds = holds room is

-- the next of these spans
pub next_span : (spans : List Span) (i : ℕ) (d : Span) → i < length spans → bytes_in (drop i spans) ≡ (slice_index_or spans i d).count + bytes_in (drop (i + 1) spans)
next_span [] i d low = absurd (omega (arith, low))
next_span (span ∷ spans) zero d low = refl
next_span (span ∷ spans) (suc i) d low =
    next_span spans i d (omega (arith, low)) ∙ ap (λ n. (slice_index_or spans i d).count + bytes_in (drop n (span ∷ spans))) (let e : suc (i + 1) ≡ suc i + 1 = omega arith in e)
