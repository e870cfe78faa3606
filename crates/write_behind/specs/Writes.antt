-- Writes to a file that wait.
use Rattle.std.specs.Prelude.{◌≡◌, ◌≤◌, ℕ, ◌+◌, ◌-◌, ◌^◌, ◌&&◌, ◌||◌, min, nat_lt, Bool, List, [], ◌∷◌, ◌++◌, length, take, drop}
use Rattle.std.specs.List.{flat_map, list_any}
use Rattle.write_behind.specs.declared.rooms.Span.{Span}

-- bytes, and where in the file the first of them goes
pub record Write : Type 0 where
  pub offset : ℕ
  pub bytes : List ℕ

abbrev pub write_of : List ℕ → ℕ → Write
write_of bytes offset = record { offset = offset; bytes = bytes }

-- where its bytes go
abbrev pub span_of : Write → Span
span_of w = record { offset = w.offset; count = length w.bytes }

-- the byte behind the last one; no file has one behind this
abbrev pub end_of : Span → ℕ
end_of span = min (span.offset + span.count) (2 ^ 64 - 1)

-- whether some byte is in both
abbrev pub meet : Span → Span → Bool
meet a b = nat_lt a.offset (end_of b) && nat_lt b.offset (end_of a)

-- whether some byte of these writes is in a span
abbrev pub has_byte_of : Span → List Write → Bool
has_byte_of span ws = list_any (λ w. meet (span_of w) span) ws

-- the writes that go to these spans, with these bytes, one after another
abbrev pub writes_in : List Span → List ℕ → List Write
writes_in [] bytes = []
writes_in (span ∷ spans) bytes = write_of (take span.count bytes) span.offset ∷ writes_in spans (drop span.count bytes)

-- how many bytes go to these spans
abbrev pub bytes_in : List Span → ℕ
bytes_in [] = 0
bytes_in (span ∷ spans) = span.count + bytes_in spans

-- how many bytes these writes have
abbrev pub count_of : List Write → ℕ
count_of [] = 0
count_of (w ∷ ws) = length w.bytes + count_of ws

-- the writes of these rooms, the first first
abbrev pub writes_of_rooms : List (List Write) → List Write
writes_of_rooms rooms = flat_map (λ room. room) rooms

-- what is not carried out: where the writes go that are being carried out, and those that wait, the first first; and how many rooms are left for
-- others
pub record Left : Type 0 where
  pub going : List Span
  pub waiting : List Write
  pub free : ℕ

-- whether some byte of a span is in what is not carried out
abbrev pub is_left : Span → Left → Bool
is_left span left = list_any (λ own. meet own span) left.going || has_byte_of span left.waiting

-- one more write waits behind the others, for which one more room may have been taken
pub record HasTaken (write : Write) (old new : Left) : Type 0 where
  pub going : new.going ≡ old.going
  pub waiting : new.waiting ≡ old.waiting ++ write ∷ []
  pub free : old.free ≤ new.free + 1
