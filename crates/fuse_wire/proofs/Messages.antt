-- Fields that are there, and the nodes that one request forgets.
use Rattle.std.proofs.Common.{◌≡◌, ℕ, ◌+◌, ◌*◌, ◌/◌, ◌<◌, ◌≤◌, Bor, cond, ltb, List, length, Option, Some, None, slice_get, map, option_map, replicate, take, ◌++◌, refl, sym, ap, ◌∙◌, append_assoc, arith}
use Rattle.std.specs.List.{range_with_len}
use Rattle.std.proofs.lemmas.Bool.{le-ltb}
use Rattle.std.proofs.lemmas.List.FromFn.{get_or-range_with_len, length-map-range_with_len, length-range_with_len}
use Rattle.std.proofs.lemmas.Option.{slice_get-map, slice_get-get_or}
use Rattle.fuse_wire.specs.Forgets.{forget_at, forgets_in}
use Rattle.fuse_wire.specs.Requests.{behind}
use Rattle.fuse_wire.specs.declared.bodies.Entry.{Entry}
use Rattle.fuse_wire.specs.Replies.{attributes_bytes, entry_bytes, found_bytes, listed_bytes, listed_plus_bytes}
use Rattle.fuse_wire.specs.declared.entries.DirectoryEntry.{DirectoryEntry}
use Rattle.std.proofs.lemmas.List.{length-append, take-replicate}

abbrev none : {A : Type 0} → Option A → Option A
none found = None

-- what is found where there are enough bytes
pub behind_long : {A : Type 0} (n : ℕ) (bytes : List ℕ) (found : Option A) → n ≤ length bytes → behind n bytes found ≡ found
behind_long n bytes found h = ap (λ b. cond b (none found) found) (le-ltb (length bytes) n h)

pub length-forgets_in : (bytes : List ℕ) → length (forgets_in bytes) ≡ length bytes / 16
length-forgets_in bytes = length-map-range_with_len (forget_at bytes) 0 (length bytes / 16)

-- the forget of each place is that of its bytes
pub forgets_in-at : (bytes : List ℕ) (place : ℕ) → place < length bytes / 16 → slice_get (forgets_in bytes) place ≡ Some (forget_at bytes place)
forgets_in-at bytes place h =
    let n = length bytes / 16 in
    let within : place < length (range_with_len 0 n) = omega (arith, length-range_with_len 0 n) in
    slice_get-map (forget_at bytes) (range_with_len 0 n) place
    ∙ ap (option_map (forget_at bytes)) (slice_get-get_or (range_with_len 0 n) place 0 within ∙ ap (λ (i : ℕ). Some i) (get_or-range_with_len 0 n place 0 h ∙ omega arith))

-- what a name leads to has 128 bytes
length_found : (found : Option (Bor Entry)) → length (found_bytes found) ≡ 128
unfolding entry_bytes attributes_bytes
length_found None = refl
length_found (Some entry) = refl

pub length_listed_plus : (found : Option (Bor Entry)) (entry : DirectoryEntry) → length (listed_plus_bytes found entry) ≡ 128 + length (listed_bytes entry)
length_listed_plus found entry = length-append (found_bytes found) (listed_bytes entry) ∙ ap (λ n. n + length (listed_bytes entry)) (length_found found)

pub zeroes_before : (count : ℕ) → count < 8 → take {A = ℕ} count (replicate 8 0) ≡ replicate count 0
zeroes_before count h = take-replicate count 8 0 (omega arith)

-- three lists behind another, one after the other
pub three_behind : (out a b c : List ℕ) → ((out ++ a) ++ b) ++ c ≡ out ++ (a ++ b ++ c)
three_behind out a b c = append_assoc (out ++ a) b c ∙ append_assoc out a (b ++ c) ∙ ap (λ rest. out ++ rest) (sym (append_assoc a b c))
