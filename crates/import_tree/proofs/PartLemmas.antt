-- Bytes that come part by part.
use Rattle.std.proofs.Common.{◌≡◌, ◌≤◌, ◌+◌, ℕ, List, [], ◌∷◌, ◌++◌, length, take, refl, sym, ap, ◌∙◌, append_assoc, append-nil, length-take-le}
use Rattle.std.proofs.lemmas.List.{take-append-le}
use Rattle.std.proofs.Math.Seq.{take-append-add}
use borrow.Rule.Slice.PartMut.{put_mid, post_of}
use Rattle.import_tree.specs.Parts.{Part, bytes_in}

-- one part more
pub bytes_more : (parts : List Part) (part : Part) → bytes_in (parts ++ part ∷ []) ≡ bytes_in parts ++ take part.0 part.1.items
bytes_more [] part = append-nil (take part.0 part.1.items)
bytes_more (first ∷ parts) part = ap (λ bytes. take first.0 first.1.items ++ bytes) (bytes_more parts part) ∙ sym (append_assoc (take first.0 first.1.items) (bytes_in parts) (take part.0 part.1.items))

-- a room that was filled from place a on has what stood before and n bytes of what was read
pub filled_from : (a k n : ℕ) (room read : List ℕ) → a ≤ length room → n ≤ length read → take (a + n) (put_mid a k room read) ≡ take a room ++ take n read
filled_from a k n room read within fits =
    let post = post_of a k room in
    let long : length (take a room) ≡ a = length-take-le a room within in
    ap (λ m. take (m + n) (take a room ++ (read ++ post))) (sym long) ∙ take-append-add (take a room) (read ++ post) n ∙ ap (λ l. take a room ++ l) (take-append-le n read post fits)
