-- A walk that workers share in rounds: what they ask for, what they are told, and what holds between the rounds.
use Rattle.std.specs.Prelude.{◌≡◌, ℕ, ◌+◌, ◌<◌, ◌≤◌, List, [], ◌∷◌, length, slice_get, ◌⊎◌, IsTrue, if◌then◌else◌}
use Rattle.std.specs.Option.{option_map_or}
use Rattle.std.specs.List.{Contains, flat_map}
use Rattle.claims.specs.Counting.{times, total}
use Rattle.claims.specs.Seats.{Seated, all_taken}
use Rattle.model.specs.Layout.{Geometry, inode_count, root}
use Rattle.model.specs.View.{View}
use Rattle.model.specs.Uses.{is_sound_at, is_directory_at}
use Rattle.model.specs.Named.{named_from}
use Rattle.model.specs.Reach.{IsReachable}
use Rattle.directories.specs.declared.cutting.Piece.{Piece}
use Rattle.directories.specs.Pieces.{in_piece}

-- how often a seat was told of a number, that it is given or that it is refused; and how often all seats were
abbrev pub told : ℕ → Seated → ℕ
told i seat = times i seat.taken + times i seat.met

abbrev pub all_told : List Seated → ℕ → ℕ
all_told seats i = total (told i) seats

-- how many numbers all seats were given
abbrev pub all_given : List Seated → ℕ
all_given seats = total (λ s. length s.taken) seats

-- what the slots from 2 on name, of a directory of this piece, and of such directories of a round
abbrev pub entries_in : Geometry → View → Piece → ℕ → List ℕ
entries_in geo view piece d = if in_piece piece d then named_from geo view 2 d else []

abbrev pub round_in : Geometry → View → List ℕ → Piece → List ℕ
round_in geo view round piece = flat_map (entries_in geo view piece) round

-- the directories of a round, and the pieces that they are followed in
abbrev pub Round : Type 0
Round = List ℕ × List Piece

abbrev pub in_pieces : List ℕ → List Piece → Round
in_pieces directories pieces = (directories, pieces)

-- what the directories of a round name that are of the piece of this unit
abbrev pub asked_of : Geometry → View → Round → ℕ → List ℕ
asked_of geo view round unit = option_map_or (λ piece. round_in geo view round.0 piece) (slice_get round.1 unit) []

-- what is claimed from the start, and followed first: the root, if it is a sound directory
abbrev pub opening_round : Geometry → View → List ℕ
opening_round geo view = if is_directory_at geo view root then root ∷ [] else []

-- A seat asked for the sound inodes among these numbers. The directories among what it was given anew are found, and nothing else.
pub record Asks (geo : Geometry) (view : View) (numbers : List ℕ) (before : Seated) (found : List ℕ) (after : Seated) (found_after : List ℕ) : Type 0 where
  pub own : after.of ≡ before.of
  pub told_before : (i : ℕ) → 0 < told i before → 0 < told i after
  pub told_now : (i : ℕ) → Contains numbers i → IsTrue (is_sound_at geo view i) → 0 < told i after
  pub taken_before : (i : ℕ) → 0 < times i before.taken → 0 < times i after.taken
  pub taken_now : (i : ℕ) → 0 < times i after.taken → (0 < times i before.taken) ⊎ (Contains numbers i × IsTrue (is_sound_at geo view i))
  pub found_before : (d : ℕ) → Contains found d → Contains found_after d
  pub found_now : (d : ℕ) → Contains found_after d → Contains found d ⊎ (IsTrue (is_directory_at geo view d) × (0 < times d after.taken))
  pub directories : (d : ℕ) → 0 < times d after.taken → IsTrue (is_directory_at geo view d) → (0 < times d before.taken) ⊎ Contains found_after d
  pub count : length found_after + length before.taken ≤ length after.taken + length found

-- All seats asked for what the directories of a round name, and found these directories.
pub record HaveAsked (geo : Geometry) (view : View) (round : List ℕ) (befores afters : List Seated) (found : List ℕ) : Type 0 where
  pub seats : length afters ≡ length befores
  pub told_before : (i : ℕ) → 0 < all_told befores i → 0 < all_told afters i
  pub told_now : (d i : ℕ) → Contains round d → Contains (named_from geo view 2 d) i → IsTrue (is_sound_at geo view i) → 0 < all_told afters i
  pub taken_now : (i : ℕ) → 0 < all_taken afters i
      → (0 < all_taken befores i) ⊎ ((d : ℕ) × Contains round d × Contains (named_from geo view 2 d) i × IsTrue (is_sound_at geo view i))
  pub found_now : (d : ℕ) → Contains found d → IsTrue (is_directory_at geo view d) × (0 < all_taken afters d)
  pub directories : (d : ℕ) → 0 < all_taken afters d → IsTrue (is_directory_at geo view d) → (0 < all_taken befores d) ⊎ Contains found d
  pub count : length found + all_given befores ≤ all_given afters

-- what was claimed from the start, or was given to some seat
abbrev pub claimed : List ℕ → List Seated → ℕ → ℕ
claimed opening seats i = times i opening + all_taken seats i

-- The entries of a directory are followed: the seats were told of each sound inode that they name.
abbrev pub IsFollowed : Geometry → View → List Seated → ℕ → Type 0
IsFollowed geo view seats d = (i : ℕ) → Contains (named_from geo view 2 d) i → IsTrue (is_sound_at geo view i) → 0 < all_told seats i

-- What is claimed is reachable; of each directory that is claimed the entries are followed, or the round is to follow them; and each round so far, but for one after the last, gave a number to some seat.
pub record IsSharedWalk (geo : Geometry) (view : View) (opening : List ℕ) (seats : List Seated) (round : List ℕ) (rounds : ℕ) : Type 0 where
  pub reachable : (i : ℕ) → 0 < claimed opening seats i → IsReachable geo view i
  pub followed : (d : ℕ) → 0 < claimed opening seats d → IsTrue (is_directory_at geo view d) → Contains round d ⊎ IsFollowed geo view seats d
  pub to_follow : (d : ℕ) → Contains round d → IsTrue (is_directory_at geo view d) × (0 < claimed opening seats d)
  pub progress : (round ≡ []) ⊎ (rounds < length opening + all_given seats)

-- What is claimed is reachable; and of each directory that is claimed the entries are followed, unless more numbers were given than there are.
pub record HasWalked (geo : Geometry) (view : View) (opening : List ℕ) (seats : List Seated) : Type 0 where
  pub reachable : (i : ℕ) → 0 < claimed opening seats i → IsReachable geo view i
  pub followed : length opening + all_given seats ≤ inode_count geo → (d : ℕ) → 0 < claimed opening seats d → IsTrue (is_directory_at geo view d) → IsFollowed geo view seats d
