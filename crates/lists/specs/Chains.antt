-- Lists of numbers in one table of links.
use Rattle.std.specs.Prelude.{ℕ, zero, suc, ◌-◌, ◌<◌, ◌≤◌, ◌^◌, min, List, [], ◌∷◌, length, slice_index_or}
use Rattle.std.specs.Vec.{vec_capacity, vec_len}
use Rattle.std.proofs.Common.{Vec, Global}
use Rattle.lists.specs.declared.chains.Link.{Link}

-- the links, the oldest first, and for how many more there is room
pub record Links : Type 0 where
  pub links : List Link
  pub room : ℕ

abbrev pub spare : Vec Link Global → ℕ
spare links = min (vec_capacity links) (2 ^ 32 - 1) - vec_len links

abbrev pub link_at : List Link → ℕ → Link
link_at links k = slice_index_or links k (record { number = 0; rest = 0 })

-- behind each link is an older list
abbrev pub AreOrdered : List Link → Type 0
AreOrdered links = (k : ℕ) → k < length links → (link_at links k).rest ≤ k

-- the numbers of a list of which at most so many are looked at
abbrev pub walk : List Link → ℕ → ℕ → List ℕ
walk links zero chain = []
walk links (suc steps) zero = []
walk links (suc steps) (suc k) = (link_at links k).number ∷ walk links steps (link_at links k).rest

-- the numbers of a list, the first first
abbrev pub numbers : Links → ℕ → List ℕ
numbers chains chain = walk chains.links chain chain

-- the list is one of the table's
abbrev pub IsChain : Links → ℕ → Type 0
IsChain chains chain = chain ≤ length chains.links
