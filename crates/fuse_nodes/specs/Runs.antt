-- What becomes of a table by many events.
use Rattle.std.specs.Prelude.{◌≡◌, ℕ, List, [], ◌∷◌}
use Rattle.fuse_nodes.specs.Table.{Event, Born, Forgot, Table, after}

-- the events, the first first
abbrev pub after_all : List Event → Table → Table
after_all [] t = t
after_all (event ∷ events) t = after_all events (after event t)

-- by none of these events the number is given to a new inode
abbrev pub StaysItself : ℕ → List Event → Type 0
StaysItself number [] = Unit {0}
StaysItself number (event ∷ events) = (event ≡ Born number → ⊥) × StaysItself number events

-- none of these events gives the number to a new inode, or forgets lookups of the node
abbrev pub StaysKnown : ℕ → ℕ → List Event → Type 0
StaysKnown id number [] = Unit {0}
StaysKnown id number (event ∷ events) = (event ≡ Born number → ⊥) × ((lookups : ℕ) → event ≡ Forgot id lookups → ⊥) × StaysKnown id number events
