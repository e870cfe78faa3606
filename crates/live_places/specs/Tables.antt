-- The addresses of new tables, as a list and back.
use Rattle.std.specs.Prelude.{ℕ, List, [], ◌∷◌}
use Rattle.std.proofs.Common.{◌≡◌, refl, ap}
use Rattle.live_places.specs.declared.tables.Addresses.{Addresses}
use Rattle.live_places.specs.declared.tables.Addresses.TheVariants.{None, One, Two}
use Rattle.live_places.specs.declared.tables.Tables.TheInside.{Inside}

abbrev pub listed : Addresses → List ℕ
listed None = []
listed (One x) = x ∷ []
listed (Two x y) = x ∷ y ∷ []

-- the first two of a list
abbrev pub unlisted : List ℕ → Addresses
unlisted [] = None
unlisted (x ∷ []) = One x
unlisted (x ∷ y ∷ ys) = Two x y

same_addresses : (a : Addresses) → unlisted (listed a) ≡ a
same_addresses None = refl
same_addresses (One x) = refl
same_addresses (Two x y) = refl

-- which of the addresses of tables are all
pub same_again : (t : Inside) → ◌≡◌ {A = Inside} (record { addresses = unlisted (listed t.addresses) }) t
same_again t = let again : Addresses → Inside = λ a. record { addresses = a } in ap again (same_addresses t.addresses)
