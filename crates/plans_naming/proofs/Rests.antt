-- Ghosts that are those of a volume at rest again.
use Rattle.std.proofs.Common.{◌≡◌, Bool, true, false, not, ◌&&◌, ◌||◌, refl, ap}
use Rattle.ordering.specs.Ghosts.{Ghost}

pub same_ghost : {g h : Ghost} → g.held ≡ h.held → g.gone ≡ h.gone → g.given_up ≡ h.given_up → g.zeroed ≡ h.zeroed → g.entering ≡ h.entering → g.safe ≡ h.safe → g ≡ h
same_ghost a b c d e f = λ i. record { held = a i; gone = b i; given_up = c i; zeroed = d i; entering = e i; safe = f i }

-- what was just put in is taken out again
pub out_again : (a b : Bool) → (a ≡ true → b ≡ true) → ((a || false) && not b) ≡ false
out_again true b h = ap not (h refl)
out_again false b h = refl
