use Rattle.std.proofs.Common.{sym, subst}
use Rattle.live.specs.Places.{Ascend}
use Rattle.live.proofs.Places.{places_ascend}
use Rattle.live.proofs.live.Live.standing.Goals as goal

pub standing-requires : goal.standing-requires
standing-requires g c = c.self.invariant.snapshots.numbered.few

pub returns-clause-ascending : goal.returns-clause-ascending
returns-clause-ascending g c = subst Ascend (sym c.standing.ensures) (places_ascend c.self.inside.holdings.snapshots c.self.invariant.snapshots.numbered)
