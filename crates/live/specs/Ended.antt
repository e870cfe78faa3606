-- What is open and held once a command has ended what it ends.
use Rattle.live.specs.declared.ending.Ending.{Ending}
use Rattle.live.specs.declared.ending.Ending.TheVariants.{Handle, Nothing, Repair}
use Rattle.live_holdings.specs.Handles.{closed}
use Rattle.live_states.specs.Holdings.{Holdings, with_done}

abbrev pub ended : Holdings → Ending → Holdings
ended holdings Nothing = holdings
ended holdings (Handle h) = closed holdings h
ended holdings (Repair k) = with_done holdings k
