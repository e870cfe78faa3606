use Rattle.std.proofs.Common.{◌≡◌, ◌∷◌, map, take}
use Rattle.updates.specs.Values.{cell}
use Rattle.softdep_queue.specs.Adding.{lasts, counted, IsBehind}
use Rattle.softdep_queue.proofs.table.Table.wait.Given as goal

abbrev pub invariant-loop-earlier : goal.invariant-loop-earlier
invariant-loop-earlier l = record {
  behind : IsBehind l.fn.self l.self l.number (lasts l.geometry l.fn.self (cell l.fn.own ∷ map cell (take l.earlier-index l.after)));
  count : l.waiting ≡ counted l.fn.self l.home (lasts l.geometry l.fn.self (cell l.fn.own ∷ map cell (take l.earlier-index l.after)));
}
