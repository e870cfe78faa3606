use Rattle.std.proofs.Common.{◌≡◌, ◌+◌, ◌++◌, All, length}
use Rattle.user_scripts.specs.Script.{IsOfUser, IsWhole, line_feeds, script_of}
use Rattle.user_scripts.proofs.scripts.parse.Given as goal

abbrev pub invariant-loop-rest : goal.invariant-loop-rest
invariant-loop-rest l = record {
  parted : script_of l.lines.items ++ l.rest ≡ l.bytes;
  counted : length l.lines.items + line_feeds l.rest ≡ line_feeds l.bytes;
  whole : All IsWhole l.lines.items;
  users : All IsOfUser l.lines.items;
}

abbrev pub decreases-loop-rest : goal.decreases-loop-rest
decreases-loop-rest l = length l.rest
