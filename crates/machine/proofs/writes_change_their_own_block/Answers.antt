use Rattle.machine.proofs.SameFiles.{same_seen}
use Rattle.machine.proofs.WritesSeen.{write_shows}
use Rattle.machine.proofs.writes_change_their_own_block.Goals as goal

pub returns : goal.returns
returns c = record {
  others = λ geo g old new h k piece b s j q d. same_seen geo old.view new.view j ((write_shows geo g old new h k piece b s).others j d) q;
  elsewhere = λ geo g old new h k piece b s. (write_shows geo g old new h k piece b s).elsewhere;
  here = λ geo g old new h k piece b s. (write_shows geo g old new h k piece b s).here;
}
