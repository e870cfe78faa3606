use Rattle.plans_data.proofs.HeldWrites.{in_place_right, appended_right, moved_block_right}
use Rattle.plans_data.proofs.HeldFrees.{truncated_right, relinked_right, closed_right, repaired_right}
use Rattle.plans_data.proofs.Releasing.{release_right}
use Rattle.plans_data.proofs.held_blocks_stay_right.Goals as goal

pub returns : goal.returns
returns c = record {
  in_place = in_place_right;
  extended = appended_right;
  moved = moved_block_right;
  truncated = truncated_right;
  relinked = relinked_right;
  closed = closed_right;
  repaired = repaired_right;
  released = release_right;
}
