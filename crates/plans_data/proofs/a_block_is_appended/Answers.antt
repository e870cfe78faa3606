use Rattle.plans_data.proofs.Append.{append_places, append_issues}
use Rattle.plans_data.proofs.HeldAppends.{append_right}
use Rattle.plans_data.proofs.a_block_is_appended.Goals as goal

pub returns : goal.returns
returns c = record { places = append_places; issues = append_issues; held = append_right }
