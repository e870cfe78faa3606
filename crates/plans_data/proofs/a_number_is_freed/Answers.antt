use Rattle.plans_data.proofs.Freeing.{freeing_issues, freeing_lets_go}
use Rattle.plans_data.proofs.LetGoRight.{freeing_right}
use Rattle.plans_data.proofs.Swept.{freeing_relinked}
use Rattle.plans_data.proofs.a_number_is_freed.Goals as goal

pub returns : goal.returns
returns c = record { issues = freeing_issues; lets_go = freeing_lets_go; relinked = freeing_relinked; held = freeing_right }
