use Rattle.std.proofs.Common.{length}
use Rattle.live_plans.proofs.linking.+link.Given as goal

-- the tables that are left
abbrev pub decreases-link : goal.decreases-link
decreases-link l = length l.new.now.tables
