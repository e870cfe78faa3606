use Rattle.std.proofs.Common.{◌++◌}
use Rattle.shared.specs.Traces.{first_at, now_at, opening_at}
use Rattle.shared.proofs.SyncLemmas.{sync_of}
use Rattle.shared.proofs.laws.what_a_sync_of_a_trace_has_seen_outlives_power_cuts.Goals as goal

pub returns : goal.returns
returns g c = λ before trace now h sound t after files there.
    let o = h.opening in
    let p = h.past in
    let at = sync_of (opening_at o) o.opens trace o.responses (now_at o) t o.through after in
    let led = c.calls_join.ensures (first_at h) (opening_at o) t p.commands at.before p.responses at.first p.goes at.led in
    let kept = c.what_a_sync_has_seen_outlives_power_cuts.ensures (first_at h) t (now_at o) (p.commands ++ at.before) at.after (p.responses ++ at.first) at.later p.stands led sound at.synced files there at.leads in
    (at.before, at.after, at.all, at.later, kept.0, kept.1)
