use Rattle.std.proofs.Common.{List, [], ℕ, false, ◌++◌, ◌∷◌, Ok, refl, subst}
use Rattle.std.proofs.lemmas.List.Elements.{All-nil, All-weaker}
use Rattle.machine.specs.Command.{Done, Image}
use Rattle.machine.specs.State.{mounted}
use Rattle.machine.specs.Step.{Run}
use Rattle.model.specs.Image.{image_view}
use Rattle.snapshot.specs.Alive.{disk_of}
use Rattle.snapshot.specs.Durable.{WritesLooksOf, LeavesOwn, LeavesSafe, LeavesShown, Starts}
use Rattle.snapshot.specs.Goes.{pieces_in, views_in}
use Rattle.snapshot.specs.Mounting.{IsMountable}
use Rattle.snapshot.specs.Stages.{geometry_at, state_at}
use Rattle.promises.specs.Known.{LeavesKnown, LeavesOwnBytes, LeavesLooks}
use Rattle.promises.specs.Leaky.{IsOnlyLeaky, LeavesLeaky}
use Rattle.promises.proofs.Known.{leaves_known, leaves_looks}
use Rattle.promises.proofs.laws.every_power_cut_is_only_leaky.Goals as goal

pub returns-clause-leaky : goal.returns-clause-leaky
returns-clause-leaky g c = λ s t commands replies is leads sound.
    let geo = geometry_at s in
    let begins = c.volumes_begin.ensures s is in
    let safe = c.each_power_cut_of_a_run_is_safe.ensures s t commands replies leads begins.0 begins.1 begins.2 (λ f. false) begins.3 sound in
    let held = safe.5 in
    let leaky : (stop : List (List ℕ)) → IsMountable geo stop → IsOnlyLeaky geo stop = λ stop mounts.
    let start = mounted (image_view geo stop) in
    record {
      mounts = mounts;
      soft = (c.rules_hold_where_findings_are_soft.ensures geo (image_view geo stop)).0 mounts.obeys;
      mended = λ commands replies new run cycle.
          c.checks_carried_out_end_exact.ensures.in_one_run geo stop new cycle.number cycle.frozen cycle.check cycle.findings cycle.earlier cycle.first cycle.second cycle.before cycle.replies cycle.answers
          mounts.is_image mounts.obeys cycle.as_many cycle.as_many_first
          (subst (λ cs. Run geo start cs (cycle.before ++ (Ok (Image cycle.number cycle.frozen) ∷ (cycle.replies ++ (Ok Done ∷ cycle.answers)))) new) cycle.commands_are (subst (λ rs. Run geo start commands rs new) cycle.responses_are run))
          cycle.no_freeze_first cycle.no_freeze_second cycle.found cycle.each;
    }
    in
    (λ image may. leaky image (safe.0 image may).0, held.more, held.media, All-weaker (LeavesSafe geo safe.2) (LeavesLeaky geo) (λ m leaves image may. leaky image (leaves image may).0) held.more held.each)

pub returns-clause-known : goal.returns-clause-known
returns-clause-known g c = λ t u files more others keeps.
    let geo = geometry_at t in
    let view = disk_of t.image t.volume in (
      leaves_known geo view [] files t.held.now keeps.now,
      All-weaker (LeavesShown geo view keeps.written keeps.left) (LeavesKnown geo view keeps.written) (λ m shown. leaves_known geo view keeps.written keeps.left m shown) keeps.more keeps.shown,
    )

pub returns-clause-looks : goal.returns-clause-looks
returns-clause-looks g c = λ t u files more others keeps.
    let geo = geometry_at t in
    let view = disk_of t.image t.volume in
    let views = views_in geo (state_at t) more others (state_at u) keeps.run in (
      leaves_looks geo view [] files t.held.now [] (All-nil (WritesLooksOf [])) keeps.now,
      All-weaker (LeavesShown geo view keeps.written keeps.left) (LeavesLooks geo view views) (λ m shown. leaves_looks geo view keeps.written keeps.left m views keeps.looking shown) keeps.more keeps.shown,
    )

pub returns-clause-own : goal.returns-clause-own
returns-clause-own g c = λ t u files more others keeps.
    let geo = geometry_at t in
    let view = disk_of t.image t.volume in (
      record { puts = []; pieces = refl; along = Starts; leaves = keeps.own_now },
      All-weaker (LeavesOwn geo view keeps.written keeps.puts) (LeavesOwnBytes geo view keeps.written (pieces_in geo (state_at t) more others (state_at u) keeps.run))
          (λ m own. record { puts = keeps.puts; pieces = keeps.pieces; along = keeps.along; leaves = own }) keeps.more keeps.own,
    )

pub returns-clause-synced : goal.returns-clause-synced
returns-clause-synced g c = c.what_a_sync_has_seen_outlives_power_cuts.ensures
