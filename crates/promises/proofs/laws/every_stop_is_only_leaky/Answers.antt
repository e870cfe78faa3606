use Rattle.std.proofs.Common.{List, ℕ, ◌++◌, ◌∷◌, Ok, ap, map, subst, ◌∙◌}
use Rattle.std.proofs.lemmas.List.{map-append}
use Rattle.std.proofs.lemmas.List.Elements.{All-map, All-weaker}
use Rattle.device.specs.Media.{Medium, image_of}
use Rattle.machine.specs.Command.{Done, Image}
use Rattle.machine.specs.State.{mounted}
use Rattle.machine.specs.Step.{Run}
use Rattle.model.specs.Image.{image_view}
use Rattle.snapshot.specs.Alive.{disk_of}
use Rattle.snapshot.specs.Durable.{LeavesShown}
use Rattle.snapshot.specs.Goes.{views_in}
use Rattle.snapshot.specs.Mounting.{IsMountable}
use Rattle.snapshot.specs.Stages.{geometry_at, state_at}
use Rattle.promises.specs.Known.{ShowsLooks}
use Rattle.promises.specs.Leaky.{IsOnlyLeaky}
use Rattle.promises.proofs.Known.{all_left, leaves_looks}
use Rattle.promises.proofs.laws.every_stop_is_only_leaky.Goals as goal

pub returns-clause-leaky : goal.returns-clause-leaky
returns-clause-leaky g c = λ s t commands replies is leads.
    let geo = geometry_at s in
    let held_more = c.each_image_held_is_mountable.ensures s t commands replies is leads in
    let leaky : (stop : List (List ℕ)) → IsMountable geo stop → IsOnlyLeaky geo stop = λ stop mounts.
    let start = mounted (image_view geo stop) in
    record {
      mounts = mounts;
      soft = (c.rules_hold_where_findings_are_soft.ensures geo (image_view geo stop)).0 mounts.obeys;
      mended = λ commands replies new run cycle.
          c.checks_carried_out_end_exact.ensures.in_one_run geo stop new cycle.number cycle.frozen cycle.check cycle.findings cycle.earlier cycle.first cycle.second cycle.before cycle.replies cycle.answers
          mounts.is_image mounts.obeys cycle.as_many cycle.as_many_first
          (subst (λ cs. Run geo start cs (cycle.before ++ (Ok (Image cycle.number cycle.frozen) ∷ (cycle.replies ++ (Ok Done ∷ cycle.answers)))) new) cycle.commands_are (subst (λ rs. Run geo start commands rs new) cycle.responses_are run))
          cycle.no_freeze_first cycle.no_freeze_second cycle.found cycle.each;
    }
    in
    (held_more.0, held_more.1, All-weaker (IsMountable geo) (IsOnlyLeaky geo) leaky held_more.0 held_more.2)

pub returns-clause-looks : goal.returns-clause-looks
returns-clause-looks g c = λ t u files more others keeps.
    let geo = geometry_at t in
    let view = disk_of t.image t.volume in
    let views = views_in geo (state_at t) more others (state_at u) keeps.run in
    let looking : (m : Medium) → LeavesShown geo view keeps.written keeps.left m → ShowsLooks geo view views (image_of m) =
    λ m shown. leaves_looks geo view keeps.written keeps.left m views keeps.looking shown (image_of m) (all_left m) in (
      map image_of keeps.more,
      ap (map image_of) keeps.media ∙ map-append image_of t.held.media keeps.more,
      All-map (ShowsLooks geo view views) image_of keeps.more (All-weaker (LeavesShown geo view keeps.written keeps.left) (λ m. ShowsLooks geo view views (image_of m)) looking keeps.more keeps.shown),
    )
