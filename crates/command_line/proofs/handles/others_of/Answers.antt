-- One device more shows the same.
use Rattle.std.proofs.Common.{◌≡◌, All, sym, subst}
use Rattle.std.proofs.lemmas.List.Elements.{All-push}
use Rattle.file_device.specs.Calls.{Calls, image_now}
use Rattle.command_line.proofs.handles.others_of.Goals as goal

pub loop-worker-preserved : goal.loop-worker-preserved
loop-worker-preserved g c =
    let shows = λ (one : Calls). image_now g.S.Start.first one ≡ image_now g.S.Start.first c.args.device.now in
    record {
      shown = subst (All shows) (sym c.in_ok-push.ensures.items) (All-push shows c.loop-worker.others.items c.in-Ok.other c.loop-worker.invariant.shown c.in-Ok.ensures.image);
    }
