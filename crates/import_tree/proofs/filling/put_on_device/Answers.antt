use Rattle.std.proofs.Common.{◌≡◌, All, None, map, subst, sym}
use Rattle.std.proofs.lemmas.Result.{IfOk-at_ok}
use Rattle.import_tree.specs.Putting.{IsTrueReading, PutMounted, TookIn, item_of}
use Rattle.import_tree.proofs.filling.put_on_device.Goals as goal

pub returns-clause-read : goal.returns-clause-read
returns-clause-read g c = IfOk-at_ok (λ filled. filled.stopped ≡ None → map item_of filled.readings.items.items ≡ c.args.items.now) c.in_ok-filled.ensures.ok.0 c.put-filled.ensures.read

pub returns-clause-held : goal.returns-clause-held
returns-clause-held g c = IfOk-at_ok (λ filled. filled.stopped ≡ None → All IsTrueReading filled.readings.items.items) c.in_ok-filled.ensures.ok.0 c.put-filled.ensures.held

pub returns-clause-took_in : goal.returns-clause-took_in
returns-clause-took_in g c = λ none.
    let held = g.D.Device.held in
    let image = g.D.Device.image in
    let honest = g.D.Device.honest in
    let old = c.in_ok-volume.volume in
    let put = c.put-filled.new.volume in
    let readings = c.in_ok-filled.filled.readings.items.items in
    let took = IfOk-at_ok (λ filled. filled.stopped ≡ None → honest put.device → TookIn filled.readings.items.items (held old.device) (image old.device) old (held put.device) (image put.device) put)
    c.in_ok-filled.ensures.ok.0 c.put-filled.ensures.took_in none in
    subst (λ v. honest v.device → PutMounted (held c.args.device) (image c.args.device) readings (held v.device) (image v.device) v) (sym c.in_ok-filled.ensures.ok.1) (λ h. record {
      mounted = old;
      mountable = c.in_ok-volume.ensures.mounted (c.put-filled.ensures.honest h);
      pending = c.in_ok-volume.ensures.pending;
      fresh = c.in_ok-volume.ensures.fresh;
      idle = c.in_ok-volume.ensures.idle;
      took = subst (λ m. TookIn readings m (image c.args.device) old (held put.device) (image put.device) put) c.in_ok-volume.ensures.held
          (subst (λ i. TookIn readings (held old.device) i old (held put.device) (image put.device) put) c.in_ok-volume.ensures.image (took h));
    })
