use Rattle.std.proofs.Common.{◌<◌, ◌≤◌, ◌∙◌, length, refl, arith}
use Rattle.std.proofs.lemmas.List.{take_all}
use Rattle.import_tree.proofs.PutLemmas.{adds_flushes, next_true, none_false, nothing_put, put_next, put_rest, read_next, read_none}
use Rattle.import_tree.proofs.filling.put.Goals as goal

pub loop-item-init : goal.loop-item-init
loop-item-init g c =
    let old = c.args.volume.now in
    let none = c.new.ensures in
    record {
      done = refl;
      room = c.in_ok-room.ensures;
      honest = λ h. h;
      read = read_none c.args.items.now c.new.result.items none;
      held = none_false c.new.result.items none;
      put = λ h. nothing_put (g.D.Device.held old.device) (g.D.Device.image old.device) old c.new.result.items none;
    }

pub loop-item-preserved : goal.loop-item-preserved
loop-item-preserved g c =
    let inv = c.loop-item.invariant in
    let held = g.D.Device.held in
    let image = g.D.Device.image in
    let old = c.args.volume.now in
    let here = c.loop-item.volume in
    let mid = c.put_item.new.volume in
    let new = c.count.new.volume in
    let items = c.args.items.now in
    let item = c.item-item.result in
    let i = c.loop-item.item-index in
    let readings = c.loop-item.readings.items.items in
    let next = c.put_item.new.readings.items.items in
    let added = c.in-Ok.ensures.item in
    let within : i < length items = omega (arith, c.loop-item-test.true) in
    record {
      done = omega (arith, inv.done);
      room = c.put_item.ensures.room;
      honest = λ h. inv.honest (c.put_item.ensures.honest (c.count.ensures.honest h));
      read = read_next items i item added.0 readings next within c.item-item.is added.1 inv.read;
      held = next_true readings next (item, added.0) added.1 added.2 inv.held;
      put = λ h. let then = c.count.ensures.honest h in
          put_next (held old.device) (held here.device) (held mid.device) (held new.device) (image old.device) (image here.device) (image mid.device) (image new.device) old here mid new
          readings next (item, added.0) added.1 (inv.put (c.put_item.ensures.honest then)) (added.3 then)
          (adds_flushes (held mid.device) (held new.device) (image mid.device) (image new.device) mid new (c.in_ok-count.ensures.written h));
    }

pub returns-clause-read : goal.returns-clause-read
returns-clause-read g c = λ none.
    let items = c.args.items.now in
    let i = c.loop-item.item-index in
    let all : length items ≤ i = omega (arith, c.loop-item-test.false) in
    c.loop-item.invariant.read ∙ take_all i items all

pub returns-clause-took_in : goal.returns-clause-took_in
returns-clause-took_in g c = λ none honest.
    let inv = c.loop-item.invariant in
    let held = g.D.Device.held in
    let image = g.D.Device.image in
    let old = c.args.volume.now in
    let here = c.loop-item.volume in
    let mid = c.flush_in_passes.new.volume in
    let new = c.write_rest.new.volume in
    let then = c.write_rest.ensures.honest honest in
    put_rest (held old.device) (held here.device) (held mid.device) (held new.device) (image old.device) (image here.device) (image mid.device) (image new.device) old here mid new c.loop-item.readings.items.items
    (inv.put (c.flush_in_passes.ensures.honest then))
    (adds_flushes (held here.device) (held mid.device) (image here.device) (image mid.device) here mid (c.in_ok-flush_in_passes.ensures.flushed then)) (c.in_ok-write_rest.ensures.written honest)

pub returns-clause-held : goal.returns-clause-held
returns-clause-held g c = λ none. c.loop-item.invariant.held

-- at each return, whatever comes of it
pub returns-in_err-write_all-in-Err-clause-honest : goal.returns-in_err-write_all-in-Err-clause-honest
returns-in_err-write_all-in-Err-clause-honest g c = λ h. c.loop-item.invariant.honest (c.put_item.ensures.honest (c.write_all.ensures.honest h))

pub returns-in-Err-clause-honest : goal.returns-in-Err-clause-honest
returns-in-Err-clause-honest g c = λ h. c.loop-item.invariant.honest (c.put_item.ensures.honest (c.write_all.ensures.honest h))

pub returns-in_err-count-clause-honest : goal.returns-in_err-count-clause-honest
returns-in_err-count-clause-honest g c = λ h. c.loop-item.invariant.honest (c.put_item.ensures.honest (c.count.ensures.honest h))

pub returns-in_err-flush_in_passes-clause-honest : goal.returns-in_err-flush_in_passes-clause-honest
returns-in_err-flush_in_passes-clause-honest g c = λ h. c.loop-item.invariant.honest (c.flush_in_passes.ensures.honest h)

pub returns-in_err-write_rest-clause-honest : goal.returns-in_err-write_rest-clause-honest
returns-in_err-write_rest-clause-honest g c = λ h. c.loop-item.invariant.honest (c.flush_in_passes.ensures.honest (c.write_rest.ensures.honest h))

pub returns-clause-honest : goal.returns-clause-honest
returns-clause-honest g c = λ h. c.loop-item.invariant.honest (c.flush_in_passes.ensures.honest (c.write_rest.ensures.honest h))
