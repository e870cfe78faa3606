use Rattle.std.proofs.Common.{◌≡◌, ◌++◌, ◌∷◌, [], All, map, refl, sym, ap, ◌∙◌, subst, append_assoc}
use Rattle.std.proofs.lemmas.List.{map-append}
use Rattle.std.proofs.lemmas.List.Elements.{All-push}
use Rattle.loaders.specs.declared.reader.Reader.{Reader}
use Rattle.loaders.proofs.reader.readers.Goals as goal

pub loop-device-preserved : goal.loop-device-preserved
loop-device-preserved g c =
    let inv = c.loop-device.invariant in
    let reader : Reader g.row.D.Denot = record {
      alloc = c.args.alloc;
      geometry = c.args.geometry.now;
      device = c.in-Some.device;
      ahead = c.new.result;
      share = c.share_of-share.result;
      room = c.new-in-loop-device.result;
    } in
    record {
      rest = append_assoc c.loop-device.yielded (c.in-Some.device ∷ []) c.next.new.self.rest.items ∙ ap (λ es. c.loop-device.yielded ++ es) (sym c.in-Some.ensures.steps.0) ∙ inv.rest;
      made = ap (λ rs. map (λ (reader : _). reader.device) rs) c.in_ok-push.ensures.items ∙ map-append (λ (reader : _). reader.device) c.loop-device.readers.items (reader ∷ [])
          ∙ ap (λ ds. ds ++ c.in-Some.device ∷ []) inv.made;
      geometry = subst (All (λ (reader : Reader g.row.D.Denot). reader.geometry ≡ c.args.geometry.now)) (sym c.in_ok-push.ensures.items)
          (All-push (λ (reader : Reader g.row.D.Denot). reader.geometry ≡ c.args.geometry.now) c.loop-device.readers.items reader inv.geometry refl);
      ahead = subst (All (λ (reader : Reader g.row.D.Denot). reader.ahead.items ≡ [])) (sym c.in_ok-push.ensures.items)
          (All-push (λ (reader : Reader g.row.D.Denot). reader.ahead.items ≡ []) c.loop-device.readers.items reader inv.ahead c.new.ensures.items);
    }
