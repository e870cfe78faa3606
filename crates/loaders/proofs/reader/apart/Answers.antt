use Rattle.std.proofs.Common.{◌++◌, ◌∷◌, [], sym, ap, ◌∙◌, append_assoc}
use Rattle.std.proofs.lemmas.List.{map-append}
use Rattle.loaders.proofs.reader.apart.Goals as goal

pub loop-reader-preserved : goal.loop-reader-preserved
loop-reader-preserved g c =
    let inv = c.loop-reader.invariant in
    record {
      rest = append_assoc c.loop-reader.yielded (c.in-Some.reader ∷ []) c.next.new.self.rest.items ∙ ap (λ es. c.loop-reader.yielded ++ es) (sym c.in-Some.ensures.steps.0) ∙ inv.rest;
      devices = c.in_ok-push.ensures.items ∙ ap (λ ds. ds ++ c.in-Some.reader.device ∷ []) inv.devices ∙ sym (map-append (λ (reader : _). reader.device) c.loop-reader.yielded (c.in-Some.reader ∷ []));
      ahead = c.in_ok-push-2.ensures.items ∙ ap (λ bs. bs ++ c.in-Some.reader.ahead ∷ []) inv.ahead ∙ sym (map-append (λ (reader : _). reader.ahead) c.loop-reader.yielded (c.in-Some.reader ∷ []));
    }
