-- One device more was noted.
use Rattle.std.proofs.Common.{◌≡◌, ◌++◌, ◌∷◌, [], map, sym, ap, ◌∙◌, append_assoc}
use Rattle.std.proofs.lemmas.List.{map-append}
use Rattle.joint_devices.proofs.joint.Joint.new.Goals as goal

pub loop-other-preserved : goal.loop-other-preserved
loop-other-preserved g c =
    let inv = c.loop-other.invariant in
    record {
      rest = append_assoc c.loop-other.yielded (c.in-Some.other ∷ []) c.next.new.self.rest.items ∙ ap (λ es. c.loop-other.yielded ++ es) (sym c.in-Some.ensures.steps.0) ∙ inv.rest;
      noted = ap (map (λ (r : _). r.0)) c.and-readers.ensures ∙ map-append (λ (r : _). r.0) c.loop-other.readers.items ((c.in-Some.other, tt) ∷ []) ∙ ap (λ ds. ds ++ c.in-Some.other ∷ []) inv.noted;
    }
