-- The update is the newest one, and one of the volume.
use Rattle.std.proofs.Common.{◌∷◌, map, Some, refl, sym, ap, ◌∙◌, subst, All}
use Rattle.ordering.specs.Cuts.{cell_of}
use Rattle.updates.specs.declared.change.Update.{Update}
use Rattle.updates.specs.Places.{FitsVolume, IsCell}
use Rattle.updates.specs.Values.{cell, change as change_of, written}
use Rattle.live_states.specs.Drafts.{AreOf, Draft, over}
use Rattle.live_plans.proofs.DraftLemmas.{are_of_push, over_push}
use Rattle.live_plans.proofs.plan.Plan.push.Goals as goal

pub invariant_of-self-2 : goal.invariant_of-self-2
invariant_of-self-2 c =
    let update : Update = record { change = c.args.change; file = Some c.self.inside.file; after = c.args.after } in
    subst (AreOf c.self.inside.geometry c.self.inside.file) (sym c.in_ok-push.ensures.items)
    (are_of_push c.self.inside.geometry c.self.inside.file c.self.inside.updates.items update c.self.invariant
    (record {
      changed = subst (λ (d : Draft). IsCell d.geometry (cell_of (change_of c.args.change))) (sym c.self.view_is) c.requires.changed;
      fits = subst (λ (d : Draft). FitsVolume d.geometry (change_of c.args.change)) (sym c.self.view_is) c.requires.fits;
      after = subst (λ (d : Draft). All (IsCell d.geometry) (map cell c.args.after.items)) (sym c.self.view_is) c.requires.after;
    })
    refl)

pub returns : goal.returns
returns c =
    let update : Update = record { change = c.args.change; file = Some c.self.inside.file; after = c.args.after } in
    record {
      geometry = ap (λ (d : Draft). d.geometry) c.self.view_is;
      file = ap (λ (d : Draft). d.file) c.self.view_is;
      pending = λ q. ap (over q) c.in_ok-push.ensures.items ∙ over_push q c.self.inside.updates.items update ∙ ap (λ (d : Draft). (written update).update ∷ over q d.updates) c.self.view_is;
    }
