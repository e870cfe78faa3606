-- The block's bytes are those that users see.
use Rattle.std.proofs.Common.{◌≡◌, ℕ, List, ◌∷◌, map, sym, ap}
use Rattle.std.proofs.lemmas.Result.{on_ok_weaker}
use Rattle.plans_naming.specs.Entries.{no_entry, slot_written}
use Rattle.updates.specs.Values.{cell}
use Rattle.live_plans.proofs.DraftLemmas.{goes_as}
use Rattle.live_plans.proofs.entries.empty_slot.Goals as goal

pub returns-clause-emptied : goal.returns-clause-emptied
returns-clause-emptied c = on_ok_weaker c.put_slot.result
    (λ goes view shows. goes_as c.args.plan.now c.put_slot.new.plan _ _
    (λ q. ap (λ (bytes : List ℕ). slot_written c.args.found.now.block bytes c.args.found.now.slot no_entry (map cell c.args.after.items) ∷ q) (sym (c.bytes_of.ensures.bytes view shows))) goes)
    c.put_slot.ensures

pub returns-clause-geometry : goal.returns-clause-geometry
returns-clause-geometry c = on_ok_weaker c.put_slot.result (λ goes. goes.geometry) c.put_slot.ensures
