-- The record that is kept gets the attributes.
use Rattle.std.proofs.Common.{◌≡◌, [], ◌∷◌, map, ap, ap₂, ◌∙◌, refl, subst, List}
use Rattle.frozen.specs.Kept.{Kept, frozen_view}
use Rattle.model.specs.Cells.{SetInode}
use Rattle.model.specs.View.{Inode, with_attributes}
use Rattle.ordering.specs.Cuts.{Cell}
use Rattle.updates.specs.Values.{cell}
use Rattle.plans_data.specs.Attributes.{attributing}
use Rattle.live_states.specs.Drafts.{Draft, GoesOn}
use Rattle.live_plans.proofs.DraftLemmas.{goes_as}
use Rattle.live_plans.proofs.Fitting.{written_fits}
use Rattle.live_attributes.proofs.setting.attributed.Goals as goal

pub set_record-requires-clause-fits : goal.set_record-requires-clause-fits
set_record-requires-clause-fits c =
    let kept = c.args.metadata.now in
    let same = c.frozen-frozen.ensures.same in
    let was : Inode = record { mode = c.record.inside.mode; links = c.record.inside.links; size = c.record.inside.size; direct = c.record.inside.direct; indirect = c.record.inside.indirect; double = c.record.inside.double; attributes = c.record.inside.attributes } in
    written_fits kept c.new-plan.result.geometry c.args.number (with_attributes was c.args.attributes.now) was
    (ap (λ (d : Draft). d.geometry) c.new-plan.ensures ∙ c.geometry.ensures.geometry ∙ ap (λ (k : Kept). k.geometry) same)
    (c.record.view_is ∙ c.record-record.ensures ∙ ap (λ (k : Kept). (frozen_view k).inode c.args.number) same) refl

pub returns : goal.returns
returns c = λ view shows.
    let kept = c.args.metadata.now in
    let n = c.args.number in
    let words = c.args.attributes.now in
    let same = c.frozen-frozen.ensures.same in
    let none : Draft = record { geometry = kept.geometry; file = n; updates = [] } in
    let start : c.new-plan.result ≡ none =
    c.new-plan.ensures ∙ ap (λ g. record none { geometry = g }) (c.geometry.ensures.geometry ∙ ap (λ (k : Kept). k.geometry) same) in
    let was : Inode = record { mode = c.record.inside.mode; links = c.record.inside.links; size = c.record.inside.size; direct = c.record.inside.direct; indirect = c.record.inside.indirect; double = c.record.inside.double; attributes = c.record.inside.attributes } in
    let is : was ≡ view.inode n =
    c.record.view_is ∙ c.record-record.ensures ∙ ap (λ (k : Kept). (frozen_view k).inode n) same ∙ shows.inode n in
    goes_as none c.set_record.new.self (λ q. record { change = SetInode n (with_attributes was words); after = map cell c.new.result.items } ∷ q) (attributing n (view.inode n) words)
    (λ q. ap₂ (λ (i : Inode) (cs : List Cell). record { change = SetInode n (with_attributes i words); after = cs } ∷ q) is (ap (map cell) c.new.ensures.items))
    (subst (λ (d : Draft). GoesOn d c.set_record.new.self (λ q. record { change = SetInode n (with_attributes was words); after = map cell c.new.result.items } ∷ q)) start c.in_ok-set_record.ensures)
