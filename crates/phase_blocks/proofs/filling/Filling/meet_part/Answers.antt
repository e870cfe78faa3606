use Rattle.std.proofs.Common.{◌≡◌, ◌<◌, rules, Contains, subst}
use Rattle.std.proofs.lemmas.Result.{on_ok_weaker}
use Rattle.model.specs.Layout.{IsGeometry}
use Rattle.phase_blocks.proofs.FillLemmas.{met_all}
use Rattle.phase_blocks.proofs.filling.Filling.meet_part.Goals as goal

pub returns-clause-met : goal.returns-clause-met
returns-clause-met c = on_ok_weaker c.meet_all.result (λ met sorted seen h.
    let inv = c.self.invariant in
    let was = c.self.view_is in
    let of = c.meet_all.ensures.of in
    let same_geometry : c.self.inside.geometry ≡ c.meet_all.new.self.geometry = search rules in
    let same_group : c.self.inside.group ≡ c.meet_all.new.self.group = search rules in
    let geo = c.meet_all.new.self.geometry in
    let ok : IsGeometry geo = subst IsGeometry same_geometry inv.0 in
    let low : c.meet_all.new.self.group < geo.groups = search rules in
    met_all geo ok c.meet_all.new.self.group low seen c.args.part.now.claims c.between.result.now c.meet_all.new.self.owners c.meet_all.new.self.found
    (λ claim above below listed. search rules) (λ claim listed. subst (λ cs. Contains cs claim) c.claims.ensures (c.between.ensures.only claim listed)) (met seen (search rules))) c.meet_all.ensures.met
