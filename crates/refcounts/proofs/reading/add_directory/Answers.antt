use Rattle.std.proofs.Common.{sym, ◌∙◌, subst, rules}
use Rattle.frozen.specs.Kept.{frozen_view}
use Rattle.model.specs.Layout.{Geometry}
use Rattle.refcounts.specs.Parts.{Grow}
use Rattle.refcounts.proofs.PartLemmas.{reads_all}
use Rattle.refcounts.proofs.reading.add_directory.Goals as goal

pub returns-clause-added : goal.returns-clause-added
returns-clause-added c =
    let geo = c.args.frozen.now.geometry in
    let grown = subst (λ (q : Geometry). Grow q c.as_slice.result.now c.args.part.now c.add_all.new.self) c.geometry.ensures.geometry c.in_ok-add_all.ensures.added in
    reads_all geo (frozen_view c.args.frozen.now) c.args.reached.now c.args.number c.as_slice.result.now c.args.part.now c.add_all.new.self
    (sym c.has.ensures ∙ search rules) (sym c.is_directory_at.ensures ∙ search rules) (c.as_slice.ensures.value ∙ c.in_ok-numbers.ensures.numbers) grown
