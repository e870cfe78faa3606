use Rattle.std.proofs.Common.{sym, ap, ◌∙◌}
use Rattle.model.specs.Layout.{Geometry}
use Rattle.layout.proofs.TablePlaces.{most_one, most_two}
use Rattle.layout.proofs.geometry.Geometry.most_blocks.Goals as goal

pub returns-then-self-eq-DOUBLE-clause-count : goal.returns-then-self-eq-DOUBLE-clause-count
returns-then-self-eq-DOUBLE-clause-count c = sym (most_two c.args.self.now (sym (ap (λ (g : Geometry). g.version) c.self.view_is) ∙ c.if-self-eq-DOUBLE.true))

pub returns-else-self-eq-DOUBLE-clause-count : goal.returns-else-self-eq-DOUBLE-clause-count
returns-else-self-eq-DOUBLE-clause-count c = sym (most_one c.args.self.now (λ two. c.if-self-eq-DOUBLE.false (ap (λ (g : Geometry). g.version) c.self.view_is ∙ two)))
