use Rattle.std.proofs.Common.{◌≡◌, eqb, sym, ap, ◌∙◌}
use Rattle.std.proofs.lemmas.Bool.{both_ways, eq-eqb, ne_eqb}
use Rattle.model.specs.View.{Inode, inode_at}
use Rattle.inode.proofs.Record.write.Goals as goal

pub returns-then-version-eq-DOUBLE-clause-read : goal.returns-then-version-eq-DOUBLE-clause-read
returns-then-version-eq-DOUBLE-clause-read c = λ fits.
    ap (λ version. inode_at version c.write_double.new.bytes 0) c.if-version-eq-DOUBLE.true
    ∙ c.write_double.ensures c.args.self.now c.write_single.ensures.read
    ∙ ap (λ (n : Inode). record c.args.self.now { double = n.double }) c.self.view_is

pub returns-then-version-eq-DOUBLE-clause-rest : goal.returns-then-version-eq-DOUBLE-clause-rest
returns-then-version-eq-DOUBLE-clause-rest c = λ k spare.
    absurd (both_ways (eqb c.args.version 2) spare.single (eq-eqb c.args.version 2 c.if-version-eq-DOUBLE.true))

pub returns-else-version-eq-DOUBLE-clause-read : goal.returns-else-version-eq-DOUBLE-clause-read
returns-else-version-eq-DOUBLE-clause-read c = λ fits.
    let one = ne_eqb c.args.version 2 c.if-version-eq-DOUBLE.false in
    rw one (c.write_single.ensures.read ∙ ap (λ n. record c.args.self.now { double = n }) (sym (fits one)))

pub returns-else-version-eq-DOUBLE-clause-rest : goal.returns-else-version-eq-DOUBLE-clause-rest
returns-else-version-eq-DOUBLE-clause-rest c = λ k spare. c.write_single.ensures.rest k spare.from spare.below
