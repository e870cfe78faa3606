use Rattle.std.proofs.Common.{◌≡◌, slice_index, sym, ap, ◌∙◌, subst, rules, arith}
use Rattle.std.proofs.lemmas.Grind.{common_steps}
use Rattle.model.specs.View.{Fits, IsSpare, inode_at}
use Rattle.updates.proofs.change.write_record.Goals as goal

pub returns-else-is_freed-clause-read : goal.returns-else-is_freed-clause-read
returns-else-is_freed-clause-read c =
    let same = c.version.ensures.version in
    sym (ap (λ version. inode_at version c.write.new.bytes 0) same) ∙ c.write.ensures.read (subst (λ version. Fits version c.args.inode.now) (sym same) c.requires.fits)

pub returns-else-is_freed-clause-kept : goal.returns-else-is_freed-clause-kept
returns-else-is_freed-clause-kept c = λ other k spare.
    let same : c.in-Some.record.now ≡ c.args.bytes.now = first_of (search rules, grind (arith, common_steps)) in
    c.write.ensures.rest k (subst (λ version. IsSpare version k) (sym c.version.ensures.version) spare) ∙ ap (λ xs. slice_index xs k) same
