-- What a path leads to is a file's entry, or the first cause that refuses it.
use Rattle.std.proofs.Common.{false, refl, sym, ◌∙◌}
use Rattle.std.proofs.lemmas.Bool.{both_ways}
use Rattle.frozen.specs.Kept.{frozen_view}
use Rattle.model.proofs.Same.{same_facts}
use Rattle.live_removals.proofs.Refusals.{no_file}
use Rattle.live_removals.proofs.unlinking.file_at.Goals as goal

pub returns-then-is_directory_at-clause-refused : goal.returns-then-is_directory_at-clause-refused
returns-then-is_directory_at-clause-refused c = λ view shown.
    let geo = c.args.frozen.now.geometry in
    let i = c.in_ok-found.found.number in
    let same = (same_facts geo (frozen_view c.args.frozen.now) view shown).directory_at i in
    no_file geo view c.args.path.now i (λ e. both_ways false refl (c.if-is_root.ensures.root.1 e)) (c.in_ok-found.ensures.found view shown).number
    (sym same ∙ sym c.is_directory_at.ensures ∙ c.if-is_directory_at.true)

pub returns-clause-found : goal.returns-clause-found
returns-clause-found c = λ view shown.
    let geo = c.args.frozen.now.geometry in
    let same = (same_facts geo (frozen_view c.args.frozen.now) view shown).directory_at c.in_ok-found.found.number in
    record {
      below_root = λ e. both_ways false refl (c.if-is_root.ensures.root.1 e);
      at = c.in_ok-found.ensures.found view shown;
      file = sym same ∙ sym c.is_directory_at.ensures ∙ c.if-is_directory_at.false;
    }
