-- What a path leads to is the entry of a directory without names, or the first cause that refuses it.
use Rattle.std.proofs.Common.{false, refl, sym, ◌∙◌}
use Rattle.std.proofs.lemmas.Bool.{both_ways}
use Rattle.frozen.specs.Kept.{frozen_view}
use Rattle.model.proofs.Same.{same_facts}
use Rattle.live_removals.proofs.Refusals.{no_directory, not_empty}
use Rattle.live_removals.proofs.removing.directory_at.Goals as goal

pub returns-then-not-is_directory_at-clause-refused : goal.returns-then-not-is_directory_at-clause-refused
returns-then-not-is_directory_at-clause-refused c = λ view shown.
    let geo = c.args.frozen.now.geometry in
    let i = c.in_ok-found.found.number in
    let same = (same_facts geo (frozen_view c.args.frozen.now) view shown).directory_at i in
    no_directory geo view c.args.path.now i (λ e. both_ways false refl (c.if-is_root.ensures.root.1 e)) (c.in_ok-found.ensures.found view shown).number
    (sym same ∙ sym c.is_directory_at.ensures ∙ c.if-not-is_directory_at.true)

pub returns-then-has_names-clause-refused : goal.returns-then-has_names-clause-refused
returns-then-has_names-clause-refused c = λ view shown.
    let geo = c.args.frozen.now.geometry in
    let i = c.in_ok-found.found.number in
    let same = (same_facts geo (frozen_view c.args.frozen.now) view shown).directory_at i in
    not_empty geo view c.args.path.now i (λ e. both_ways false refl (c.if-is_root.ensures.root.1 e)) (c.in_ok-found.ensures.found view shown).number
    (sym same ∙ sym c.is_directory_at.ensures ∙ c.if-not-is_directory_at.false) (sym (c.has_names.ensures view shown) ∙ c.if-has_names.true)

pub returns-clause-found : goal.returns-clause-found
returns-clause-found c = λ view shown.
    let geo = c.args.frozen.now.geometry in
    let same = (same_facts geo (frozen_view c.args.frozen.now) view shown).directory_at c.in_ok-found.found.number in
    record {
      below_root = λ e. both_ways false refl (c.if-is_root.ensures.root.1 e);
      at = c.in_ok-found.ensures.found view shown;
      directory = sym same ∙ sym c.is_directory_at.ensures ∙ c.if-not-is_directory_at.false;
      empty = sym (c.has_names.ensures view shown) ∙ c.if-has_names.false;
    }
