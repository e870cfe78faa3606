use Rattle.std.proofs.Common.{◌∙◌, sym, ap}
use Rattle.model.specs.Uses.{record_use}
use Rattle.model.proofs.UseLemmas.{use_of_record, no_number_no_use}
use Rattle.frozen.specs.Kept.{frozen_view}
use Rattle.frozen.proofs.PointerLemmas.{free_no_use, uses_without_attributes}
use Rattle.frozen.proofs.held.Held.use_at.Goals as goal

pub returns-then-not-is_number : goal.returns-then-not-is_number
returns-then-not-is_number c =
    let kept = c.args.self.now in
    sym (no_number_no_use kept.geometry (frozen_view kept) c.args.inode c.args.position (sym c.is_number.ensures ∙ c.if-not-is_number.true))

pub returns-then-mode-eq-FREE : goal.returns-then-mode-eq-FREE
returns-then-mode-eq-FREE c =
    let kept = c.args.self.now in
    sym (free_no_use kept.geometry (frozen_view kept) c.args.inode c.args.position (sym c.is_number.ensures ∙ c.if-not-is_number.false) (sym c.mode.ensures ∙ c.if-mode-eq-FREE.true))

pub returns : goal.returns
returns c =
    let kept = c.args.self.now in
    c.use_of.ensures ∙ ap (λ r. record_use kept.geometry (frozen_view kept) r c.args.position) c.without_attributes.ensures
    ∙ uses_without_attributes kept.geometry (frozen_view kept) ((frozen_view kept).inode c.args.inode) c.args.position
    ∙ sym (use_of_record kept.geometry (frozen_view kept) c.args.inode c.args.position (sym c.is_number.ensures ∙ c.if-not-is_number.false))
