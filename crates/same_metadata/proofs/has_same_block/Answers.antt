use Rattle.std.proofs.Common.{◌≡◌, None, Some, sym, ap, ◌∙◌}
use Rattle.std.specs.Option.{option_copied}
use Rattle.frozen.specs.Kept.{kept_at}
use Rattle.same_metadata.proofs.BlockLemmas.{told_not, kept_or_not}
use Rattle.same_metadata.proofs.has_same_block.Goals as goal

pub returns-in_default : goal.returns-in_default
returns-in_default c =
    let block : kept_at c.args.one.now.blocks c.args.address ≡ Some c.in_default.field-0-0.now = sym c.block.ensures.block ∙ ap option_copied c.in_default.is-0 in
    let none : kept_at c.args.other.now.blocks c.args.address ≡ None = sym c.block-2.ensures.block ∙ ap option_copied c.in_default.is-1 in
    told_not (kept_or_not c.args.one.now c.block.ensures.frame c.args.other.now.blocks c.args.address c.in_default.field-0-0.now block none)

pub returns-in_default-2 : goal.returns-in_default-2
returns-in_default-2 c =
    let block : kept_at c.args.other.now.blocks c.args.address ≡ Some c.in_default.field-0-1.now = sym c.block-2.ensures.block ∙ ap option_copied c.in_default.is-1 in
    let none : kept_at c.args.one.now.blocks c.args.address ≡ None = sym c.block.ensures.block ∙ ap option_copied c.in_default.is-0 in
    told_not (λ e. kept_or_not c.args.other.now c.block-2.ensures.frame c.args.one.now.blocks c.args.address c.in_default.field-0-1.now block none (sym e))
