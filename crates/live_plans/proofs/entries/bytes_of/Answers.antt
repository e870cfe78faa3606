-- The blocks that a directory claims are kept.
use Rattle.std.proofs.Common.{◌≡◌, Some, None, sym, ap, ◌∙◌}
use Rattle.std.specs.Option.{option_copied}
use Rattle.std.proofs.lemmas.Option.{none-some}
use Rattle.frozen.specs.Kept.{Kept, kept_at}
use Rattle.frozen.proofs.ClaimLemmas.{there}
use Rattle.live_plans.proofs.entries.bytes_of.Goals as goal

pub unreachable-requires : goal.unreachable-requires
unreachable-requires c =
    let kept = c.args.metadata.now in
    let at = there (kept_at kept.blocks c.args.block) (c.frozen.ensures.metadata.directory_blocks c.args.directory c.requires.directory c.args.position c.args.block c.requires.claim) in
    let none : kept_at kept.blocks c.args.block ≡ None =
    sym (ap (λ (k : Kept). kept_at k.blocks c.args.block) c.frozen.ensures.same) ∙ sym c.block.ensures.block ∙ ap option_copied c.in-None.is in
    none-some at.0 (sym none ∙ at.1)

pub returns : goal.returns
returns c = record {
  bytes = λ view shows.
      let at : kept_at c.args.metadata.now.blocks c.args.block ≡ Some c.in-Some.bytes.now =
      sym (ap (λ (k : Kept). kept_at k.blocks c.args.block) c.frozen.ensures.same) ∙ sym c.block.ensures.block ∙ ap option_copied c.in-Some.is in
      shows.bytes c.args.block c.in-Some.bytes.now c.requires.claim.1 at;
}
