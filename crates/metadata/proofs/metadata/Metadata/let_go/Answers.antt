use Rattle.std.proofs.Common.{sym, ap, subst, ◌∙◌}
use Rattle.frozen.specs.Installed.{IsPlain, without_block}
use Rattle.frozen.specs.Kept.{Kept, KeepsMetadata}
use Rattle.frozen.proofs.LettingGo.{keeps_without}
use Rattle.metadata.specs.Shown.{IsMetadata, Shows}
use Rattle.metadata.proofs.LettingGo.{free_without, shows_without}
use Rattle.metadata.proofs.metadata.Metadata.let_go.Goals as goal

pub let_go-requires : goal.let_go-requires
let_go-requires c = subst (λ (k : Kept). IsPlain k c.args.address) (sym c.self.view_is) c.requires

pub invariant_of-self : goal.invariant_of-self
invariant_of-self c =
    let kept : Kept = c.self.inside.frozen in
    let keeps : KeepsMetadata kept = c.self.invariant.metadata in
    let plain : IsPlain kept c.args.address = subst (λ (k : Kept). IsPlain k c.args.address) (sym c.self.view_is) c.requires in
    subst (λ (k : Kept). IsMetadata k c.self.inside.free) (sym c.let_go.ensures)
    (record {
      metadata = keeps_without kept keeps.frame c.args.address plain.of_data keeps plain;
      free = free_without kept keeps.frame c.args.address plain.of_data c.self.inside.free c.self.invariant.free;
    })

pub returns-clause-left : goal.returns-clause-left
returns-clause-left c = c.let_go.ensures ∙ ap (λ (k : Kept). without_block k c.args.address) c.self.view_is

pub returns-clause-shows : goal.returns-clause-shows
returns-clause-shows c = λ users shows.
    let keeps : KeepsMetadata c.args.self.now = subst KeepsMetadata c.self.view_is c.self.invariant.metadata in
    subst (λ (k : Kept). Shows k users) (sym (returns-clause-left c)) (shows_without c.args.self.now keeps.frame c.args.address c.requires.of_data users shows)
