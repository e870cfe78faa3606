-- One place more is left empty.
use Rattle.std.proofs.Common.{◌≡◌, ◌∷◌, ◌++◌, [], None, ap, ◌∙◌, subst, arith}
use Rattle.std.proofs.lemmas.List.{map-append}
use Rattle.std.specs.Option.{option_map}
use Rattle.std.specs.Arc.{arc_value}
use Rattle.frozen.specs.Shared.{shared_blocks}
use Rattle.frozen.specs.Loading.{KeptBelow}
use Rattle.frozen.proofs.LoadLemmas.{data_more, read_none}
use Rattle.frozen.proofs.loading.leave_data.Goals as goal

pub loop-place-init : goal.loop-place-init
loop-place-init c = record {
  kept = λ first kept. subst (KeptBelow c.args.geometry.now first (shared_blocks c.args.blocks.now.items)) (omega (arith, c.header_blocks-header.ensures.count)) kept;
  told = λ image told. told;
}

pub loop-place-preserved : goal.loop-place-preserved
loop-place-preserved c =
    let i = c.loop-place.invariant in
    let old = shared_blocks c.loop-place.blocks.items in
    let new = shared_blocks c.push.new.self.items in
    let added : new ≡ old ++ None ∷ [] = ap shared_blocks c.in_ok-push.ensures.items ∙ map-append (option_map arc_value) c.loop-place.blocks.items (None ∷ []) in
    record {
      kept = λ first kept. data_more c.args.geometry.now c.blocks_a_group-past.ensures.geometry c.args.group c.loop-place._place first old new c.requires
          (omega (arith, c.header_blocks-header.ensures.count, c.loop-place.auto._place)) (omega (arith, c.blocks_a_group-past.ensures.count, c.loop-place-test.true)) (i.kept first kept) added;
      told = λ image told. read_none image old new (i.told image told) added;
    }

pub returns-clause-kept : goal.returns-clause-kept
returns-clause-kept c = λ first kept.
    subst (KeptBelow c.args.geometry.now first (shared_blocks c.loop-place.blocks.items))
    (omega (arith, c.blocks_a_group-past.ensures.count, c.loop-place-test.false, c.loop-place.auto._place)) (c.loop-place.invariant.kept first kept)
