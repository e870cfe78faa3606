use Rattle.std.proofs.Common.{false, refl, sym, ap, ◌∙◌}
use Rattle.std.proofs.lemmas.Bool.{both_ways}
use Rattle.frozen.specs.Kept.{frozen_view}
use Rattle.model.specs.Layout.{root}
use Rattle.machine.specs.Paths.{walk}
use Rattle.live_paths.proofs.PartLemmas.{same_parts}
use Rattle.live_paths.proofs.ShownLemmas.{shown_walk}
use Rattle.live_paths.proofs.WalkLemmas.{walk_root}
use Rattle.live_paths.proofs.walking.walk.Goals as goal

pub returns-then-is_root : goal.returns-then-is_root
returns-then-is_root c = λ view shown. sym (walk_root c.args.frozen.now.geometry view c.args.path.now root (c.if-is_root.ensures.root.0 refl))

pub returns : goal.returns
returns c = λ view shown.
    c.holder.ensures ∙ ap (walk c.args.frozen.now.geometry (frozen_view c.args.frozen.now) root) (same_parts c.tail.result.now c.args.path.now c.tail.ensures (λ e. both_ways false refl (c.if-is_root.ensures.root.1 e)))
    ∙ shown_walk c.args.frozen.now view shown c.args.path.now root
