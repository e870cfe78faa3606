use Rattle.std.proofs.Common.{◌≡◌, ap, ◌∙◌, sym, subst}
use Rattle.frozen.specs.Kept.{KeepsFrame}
use Rattle.frozen.specs.Shared.{shared_blocks}
use Rattle.frozen.proofs.CopyLemmas.{copies_hold_the_same}
use Rattle.frozen.proofs.held.Held.copy.Goals as goal

copied : (c : goal.In_ok-to_vec) → shared_blocks c.in_ok-to_vec.field-0.items ≡ shared_blocks c.self.inside.blocks.items
copied c = copies_hold_the_same _ (λ y r. r) (λ x r. r) (λ x y r. r) _ _ c.in_ok-to_vec.ensures.ok ∙ ap shared_blocks c.as_slice.ensures.value

pub invariant_of-result : goal.invariant_of-result
invariant_of-result c = subst (λ blocks. KeepsFrame (record { geometry = c.self.inside.geometry; blocks = blocks })) (sym (copied c)) c.self.invariant

pub returns : goal.returns
returns c = ap (λ blocks. record { geometry = c.self.inside.geometry; blocks = blocks }) (copied c) ∙ c.self.view_is
