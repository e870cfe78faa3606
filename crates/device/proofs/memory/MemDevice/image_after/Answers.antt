use Rattle.std.proofs.Common.{rules, ◌≡◌, sym, ap, ◌∙◌, arith, subst, length, take, All}
use Rattle.std.proofs.lemmas.List.Elements.{All-take}
use Rattle.model.specs.Image.{IsBlock}
use Rattle.device.specs.Memory.{IsWriteTo}
use Rattle.device.specs.Writes.{image_after}
use Rattle.device.proofs.WriteLemmas.{whole_after_writes, length-image_after}
use Rattle.device.proofs.memory.MemDevice.image_after.Goals as goal

pub of_blocks-requires-clause-whole : goal.of_blocks-requires-clause-whole
of_blocks-requires-clause-whole c =
    let made : c.in_ok-made.made.now ≡ take c.args.writes c.self.inside.writes.items = search rules in
    let first : c.in_ok-first.first.items ≡ c.self.inside.first.items = c.in_ok-first.ensures.items ∙ c.as_slice.ensures.value in
    let after = c.write_all.ensures ∙ ap (λ image. image_after image c.in_ok-made.made.now) first in
    subst (All IsBlock) (sym after)
    (whole_after_writes c.self.inside.first.items (length c.self.inside.first.items) c.in_ok-made.made.now c.self.invariant.began
    (subst (All (IsWriteTo (length c.self.inside.first.items))) (sym made) (All-take (IsWriteTo (length c.self.inside.first.items)) c.args.writes c.self.inside.writes.items c.self.invariant.written)))

pub of_blocks-requires-clause-few : goal.of_blocks-requires-clause-few
of_blocks-requires-clause-few c =
    let first : c.in_ok-first.first.items ≡ c.self.inside.first.items = c.in_ok-first.ensures.items ∙ c.as_slice.ensures.value in
    let after = c.write_all.ensures ∙ ap (λ image. image_after image c.in_ok-made.made.now) first in
    omega (arith, ap length after, length-image_after c.self.inside.first.items c.in_ok-made.made.now, ap length c.self.invariant.kept, length-image_after c.self.inside.first.items c.self.inside.writes.items, c.self.invariant.few)
