-- The numbers of one group more are known.
use Rattle.std.proofs.Common.{◌≡◌, ◌<◌, ◌+◌, ◌*◌, ◌++◌, ◌∷◌, [], length, refl, sym, ap, ◌∙◌, subst, arith, append_assoc, length-append}
use Rattle.std.proofs.lemmas.List.{length_push}
use Rattle.std.proofs.lemmas.Option.{slice_get_within}
use Rattle.frozen.specs.Kept.{frozen_view}
use Rattle.frozen.specs.Kinds.{AreKinds}
use Rattle.loaders.proofs.FrameLemmas.{next_at}
use Rattle.loaders.proofs.LookLemmas.{kinds_behind}
use Rattle.loaders.proofs.looking.in_a_row.Goals as goal

pub loop-part-preserved : goal.loop-part-preserved
loop-part-preserved c =
    let kept = c.args.held.now in
    let i = c.loop-part.invariant in
    let done = c.loop-part.yielded in
    let part = c.in-Some.part in
    let whole = ap (λ es. done ++ es) (sym c.in-Some.ensures.steps.0) ∙ i.rest in
    let at = next_at done part c.next.new.self.rest.items c.args.parts.items (length done) whole refl in
    let low : length done < kept.geometry.groups = subst (λ n. length done < n) c.requires.count (slice_get_within c.args.parts.items (length done) part at) in
    let told = c.requires.told (length done) part at in
    let some : length part.items ≡ kept.geometry.inodes = told.count low in
    let one : (length done + 1) * kept.geometry.inodes ≡ length done * kept.geometry.inodes + kept.geometry.inodes = omega arith in
    record {
      rest = append_assoc done (part ∷ []) c.next.new.self.rest.items ∙ whole;
      count = ap length c.in_ok-append.ensures.items ∙ length-append c.loop-part.kinds.items part.items ∙ ap (λ n. n + length part.items) i.count
          ∙ ap (λ n. length done * kept.geometry.inodes + n) some ∙ sym one ∙ ap (λ n. n * kept.geometry.inodes) (sym (length_push done part));
      kinds = subst (AreKinds kept.geometry (frozen_view kept)) (sym c.in_ok-append.ensures.items)
          (kinds_behind kept.geometry (frozen_view kept) c.loop-part.kinds.items part.items (length done * kept.geometry.inodes) i.count i.kinds told.kinds);
    }
