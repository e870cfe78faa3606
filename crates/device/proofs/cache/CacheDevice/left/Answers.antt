use Rattle.std.proofs.Common.{rules, ◌≡◌, ◌-◌, [], sym, ap, ◌∙◌, arith, subst, length, take, drop, length-drop, All}
use Rattle.std.proofs.lemmas.List.{take_all}
use Rattle.std.proofs.lemmas.Result.{MatchResult-weaker}
use Rattle.device.specs.Cached.{Cache, held_by, left_of}
use Rattle.device.specs.Media.{chosen, writes_in}
use Rattle.device.specs.Memory.{IsWriteTo}
use Rattle.device.specs.Writes.{image_after}
use Rattle.device.proofs.MediaLemmas.{left_count, left_is, left_whole, writes_in-drop, writes_in-take}
use Rattle.device.proofs.WriteLemmas.{length-image_after}
use Rattle.device.proofs.cache.CacheDevice.left.Goals as goal

pub make_all-requires : goal.make_all-requires
make_all-requires c =
    let inside = c.self.inside in
    let made : c.in_ok-made.made.now ≡ take c.args.steps inside.steps.items = search rules in
    let first : c.in_ok-blocks.blocks.items ≡ inside.first.items = c.in_ok-blocks.ensures.items ∙ c.as_slice.ensures.value in
    subst (λ blocks. All (IsWriteTo (length blocks)) (writes_in (take c.last_sync-synced.result c.in_ok-made.made.now))) (sym first)
    (writes_in-take (IsWriteTo (length inside.first.items)) c.last_sync-synced.result c.in_ok-made.made.now
    (subst (λ ss. All (IsWriteTo (length inside.first.items)) (writes_in ss)) (sym made) (writes_in-take (IsWriteTo (length inside.first.items)) c.args.steps inside.steps.items c.self.invariant.written)))

pub make_picked-requires : goal.make_picked-requires
make_picked-requires c =
    let inside = c.self.inside in
    let n = c.last_sync-synced.result in
    let made : c.in_ok-made.made.now ≡ take c.args.steps inside.steps.items = search rules in
    let first : c.in_ok-blocks.blocks.items ≡ inside.first.items = c.in_ok-blocks.ensures.items ∙ c.as_slice.ensures.value in
    let count : length c.make_all.new.blocks.items ≡ length inside.first.items =
    ap length c.make_all.ensures ∙ length-image_after c.in_ok-blocks.blocks.items (writes_in (take n c.in_ok-made.made.now)) ∙ ap length first in
    let behind : take (length c.in_ok-made.made.now - n) (drop n c.in_ok-made.made.now) ≡ drop n c.in_ok-made.made.now =
    take_all (length c.in_ok-made.made.now - n) (drop n c.in_ok-made.made.now) (omega (arith, length-drop n c.in_ok-made.made.now)) in
    subst (λ k. All (IsWriteTo k) (writes_in (take (length c.in_ok-made.made.now - n) (drop n c.in_ok-made.made.now)))) (sym count)
    (subst (λ ss. All (IsWriteTo (length inside.first.items)) (writes_in ss)) (sym behind)
    (writes_in-drop (IsWriteTo (length inside.first.items)) n c.in_ok-made.made.now
    (subst (λ ss. All (IsWriteTo (length inside.first.items)) (writes_in ss)) (sym made) (writes_in-take (IsWriteTo (length inside.first.items)) c.args.steps inside.steps.items c.self.invariant.written))))

pub of_blocks-requires-clause-whole : goal.of_blocks-requires-clause-whole
of_blocks-requires-clause-whole c =
    let inside = c.self.inside in
    let n = c.last_sync-synced.result in
    let made : c.in_ok-made.made.now ≡ take c.args.steps inside.steps.items = search rules in
    let first : c.in_ok-blocks.blocks.items ≡ inside.first.items = c.in_ok-blocks.ensures.items ∙ c.as_slice.ensures.value in
    let before = c.make_all.ensures ∙ ap (λ image. image_after image (writes_in (take n c.in_ok-made.made.now))) first in
    let behind = c.make_picked.ensures ∙ ap (λ ss. image_after c.make_all.new.blocks.items (writes_in (chosen ss c.args.picks.now)))
    (take_all (length c.in_ok-made.made.now - n) (drop n c.in_ok-made.made.now) (omega (arith, length-drop n c.in_ok-made.made.now))) in
    left_whole inside.first.items c.make_all.new.blocks.items c.make_picked.new.blocks.items c.in_ok-made.made.now n c.args.picks.now before behind c.self.invariant.began
    (subst (λ ss. All (IsWriteTo (length inside.first.items)) (writes_in ss)) (sym made) (writes_in-take (IsWriteTo (length inside.first.items)) c.args.steps inside.steps.items c.self.invariant.written))

pub of_blocks-requires-clause-few : goal.of_blocks-requires-clause-few
of_blocks-requires-clause-few c =
    let inside = c.self.inside in
    let n = c.last_sync-synced.result in
    let first : c.in_ok-blocks.blocks.items ≡ inside.first.items = c.in_ok-blocks.ensures.items ∙ c.as_slice.ensures.value in
    let before = c.make_all.ensures ∙ ap (λ image. image_after image (writes_in (take n c.in_ok-made.made.now))) first in
    let behind = c.make_picked.ensures ∙ ap (λ ss. image_after c.make_all.new.blocks.items (writes_in (chosen ss c.args.picks.now)))
    (take_all (length c.in_ok-made.made.now - n) (drop n c.in_ok-made.made.now) (omega (arith, length-drop n c.in_ok-made.made.now))) in
    let count = left_count inside.first.items c.make_all.new.blocks.items c.make_picked.new.blocks.items c.in_ok-made.made.now n c.args.picks.now before behind in
    omega (arith, count, ap length c.self.invariant.kept, length-image_after inside.first.items (writes_in inside.steps.items), c.self.invariant.few)

pub returns-clause-left : goal.returns-clause-left
returns-clause-left c =
    let inside = c.self.inside in
    let n = c.last_sync-synced.result in
    let made : c.in_ok-made.made.now ≡ take c.args.steps inside.steps.items = search rules in
    let first : c.in_ok-blocks.blocks.items ≡ inside.first.items = c.in_ok-blocks.ensures.items ∙ c.as_slice.ensures.value in
    let before = c.make_all.ensures ∙ ap (λ image. image_after image (writes_in (take n c.in_ok-made.made.now))) first in
    let behind = c.make_picked.ensures ∙ ap (λ ss. image_after c.make_all.new.blocks.items (writes_in (chosen ss c.args.picks.now)))
    (take_all (length c.in_ok-made.made.now - n) (drop n c.in_ok-made.made.now) (omega (arith, length-drop n c.in_ok-made.made.now))) in
    let left = left_is inside.first.items c.make_all.new.blocks.items c.make_picked.new.blocks.items c.in_ok-made.made.now n c.args.picks.now before behind c.last_sync-synced.ensures.medium c.last_sync-synced.ensures.writes
    ∙ ap (λ ss. image_after (held_by inside.first.items ss).now.durable (chosen (held_by inside.first.items ss).now.loose c.args.picks.now)) made
    ∙ ap (λ (d : Cache). left_of d c.args.steps c.args.picks.now) c.self.view_is in
    MatchResult-weaker c.of_blocks.result c.of_blocks.ensures (λ device is. is ∙ ap (λ image. record { first = image; writes = []; failures = 0 }) left) (λ _ _. tt)
