-- What a device answers, and that one which keeps order loses nothing: what the laws of devices cite.
use Rattle.std.specs.Prelude.{◌≡◌, ℕ, Bool, true, false, List, [], ◌∷◌, ◌++◌, All, slice_set}
use Rattle.std.proofs.Common.{refl, ap, ◌∙◌}
use Rattle.std.proofs.lemmas.List.Elements.{All-nil, All-push}
use Rattle.device.specs.declared.cache.Step.{Step}
use Rattle.device.specs.declared.cache.Step.TheVariants.{Wrote, Synced}
use Rattle.device.specs.Media.{Held, IsInOrder, Medium, begun, held_after, image_of, settled_on, step, steps_of, written, writes_in, wrote}
use Rattle.device.specs.Writes.{Write, image_after}

-- the image after one more write
pub image_after-push : (image : List (List ℕ)) (ws : List Write) (w : Write) → image_after image (ws ++ w ∷ []) ≡ slice_set (image_after image ws) w.0 w.1
image_after-push image [] w = refl
image_after-push image (v ∷ ws) w = image_after-push (slice_set image v.0 v.1) ws w

-- what a device answers after a write
pub image_of-written : (k : Bool) (m : Medium) (a : ℕ) (block : List ℕ) → image_of (written k m a block) ≡ slice_set (image_of m) a block
image_of-written true m a block = image_after-push m.durable m.loose (a, block)
image_of-written false m a block = image_after-push m.durable m.loose (a, block)

-- and after these steps
pub image_of-held_after : (k : Bool) (h : Held) (ss : List Step) → image_of (held_after k h ss).now ≡ image_after (image_of h.now) (writes_in ss)
image_of-held_after k h [] = refl
image_of-held_after k h (Wrote a block ∷ ss) = image_of-held_after k (wrote k h a block) ss ∙ ap (λ image. image_after image (writes_in ss)) (image_of-written k h.now a block)
image_of-held_after k h (Synced ∷ ss) = image_of-held_after k (step k h Synced) ss

-- a device that keeps order
pub in_order_begun : (image : List (List ℕ)) → IsInOrder (begun (settled_on image))
in_order_begun image = record { media = All-push (λ (m : Medium). m.loose ≡ []) [] (settled_on image) (All-nil (λ (m : Medium). m.loose ≡ [])) refl; now = refl }

pub in_order_after : (h : Held) (ss : List Step) → IsInOrder h → IsInOrder (held_after true h ss)
in_order_after h [] is = is
in_order_after h (Wrote a block ∷ ss) is = in_order_after (wrote true h a block) ss (record {
  media = All-push (λ (m : Medium). m.loose ≡ []) h.media (written true h.now a block) is.media refl;
  now = refl;
})
in_order_after h (Synced ∷ ss) is = in_order_after (step true h Synced) ss (record { media = is.media; now = refl })

-- writes as steps
pub writes_in-steps_of : (ws : List Write) → writes_in (steps_of ws) ≡ ws
writes_in-steps_of [] = refl
writes_in-steps_of (w ∷ ws) = ap (λ vs. w ∷ vs) (writes_in-steps_of ws)
