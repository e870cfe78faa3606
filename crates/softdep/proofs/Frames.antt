-- What writes leave of the frame of an image, whichever of them arrive.
use Rattle.std.proofs.Common.{◌≡◌, ℕ, zero, suc, ◌+◌, ◌<◌, Bool, true, false, List, [], ◌∷◌, refl, sym, subst, length, arith, slice_set}
use Rattle.std.specs.List.{All}
use Rattle.std.proofs.lemmas.List.Elements.{All-cons, All-nil, All-set}
use Rattle.model.specs.Layout.{Geometry}
use Rattle.model.specs.Image.{IsBlock, IsImage}
use Rattle.device.specs.Media.{Medium, MayBeLeft, chosen, image_of}
use Rattle.device.specs.Writes.{Write, image_after}
use Rattle.softdep.specs.OnMedium.{KeepsFrame}
use Rattle.softdep.proofs.Framed.{framed}

head_of : {A : Type 0} (P : A → Type 0) (x : A) (xs : List A) → All P (x ∷ xs) → P x
head_of P x xs all = all 0 x (omega arith)

tail_of : {A : Type 0} (P : A → Type 0) (x : A) (xs : List A) → All P (x ∷ xs) → All P xs
tail_of P x xs all = λ k d low. all (suc k) d (omega (arith, low))

module _ (geo : Geometry) where
  pub write_frames : (image : List (List ℕ)) (w : Write) → IsImage geo image → KeepsFrame geo w → IsImage geo (slice_set image w.0 w.1)
  write_frames image w is keeps =
      framed geo image (slice_set image w.0 w.1) w.0 w.1 is (All-set IsBlock image w.0 w.1 keeps.block is.blocks) refl (let low = keeps.low in let count = is.count in omega (arith, low, count)) keeps.above keeps.maps

  pub image_frames : (image : List (List ℕ)) (ws : List Write) → IsImage geo image → All (KeepsFrame geo) ws → IsImage geo (image_after image ws)
  image_frames image [] is all = is
  image_frames image (w ∷ ws) is all = image_frames (slice_set image w.0 w.1) ws (write_frames image w is (head_of (KeepsFrame geo) w ws all)) (tail_of (KeepsFrame geo) w ws all)

  chosen_frames : (ws : List Write) (picks : List Bool) → All (KeepsFrame geo) ws → All (KeepsFrame geo) (chosen ws picks)
  chosen_frames [] picks all = all
  chosen_frames (w ∷ ws) [] all = All-nil (KeepsFrame geo)
  chosen_frames (w ∷ ws) (true ∷ picks) all = All-cons (KeepsFrame geo) w (chosen ws picks) (head_of (KeepsFrame geo) w ws all) (chosen_frames ws picks (tail_of (KeepsFrame geo) w ws all))
  chosen_frames (w ∷ ws) (false ∷ picks) all = chosen_frames ws picks (tail_of (KeepsFrame geo) w ws all)

  -- whatever may be left is an image
  pub left_frames : (m : Medium) (image : List (List ℕ)) → IsImage geo m.durable → All (KeepsFrame geo) m.loose → MayBeLeft m image → IsImage geo image
  left_frames m image is all left = subst (IsImage geo) (sym left.1) (image_frames m.durable (chosen m.loose left.0) is (chosen_frames m.loose left.0 all))
