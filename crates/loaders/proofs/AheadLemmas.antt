-- Blocks that are read ahead, one call after another.
use Rattle.std.proofs.Common.{◌≡◌, ◌++◌, ◌∷◌, [], ℕ, List, refl, sym, ◌∙◌, subst, arith}
use Rattle.std.proofs.lemmas.List.Elements.{All-push}
use Rattle.model.specs.Layout.{Geometry}
use Rattle.device.specs.Media.{Held}
use Rattle.device.specs.Reading.{ReadsOnly}
use Rattle.device.proofs.ReadingLemmas.{reads_on}
use Rattle.frozen.specs.declared.frozen.Placed.{Placed}
use Rattle.loaders.specs.declared.reader.Reader.{Reader}
use Rattle.loaders.specs.Readers.{AreAhead, IsOfData, IsPlacedOf, ReadsAhead}

-- what is said where reads were honest holds where they were for a better reason
pub ahead_less : (more less : Type 0) → (less → more) → (geo : Geometry) (image : List (List ℕ)) (ahead : List Placed) → AreAhead more geo image ahead → AreAhead less geo image ahead
ahead_less more less from geo image ahead all = λ k d within. ((all k d within).0, λ l. (all k d within).1 (from l))

-- nothing was read ahead
pub ahead_nothing : (honest : Type 0) (geo : Geometry) (image : List (List ℕ)) (ahead : List Placed) → ahead ≡ [] → AreAhead honest geo image ahead
ahead_nothing honest geo image ahead none = subst (AreAhead honest geo image) (sym none) (λ k d low. absurd (omega (arith, low)))

-- the same blocks, of a volume and an image that are the same
pub ahead_same : (honest : Type 0) (geo geo' : Geometry) (image image' : List (List ℕ)) (ahead : List Placed) → geo ≡ geo' → image ≡ image' → AreAhead honest geo image ahead → AreAhead honest geo' image' ahead
ahead_same honest geo geo' image image' ahead volume same all =
    subst (λ (g : Geometry). AreAhead honest g image' ahead) volume (subst (λ (i : List (List ℕ)). AreAhead honest geo i ahead) same all)

module _ {D : Type 0} {honest_of : D → Type 0} {image_of : D → List (List ℕ)} {held_of : D → Held} where
  -- a worker that read nothing more
  pub ahead_still : (old new : Reader D) → new.geometry ≡ old.geometry → new.ahead ≡ old.ahead → ReadsOnly honest_of image_of held_of old.device new.device → ReadsAhead honest_of image_of held_of old new
  ahead_still old new geometry ahead reads = record {
    geometry = geometry;
    reads = reads;
    ahead = λ all. subst (λ v. AreAhead (honest_of new.device) old.geometry (image_of old.device) v.items) (sym ahead)
        (ahead_less (honest_of old.device) (honest_of new.device) reads.honest old.geometry (image_of old.device) old.ahead.items all);
  }

  pub ahead_none : (reader : Reader D) → ReadsAhead honest_of image_of held_of reader reader
  ahead_none reader = ahead_still reader reader refl refl (record { same = refl; held = refl; honest = λ h. h })

  -- one block more
  pub ahead_more : (old new : Reader D) (placed : Placed) → new.geometry ≡ old.geometry → new.ahead.items ≡ old.ahead.items ++ placed ∷ [] → ReadsOnly honest_of image_of held_of old.device new.device
      → IsOfData old.geometry placed → (honest_of new.device → IsPlacedOf (image_of old.device) placed) → ReadsAhead honest_of image_of held_of old new
  ahead_more old new placed geometry ahead reads of told = record {
    geometry = geometry;
    reads = reads;
    ahead = λ all. subst (AreAhead (honest_of new.device) old.geometry (image_of old.device)) (sym ahead)
        (All-push (λ (one : Placed). IsOfData old.geometry one × (honest_of new.device → IsPlacedOf (image_of old.device) one)) old.ahead.items placed
        (ahead_less (honest_of old.device) (honest_of new.device) reads.honest old.geometry (image_of old.device) old.ahead.items all) (of, told));
  }

  -- one call after another
  pub ahead_on : {first middle last : Reader D} → ReadsAhead honest_of image_of held_of first middle → ReadsAhead honest_of image_of held_of middle last → ReadsAhead honest_of image_of held_of first last
  ahead_on {first} {middle} {last} before after = record {
    geometry = after.geometry ∙ before.geometry;
    reads = reads_on before.reads after.reads;
    ahead = λ all. ahead_same (honest_of last.device) middle.geometry first.geometry (image_of middle.device) (image_of first.device) last.ahead.items before.geometry before.reads.same
        (after.ahead (ahead_same (honest_of middle.device) first.geometry middle.geometry (image_of first.device) (image_of middle.device) middle.ahead.items (sym before.geometry) (sym before.reads.same) (before.ahead all)));
  }
