-- One more block of records, and the end of an upgrade.
use Rattle.std.proofs.Common.{◌≡◌, ◌<◌, ◌≤◌, ◌+◌, ◌-◌, ◌*◌, ◌/◌, ℕ, Bool, List, [], ◌∷◌, ◌++◌, length, slice_set, inl, inr, refl, sym, ap, ◌∙◌, subst, arith, append_assoc, append-nil, length-append, Option, Some, None, IsSome, unwrap_or, option_copied, min, ◌^◌, le_of_lt, Bor, get_or-set_same, get_or-set_other}
use Rattle.std.proofs.Math.Nat.{min-eq_left, min-eq_right}
use Rattle.std.proofs.lemmas.Bool.{cases_lt}
use Rattle.std.proofs.lemmas.List.{length-set}
use Rattle.std.proofs.lemmas.List.Elements.{All-nil, All-push}
use Rattle.model.specs.Layout.{Geometry, inode_block, inode_count}
use Rattle.model.specs.Image.{IsImage, block_at, image_view}
use Rattle.model.specs.Rules.{ObeysRules}
use Rattle.model.proofs.Addresses.{count_in_group, inode_below}
use Rattle.model.proofs.Same.{same_rules}
use Rattle.device.specs.Media.{Held, images_held}
use Rattle.device.specs.Writes.{HasFailed}
use Rattle.frozen.specs.Kept.{IsKeptOf, KeepsFrame, Kept, frozen_view, kept_at, kept_bytes}
use Rattle.frozen.proofs.FrozenLemmas.{first_is_frame, records_are_frame}
use Rattle.versions.specs.Shown.{of_version}
use Rattle.versions.proofs.Same.{same_version}
use Rattle.upgrading.specs.Upgraded.{AreOfVolume, ChangesABlock, IsSameVolume, IsUpgraded, Upgrades, last_held}
use Rattle.upgrading.specs.Steps.{Clears, HasCleared, IsPartlyCleared, IsStage, IsUpgradable, Leaves, TellsVersion, Writes, cleared, doubled}
use Rattle.upgrading.proofs.Chains.{changes_more, last_of_more}
use Rattle.upgrading.proofs.Places.{all_eights, one_block, same_eight}
use Rattle.upgrading.proofs.Stages.{double_changes, double_image, double_same, single_same, stage_partly}

kept_there : (o : Option (List ℕ)) → IsSome o → (b : List ℕ) × (o ≡ Some b)
kept_there None some = cc
kept_there (Some b) some = (b, refl)

module _ (kept : Kept) (start : List (List ℕ)) (up : IsUpgradable kept start) where
  abbrev geo : Geometry
  geo = kept.geometry

  was : IsImage geo start
  was = up.of_image.is_image

  frame_block : (a : ℕ) → IsSome (kept_at kept.blocks a) → kept_bytes kept.blocks a ≡ block_at start a
  frame_block a some = let there = kept_there (kept_at kept.blocks a) some in ap (λ o. unwrap_or o []) there.1 ∙ up.of_image.blocks a there.0 there.1

  pub first_block_is : kept_bytes kept.blocks 0 ≡ block_at start 0
  first_block_is = frame_block 0 (up.frame.frame 0 (first_is_frame kept up.frame))

  pub records_are : (m : ℕ) → m < inode_count geo → kept_bytes kept.blocks (inode_block geo m) ≡ block_at start (inode_block geo m)
  records_are m low = frame_block (inode_block geo m) (up.frame.frame (inode_block geo m) (records_are_frame kept up.frame m (count_in_group geo was.geometry m low)))

  -- ---- before the first write
  pub no_stage : IsStage geo start 0 start
  no_stage = record {
    count = refl;
    few = omega arith;
    done = λ m low. absurd (omega (arith, low));
    others = λ a none. refl;
  }

  pub none_held : AreOfVolume geo start []
  none_held = record {
    is_image = was;
    single = up.single;
    obeys = up.obeys;
    same = All-nil (IsSameVolume geo start);
    changes = tt;
  }

  -- ---- one more block
  module _ (n : ℕ) (image : List (List ℕ)) (stage : IsStage geo start n image) (inside : 8 * n < inode_count geo) where
    abbrev at : ℕ
    at = inode_block geo (8 * n)

    -- it stands as it stood at first
    untouched : block_at image at ≡ block_at start at
    untouched = stage.others at (λ m low e. let eight = same_eight geo was.geometry (8 * n) m e in omega (arith, eight, low))

    enough : 8 * (n + 1) ≤ inode_count geo
    enough = omega (arith, all_eights geo was.geometry, inside)

    in_block : (m : ℕ) → m < 8 * (n + 1) → (m < 8 * n → ⊥) → inode_block geo m ≡ at
    in_block m low not = let from : 8 * n ≤ m = elim (cases_lt m (8 * n)) [ inl less ↦ absurd (not less) | inr more ↦ more ] in
        let e : m ≡ 8 * n + (m - 8 * n) = omega arith in
        let f : 8 * n + 0 ≡ 8 * n = omega arith in
        ap (inode_block geo) e ∙ one_block geo was.geometry n (m - 8 * n) (omega arith) ∙ ap (inode_block geo) f

    on_image : at < length image
    on_image = let below = inode_below geo was.geometry (8 * n) (count_in_group geo was.geometry (8 * n) inside) in omega (arith, below, stage.count, was.count)

    left_stage : cleared (block_at start at) ≡ block_at start at → IsStage geo start (n + 1) image
    left_stage clear = record {
      count = stage.count;
      few = enough;
      done = λ m low. elim (cases_lt m (8 * n)) [
        | inl before ↦ stage.done m before
        | inr here ↦ let block = in_block m low (λ less. omega (arith, here, less)) in ap (block_at image) block ∙ untouched ∙ sym clear ∙ ap (λ a. cleared (block_at start a)) (sym block)
      ];
      others = λ a none. stage.others a (λ m low e. none m (omega (arith, low)) e);
    }

    abbrev written : List (List ℕ)
    written = slice_set image at (cleared (block_at start at))

    written_here : block_at written at ≡ cleared (block_at start at)
    written_here = get_or-set_same image at (cleared (block_at start at)) [] on_image

    written_there : (a : ℕ) → (a ≡ at → ⊥) → block_at written a ≡ block_at image a
    written_there a other = get_or-set_other image at a (cleared (block_at start at)) [] other

    written_stage : IsStage geo start (n + 1) written
    written_stage = record {
      count = length-set image at (cleared (block_at start at)) ∙ stage.count;
      few = enough;
      done = λ m low. elim (cases_lt m (8 * n)) [
        | inl before ↦ written_there (inode_block geo m) (λ e. let eight = same_eight geo was.geometry m (8 * n) e in omega (arith, eight, before)) ∙ stage.done m before
        | inr here ↦ let block = in_block m low (λ less. omega (arith, here, less)) in ap (block_at written) block ∙ written_here ∙ ap (λ a. cleared (block_at start a)) (sym block)
      ];
      others = λ a none. written_there a (λ e. none (8 * n) (omega arith) e) ∙ stage.others a (λ m low e. none m (omega (arith, low)) e);
    }

    written_same : IsSameVolume geo start written
    written_same = single_same geo start was up.single up.obeys written (stage_partly geo start was up.single up.obeys (n + 1) written written_stage)

    written_changes : (cleared (block_at start at) ≡ block_at start at → ⊥) → ChangesABlock start image written
    written_changes differs = record {
      address = at;
      on_volume = omega (arith, on_image, stage.count);
      was = untouched;
      differs = λ same. differs (sym written_here ∙ same);
      others = written_there;
    }

-- what is held with one more image
more_held : (geo : Geometry) (start : List (List ℕ)) (more : List (List (List ℕ))) (now next : List (List ℕ)) → AreOfVolume geo start more → now ≡ last_held start more
    → IsSameVolume geo start next → ChangesABlock start now next → AreOfVolume geo start (more ++ next ∷ [])
more_held geo start more now next are is same change = record {
  is_image = are.is_image;
  single = are.single;
  obeys = are.obeys;
  same = All-push (IsSameVolume geo start) more next are.same same;
  changes = changes_more start start more next are.changes (subst (λ i. ChangesABlock start i next) is change);
}

-- the superblock is there
pub first_is_there : (kept : Kept) → KeepsFrame kept → (o : Option (Bor (List ℕ))) → option_copied o ≡ kept_at kept.blocks 0 → IsSome o
first_is_there kept frame o is = go o (subst IsSome (sym is) (frame.frame 0 (first_is_frame kept frame)))
  where
    go : (o : Option (Bor (List ℕ))) → IsSome (option_copied o) → IsSome o
    go None some = some
    go (Some b) some = refl

pub first_there : (kept : Kept) (o : Option (Bor (List ℕ))) (b : Bor (List ℕ)) → option_copied o ≡ kept_at kept.blocks 0 → o ≡ Some b → b.now ≡ kept_bytes kept.blocks 0
first_there kept o b is e = ap (λ x. unwrap_or x []) (ap option_copied (sym e) ∙ is)

-- ---- a call that failed
pub has_failed : (old new : ℕ) → new ≡ min (old + 1) (2 ^ 64 - 1) → HasFailed old new
has_failed old new counted = elim (cases_lt (old + 1) (2 ^ 64 - 1)) [
  | inl low ↦ inl (let e = min-eq_left (le_of_lt low) in omega (arith, counted, e))
  | inr high ↦ inr (let e = min-eq_right high in counted ∙ e)
]

-- ---- while records are cleared
pub none_cleared : (kept : Kept) (start : List (List ℕ)) (before : Held) → HasCleared kept start before 0 start before 0
none_cleared kept start before = record {
  more = [];
  held_now = sym (append-nil (images_held before));
  image_now = refl;
  counted = refl;
  stage = no_stage kept start;
  of_volume = none_held kept start;
}

-- the device answers the same image, and what it held are the same images
pub cleared_stays : (kept : Kept) (start : List (List ℕ)) (before : Held) (n : ℕ) (image : List (List ℕ)) (held : Held) (writes : ℕ) (image' : List (List ℕ)) (held' : Held)
    → HasCleared kept start before n image held writes → image' ≡ image → images_held held' ≡ images_held held → HasCleared kept start before n image' held' writes
cleared_stays kept start before n image held writes image' held' h same_image same_held = record {
  more = h.more;
  held_now = same_held ∙ h.held_now;
  image_now = same_image ∙ h.image_now;
  counted = h.counted;
  stage = λ up. subst (IsStage kept.geometry start n) (sym same_image) (h.stage up);
  of_volume = h.of_volume;
}

pub more_cleared : (keeps_order : Bool) (kept : Kept) (start : List (List ℕ)) (before : Held) (n : ℕ) (image : List (List ℕ)) (held : Held) (writes : ℕ)
    (image' : List (List ℕ)) (held' : Held) (w : ℕ) → HasCleared kept start before n image held writes → 8 * n < inode_count kept.geometry
    → Clears keeps_order (inode_block kept.geometry (8 * n)) (kept_bytes kept.blocks (inode_block kept.geometry (8 * n))) image held image' held' w
    → HasCleared kept start before (n + 1) image' held' (writes + w)
more_cleared keeps_order kept start before n image held writes image' held' w h inside (Leaves clear same_image same_held) = record {
  more = h.more;
  held_now = ap images_held same_held ∙ h.held_now;
  image_now = same_image ∙ h.image_now;
  counted = omega (arith, h.counted);
  stage = λ up.
      subst (IsStage kept.geometry start (n + 1)) (sym same_image)
      (left_stage kept start up n image (h.stage up) inside (subst (λ b. cleared b ≡ b) (records_are kept start up (8 * n) inside) clear));
  of_volume = h.of_volume;
}
more_cleared keeps_order kept start before n image held writes image' held' w h inside (Writes differs image_is held_is went) = record {
  more = h.more ++ image' ∷ [];
  held_now = held_is ∙ ap (λ x. x ++ image' ∷ []) h.held_now ∙ append_assoc (images_held before) h.more (image' ∷ []);
  image_now = sym (last_of_more start h.more image');
  counted = let more = length-append h.more (image' ∷ []) in omega (arith, h.counted, more);
  stage = λ up. subst (IsStage kept.geometry start (n + 1)) (sym (same up)) (written_stage kept start up n image (h.stage up) inside);
  of_volume = λ up.
      more_held kept.geometry start h.more image image' (h.of_volume up) h.image_now
      (subst (IsSameVolume kept.geometry start) (sym (same up)) (written_same kept start up n image (h.stage up) inside))
      (subst (ChangesABlock start image) (sym (same up))
      (written_changes kept start up n image (h.stage up) inside (λ e. differs (subst (λ b. cleared b ≡ b) (sym (records_are kept start up (8 * n) inside)) e))));
}
  where
    same : (up : IsUpgradable kept start) → image' ≡ slice_set image (inode_block kept.geometry (8 * n)) (cleared (block_at start (inode_block kept.geometry (8 * n))))
    same up = image_is ∙ ap (λ b. slice_set image (inode_block kept.geometry (8 * n)) (cleared b)) (records_are kept start up (8 * n) inside)

-- ---- what was loaded
module _ (kept : Kept) (start : List (List ℕ)) (frame : KeepsFrame kept) (of_image : IsKeptOf kept start) (obeys : ObeysRules kept.geometry (frozen_view kept)) where
  image_obeys : ObeysRules kept.geometry (image_view kept.geometry start)
  image_obeys = (same_rules kept.geometry (frozen_view kept) (image_view kept.geometry start) of_image.metadata).0 obeys

  pub upgradable : (kept.geometry.version ≡ 2 → ⊥) → IsUpgradable kept start
  upgradable other = record {
    frame = frame;
    of_image = of_image;
    single = elim frame.geometry.known_version [ inl single ↦ single | inr double ↦ absurd (other double) ];
    obeys = image_obeys;
  }

  pub upgraded_before : (before : Held) (image : List (List ℕ)) (held : Held) → kept.geometry.version ≡ 2 → image ≡ start → images_held held ≡ images_held before
      → IsUpgraded start before image held 0
  upgraded_before before image held double same_image same_held = record {
    more = [];
    held_now = same_held ∙ sym (append-nil (images_held before));
    counted = refl;
    geometry = kept.geometry;
    was_image = of_image.is_image;
    obeyed = image_obeys;
    is_image = subst (IsImage (of_version 2 kept.geometry)) (sym same_image) (subst (λ g. IsImage g start) (sym (same_version kept.geometry 2 double)) of_image.is_image);
    again = λ two. refl;
  }

-- ---- the end
pub nothing_written : (honest : Type 0) (start : List (List ℕ)) (before : Held) (image : List (List ℕ)) (held : Held) → image ≡ start → images_held held ≡ images_held before
    → Upgrades honest start before image held
nothing_written honest start before image held same_image same_held = record {
  more = [];
  held_now = same_held ∙ sym (append-nil (images_held before));
  image_now = same_image;
  of_volume = λ h. inl refl;
}

module _ (honest : Type 0) (kept : Kept) (start : List (List ℕ)) (before : Held) (up : honest → IsUpgradable kept start) where
  -- a write of a block of records failed, or that of the superblock
  pub stopped : (n : ℕ) (image : List (List ℕ)) (held : Held) (writes : ℕ) → HasCleared kept start before n image held writes → Upgrades honest start before image held
  stopped n image held writes h = record {
    more = h.more;
    held_now = h.held_now;
    image_now = h.image_now;
    of_volume = λ is. inr (kept.geometry, h.of_volume (up is));
  }

  module _ (image : List (List ℕ)) (held : Held) (writes : ℕ) (h : HasCleared kept start before (inode_count kept.geometry / 8) image held writes)
      (image' : List (List ℕ)) (held' : Held) (tells : TellsVersion (kept_bytes kept.blocks 0) image held image' held') where
    abbrev all_held : List (List (List ℕ))
    all_held = h.more ++ image' ∷ []

    held_all : images_held held' ≡ images_held before ++ all_held
    held_all = tells.held_is ∙ ap (λ x. x ++ image' ∷ []) h.held_now ∙ append_assoc (images_held before) h.more (image' ∷ [])

    module _ (is : honest) where
      ready : IsUpgradable kept start
      ready = up is

      all : 8 * (inode_count kept.geometry / 8) ≡ inode_count kept.geometry
      all = all_eights kept.geometry ready.frame.geometry

      partly : IsPartlyCleared kept.geometry start image
      partly = stage_partly kept.geometry start ready.of_image.is_image ready.single ready.obeys (inode_count kept.geometry / 8) image (h.stage ready)

      told_is : image' ≡ slice_set image 0 (doubled (block_at start 0))
      told_is = tells.image_is ∙ ap (λ b. slice_set image 0 (doubled b)) (first_block_is kept start ready)

      all_of_volume : AreOfVolume kept.geometry start all_held
      all_of_volume =
          more_held kept.geometry start h.more image image' (h.of_volume ready) h.image_now
          (subst (IsSameVolume kept.geometry start) (sym told_is)
          (double_same kept.geometry start ready.of_image.is_image ready.single ready.obeys image partly (inode_count kept.geometry / 8) (h.stage ready) all))
          (subst (ChangesABlock start image) (sym told_is)
          (double_changes kept.geometry start ready.of_image.is_image ready.single ready.obeys image partly (inode_count kept.geometry / 8) (h.stage ready) all))

      pub upgraded : IsUpgraded start before image' held' (writes + 1)
      upgraded = record {
        more = all_held;
        held_now = held_all;
        counted = let more = length-append h.more (image' ∷ []) in omega (arith, h.counted, more);
        geometry = kept.geometry;
        was_image = ready.of_image.is_image;
        obeyed = ready.obeys;
        is_image =
            subst (IsImage (of_version 2 kept.geometry)) (sym told_is)
            (double_image kept.geometry start ready.of_image.is_image ready.single ready.obeys image partly (inode_count kept.geometry / 8) (h.stage ready) all);
        again = λ two. absurd (omega (arith, two, ready.single));
      }

    -- all is written
    pub finished : Upgrades honest start before image' held'
    finished = record {
      more = all_held;
      held_now = held_all;
      image_now = sym (last_of_more start h.more image');
      of_volume = λ is. inr (kept.geometry, all_of_volume is);
    }
