-- What a loss of power leaves at each moment of an upgrade.
use Rattle.std.proofs.Common.{◌≡◌, ◌<◌, ◌+◌, ◌*◌, ◌/◌, ℕ, Bool, List, [], ◌∷◌, ◌++◌, length, inl, inr, ◌⊎◌, refl, sym, ap, ◌∙◌, subst, slice_set, arith, append_assoc, append-nil, get_or-set_same, get_or-set_other}
use Rattle.std.proofs.lemmas.Bool.{cases_eq}
use Rattle.std.proofs.lemmas.List.{length-set}
use Rattle.std.proofs.lemmas.List.Elements.{All-nil, All-push, All-weaker}
use Rattle.model.specs.Layout.{Geometry, inode_block, inode_count}
use Rattle.model.specs.Image.{IsImage, block_at}
use Rattle.model.proofs.Addresses.{count_in_group, inode_below}
use Rattle.device.specs.Media.{Held, MayBeLeft, Medium, image_of, settled, settled_on, synced, written, wrote}
use Rattle.frozen.specs.Kept.{Kept, kept_bytes}
use Rattle.upgrading.specs.Upgraded.{IsSameVolume, KeepsVolume, LeaveVolume, LeavesVolume}
use Rattle.upgrading.specs.Steps.{Clears, GoesToVersion, HasCleared, HasLeft, IsPartlyCleared, IsUpgradable, Leaves, LeavesPartlyCleared, Stays, Told, Waited, WaitedAgain, Writes, cleared, doubled}
use Rattle.upgrading.proofs.Ends.{first_block_is, records_are}
use Rattle.upgrading.proofs.Left.{Raised, answered_leaves, left_length, raise, settled_leaves, written_leaves}
use Rattle.upgrading.proofs.Places.{all_eights}
use Rattle.upgrading.proofs.Stages.{double_same, single_same, stage_partly}

-- ---- while records are cleared

not_cleared : (geo : Geometry) (image : List (List ℕ)) → IsPartlyCleared geo image image
not_cleared geo image = record { count = refl; each = λ a. inr refl }

pub none_left : (kept : Kept) (start : List (List ℕ)) (before : Held) → HasLeft kept start before before
none_left kept start before = record {
  more = [];
  media = sym (append-nil before.media);
  each = λ up. All-nil (LeavesPartlyCleared kept.geometry before.now);
  now = λ up image may. (image, may, not_cleared kept.geometry image);
}

-- one more block of records is written with its records cleared
module _ (keeps_order : Bool) (geo : Geometry) (before m : Medium) (a n : ℕ) (block : List ℕ) (low : n < inode_count geo) (here : a ≡ inode_block geo n)
    (within : a < length (image_of before)) (is : block ≡ cleared (block_at (image_of before) a)) (leaves : LeavesPartlyCleared geo before m) where
  module _ (left was : List (List ℕ)) (might : MayBeLeft before was) (partly : IsPartlyCleared geo was left) where
    abbrev other : Raised before was a
    other = raise before was a might

    inside : a < length left
    inside = let long = left_length before was might in omega (arith, within, long, partly.count)

    set_partly : IsPartlyCleared geo other.image (slice_set left a block)
    set_partly = record {
      count = length-set left a block ∙ partly.count ∙ left_length before was might ∙ sym (left_length before other.image other.might);
      each = λ b. elim (cases_eq b a) [
        | inl e ↦ inl (n, low, e ∙ here, ap (block_at (slice_set left a block)) e ∙ get_or-set_same left a block [] inside ∙ is ∙ ap cleared (sym other.here ∙ ap (block_at other.image) (sym e)))
        | inr d ↦ elim (partly.each b) [
          | inl is ↦ inl (is.0, is.1, is.2, get_or-set_other left a b block [] d ∙ is.3 ∙ ap cleared (sym (other.others b d)))
          | inr same ↦ inr (get_or-set_other left a b block [] d ∙ same ∙ sym (other.others b d))
        ]
      ];
    }

  pub written_partly : LeavesPartlyCleared geo before (written keeps_order m a block)
  written_partly image may =
      let l = written_leaves keeps_order m a block image may in
      let p = leaves l.0 l.1 in
      elim l.2 [
        | inl is ↦ let other = raise before p.0 a p.1 in (other.image, other.might, subst (IsPartlyCleared geo other.image) (sym is) (set_partly l.0 p.0 p.1 p.2))
        | inr same ↦ (p.0, p.1, subst (IsPartlyCleared geo p.0) (sym same) p.2)
      ]

pub more_left : (keeps_order : Bool) (kept : Kept) (start : List (List ℕ)) (before : Held) (n : ℕ) (image : List (List ℕ)) (held : Held) (image' : List (List ℕ)) (held' : Held) (w : ℕ)
    → start ≡ image_of before.now → HasLeft kept start before held → 8 * n < inode_count kept.geometry
    → Clears keeps_order (inode_block kept.geometry (8 * n)) (kept_bytes kept.blocks (inode_block kept.geometry (8 * n))) image held image' held' w
    → HasLeft kept start before held'
more_left keeps_order kept start before n image held image' held' w answers left inside (Leaves clear same_image same_held) = subst (HasLeft kept start before) (sym same_held) left
more_left keeps_order kept start before n image held image' held' w answers left inside (Writes differs image_is held_is went) = record {
  more = left.more ++ next ∷ [];
  media = ap (λ (h : Held). h.media) went ∙ ap (λ ms. ms ++ next ∷ []) left.media ∙ append_assoc before.media left.more (next ∷ []);
  each = λ up. All-push (LeavesPartlyCleared kept.geometry before.now) left.more next (left.each up) (leaves up);
  now = λ up. subst (λ (h : Held). LeavesPartlyCleared kept.geometry before.now h.now) (sym went) (leaves up);
}
  where
    at : ℕ
    at = inode_block kept.geometry (8 * n)

    block : List ℕ
    block = cleared (kept_bytes kept.blocks at)

    next : Medium
    next = written keeps_order held.now at block

    leaves : IsUpgradable kept start → LeavesPartlyCleared kept.geometry before.now next
    leaves up =
        let was = up.of_image.is_image in
        let below = inode_below kept.geometry was.geometry (8 * n) (count_in_group kept.geometry was.geometry (8 * n) inside) in
        written_partly keeps_order kept.geometry before.now held.now at (8 * n) block inside refl
        (subst (λ i. at < length i) answers (omega (arith, below, was.count)))
        (ap cleared (records_are kept start up (8 * n) inside) ∙ ap (λ i. cleared (block_at i at)) answers)
        (left.now up)

-- ---- the volume

pub partly_volume : (geo : Geometry) (before m : Medium) → geo.version ≡ 1 → LeavesPartlyCleared geo before m → LeavesVolume geo before m
partly_volume geo before m single leaves image may =
    let p = leaves image may in record { was = p.0; might = p.1; same = λ is obeys. single_same geo p.0 is single obeys image p.2 }

pub settled_volume : (geo : Geometry) (before m : Medium) → LeavesVolume geo before m → LeavesVolume geo before (settled m)
settled_volume geo before m leaves image may = leaves image (settled_leaves m image may)

-- nothing was written
pub nothing_left : (honest : Type 0) (start : List (List ℕ)) (before held : Held) → held ≡ before → KeepsVolume honest start before held
nothing_left honest start before held same = record {
  more = [];
  media = ap (λ (h : Held). h.media) same ∙ sym (append-nil before.media);
  of_volume = λ h. inl (refl, λ image may. subst (λ (h : Held). MayBeLeft h.now image) same may);
}

-- and then it was waited for the medium
pub then_waited : (honest : Type 0) (start : List (List ℕ)) (before held : Held) → KeepsVolume honest start before held → KeepsVolume honest start before (synced held)
then_waited honest start before held keeps = record {
  more = keeps.more;
  media = keeps.media;
  of_volume = λ is. elim (keeps.of_volume is) [
    | inl none ↦ inl (none.0, λ image may. none.1 image (settled_leaves held.now image may))
    | inr some ↦ inr (some.0, settled_too some.0 some.1)
  ];
}
  where
    settled_too : (geo : Geometry) → LeaveVolume geo start before.now keeps.more held.now → LeaveVolume geo start before.now keeps.more (settled held.now)
    settled_too geo leaves = record {
      is_image = leaves.is_image;
      single = leaves.single;
      obeys = leaves.obeys;
      each = leaves.each;
      last = λ image may. leaves.last image (settled_leaves held.now image may);
    }

pub waited_left : (honest : Type 0) (start : List (List ℕ)) (before loaded held : Held) → loaded ≡ before → held ≡ synced loaded → KeepsVolume honest start before held
waited_left honest start before loaded held same waited = subst (KeepsVolume honest start before) (sym waited) (then_waited honest start before loaded (nothing_left honest start before loaded same))

-- all that the device answers is on the medium
pub all_settled : (held held' : Held) (image image' : List (List ℕ)) → image ≡ image_of held.now → image' ≡ image → held' ≡ synced held → held'.now ≡ settled_on image'
all_settled held held' image image' answers same waited = ap (λ (h : Held). h.now) waited ∙ ap settled_on (sym (same ∙ answers))

module _ (honest : Type 0) (kept : Kept) (start : List (List ℕ)) (before : Held) (up : honest → IsUpgradable kept start) (held : Held) (left : HasLeft kept start before held) where
  cleared_volume : IsUpgradable kept start → LeaveVolume kept.geometry start before.now left.more held.now
  cleared_volume ready = record {
    is_image = ready.of_image.is_image;
    single = ready.single;
    obeys = ready.obeys;
    each =
        All-weaker (LeavesPartlyCleared kept.geometry before.now) (LeavesVolume kept.geometry before.now)
        (λ m. partly_volume kept.geometry before.now m ready.single) left.more (left.each ready);
    last = partly_volume kept.geometry before.now held.now ready.single (left.now ready);
  }

  -- some blocks of records are cleared
  pub stopped_left : KeepsVolume honest start before held
  stopped_left = record { more = left.more; media = left.media; of_volume = λ is. inr (kept.geometry, cleared_volume (up is)) }

  -- and then all of them are, and on the medium
  module _ (keeps_order : Bool) (image : List (List ℕ)) (writes : ℕ) (h : HasCleared kept start before (inode_count kept.geometry / 8) image held writes)
      (first : start ≡ image_of before.now) (answers : image ≡ image_of held.now) where
    abbrev superblock : List ℕ
    superblock = doubled (kept_bytes kept.blocks 0)

    abbrev told : Held
    told = wrote keeps_order (synced held) 0 superblock

    module _ (ready : IsUpgradable kept start) where
      was : IsImage kept.geometry start
      was = ready.of_image.is_image

      all : 8 * (inode_count kept.geometry / 8) ≡ inode_count kept.geometry
      all = all_eights kept.geometry ready.frame.geometry

      partly : IsPartlyCleared kept.geometry start image
      partly = stage_partly kept.geometry start was ready.single ready.obeys (inode_count kept.geometry / 8) image (h.stage ready)

      told_same : (now : List (List ℕ)) → (now ≡ slice_set image 0 superblock) ⊎ (now ≡ image) → IsSameVolume kept.geometry start now
      told_same now (inl is) =
          subst (IsSameVolume kept.geometry start) (sym (is ∙ ap (λ b. slice_set image 0 (doubled b)) (first_block_is kept start ready)))
          (double_same kept.geometry start was ready.single ready.obeys image partly (inode_count kept.geometry / 8) (h.stage ready) all)
      told_same now (inr is) = subst (IsSameVolume kept.geometry start) (sym is) (single_same kept.geometry start was ready.single ready.obeys image partly)

      told_leaves : LeavesVolume kept.geometry before.now told.now
      told_leaves now may =
          let l = written_leaves keeps_order (settled held.now) 0 superblock now may in
          let stands : l.0 ≡ image = l.1.1 ∙ sym answers in
          record {
            was = start;
            might = subst (MayBeLeft before.now) (sym first) (answered_leaves before.now);
            same = λ is obeys. told_same now (elim l.2 [ inl is ↦ inl (is ∙ ap (λ i. slice_set i 0 superblock) stands) | inr same ↦ inr (same ∙ stands) ]);
          }

      told_volume : LeaveVolume kept.geometry start before.now (left.more ++ told.now ∷ []) told.now
      told_volume = record {
        is_image = was;
        single = ready.single;
        obeys = ready.obeys;
        each = All-push (LeavesVolume kept.geometry before.now) left.more told.now (cleared_volume ready).each told_leaves;
        last = told_leaves;
      }

    told_keeps : KeepsVolume honest start before told
    told_keeps = record {
      more = left.more ++ told.now ∷ [];
      media = ap (λ ms. ms ++ told.now ∷ []) left.media ∙ append_assoc before.media left.more (told.now ∷ []);
      of_volume = λ is. inr (kept.geometry, told_volume (up is));
    }

    pub gone_left : (held' : Held) → GoesToVersion keeps_order (kept_bytes kept.blocks 0) held held' → KeepsVolume honest start before held'
    gone_left held' (Stays same) = subst (KeepsVolume honest start before) (sym same) stopped_left
    gone_left held' (Waited same) = subst (KeepsVolume honest start before) (sym same) (then_waited honest start before held stopped_left)
    gone_left held' (Told same) = subst (KeepsVolume honest start before) (sym same) told_keeps
    gone_left held' (WaitedAgain same) = subst (KeepsVolume honest start before) (sym same) (then_waited honest start before told told_keeps)
