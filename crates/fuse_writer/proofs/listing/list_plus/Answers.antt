use Rattle.std.proofs.Common.{◌≡◌, ◌*◌, ◌-◌, ◌<◌, ◌≤◌, ◌+◌, refl, ap, sym, ◌∙◌, arith}
use Rattle.std.proofs.lemmas.Result.{err_from_is_err_and}
use Rattle.frozen.specs.Kept.{Kept, frozen_view}
use Rattle.model.specs.Uses.{blocks_of}
use Rattle.model.specs.View.{Inode}
use Rattle.fuse_reader.specs.Listings.{slots_of}
use Rattle.fuse_reader.specs.Said as said
use Rattle.fuse_writer.specs.Turns.{Turn}
use Rattle.fuse_writer.proofs.DoingLemmas.{does_same, does_say, listing_left}
use Rattle.fuse_writer.proofs.PlusLemmas.{ends_left, ends_told, lead_same, lead_then, plus_full, plus_long, plus_on, plus_refused, plus_short, slots_none}
use Rattle.fuse_writer.proofs.listing.list_plus.Goals as goal

pub returns-in_err-directory-clause-does : goal.returns-in_err-directory-clause-does
returns-in_err-directory-clause-does g c =
    listing_left _ _ _ _ _ _ (c.in_err-directory.ensures _) (err_from_is_err_and c.from_residual.result c.from_residual.ensures.1)

pub returns-then-room-gt-MOST_BYTES-clause-does : goal.returns-then-room-gt-MOST_BYTES-clause-does
returns-then-room-gt-MOST_BYTES-clause-does g c =
    does_same _ _ _ _ _ _ _ (plus_long c.args.mounted.now.asking.volume.kept c.args.mounted.now.session c.args.node c.args.from c.args.room _ c.in_ok-directory.ensures
    (omega (arith, c.if-room-gt-MOST_BYTES.true))) (does_say _ _ _ _ _ _ refl refl refl)

pub returns-then-from-clause-does : goal.returns-then-from-clause-does
returns-then-from-clause-does g c =
    let kept = c.args.mounted.now.asking.volume.kept in
    let s = c.args.mounted.now.session in
    let d = c.in_ok-directory.directory in
    let blocks : c.blocks-2.result ≡ blocks_of ((frozen_view kept).inode d).size =
    c.blocks-2.ensures ∙ ap (λ (r : Inode). blocks_of r.size) c.record_of.ensures ∙ ap (λ (k : Kept). blocks_of ((frozen_view k).inode d).size) c.metadata.ensures in
    let slots : 16 * c.blocks-2.result ≡ slots_of (frozen_view kept) d = ap (λ n. 16 * n) blocks in
    let none : 16 * c.blocks-2.result - c.args.from ≡ 0 = omega (arith, c.if-from.true, c.from.ensures) in
    does_same _ _ _ _ _ _ _ (plus_short kept s c.args.node c.args.from c.args.room d c.in_ok-directory.ensures (omega (arith, c.if-room-gt-MOST_BYTES.false)) (16 * c.blocks-2.result) slots
    ∙ slots_none kept s d c.args.room c.args.from _ _ none) (does_say _ _ _ _ _ _ refl (ap said.Told c.new-listing.ensures.items) refl)

pub returns-in_err-add_slot-clause-does : goal.returns-in_err-add_slot-clause-does
returns-in_err-add_slot-clause-does g c =
    let kept = c.args.mounted.now.asking.volume.kept in
    let s = c.args.mounted.now.session in
    let d = c.in_ok-directory.directory in
    let l = c.loop-place in
    let t = c.add_slot.new.session in
    let blocks : c.blocks-2.result ≡ blocks_of ((frozen_view kept).inode d).size =
    c.blocks-2.ensures ∙ ap (λ (r : Inode). blocks_of r.size) c.record_of.ensures ∙ ap (λ (k : Kept). blocks_of ((frozen_view k).inode d).size) c.metadata.ensures in
    let end = 16 * c.blocks-2.result in
    let slots : 16 * c.blocks-2.result ≡ slots_of (frozen_view kept) d = ap (λ n. 16 * n) blocks in
    let low : l.place < 16 * c.blocks-2.result = omega (arith, c.loop-place-test.true) in
    let error = c.in_err-add_slot.field-0.0 in
    does_same _ _ _ _ _ _ _ (plus_short kept s c.args.node c.args.from c.args.room d c.in_ok-directory.ensures (omega (arith, c.if-room-gt-MOST_BYTES.false)) end slots)
    (ends_left _ _ s t _ _ error _ (ap (λ (turn : Turn _). turn.calls) l.invariant.asking)
    (plus_refused kept s l.mounted.session t d c.args.room c.args.from l.place end l.listing.items l.listing.items l.invariant.on low error
    (rw (c.metadata-frozen.ensures, l.invariant.asking) at c.in_err-add_slot.ensures.refused))
    (err_from_is_err_and c.from_residual-in_err-add_slot.result c.from_residual-in_err-add_slot.ensures.1))

pub returns-then-not-branch-clause-does : goal.returns-then-not-branch-clause-does
returns-then-not-branch-clause-does g c =
    let kept = c.args.mounted.now.asking.volume.kept in
    let s = c.args.mounted.now.session in
    let d = c.in_ok-directory.directory in
    let l = c.loop-place in
    let t = c.add_slot.new.session in
    let blocks : c.blocks-2.result ≡ blocks_of ((frozen_view kept).inode d).size =
    c.blocks-2.ensures ∙ ap (λ (r : Inode). blocks_of r.size) c.record_of.ensures ∙ ap (λ (k : Kept). blocks_of ((frozen_view k).inode d).size) c.metadata.ensures in
    let end = 16 * c.blocks-2.result in
    let slots : 16 * c.blocks-2.result ≡ slots_of (frozen_view kept) d = ap (λ n. 16 * n) blocks in
    let low : l.place < 16 * c.blocks-2.result = omega (arith, c.loop-place-test.true) in
    does_same _ _ _ _ _ _ _ (plus_short kept s c.args.node c.args.from c.args.room d c.in_ok-directory.ensures (omega (arith, c.if-room-gt-MOST_BYTES.false)) end slots)
    (ends_told _ _ s t _ c.add_slot.new.listing.items (ap (λ (turn : Turn _). turn.calls) l.invariant.asking)
    (plus_full kept s l.mounted.session t d c.args.room c.args.from l.place end l.listing.items c.add_slot.new.listing.items l.invariant.on low _
    (rw (c.metadata-frozen.ensures, l.invariant.asking) at c.in_ok-add_slot.ensures.added) c.if-not-branch.true))

pub loop-place-preserved : goal.loop-place-preserved
loop-place-preserved g c =
    let kept = c.args.mounted.now.asking.volume.kept in
    let s = c.args.mounted.now.session in
    let d = c.in_ok-directory.directory in
    let l = c.loop-place in
    let t = c.add_slot.new.session in
    let low : l.place < 16 * c.blocks-2.result = omega (arith, c.loop-place-test.true) in
    record {
      asking = l.invariant.asking;
      few = c.in_ok-add_slot.ensures.few;
      on = plus_on kept s l.mounted.session t d c.args.room c.args.from l.place (16 * c.blocks-2.result) l.listing.items c.add_slot.new.listing.items l.invariant.on low _
          (rw (c.metadata-frozen.ensures, l.invariant.asking) at c.in_ok-add_slot.ensures.added) c.if-not-branch.false;
    }

pub returns-clause-does : goal.returns-clause-does
returns-clause-does g c =
    let kept = c.args.mounted.now.asking.volume.kept in
    let s = c.args.mounted.now.session in
    let d = c.in_ok-directory.directory in
    let l = c.loop-place in
    let blocks : c.blocks-2.result ≡ blocks_of ((frozen_view kept).inode d).size =
    c.blocks-2.ensures ∙ ap (λ (r : Inode). blocks_of r.size) c.record_of.ensures ∙ ap (λ (k : Kept). blocks_of ((frozen_view k).inode d).size) c.metadata.ensures in
    let end = 16 * c.blocks-2.result in
    let slots : 16 * c.blocks-2.result ≡ slots_of (frozen_view kept) d = ap (λ n. 16 * n) blocks in
    let none : 16 * c.blocks-2.result - l.place ≡ 0 = omega (arith, c.loop-place.auto.place-end) in
    does_same _ _ _ _ _ _ _ (plus_short kept s c.args.node c.args.from c.args.room d c.in_ok-directory.ensures (omega (arith, c.if-room-gt-MOST_BYTES.false)) end slots)
    (ends_told _ _ s l.mounted.session _ l.listing.items (ap (λ (turn : Turn _). turn.calls) l.invariant.asking)
    (lead_then l.invariant.on (lead_same (slots_none kept l.mounted.session d c.args.room l.place l.listing.items (end - l.place) none))))
