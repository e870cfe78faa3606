use Rattle.std.proofs.Common.{◌≡◌, ◌≤◌, ◌+◌, ◌-◌, false, true, length, sym, ap, ◌∙◌, arith}
use Rattle.std.specs.Prelude.{not}
use Rattle.frozen.specs.Kept.{frozen_view}
use Rattle.model.specs.Uses.{blocks_of}
use Rattle.model.specs.View.{Inode}
use Rattle.fuse_reader.specs.Listings.{Listing, listed, slots_of, so_far}
use Rattle.fuse_reader.proofs.ListingLemmas.{ends_full, goes_on, listed_none}
use Rattle.fuse_reader.proofs.listing.listing_from.Goals as goal

pub returns-then-from-clause-listed : goal.returns-then-from-clause-listed
returns-then-from-clause-listed c =
    let geo = c.args.frozen.now.geometry in
    let view = frozen_view c.args.frozen.now in
    let d = c.args.directory in
    let blocks : c.blocks-2.result ≡ blocks_of (view.inode d).size = c.blocks-2.ensures ∙ ap (λ (r : Inode). blocks_of r.size) c.record_of.ensures in
    let none : slots_of view d - c.args.from ≡ 0 = omega (arith, blocks, c.if-from.true, c.from.ensures) in
    c.new-listing.ensures.items
    ∙ sym (ap (λ (l : Listing). l.bytes) (ap (listed geo view d c.args.room c.args.from) none ∙ listed_none geo view d c.args.room c.args.from))

pub loop-place-init : goal.loop-place-init
loop-place-init c =
    let geo = c.args.frozen.now.geometry in
    let view = frozen_view c.args.frozen.now in
    let none : c.args.from - c.args.from ≡ 0 = omega arith in
    record {
      listed = ap (λ xs. so_far xs false) c.new-listing.ensures.items
          ∙ sym (ap (listed geo view c.args.directory c.args.room c.args.from) none ∙ listed_none geo view c.args.directory c.args.room c.args.from);
      few = omega (arith, ap length c.new-listing.ensures.items);
    }

pub returns-then-not-branch-clause-listed : goal.returns-then-not-branch-clause-listed
returns-then-not-branch-clause-listed c =
    let geo = c.args.frozen.now.geometry in
    let view = frozen_view c.args.frozen.now in
    let d = c.args.directory in
    let n = c.loop-place.place - c.args.from in
    let blocks : c.blocks-2.result ≡ blocks_of (view.inode d).size = c.blocks-2.ensures ∙ ap (λ (r : Inode). blocks_of r.size) c.record_of.ensures in
    let at : c.loop-place.place ≡ c.args.from + n = omega (arith, c.loop-place.auto.place) in
    let few : n + 1 ≤ slots_of view d - c.args.from = omega (arith, blocks, c.loop-place-test.true, c.loop-place.auto.place) in
    let full = sym (ap (λ b. so_far c.push_slot.new.listing.items (not b)) c.if-not-branch.true) ∙ c.in_ok-push_slot.ensures.added in
    ends_full geo view d c.args.room c.args.from (n + 1) (slots_of view d - c.args.from) c.push_slot.new.listing.items
    (goes_on geo view d c.args.room c.args.from n c.loop-place.place c.loop-place.listing.items c.push_slot.new.listing.items true c.loop-place.invariant.listed at full) few

pub loop-place-preserved : goal.loop-place-preserved
loop-place-preserved c =
    let geo = c.args.frozen.now.geometry in
    let view = frozen_view c.args.frozen.now in
    let d = c.args.directory in
    let n = c.loop-place.place - c.args.from in
    let at : c.loop-place.place ≡ c.args.from + n = omega (arith, c.loop-place.auto.place) in
    let next : n + 1 ≡ c.loop-place.place + 1 - c.args.from = omega (arith, c.loop-place.auto.place) in
    let added = sym (ap (λ b. so_far c.push_slot.new.listing.items (not b)) c.if-not-branch.false) ∙ c.in_ok-push_slot.ensures.added in
    record {
      listed = goes_on geo view d c.args.room c.args.from n c.loop-place.place c.loop-place.listing.items c.push_slot.new.listing.items false c.loop-place.invariant.listed at added
          ∙ ap (listed geo view d c.args.room c.args.from) next;
      few = c.in_ok-push_slot.ensures.few;
    }
