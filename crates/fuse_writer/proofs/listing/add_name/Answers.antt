use Rattle.std.proofs.Common.{◌≡◌, ◌+◌, ◌≤◌, List, ℕ, length, ap, subst}
use Rattle.std.specs.Prelude.{◌↔◌, IsTrue}
use Rattle.frozen.specs.Kept.{frozen_view}
use Rattle.fuse_reader.specs.Listings.{listed_name}
use Rattle.fuse_wire.specs.Replies.{listed_bytes, listed_head}
use Rattle.fuse_writer.specs.Requests.{found_or_not}
use Rattle.fuse_writer.proofs.PlusLemmas.{added_so, entry_added, has_room, lead_then, no_room, not_added, slot_fits, slot_full}
use Rattle.fuse_writer.proofs.listing.add_name.Goals as goal

pub returns-then-not-fits_plus-clause-added : goal.returns-then-not-fits_plus-clause-added
unfolding listed_head
returns-then-not-fits_plus-clause-added c = λ next.
    let kept = c.args.frozen.now in
    let old = c.args.listing.now.items in
    let same : listed_bytes c.entry_in-entry.result ≡ listed_name kept.geometry (frozen_view kept) c.args.place c.args.number c.args.name.now = ap listed_bytes c.entry_in-entry.ensures in
    let fits : IsTrue c.fits_plus.result ↔ (length old + (128 + length (listed_bytes c.entry_in-entry.result)) ≤ c.args.listed.room) = rw c.deref.ensures.value at c.fits_plus.ensures in
    slot_full kept c.args.session.now c.args.listed.directory c.args.listed.room c.args.place c.args.number c.args.name.now old next
    (no_room c.fits_plus.result _ _ (subst (λ (e : List ℕ). IsTrue c.fits_plus.result ↔ (length old + (128 + length e) ≤ c.args.listed.room)) same fits) c.if-not-fits_plus.true)

pub returns-in-Ok-clause-added : goal.returns-in-Ok-clause-added
unfolding listed_head
returns-in-Ok-clause-added c = λ next.
    let kept = c.args.frozen.now in
    let old = c.args.listing.now.items in
    let entry = c.entry_in-entry.result in
    let same : listed_bytes entry ≡ listed_name kept.geometry (frozen_view kept) c.args.place c.args.number c.args.name.now = ap listed_bytes c.entry_in-entry.ensures in
    let fits : IsTrue c.fits_plus.result ↔ (length old + (128 + length (listed_bytes entry)) ≤ c.args.listed.room) = rw c.deref.ensures.value at c.fits_plus.ensures in
    let few = has_room c.fits_plus.result _ _ fits c.if-not-fits_plus.false in
    lead_then (slot_fits kept c.args.session.now c.args.listed.directory c.args.listed.room c.args.place c.args.number c.args.name.now old next (listed_bytes entry) same few)
    (lead_then (c.told-found.ensures old (listed_bytes entry) next)
    (added_so c.told-found.new.session old (found_or_not c.told-found.result) (listed_bytes entry) c.push_entry_plus.new.listing.items next
    (entry_added c.in-Ok.field-0 c.as_ref.result c.told-found.result old c.push_entry_plus.new.listing.items entry c.args.listed.room few c.as_ref.ensures.value c.in-Ok.ensures.fits c.in-Ok.ensures.written)))

pub returns-in-Err-clause-refused : goal.returns-in-Err-clause-refused
unfolding listed_head
returns-in-Err-clause-refused c = λ next.
    let kept = c.args.frozen.now in
    let old = c.args.listing.now.items in
    let entry = c.entry_in-entry.result in
    let same : listed_bytes entry ≡ listed_name kept.geometry (frozen_view kept) c.args.place c.args.number c.args.name.now = ap listed_bytes c.entry_in-entry.ensures in
    let fits : IsTrue c.fits_plus.result ↔ (length old + (128 + length (listed_bytes entry)) ≤ c.args.listed.room) = rw c.deref.ensures.value at c.fits_plus.ensures in
    let few = has_room c.fits_plus.result _ _ fits c.if-not-fits_plus.false in
    lead_then (slot_fits kept c.args.session.now c.args.listed.directory c.args.listed.room c.args.place c.args.number c.args.name.now old next (listed_bytes entry) same few)
    (lead_then (c.told-found.ensures old (listed_bytes entry) next) (not_added c.told-found.new.session old (found_or_not c.told-found.result) (listed_bytes entry) next))
