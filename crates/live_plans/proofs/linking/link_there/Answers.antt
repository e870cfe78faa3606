-- The table that holds the pointer is claimed, and gets it.
use Rattle.std.specs.Prelude.{IfSome, option_to_list}
use Rattle.std.proofs.Common.{◌≡◌, ◌∷◌, ℕ, sym, ap, ◌∙◌, subst, map, IsTrue, List, [], ◌++◌, None}
use Rattle.std.proofs.lemmas.Bool.{le-leb}
use Rattle.std.proofs.lemmas.Option.{none-some}
use Rattle.model.specs.Layout.{Geometry, is_data_address}
use Rattle.model.specs.Cells.{SetBytes}
use Rattle.model.specs.Shape.{most_blocks, place_in_table, table_of, with_field}
use Rattle.model.proofs.Shape.{table_is_table}
use Rattle.model.proofs.UseLemmas.{claim_from, claim_parts}
use Rattle.machine.specs.Cells.{with_pointer}
use Rattle.frozen.specs.Kept.{frozen_view}
use Rattle.plans_data.specs.Append.{pointer_after}
use Rattle.updates.specs.declared.cell.Cell.{Cell}
use Rattle.updates.specs.declared.cell.Cell.TheVariants as cells
use Rattle.updates.specs.Values.{cell}
use Rattle.live_states.specs.Drafts.{GoesOn}
use Rattle.live_plans.specs.Linked.{HasTable}
use Rattle.live_plans.proofs.LinkLemmas.{links_record, links_table}
use Rattle.live_plans.proofs.linking.link_there.Goals as goal

pub unreachable-requires : goal.unreachable-requires
unreachable-requires c =
    let kept = c.args.frozen.now in
    let claims = c.claim_of.ensures c.args.new.now.number c.requires.number (sym c.record-inode.ensures) in
    let one = sym (ap (λ (g : Geometry). table_of g c.args.new.now.position) c.geometry-geometry.ensures.geometry) ∙ sym c.in-Some.ensures.table in
    let claim = c.requires.tables c.in-Some.place.table one in
    none-some claim.0 (sym c.in_default-claim_of.is ∙ claims ∙ claim_from kept.geometry (frozen_view kept) c.args.new.now.number c.in-Some.place.table claim.0 claim.1)

pub pointers_of-requires-clause-table : goal.pointers_of-requires-clause-table
pointers_of-requires-clause-table c =
    let kept = c.args.frozen.now in
    let one = sym (ap (λ (g : Geometry). table_of g c.args.new.now.position) c.geometry-geometry.ensures.geometry) ∙ sym c.in-Some.ensures.table in
    le-leb (most_blocks kept.geometry) c.in-Some.place.table (table_is_table kept.geometry c.args.new.now.position c.in-Some.place.table one)

pub pointers_of-requires-clause-claim : goal.pointers_of-requires-clause-claim
pointers_of-requires-clause-claim c =
    let kept = c.args.frozen.now in
    let claims = c.claim_of.ensures c.args.new.now.number c.requires.number (sym c.record-inode.ensures) in
    claim_parts kept.geometry (frozen_view kept) c.args.new.now.number c.in-Some.place.table c.in-Some-claim_of.address (sym claims ∙ c.in-Some-claim_of.is)

pub put_at-requires-clause-table : goal.put_at-requires-clause-table
put_at-requires-clause-table c =
    let kept = c.args.frozen.now in
    let claims = c.claim_of.ensures c.args.new.now.number c.requires.number (sym c.record-inode.ensures) in
    subst (λ (g : Geometry). IsTrue (is_data_address g c.in-Some-claim_of.address)) (sym c.requires.geometry)
    (claim_parts kept.geometry (frozen_view kept) c.args.new.now.number c.in-Some.place.table c.in-Some-claim_of.address (sym claims ∙ c.in-Some-claim_of.is)).1

pub put_at-requires-clause-over : goal.put_at-requires-clause-over
put_at-requires-clause-over c =
    let kept = c.args.frozen.now in
    let claims = c.claim_of.ensures c.args.new.now.number c.requires.number (sym c.record-inode.ensures) in
    let x = c.in-Some-claim_of.address in
    let claim = claim_parts kept.geometry (frozen_view kept) c.args.new.now.number c.in-Some.place.table x (sym claims ∙ c.in-Some-claim_of.is) in
    subst (λ (g : Geometry). IfSome c.table_over-over.result (λ a. IsTrue (is_data_address g a))) (sym c.requires.geometry)
    (c.table_over-over.ensures.address c.args.new.now.number (record { number = c.requires.number; same = sym c.record-inode.ensures; claimed = (x, claim) }))

-- the record holds the pointer
pub returns-in_default-clause-links : goal.returns-in_default-clause-links
returns-in_default-clause-links c =
    let kept = c.args.frozen.now in
    let k = c.args.new.now.position in
    let b = c.args.new.now.block in
    let none : table_of kept.geometry k ≡ None = sym (ap (λ (g : Geometry). table_of g k) c.geometry-geometry.ensures.geometry) ∙ sym c.in_default.ensures.table in
    links_record kept.geometry (frozen_view kept) c.args.new.now.number c.args.new.now.owner k b c.args.plan.now c.with_field-record.result (map cell c.push.new.self.items) c.requires.position none c.requires.block
    (c.with_field-record.ensures ∙ ap (λ (g : Geometry). with_field g c.args.new.now.owner k b) c.geometry-geometry.ensures.geometry)
    (ap (map cell) (c.in_ok-push.ensures.ok ∙ ap (λ (xs : List Cell). xs ++ cells.Block b ∷ []) c.new-after.ensures.items))

pub returns-clause-links : goal.returns-clause-links
returns-clause-links c =
    let kept = c.args.frozen.now in
    let claims = c.claim_of.ensures c.args.new.now.number c.requires.number (sym c.record-inode.ensures) in
    let k = c.args.new.now.position in
    let b = c.args.new.now.block in
    let x = c.in-Some-claim_of.address in
    let over = c.table_over-over.result in
    let pointers = c.pointers_of.result.now in
    let one = sym (ap (λ (g : Geometry). table_of g k) c.geometry-geometry.ensures.geometry) ∙ sym c.in-Some.ensures.table in
    let claim = claim_parts kept.geometry (frozen_view kept) c.args.new.now.number c.in-Some.place.table x (sym claims ∙ c.in-Some-claim_of.is) in
    let has : HasTable kept c.record-inode.result c.in-Some.place.table c.args.new.now.number = record { number = c.requires.number; same = sym c.record-inode.ensures; claimed = (x, claim) } in
    let place : c.in-Some.place.place ≡ place_in_table kept.geometry k = c.in-Some.ensures.place ∙ ap (λ (g : Geometry). place_in_table g k) c.geometry-geometry.ensures.geometry in
    links_table kept.geometry (frozen_view kept) c.args.new.now.number c.args.new.now.owner k b c.in-Some.place.table x pointers over c.args.plan.now c.put_at.new.plan (map cell c.in_ok-after.after.items) one
    claim c.pointers_of.ensures (c.table_over-over.ensures.over c.args.new.now.number has) (c.table_over-over.ensures.address c.args.new.now.number has) c.requires.block
    (subst (λ (p : ℕ). GoesOn c.args.plan.now c.put_at.new.plan (λ q. record { change = SetBytes x (with_pointer pointers p b); after = pointer_after c.args.new.now.number p b pointers (option_to_list over) } ∷ q)) place c.in_ok-put_at.ensures)
    c.in_ok-after.ensures
