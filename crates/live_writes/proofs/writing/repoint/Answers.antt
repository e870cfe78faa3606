-- The pointer is put, and then the record, where it changes.
use Rattle.std.proofs.Common.{◌≡◌, ◌||◌, not, false, true, eqb, length, map, sym, ap, ap₂, ◌∙◌, subst, refl, arith, Option, Some, None, is_some, All}
use Rattle.std.proofs.lemmas.Result.{on_ok_weaker}
use Rattle.std.specs.Option.{option_map}
use Rattle.layout.specs.declared.geometry.TablePlace.{TablePlace}
use Rattle.model.specs.Layout.{Geometry}
use Rattle.model.specs.Cells.{SetInode}
use Rattle.model.specs.View.{Fits, Inode}
use Rattle.model.specs.Shape.{position_count, table_of}
use Rattle.model.proofs.Places.{record_fits}
use Rattle.model.proofs.Shape.{some_table}
use Rattle.frozen.specs.Kept.{Kept, frozen_view, kept_bytes}
use Rattle.updates.specs.Places.{FitsVolume, IsCell}
use Rattle.updates.specs.Values.{cell}
use Rattle.live_plans.proofs.Fitting.{written_fits}
use Rattle.live_writes.specs.Written.{holder_at}
use Rattle.live_writes.proofs.Pointing.{in_record, in_table, is_of_record, which_record}
use Rattle.live_writes.proofs.writing.repoint.Goals.{else-is_empty-via-then-is_empty+else-is_some, else-is_empty-via-else-is_empty}
use Rattle.live_writes.proofs.writing.repoint.Goals as goal

-- what the geometry says of the pointer's place
mapped : (place : Option TablePlace) → is_some (option_map (λ (p : TablePlace). p.table) place) ≡ is_some place
mapped None = refl
mapped (Some p) = refl

pub link-requires-clause-position : goal.link-requires-clause-position
link-requires-clause-position c = omega (arith, c.requires.room, some_table c.args.metadata.now.geometry)

pub pointer_place-requires : goal.pointer_place-requires
pointer_place-requires c =
    let here = ap position_count (c.geometry-geometry.ensures.geometry ∙ ap (λ (f : Kept). f.geometry) c.frozen.ensures.same) in
    omega (arith, c.requires.room, some_table c.args.metadata.now.geometry, here)

-- the record that is kept fits, and with the pointer too
pub enlarge-requires-clause-fits : goal.enlarge-requires-clause-fits
enlarge-requires-clause-fits c =
    let i = c.args.new.now.number in
    written_fits c.args.metadata.now c.link.new.plan.geometry i c.args.new.now.owner c.args.new.now.owner (c.in_ok-linked.ensures.geometry ∙ c.requires.geometry)
    c.requires.owner refl

pub set_record-requires-clause-fits : goal.set_record-requires-clause-fits
set_record-requires-clause-fits c =
    let kept = c.args.metadata.now in
    let i = c.args.new.now.number in
    let same = c.requires.owner in
    let owner : Fits kept.geometry.version c.args.new.now.owner = subst (Fits kept.geometry.version) (sym same) (record_fits kept.geometry (kept_bytes kept.blocks) i) in
    let before : Inode = record { mode = c.changed.inside.mode; links = c.changed.inside.links; size = c.changed.inside.size; direct = c.changed.inside.direct; indirect = c.changed.inside.indirect; double = c.changed.inside.double; attributes = c.changed.inside.attributes } in
    let given : Inode = record before { size = c.args.size } in
    let fits : Fits kept.geometry.version given = λ one. ap (λ (n : Inode). n.double) c.changed.view_is ∙ c.in_ok-linked.ensures.links.record_fits owner one in
    subst (λ (g : Geometry). FitsVolume g (SetInode i given)) (sym (c.in_ok-linked.ensures.geometry ∙ c.requires.geometry)) fits

pub enlarge-requires-clause-after : goal.enlarge-requires-clause-after
enlarge-requires-clause-after c =
    subst (λ (g : Geometry). All (IsCell g) (map cell c.in_ok-linked.linked.after.items)) (sym (c.in_ok-linked.ensures.geometry ∙ c.requires.geometry)) c.in_ok-linked.ensures.links.cells

pub set_record-requires-clause-after : goal.set_record-requires-clause-after
set_record-requires-clause-after c =
    subst (λ (g : Geometry). All (IsCell g) (map cell c.in_ok-linked.linked.after.items)) (sym (c.in_ok-linked.ensures.geometry ∙ c.requires.geometry)) c.in_ok-linked.ensures.links.cells

pub returns-then-is_some : goal.returns-then-is_some
returns-then-is_some c =
    let kept = c.args.metadata.now in
    let i = c.args.new.now.number in
    let k = c.args.new.now.position in
    let b = c.args.new.now.block in
    let tables = c.args.new.now.tables in
    let same = c.requires.owner in
    let one : is_some (table_of kept.geometry k) ≡ true =
    sym (ap (λ (g : Geometry). is_some (table_of g k)) (c.geometry-geometry.ensures.geometry ∙ ap (λ (f : Kept). f.geometry) c.frozen.ensures.same))
    ∙ ap is_some (sym c.pointer_place.ensures.table) ∙ mapped c.pointer_place.result ∙ sym c.is_some.ensures ∙ c.if-is_some.true in
    let none : not (eqb (length tables) 0) ≡ false = ap not (sym c.is_empty.ensures ∙ c.if-is_empty.true) in
    on_ok_weaker c.enlarge.result
    (λ sets. in_table kept.geometry i ((frozen_view kept).inode i) k b c.args.size c.args.plan.now c.link.new.plan c.enlarge.new.plan (holder_at kept i k b tables) c.in_ok-linked.linked.record c.args.new.now.owner
    (map cell c.in_ok-linked.linked.after.items) (which_record kept i k b tables c.requires.tables ∙ ap₂ (λ s t. s || not t) none one) same c.in_ok-linked.ensures.links sets)
    c.enlarge.ensures

pub returns : goal.returns
returns c =
    let kept = c.args.metadata.now in
    let i = c.args.new.now.number in
    let k = c.args.new.now.position in
    let b = c.args.new.now.block in
    let tables = c.args.new.now.tables in
    let same = c.requires.owner in
    let before : Inode = record { mode = c.changed.inside.mode; links = c.changed.inside.links; size = c.changed.inside.size; direct = c.changed.inside.direct; indirect = c.changed.inside.indirect; double = c.changed.inside.double; attributes = c.changed.inside.attributes } in
    let given : Inode = record before { size = c.args.size } in
    let sized_so = ap (λ (n : Inode). record n { size = c.args.size }) c.changed.view_is in
    let of_record : is_of_record (holder_at kept i k b tables) ≡ true = elim c.else-is_empty.branch [
      | else-is_empty-via-then-is_empty+else-is_some w ↦
          let none : not (eqb (length tables) 0) ≡ false = ap not (sym c.is_empty.ensures ∙ w.if-is_empty.true) in
          let nowhere : is_some (table_of kept.geometry k) ≡ false =
          sym (ap (λ (g : Geometry). is_some (table_of g k)) (c.geometry-geometry.ensures.geometry ∙ ap (λ (f : Kept). f.geometry) c.frozen.ensures.same))
          ∙ ap is_some (sym w.pointer_place.ensures.table) ∙ mapped w.pointer_place.result ∙ sym w.is_some.ensures ∙ w.if-is_some.false in
          which_record kept i k b tables c.requires.tables ∙ ap₂ (λ s t. s || not t) none nowhere
      | else-is_empty-via-else-is_empty w ↦
          let some : not (eqb (length tables) 0) ≡ true = ap not (sym c.is_empty.ensures ∙ w.if-is_empty.false) in
          which_record kept i k b tables c.requires.tables ∙ ap (λ s. s || not (is_some (table_of kept.geometry k))) some
    ] in
    on_ok_weaker c.set_record.result
    (λ sets. in_record kept.geometry i ((frozen_view kept).inode i) k b c.args.size c.args.plan.now c.link.new.plan c.set_record.new.self (holder_at kept i k b tables) c.in_ok-linked.linked.record given c.args.new.now.owner
    (map cell c.in_ok-linked.linked.after.items) of_record same c.in_ok-linked.ensures.links sized_so sets)
    c.set_record.ensures
