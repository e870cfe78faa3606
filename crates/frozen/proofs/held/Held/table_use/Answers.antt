-- The pointer to the table stands in the record, or in a table whose own pointer does.
use Rattle.std.proofs.Common.{◌≡◌, Some, None, sym, ap, ◌∙◌}
use Rattle.model.specs.View.{View}
use Rattle.model.specs.Shape.{field_at, place_in_table, table_of}
use Rattle.model.specs.Uses.{blocks_of}
use Rattle.model.proofs.Shape.{reach_table, shallow}
use Rattle.frozen.specs.Kept.{Kept, frozen_view}
use Rattle.frozen.proofs.PointerLemmas.{in_record, through_table}
use Rattle.frozen.proofs.held.Held.table_use.Goals as goal

pub field-requires-clause-of_record : goal.field-requires-clause-of_record
field-requires-clause-of_record c =
    let geo = c.args.self.now.geometry in
    let same = c.geometry-geometry.ensures.geometry in
    let up : table_of geo c.args.table ≡ Some c.in-Some.above.table = sym (c.in-Some.ensures.table ∙ ap (λ g. table_of g c.args.table) same) in
    ap (λ g. table_of g c.in-Some.above.table) same ∙ shallow geo c.requires.holds.0 c.args.table c.in-Some.above.table c.requires.holds.1 up

pub returns-in-Some : goal.returns-in-Some
returns-in-Some c =
    let geo = c.args.self.now.geometry in
    let view : View = frozen_view c.args.self.now in
    let inode = c.args.inode.now in
    let above = c.in-Some.above in
    let same = c.geometry-geometry.ensures.geometry in
    let up : table_of geo c.args.table ≡ Some above.table = sym (c.in-Some.ensures.table ∙ ap (λ g. table_of g c.args.table) same) in
    let none = shallow geo c.requires.holds.0 c.args.table above.table c.requires.holds.1 up in
    let has = reach_table geo (blocks_of inode.size) c.args.table above.table up c.requires.has in
    let uses = in_record geo view inode above.table c.requires.sound has none ∙ ap Some (sym (c.field.ensures ∙ ap (λ g. field_at g inode above.table) same)) in
    c.pointer.ensures
    ∙ sym (through_table geo view inode c.args.table c.requires.sound c.requires.has above.table c.field.result above.place up uses (c.in-Some.ensures.place ∙ ap (λ g. place_in_table g c.args.table) same))

pub returns-in-None : goal.returns-in-None
returns-in-None c =
    let geo = c.args.self.now.geometry in
    let inode = c.args.inode.now in
    let same = c.geometry-geometry.ensures.geometry in
    ap Some (c.field-in-None.ensures ∙ ap (λ g. field_at g inode c.args.table) same)
    ∙ sym (in_record geo (frozen_view c.args.self.now) inode c.args.table c.requires.sound c.requires.has (sym (c.in-None.ensures.table ∙ ap (λ g. table_of g c.args.table) same)))
