-- A sound record uses each position that it has: the pointer stands in the record, or in the table that is used there.
use Rattle.std.proofs.Common.{◌≡◌, Some, None, IsTrue, sym, ap, ap₂, ◌∙◌}
use Rattle.std.proofs.lemmas.Bool.{both_ways}
use Rattle.model.specs.View.{View}
use Rattle.model.specs.Shape.{field_at, place_in_table, reaches, table_of}
use Rattle.model.specs.Uses.{blocks_of, has_position, is_sound}
use Rattle.model.proofs.Shape.{reach_table}
use Rattle.model.proofs.Steps.{use_sound}
use Rattle.model.proofs.Uses.{use_has}
use Rattle.frozen.specs.Kept.{frozen_view}
use Rattle.frozen.proofs.PointerLemmas.{in_record, none_unless, through_none, through_table}
use Rattle.frozen.proofs.held.Held.use_of.Goals as goal
use Rattle.frozen.proofs.held.Held.use_of.Goals.{then-not-is_sound-via-then-not-is_sound, then-not-is_sound-via-else-not-is_sound+then-not-reaches}

pub returns-then-not-is_sound : goal.returns-then-not-is_sound
returns-then-not-is_sound c =
    let geo = c.args.self.now.geometry in
    let view : View = frozen_view c.args.self.now in
    let inode = c.args.inode.now in
    let same = c.geometry-geometry.ensures.geometry in
    sym (none_unless geo view inode c.args.position (λ v u. elim c.then-not-is_sound.branch [
      | then-not-is_sound-via-then-not-is_sound w ↦
          both_ways (is_sound geo inode) (sym (c.is_sound.ensures ∙ ap (λ g. is_sound g inode) same) ∙ w.if-not-is_sound.true) (use_sound geo view inode c.args.position v u)
      | then-not-is_sound-via-else-not-is_sound+then-not-reaches w ↦
          both_ways (has_position geo inode c.args.position)
          (sym (w.reaches.ensures ∙ ap₂ (λ g n. reaches g n c.args.position) same w.blocks-else-not-is_sound.ensures) ∙ w.if-not-reaches.true) (use_has geo view inode c.args.position v u)
    ]))

pub table_use-requires-clause-has : goal.table_use-requires-clause-has
table_use-requires-clause-has c =
    let geo = c.args.self.now.geometry in
    let same = c.geometry-geometry.ensures.geometry in
    let up : table_of geo c.args.position ≡ Some c.in-Some.field-0.table = sym (c.in-Some.ensures.table ∙ ap (λ g. table_of g c.args.position) same) in
    reach_table geo (blocks_of c.args.inode.now.size) c.args.position c.in-Some.field-0.table up
    (sym (c.reaches.ensures ∙ ap₂ (λ g n. reaches g n c.args.position) same c.blocks-else-not-is_sound.ensures) ∙ c.if-not-reaches.false)

pub returns-in_err-table_use-in-Some : goal.returns-in_err-table_use-in-Some
returns-in_err-table_use-in-Some c =
    let geo = c.args.self.now.geometry in
    let inode = c.args.inode.now in
    let same = c.geometry-geometry.ensures.geometry in
    let up : table_of geo c.args.position ≡ Some c.in-Some.field-0.table = sym (c.in-Some.ensures.table ∙ ap (λ g. table_of g c.args.position) same) in
    let sound : IsTrue (is_sound geo inode) = sym (c.is_sound.ensures ∙ ap (λ g. is_sound g inode) same) ∙ c.if-not-is_sound.false in
    let has : IsTrue (has_position geo inode c.args.position) =
    sym (c.reaches.ensures ∙ ap₂ (λ g n. reaches g n c.args.position) same c.blocks-else-not-is_sound.ensures) ∙ c.if-not-reaches.false in
    c.from_residual.ensures
    ∙ sym (through_none geo (frozen_view c.args.self.now) inode c.args.position sound has c.in-Some.field-0.table up (sym c.table_use.ensures ∙ c.in_err-table_use-in-Some.was))

pub returns-in_ok-table_use-in-Some : goal.returns-in_ok-table_use-in-Some
returns-in_ok-table_use-in-Some c =
    let geo = c.args.self.now.geometry in
    let inode = c.args.inode.now in
    let same = c.geometry-geometry.ensures.geometry in
    let up : table_of geo c.args.position ≡ Some c.in-Some.field-0.table = sym (c.in-Some.ensures.table ∙ ap (λ g. table_of g c.args.position) same) in
    let sound : IsTrue (is_sound geo inode) = sym (c.is_sound.ensures ∙ ap (λ g. is_sound g inode) same) ∙ c.if-not-is_sound.false in
    let has : IsTrue (has_position geo inode c.args.position) =
    sym (c.reaches.ensures ∙ ap₂ (λ g n. reaches g n c.args.position) same c.blocks-else-not-is_sound.ensures) ∙ c.if-not-reaches.false in
    c.pointer.ensures
    ∙ sym (through_table geo (frozen_view c.args.self.now) inode c.args.position sound has c.in-Some.field-0.table c.in_ok-table_use-in-Some.field-0 c.in-Some.field-0.place up
    (sym c.table_use.ensures ∙ c.in_ok-table_use-in-Some.was) (c.in-Some.ensures.place ∙ ap (λ g. place_in_table g c.args.position) same))

pub returns-in-None : goal.returns-in-None
returns-in-None c =
    let geo = c.args.self.now.geometry in
    let inode = c.args.inode.now in
    let same = c.geometry-geometry.ensures.geometry in
    let sound : IsTrue (is_sound geo inode) = sym (c.is_sound.ensures ∙ ap (λ g. is_sound g inode) same) ∙ c.if-not-is_sound.false in
    let has : IsTrue (has_position geo inode c.args.position) =
    sym (c.reaches.ensures ∙ ap₂ (λ g n. reaches g n c.args.position) same c.blocks-else-not-is_sound.ensures) ∙ c.if-not-reaches.false in
    ap Some (c.field.ensures ∙ ap (λ g. field_at g inode c.args.position) same)
    ∙ sym (in_record geo (frozen_view c.args.self.now) inode c.args.position sound has (sym (c.in-None.ensures.table ∙ ap (λ g. table_of g c.args.position) same)))
