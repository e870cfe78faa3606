use Rattle.std.proofs.Common.{◌≡◌, ◌+◌, ◌*◌, Some, None, length, slice_index_or, sym, ap, ◌∙◌, arith}
use Rattle.std.proofs.lemmas.Option.{none-some, some_pair_parts}
use Rattle.file_device.specs.declared.run.earlier.Slots.{Slots}
use Rattle.file_device.specs.Runs.{slots_from, slots_of}
use Rattle.file_device.proofs.EarlierLemmas.{empty_slot, filled_slot, length-slots_from}
use Rattle.file_device.proofs.run.earlier.Earlier.block.Goals.{in_default-via-in-Some+else-slot-quotient_of, in_default-via-in_default}
use Rattle.file_device.proofs.run.earlier.Earlier.block.Goals as goal

pub returns-in-Some-clause-kept : goal.returns-in-Some-clause-kept
returns-in-Some-clause-kept c =
    let s = c.in-Some.slot in
    ap (λ k. slice_index_or (slots_of c.args.self.now) k None) (sym c.slot_of.ensures)
    ∙ ap (λ (l : Slots). slice_index_or (slots_from 0 l.all) c.slot_of.result None) (sym c.deref.ensures)
    ∙ filled_slot 0 c.slot_of.result c.deref.result.now.all s c.in-Some.is
    ∙ ap (λ n. Some (n, s.block)) (let e : 31 * s.quotient + (0 + c.slot_of.result) ≡ c.args.address = omega (arith, c.if-slot-quotient_of.true, c.quotient_of.ensures, c.slot_of.ensures) in e)

pub returns-in_default-clause-none : goal.returns-in_default-clause-none
returns-in_default-clause-none c _ block there =
    let here = ap (λ (l : Slots). slice_index_or (slots_from 0 l.all) c.slot_of.result None) c.deref.ensures
    ∙ ap (λ k. slice_index_or (slots_of c.args.self.now) k None) c.slot_of.ensures ∙ there in
    elim c.in_default.branch [
      | in_default-via-in-Some+else-slot-quotient_of w ↦ let s = w.in-Some.slot in
          omega (arith, (some_pair_parts _ _ _ _ (sym (filled_slot 0 c.slot_of.result c.deref.result.now.all s w.in-Some.is) ∙ here)).0, w.if-slot-quotient_of.false, w.quotient_of.ensures, c.slot_of.ensures)
      | in_default-via-in_default w ↦ none-some _ (sym (empty_slot 0 c.slot_of.result c.deref.result.now.all w.in_default.is) ∙ here)
    ]

pub returns-in-Some-clause-slots : goal.returns-in-Some-clause-slots
returns-in-Some-clause-slots c =
    let room : length c.deref.result.now.all ≡ 31 = search in
    length-slots_from 0 c.args.self.now.slots.value.all ∙ ap (λ (s : Slots). length s.all) (sym c.deref.ensures) ∙ room

pub returns-in_default-clause-slots : goal.returns-in_default-clause-slots
returns-in_default-clause-slots c =
    let room : length c.deref.result.now.all ≡ 31 = search in
    length-slots_from 0 c.args.self.now.slots.value.all ∙ ap (λ (s : Slots). length s.all) (sym c.deref.ensures) ∙ room
