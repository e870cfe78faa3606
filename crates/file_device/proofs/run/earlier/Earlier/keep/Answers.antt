use Rattle.std.proofs.Common.{◌≡◌, ◌+◌, ◌*◌, Some, ap, ap₂, ◌∙◌, arith, set as slice_set}
use Rattle.file_device.specs.declared.run.earlier.Slots.{Slots}
use Rattle.file_device.specs.Runs.{slots_from, slots_of}
use Rattle.file_device.proofs.EarlierLemmas.{slots_from-set}
use Rattle.file_device.proofs.run.earlier.Earlier.keep.Goals as goal

pub returns : goal.returns
returns c =
    ap (λ (s : Slots). slots_from 0 (slice_set s.all c.slot_of.result (Some (record { quotient = c.quotient_of.result; block = c.args.block.now })))) c.deref_mut.ensures.value
    ∙ slots_from-set 0 c.slot_of.result c.args.self.now.slots.value.all (record { quotient = c.quotient_of.result; block = c.args.block.now })
    ∙ ap₂ (λ k n. slice_set (slots_of c.args.self.now) k (Some (n, c.args.block.now))) c.slot_of.ensures
    (let e : 31 * c.quotient_of.result + (0 + c.slot_of.result) ≡ c.args.address = omega (arith, c.quotient_of.ensures, c.slot_of.ensures) in e)
