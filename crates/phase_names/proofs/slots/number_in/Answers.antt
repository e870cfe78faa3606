-- The slot is that of the directory, and what is not good has no number.
use Rattle.std.proofs.Common.{◌≡◌, ◌∙◌, ℕ, List, Bor, ap, refl, sym}
use Rattle.dirent.specs.Seen.{seen}
use Rattle.dirent.specs.declared.Slot.{Slot}
use Rattle.dirent.specs.declared.Slot.TheVariants.{Empty, Good, Bad}
use Rattle.model.specs.Layout.{Geometry, inode_count}
use Rattle.model.specs.Slots as model
use Rattle.phase_names.proofs.slots.number_in.Goals as goal

none_good : (content : Slot) → ((n : ℕ) (name : Bor (List ℕ)) → content ≡ Good n name → ⊥) → 0 ≡ model.number_in (seen content)
none_good Empty none = refl
none_good (Good n name) none = absurd (none n name refl)
none_good Bad none = refl

pub returns-in-Good : goal.returns-in-Good
returns-in-Good c =
    let count : c.inodes.result ≡ inode_count c.args.frozen.now.geometry = c.inodes.ensures.count ∙ ap (λ (g : Geometry). inode_count g) c.geometry.ensures.geometry in
    ap model.number_in (c.in-Good.ensures ∙ ap (λ n. model.slot_of n c.in-Some.block.now c.args.slot) count ∙ sym (c.in-Some.ensures.slots c.args.slot refl))

pub returns-in_default-slot_in : goal.returns-in_default-slot_in
returns-in_default-slot_in c =
    let count : c.inodes.result ≡ inode_count c.args.frozen.now.geometry = c.inodes.ensures.count ∙ ap (λ (g : Geometry). inode_count g) c.geometry.ensures.geometry in
    none_good c.slot_in.result c.in_default-slot_in.not-Good
    ∙ ap model.number_in (c.slot_in.ensures ∙ ap (λ n. model.slot_of n c.in-Some.block.now c.args.slot) count ∙ sym (c.in-Some.ensures.slots c.args.slot refl))
