use Rattle.std.proofs.Common.{◌<◌, ◌≤◌, ◌+◌, ◌*◌, length, ap, sym, subst, ◌∙◌, rules, IsTrue}
use Rattle.model.specs.Slots.{Good, fits_slot}
use Rattle.dirent.specs.DirectoryBlock.{DirectoryBlock, with_slot, entry_bytes, slot_bytes}
use Rattle.dirent.proofs.SlotBytes.{slot_changed, slot_here, entry_told, length-entry_bytes}
use Rattle.dirent.proofs.Slots.put.Goals as goal

pub returns-clause-changes : goal.returns-clause-changes
returns-clause-changes c =
    let s = c.self.inside in
    let number = c.args.number in
    let name = c.args.name.now in
    let written = c.replace.ensures ∙ ap (with_slot s.block c.args.j) c.entry.ensures in
    let short : length name ≤ 56 = search rules in
    let on_volume : number < s.inodes = search rules in
    let fits : IsTrue (fits_slot (16 * s.position + c.args.j) name) = subst (λ (b : DirectoryBlock). IsTrue (fits_slot (16 * b.position + c.args.j) name)) (sym c.self.view_is) c.requires.fits in
    rw (written, ← c.self.view_is)
    (slot_changed s.block (entry_bytes number name) c.args.j c.self.invariant.length (length-entry_bytes number name short) c.requires.in_block s.position s.inodes (Good number name)
    (entry_told s.inodes (16 * s.position + c.args.j) number name (search rules) c.requires.given_out on_volume short c.requires.good_name fits))

pub returns-clause-bytes : goal.returns-clause-bytes
returns-clause-bytes c =
    let s = c.self.inside in
    let number = c.args.number in
    let name = c.args.name.now in
    let short : length name ≤ 56 = search rules in
    ap (λ bytes. slot_bytes bytes c.args.j) (c.replace.ensures ∙ ap (with_slot s.block c.args.j) c.entry.ensures)
    ∙ slot_here s.block (entry_bytes number name) c.args.j c.self.invariant.length (length-entry_bytes number name short) c.requires.in_block
