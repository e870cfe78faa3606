-- One directory after another adds its entries.
use Rattle.std.proofs.Common.{ap, sym, ◌∙◌}
use Rattle.std.specs.Option.{option_copied}
use Rattle.std.specs.Vec.{vec_items}
use Rattle.phase_names.proofs.StepLemmas.{entries_next, no_entries_below, no_entries_next}
use Rattle.phase_names.proofs.entries.reached_entries.Goals as goal
use Rattle.phase_names.proofs.entries.reached_entries.Goals.{in-Some+in_ok-add_entries, in_default}

pub loop-directory-init : goal.loop-directory-init
loop-directory-init c = c.new-entries.ensures.items ∙ sym (no_entries_below c.args.whole.now c.args.reached.now)

pub loop-directory-preserved : goal.loop-directory-preserved
loop-directory-preserved c =
    let table = c.args.whole.now in
    let reached = c.args.reached.now in
    let d = c.loop-directory.directory in
    elim c.match-reached.branch [
      | in-Some+in_ok-add_entries w ↦
          entries_next table reached d w.in-Some.look.now w.directories.result.now c.loop-directory.entries.items c.match-reached.entries.items
          (sym c.reached.ensures ∙ ap option_copied w.in-Some.is) w.directories.ensures c.loop-directory.invariant (ap vec_items w.entries-is ∙ w.in_ok-add_entries.ensures)
      | in_default w ↦
          no_entries_next table reached d c.loop-directory.entries.items c.match-reached.entries.items
          (sym c.reached.ensures ∙ ap option_copied w.in_default.is) c.loop-directory.invariant (ap vec_items w.entries-is)
    ]
