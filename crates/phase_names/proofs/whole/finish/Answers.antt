-- All that was added, in order.
use Rattle.std.proofs.Common.{◌≡◌, List, [], length, ap, ◌∙◌, subst}
use Rattle.frozen.specs.Kept.{frozen_view}
use Rattle.model.specs.Growth.{Adds}
use Rattle.model.specs.Layout.{Geometry, inode_count}
use Rattle.model.proofs.Adding.{IfOk-both}
use Rattle.phase_names.specs.declared.entries.Entry.{Entry}
use Rattle.phase_names.specs.Entries.{AtBelow, IsExtraAt, IsFoundAlone, IsHeldAt, IsRootBad, IsWithoutParent, entries_below}
use Rattle.phase_names.proofs.FoundLemmas.{all_found}
use Rattle.phase_names.proofs.SameLemmas.{alone_same, entries_same, without_parent_same}
use Rattle.phase_names.proofs.whole.finish.Goals as goal

pub returns-clause-found : goal.returns-clause-found
returns-clause-found c =
    let geo = c.args.frozen.now.geometry in
    let view = frozen_view c.args.frozen.now in
    let table = c.args.whole.now in
    let reached = c.args.reached.now in
    let members = c.in_ok-members.members in
    let tells = c.in_ok-members.ensures in
    let held = c.in_ok-held.held.keys in
    let first = c.add_root.new.found.items in
    let alone = c.add_alone.new.found.items in
    let extra = c.add_extra_names.new.found.items in
    let found = c.add_without_parent.new.found.items in
    let count : c.inodes-inodes.result ≡ inode_count geo = c.inodes-inodes.ensures.count ∙ ap (λ (g : Geometry). inode_count g) c.geometry.ensures.geometry in
    let all : c.in_ok-entries.entries.items ≡ entries_below table reached (inode_count geo) = c.in_ok-entries.ensures ∙ ap (entries_below table members) count ∙ entries_same table members reached tells (inode_count geo) in
    let holds = subst (λ (es : List Entry). Adds (AtBelow (IsHeldAt table es) (length es)) [] held) (c.deref.ensures.value ∙ all) c.in_ok-held.ensures.held in
    let second = subst (λ (es : List Entry). Adds (AtBelow (IsExtraAt es) (length es)) alone extra) (c.deref-2.ensures.value ∙ all) c.in_ok-add_extra_names.ensures.found in
    let of_each = alone_same table members reached tells (inode_count geo) first alone (subst (λ n. Adds (AtBelow (IsFoundAlone table members) n) first alone) count c.in_ok-add_alone.ensures) in
    let parents = without_parent_same table members reached tells held (inode_count geo) extra found
    (subst (λ n. Adds (AtBelow (IsWithoutParent table members held) n) extra found) count c.in_ok-add_without_parent.ensures) in
    let at_root = subst (λ xs. Adds (IsRootBad geo view) xs first) c.new-found.ensures.items c.in_ok-add_root.ensures in
    IfOk-both c.in_order.result _ _ _
    (λ fs sorted same numbers part every reachable.
    all_found geo c.geometry.ensures.frame.geometry view numbers table part every reached reachable held holds first alone extra found at_root of_each second parents fs.items sorted same)
    c.in_order.ensures.order c.in_order.ensures.same
