-- The inode was reached before, or is a directory or another inode that is new.
use Rattle.std.proofs.Common.{◌≡◌, ◌+◌, true, false, [], ◌∷◌, length, sym, subst, rules, IsTrue}
use Rattle.std.specs.BTreeSet.{contains}
use Rattle.std.specs.Ordering.{nat_cmp}
use Rattle.frozen.specs.Kept.{frozen_view}
use Rattle.model.specs.Uses.{is_sound_at, is_directory_at}
use Rattle.connectivity.specs.Walk.{Visits}
use Rattle.connectivity.proofs.VisitLemmas.{inserted, is_member, not_member, visit_directory, visit_file, visit_known}
use Rattle.connectivity.proofs.alone.visit.Goals as goal
use Rattle.connectivity.proofs.alone.visit.Goals.{else-is_new-via-then-is_new+else-is_directory_at, else-is_new-via-else-is_new}

pub returns-in_ok-push-clause-visited : goal.returns-in_ok-push-clause-visited
returns-in_ok-push-clause-visited c =
    let kept = c.args.frozen.now in
    let e = c.in_ok-is_new.ensures in
    let sound : IsTrue (is_sound_at kept.geometry (frozen_view kept) c.args.number) = search rules in
    let is_new : contains nat_cmp c.args.reached.now c.args.number ≡ false = search rules in
    let dir : IsTrue (is_directory_at kept.geometry (frozen_view kept) c.args.number) = search rules in
    subst (λ next. Visits kept.geometry (frozen_view kept) (c.args.number ∷ []) c.args.reached.now.keys c.args.next.now.items c.insert.new.self.keys next) (sym c.in_ok-push.ensures.items)
    (visit_directory kept.geometry (frozen_view kept) c.args.number c.args.reached.now.keys c.insert.new.self.keys c.args.next.now.items sound
    (not_member c.args.reached.now c.args.number is_new) e.ordered (inserted c.args.reached.now c.insert.new.self c.args.number e.updates) (search rules) dir)

pub returns-else-is_new-clause-visited : goal.returns-else-is_new-clause-visited
returns-else-is_new-clause-visited c =
    let kept = c.args.frozen.now in
    let e = c.in_ok-is_new.ensures in
    let sound : IsTrue (is_sound_at kept.geometry (frozen_view kept) c.args.number) = search rules in
    elim c.else-is_new.branch [
      | else-is_new-via-then-is_new+else-is_directory_at w ↦
          let is_new : contains nat_cmp c.args.reached.now c.args.number ≡ false = search rules in
          let longer : length c.insert.new.self.keys ≡ length c.args.reached.now.keys + 1 = search rules in
          visit_file kept.geometry (frozen_view kept) c.args.number c.args.reached.now.keys c.insert.new.self.keys c.args.next.now.items sound
          (not_member c.args.reached.now c.args.number is_new) e.ordered (inserted c.args.reached.now c.insert.new.self c.args.number e.updates) longer (search rules)
      | else-is_new-via-else-is_new w ↦
          let known : contains nat_cmp c.args.reached.now c.args.number ≡ true = search rules in
          let same : c.insert.new.self.keys ≡ c.args.reached.now.keys = search rules in
          subst (λ reached. Visits kept.geometry (frozen_view kept) (c.args.number ∷ []) c.args.reached.now.keys c.args.next.now.items reached c.args.next.now.items) (sym same)
          (visit_known kept.geometry (frozen_view kept) c.args.number c.args.reached.now.keys c.args.next.now.items ((is_member c.args.reached.now c.args.number).0 known))
    ]
