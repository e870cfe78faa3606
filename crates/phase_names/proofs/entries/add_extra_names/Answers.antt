-- An entry is an extra one where it names the root or what was seen before.
use Rattle.std.proofs.Common.{◌≡◌, ap, ◌∙◌, inl, inr, subst, arith, length}
use Rattle.std.specs.Vec.{vec_items}
use Rattle.model.specs.Growth.{Adds}
use Rattle.phase_names.specs.Entries.{AtBelow, IsExtraAt}
use Rattle.phase_names.proofs.StepLemmas.{entry_in, extra_next, no_extra_next, seen_next, was_not_seen, was_seen}
use Rattle.phase_names.proofs.entries.add_extra_names.Goals as goal
use Rattle.phase_names.proofs.entries.add_extra_names.Goals.{then-entry-eq-ROOT+in_ok-push, then-entry-eq-ROOT-via-then-entry-eq-ROOT, then-entry-eq-ROOT-via-else-entry-eq-ROOT+then-not-is_first, else-entry-eq-ROOT+else-not-is_first}

pub loop-entry-preserved : goal.loop-entry-preserved
loop-entry-preserved c =
    let entries = c.args.entries.now in
    let k = c.loop-entry.entry-index in
    let low = c.loop-entry-test.true in
    let inode = (entry_in entries k).inode in
    let i = c.loop-entry.invariant in
    let first = c.in_ok-is_first.ensures.added in
    record {
      seen = seen_next entries k c.loop-entry.seen c.insert.new.self low c.in_ok-is_first.ensures.updates i.seen;
      found = elim c.if-entry-eq-ROOT.branch [
        | then-entry-eq-ROOT+in_ok-push w ↦
            extra_next entries k c.args.found.now.items c.loop-entry.found.items c.if-entry-eq-ROOT.found.items low
            (elim w.then-entry-eq-ROOT.branch [
              | then-entry-eq-ROOT-via-then-entry-eq-ROOT w' ↦ inl w'.if-entry-eq-ROOT.true
              | then-entry-eq-ROOT-via-else-entry-eq-ROOT+then-not-is_first w' ↦ inr (was_seen entries k inode c.loop-entry.seen c.in_ok-is_first.is_first first i.seen w'.if-not-is_first.true)
            ]) (ap vec_items w.found-is ∙ w.in_ok-push.ensures.items) i.found
        | else-entry-eq-ROOT+else-not-is_first w ↦
            no_extra_next entries k c.args.found.now.items c.loop-entry.found.items c.if-entry-eq-ROOT.found.items low
            (λ extra. elim extra [
              | inl is_root ↦ w.if-entry-eq-ROOT.false is_root
              | inr seen ↦ was_not_seen entries k inode c.loop-entry.seen c.in_ok-is_first.is_first first i.seen w.if-not-is_first.false seen
            ]) (ap vec_items w.found-is) i.found
      ];
    }

pub returns-clause-found : goal.returns-clause-found
returns-clause-found c =
    let all : c.loop-entry.entry-index ≡ length c.args.entries.now = omega arith in
    subst (λ n. Adds (AtBelow (IsExtraAt c.args.entries.now) n) c.args.found.now.items c.loop-entry.found.items) all c.loop-entry.invariant.found
