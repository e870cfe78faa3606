use Rattle.std.proofs.Common.{◌≡◌, true, rules, tests, sym, ◌∙◌, subst, IfOk}
use Rattle.std.specs.List.{list_all, filter_map}
use Rattle.std.specs.Vec.{vec_items}
use Rattle.std.proofs.lemmas.Iterator.{YieldsList-from_slice, items_from_collect}
use Rattle.std.proofs.lemmas.Iterator.Consumers.{YieldsList-from_filter_map}
use Rattle.findings.specs.Findings.{is_soft}
use Rattle.findings.specs.Report.{repair_of}
use Rattle.findings.proofs.RepairLemmas.{repairs_where_soft}
use Rattle.findings.proofs.repair.repairs.Goals as goal

pub returns-clause-repairs : goal.returns-clause-repairs
returns-clause-repairs c =
    let soft : list_all is_soft c.args.findings.now ≡ true = search (rules, tests) in
    let made = items_from_collect _ c.collect.ensures.ran
    (YieldsList-from_filter_map _ repair_of (YieldsList-from_slice c.args.findings.now cc) c.filter_map.ensures.closure (λ x r q k. search (rules, tests))) in
    subst (λ r. IfOk r (λ w. vec_items w ≡ filter_map repair_of c.args.findings.now)) c.in_ok-collect.was made
    ∙ sym (repairs_where_soft c.args.findings.now soft)
