-- The directories are those of the table that are reached.
use Rattle.std.proofs.Common.{◌≡◌, rules, ap, ◌∙◌}
use Rattle.std.specs.List.{filter}
use Rattle.std.proofs.lemmas.Fn.{filter_same}
use Rattle.std.proofs.lemmas.Result.{IfOk-weaker}
use Rattle.sets.specs.Members.{is_among}
use Rattle.phase_names.proofs.SameLemmas.{told_kept}
use Rattle.phase_names.proofs.whole.directories_of.Goals as goal

pub returns : goal.returns
returns c =
    let reached = c.args.reached.now in
    let all = c.in_ok-directories.directories.items in
    let kept : c.retain.new.self.items ≡ filter (is_among reached) all = filter_same _ (is_among reached) _ (λ x b f called. search rules) all c.retain.new.self.items c.retain.ensures.filtered in
    IfOk-weaker c.new.result _ _ (λ members is d. told_kept c.args.whole.now members reached (is ∙ kept ∙ ap (filter (is_among reached)) c.in_ok-directories.ensures) d) c.new.ensures
