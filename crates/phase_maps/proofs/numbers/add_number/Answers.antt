-- The finding of the number is pushed where there is one.
use Rattle.std.proofs.Common.{◌≡◌, ◌∙◌, eqb, Some, sym}
use Rattle.frozen.specs.Kept.{frozen_view, kept_bytes}
use Rattle.phase_maps.specs.NumberFindings.{IsFoundOfNumbers}
use Rattle.model.proofs.Adding.{adds_element, adds_no_element, adds_same}
use Rattle.phase_maps.proofs.NumberCases.{number_found, number_marked_at}
use Rattle.phase_maps.proofs.numbers.add_number.Goals as goal

pub returns-in_ok-push : goal.returns-in_ok-push
returns-in_ok-push c =
    let kept = c.args.frozen.now in
    let same = number_found kept.geometry (frozen_view kept) c.args.number c.requires c.is_marked.result c.is_free.result c.number_finding.result c.number_finding.ensures
    (c.is_marked.ensures ∙ sym (number_marked_at kept.geometry (kept_bytes kept.blocks) c.args.number c.requires)) c.is_free.ensures in
    adds_same (λ f. c.number_finding.result ≡ Some f) (IsFoundOfNumbers kept.geometry (frozen_view kept) (λ i. eqb i c.args.number)) c.args.found.now.items c.push.new.self.items same
    (adds_element c.number_finding.result c.args.found.now.items c.push.new.self.items c.in-Some.finding c.in-Some.is c.in_ok-push.ensures.items)

pub returns-in_default : goal.returns-in_default
returns-in_default c =
    let kept = c.args.frozen.now in
    let same = number_found kept.geometry (frozen_view kept) c.args.number c.requires c.is_marked.result c.is_free.result c.number_finding.result c.number_finding.ensures
    (c.is_marked.ensures ∙ sym (number_marked_at kept.geometry (kept_bytes kept.blocks) c.args.number c.requires)) c.is_free.ensures in
    adds_same (λ f. c.number_finding.result ≡ Some f) (IsFoundOfNumbers kept.geometry (frozen_view kept) (λ i. eqb i c.args.number)) c.args.found.now.items c.args.found.now.items same
    (adds_no_element c.number_finding.result c.args.found.now.items c.args.found.now.items c.in_default.not-Some cc)
