-- The rule that a finding shows broken.
use Rattle.std.specs.Prelude.{ℕ, ◌==◌, Option, Some, None, if◌then◌else◌}
use Rattle.findings.specs.declared.finding.Finding.{Finding}
use Rattle.findings.specs.Rules.{rule_of}

-- the rule that a finding shows broken; one of a soft kind shows none
abbrev pub rule_broken : Finding → Option ℕ
rule_broken f = if rule_of f == 0 then None else Some (rule_of f)
