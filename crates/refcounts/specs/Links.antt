-- What is found of an inode's links.
use Rattle.std.specs.Prelude.{◌≡◌, ℕ, ◌%◌, Bool, nat_lt, true, List, Option, Some, None, if◌then◌else◌, IsTrue}
use Rattle.findings.specs.declared.finding.Finding.{Finding}
use Rattle.findings.specs.declared.finding.Finding.TheVariants.{CountHigh, CountLow}
use Rattle.model.specs.Layout.{Geometry, is_number}
use Rattle.model.specs.View.{View}
use Rattle.sets.specs.Members.{is_among}
use Rattle.refcounts.specs.Counts.{count_at}

-- what is found of an inode with so many links and entries
abbrev pub links_finding : ℕ → ℕ → ℕ → Option Finding
links_finding i links entries =
    if nat_lt entries links then Some (CountHigh i links entries)
    else (if nat_lt links entries then Some (CountLow i links entries) else None)

-- what is found of an inode that so many entries name
abbrev pub IsFoundOfLinks : View → ℕ → ℕ → Finding → Type 0
IsFoundOfLinks view i entries f = links_finding i (view.inode i).links entries ≡ Some f

-- what is found of those of these inodes that are reached
abbrev pub IsFoundAmong : Geometry → View → List ℕ → List ℕ → (ℕ → Bool) → Finding → Type 0
IsFoundAmong geo view reached counts inodes f =
    (i : ℕ) × IsTrue (is_number geo i) × IsTrue (inodes i) × (is_among reached i ≡ true) × IsFoundOfLinks view i (count_at counts (i % geo.inodes)) f
