-- What becomes of the attributes of an inode.
use Rattle.std.specs.Prelude.{◌≡◌, ℕ, List}
use Rattle.model.specs.View.{View}
use Rattle.machine.specs.Command.{Command, SetAttributes}

-- the command sets those of inode i
abbrev pub IsSettingOf : ℕ → Command → Type 0
IsSettingOf i (SetAttributes j words) = i ≡ j
IsSettingOf i _ = ⊥
