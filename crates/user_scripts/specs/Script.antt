-- The lines of a script.
use Rattle.std.specs.Prelude.{◌≡◌, ◌≢◌, ℕ, ◌+◌, ◌≤◌, ◌==◌, List, [], ◌∷◌, ◌++◌, All, count_by}
use Rattle.std.specs.List.{flat_map}
use Rattle.user_scripts.specs.declared.lines.BadScript.{BadScript}
use Rattle.user_scripts.specs.declared.lines.BadScript.TheVariants.{Line, NoMemory}
use Rattle.user_scripts.specs.declared.lines.UserLine.{UserLine}

-- the bytes of a line, with its line feed
abbrev pub bytes_of : UserLine → List ℕ
bytes_of line = line.text.items ++ 10 ∷ []

-- the bytes of lines, one after another
abbrev pub script_of : List UserLine → List ℕ
script_of lines = flat_map bytes_of lines

-- no line feed stands in a line
abbrev pub IsWhole : UserLine → Type 0
IsWhole line = All (λ byte. byte ≢ 10) line.text.items

-- it is the line of a user that there is
abbrev pub IsOfUser : UserLine → Type 0
IsOfUser line = (1 ≤ line.user) × (line.user ≤ 8)

-- how many line feeds stand in a text
abbrev pub line_feeds : List ℕ → ℕ
line_feeds bytes = count_by (λ byte. byte == 10) bytes

-- a text begins with this line, and this comes behind its line feed
pub record IsBeginning (text : List ℕ) (line : UserLine) (behind : List ℕ) : Type 0 where
  pub parted : text ≡ line.text.items ++ 10 ∷ behind
  pub whole : IsWhole line

-- a line that the text has: each line feed ends one, and one more may lack it
abbrev pub BreaksAt : List ℕ → BadScript → Type 0
BreaksAt text (Line number) = (1 ≤ number) × (number ≤ line_feeds text + 1)
BreaksAt text NoMemory = Unit {0}
