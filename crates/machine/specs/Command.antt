-- What can be asked of the volume, and what it answers.
use Rattle.std.specs.Prelude.{ℕ, List, Result, replicate}
use Rattle.findings.specs.declared.finding.Finding.{Finding}
use Rattle.model.specs.View.{View}
use Rattle.layout.specs.declared.refusal.Refusal.{Refusal}

-- a check of a frozen image, with what it found
pub record Check : Type 0 where
  pub image : View
  pub findings : List Finding

-- the attributes of what is made without any
abbrev pub no_attributes : List ℕ
no_attributes = replicate 16 0

-- Paths and pieces are lists of bytes; handles, indices and numbers are as the caller gives them. What is made gets the attributes that are given; of what is
-- there they are set and read by the inode's number. A read of a snapshot names it, an inode and a block; an end names the snapshot.
pub data Command : Type 0 where
  Create : List ℕ → List ℕ → Command
  Mkdir : List ℕ → List ℕ → Command
  Link : List ℕ → List ℕ → Command
  Unlink : List ℕ → Command
  Rmdir : List ℕ → Command
  Rename : List ℕ → List ℕ → Command
  Open : List ℕ → Command
  Close : ℕ → Command
  Read : ℕ → ℕ → Command
  Write : ℕ → ℕ → List ℕ → Command
  Truncate : ℕ → ℕ → Command
  SetAttributes : ℕ → List ℕ → Command
  ReadAttributes : ℕ → Command
  ListNames : List ℕ → Command
  Stat : List ℕ → Command
  Freeze : Command
  SnapRead : ℕ → ℕ → ℕ → Command
  Release : ℕ → Command
  Install : Check → Command
  RepairAt : ℕ → Command
  Flush : ℕ → Command
  Sync : Command

-- a name and the number that it stands for
pub record Name : Type 0 where
  pub name : List ℕ
  pub number : ℕ

-- A status is the number, the mode (1 for a file, 2 for a directory), the links and the size; an image is that of a snapshot, with its number.
pub data Answer : Type 0 where
  Done : Answer
  Number : ℕ → Answer
  Bytes : List ℕ → Answer
  Listed : List Name → Answer
  Attributes : List ℕ → Answer
  Status : ℕ → ℕ → ℕ → ℕ → Answer
  Image : ℕ → View → Answer

abbrev pub Reply : Type 0
Reply = Result Answer Refusal
