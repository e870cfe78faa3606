-- What a device in memory keeps.
use Rattle.std.specs.Prelude.{◌≡◌, ℕ, ◌<◌, ◌%◌, ◌/◌, ◌^◌, List, All, length}
use Rattle.model.specs.Image.{IsBlock}
use Rattle.device.specs.Writes.{Write, image_after}

-- the blocks that it began with, the writes since, and the count of failures
pub record Memory : Type 0 where
  pub first : List (List ℕ)
  pub writes : List Write
  pub failures : ℕ

-- a block, written at an address that there is
pub record IsWriteTo (count : ℕ) (w : Write) : Type 0 where
  pub address : w.0 < count
  pub block : IsBlock w.1

-- Its blocks now are those after the writes, as many as it began with and no more than have an address.
pub record IsMemory (first now : List (List ℕ)) (writes : List Write) : Type 0 where
  pub kept : now ≡ image_after first writes
  pub began : All IsBlock first
  pub written : All (IsWriteTo (length first)) writes
  pub whole : All IsBlock now
  pub few : length now < 2 ^ 32

-- one block or more, and no part of one, and no more than have an address
pub record IsWholeBlocks (bytes : ℕ) : Type 0 where
  pub some : 0 < bytes
  pub whole : bytes % 1024 ≡ 0
  pub few : bytes / 1024 < 2 ^ 32
