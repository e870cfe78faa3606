-- The updates by which space that leaked is given back.
use Rattle.std.specs.Prelude.{◌≡◌, ℕ, ◌-◌, Bool, false, List, [], ◌∷◌, if◌then◌else◌}
use Rattle.findings.specs.declared.repair.Repair.{Repair}
use Rattle.findings.specs.declared.repair.Repair.TheVariants.{DropInode, LowerCount, FreeBlock, FreeNumber}
use Rattle.model.specs.Cells.{Update, SetBlock, SetNumber}
use Rattle.model.specs.Layout.{Geometry}
use Rattle.model.specs.View.{View}
use Rattle.plans_data.specs.Relink.{goes_away, relinking}
use Rattle.live_states.specs.Drafts.{Draft, GoesOn}
use Rattle.live_states.specs.Holdings.{Holdings, is_open_by}
use Rattle.live_removals.specs.Blocks.{freed, held_back}
use Rattle.live_removals.specs.Removed.{no_updates}

-- the blocks that are held when inode n goes, and none where it stays
abbrev pub held_where : Bool → Geometry → View → Holdings → ℕ → List ℕ
held_where gone geo view holdings n = if gone then held_back geo view holdings n 0 else []

-- Inode n gets this number of links, or goes where that is 0 and it is not open.
pub record Relinks (geo : Geometry) (view : View) (holdings : Holdings) (n links : ℕ) (draft : Draft) (holds : List ℕ) : Type 0 where
  pub updates : GoesOn (no_updates geo n) draft (relinking n (view.inode n) links (is_open_by holdings n) (freed geo view holdings n 0))
  pub held : holds ≡ held_where (goes_away links (is_open_by holdings n)) geo view holdings n

-- One bit is cleared, in the name of a file, and no block is held for it.
pub record Unmarks (geo : Geometry) (file : ℕ) (change : Update) (draft : Draft) (holds : List ℕ) : Type 0 where
  pub updates : GoesOn (no_updates geo file) draft (λ q. record { change = change; after = [] } ∷ q)
  pub held : holds ≡ []

-- A repair is carried out.
abbrev pub IsRepaired : Geometry → View → Holdings → Repair → Draft → List ℕ → Type 0
IsRepaired geo view holdings (DropInode n) draft holds = Relinks geo view holdings n 0 draft holds
IsRepaired geo view holdings (LowerCount n x) draft holds = Relinks geo view holdings n ((view.inode n).links - x) draft holds
IsRepaired geo view holdings (FreeBlock a) draft holds = Unmarks geo a (SetBlock a false) draft holds
IsRepaired geo view holdings (FreeNumber n) draft holds = Unmarks geo n (SetNumber n false) draft holds
