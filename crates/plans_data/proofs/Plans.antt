-- A command that no cause refuses has a plan.
use Rattle.std.proofs.Common.{◌≡◌, ℕ, ◌<◌, ◌≤◌, List, [], ◌∷◌, inl, inr, sym, subst, IsTrue, IsFalse, arith}
use Rattle.std.proofs.lemmas.Bool.{and_parts}
use Rattle.model.specs.Layout.{Geometry, IsGeometry, is_number}
use Rattle.model.specs.View.{Inode, free_inode}
use Rattle.model.specs.Uses.{blocks_of, is_sound}
use Rattle.model.proofs.Uses.{below_has}
use Rattle.findings.specs.declared.repair.Repair.TheVariants.{DropInode, LowerCount, FreeBlock, FreeNumber}
use Rattle.machine.specs.State.{State, is_kept}
use Rattle.machine.specs.Command.{Write, Truncate, Close}
use Rattle.machine.specs.Causes.{Accepts, file_of}
use Rattle.machine.specs.Cells.{block_of, seen}
use Rattle.machine.specs.Effects.{IsOverwritten}
use Rattle.machine.specs.Room.{IsFreeBlock}
use Rattle.machine.specs.Snapshot.{held_still}
use Rattle.machine.specs.Balance.{Balance, Owes}
use Rattle.plans_data.specs.Append.{AreApart, sized}
use Rattle.plans_data.specs.Grounds.{IsWritable}
use Rattle.plans_data.specs.Lists.{given_up_with, let_go_below}
use Rattle.plans_data.specs.Plans.{IsChoice, holder_of}
use Rattle.plans_data.specs.Relink.{MayClose, MayRepair}
use Rattle.plans_data.specs.Release.{MayRelease}
use Rattle.plans_data.specs.Truncate.{MayTruncate}
use Rattle.plans_data.specs.Write.{IsWrite, MayWriteInPlace, MayWriteAppended, MayWriteMoved}
use Rattle.plans_data.proofs.Accepted.{balance_held, balance_whole, accepted_write, accepted_truncate, accepted_close, owed_drop, owed_lower, owed_block, owed_number}
use Rattle.plans_data.proofs.Blocks.{few_blocks}
use Rattle.plans_data.proofs.Tables.{Keeps, rules_claim, kept_next, kept_in_use}
use Rattle.plans_data.proofs.Lists.{given_up_are, let_go_are, let_go_parts}

module _ (geo : Geometry) (ok : IsGeometry geo) (old : State) (bal : Balance geo old) where
  module _ (h k : ℕ) (piece : List ℕ) (accepted : Accepts geo old (Write h k piece)) (bytes : List ℕ)
      (overwritten : IsOverwritten piece (seen geo old.view (file_of old h) k) bytes) where
    abbrev n : ℕ
    n = file_of old h

    abbrev was : Inode
    was = old.view.inode n

    can : IsWritable geo old.view n k piece
    can = accepted_write geo old bal h k piece accepted

    write : IsWrite geo old.view n k piece bytes
    write = record { sound = can.file.sound; file = can.file.file; some = can.some; few = can.few; overwritten = overwritten }

    pub plan_in_place : k < blocks_of was.size → IsFalse (is_kept old (block_of geo old.view n k)) → MayWriteInPlace geo old n k piece bytes
    plan_in_place inside free = record { write = write; inside = inside; not_kept = free }

    pub plan_appended : (b : ℕ) (news : List ℕ) → IsChoice geo old.view k b news → blocks_of was.size ≤ k → MayWriteAppended geo old n k b piece bytes (holder_of geo old.view n k b news)
    plan_appended b news choice past = record {
      write = write;
      whole = balance_whole geo old ok bal;
      held = (balance_held geo old bal).0;
      next = next;
      room = can.room;
      free = choice.free;
      kept = holds.kept;
      apart = subst (λ xs. AreApart (b ∷ xs)) (sym holds.tables) choice.apart;
    }
      where
        next : k ≡ blocks_of was.size
        next = elim can.place [ inl inside ↦ absurd (omega (arith, inside, past)) | inr e ↦ e ]

        holds : Keeps geo old.view n k b (holder_of geo old.view n k b news) news
        holds = kept_next geo old.view n ok (rules_claim geo old.view n bal.rules can.file.sound) k b next can.room news choice

    pub plan_moved : (b : ℕ) → IsFreeBlock geo old.view b → k < blocks_of was.size → IsTrue (is_kept old (block_of geo old.view n k)) → MayWriteMoved geo old n k b piece bytes (holder_of geo old.view n k b [])
    plan_moved b free inside keeps = record {
      write = write;
      whole = balance_whole geo old ok bal;
      held = (balance_held geo old bal).0;
      inside = inside;
      keeps = keeps;
      free = free;
      kept = (kept_in_use geo old.view n ok (rules_claim geo old.view n bal.rules can.file.sound) k b (below_has geo was k inside (few_blocks geo old.view n can.file.sound))).kept;
    }

  pub plan_truncate : (h size : ℕ) → Accepts geo old (Truncate h size) → MayTruncate geo old (file_of old h) size (given_up_with geo old (file_of old h) (sized (old.view.inode (file_of old h)) size))
  plan_truncate h size accepted = let a = accepted_truncate geo old bal h size accepted in record {
    sound = (a.0).sound;
    file = (a.0).file;
    no_more = a.1;
    given_up = given_up_are geo old (file_of old h) (sized (old.view.inode (file_of old h)) size);
    held = (balance_held geo old bal).1;
  }

  pub plan_close : (h : ℕ) → Accepts geo old (Close h) → MayClose geo old h (file_of old h) (given_up_with geo old (file_of old h) free_inode)
  plan_close h accepted = let a = accepted_close geo old bal h accepted in record {
    number = (and_parts (is_number geo (file_of old h)) (is_sound geo (old.view.inode (file_of old h))) a.sound).0;
    given_up = λ t. given_up_are geo old (file_of old h) free_inode;
    held = (balance_held geo old bal).1;
  }

  pub plan_drop : (n : ℕ) → Owes geo old (DropInode n) → MayRepair geo old (DropInode n) (given_up_with geo old n free_inode)
  plan_drop n o = let f = owed_drop geo old bal n o in record {
    sound = f.sound;
    enough = f.enough;
    given_up = λ t. given_up_are geo old n free_inode;
    held = (balance_held geo old bal).1;
  }

  pub plan_lower : (n x : ℕ) → Owes geo old (LowerCount n x) → MayRepair geo old (LowerCount n x) (given_up_with geo old n free_inode)
  plan_lower n x o = let f = owed_lower geo old bal n x o in record {
    sound = f.sound;
    enough = f.enough;
    given_up = λ t. given_up_are geo old n free_inode;
    held = (balance_held geo old bal).1;
  }

  pub plan_block : (a : ℕ) (blocks : List ℕ) → Owes geo old (FreeBlock a) → MayRepair geo old (FreeBlock a) blocks
  plan_block a blocks o = owed_block geo old bal a o

  pub plan_number : (n : ℕ) (blocks : List ℕ) → Owes geo old (FreeNumber n) → MayRepair geo old (FreeNumber n) blocks
  plan_number n blocks o = owed_number geo old bal n o

  pub plan_release : (s n : ℕ) → ((a : ℕ) → IsTrue (old.held a) → a < n) → MayRelease geo old (held_still old s) (let_go_below old s n)
  plan_release s n few = record {
    all = λ a. (
      (λ c. (let_go_parts old s a).0 ((let_go_are old s n few a).0 c)),
      (λ h. (let_go_are old s n few a).1 ((let_go_parts old s a).1 h)),
    );
    still = λ a t. (and_parts (old.held a) _ t).0;
    unclaimed = (balance_held geo old bal).1;
  }
