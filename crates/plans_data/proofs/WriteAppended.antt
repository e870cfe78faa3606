-- A file gets a block after its last one.
use Rattle.std.proofs.Common.{ℕ, Bool, List, length, refl}
use Rattle.std.proofs.lemmas.Bool.{both_ways, false_from_ne_true}
use Rattle.model.specs.Layout.{Geometry}
use Rattle.model.specs.View.{View}
use Rattle.machine.specs.State.{State}
use Rattle.machine.specs.Effects.{Writes, Appended, size_after}
use Rattle.ordering.specs.Cuts.{Pending, users_view}
use Rattle.ordering.specs.Ghosts.{Ghost, at_rest}
use Rattle.ordering.specs.Agrees.{AllAgree}
use Rattle.plans_data.specs.Issues.{Issues}
use Rattle.plans_data.specs.Now.{now, becomes}
use Rattle.plans_data.specs.Append.{Holder, MayAppend, OfFile, IsSpare, appended}
use Rattle.plans_data.specs.Write.{MayWriteAppended, HeldAreMarked}
use Rattle.plans_data.proofs.Blocks.{one_more}
use Rattle.plans_data.proofs.Append.{append_places, append_issues}

-- where each held block is marked, unmarked blocks are spare
pub spare_at_rest : (s : State) (safe : ℕ → Bool) → HeldAreMarked s → IsSpare s.view (at_rest s.held safe)
spare_at_rest s safe held a unmarked = (false_from_ne_true (s.held a) (λ t. both_ways (s.view.block_marked a) unmarked (held a t)), λ n k. refl)

module _ (geo : Geometry) (disk : View) (q : List Pending) (old : State) (safe : ℕ → Bool) (n k b : ℕ) (piece bytes : List ℕ) (holder : Holder)
    (may : MayWriteAppended geo (now disk q old) n k b piece bytes holder) where
  abbrev users : View
  users = users_view disk q

  abbrev ghost : Ghost
  ghost = at_rest old.held safe

  abbrev size : ℕ
  size = size_after users n k piece

  pub may_append : MayAppend geo users ghost n k b bytes size holder
  may_append = record {
    whole = may.whole;
    spare = spare_at_rest (now disk q old) safe may.held;
    sound = may.write.sound;
    next = may.next;
    room = may.room;
    blocks = one_more (users.inode n).size k (length piece) may.next may.write.some may.write.few;
    free = may.free;
    kept = may.kept;
    apart = may.apart;
    content = OfFile may.write.file;
  }

  pub appended_writes : Writes geo (now disk q old) n k piece (becomes disk (appended geo n (users.inode n) k b bytes size holder q) old.held old)
  appended_writes = record {
    bytes = bytes;
    overwritten = may.write.overwritten;
    stores = Appended (users_view disk (appended geo n (users.inode n) k b bytes size holder q)) may.next (append_places geo disk q ghost n k b bytes size holder may_append) refl;
  }

  pub appended_issues : AllAgree geo disk q ghost → Issues geo disk q ghost (appended geo n (users.inode n) k b bytes size holder q) ghost
  appended_issues = append_issues geo disk q ghost n k b bytes size holder may_append
