-- An inode gets its links, or goes.
use Rattle.std.proofs.Common.{◌≡◌, ◌≢◌, ◌⊎◌, ℕ, refl, Bool, true, false, not, ◌&&◌, cond, eqb, List, [], ◌∷◌, inl, inr, sym, ap, ap₂, ◌∙◌, subst, eq-eqb, ne_eqb, IsFalse, IsTrue}
use Rattle.model.specs.Cells.{SetInode}
use Rattle.model.specs.View.{Inode, View}
use Rattle.ordering.specs.Cuts.{Cell}
use Rattle.machine.specs.Effects.{with_links}
use Rattle.plans_data.specs.Freeing.{freeing}
use Rattle.plans_data.specs.Relink.{goes_away, relinking}
use Rattle.frozen.specs.Kept.{Kept, KeepsMetadata, frozen_view}
use Rattle.metadata.specs.Shown.{Shows}
use Rattle.live_plans.proofs.DraftLemmas.{goes_as}
use Rattle.live_states.specs.Drafts.{Draft, GoesOn}
use Rattle.live_states.specs.Holdings.{Holdings, is_kept_by, is_open_by}
use Rattle.live_removals.specs.Blocks.{freed, held_back, is_loose}
use Rattle.live_removals.specs.Removed.{no_updates}
use Rattle.live_removals.proofs.Showing.{gone_shown}
use Rattle.live_repairs.specs.Repaired.{Relinks, held_where}

and_not_true : (b : Bool) → (b && not true) ≡ false
and_not_true true = refl
and_not_true false = refl

module _ (kept : Kept) (view : View) (shows : Shows kept view) (holdings : Holdings) (n links : ℕ) (start new : Draft) (holds : List ℕ) (none_yet : start ≡ no_updates kept.geometry n) (after : List Cell) (alone : after ≡ []) where
  abbrev opened : Bool
  opened = is_open_by holdings n

  stays_so : (links ≢ 0) ⊎ IsTrue opened → goes_away links opened ≡ false
  stays_so (inl some) = ap (λ b. b && not opened) (ne_eqb links 0 some)
  stays_so (inr open_now) = ap (λ b. eqb links 0 && not b) open_now ∙ and_not_true (eqb links 0)

  goes_so : links ≡ 0 → IsFalse opened → goes_away links opened ≡ true
  goes_so none shut = ap (λ b. b && not opened) (eq-eqb links 0 none) ∙ ap not shut

  -- it goes where it has no links and is not open
  pub relink_goes : KeepsMetadata kept → (f : Kept) → f ≡ kept → links ≡ 0 → IsFalse opened → GoesOn start new (freeing n (freed f.geometry (frozen_view f) holdings n 0) after)
      → holds ≡ held_back f.geometry (frozen_view f) holdings n 0 → Relinks kept.geometry view holdings n links new holds
  relink_goes keeps f same none shut frees held =
      let frees_so : GoesOn (no_updates kept.geometry n) new (freeing n (freed kept.geometry view holdings n 0) []) =
      subst (λ (d : Draft). GoesOn d new (freeing n (freed kept.geometry view holdings n 0) [])) none_yet
      (subst (λ bs. GoesOn start new (freeing n bs [])) (gone_shown kept view keeps shows (is_loose holdings) f same n 0)
      (subst (λ (cs : List Cell). GoesOn start new (freeing n (freed f.geometry (frozen_view f) holdings n 0) cs)) alone frees)) in
      record {
        updates = goes_as (no_updates kept.geometry n) new (freeing n (freed kept.geometry view holdings n 0) []) (relinking n (view.inode n) links opened (freed kept.geometry view holdings n 0))
            (λ q. ap (λ b. cond b (freeing n (freed kept.geometry view holdings n 0) [] q) (record { change = SetInode n (with_links (view.inode n) links); after = [] } ∷ q)) (sym (goes_so none shut))) frees_so;
        held = held ∙ gone_shown kept view keeps shows (is_kept_by holdings) f same n 0 ∙ ap (λ b. held_where b kept.geometry view holdings n) (sym (goes_so none shut));
      }

  -- and else its record gets the links
  pub relink_stays : (links ≢ 0) ⊎ IsTrue opened → (x : Inode) → x ≡ view.inode n → GoesOn start new (λ q. record { change = SetInode n (with_links x links); after = after } ∷ q) → holds ≡ []
      → Relinks kept.geometry view holdings n links new holds
  relink_stays why x is goes held = record {
    updates = goes_as (no_updates kept.geometry n) new (λ q. record { change = SetInode n (with_links x links); after = after } ∷ q) (relinking n (view.inode n) links opened (freed kept.geometry view holdings n 0))
        (λ q.
        ap₂ (λ (i : Inode) (cs : List Cell). record { change = SetInode n (with_links i links); after = cs } ∷ q) is alone
        ∙ ap (λ b. cond b (freeing n (freed kept.geometry view holdings n 0) [] q) (record { change = SetInode n (with_links (view.inode n) links); after = [] } ∷ q)) (sym (stays_so why)))
        (subst (λ (d : Draft). GoesOn d new (λ q. record { change = SetInode n (with_links x links); after = after } ∷ q)) none_yet goes);
    held = held ∙ ap (λ b. held_where b kept.geometry view holdings n) (sym (stays_so why));
  }
