-- The commands that change data, and that no cause refuses, are carried out by their updates.
use Rattle.std.proofs.Common.{◌≡◌, ℕ, ◌<◌, ◌≤◌, Bool, List, [], refl, sym, subst, IsTrue, IsFalse}
use Rattle.model.specs.Layout.{Geometry}
use Rattle.model.specs.View.{View, free_inode}
use Rattle.model.specs.Uses.{blocks_of}
use Rattle.machine.specs.State.{State, is_kept, is_open}
use Rattle.machine.specs.Command.{Done, Write, Truncate, Close}
use Rattle.machine.specs.Causes.{Accepts, file_of}
use Rattle.machine.specs.Cells.{block_of, seen}
use Rattle.machine.specs.Room.{IsFreeBlock}
use Rattle.machine.specs.Effects.{IsOverwritten, Writes, size_after, truncated, closed}
use Rattle.ordering.specs.Cuts.{Pending, users_view}
use Rattle.ordering.specs.Ghosts.{at_rest}
use Rattle.plans_data.specs.Now.{becomes}
use Rattle.plans_data.specs.Append.{Holder, sized, appended}
use Rattle.plans_data.specs.Carried.{Stands, IsCarriedOut}
use Rattle.plans_data.specs.Freeing.{held_with}
use Rattle.plans_data.specs.Issues.{Issues}
use Rattle.plans_data.specs.Lists.{given_up_with}
use Rattle.plans_data.specs.Plans.{IsChoice, holder_of}
use Rattle.plans_data.specs.Relink.{MayClose, closing, goes_away, held_if, without_handle}
use Rattle.plans_data.specs.Truncate.{MayTruncate, truncation}
use Rattle.plans_data.specs.Write.{MayWriteInPlace, MayWriteAppended, MayWriteMoved, written, relocated, held_besides}
use Rattle.plans_data.proofs.Plans.{plan_in_place, plan_appended, plan_moved, plan_truncate, plan_close}
use Rattle.plans_data.proofs.Relinking.{close_closes, close_issues}
use Rattle.plans_data.proofs.Stands.{carried}
use Rattle.plans_data.proofs.Truncating.{truncate_truncates, truncate_issues}
use Rattle.plans_data.proofs.WriteAppended.{appended_writes, appended_issues}
use Rattle.plans_data.proofs.WriteInPlace.{in_place_writes, in_place_issues}
use Rattle.plans_data.proofs.WriteMoved.{moved_writes, moved_issues}

module _ (geo : Geometry) (disk : View) (q : List Pending) (old : State) (safe : ℕ → Bool) (stands : Stands geo disk q old safe) where
  abbrev users : View
  users = users_view disk q

  -- the state with this view
  abbrev with_view : View → State
  with_view v = record old { view = v }

  module _ (h k : ℕ) (piece : List ℕ) (accepted : Accepts geo old (Write h k piece)) (bytes : List ℕ) (over : IsOverwritten piece (seen geo old.view (file_of old h) k) bytes) where
    abbrev n : ℕ
    n = file_of old h

    abbrev in_place : View → List Pending
    in_place v = written n (v.inode n) (block_of geo v n k) bytes (size_after v n k piece) q

    pub carries_write : k < blocks_of (old.view.inode n).size → IsFalse (is_kept old (block_of geo old.view n k))
        → IsCarriedOut geo disk q old (Write h k piece) Done (in_place old.view) (becomes disk (in_place old.view) old.held old) safe safe
    carries_write inside free =
        let may = subst (λ v. MayWriteInPlace geo (with_view v) n k piece bytes) (sym stands.same) (plan_in_place geo stands.geometry old stands.balance h k piece accepted bytes over inside free) in
        carried geo disk q old safe stands (Write h k piece) Done (in_place old.view) (becomes disk (in_place old.view) old.held old) safe
        (accepted, subst (λ v. Writes geo (with_view v) n k piece (becomes disk (in_place v) old.held old)) stands.same (in_place_writes geo disk q old safe n k piece bytes may)) refl
        (subst (λ v. Issues geo disk q (at_rest old.held safe) (in_place v) (at_rest old.held safe)) stands.same (in_place_issues geo disk q old safe n k piece bytes may stands.agree))

    abbrev holder : View → ℕ → List ℕ → Holder
    holder v b news = holder_of geo v n k b news

    abbrev extended : View → ℕ → List ℕ → List Pending
    extended v b news = appended geo n (v.inode n) k b bytes (size_after v n k piece) (holder v b news) q

    pub carries_extension : (b : ℕ) (news : List ℕ) → IsChoice geo old.view k b news → blocks_of (old.view.inode n).size ≤ k
        → IsCarriedOut geo disk q old (Write h k piece) Done (extended old.view b news) (becomes disk (extended old.view b news) old.held old) safe safe
    carries_extension b news choice past =
        let may = subst (λ v. MayWriteAppended geo (with_view v) n k b piece bytes (holder v b news)) (sym stands.same) (plan_appended geo stands.geometry old stands.balance h k piece accepted bytes over b news choice past) in
        carried geo disk q old safe stands (Write h k piece) Done (extended old.view b news) (becomes disk (extended old.view b news) old.held old) safe
        (accepted, subst (λ v. Writes geo (with_view v) n k piece (becomes disk (extended v b news) old.held old)) stands.same (appended_writes geo disk q old safe n k b piece bytes (holder users b news) may)) refl
        (subst (λ v. Issues geo disk q (at_rest old.held safe) (extended v b news) (at_rest old.held safe)) stands.same (appended_issues geo disk q old safe n k b piece bytes (holder users b news) may stands.agree))

    abbrev kept : View → ℕ → Holder
    kept v b = holder_of geo v n k b []

    abbrev moved : View → ℕ → List Pending
    moved v b = relocated geo n (v.inode n) k b bytes (size_after v n k piece) (kept v b) q

    pub carries_move : (b : ℕ) → IsFreeBlock geo old.view b → k < blocks_of (old.view.inode n).size → IsTrue (is_kept old (block_of geo old.view n k))
        → IsCarriedOut geo disk q old (Write h k piece) Done (moved old.view b) (becomes disk (moved old.view b) (held_besides geo old n k) old) safe safe
    carries_move b free inside keeps =
        let may = subst (λ v. MayWriteMoved geo (with_view v) n k b piece bytes (kept v b)) (sym stands.same) (plan_moved geo stands.geometry old stands.balance h k piece accepted bytes over b free inside keeps) in
        carried geo disk q old safe stands (Write h k piece) Done (moved old.view b) (becomes disk (moved old.view b) (held_besides geo old n k) old) safe
        (accepted, subst (λ v. Writes geo (with_view v) n k piece (becomes disk (moved v b) (held_besides geo (with_view v) n k) old)) stands.same (moved_writes geo disk q old safe n k b piece bytes stands.agree (kept users b) may)) refl
        (subst (λ v. Issues geo disk q (at_rest old.held safe) (moved v b) (at_rest (held_besides geo (with_view v) n k) safe)) stands.same (moved_issues geo disk q old safe n k b piece bytes stands.agree (kept users b) may))

  module _ (h size : ℕ) (accepted : Accepts geo old (Truncate h size)) where
    abbrev m : ℕ
    m = file_of old h

    abbrev gone : View → List ℕ
    gone v = given_up_with geo (with_view v) m (sized (v.inode m) size)

    abbrev shorter : View → List Pending
    shorter v = truncation m (v.inode m) size (gone v) q

    abbrev held_then : View → ℕ → Bool
    held_then v = held_with geo (with_view v) m (sized (v.inode m) size)

    pub carries_truncation : IsCarriedOut geo disk q old (Truncate h size) Done (shorter old.view) (becomes disk (shorter old.view) (held_then old.view) old) safe safe
    carries_truncation =
        let may = subst (λ v. MayTruncate geo (with_view v) m size (gone v)) (sym stands.same) (plan_truncate geo stands.geometry old stands.balance h size accepted) in
        carried geo disk q old safe stands (Truncate h size) Done (shorter old.view) (becomes disk (shorter old.view) (held_then old.view) old) safe
        (accepted, subst (λ v. becomes disk (shorter v) (held_then v) old ≡ truncated geo (with_view v) m size) stands.same (truncate_truncates geo disk q old safe m size (gone users) may stands.agree)) refl
        (subst (λ v. Issues geo disk q (at_rest old.held safe) (shorter v) (at_rest (held_then v) safe)) stands.same (truncate_issues geo disk q old safe m size (gone users) may stands.agree))

  module _ (h : ℕ) (accepted : Accepts geo old (Close h)) where
    abbrev i : ℕ
    i = file_of old h

    abbrev left : State
    left = without_handle h old

    abbrev let_go : View → List ℕ
    let_go v = given_up_with geo (with_view v) i free_inode

    abbrev shut : View → List Pending
    shut v = closing i (v.inode i) (is_open left i) (let_go v) q

    abbrev held_now : View → ℕ → Bool
    held_now v = held_if (goes_away (v.inode i).links (is_open left i)) geo (with_view v) i

    pub carries_close : IsCarriedOut geo disk q old (Close h) Done (shut old.view) (becomes disk (shut old.view) (held_now old.view) left) safe safe
    carries_close =
        let may = subst (λ v. MayClose geo (with_view v) h i (let_go v)) (sym stands.same) (plan_close geo stands.geometry old stands.balance h accepted) in
        carried geo disk q old safe stands (Close h) Done (shut old.view) (becomes disk (shut old.view) (held_now old.view) left) safe
        (accepted, subst (λ v. becomes disk (shut v) (held_now v) left ≡ closed geo (with_view v) h) stands.same (close_closes geo disk q old safe i (let_go users) stands.agree h may refl)) refl
        (subst (λ v. Issues geo disk q (at_rest old.held safe) (shut v) (at_rest (held_now v) safe)) stands.same (close_issues geo disk q old safe i (let_go users) stands.agree h may))
