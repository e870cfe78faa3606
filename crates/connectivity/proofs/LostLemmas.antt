-- The sound numbers that are not among the reachable ones are the findings of this kind.
use Rattle.std.proofs.Common.{◌≡◌, ◌<◌, ℕ, not, List, Contains, refl, sym, subst, rules, IsTrue, Less}
use Rattle.std.specs.BTreeSet.{contains}
use Rattle.std.specs.Ordering.{nat_cmp}
use Rattle.std.proofs.lemmas.Bool.{and_from, and_parts, false_from_ne_true, not-true, not_from_false}
use Rattle.findings.specs.declared.finding.Finding.{Finding}
use Rattle.findings.specs.declared.finding.Finding.TheVariants.{LostInode}
use Rattle.findings.specs.Findings.{IsFinding, AreFindingsOf, finding_cmp, is_of_connectivity}
use Rattle.findings.specs.Numbers.{found_below}
use Rattle.findings.proofs.FoundBelow.{found_members, members_found, found_sorted}
use Rattle.model.specs.Layout.{Geometry, inode_count, is_number}
use Rattle.model.specs.View.{View}
use Rattle.model.specs.Uses.{is_sound, is_sound_at}
use Rattle.model.specs.Reached.{AreReached}
use Rattle.model.proofs.SlotLemmas.{number_below}
use Rattle.connectivity.specs.Walk.{is_lost_among}
use Rattle.connectivity.proofs.VisitLemmas.{is_member, not_member}

lost_rises : (i j : ℕ) → i < j → finding_cmp (LostInode i) (LostInode j) ≡ Less
lost_rises i j h = search rules

module _ (geo : Geometry) (view : View) (reached : List ℕ) (h : AreReached geo view reached) where
  lost_parts : (i : ℕ) → IsTrue (is_lost_among geo view reached i) → IsFinding geo view (LostInode i)
  lost_parts i t =
      let p = and_parts (is_sound_at geo view i) (not (contains nat_cmp (record { keys = reached }) i)) t in
      (p.0, (λ r. not_member (record { keys = reached }) i (not-true (contains nat_cmp (record { keys = reached }) i) p.1) ((h.exactly i).1 r)))

  lost_from : (i : ℕ) → IsFinding geo view (LostInode i) → IsTrue (is_lost_among geo view reached i)
  lost_from i f =
      and_from (is_sound_at geo view i) (not (contains nat_cmp (record { keys = reached }) i)) f.0
      (not_from_false (contains nat_cmp (record { keys = reached }) i)
      (false_from_ne_true (contains nat_cmp (record { keys = reached }) i) (λ t. f.1 ((h.exactly i).0 ((is_member (record { keys = reached }) i).0 t)))))

  member_is : (f : Finding) → Contains (found_below (is_lost_among geo view reached) LostInode (inode_count geo)) f → IsTrue (is_of_connectivity f) × IsFinding geo view f
  member_is f c =
      let m = found_members (is_lost_among geo view reached) LostInode (inode_count geo) f c in
      subst (λ g. IsTrue (is_of_connectivity g) × IsFinding geo view g) m.is (refl, lost_parts m.number m.passes)

  is_member_of : (f : Finding) → IsTrue (is_of_connectivity f) → IsFinding geo view f → Contains (found_below (is_lost_among geo view reached) LostInode (inode_count geo)) f
  is_member_of (LostInode i) t f =
      members_found (is_lost_among geo view reached) LostInode (inode_count geo) i
      (number_below geo i (and_parts (is_number geo i) (is_sound geo (view.inode i)) f.0).0) (lost_from i f)
  is_member_of _ t f = absurd cc

pub lost_found : (geo : Geometry) (view : View) (reached : List ℕ) (found : List Finding) → AreReached geo view reached
    → found ≡ found_below (is_lost_among geo view reached) LostInode (inode_count geo) → AreFindingsOf is_of_connectivity geo view found
lost_found geo view reached found h e =
    subst (λ fs. AreFindingsOf is_of_connectivity geo view fs) (sym e)
    (record {
      in_order = found_sorted (is_lost_among geo view reached) LostInode finding_cmp lost_rises (inode_count geo);
      exactly = λ f. (member_is geo view reached h f, (λ x. is_member_of geo view reached h f x.0 x.1));
    })
