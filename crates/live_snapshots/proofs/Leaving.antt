-- What is left without the orphans: what users see without them, and all of its metadata.
use Rattle.std.proofs.Common.{◌≡◌, ℕ, Bool, false, not, ◌&&◌, eqb, List, [], ◌∷◌, Option, unwrap_or, IsTrue, ◌⊎◌, inl, inr, refl, sym, ap, ◌∙◌, subst}
use Rattle.std.specs.Bool.{then_some}
use Rattle.std.specs.Option.{option_and_then, option_map_or}
use Rattle.std.proofs.lemmas.Bool.{and_from, and_parts, cases_Bool, cond-true, cond-false}
use Rattle.model.specs.Layout.{Geometry, inode_count, is_data_address, is_number}
use Rattle.model.specs.View.{View, free_inode}
use Rattle.model.specs.Cells.{updated_all}
use Rattle.model.specs.Shape.{is_table, position_count}
use Rattle.model.specs.Uses.{IsClaim, claim_at, is_directory, is_directory_at, is_sound, is_sound_at}
use Rattle.model.proofs.Same.{same_facts}
use Rattle.model.proofs.Steps.{use_sound}
use Rattle.model.proofs.Uses.{use_number, uses_agree}
use Rattle.machine.specs.Cells.{claims}
use Rattle.machine.proofs.Decisions.{any_same, sound_mode}
use Rattle.ordering.specs.Cuts.{Pending, users_view}
use Rattle.updates.specs.declared.change.Update as program
use Rattle.updates.specs.Values.{written}
use Rattle.frozen.specs.Kept.{Kept, KeepsMetadata, frozen_view, kept_bytes}
use Rattle.metadata.specs.declared.staged.Staged.{Staged}
use Rattle.metadata.specs.Shown.{Shows}
use Rattle.metadata.specs.Staged.{IsStaged, after, changes}
use Rattle.metadata.proofs.ShownLemmas.{shows_metadata}
use Rattle.live_states.specs.Drafts.{over}
use Rattle.live_states.specs.Holdings.{Holdings}
use Rattle.live_states.proofs.Staging.{keeps'}
use Rattle.live_snapshots.specs.Orphans.{Frees, LacksOrphans, is_of_orphan_below, is_orphan_of}

-- inode i claims block a as one of its tables, or as a block of the directory that it is
abbrev IsOfMetadata : Geometry → View → ℕ → ℕ → ℕ → Type 0
IsOfMetadata geo view i k a = IsClaim geo view i k a × (IsTrue (is_table geo k) ⊎ IsTrue (is_directory_at geo view i))

users_over : (disk : View) (q : List Pending) (us : List program.Update) → users_view disk (over q us) ≡ updated_all (users_view disk q) (changes us)
users_over disk q [] = refl
users_over disk q (u ∷ us) = users_over disk ((written u).update ∷ q) us

shows_itself : (kept : Kept) → Shows kept (frozen_view kept)
shows_itself kept = record {
  inode = λ i. refl;
  number_marked = λ i. refl;
  block_marked = λ a. refl;
  bytes = λ a b t e. cond-true (is_data_address kept.geometry a) (kept_bytes kept.blocks a) [] t ∙ ap (λ o. unwrap_or o []) e;
}

module _ (kept : Kept) (keeps : KeepsMetadata kept) (holdings : Holdings) (us : List program.Update)
    (frees : Frees kept.geometry (is_orphan_of kept holdings) (is_of_orphan_below kept holdings (inode_count kept.geometry)) us)
    (staged : Staged) (is : IsStaged kept (changes us) staged) where
  abbrev geo : Geometry
  geo = kept.geometry

  abbrev orphan : ℕ → Bool
  orphan = is_orphan_of kept holdings

  -- users see the claims that are kept
  same_claims : (users : View) → Shows kept users → (i a : ℕ) → claims geo (frozen_view kept) i a ≡ claims geo users i a
  unfolding claims claim_at
  same_claims users shows i a =
      let same = same_facts geo (frozen_view kept) users (shows_metadata kept users keeps shows) in
      any_same (position_count geo) (claimed_by (frozen_view kept)) (claimed_by users)
      (λ k low. ap (λ (o : Option ℕ). option_map_or (λ b. eqb b a) (option_and_then (λ b. then_some (is_data_address geo b) b) o) false) (same.uses i k))
    where
      claimed_by : View → ℕ → Bool
      claimed_by view k = option_map_or (λ b. eqb b a) (claim_at geo view i k) false

  pub lacks : LacksOrphans kept holdings (after kept staged)
  lacks users shows =
      let then = is.view users shows in
      record {
        inode = λ i. then.inode i ∙ frees.inode users i;
        number_marked = λ i. then.number_marked i ∙ frees.number_marked users i;
        block_marked = λ a. then.block_marked a ∙ frees.block_marked users a
            ∙ ap (λ b. users.block_marked a && not b) (any_same (inode_count geo) (λ i. orphan i && claims geo (frozen_view kept) i a) (λ i. orphan i && claims geo users i a) (λ i low. ap (λ b. orphan i && b) (same_claims users shows i a)));
        bytes = λ a b t e. ap (λ (f : ℕ → List ℕ). f a) (sym (frees.bytes users)) ∙ then.bytes a b t e;
      }

  -- a sound record is as it was, and so is each claim on metadata
  abbrev before : View
  before = frozen_view kept

  abbrev now : View
  now = updated_all before (changes us)

  record_stays : (i : ℕ) → IsTrue (is_sound_at geo now i) → now.inode i ≡ before.inode i
  record_stays i sound = elim (cases_Bool (orphan i)) [
    | inl t ↦ absurd (
        let free : now.inode i ≡ free_inode = frees.inode before i ∙ cond-true (orphan i) free_inode (before.inode i) t in
        sound_mode geo free_inode (and_parts (is_number geo i) (is_sound geo free_inode) (subst (λ r. IsTrue (is_number geo i && is_sound geo r)) free sound)).1 refl)
    | inr f ↦ frees.inode before i ∙ cond-false (orphan i) free_inode (before.inode i) f
  ]

  claim_before : (i k a : ℕ) → IsClaim geo now i k a → IsClaim geo before i k a
  claim_before i k a (used, address) =
      let u = use_number geo now i k a used in
      let same = record_stays i (and_from (is_number geo i) (is_sound geo (now.inode i)) u.0 (use_sound geo now (now.inode i) k a u.1)) in
      (sym (uses_agree geo now before i k (λ number. same) (λ m t above claim. ap (λ (f : ℕ → List ℕ). f t) (frees.bytes before))) ∙ used, address)

  directory_before : (i : ℕ) → IsTrue (is_directory_at geo now i) → IsTrue (is_directory_at geo before i)
  directory_before i t =
      subst (λ r. IsTrue ((is_number geo i && is_sound geo r) && is_directory r)) (record_stays i (and_parts (is_sound_at geo now i) (is_directory (now.inode i)) t).0) t

  was_there : (i k a : ℕ) → IsOfMetadata geo now i k a → IsOfMetadata geo before i k a
  was_there i k a (claim, inl e) = (claim_before i k a claim, inl e)
  was_there i k a (claim, inr d) = (claim_before i k a claim, inr (directory_before i d))

  pub keeps_left : KeepsMetadata (after kept staged)
  keeps_left =
      keeps' kept [] before us keeps (shows_itself kept)
      (λ i k a claim. inl (was_there i k a (subst (λ v. IsOfMetadata geo v i k a) (users_over before [] us) claim)))
      staged is
