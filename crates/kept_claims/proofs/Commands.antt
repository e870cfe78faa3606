-- Each command's plan gives new metadata its bytes.
use Rattle.std.proofs.Common.{◌≡◌, ℕ, Bool, List, [], ◌++◌, ◌⊎◌, inl, inr, sym, ◌∙◌, subst}
use Rattle.std.proofs.lemmas.List.{append_cancel_right}
use Rattle.model.specs.Layout.{Geometry}
use Rattle.model.specs.View.{View, free_inode}
use Rattle.model.specs.Rules.{ObeysRules}
use Rattle.ordering.specs.Cuts.{Pending, users_view}
use Rattle.machine.specs.State.{State, is_open}
use Rattle.machine.specs.Command.{Command, Answer}
use Rattle.machine.specs.Causes.{Accepts, file_of}
use Rattle.machine.specs.Paths.{holder, name_in, number_at, slot_at}
use Rattle.plans_data.specs.Append.{sized}
use Rattle.plans_data.specs.Carried.{Stands}
use Rattle.plans_data.specs.Lists.{given_up_with}
use Rattle.plans_data.specs.Now.{now}
use Rattle.plans_data.specs.Plans.{holder_of, named_by}
use Rattle.plans_data.specs.Relink.{open_of, without_handle}
use Rattle.plans_data.proofs.Plans.{plan_in_place, plan_appended, plan_moved, plan_truncate}
use Rattle.plans_naming.specs.Plans.{slot_block, entry_block}
use Rattle.machine.specs.Cells.{block_of}
use Rattle.plans_naming.proofs.AcceptedCommands.{accepted_create, accepted_create_grown, accepted_make, accepted_make_grown, accepted_link, accepted_link_grown, accepted_rename, accepted_move, accepted_move_grown, accepted_unlink, accepted_remove}
use Rattle.plans_naming.proofs.UnlinkLast.{now_is}
use Rattle.courses.specs.Done.{IsDoneBy, CreatesInSlot, CreatesInNewBlock, MakesInSlot, MakesInNewBlock, LinksInSlot, LinksInNewBlock, RenamesInSlot, MovesToSlot, MovesToNewBlock, UnlinksName, UnlinksFile, RemovesName, RemovesDirectory, WritesInPlace, WritesBehind, WritesElsewhere, TruncatesFile, ClosesHandle, CarriesOutRepair, SetsItsAttributes}
use Rattle.kept_claims.specs.Claims.{IsMetadataClaim, GivesBytes}
use Rattle.kept_claims.proofs.Since.{Since}
use Rattle.kept_claims.proofs.Naming.{creating_since, creating_grown_since, linking_since, linking_grown_since, unlinking_since, unlinking_last_since, making_since, making_grown_since, removing_since, removing_name_since, renaming_since, moving_since, moving_grown_since}
use Rattle.kept_claims.proofs.Data.{closing_since, repairing_since, truncation_since, written_since, appended_since, relocated_since, attributing_since}

-- p is q with more updates, which give each block its bytes that is metadata from then on
record Gives (geo : Geometry) (disk : View) (q p : List Pending) : Type 0 where
  us : List Pending
  is : p ≡ us ++ q
  claims : (i k a : ℕ) → IsMetadataClaim geo (users_view disk p) i k a → IsMetadataClaim geo (users_view disk q) i k a ⊎ GivesBytes us a

module _ (geo : Geometry) (disk : View) (q : List Pending) where
  gives : (p : List Pending) (new : ℕ → ℕ → Type 0) → Since geo disk q p new → Gives geo disk q p
  gives p new s = record { us = s.us; is = s.is; claims = λ i k a m. elim (s.claims i k a m) [ inl old ↦ inl old | inr n ↦ inr (s.gives k a n) ] }

  module _ (old : State) (safe : ℕ → Bool) (stands : Stands geo disk q (now disk q old) safe) where
    abbrev start : View
    start = users_view disk q

    rules : ObeysRules geo start
    rules = stands.balance.rules

    abbrev st : State
    st = now disk q old

    plans : (command : Command) (answer : Answer) (file : ℕ) (plan : List Pending) (new : State) (safe' : ℕ → Bool) → Accepts geo st command → IsDoneBy geo disk q old safe command answer file plan new safe' → Gives geo disk q plan
    plans command answer file plan new safe' ok (CreatesInSlot p words n s entry after free place) = gives _ _
        (creating_since geo disk q rules n words (holder geo start p) s (slot_block geo start p s) (name_in p) entry after
        (accepted_create geo st stands.balance stands.geometry p words ok n s entry after free place.empty place.says place.record_first place.others_first))
    plans command answer file plan new safe' ok (CreatesInNewBlock p words n b kept s entry after free place) = gives _ _
        (creating_grown_since geo disk q rules n words (holder geo start p) b kept s (name_in p) entry after
        (accepted_create_grown geo st stands.balance stands.geometry p words ok n b kept s entry after free place.full place.free place.keeps place.apart place.stands place.says place.record_first place.blocks_first))
    plans command answer file plan new safe' ok (MakesInSlot p words i a dots s entry after free own are place) = gives _ _
        (making_since geo disk q rules i a words dots (holder geo start p) s (slot_block geo start p s) (name_in p) entry after
        (accepted_make geo st stands.balance stands.geometry p words ok i a dots s entry after free own are place.empty place.says place.record_first place.others_first))
    plans command answer file plan new safe' ok (MakesInNewBlock p words i a dots b kept s entry after free own are other place) = gives _ _
        (making_grown_since geo disk q rules i a words dots (holder geo start p) b kept s (name_in p) entry after
        (accepted_make_grown geo st stands.balance stands.geometry p words ok i a dots b kept s entry after free own are place.full place.free other place.keeps place.apart place.stands place.says place.record_first place.blocks_first))
    plans command answer file plan new safe' ok (LinksInSlot p r s entry after place) = gives _ _
        (linking_since geo disk q rules (number_at geo start p) (holder geo start r) s (slot_block geo start r s) (name_in r) entry after
        (accepted_link geo st stands.balance stands.geometry p r ok s entry after place.empty place.says place.record_first place.others_first))
    plans command answer file plan new safe' ok (LinksInNewBlock p r b kept s entry after place) = gives _ _
        (linking_grown_since geo disk q rules (number_at geo start p) (holder geo start r) b kept s (name_in r) entry after
        (accepted_link_grown geo st stands.balance stands.geometry p r ok b kept s entry after place.full place.free place.keeps place.apart place.stands place.says place.record_first place.blocks_first))
    plans command answer file plan new safe' ok (RenamesInSlot p r entry after same says others) = gives _ _
        (renaming_since geo disk q rules (number_at geo start p) (holder geo start p) (slot_at geo start p) (entry_block geo start p) (name_in p) (name_in r) entry after
        (accepted_rename geo st stands.balance stands.geometry p r ok same entry after says others.needs))
    plans command answer file plan new safe' ok (MovesToSlot p r s entry after' after apart place entered grounds) = gives _ _
        (moving_since geo disk q rules (number_at geo start p) (holder geo start r) s (slot_block geo start r s) (name_in r) entry after' (holder geo start p) (slot_at geo start p) (entry_block geo start p) (name_in p) after
        (accepted_move geo st stands.balance stands.geometry p r ok apart s entry after' after place.empty place.says place.record_first place.others_first entered grounds.needs))
    plans command answer file plan new safe' ok (MovesToNewBlock p r b kept s entry after' after apart place entered grounds table) = gives _ _
        (moving_grown_since geo disk q rules (number_at geo start p) (holder geo start r) b kept s (name_in r) entry after' (holder geo start p) (slot_at geo start p) (entry_block geo start p) (name_in p) after
        (accepted_move_grown geo st stands.balance stands.geometry p r ok apart b kept s entry after' after place.full place.free place.keeps place.apart place.stands place.says place.record_first place.blocks_first entered grounds.needs table))
    plans command answer file plan new safe' ok (UnlinksName p stays) = gives _ _
        (unlinking_since geo disk q rules (number_at geo start p) (holder geo start p) (slot_at geo start p) (entry_block geo start p) (name_in p) (accepted_unlink geo st stands.balance stands.geometry p ok))
    plans command answer file plan new safe' ok (UnlinksFile p blocks one goes) = gives _ _
        (unlinking_last_since geo disk q rules (number_at geo start p) (holder geo start p) (slot_at geo start p) (entry_block geo start p) (name_in p) blocks (accepted_unlink geo st stands.balance stands.geometry p ok))
    plans command answer file plan new safe' ok (RemovesName p after all stays) = gives _ _
        (removing_name_since geo disk q rules (number_at geo start p) (block_of geo start (number_at geo start p) 0) (holder geo start p) (slot_at geo start p) (entry_block geo start p) (name_in p) after
        (accepted_remove geo st stands.balance stands.geometry p ok after all.needs))
    plans command answer file plan new safe' ok (RemovesDirectory p blocks after all two goes) = gives _ _
        (removing_since geo disk q rules (number_at geo start p) (block_of geo start (number_at geo start p) 0) (holder geo start p) (slot_at geo start p) (entry_block geo start p) (name_in p) after blocks
        (accepted_remove geo st stands.balance stands.geometry p ok after all.needs))
    plans command answer file plan new safe' ok (WritesInPlace h k piece bytes over inside free) = gives _ _
        (written_since geo disk q rules old (file_of old h) k piece bytes (plan_in_place geo stands.geometry st stands.balance h k piece ok bytes over inside free))
    plans command answer file plan new safe' ok (WritesBehind h k piece bytes b news over choice past) = gives _ _
        (appended_since geo disk q rules old (file_of old h) k b piece bytes (holder_of geo start (file_of old h) k b news)
        (plan_appended geo stands.geometry st stands.balance h k piece ok bytes over b news choice past))
    plans command answer file plan new safe' ok (WritesElsewhere h k piece bytes b over free inside kept) = gives _ _
        (relocated_since geo disk q rules old (file_of old h) k b piece bytes (holder_of geo start (file_of old h) k b [])
        (plan_moved geo stands.geometry st stands.balance h k piece ok bytes over b free inside kept))
    plans command answer file plan new safe' ok (TruncatesFile h size) = gives _ _
        (truncation_since geo disk q old (file_of old h) size (given_up_with geo st (file_of old h) (sized (start.inode (file_of old h)) size)) (plan_truncate geo stands.geometry st stands.balance h size ok))
    plans command answer file plan new safe' ok (SetsItsAttributes n words) = gives _ _ (attributing_since geo disk q n words)
    plans command answer file plan new safe' ok (ClosesHandle h) = gives _ _
        (closing_since geo disk q (file_of old h) (is_open (without_handle h old) (file_of old h)) (given_up_with geo st (file_of old h) free_inode))
    plans command answer file plan new safe' ok (CarriesOutRepair k list r planned at) = gives _ _
        (repairing_since geo disk q r (open_of old r) (given_up_with geo st (named_by r) free_inode))

pub plans_give : (geo : Geometry) (disk : View) (q : List Pending) (old : State) (safe : ℕ → Bool) → Stands geo disk q old safe
    → (command : Command) (answer : Answer) (file : ℕ) (plan : List Pending) (new : State) (safe' : ℕ → Bool) → Accepts geo old command → IsDoneBy geo disk q old safe command answer file plan new safe'
    → (us : List Pending) → plan ≡ us ++ q
    → (i k a : ℕ) → IsMetadataClaim geo (users_view disk plan) i k a → IsMetadataClaim geo (users_view disk q) i k a ⊎ GivesBytes us a
plans_give geo disk q old safe stands command answer file plan new safe' accepts done us is i k a m =
    let same : now disk q old ≡ old = now_is disk q old stands.same in
    let g = plans geo disk q old safe (subst (λ x. Stands geo disk q x safe) (sym same) stands) command answer file plan new safe' (subst (λ x. Accepts geo x command) (sym same) accepts) done in
    let one : g.us ≡ us = append_cancel_right g.us us q (sym g.is ∙ is) in
    elim (g.claims i k a m) [ inl old ↦ inl old | inr b ↦ inr (subst (λ l. GivesBytes l a) one b) ]
