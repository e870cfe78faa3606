-- Each plan leads by a course from a good moment at rest to a good moment at rest.
use Rattle.std.proofs.Common.{ℕ, Bool, not, List, refl, subst}
use Rattle.model.specs.Layout.{Geometry}
use Rattle.model.specs.View.{View}
use Rattle.model.specs.Rules.{ObeysRules}
use Rattle.ordering.specs.Cuts.{Pending, rest, users_view}
use Rattle.ordering.specs.Ghosts.{Ghost, at_rest}
use Rattle.ordering.specs.Agrees.{AllAgree}
use Rattle.ordering.proofs.Bits.{users_obey}
use Rattle.queue_model.specs.Files.{Written, updates}
use Rattle.machine.specs.State.{State, is_open}
use Rattle.plans_data.specs.Issues.{Issues}
use Rattle.plans_data.specs.Now.{now}
use Rattle.plans_data.specs.Relink.{without_handle, inode_of, open_of}
use Rattle.plans_data.proofs.WriteInPlace.{in_place_issues}
use Rattle.plans_data.proofs.WriteAppended.{appended_issues}
use Rattle.plans_data.proofs.WriteMoved.{moved_issues}
use Rattle.plans_data.proofs.Truncating.{truncate_issues}
use Rattle.plans_data.proofs.Relinking.{relink_issues, close_issues}
use Rattle.plans_data.proofs.Repairing.{repair_issues}
use Rattle.plans_naming.proofs.CreateOrder.{creating_leads}
use Rattle.plans_naming.proofs.CreateGrown.{creating_grown_issues}
use Rattle.plans_naming.proofs.Links.{linking_leads}
use Rattle.plans_naming.proofs.LinkGrown.{linking_grown_issues}
use Rattle.plans_naming.proofs.Unlinks.{unlinking_leads}
use Rattle.plans_naming.proofs.UnlinkLast.{unlinking_last_issues}
use Rattle.plans_naming.proofs.MakeInSlot.{making_issues}
use Rattle.plans_naming.proofs.MakeGrown.{making_grown_issues}
use Rattle.plans_naming.proofs.RemoveLast.{removing_issues}
use Rattle.plans_naming.proofs.RemoveName.{removing_name_issues}
use Rattle.plans_naming.proofs.Renaming.{renaming_leads}
use Rattle.plans_naming.proofs.Moving.{moving_leads}
use Rattle.plans_naming.proofs.MoveGrown.{moving_grown_issues}
use Rattle.courses.specs.Leads.{IsMoment, Leads}
use Rattle.courses.specs.Plans.{IsPlan, WritesInPlace, WritesAppended, WritesMoved, Truncates, Relinks, Closes, Repairs, Creates, CreatesGrown, Links, LinksGrown, Unlinks, UnlinksLast, Makes, MakesGrown, Removes, RemovesName, Renames, Moves, MovesGrown, SetsAttributes}
use Rattle.courses.proofs.Walks.{plan_leads}
use Rattle.courses.proofs.Pieces.{Still, Fitting, fitting}
use Rattle.courses.proofs.DataPlans.{in_place_fits, extended_fits, moved_fits, truncation_fits, relinking_fits, closing_fits, repairing_fits, attributing_fits}
use Rattle.courses.proofs.NamingPlans.{creating_fits, creating_grown_fits, linking_fits, linking_grown_fits, unlinking_fits, unlinking_last_fits, making_fits, making_grown_fits, removing_fits, removing_name_fits, renaming_fits, moving_fits, moving_grown_fits}
use Rattle.plans_data.proofs.Attributing.{attributes_issue}

pub moment_agrees : (geo : Geometry) (mounted : View) (h : List Written) (cut : List Bool) (ghost : Ghost) (disk : View) (q : List Pending) → IsMoment geo mounted h cut ghost disk q → AllAgree geo disk q ghost
moment_agrees geo mounted h cut ghost disk q m = subst (λ x. AllAgree geo disk x ghost) m.pending (subst (λ v. AllAgree geo v (rest (updates h) cut) ghost) m.device m.good.agree)

-- a plan's chain, and what its updates give and take of the blocks of files
record Parts (geo : Geometry) (disk : View) (q : List Pending) (old : State) (safe : ℕ → Bool) (file : ℕ) (p : List Pending) (held' safe' : ℕ → Bool) : Type 0 where
  chain : Issues geo disk q (at_rest old.held safe) p (at_rest held' safe')
  fit : Fitting geo disk file q p

plan_parts : (geo : Geometry) (disk : View) (q : List Pending) (old : State) (safe : ℕ → Bool) → AllAgree geo disk q (at_rest old.held safe) → (file : ℕ) (p : List Pending) (held' safe' : ℕ → Bool) → IsPlan geo disk q old safe file p held' safe'
    → Parts geo disk q old safe file p held' safe'
plan_parts geo disk q old safe all file p held' safe' plan = by file p held' safe' plan
  where
    rules : ObeysRules geo (users_view disk q)
    rules = users_obey geo disk q (at_rest old.held safe) all

    leads : (f : ℕ) (r : List Pending) (held safe'' : ℕ → Bool) → Issues geo disk q (at_rest old.held safe) r (at_rest held safe'') → Fitting geo disk f q r → Parts geo disk q old safe f r held safe''
    leads f r held safe'' chain fit = record { chain = chain; fit = fit }

    still : (f : ℕ) (r : List Pending) (held safe'' : ℕ → Bool) → Issues geo disk q (at_rest old.held safe) r (at_rest held safe'') → Still geo disk f q r → Parts geo disk q old safe f r held safe''
    still f r held safe'' chain fit = leads f r held safe'' chain (fitting geo disk f q r fit)

    by : (f : ℕ) (r : List Pending) (held safe'' : ℕ → Bool) → IsPlan geo disk q old safe f r held safe'' → Parts geo disk q old safe f r held safe''
    by f r held safe'' (WritesInPlace n k piece bytes may) = leads f r held safe'' (in_place_issues geo disk q old safe n k piece bytes may all) (in_place_fits geo disk q rules old n k piece bytes may)
    by f r held safe'' (WritesAppended n k b piece bytes holder may) = leads f r held safe'' (appended_issues geo disk q old safe n k b piece bytes holder may all) (extended_fits geo disk q rules old safe all n k b piece bytes holder may)
    by f r held safe'' (WritesMoved n k b piece bytes holder may) = leads f r held safe'' (moved_issues geo disk q old safe n k b piece bytes all holder may) (moved_fits geo disk q rules old safe all n k b piece bytes holder may)
    by f r held safe'' (Truncates n size blocks may) = leads f r held safe'' (truncate_issues geo disk q old safe n size blocks may all) (truncation_fits geo disk q rules f n ((users_view disk q).inode n) size blocks)
    by f r held safe'' (SetsAttributes n words at) = still f r held safe'' (attributes_issue geo disk q old safe n words at all) (attributing_fits geo disk q rules f n ((users_view disk q).inode n) words)
    by f r held safe'' (Relinks n links blocks may) = still f r held safe'' (relink_issues geo disk q old safe n blocks all links may) (relinking_fits geo disk q rules f n ((users_view disk q).inode n) links (is_open old n) blocks)
    by f r held safe'' (Closes k n blocks may) = still f r held safe'' (close_issues geo disk q old safe n blocks all k may) (closing_fits geo disk q rules f n ((users_view disk q).inode n) (is_open (without_handle k old) n) blocks)
    by f r held safe'' (Repairs repair any blocks may) = still f r held safe'' (repair_issues geo disk q old safe blocks all repair may) (repairing_fits geo disk q rules f repair (inode_of (users_view disk q) repair) (open_of old repair) blocks)
    by f r held safe'' (Creates n words d s block name entry after can) = still f r held safe'' (creating_leads geo disk q old.held safe n words d s block name entry after can all) (creating_fits geo disk q rules f n words d s block name entry after can)
    by f r held safe'' (CreatesGrown n words d b kept s name entry after spare can) =
        still f r held safe'' (creating_grown_issues geo disk q old.held safe spare n words d b kept s name entry after can all) (creating_grown_fits geo disk q rules f n words d b kept s name entry after can)
    by f r held safe'' (Links i d s block name entry after can) = still f r held safe'' (linking_leads geo disk q old.held safe i d s block name entry after can all) (linking_fits geo disk q rules f i d s block name entry after can)
    by f r held safe'' (LinksGrown i d b kept s name entry after spare can) =
        still f r held safe'' (linking_grown_issues geo disk q old.held safe spare i d b kept s name entry after can all) (linking_grown_fits geo disk q rules f i d b kept s name entry after can)
    by f r held safe'' (Unlinks i d s block name can) = leads f r held safe'' (unlinking_leads geo disk q old.held safe i d s block name can all) (unlinking_fits geo disk q rules i d s block name can)
    by f r held safe'' (UnlinksLast i d s block name blocks can free one) =
        still f r held safe'' (unlinking_last_issues geo (now disk q old) i d s block name blocks can free one disk q refl safe all) (unlinking_last_fits geo disk q rules f i d s block name blocks can)
    by f r held safe'' (Makes i b words dots d s block name entry after can spare) =
        still f r held safe'' (making_issues geo disk q old.held safe i b words dots d s block name entry after can spare all) (making_fits geo disk q rules f i b words dots d s block name entry after can)
    by f r held safe'' (MakesGrown i a words dots d b kept s name entry after spare can) =
        still f r held safe'' (making_grown_issues geo disk q old.held safe spare i a words dots d b kept s name entry after can all) (making_grown_fits geo disk q rules f i a words dots d b kept s name entry after can)
    by f r held safe'' (Removes i b d s block name after blocks can free two not) =
        still f r held safe'' (removing_issues geo (now disk q old) i b d s block name after blocks can free two disk q refl safe not all) (removing_fits geo disk q rules f i b d s block name after blocks can)
    by f r held safe'' (RemovesName i b d s block name after can not) =
        still f r held safe'' (removing_name_issues geo disk q old.held safe i b d s block name after can not all) (removing_name_fits geo disk q rules f i b d s block name after can)
    by f r held safe'' (Renames i d s block name other entry after can) = still f r held safe'' (renaming_leads geo disk q (at_rest old.held safe) i d s block name other entry after can) (renaming_fits geo disk q rules f i d s block name other entry after can)
    by f r held safe'' (Moves i d' s' block' name' entry after' d s block name after can) =
        leads f r held safe'' (moving_leads geo disk q old.held safe i d' s' block' name' entry after' d s block name after can all) (moving_fits geo disk q rules i d' s' block' name' entry after' d s block name after can)
    by f r held safe'' (MovesGrown i d' b kept s' name' entry after' d s block name after spare can) =
        leads f r held safe'' (moving_grown_issues geo disk q old.held safe i d' b kept s' name' entry after' d s block name after spare can all)
        (moving_grown_fits geo disk q rules i d' b kept s' name' entry after' d s block name after can)

pub plan_chain : (geo : Geometry) (disk : View) (q : List Pending) (old : State) (safe : ℕ → Bool) → AllAgree geo disk q (at_rest old.held safe) → (file : ℕ) (p : List Pending) (held' safe' : ℕ → Bool) → IsPlan geo disk q old safe file p held' safe'
    → Issues geo disk q (at_rest old.held safe) p (at_rest held' safe')
plan_chain geo disk q old safe all file p held' safe' plan = (plan_parts geo disk q old safe all file p held' safe' plan).chain

pub plan_is_course : (geo : Geometry) (mounted : View) (h : List Written) (cut : List Bool) (disk : View) (q : List Pending) (old : State) (safe : ℕ → Bool) → IsMoment geo mounted h cut (at_rest old.held safe) disk q
    → (file : ℕ) (p : List Pending) (held' safe' : ℕ → Bool) → IsPlan geo disk q old safe file p held' safe' → Leads geo mounted h cut (at_rest old.held safe) disk q file p (at_rest held' safe')
plan_is_course geo mounted h cut disk q old safe m file p held' safe' plan =
    let parts = plan_parts geo disk q old safe (moment_agrees geo mounted h cut (at_rest old.held safe) disk q m) file p held' safe' plan in
    plan_leads geo mounted h cut (at_rest old.held safe) disk q file p (at_rest held' safe') parts.fit.0 parts.fit.1 m parts.chain parts.fit.2
