-- What is true of the bytes of files' blocks stays so through each plan.
use Rattle.std.proofs.Common.{◌≡◌, ℕ, ◌<◌, ◌+◌, ◌-◌, Bool, true, List, [], ◌∷◌, ◌++◌, ◌⊎◌, inl, inr, refl, sym, ap, ◌∙◌, subst, length, drop, replicate, IsTrue, arith}
use Rattle.std.proofs.lemmas.Bool.{lt-leb}
use Rattle.model.specs.Layout.{Geometry}
use Rattle.model.specs.View.{View, Inode}
use Rattle.model.specs.Cells.{SetInode}
use Rattle.model.specs.Slots.{Good}
use Rattle.model.specs.Shape.{most_blocks}
use Rattle.model.specs.Uses.{blocks_of, is_sound_at}
use Rattle.model.specs.Rules.{ObeysRules}
use Rattle.model.proofs.Places.{put_here}
use Rattle.ordering.specs.Cuts.{Cell, Block, Pending, users_view}
use Rattle.ordering.specs.Ghosts.{Ghost, at_rest}
use Rattle.ordering.specs.Agrees.{AllAgree}
use Rattle.ordering.proofs.Bits.{users_obey}
use Rattle.machine.specs.State.{State, is_open}
use Rattle.machine.specs.Cells.{block_of}
use Rattle.machine.specs.Effects.{size_after, with_links}
use Rattle.plans_data.specs.Append.{Holder, appended, sized}
use Rattle.plans_data.specs.Issues.{Issues}
use Rattle.plans_data.specs.Now.{now}
use Rattle.plans_data.specs.Relink.{without_handle, inode_of, open_of}
use Rattle.plans_data.specs.Write.{MayWriteInPlace, MayWriteAppended, MayWriteMoved, relocated, written}
use Rattle.plans_data.proofs.Blocks.{few_blocks, block_claimed, same_blocks}
use Rattle.plans_data.proofs.WriteAppended.{may_append}
use Rattle.plans_data.proofs.WriteMoved.{may_move}
use Rattle.plans_naming.specs.Entries.{slot_written, no_entry}
use Rattle.plans_naming.specs.Link.{linking, linking_grown, raised}
use Rattle.queue_model.specs.Files.{Written, updates, generation, IsFileBlock}
use Rattle.queue_model.proofs.HoldLemmas.{HeldSince, UsersHold}
use Rattle.courses.specs.Leads.{Named}
use Rattle.courses.specs.Plans.{IsPlan, WritesInPlace, WritesAppended, WritesMoved, Truncates, Relinks, Closes, Repairs, Creates, CreatesGrown, Links, LinksGrown, Unlinks, UnlinksLast, Makes, MakesGrown, Removes, RemovesName, Renames, Moves, MovesGrown, SetsAttributes}
use Rattle.courses.proofs.Walks.{fits_adds}
use Rattle.courses.proofs.Pieces.{reachable_mode, unmarked_no_files, Still, nothing_yet, cleared_still, record_still}
use Rattle.courses.proofs.DataPlans.{relinking_fits, closing_fits, repairing_fits, attributing_fits}
use Rattle.courses.proofs.NamingPlans.{slot_still, other_record, creating_fits, creating_grown_fits, linking_fits, linking_grown_fits, unlinking_last_fits, making_fits, making_grown_fits, removing_fits, removing_name_fits, renaming_fits}
use Rattle.courses.proofs.PlansLead.{plan_chain}
use Rattle.courses.proofs.Firm.{Firm, Further, Nowhere, firm_holds, still_firm, but_last, links_keep}
use Rattle.courses.proofs.WritesKeep.{Put, written_firm, append_firm, move_firm}
use Rattle.courses.proofs.LifeBytes.{IsWriteOf, LeavesBehind}

-- ---- plans that give no file a block

module _ (geo : Geometry) (disk : View) (q : List Pending) where
  abbrev start : View
  start = users_view disk q

  still : (file : ℕ) (ghost : Ghost) (p : List Pending) (g : Ghost) → Issues geo disk q ghost p g → Still geo disk file q p → Firm geo Nowhere disk q p
  still file ghost p g chain s = still_firm geo disk file q ghost p g chain s.0 s.1

  -- one after which a file has other links
  relinked : (file : ℕ) (ghost : Ghost) (p : List Pending) (g : Ghost) (i links : ℕ) (x : Inode) (after : List Cell) → Issues geo disk q ghost (record { change = SetInode i x; after = after } ∷ p) g → Still geo disk file q p
      → x ≡ with_links ((users_view disk p).inode i) links → Firm geo Nowhere disk q (record { change = SetInode i x; after = after } ∷ p)
  relinked file ghost p g i links x after chain s same =
      let less = fits_adds geo disk file q true s.0 p s.1 in
      let before = but_last geo disk q ghost (record { change = SetInode i x; after = after } ∷ p) (record { change = SetInode i x; after = after }) p g refl less chain in
      Further (record { change = SetInode i x; after = after }) (still file ghost p before.0 before.1 s) (links_keep geo (users_view disk p) i links x same) (λ n k bytes x. absurd x)

-- ---- writes

module _ (geo : Geometry) (disk : View) (q : List Pending) (rules : ObeysRules geo (users_view disk q)) (old : State) where
  abbrev was : View
  was = users_view disk q

  in_place_firm : (n k : ℕ) (piece bytes : List ℕ) → MayWriteInPlace geo (now disk q old) n k piece bytes → Firm geo (Put geo n k bytes) disk q (written n (was.inode n) (block_of geo was n k) bytes (size_after was n k piece) q)
  in_place_firm n k piece bytes may =
      let inside = may.inside in
      let most = few_blocks geo was n may.write.sound in
      written_firm geo n k bytes disk q may.write.file may.write.sound rules (block_of geo was n k) (size_after was n k piece)
      (block_claimed geo was rules n k may.write.sound inside) (lt-leb (most_blocks geo) k (omega (arith, inside, most))) (same_blocks (was.inode n).size k (length piece) inside may.write.few)

  appended_firm : (safe : ℕ → Bool) → AllAgree geo disk q (at_rest old.held safe) → (n k b : ℕ) (piece bytes : List ℕ) (holder : Holder) → MayWriteAppended geo (now disk q old) n k b piece bytes holder
      → Firm geo (Put geo n k bytes) disk q (appended geo n (was.inode n) k b bytes (size_after was n k piece) holder q)
  appended_firm safe all n k b piece bytes holder may =
      append_firm geo n k bytes disk q may.write.file may.write.sound (at_rest old.held safe) b (size_after was n k piece) holder (may_append geo disk q old safe n k b piece bytes holder may) all
      (unmarked_no_files geo was rules b may.free.unmarked)

  moved_firm : (safe : ℕ → Bool) → AllAgree geo disk q (at_rest old.held safe) → (n k b : ℕ) (piece bytes : List ℕ) (holder : Holder) → MayWriteMoved geo (now disk q old) n k b piece bytes holder
      → Firm geo (Put geo n k bytes) disk q (relocated geo n (was.inode n) k b bytes (size_after was n k piece) holder q)
  moved_firm safe all n k b piece bytes holder may =
      move_firm geo n k bytes disk q may.write.file may.write.sound old safe b (size_after was n k piece) holder (may_move geo disk q old safe n k b piece bytes all holder may)
      (unmarked_no_files geo was rules b may.free.unmarked)

-- ---- each plan

-- what was true before the plan is true after each of its updates
pub record HoldsAt (geo : Geometry) (mounted : View) (P : ℕ → ℕ → ℕ → List ℕ → Type 0) (disk : View) (h : List Written) (p : List Pending) (h' : List Written) : Type 0 where
  pub users_hold : UsersHold geo mounted P h'
  pub since : HeldSince geo mounted P h h'
  pub same : users_view mounted (updates h') ≡ users_view disk p

-- a piece over what the file had, or over zeroes, may stand there
abbrev pub Closed : {geo : Geometry} {disk : View} {q : List Pending} {old : State} {safe : ℕ → Bool} {file : ℕ} {p : List Pending} {held' safe' : ℕ → Bool}
    → (View) → (ℕ → ℕ → ℕ → List ℕ → Type 0) → List Written → IsPlan geo disk q old safe file p held' safe' → Type 0
Closed mounted P before plan = (n k : ℕ) (piece under : List ℕ) → IsWriteOf n k piece plan → (under ≡ replicate 1024 0) ⊎ P n (generation mounted before n) k under → P n (generation mounted before n) k (piece ++ drop (length piece) under)

module _ (geo : Geometry) (mounted : View) (P : ℕ → ℕ → ℕ → List ℕ → Type 0) (disk : View) (q : List Pending) (old : State) (safe : ℕ → Bool) (all : AllAgree geo disk q (at_rest old.held safe)) (h before : List Written)
    (users : UsersHold geo mounted P before) (held : HeldSince geo mounted P h before) (same : users_view mounted (updates before) ≡ users_view disk q) (h' : List Written) where
  rules : ObeysRules geo (users_view disk q)
  rules = users_obey geo disk q (at_rest old.held safe) all

  -- what users saw
  saw : (n k b : ℕ) → IsFileBlock geo (users_view disk q) n k b → P n (generation mounted before n) k ((users_view disk q).bytes b)
  saw = subst (λ v. (n k b : ℕ) → IsFileBlock geo v n k b → P n (generation mounted before n) k (v.bytes b)) same users

  calm : (file : ℕ) (p : List Pending) → Named geo mounted file before q h' p → Firm geo Nowhere disk q p → HoldsAt geo mounted P disk h p h'
  calm file p named firm =
      let r = firm_holds geo mounted P Nowhere file disk h before users held (λ n k bytes x. absurd x) q q refl same h' p named firm in
      record { users_hold = r.users_hold; since = r.since; same = r.same }

  puts : (file : ℕ) (p : List Pending) → Named geo mounted file before q h' p → (i k : ℕ) (bytes : List ℕ) → Firm geo (Put geo i k bytes) disk q p → P i (generation mounted before i) k bytes → HoldsAt geo mounted P disk h p h'
  puts file p named i k bytes firm right =
      let r = firm_holds geo mounted P (Put geo i k bytes) file disk h before users held
      (λ n j held x. subst (λ m. P m (generation mounted before m) j held) (sym x.0) (subst (λ m. P i (generation mounted before i) m held) (sym x.1) (subst (P i (generation mounted before i) k) (sym x.2) right))) q q refl same h' p named firm in
      record { users_hold = r.users_hold; since = r.since; same = r.same }

  own_block : (n k : ℕ) → IsTrue (is_sound_at geo (users_view disk q) n) → ((users_view disk q).inode n).mode ≡ 1 → k < blocks_of ((users_view disk q).inode n).size
      → P n (generation mounted before n) k ((users_view disk q).bytes (block_of geo (users_view disk q) n k))
  own_block n k sound one inside =
      let most = few_blocks geo (users_view disk q) n sound in
      saw n k (block_of geo (users_view disk q) n k) (block_claimed geo (users_view disk q) rules n k sound inside, lt-leb (most_blocks geo) k (omega (arith, inside, most)), one)

  quietly : (file : ℕ) (p : List Pending) (held' safe' : ℕ → Bool) (plan : IsPlan geo disk q old safe file p held' safe') → Still geo disk file q p → Named geo mounted file before q h' p → HoldsAt geo mounted P disk h p h'
  quietly file p held' safe' plan s named = calm file p named (still geo disk q file (at_rest old.held safe) p (at_rest held' safe') (plan_chain geo disk q old safe all file p held' safe' plan) s)

  -- with other links of a file at the end
  linked_at_the_end : (file : ℕ) (p : List Pending) (i links : ℕ) (x : Inode) (after : List Cell) (held' safe' : ℕ → Bool) (plan : IsPlan geo disk q old safe file (record { change = SetInode i x; after = after } ∷ p) held' safe') → Still geo disk file q p
      → x ≡ with_links ((users_view disk p).inode i) links → Named geo mounted file before q h' (record { change = SetInode i x; after = after } ∷ p) → HoldsAt geo mounted P disk h (record { change = SetInode i x; after = after } ∷ p) h'
  linked_at_the_end file p i links x after held' safe' plan s e named =
      calm file (record { change = SetInode i x; after = after } ∷ p) named
      (relinked geo disk q file (at_rest old.held safe) p (at_rest held' safe') i links x after (plan_chain geo disk q old safe all file (record { change = SetInode i x; after = after } ∷ p) held' safe' plan) s e)

  pub plan_holds : (file : ℕ) (p : List Pending) (held' safe' : ℕ → Bool) (plan : IsPlan geo disk q old safe file p held' safe') → LeavesBehind plan → Closed mounted P before plan → Named geo mounted file before q h' p → HoldsAt geo mounted P disk h p h'
  plan_holds file p held' safe' (WritesInPlace n k piece bytes may) rest closed named =
      puts file p named n k bytes (in_place_firm geo disk q rules old n k piece bytes may)
      (subst (P n (generation mounted before n) k) (sym rest) (closed n k piece _ (refl, refl, refl) (inr (own_block n k may.write.sound may.write.file may.inside))))
  plan_holds file p held' safe' (WritesAppended n k b piece bytes holder may) rest closed named =
      puts file p named n k bytes (appended_firm geo disk q rules old safe all n k b piece bytes holder may)
      (subst (P n (generation mounted before n) k) (sym rest) (closed n k piece _ (refl, refl, refl) (inl refl)))
  plan_holds file p held' safe' (WritesMoved n k b piece bytes holder may) rest closed named =
      puts file p named n k bytes (moved_firm geo disk q rules old safe all n k b piece bytes holder may)
      (subst (P n (generation mounted before n) k) (sym rest) (closed n k piece _ (refl, refl, refl) (inr (own_block n k may.write.sound may.write.file may.inside))))
  plan_holds file p held' safe' (Truncates n size blocks may) rest closed named = quietly file p held' safe' (Truncates n size blocks may) (cleared_still geo disk file q n blocks (record { change = SetInode n (sized ((users_view disk q).inode n) size); after = [] } ∷ q) (record_still geo disk file q n (sized ((users_view disk q).inode n) size) q (nothing_yet geo disk file q))) named
  plan_holds file p held' safe' (SetsAttributes n words at) rest closed named = quietly file p held' safe' (SetsAttributes n words at) (attributing_fits geo disk q rules file n ((users_view disk q).inode n) words) named
  plan_holds file p held' safe' (Relinks n links blocks may) rest closed named = quietly file p held' safe' (Relinks n links blocks may) (relinking_fits geo disk q rules file n ((users_view disk q).inode n) links (is_open old n) blocks) named
  plan_holds file p held' safe' (Closes k n blocks may) rest closed named = quietly file p held' safe' (Closes k n blocks may) (closing_fits geo disk q rules file n ((users_view disk q).inode n) (is_open (without_handle k old) n) blocks) named
  plan_holds file p held' safe' (Repairs repair any blocks may) rest closed named = quietly file p held' safe' (Repairs repair any blocks may) (repairing_fits geo disk q rules file repair (inode_of (users_view disk q) repair) (open_of old repair) blocks) named
  plan_holds file p held' safe' (Creates n words d s block name entry after can) rest closed named = quietly file p held' safe' (Creates n words d s block name entry after can) (creating_fits geo disk q rules file n words d s block name entry after can) named
  plan_holds file p held' safe' (CreatesGrown n words d b kept s name entry after spare can) rest closed named = quietly file p held' safe' (CreatesGrown n words d b kept s name entry after spare can) (creating_grown_fits geo disk q rules file n words d b kept s name entry after can) named
  plan_holds file p held' safe' (Links i d s block name entry after can) rest closed named = quietly file p held' safe' (Links i d s block name entry after can) (linking_fits geo disk q rules file i d s block name entry after can) named
  plan_holds file p held' safe' (LinksGrown i d b kept s name entry after spare can) rest closed named = quietly file p held' safe' (LinksGrown i d b kept s name entry after spare can) (linking_grown_fits geo disk q rules file i d b kept s name entry after can) named
  plan_holds file p held' safe' (UnlinksLast i d s block name blocks can free one) rest closed named = quietly file p held' safe' (UnlinksLast i d s block name blocks can free one) (unlinking_last_fits geo disk q rules file i d s block name blocks can) named
  plan_holds file p held' safe' (Makes i b words dots d s block name entry after can spare) rest closed named = quietly file p held' safe' (Makes i b words dots d s block name entry after can spare) (making_fits geo disk q rules file i b words dots d s block name entry after can) named
  plan_holds file p held' safe' (MakesGrown i a words dots d b kept s name entry after spare can) rest closed named = quietly file p held' safe' (MakesGrown i a words dots d b kept s name entry after spare can) (making_grown_fits geo disk q rules file i a words dots d b kept s name entry after can) named
  plan_holds file p held' safe' (Removes i b d s block name after blocks can free two not) rest closed named = quietly file p held' safe' (Removes i b d s block name after blocks can free two not) (removing_fits geo disk q rules file i b d s block name after blocks can) named
  plan_holds file p held' safe' (RemovesName i b d s block name after can not) rest closed named = quietly file p held' safe' (RemovesName i b d s block name after can not) (removing_name_fits geo disk q rules file i b d s block name after can) named
  plan_holds file p held' safe' (Renames i d s block name other entry after can) rest closed named = quietly file p held' safe' (Renames i d s block name other entry after can) (renaming_fits geo disk q rules file i d s block name other entry after can) named
  plan_holds file p held' safe' (Unlinks i d s block name can) rest closed named =
      linked_at_the_end file (slot_written block ((users_view disk q).bytes block) s no_entry [] ∷ q) i (((users_view disk q).inode i).links - 1) (with_links ((users_view disk q).inode i) (((users_view disk q).inode i).links - 1)) (Block block ∷ []) held' safe'
      (Unlinks i d s block name can) (slot_still geo disk q rules file d s block (Good i name) ((users_view disk q).bytes block) s no_entry [] q can.place (nothing_yet geo disk file q)) refl named
  plan_holds file p held' safe' (Moves i d' s' block' name' entry after' d s block name after can) rest closed named =
      let r = linking i ((users_view disk q).inode i) block' ((users_view disk q).bytes block') s' entry after' q in
      linked_at_the_end file (slot_written block ((users_view disk q).bytes block) s no_entry after ∷ r) i ((users_view disk q).inode i).links ((users_view disk q).inode i) (Block block ∷ []) held' safe'
      (Moves i d' s' block' name' entry after' d s block name after can)
      (slot_still geo disk q rules file d s block (Good i name) ((users_view disk q).bytes block) s no_entry after r can.from (linking_fits geo disk q rules file i d' s' block' name' entry after' can.to))
      (sym (ap (λ (y : Inode). with_links y ((users_view disk q).inode i).links) (put_here (users_view disk q).inode i (with_links ((users_view disk q).inode i) (((users_view disk q).inode i).links + 1))))) named
  plan_holds file p held' safe' (MovesGrown i d' b kept s' name' entry after' d s block name after spare can) rest closed named =
      let r = linking_grown geo i ((users_view disk q).inode i) d' ((users_view disk q).inode d') b kept s' entry after' q in
      let one = can.to.file in
      let other : i ≡ d' → ⊥ = λ e. let mode = ap (λ j. ((users_view disk q).inode j).mode) e in let two = reachable_mode geo (users_view disk q) d' can.to.enter.reachable in omega (arith, one, two, mode) in
      linked_at_the_end file (slot_written block ((users_view disk q).bytes block) s no_entry after ∷ r) i ((users_view disk q).inode i).links ((users_view disk q).inode i) (Block block ∷ []) held' safe'
      (MovesGrown i d' b kept s' name' entry after' d s block name after spare can)
      (slot_still geo disk q rules file d s block (Good i name) ((users_view disk q).bytes block) s no_entry after r can.from (linking_grown_fits geo disk q rules file i d' b kept s' name' entry after' can.to))
      (sym (ap (λ (y : Inode). with_links y ((users_view disk q).inode i).links)
      (other_record geo disk q rules i d' ((users_view disk q).inode d') b kept (raised i ((users_view disk q).inode i) q) other ∙ put_here (users_view disk q).inode i (with_links ((users_view disk q).inode i) (((users_view disk q).inode i).links + 1))))) named
