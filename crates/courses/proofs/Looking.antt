-- How the records look that a plan writes: each has the mode, the size and the attributes that users saw of the inode before the command, or those which they see after it.
use Rattle.std.proofs.Common.{◌≡◌, ◌⊎◌, ◌+◌, ◌-◌, ℕ, Bool, true, false, nat_lt, not, List, [], ◌∷◌, inl, inr, arith, IsFalse, IsTrue, refl, sym, ap, ◌∙◌, subst}
use Rattle.std.proofs.lemmas.Bool.{both_ways, cases_Bool, cond-true, cond-false}
use Rattle.findings.specs.declared.repair.Repair.{Repair}
use Rattle.findings.specs.declared.repair.Repair.TheVariants.{DropInode, FreeBlock, FreeNumber, LowerCount}
use Rattle.model.specs.Layout.{Geometry, is_number}
use Rattle.model.specs.Reach.{IsReachableDirectory}
use Rattle.model.specs.Rules.{ObeysRules}
use Rattle.model.specs.Slots.{Names}
use Rattle.model.specs.View.{View, Inode, free_inode, with_attributes}
use Rattle.model.specs.Cells.{Update, SetInode, SetNumber, SetBlock, SetBytes, put_at}
use Rattle.model.specs.Uses.{blocks_of}
use Rattle.model.proofs.Places.{put_here, put_there}
use Rattle.ordering.specs.Cuts.{Cell, Block, Pending, Record, BlockBit, NumberBit, users_view}
use Rattle.machine.specs.Cells.{block_of}
use Rattle.machine.specs.Effects.{file_with, new_directory, size_after, with_links}
use Rattle.machine.specs.Looks.{looks}
use Rattle.machine.specs.State.{State, is_open}
use Rattle.plans_data.specs.Append.{Holder, KeptInNew, KeptInRecord, KeptInTable, appended, filled, known, linked, pointed, sized}
use Rattle.plans_data.specs.Freeing.{cleared, freeing}
use Rattle.plans_data.specs.Release.{releasing}
use Rattle.plans_data.specs.Relink.{closing, goes_away, inode_of, open_of, relinking, repairing, without_handle}
use Rattle.plans_data.specs.Truncate.{truncation}
use Rattle.plans_data.specs.Write.{enlarged, relocated}
use Rattle.plans_naming.specs.Create.{born, creating_grown}
use Rattle.plans_naming.specs.Entries.{no_entry, slot_written}
use Rattle.plans_naming.specs.Grow.{empty_block, grown}
use Rattle.plans_naming.specs.Link.{linking_grown, raised}
use Rattle.plans_naming.specs.Make.{made, making_grown}
use Rattle.courses.specs.Plans.{IsPlan, WritesInPlace, WritesAppended, WritesMoved, Truncates, Relinks, Closes, Repairs, Creates, CreatesGrown, Links, LinksGrown, Unlinks, UnlinksLast, Makes, MakesGrown, Removes, RemovesName, Renames, Moves, MovesGrown, SetsAttributes}
use Rattle.courses.proofs.NamingPlans.{other_record}
use Rattle.courses.proofs.Pieces.{reachable_mode}

-- each update behind those that were pending is such a one
pub data Behind (Is : Update → Type 0) (q : List Pending) : List Pending → Type 0 where
  Here : Behind Is q q
  Then : {p : List Pending} (u : Pending) → Behind Is q p → Is u.change → Behind Is q (u ∷ p)

-- an update writes no record
abbrev pub WritesNoRecord : Update → Type 0
WritesNoRecord (SetInode n x) = ⊥
WritesNoRecord (SetNumber n marked) = Unit {0}
WritesNoRecord (SetBlock a marked) = Unit {0}
WritesNoRecord (SetBytes a bytes) = Unit {0}

-- the end of a snapshot writes none
pub released : (blocks : List ℕ) (q p : List Pending) → Behind WritesNoRecord q p → Behind WritesNoRecord q (releasing blocks p)
released [] q p s = s
released (b ∷ bs) q p s = released bs q (record { change = SetBlock b false; after = [] } ∷ p) (Then (record { change = SetBlock b false; after = [] }) s tt)

-- an update that writes a record writes one that looks as in one of these two views
abbrev pub LooksAre : View → View → Update → Type 0
LooksAre v w (SetInode n x) = (looks x ≡ looks (v.inode n)) ⊎ (looks x ≡ looks (w.inode n))
LooksAre v w (SetNumber n marked) = Unit {0}
LooksAre v w (SetBlock a marked) = Unit {0}
LooksAre v w (SetBytes a bytes) = Unit {0}

-- so do all updates behind those that were pending
pub data Looking (v w : View) (q : List Pending) : List Pending → Type 0 where
  Start : Looking v w q q
  On : {p : List Pending} (u : Pending) → Looking v w q p → LooksAre v w u.change → Looking v w q (u ∷ p)

pub each_looking : (v w : View) (q p : List Pending) → Looking v w q p → Behind (LooksAre v w) q p
each_looking v w q p Start = Here
each_looking v w q p (On {p = r} u s is) = Then u (each_looking v w q r s) is

module _ (v w : View) (q : List Pending) where
  cleared_looking : (n : ℕ) (bs : List ℕ) (p : List Pending) → Looking v w q p → Looking v w q (cleared n bs p)
  cleared_looking n [] p s = s
  cleared_looking n (b ∷ bs) p s = cleared_looking n bs (record { change = SetBlock b false; after = Record n ∷ [] } ∷ p) (On (record { change = SetBlock b false; after = Record n ∷ [] }) s tt)

  filled_looking : (b : ℕ) (bytes : List ℕ) (p : List Pending) → Looking v w q p → Looking v w q (filled b bytes p)
  filled_looking b bytes p s = On (record { change = SetBytes b bytes; after = BlockBit b ∷ [] }) (On (record { change = SetBlock b true; after = [] }) s tt) tt

  linked_looking : (geo : Geometry) (n k b : ℕ) (holder : Holder) (p : List Pending) → Looking v w q p → Looking v w q (linked geo n k b holder p)
  linked_looking geo n k b KeptInRecord p s = s
  linked_looking geo n k b (KeptInTable m x table over) p s = On _ s tt
  linked_looking geo n k b (KeptInNew m x table up) p s =
      linked_looking geo n m x up _ (On (record { change = SetBytes x table; after = BlockBit x ∷ Block b ∷ [] }) (On (record { change = SetBlock x true; after = [] }) s tt) tt)

  -- a record that looks as before, or as after
  was : (n : ℕ) (x : Inode) (after : List Cell) (p : List Pending) → looks x ≡ looks (v.inode n) → Looking v w q p → Looking v w q (record { change = SetInode n x; after = after } ∷ p)
  was n x after p e s = On (record { change = SetInode n x; after = after }) s (inl e)

  will : (n : ℕ) (x : Inode) (after : List Cell) (p : List Pending) → looks x ≡ looks (w.inode n) → Looking v w q p → Looking v w q (record { change = SetInode n x; after = after } ∷ p)
  will n x after p e s = On (record { change = SetInode n x; after = after }) s (inr e)

  slot_looking : (block : ℕ) (bytes : List ℕ) (s : ℕ) (entry : List ℕ) (after : List Cell) (p : List Pending) → Looking v w q p → Looking v w q (slot_written block bytes s entry after ∷ p)
  slot_looking block bytes s entry after p z = On (slot_written block bytes s entry after) z tt

  freeing_looking : (n : ℕ) (blocks : List ℕ) (after : List Cell) (p : List Pending) → looks free_inode ≡ looks (w.inode n) → Looking v w q p → Looking v w q (freeing n blocks after p)
  freeing_looking n blocks after p e s = cleared_looking n blocks _ (On (record { change = SetNumber n false; after = Record n ∷ [] }) (will n free_inode after p e s) tt)

  appended_looking : (geo : Geometry) (n : ℕ) (inode : Inode) (k b : ℕ) (bytes : List ℕ) (size : ℕ) (holder : Holder) (p : List Pending) → looks (sized (pointed geo inode k b holder) size) ≡ looks (w.inode n) → Looking v w q p → Looking v w q (appended geo n inode k b bytes size holder p)
  appended_looking geo n inode k b bytes size holder p e s =
      will n (sized (pointed geo inode k b holder) size) (known b holder) _ e (linked_looking geo n k b holder _ (filled_looking b bytes p s))

  enlarged_looking : (n : ℕ) (inode : Inode) (size : ℕ) (after : List Cell) (p : List Pending) → (nat_lt inode.size size ≡ true → looks (sized inode size) ≡ looks (w.inode n)) → Looking v w q p → Looking v w q (enlarged n inode size after p)
  enlarged_looking n inode size after p e s =
      let more = record { change = SetInode n (sized inode size); after = after } ∷ p in
      elim (cases_Bool (nat_lt inode.size size)) [
        | inl t ↦ subst (λ l. Looking v w q l) (sym (cond-true (nat_lt inode.size size) more p t)) (will n (sized inode size) after p (e t) s)
        | inr f ↦ subst (λ l. Looking v w q l) (sym (cond-false (nat_lt inode.size size) more p f)) s
      ]

-- ---- the records of the view behind them

cleared_inodes : (disk : View) (n : ℕ) (bs : List ℕ) (p : List Pending) → (users_view disk (cleared n bs p)).inode ≡ (users_view disk p).inode
cleared_inodes disk n [] p = refl
cleared_inodes disk n (b ∷ bs) p = cleared_inodes disk n bs (record { change = SetBlock b false; after = Record n ∷ [] } ∷ p)

freed_looks : (disk : View) (n : ℕ) (blocks : List ℕ) (after : List Cell) (p : List Pending) → looks free_inode ≡ looks ((users_view disk (freeing n blocks after p)).inode n)
freed_looks disk n blocks after p =
    sym (ap (λ (f : ℕ → Inode). looks (f n)) (cleared_inodes disk n blocks (record { change = SetNumber n false; after = Record n ∷ [] } ∷ record { change = SetInode n free_inode; after = after } ∷ p))
    ∙ ap looks (put_here (users_view disk p).inode n free_inode))

enlarged_looks : (disk : View) (n : ℕ) (inode : Inode) (size : ℕ) (after : List Cell) (p : List Pending) → nat_lt inode.size size ≡ true → looks (sized inode size) ≡ looks ((users_view disk (enlarged n inode size after p)).inode n)
enlarged_looks disk n inode size after p t =
    let more = record { change = SetInode n (sized inode size); after = after } ∷ p in
    sym (ap (λ l. looks ((users_view disk l).inode n)) (cond-true (nat_lt inode.size size) more p t) ∙ ap looks (put_here (users_view disk p).inode n (sized inode size)))

appended_looks : (geo : Geometry) (disk : View) (n : ℕ) (inode : Inode) (k b : ℕ) (bytes : List ℕ) (size : ℕ) (holder : Holder) (p : List Pending) → looks (sized (pointed geo inode k b holder) size) ≡ looks ((users_view disk (appended geo n inode k b bytes size holder p)).inode n)
appended_looks geo disk n inode k b bytes size holder p =
    sym (ap looks (put_here (users_view disk (linked geo n k b holder (filled b bytes p))).inode n (sized (pointed geo inode k b holder) size)))

-- ---- by the kinds of plans

moved_looking : (geo : Geometry) (disk : View) (q : List Pending) (v : View) (n : ℕ) (inode : Inode) (k b : ℕ) (bytes : List ℕ) (size : ℕ) (holder : Holder)
    → Looking v (users_view disk (relocated geo n inode k b bytes size holder q)) q (relocated geo n inode k b bytes size holder q)
moved_looking geo disk q v n inode k b bytes size KeptInRecord =
    appended_looking v _ q geo n inode k b bytes size KeptInRecord q (appended_looks geo disk n inode k b bytes size KeptInRecord q) Start
moved_looking geo disk q v n inode k b bytes size (KeptInNew m x table up) =
    appended_looking v _ q geo n inode k b bytes size (KeptInNew m x table up) q (appended_looks geo disk n inode k b bytes size (KeptInNew m x table up) q) Start
moved_looking geo disk q v n inode k b bytes size (KeptInTable m x table over) =
    let cells = known b (KeptInTable m x table over) in
    let under = linked geo n k b (KeptInTable m x table over) (filled b bytes q) in
    enlarged_looking v _ q n inode size cells under (enlarged_looks disk n inode size cells under)
    (linked_looking v _ q geo n k b (KeptInTable m x table over) (filled b bytes q) (filled_looking v _ q b bytes q Start))

module _ (disk : View) (q : List Pending) where
  abbrev v : View
  v = users_view disk q

  abbrev All : List Pending → Type 0
  All p = Looking (users_view disk q) (users_view disk p) q p

  freed : (n : ℕ) (blocks : List ℕ) → All (freeing n blocks [] q)
  freed n blocks = freeing_looking v _ q n blocks [] q (freed_looks disk n blocks [] q) Start

  relinked : (n links : ℕ) (opened : Bool) (blocks : List ℕ) → All (relinking n ((users_view disk q).inode n) links opened blocks q)
  relinked n links opened blocks =
      let gone = freeing n blocks [] q in
      let stays : List Pending = record { change = SetInode n (with_links (v.inode n) links); after = [] } ∷ q in
      elim (cases_Bool (goes_away links opened)) [
        | inl t ↦ subst All (sym (cond-true (goes_away links opened) gone stays t)) (freed n blocks)
        | inr f ↦ subst All (sym (cond-false (goes_away links opened) gone stays f)) (was v _ q n (with_links (v.inode n) links) [] q refl Start)
      ]

  closed : (n : ℕ) (opened : Bool) (blocks : List ℕ) → All (closing n ((users_view disk q).inode n) opened blocks q)
  closed n opened blocks =
      let gone = freeing n blocks [] q in
      let goes = goes_away (v.inode n).links opened in
      elim (cases_Bool goes) [
        | inl t ↦ subst All (sym (cond-true goes gone q t)) (freed n blocks)
        | inr f ↦ subst All (sym (cond-false goes gone q f)) Start
      ]

  repaired : (r : Repair) (opened : Bool) (blocks : List ℕ) → All (repairing r (inode_of (users_view disk q) r) opened blocks q)
  repaired (DropInode n) opened blocks = relinked n 0 opened blocks
  repaired (LowerCount n x) opened blocks = relinked n ((v.inode n).links - x) opened blocks
  repaired (FreeBlock a) opened blocks = On (record { change = SetBlock a false; after = [] }) Start tt
  repaired (FreeNumber n) opened blocks = On (record { change = SetNumber n false; after = [] }) Start tt

  truncated : (n size : ℕ) (blocks : List ℕ) → All (truncation n ((users_view disk q).inode n) size blocks q)
  truncated n size blocks =
      let set : List Pending = record { change = SetInode n (sized (v.inode n) size); after = [] } ∷ q in
      cleared_looking v _ q n blocks set (will v _ q n (sized (v.inode n) size) [] q
      (sym (ap (λ (f : ℕ → Inode). looks (f n)) (cleared_inodes disk n blocks set) ∙ ap looks (put_here v.inode n (sized (v.inode n) size)))) Start)

  -- a directory grows, after such updates
  module _ (geo : Geometry) (rules : ObeysRules geo (users_view disk q)) (d : ℕ) (parent : Inode) (b : ℕ) (holder : Holder) (p top : List Pending) (same : (users_view disk top).inode ≡ (users_view disk (grown geo d parent b holder p)).inode) where
    grown_looks : looks (sized (pointed geo parent (blocks_of parent.size) b holder) (parent.size + 1024)) ≡ looks ((users_view disk top).inode d)
    grown_looks = appended_looks geo disk d parent (blocks_of parent.size) b empty_block (parent.size + 1024) holder p ∙ sym (ap (λ (f : ℕ → Inode). looks (f d)) same)

    grown_on : Looking (users_view disk q) (users_view disk top) q p → Looking (users_view disk q) (users_view disk top) q (grown geo d parent b holder p)
    grown_on s = appended_looking v (users_view disk top) q geo d parent (blocks_of parent.size) b empty_block (parent.size + 1024) holder p grown_looks s

    beside : (i : ℕ) → (i ≡ d → ⊥) → looks ((users_view disk top).inode i) ≡ looks ((users_view disk p).inode i)
    beside i other = ap (λ (f : ℕ → Inode). looks (f i)) same ∙ ap looks (other_record geo disk q rules i d parent b holder p other)

-- a number that is not marked is none of a directory
unmarked_apart : (geo : Geometry) (v : View) → ObeysRules geo v → (n d : ℕ) → IsTrue (is_number geo n) → IsFalse (v.number_marked n) → IsReachableDirectory geo v d → n ≡ d → ⊥
unmarked_apart geo v o n d number unmarked reachable e =
    let two = reachable_mode geo v d reachable in
    let same = ap (λ j. (v.inode j).mode) e in
    both_ways (v.number_marked n) unmarked (o.rule4 n number (λ z. omega (arith, z, two, same)))

-- a directory is made
made_looking : (disk : View) (q : List Pending) (w : View) (i b : ℕ) (words dots : List ℕ) (d : ℕ) → looks (new_directory b words) ≡ looks (w.inode i) → Looking (users_view disk q) w q (made i b words dots d ((users_view disk q).inode d) q)
made_looking disk q w i b words dots d e =
    let v = users_view disk q in
    will v w q i (new_directory b words) (NumberBit i ∷ Block b ∷ []) _ e
    (On (record { change = SetBytes b dots; after = BlockBit b ∷ Record d ∷ [] })
    (was v w q d (with_links (v.inode d) ((v.inode d).links + 1)) [] _ refl (On (record { change = SetBlock b true; after = [] }) (On (record { change = SetNumber i true; after = [] }) Start tt) tt)) tt)

pub plan_looking : (geo : Geometry) (disk : View) (q : List Pending) (old : State) (safe : ℕ → Bool) → ObeysRules geo (users_view disk q) → (file : ℕ) (p : List Pending) (held' safe' : ℕ → Bool) → IsPlan geo disk q old safe file p held' safe'
    → Looking (users_view disk q) (users_view disk p) q p
plan_looking geo disk q old safe o file p held' safe' (WritesInPlace n k piece bytes may) =
    let v = users_view disk q in
    let b = block_of geo v n k in
    let under : List Pending = record { change = SetBytes b bytes; after = [] } ∷ q in
    enlarged_looking v _ q n (v.inode n) (size_after v n k piece) (Block b ∷ []) under (enlarged_looks disk n (v.inode n) (size_after v n k piece) (Block b ∷ []) under) (On (record { change = SetBytes b bytes; after = [] }) Start tt)
plan_looking geo disk q old safe o file p held' safe' (WritesAppended n k b piece bytes holder may) =
    let v = users_view disk q in
    appended_looking v _ q geo n (v.inode n) k b bytes (size_after v n k piece) holder q (appended_looks geo disk n (v.inode n) k b bytes (size_after v n k piece) holder q) Start
plan_looking geo disk q old safe o file p held' safe' (WritesMoved n k b piece bytes holder may) =
    let v = users_view disk q in moved_looking geo disk q v n (v.inode n) k b bytes (size_after v n k piece) holder
plan_looking geo disk q old safe o file p held' safe' (Truncates n size blocks may) = truncated disk q n size blocks
plan_looking geo disk q old safe o file p held' safe' (SetsAttributes n words at) =
    let v = users_view disk q in will v _ q n (with_attributes (v.inode n) words) [] q (sym (ap looks (put_here v.inode n (with_attributes (v.inode n) words)))) Start
plan_looking geo disk q old safe o file p held' safe' (Relinks n links blocks may) = relinked disk q n links (is_open old n) blocks
plan_looking geo disk q old safe o file p held' safe' (Closes h n blocks may) = closed disk q n (is_open (without_handle h old) n) blocks
plan_looking geo disk q old safe o file p held' safe' (Repairs r f blocks may) = repaired disk q r (open_of old r) blocks
plan_looking geo disk q old safe o file p held' safe' (Creates n words d s block name entry after can) =
    let v = users_view disk q in
    slot_looking v _ q block (v.bytes block) s entry after (born n (file_with words) [] q)
    (will v _ q n (file_with words) (NumberBit n ∷ []) _ (sym (ap looks (put_here v.inode n (file_with words)))) (On (record { change = SetNumber n true; after = [] }) Start tt))
plan_looking geo disk q old safe o file p held' safe' (CreatesGrown n words d b kept s name entry after marked can) =
    let v = users_view disk q in
    let under = born n (file_with words) [] q in
    let apart : n ≡ d → ⊥ = λ e. unmarked_apart geo v o n d can.number can.unmarked can.enter.reachable e in
    slot_looking v _ q b empty_block s entry after (grown geo d (v.inode d) b kept under)
    (grown_on disk q geo o d (v.inode d) b kept under (creating_grown geo n words d (v.inode d) b kept s entry after q) refl
    (will v _ q n (file_with words) (NumberBit n ∷ []) _ (sym (beside disk q geo o d (v.inode d) b kept under (creating_grown geo n words d (v.inode d) b kept s entry after q) refl n apart ∙ ap looks (put_here v.inode n (file_with words))))
    (On (record { change = SetNumber n true; after = [] }) Start tt)))
plan_looking geo disk q old safe o file p held' safe' (Links i d s block name entry after can) =
    let v = users_view disk q in
    slot_looking v _ q block (v.bytes block) s entry after (raised i (v.inode i) q) (was v _ q i (with_links (v.inode i) ((v.inode i).links + 1)) [] q refl Start)
plan_looking geo disk q old safe o file p held' safe' (LinksGrown i d b kept s name entry after marked can) =
    let v = users_view disk q in
    slot_looking v _ q b empty_block s entry after (grown geo d (v.inode d) b kept (raised i (v.inode i) q))
    (grown_on disk q geo o d (v.inode d) b kept (raised i (v.inode i) q) (linking_grown geo i (v.inode i) d (v.inode d) b kept s entry after q) refl (was v _ q i (with_links (v.inode i) ((v.inode i).links + 1)) [] q refl Start))
plan_looking geo disk q old safe o file p held' safe' (Unlinks i d s block name can) =
    let v = users_view disk q in
    was v _ q i (with_links (v.inode i) ((v.inode i).links - 1)) (Block block ∷ []) _ refl (slot_looking v _ q block (v.bytes block) s no_entry [] q Start)
plan_looking geo disk q old safe o file p held' safe' (UnlinksLast i d s block name blocks can free one) =
    let v = users_view disk q in
    let under : List Pending = slot_written block (v.bytes block) s no_entry [] ∷ q in
    freeing_looking v _ q i blocks (Block block ∷ []) under (freed_looks disk i blocks (Block block ∷ []) under) (slot_looking v _ q block (v.bytes block) s no_entry [] q Start)
plan_looking geo disk q old safe o file p held' safe' (Makes i b words dots d s block name entry after can marked) =
    let v = users_view disk q in
    slot_looking v _ q block (v.bytes block) s entry after (made i b words dots d (v.inode d) q) (made_looking disk q _ i b words dots d (sym (ap looks (put_here (put_at v.inode d (with_links (v.inode d) ((v.inode d).links + 1))) i (new_directory b words)))))
plan_looking geo disk q old safe o file p held' safe' (MakesGrown i a words dots d b kept s name entry after marked can) =
    let v = users_view disk q in
    let parent = with_links (v.inode d) ((v.inode d).links + 1) in
    let under = made i a words dots d (v.inode d) q in
    let top = making_grown geo i a words dots d (v.inode d) b kept s entry after q in
    let apart : i ≡ d → ⊥ = λ e. unmarked_apart geo v o i d can.make.number can.make.unmarked can.enter.reachable e in
    slot_looking v _ q b empty_block s entry after (grown geo d parent b kept under)
    (grown_on disk q geo o d parent b kept under top refl
    (made_looking disk q _ i a words dots d (sym (beside disk q geo o d parent b kept under top refl i apart ∙ ap looks (put_here (put_at v.inode d (with_links (v.inode d) ((v.inode d).links + 1))) i (new_directory a words))))))
plan_looking geo disk q old safe o file p held' safe' (Removes i b d s block name after blocks can free two unsafe) =
    let v = users_view disk q in
    let under : List Pending = slot_written block (v.bytes block) s no_entry after ∷ q in
    let parent = with_links (v.inode d) ((v.inode d).links - 1) in
    let apart : i ≡ d → ⊥ = λ e. can.empty s i can.place.after_dots (subst (λ k. Names geo v k s i) (sym e) (name, can.place.holds)) in
    was v _ q d parent (Block block ∷ []) _ refl
    (freeing_looking v _ q i blocks (Block block ∷ []) under
    (freed_looks disk i blocks (Block block ∷ []) under ∙ sym (ap looks (put_there (users_view disk (freeing i blocks (Block block ∷ []) under)).inode d i parent apart)))
    (slot_looking v _ q block (v.bytes block) s no_entry after q Start))
plan_looking geo disk q old safe o file p held' safe' (RemovesName i b d s block name after can unsafe) =
    let v = users_view disk q in
    was v _ q d (with_links (v.inode d) ((v.inode d).links - 1)) (Block block ∷ []) _ refl
    (was v _ q i (with_links (v.inode i) ((v.inode i).links - 2)) (Block block ∷ []) _ refl (slot_looking v _ q block (v.bytes block) s no_entry after q Start))
plan_looking geo disk q old safe o file p held' safe' (Renames i d s block name other entry after can) =
    let v = users_view disk q in slot_looking v _ q block (v.bytes block) s entry after q Start
plan_looking geo disk q old safe o file p held' safe' (Moves i d' s' block' name' entry after' d s block name after can) =
    let v = users_view disk q in
    was v _ q i (v.inode i) (Block block ∷ []) _ refl
    (slot_looking v _ q block (v.bytes block) s no_entry after _
    (slot_looking v _ q block' (v.bytes block') s' entry after' (raised i (v.inode i) q) (was v _ q i (with_links (v.inode i) ((v.inode i).links + 1)) [] q refl Start)))
plan_looking geo disk q old safe o file p held' safe' (MovesGrown i d' b kept s' name' entry after' d s block name after marked can) =
    let v = users_view disk q in
    let raise = raised i (v.inode i) q in
    let grow = grown geo d' (v.inode d') b kept raise in
    let one = can.to.file in
    let apart : d' ≡ i → ⊥ = λ e. let same = ap (λ j. (v.inode j).mode) e in let two = reachable_mode geo v d' can.to.enter.reachable in omega (arith, one, two, same) in
    was v _ q i (v.inode i) (Block block ∷ []) _ refl
    (slot_looking v _ q block (v.bytes block) s no_entry after _
    (slot_looking v _ q b empty_block s' entry after' grow
    (appended_looking v _ q geo d' (v.inode d') (blocks_of (v.inode d').size) b empty_block ((v.inode d').size + 1024) kept raise
    (appended_looks geo disk d' (v.inode d') (blocks_of (v.inode d').size) b empty_block ((v.inode d').size + 1024) kept raise
    ∙ sym (ap looks (put_there (users_view disk grow).inode i d' (v.inode i) apart)))
    (was v _ q i (with_links (v.inode i) ((v.inode i).links + 1)) [] q refl Start))))
