-- The updates by which a file points to a new block, as they are made and as the plan has them.
use Rattle.std.proofs.Common.{◌≡◌, ◌<◌, ◌||◌, ℕ, zero, suc, Bool, true, false, not, cond, eqb, List, [], ◌∷◌, length, inl, inr, refl, sym, ap, ap₂, ◌∙◌, subst, arith, is_some, IsTrue}
use Rattle.std.proofs.lemmas.Bool.{lt-ltb}
use Rattle.std.proofs.lemmas.Bool.Decides.{nat_tests}
use Rattle.std.specs.List.{All}
use Rattle.model.specs.Layout.{Geometry, is_data_address}
use Rattle.model.specs.View.{Inode}
use Rattle.model.specs.Cells.{SetBytes, SetInode}
use Rattle.model.specs.Shape.{table_of}
use Rattle.model.proofs.Shape.{table_cases}
use Rattle.ordering.specs.Cuts.{Block, Cell, Pending}
use Rattle.plans_data.specs.Append.{Holder, KeptInRecord, KeptInTable, KeptInNew, appended, filled, known, linked, pointed, sized}
use Rattle.plans_data.specs.Write.{enlarged, relocated}
use Rattle.frozen.specs.Kept.{Kept, frozen_view}
use Rattle.live_states.specs.Drafts.{Draft, GoesOn}
use Rattle.live_plans.specs.Linked.{CanLink, IsLinked}
use Rattle.live_plans.proofs.DraftLemmas.{goes_as, goes_then}
use Rattle.live_plans.proofs.LinkLemmas.{holder_new, holder_none, holder_some}
use Rattle.updates.specs.Places.{IsCell}
use Rattle.live_writes.specs.Written.{holder_at, repointed, updates_at, updates_by}
use Rattle.live_writes.specs.declared.aiming.Place.TheVariants.{InPlace, Behind, Elsewhere}
use Rattle.live_writes.specs.declared.aiming.Target.{Target}

-- ---- as they are made
-- whether the record is written also where the size stays
abbrev pub is_of_record : Holder → Bool
is_of_record KeptInRecord = true
is_of_record (KeptInTable m x table over) = false
is_of_record (KeptInNew m x table up) = true

-- which is so where new tables are given, and where no table holds the pointer
module _ (kept : Kept) (i k b : ℕ) where
  pub which_record : (tables : List ℕ) → CanLink kept i k tables → is_of_record (holder_at kept i k b tables) ≡ (not (eqb (length tables) 0) || not (is_some (table_of kept.geometry k)))
  which_record [] can = elim (table_cases kept.geometry k) [
    | inl none ↦ ap is_of_record (holder_none kept.geometry (frozen_view kept) i k b none) ∙ sym (ap (λ o. not (is_some o)) none)
    | inr one ↦ ap is_of_record (holder_some kept.geometry (frozen_view kept) i k b one.0 one.1) ∙ sym (ap (λ o. not (is_some o)) one.1)
  ]
  which_record (x ∷ xs) can =
      let some : eqb (length (x ∷ xs)) 0 ≡ false = grind (arith, nat_tests) in
      ap is_of_record (holder_new kept.geometry (frozen_view kept) i k b can.0 x xs can.1) ∙ sym (ap (λ t. not t || not (is_some (table_of kept.geometry k))) some)

module _ (geo : Geometry) (n : ℕ) (inode : Inode) (k b size : ℕ) (old mid new : Draft) where
  stays : (holder : Holder) → is_of_record holder ≡ false → (q : List Pending) → enlarged n inode size (known b holder) (linked geo n k b holder q) ≡ repointed geo n inode k b size holder q
  stays KeptInRecord is q = absurd cc
  stays (KeptInTable m x table over) is q = refl
  stays (KeptInNew m x table up) is q = absurd cc

  changes : (holder : Holder) → is_of_record holder ≡ true
      → (q : List Pending) → record { change = SetInode n (sized (pointed geo inode k b holder) size); after = known b holder } ∷ linked geo n k b holder q ≡ repointed geo n inode k b size holder q
  changes KeptInRecord is q = refl
  changes (KeptInTable m x table over) is q = absurd cc
  changes (KeptInNew m x table up) is q = refl

  -- the record stays but for its size
  pub in_table : (holder : Holder) (pointing owner : Inode) (cells : List Cell) → is_of_record holder ≡ false → owner ≡ inode
      → IsLinked geo n owner k b holder old mid pointing cells → GoesOn mid new (enlarged n owner size cells) → GoesOn old new (repointed geo n inode k b size holder)
  in_table holder pointing owner cells is e links sets =
      goes_as old new _ (repointed geo n inode k b size holder)
      (λ q. ap₂ (λ (o : Inode) (after : List Cell). enlarged n o size after (linked geo n k b holder q)) e links.record_after ∙ stays holder is q)
      (goes_then old mid new (linked geo n k b holder) (enlarged n owner size cells) links.goes_on sets)

  -- the record is written
  pub in_record : (holder : Holder) (pointing given owner : Inode) (cells : List Cell) → is_of_record holder ≡ true → owner ≡ inode
      → IsLinked geo n owner k b holder old mid pointing cells → given ≡ sized pointing size → GoesOn mid new (λ q. record { change = SetInode n given; after = cells } ∷ q)
      → GoesOn old new (repointed geo n inode k b size holder)
  in_record holder pointing given owner cells is e links f sets =
      goes_as old new _ (repointed geo n inode k b size holder)
      (λ q. ap₂ (λ (o : Inode) (after : List Cell). record { change = SetInode n o; after = after } ∷ linked geo n k b holder q)
      (f ∙ ap (λ o. sized o size) links.record_points ∙ ap (λ (o : Inode). sized (pointed geo o k b holder) size) e) links.record_after ∙ changes holder is q)
      (goes_then old mid new (linked geo n k b holder) (λ q. record { change = SetInode n given; after = cells } ∷ q) links.goes_on sets)

-- the block is filled before
pub relocates : (geo : Geometry) (n : ℕ) (inode : Inode) (k b : ℕ) (bytes : List ℕ) (size : ℕ) (holder : Holder) (q : List Pending)
    → repointed geo n inode k b size holder (filled b bytes q) ≡ relocated geo n inode k b bytes size holder q
relocates geo n _ k b bytes size KeptInRecord q = refl
relocates geo n _ k b bytes size (KeptInTable m x table over) q = refl
relocates geo n _ k b bytes size (KeptInNew m x table up) q = refl

-- ---- as the plan has them
-- where the size grows, the record is written
pub appends : (geo : Geometry) (n : ℕ) (inode : Inode) (k b : ℕ) (bytes : List ℕ) (size : ℕ) (holder : Holder) (q : List Pending) → inode.size < size
    → relocated geo n inode k b bytes size holder q ≡ appended geo n inode k b bytes size holder q
appends geo n _ k b bytes size KeptInRecord q grows = refl
appends geo n _ k b bytes size (KeptInNew m x table up) q grows = refl
appends geo n owner k b bytes size (KeptInTable m x table over) q grows =
    let holder = KeptInTable m x table over in
    ap (λ (t : Bool). cond t (record { change = SetInode n (sized owner size); after = known b holder } ∷ linked geo n k b holder (filled b bytes q)) (linked geo n k b holder (filled b bytes q)))
    (lt-ltb owner.size size grows)

-- ---- what a plan adds, and the cells that it names
pub all_one : (geo : Geometry) (cells : List Cell) (a : ℕ) → cells ≡ Block a ∷ [] → IsTrue (is_data_address geo a) → All (IsCell geo) cells
all_one geo cells a e address = subst (λ (l : List Cell). All (IsCell geo) l) (sym e) by
  where
    by : All (IsCell geo) (Block a ∷ [])
    by zero d low = address
    by (suc j) d low = absurd (omega (arith, low))

module _ (kept : Kept) (target : Target) (bytes : List ℕ) (size : ℕ) (start mid end : Draft) where
  abbrev of_target : Inode
  of_target = (frozen_view kept).inode target.file

  pub goes_in_place : (a : ℕ) (owner : Inode) (cells : List Cell) → target.place ≡ InPlace a → owner ≡ of_target → cells ≡ Block a ∷ []
      → GoesOn start mid (λ q. record { change = SetBytes a bytes; after = [] } ∷ q) → GoesOn mid end (enlarged target.file owner size cells) → GoesOn start end (updates_at kept target bytes size)
  goes_in_place a owner cells is e f fills sets =
      subst (λ p. GoesOn start end (updates_by kept target.file target.index bytes size p)) (sym is)
      (goes_as start end _ (updates_by kept target.file target.index bytes size (InPlace a))
      (λ q. ap₂ (λ (n : Inode) (after : List Cell). enlarged target.file n size after (record { change = SetBytes a bytes; after = [] } ∷ q)) e f)
      (goes_then start mid end (λ q. record { change = SetBytes a bytes; after = [] } ∷ q) (enlarged target.file owner size cells) fills sets))

  goes_relocated : (b : ℕ) (tables : List ℕ) → GoesOn start mid (filled b bytes) → GoesOn mid end (repointed kept.geometry target.file of_target target.index b size (holder_at kept target.file target.index b tables))
      → GoesOn start end (relocated kept.geometry target.file of_target target.index b bytes size (holder_at kept target.file target.index b tables))
  goes_relocated b tables fills points =
      let holder = holder_at kept target.file target.index b tables in
      goes_as start end _ (relocated kept.geometry target.file of_target target.index b bytes size holder) (λ q. relocates kept.geometry target.file of_target target.index b bytes size holder q)
      (goes_then start mid end (filled b bytes) (repointed kept.geometry target.file of_target target.index b size holder) fills points)

  pub goes_behind : (b : ℕ) (tables : List ℕ) → target.place ≡ Behind b tables
      → GoesOn start mid (filled b bytes) → GoesOn mid end (repointed kept.geometry target.file of_target target.index b size (holder_at kept target.file target.index b tables)) → GoesOn start end (updates_at kept target bytes size)
  goes_behind b tables is fills points = subst (λ p. GoesOn start end (updates_by kept target.file target.index bytes size p)) (sym is) (goes_relocated b tables fills points)

  pub goes_elsewhere : (a b : ℕ) (tables : List ℕ) → target.place ≡ Elsewhere a b → tables ≡ []
      → GoesOn start mid (filled b bytes) → GoesOn mid end (repointed kept.geometry target.file of_target target.index b size (holder_at kept target.file target.index b tables)) → GoesOn start end (updates_at kept target bytes size)
  goes_elsewhere a b tables is none fills points =
      subst (λ p. GoesOn start end (updates_by kept target.file target.index bytes size p)) (sym is)
      (goes_relocated b [] fills (subst (λ xs. GoesOn mid end (repointed kept.geometry target.file of_target target.index b size (holder_at kept target.file target.index b xs))) none points))
