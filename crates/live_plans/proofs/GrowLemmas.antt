-- What a new block of a directory, and the pointer to it, add to the updates in the making.
use Rattle.std.proofs.Common.{◌≡◌, ◌<◌, ◌+◌, ℕ, Bool, true, false, not, ◌&&◌, leb, List, [], ◌∷◌, length, refl, sym, ap, ap₂, ◌∙◌, subst, arith, IsTrue, IsFalse, Some}
use Rattle.std.proofs.lemmas.Bool.{and_from, both_ways, le-leb, leb-false}
use Rattle.std.proofs.lemmas.Option.{none-some}
use Rattle.model.specs.Layout.{Geometry, IsGeometry, is_number}
use Rattle.model.specs.View.{View, Inode}
use Rattle.model.specs.Cells.{SetBlock, SetBytes, SetInode}
use Rattle.model.specs.Shape.{Next, first_block, is_table, most_blocks, new_tables, position_count, table_of}
use Rattle.model.specs.Uses.{IsClaim, blocks_of, has_position, is_sound, is_sound_at}
use Rattle.model.proofs.Same.{same_facts}
use Rattle.model.proofs.Shape.{New, NoNew, OneNew, TwoNew, new, numbers, reach_from, shallow, some_table, table_inside, table_is_table}
use Rattle.machine.specs.Cells.{block_of}
use Rattle.machine.specs.Effects.{with_links}
use Rattle.machine.specs.Room.{IsFreeBlock, has_room, is_full}
use Rattle.ordering.specs.Cuts.{Cell}
use Rattle.frozen.specs.Kept.{Kept, KeepsMetadata, frozen_view}
use Rattle.metadata.specs.Shown.{Shows}
use Rattle.metadata.proofs.ShownLemmas.{shows_metadata}
use Rattle.plans_data.specs.Append.{Holder, filled, linked, sized}
use Rattle.plans_data.specs.Plans.{AllFree, IsChoice, holder_of}
use Rattle.plans_data.proofs.Blocks.{block_is, position_claimed}
use Rattle.plans_data.proofs.Tables.{Keeps, kept_next}
use Rattle.plans_naming.specs.Grow.{empty_block, grown}
use Rattle.live_places.specs.Chosen.{IsNewBlock}
use Rattle.live_states.specs.Drafts.{Draft, GoesOn}
use Rattle.live_states.specs.Planned.{IsOfVolume}
use Rattle.live_plans.specs.Grown.{Grows}
use Rattle.live_plans.specs.Linked.{CanLink, HasPointers, IsLinked}
use Rattle.live_plans.proofs.DraftLemmas.{goes_as, goes_then}
use Rattle.live_plans.proofs.LinkLemmas.{holder_there}

-- a sound inode claims the tables that it has, on a volume
pub volume_claims : (kept : Kept) → KeepsMetadata kept → IsOfVolume kept → (d : ℕ) → IsTrue (is_sound_at kept.geometry (frozen_view kept) d) → HasPointers kept d
volume_claims kept keeps volume d sound m is has =
    let users = volume.old.view in
    let same = same_facts kept.geometry (frozen_view kept) users (shows_metadata kept users keeps volume.shows) in
    let inode = volume.shows.inode d in
    let claim = position_claimed kept.geometry users volume.stands.balance.rules d m
    (subst (λ (n : Inode). IsTrue (is_number kept.geometry d && is_sound kept.geometry n)) inode sound) (subst (λ (n : Inode). IsTrue (has_position kept.geometry n m)) inode has) in
    (block_of kept.geometry users d m, (same.uses d m ∙ claim.0, claim.1))

-- a directory without an empty slot that is not full has a position left
pub position_left : (geo : Geometry) (view : View) (d : ℕ) → IsFalse (has_room geo view d) → IsFalse (is_full geo view d) → blocks_of (view.inode d).size < most_blocks geo
position_left geo view d none left = by (leb (most_blocks geo) (blocks_of (view.inode d).size)) refl
  where
    by : (t : Bool) → leb (most_blocks geo) (blocks_of (view.inode d).size) ≡ t → blocks_of (view.inode d).size < most_blocks geo
    by false e = leb-false (most_blocks geo) (blocks_of (view.inode d).size) e
    by true e = absurd (both_ways (is_full geo view d) left (and_from (not (has_room geo view d)) (leb (most_blocks geo) (blocks_of (view.inode d).size)) (ap not none) e))

-- a block that may be given out by what is kept may be by what users see
pub free_there : (kept : Kept) (view : View) → Shows kept view → (a : ℕ) → IsFreeBlock kept.geometry (frozen_view kept) a → IsFreeBlock kept.geometry view a
free_there kept view shows a free = record { address = free.address; unmarked = sym (shows.block_marked a) ∙ free.unmarked }

-- the size of a record with other links
pub size_is : (inode old : Inode) (links : ℕ) → inode ≡ with_links old links → blocks_of inode.size ≡ blocks_of old.size
size_is inode old links e = ap (λ (n : Inode). blocks_of n.size) e

-- so its next position is a small number, whatever its links
pub few_before : (geo : Geometry) (view : View) (d : ℕ) (inode : Inode) (links : ℕ) → inode ≡ with_links (view.inode d) links → IsFalse (has_room geo view d) → IsFalse (is_full geo view d)
    → (blocks_of inode.size < position_count geo) × (blocks_of inode.size < 65804)
few_before geo view d inode links is none left =
    let small = (numbers geo).1 in
    let same = size_is inode (view.inode d) links is in
    let low = position_left geo view d none left in (
      omega (arith, low, same, some_table geo),
      omega (arith, low, same, small.most, small.few),
    )

-- ---- the pointer to the block behind the last one of an inode can be put, with as many new tables as come with it
module _ (kept : Kept) (n k : ℕ) (claims : HasPointers kept n) (next : k ≡ blocks_of ((frozen_view kept).inode n).size) (room : k < most_blocks kept.geometry) where
  abbrev geo : Geometry
  geo = kept.geometry

  inside : k < position_count geo
  inside = omega (arith, room, some_table geo)

  was : (m l : ℕ) → table_of geo l ≡ Some m → m < position_count geo → first_block geo m < k → (x : ℕ) × IsClaim geo (frozen_view kept) n m x
  was m l one low early =
      claims m (le-leb (most_blocks geo) m (table_is_table geo l m one)) (reach_from geo (blocks_of ((frozen_view kept).inode n).size) m low (omega (arith, early, next)))

  can_by : (news : List ℕ) → length news ≡ length (new_tables geo k) → AllFree geo (frozen_view kept) news → New geo k → CanLink kept n k news
  can_by [] many free (NoNew none list) = λ m one. was m k one (table_inside geo k m inside one) (none m (Next one))
  can_by (x ∷ xs) many free (NoNew none list) = absurd (let few = ap length list in omega (arith, many, few))
  can_by [] many free (OneNew m one is early list) = absurd (let few = ap length list in omega (arith, many, few))
  can_by (x ∷ []) many free (OneNew m one is early list) =
      (m, one, (free.0).address, (λ t two. was t m two (table_inside geo m t (table_inside geo k m inside one) two) (early t two)))
  can_by (x ∷ y ∷ ys) many free (OneNew m one is early list) = absurd (let few = ap length list in omega (arith, many, few))
  can_by [] many free (TwoNew m t one two is also list) = absurd (let few = ap length list in omega (arith, many, few))
  can_by (x ∷ []) many free (TwoNew m t one two is also list) = absurd (let few = ap length list in omega (arith, many, few))
  can_by (x ∷ y ∷ []) many free (TwoNew m t one two is also list) =
      (m, one, (free.0).address, (t, two, ((free.1).0).address, (λ u three. absurd (none-some u (sym (shallow geo k m t one two) ∙ three)))))
  can_by (x ∷ y ∷ z ∷ zs) many free (TwoNew m t one two is also list) = absurd (let few = ap length list in omega (arith, many, few))

  pub can_link : (news : List ℕ) → length news ≡ length (new_tables geo k) → AllFree geo (frozen_view kept) news → CanLink kept n k news
  can_link news many free = can_by news many free (new geo k room)

-- ---- what was chosen by what is kept may be chosen by what users see
all_there : (kept : Kept) (view : View) → Shows kept view → (xs : List ℕ) → AllFree kept.geometry (frozen_view kept) xs → AllFree kept.geometry view xs
all_there kept view shows [] free = tt
all_there kept view shows (x ∷ xs) free = (free_there kept view shows x free.0, all_there kept view shows xs free.1)

pub choice_there : (kept : Kept) (view : View) → Shows kept view → (k b : ℕ) (tables : List ℕ) → IsChoice kept.geometry (frozen_view kept) k b tables → IsChoice kept.geometry view k b tables
choice_there kept view shows k b tables is = record { free = free_there kept view shows b is.free; many = is.many; tables = all_there kept view shows tables is.tables; apart = is.apart }

pub can_grow : (kept : Kept) (d b : ℕ) (inode : Inode) (links : ℕ) (tables : List ℕ) → HasPointers kept d → inode ≡ with_links ((frozen_view kept).inode d) links → IsNewBlock kept.geometry (frozen_view kept) d b tables
    → IsFalse (is_full kept.geometry (frozen_view kept) d) → CanLink kept d (blocks_of inode.size) tables
can_grow kept d b inode links tables claims is place left =
    let size = size_is inode ((frozen_view kept).inode d) links is in
    subst (λ k. CanLink kept d k tables) (sym size)
    (can_link kept d (blocks_of ((frozen_view kept).inode d).size) claims refl (position_left kept.geometry (frozen_view kept) d place.none left) tables place.choice.many place.choice.tables)

module _ (kept : Kept) (view : View) (shows : Shows kept view) (d b : ℕ) (inode : Inode) (links : ℕ) (is : inode ≡ with_links ((frozen_view kept).inode d) links) where
  pub same_size : blocks_of inode.size ≡ blocks_of (view.inode d).size
  same_size = size_is inode ((frozen_view kept).inode d) links is ∙ ap (λ (n : Inode). blocks_of n.size) (shows.inode d)

  module _ (keeps : KeepsMetadata kept) (ok : IsGeometry kept.geometry) (claims : HasPointers kept d) (tables : List ℕ) (place : IsNewBlock kept.geometry (frozen_view kept) d b tables) (left : IsFalse (is_full kept.geometry (frozen_view kept) d)) where
    k : ℕ
    k = blocks_of (view.inode d).size

    holder : Holder
    holder = holder_of kept.geometry view d (blocks_of (view.inode d).size) b tables

    claims_there : (m : ℕ) → IsTrue (is_table kept.geometry m) → IsTrue (has_position kept.geometry (view.inode d) m) → IsClaim kept.geometry view d m (block_of kept.geometry view d m)
    claims_there m table has =
        let same = same_facts kept.geometry (frozen_view kept) view (shows_metadata kept view keeps shows) in
        let c = claims m table (subst (λ (n : Inode). IsTrue (has_position kept.geometry n m)) (sym (shows.inode d)) has) in
        let there : IsClaim kept.geometry view d m c.0 = (sym (same.uses d m) ∙ c.1.0, c.1.1) in
        subst (λ a. IsClaim kept.geometry view d m a) (sym (block_is kept.geometry view d m c.0 there)) there

    room : blocks_of (view.inode d).size < most_blocks kept.geometry
    room = let low = position_left kept.geometry (frozen_view kept) d place.none left in let e = ap (λ (n : Inode). blocks_of n.size) (shows.inode d) in omega (arith, low, e)

    holds : Keeps kept.geometry view d (blocks_of (view.inode d).size) b holder tables
    unfolding holder
    holds = kept_next kept.geometry view d ok claims_there (blocks_of (view.inode d).size) b refl room tables
        (subst (λ j. IsChoice kept.geometry view j b tables) (ap (λ (n : Inode). blocks_of n.size) (shows.inode d)) (choice_there kept view shows (blocks_of ((frozen_view kept).inode d).size) b tables place.choice))

    same_holder : holder_of kept.geometry (frozen_view kept) d (blocks_of inode.size) b tables ≡ holder
    unfolding holder
    same_holder =
        holder_there kept view (shows_metadata kept view keeps shows) d (blocks_of inode.size) b tables (can_grow kept d b inode links tables claims is place left)
        ∙ ap (λ j. holder_of kept.geometry view d j b tables) same_size

    -- the record comes behind the pointer
    pub grows : (old filled_in linked_in new : Draft) (given pointing : Inode) (cells : List Cell) → GoesOn old filled_in (filled b empty_block)
        → IsLinked kept.geometry d inode (blocks_of inode.size) b (holder_of kept.geometry (frozen_view kept) d (blocks_of inode.size) b tables) filled_in linked_in pointing cells
        → given ≡ sized pointing (inode.size + 1024) → GoesOn linked_in new (λ q. record { change = SetInode d given; after = cells } ∷ q)
        → Grows kept.geometry view d inode b tables old new
    grows old filled_in linked_in new given pointing cells fills links' e sets =
        let links = subst (λ h. IsLinked kept.geometry d inode (blocks_of inode.size) b h filled_in linked_in pointing cells) same_holder links' in
        record {
          kept = holder;
          keeps = holds.kept;
          tables = holds.tables;
          goes_on = goes_as old new _ (grown kept.geometry d inode b holder)
              (λ q. ap₂ (λ (n : Inode) after. record { change = SetInode d n; after = after } ∷ linked kept.geometry d (blocks_of inode.size) b holder (filled b empty_block q))
              (e ∙ ap (λ n. sized n (inode.size + 1024)) links.record_points) links.record_after)
              (goes_then old linked_in new _ (λ q. record { change = SetInode d given; after = cells } ∷ q)
              (goes_then old filled_in linked_in (filled b empty_block) (linked kept.geometry d (blocks_of inode.size) b holder) fills links.goes_on) sets);
        }

-- a block is marked and then written
pub marks_then_writes : (old marked new : Draft) (a : ℕ) (bytes given : List ℕ) (none after cells : List Cell) → none ≡ [] → given ≡ bytes → after ≡ cells
    → GoesOn old marked (λ q. record { change = SetBlock a true; after = none } ∷ q)
    → GoesOn marked new (λ q. record { change = SetBytes a given; after = after } ∷ q)
    → GoesOn old new (λ q. record { change = SetBytes a bytes; after = cells } ∷ record { change = SetBlock a true; after = [] } ∷ q)
marks_then_writes old marked new a bytes given none after cells e f g marks writes =
    goes_as old new _ (λ q. record { change = SetBytes a bytes; after = cells } ∷ record { change = SetBlock a true; after = [] } ∷ q)
    (λ q. rw (e, f, g) refl)
    (goes_then old marked new _ _ marks writes)
