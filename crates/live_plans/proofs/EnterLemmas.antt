-- A name is entered into a directory by what is added to the updates in the making.
use Rattle.std.proofs.Common.{◌≡◌, ◌/◌, ◌⊎◌, ℕ, List, [], ◌∷◌, inl, inr, refl, sym, ap, subst, All, Contains, IsTrue}
use Rattle.std.proofs.lemmas.List.Elements.{All-cons, All-contains, All-nil, All-weaker, Contains-push}
use Rattle.model.specs.Layout.{Geometry, is_number}
use Rattle.model.specs.View.{View, Inode}
use Rattle.model.specs.Uses.{blocks_of}
use Rattle.machine.specs.Cells.{IsEntryFor}
use Rattle.ordering.specs.Cuts.{Cell, Record}
use Rattle.updates.specs.Places.{IsCell}
use Rattle.plans_naming.specs.Entries.{HasBlocks, slot_written}
use Rattle.plans_naming.specs.Grow.{empty_block, grown}
use Rattle.courses.specs.After.{IsBeforeEntry, IsBlockOf}
use Rattle.live_states.specs.Drafts.{Draft, GoesOn}
use Rattle.live_plans.specs.Entered.{EntersNewBlock, EntersSlot}
use Rattle.live_plans.specs.Grown.{Grows}
use Rattle.live_plans.proofs.DraftLemmas.{goes_as, goes_then}

module _ (geo : Geometry) (view : View) (d number : ℕ) (name entry : List ℕ) (after : List Cell) (says : IsEntryFor number name entry) (first : Contains after (Record number)) (blocks : HasBlocks geo view d after)
    (only : All (IsBeforeEntry geo view d number) after) where
  pub enters_slot : (s block : ℕ) (bytes : List ℕ) (old new : Draft) → view.bytes block ≡ bytes → GoesOn old new (λ q. slot_written block bytes s entry after ∷ q)
      → EntersSlot geo view d number name s block old new
  enters_slot s block bytes old new same goes = record {
    entry = entry;
    says = says;
    after = after;
    record_first = first;
    others_first = λ k b low claim other. blocks k b low claim;
    only = only;
    goes_on = goes_as old new _ (λ q. slot_written block (view.bytes block) s entry after ∷ q) (λ q. ap (λ bs. slot_written block bs s entry after ∷ q) (sym same)) goes;
  }

  pub enters_new_block : (inode : Inode) (block : ℕ) (tables : List ℕ) (slot : ℕ) (old between new : Draft) → slot / 16 ≡ blocks_of (view.inode d).size → Grows geo view d inode block tables old between
      → GoesOn between new (λ q. slot_written block empty_block slot entry after ∷ q)
      → EntersNewBlock geo view d inode number name block tables old new
  enters_new_block inode block tables slot old between new stands grows goes = record {
    kept = grows.kept;
    keeps = grows.keeps;
    tables = grows.tables;
    slot = slot;
    stands = stands;
    entry = entry;
    says = says;
    after = after;
    record_first = first;
    blocks_first = blocks;
    only = only;
    goes_on = goes_then old between new (grown geo d inode block grows.kept) (λ q. slot_written block empty_block slot entry after ∷ q) grows.goes_on goes;
  }

-- the cells that the entry comes after: the record of the number, and those that were added to it
pub cells_after : (geo : Geometry) (number : ℕ) (first cells : List Cell) → first ≡ Record number ∷ [] → IsTrue (is_number geo number) → (All (IsCell geo) first → All (IsCell geo) cells) → All (IsCell geo) cells
cells_after geo number first cells e is more = more (subst (All (IsCell geo)) (sym e) (All-cons (IsCell geo) (Record number) [] is (All-nil (IsCell geo))))

pub record_first : (number : ℕ) (first cells : List Cell) → first ≡ Record number ∷ [] → ((c : Cell) → Contains first c → Contains cells c) → Contains cells (Record number)
record_first number first cells e more = more (Record number) (subst (λ l. Contains l (Record number)) (sym e) (Contains-push [] (Record number)))

-- and no others
pub only_these : (geo : Geometry) (view : View) (d number : ℕ) (first cells : List Cell) → first ≡ Record number ∷ [] → All (λ c. Contains first c ⊎ IsBlockOf geo view d c) cells → All (IsBeforeEntry geo view d number) cells
only_these geo view d number first cells e all = All-weaker (λ c. Contains first c ⊎ IsBlockOf geo view d c) (IsBeforeEntry geo view d number) either cells all
  where
    the_record : (c : Cell) → Contains first c → c ≡ Record number
    the_record c m =
        All-contains (λ x. x ≡ Record number) first c
        (subst (All (λ x. x ≡ Record number)) (sym e) (All-cons (λ x. x ≡ Record number) (Record number) [] refl (All-nil (λ x. x ≡ Record number)))) m

    either : (c : Cell) → Contains first c ⊎ IsBlockOf geo view d c → IsBeforeEntry geo view d number c
    either c (inl m) = inl (the_record c m)
    either c (inr b) = inr b
