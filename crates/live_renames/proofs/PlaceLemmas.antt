-- The blocks of a new entry, as they are gathered.
use Rattle.std.proofs.Common.{◌≡◌, ◌/◌, ◌∙◌, ℕ, List, [], ◌∷◌, ◌++◌, All, Contains, ap, map, subst, sym}
use Rattle.std.proofs.lemmas.List.Elements.{All-append, All-cons, All-nil, Contains-append_left, Contains-append_right}
use Rattle.model.specs.Layout.{Geometry}
use Rattle.model.specs.View.{View}
use Rattle.model.proofs.UseLemmas.{claim_parts}
use Rattle.ordering.specs.Cuts as ordering
use Rattle.updates.specs.declared.cell.Cell.{Cell}
use Rattle.updates.specs.declared.cell.Cell.TheVariants.{Block}
use Rattle.updates.specs.Places.{IsCell}
use Rattle.updates.specs.Values.{cell}
use Rattle.plans_data.specs.Plans.{AllFree}
use Rattle.plans_data.proofs.Holders.{mapped}
use Rattle.live_places.specs.Chosen.{IsEmptySlot, IsNewBlock, IsPlace}
use Rattle.live_places.specs.declared.choosing.Place.{Place}
use Rattle.live_places.specs.declared.choosing.Place.TheVariants.{Slot, NewBlock}
use Rattle.live_renames.specs.Gathered.{Gathers}
use Rattle.live_renames.specs.Moved.{IsPlaceIn, cells_of}
use Rattle.live_renames.proofs.GroundLemmas.{gathers_both, holds_pushed, pushed}

-- No cell was taken away, and the blocks of this place came, and where there was no cell they are all.
abbrev pub Placed : Geometry → Place → List Cell → List Cell → Type 0
Placed geo place old new = Gathers geo (map cell old) (map cell new) × IsPlaceIn place (map cell new) × (old ≡ [] → map cell new ≡ cells_of place)

-- they stay where no cell is taken away
pub place_more : (place : Place) (old new : List ordering.Cell) → ((c : ordering.Cell) → Contains old c → Contains new c) → IsPlaceIn place old → IsPlaceIn place new
place_more (Slot s block) old new kept first = kept (ordering.Block block) first
place_more (NewBlock block tables) old new kept first = (kept (ordering.Block block) first.0, (λ x c. kept (ordering.Block x) (first.1 x c)))

-- the blocks of new tables are cells of the volume, which come behind others
module _ (geo : Geometry) (view : View) where
  table_cells : (tables : List ℕ) → AllFree geo view tables → All (IsCell geo) (map ordering.Block tables)
  table_cells [] free = All-nil (IsCell geo)
  table_cells (x ∷ xs) free = All-cons (IsCell geo) (ordering.Block x) (map ordering.Block xs) (free.0).address (table_cells xs free.1)

  tables_more : (tables : List ℕ) → AllFree geo view tables → (old new : List ordering.Cell) → new ≡ old ++ map ordering.Block tables → Gathers geo old new
  tables_more tables free old new is = record {
    kept = λ c k. subst (λ zs. Contains zs c) (sym is) (Contains-append_left old (map ordering.Block tables) c k);
    cells = λ all. subst (All (IsCell geo)) (sym is) (All-append (IsCell geo) old (map ordering.Block tables) all (table_cells tables free));
  }

module _ (geo : Geometry) (view : View) (d : ℕ) (place : Place) (at : IsPlace geo view d place) (old : List Cell) where
  pub slot_placed : (s block : ℕ) (new : List Cell) → place ≡ Slot s block → new ≡ old ++ Block block ∷ [] → Placed geo place old new
  slot_placed s block new is more =
      let there : IsEmptySlot geo view d s block = subst (IsPlace geo view d) is at in (
        pushed geo old new (Block block) more (claim_parts geo view d (s / 16) block there.stands).1,
        subst (λ p. IsPlaceIn p (map cell new)) (sym is) (holds_pushed geo old new (Block block) more),
        (λ none. ap (map cell) (more ∙ ap (λ xs. xs ++ Block block ∷ []) none) ∙ ap cells_of (sym is)),
      )

  pub blocks_placed : (block : ℕ) (tables : List ℕ) (middle new : List Cell) → place ≡ NewBlock block tables → middle ≡ old ++ Block block ∷ [] → map cell new ≡ map cell middle ++ map ordering.Block tables
      → Placed geo place old new
  blocks_placed block tables middle new is first second =
      let there : IsNewBlock geo view d block tables = subst (IsPlace geo view d) is at in
      let more = tables_more geo view tables there.choice.tables (map cell middle) (map cell new) second in (
        gathers_both geo (map cell old) (map cell middle) (map cell new) (pushed geo old middle (Block block) first there.choice.free.address) more,
        subst (λ p. IsPlaceIn p (map cell new)) (sym is) (
          more.kept (cell (Block block)) (holds_pushed geo old middle (Block block) first),
          (λ x c. subst (λ zs. Contains zs (ordering.Block x)) (sym second) (Contains-append_right (map cell middle) (map ordering.Block tables) (ordering.Block x) (mapped ordering.Block tables x c))),
        ),
        (λ none. second ∙ ap (λ xs. map cell xs ++ map ordering.Block tables) (first ∙ ap (λ xs. xs ++ Block block ∷ []) none) ∙ ap cells_of (sym is)),
      )
