use Rattle.std.proofs.Common.{◌≡◌, ◌-◌, sym, ap, ◌∙◌, arith, Some, slice_index_or}
use Rattle.std.proofs.lemmas.List.{get_or_default}
use Rattle.updates.specs.Places.{place_of}
use Rattle.updates.specs.Values.{cell}
use Rattle.softdep_queue.specs.Adding.{last_in}
use Rattle.softdep_queue.proofs.Waits.{last_some}
use Rattle.softdep_queue.proofs.table.Table.wait_for.Goals as goal

module _ (c : goal.After-index-arg-2-1) where
  read_last : slice_index_or c.args.self.now.latest.items (place_of c.args.geometry.now (cell c.args.earlier)) 0 ≡ c.index-last.result.now
  read_last =
      let low = c.place.ensures.in_table in
      let places = c.requires.last.places in
      ap (λ p. slice_index_or c.args.self.now.latest.items p 0) (sym c.place.ensures.place)
      ∙ sym (c.index-last.ensures ∙ get_or_default c.args.self.now.latest.items c.place.result c.index-last.result.now 0 (omega (arith, low, places)))

  last : last_in c.args.geometry.now c.args.self.now (cell c.args.earlier) ≡ Some (c.index-last.result.now - 1)
  last = last_some c.args.geometry.now c.args.self.now (cell c.args.earlier) c.index-last.result.now read_last c.if-last-eq0.false

pub is_own-own-requires : goal.is_own-own-requires
is_own-own-requires c =
    let low = c.place.ensures.in_table in
    let places = c.requires.last.places in
    let read = ap (λ p. slice_index_or c.args.self.now.latest.items p 0) (sym c.place.ensures.place)
    ∙ sym (c.index-last.ensures ∙ get_or_default c.args.self.now.latest.items c.place.result c.index-last.result.now 0 (omega (arith, low, places))) in
    (c.requires.last.last (c.index-last.result.now - 1) (last_some c.args.geometry.now c.args.self.now (cell c.args.earlier) c.index-last.result.now read c.if-last-eq0.false)).0

pub index-requires : goal.index-requires
index-requires c = let h = (c.requires.last.last (c.index-last.result.now - 1) (last c)).0 in omega (arith, h)
