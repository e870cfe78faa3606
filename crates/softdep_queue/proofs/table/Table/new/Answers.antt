use Rattle.std.proofs.Common.{◌≡◌, ℕ, zero, inl, inr, refl, ap, ◌∙◌, length, replicate, slice_index_or, arith}
use Rattle.std.proofs.lemmas.Bool.{cases_lt}
use Rattle.std.proofs.lemmas.List.{length-replicate, get_or-replicate, get_or_past}
use Rattle.softdep_queue.proofs.Rooms.{holds_none}
use Rattle.softdep_queue.proofs.table.Table.new.Goals as goal

-- no cell has a last one
nothing_last : (n k : ℕ) → slice_index_or (replicate n zero) k zero ≡ zero
nothing_last n k = elim (cases_lt k n) [
  | inl low ↦ get_or-replicate n k zero zero low
  | inr past ↦ get_or_past (replicate n zero) k zero (let long = length-replicate n zero in omega (arith, long, past))
]

pub returns : goal.returns
returns c =
    let items = c.in_ok-vec.ensures.items_if_clones_equal (λ y h. h) in
    holds_none c.args.geometry.now _ c.new.ensures.items c.in_ok-new.ensures.empty c.new-4.ensures.items refl (c.in_ok-new.ensures.count ∙ c.blocks-2.ensures.count)
    (ap length items ∙ length-replicate c.places.result zero ∙ c.places.ensures) (λ k. ap (λ l. slice_index_or l k zero) items ∙ nothing_last c.places.result k)
