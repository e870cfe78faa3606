-- The next part is the first call of the list that begins with its unit.
use Rattle.std.proofs.Common.{◌≡◌, ℕ, ◌+◌, ◌<◌, ◌∷◌, [], Bool, true, List, Some, length, slice_get, slice_set, slice_index_or, sym, ap, ◌∙◌, subst, arith, refl, Global}
use Rattle.std.specs.declared.collections.VecDeque.{VecDeque}
use Rattle.std.specs.List.{position_or_len}
use Rattle.std.proofs.lemmas.Bool.{false≢true, eqb-true}
use Rattle.std.proofs.lemmas.List.{nil_from_length}
use Rattle.std.proofs.lemmas.List.Sums.{passes_at_first}
use Rattle.std.proofs.lemmas.Option.{slice_get_read}
use Rattle.claims.specs.Counting.{times, total, once_below}
use Rattle.workers.specs.Turns.{begins_with, units_in, IsRising}
use Rattle.workers.proofs.MergeLemmas.{IsMerging, nothing_merged, someone_next, one_merged, all_merged, holder_within}
use Rattle.workers.proofs.merging.in_order.Goals as goal

pub loop-unit-init : goal.loop-unit-init
loop-unit-init g c =
    let calls_in : VecDeque (ℕ × g.row.P.Denot) Global → List (ℕ × g.row.P.Denot) = λ q. q.items in
    record {
      parts = c.new-parts.ensures.len;
      merging = subst (IsMerging calls_in c.args.lists.items c.args.lists.items) (sym c.new-parts.ensures.items) (nothing_merged calls_in c.args.lists.items);
    }

abbrev List_of : {P : Type 0} → VecDeque (ℕ × P) Global → List (ℕ × P)
List_of q = q.items

-- the list that was found begins with the unit
found : {P : Type 0} (lists rests : List (VecDeque (ℕ × P) Global)) (parts : List P) (merging : IsMerging List_of lists rests parts) (bound : ℕ)
    → ((u : ℕ) → total (λ q. times u (units_in q.items)) lists ≡ once_below bound u) → ((w : ℕ) (list : VecDeque (ℕ × P) Global) → slice_get lists w ≡ Some list → IsRising (units_in list.items))
    → length parts < bound → (unit holder : ℕ) → length parts ≡ unit → holder ≡ position_or_len (λ q. begins_with unit q.items) rests
    → (holder < length rests) × ((q : VecDeque (ℕ × P) Global) → q ≡ slice_index_or rests holder q → begins_with unit q.items ≡ true)
found {P} lists rests parts merging bound once rising below unit holder long is =
    let next = someone_next List_of lists rests parts merging bound once rising below in
    let p : VecDeque (ℕ × P) Global → Bool = λ q. begins_with unit q.items in
    let begins : p next.1 ≡ true = subst (λ (k : ℕ). begins_with k next.1.items ≡ true) long next.3 in
    let within = holder_within p rests next.0 next.1 next.2 begins in (
      subst (λ (k : ℕ). k < length rests) (sym is) within,
      λ q read. ap p (read ∙ ap (λ (k : ℕ). slice_index_or rests k q) is) ∙ passes_at_first p rests q within,
    )

pub index_mut-requires : goal.index_mut-requires
index_mut-requires g c =
    let long : length c.loop-unit.parts.items ≡ c.loop-unit.unit = sym c.loop-unit.parts.ok.0 ∙ c.loop-unit.invariant.parts in
    let here = found c.args.lists.items c.loop-unit.lists.items c.loop-unit.parts.items c.loop-unit.invariant.merging c.args.units c.requires.once c.requires.rising
    (subst (λ (k : ℕ). k < c.args.units) (sym long) c.loop-unit-test.true) c.loop-unit.unit c.holder_of-holder.result long
    (c.holder_of-holder.ensures ∙ ap (position_or_len (λ q. begins_with c.loop-unit.unit q.items)) c.as_slice.ensures.value) in
    subst (λ (k : ℕ). c.holder_of-holder.result < k) (sym c.loop-unit.lists.ok.0) here.0

pub unreachable-requires : goal.unreachable-requires
unreachable-requires g c =
    let long : length c.loop-unit.parts.items ≡ c.loop-unit.unit = sym c.loop-unit.parts.ok.0 ∙ c.loop-unit.invariant.parts in
    let here = found c.args.lists.items c.loop-unit.lists.items c.loop-unit.parts.items c.loop-unit.invariant.merging c.args.units c.requires.once c.requires.rising
    (subst (λ (k : ℕ). k < c.args.units) (sym long) c.loop-unit-test.true) c.loop-unit.unit c.holder_of-holder.result long
    (c.holder_of-holder.ensures ∙ ap (position_or_len (λ q. begins_with c.loop-unit.unit q.items)) c.as_slice.ensures.value) in
    let begins = here.1 c.index_mut.result.now c.index_mut.ensures.value in
    let empty : c.index_mut.result.now.items ≡ [] = nil_from_length c.index_mut.result.now.items (sym c.index_mut.result.now.ok.0 ∙ c.in_default.ensures.cases.0) in
    false≢true (sym (ap (begins_with c.loop-unit.unit) empty) ∙ begins)

pub loop-unit-preserved : goal.loop-unit-preserved
loop-unit-preserved g c =
    let long : length c.loop-unit.parts.items ≡ c.loop-unit.unit = sym c.loop-unit.parts.ok.0 ∙ c.loop-unit.invariant.parts in
    let below : length c.loop-unit.parts.items < c.args.units = subst (λ (k : ℕ). k < c.args.units) (sym long) c.loop-unit-test.true in
    let here = found c.args.lists.items c.loop-unit.lists.items c.loop-unit.parts.items c.loop-unit.invariant.merging c.args.units c.requires.once c.requires.rising
    below c.loop-unit.unit c.holder_of-holder.result long
    (c.holder_of-holder.ensures ∙ ap (position_or_len (λ q. begins_with c.loop-unit.unit q.items)) c.as_slice.ensures.value) in
    let begins = here.1 c.index_mut.result.now c.index_mut.ensures.value in
    let items = c.in-Some.ensures.items in
    let same : c.in-Some._unit ≡ length c.loop-unit.parts.items = eqb-true c.in-Some._unit c.loop-unit.unit (sym (ap (begins_with c.loop-unit.unit) items) ∙ begins) ∙ sym long in
    let first = slice_get_read c.loop-unit.lists.items (length c.loop-unit.lists.items) c.holder_of-holder.result c.index_mut.result.now refl here.0 c.index_mut.ensures.value in
    record {
      parts = c.in_ok-push.ensures.len ∙ ap (λ (k : ℕ). k + 1) c.loop-unit.invariant.parts;
      merging = subst (IsMerging List_of c.args.lists.items (slice_set c.loop-unit.lists.items c.holder_of-holder.result c.pop_front.new.self)) (sym c.in_ok-push.ensures.items)
          (one_merged List_of c.args.lists.items c.loop-unit.lists.items c.loop-unit.parts.items c.loop-unit.invariant.merging c.args.units c.requires.once c.requires.rising
          c.holder_of-holder.result c.index_mut.result.now c.pop_front.new.self c.in-Some.part first
          (items ∙ ap (λ (k : ℕ). (k, c.in-Some.part) ∷ c.pop_front.new.self.items) same) below);
    }

pub returns-clause-dealt : goal.returns-clause-dealt
returns-clause-dealt g c =
    let calls_in : VecDeque (ℕ × g.row.P.Denot) Global → List (ℕ × g.row.P.Denot) = λ q. q.items in
    let merging = c.loop-unit.invariant.merging in
    let long : length c.loop-unit.parts.items ≡ c.loop-unit.unit = sym c.loop-unit.parts.ok.0 ∙ c.loop-unit.invariant.parts in
    record {
      dealt = merging.dealt;
      to_one = merging.to_one;
      each = λ w list a. all_merged calls_in c.args.lists.items c.loop-unit.lists.items c.loop-unit.parts.items merging c.args.units c.requires.once c.requires.rising
          (let past = c.loop-unit-test.false in omega arith) w list a;
    }
