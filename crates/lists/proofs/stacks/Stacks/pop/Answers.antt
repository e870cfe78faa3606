use Rattle.std.proofs.Common.{◌≡◌, ◌-◌, ◌<◌, sym, ap, ◌∙◌, subst, length, slice_index_or, slice_set, arith}
use Rattle.std.proofs.lemmas.List.{get_or_default}
use Rattle.lists.specs.Stacks.{Links, stack_at, count_of}
use Rattle.lists.proofs.StackWalks.{are_stacks, with_stack, parts, pop_low, pop_fields, pop_stack, pop_gone}
use Rattle.lists.proofs.stacks.Stacks.pop.Goals as goal

pub index-requires : goal.index-requires
index-requires c =
    let links : Links = record { tops = c.self.inside.tops.items; below = c.self.inside.below.items } in
    let there : c.args.stack < length c.self.inside.tops.items = subst (λ (v : Links). c.args.stack < count_of v) (sym c.self.view_is) c.requires in
    let low = pop_low links c.self.invariant c.args.stack there c.index-top.result.now 0 c.if-top-eq0.false (c.index-top.ensures ∙ get_or_default c.self.inside.tops.items c.args.stack c.index-top.result.now 0 there) in
    omega (arith, low)

module _ (c : goal.After-self-1) where
  abbrev links : Links
  links = record { tops = c.self.inside.tops.items; below = c.self.inside.below.items }

  there : c.args.stack < length c.self.inside.tops.items
  there = subst (λ (v : Links). c.args.stack < count_of v) (sym c.self.view_is) c.requires

  top : c.index-top.result.now ≡ slice_index_or c.self.inside.tops.items c.args.stack 0
  top = c.index-top.ensures ∙ get_or_default c.self.inside.tops.items c.args.stack c.index-top.result.now 0 there

  below : c.index.result.now ≡ slice_index_or c.self.inside.below.items (c.index-top.result.now - 1) 0
  below = c.index.ensures ∙ get_or_default c.self.inside.below.items (c.index-top.result.now - 1) c.index.result.now 0
      (pop_low links c.self.invariant c.args.stack there c.index-top.result.now 0 c.if-top-eq0.false top)

pub invariant_of-self : goal.invariant_of-self
invariant_of-self c =
    are_stacks (record { tops = slice_set c.self.inside.tops.items c.args.stack c.index.result.now; below = c.self.inside.below.items })
    (with_stack (stack_at (links c)) c.args.stack (parts (links c) c.self.invariant c.args.stack (there c) c.index-top.result.now c.index.result.now c.if-top-eq0.false (top c)).0)
    (pop_fields (links c) c.self.invariant c.args.stack (there c) c.index-top.result.now c.index.result.now c.if-top-eq0.false (top c) (below c))

pub returns-clause-popped : goal.returns-clause-popped
returns-clause-popped c =
    ap (λ (v : Links). stack_at v c.args.stack) (sym c.self.view_is)
    ∙ pop_stack (links c) c.self.invariant c.args.stack (there c) c.index-top.result.now c.index.result.now c.if-top-eq0.false (top c) (below c)

pub returns-clause-none : goal.returns-clause-none
returns-clause-none c = pop_gone (links c) c.self.invariant c.args.stack (there c) c.index-top.result.now c.index.result.now c.if-top-eq0.false (top c) (below c)
