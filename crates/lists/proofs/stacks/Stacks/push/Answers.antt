use Rattle.std.proofs.Common.{◌≡◌, ◌+◌, ◌<◌, ◌∷◌, ℕ, sym, ap, ◌∙◌, subst, length, slice_set, Contains}
use Rattle.std.proofs.lemmas.List.{get_or_default}
use Rattle.lists.specs.Stacks.{Links, stack_at, count_of, room_of}
use Rattle.lists.proofs.StackWalks.{AreNow, with_stack, at_stack, at_other, stack_is, are_stacks, push_fields}
use Rattle.lists.proofs.stacks.Stacks.push.Goals as goal

module _ (c : goal.After-self-2-1) where
  abbrev links : Links
  links = record { tops = c.self.inside.tops.items; below = c.self.inside.below.items }

  view : links ≡ c.args.self.now
  view = c.self.view_is

  there : c.args.stack < length c.self.inside.tops.items
  there = subst (λ (v : Links). c.args.stack < count_of v) (sym view) c.requires.stack

  now : AreNow (record { tops = slice_set c.self.inside.tops.items c.args.stack (c.args.number + 1); below = slice_set c.self.inside.below.items c.args.number c.index.result.now })
      (with_stack (stack_at links) c.args.stack (c.args.number ∷ stack_at links c.args.stack))
  now = push_fields links c.self.invariant c.args.stack there c.args.number (subst (λ (v : Links). c.args.number < room_of v) (sym view) c.requires.room)
      (λ k m. c.requires.new k (subst (λ (v : Links). Contains (stack_at v k) c.args.number) view m))
      c.index.result.now (c.index.ensures ∙ get_or_default c.self.inside.tops.items c.args.stack c.index.result.now 0 there)

  is : (k : ℕ) → stack_at (record { tops = slice_set c.self.inside.tops.items c.args.stack (c.args.number + 1); below = slice_set c.self.inside.below.items c.args.number c.index.result.now }) k
      ≡ with_stack (stack_at links) c.args.stack (c.args.number ∷ stack_at links c.args.stack) k
  is = stack_is (record { tops = slice_set c.self.inside.tops.items c.args.stack (c.args.number + 1); below = slice_set c.self.inside.below.items c.args.number c.index.result.now })
      (with_stack (stack_at links) c.args.stack (c.args.number ∷ stack_at links c.args.stack)) now

pub invariant_of-self : goal.invariant_of-self
invariant_of-self c =
    are_stacks (record { tops = slice_set c.self.inside.tops.items c.args.stack (c.args.number + 1); below = slice_set c.self.inside.below.items c.args.number c.index.result.now })
    (with_stack (stack_at (links c)) c.args.stack (c.args.number ∷ stack_at (links c) c.args.stack)) (now c)

pub returns-clause-pushed : goal.returns-clause-pushed
returns-clause-pushed c =
    is c c.args.stack ∙ at_stack (stack_at (links c)) c.args.stack (c.args.number ∷ stack_at (links c) c.args.stack)
    ∙ ap (λ (v : Links). c.args.number ∷ stack_at v c.args.stack) (view c)

pub returns-clause-others : goal.returns-clause-others
returns-clause-others c k d =
    is c k ∙ at_other (stack_at (links c)) c.args.stack (c.args.number ∷ stack_at (links c) c.args.stack) k d ∙ ap (λ (v : Links). stack_at v k) (view c)
