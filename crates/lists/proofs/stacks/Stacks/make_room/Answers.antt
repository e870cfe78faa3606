use Rattle.std.proofs.Common.{◌≡◌, ◌-◌, ◌<◌, ◌^◌, ◌++◌, List, ℕ, [], Bool, true, false, cond, sym, ap, ◌∙◌, subst, length, take, replicate, arith, is_ok, append-nil}
use Rattle.std.proofs.lemmas.List.{take_all}
use Rattle.std.specs.Vec.{vec_len}
use Rattle.lists.specs.Stacks.{Links, stack_at}
use Rattle.lists.proofs.StackWalks.{AreNow, are_stacks, stack_is, longer_now}
use Rattle.lists.proofs.stacks.Stacks.make_room.Goals as goal

module _ (c : goal.After-resize) where
  abbrev links : Links
  links = record { tops = c.self.inside.tops.items; below = c.self.inside.below.items }

  more : (more : List ℕ) × (c.resize.new.self.items ≡ c.self.inside.below.items ++ more)
  more = step (is_ok c.resize.result) c.resize.ensures.items
    where
      step : (b : Bool) → c.resize.new.self.items ≡ cond b (take c.args.room c.self.inside.below.items ++ replicate (c.args.room - vec_len c.self.inside.below) 0) c.self.inside.below.items
          → (more : List ℕ) × (c.resize.new.self.items ≡ c.self.inside.below.items ++ more)
      step true e = (
        replicate (c.args.room - vec_len c.self.inside.below) 0,
        e ∙ ap (λ l. l ++ replicate (c.args.room - vec_len c.self.inside.below) 0)
            (take_all c.args.room c.self.inside.below.items (let f = c.if-room-len.false in let l = c.len.ensures in omega (arith, f, l))),
      )
      step false e = ([], e ∙ sym (append-nil c.self.inside.below.items))

  small : length c.resize.new.self.items < 2 ^ 32
  small = step (is_ok c.resize.result) c.resize.ensures.len
    where
      step : (b : Bool) → vec_len c.resize.new.self ≡ cond b c.args.room (vec_len c.self.inside.below) → length c.resize.new.self.items < 2 ^ 32
      step true e = let f = c.if-room.false in omega (arith, e, f)
      step false e = let f = c.self.invariant.few in omega (arith, e, f)

  now : AreNow (record { tops = c.self.inside.tops.items; below = c.resize.new.self.items }) (stack_at links)
  now = subst (λ b. AreNow (record { tops = c.self.inside.tops.items; below = b }) (stack_at links)) (sym more.1)
      (longer_now links more.0 c.self.invariant (subst (λ b. length b < 2 ^ 32) more.1 small))

pub invariant_of-self : goal.invariant_of-self
invariant_of-self c = are_stacks (record { tops = c.self.inside.tops.items; below = c.resize.new.self.items }) (stack_at (links c)) (now c)

pub returns-clause-stacks : goal.returns-clause-stacks
returns-clause-stacks c k =
    stack_is (record { tops = c.self.inside.tops.items; below = c.resize.new.self.items }) (stack_at (links c)) (now c) k ∙ ap (λ (v : Links). stack_at v k) c.self.view_is
