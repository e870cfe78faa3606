-- The list of the group is longer by the number, and the others are as they were.
use Rattle.std.proofs.Common.{◌≡◌, ◌<◌, ◌++◌, ◌∷◌, [], ℕ, length, map, sym, ap, ◌∙◌, subst, rules}
use Rattle.std.proofs.lemmas.List.{get_or-map, get_or-set_other, get_or-set_same, length-map, map-set}
use Rattle.std.specs.declared.vec.Vec.{Vec}
use Rattle.std.specs.declared.alloc.Global.{Global}
use Rattle.refcounts.specs.Parts.{numbers_at}
use Rattle.refcounts.proofs.parts.Part.add.Goals as goal

pub returns-in_ok-push-clause-own : goal.returns-in_ok-push-clause-own
returns-in_ok-push-clause-own c = λ low.
    let lists = c.self.inside.by_group.items in
    let index : c.args.group < length lists = search rules in
    let was : c.index_mut.result.now.items ≡ numbers_at c.args.self.now c.args.group =
    ap (λ (v : Vec ℕ Global). v.items) c.index_mut.ensures.value ∙ sym (get_or-map (λ (v : Vec ℕ Global). v.items) lists c.args.group c.index_mut.result.now [] index)
    ∙ ap (λ v. numbers_at v c.args.group) c.self.view_is in
    ap (λ v. numbers_at v c.args.group) (map-set (λ (v : Vec ℕ Global). v.items) lists c.args.group c.push.new.self)
    ∙ get_or-set_same (map (λ (v : Vec ℕ Global). v.items) lists) c.args.group c.push.new.self.items [] (subst (λ n. c.args.group < n) (sym (length-map lists (λ (v : Vec ℕ Global). v.items))) index)
    ∙ c.in_ok-push.ensures.items ∙ ap (λ xs. xs ++ c.args.number ∷ []) was

pub returns-in_ok-push-clause-others : goal.returns-in_ok-push-clause-others
returns-in_ok-push-clause-others c = λ g apart.
    let lists = c.self.inside.by_group.items in
    ap (λ v. numbers_at v g) (map-set (λ (v : Vec ℕ Global). v.items) lists c.args.group c.push.new.self)
    ∙ get_or-set_other (map (λ (v : Vec ℕ Global). v.items) lists) c.args.group g c.push.new.self.items [] apart
    ∙ ap (λ v. numbers_at v g) c.self.view_is
