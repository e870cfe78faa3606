use Rattle.std.proofs.Common.{◌≡◌, ◌<◌, ◌/◌, ◌++◌, ◌∷◌, [], ℕ, length, get_or, ◌∙◌, ap, subst, refl}
use Rattle.refcounts.specs.Parts.{numbers_at}
use Rattle.refcounts.proofs.PartLemmas.{grow_none, grow_more}
use Rattle.refcounts.proofs.parts.Part.add_all.Goals as goal

pub loop-number-init : goal.loop-number-init
loop-number-init c = record { all = refl; grown = grow_none c.args.geometry.now c.args.self.now }

pub loop-number-preserved : goal.loop-number-preserved
loop-number-preserved c =
    let i = c.loop-number.invariant in
    let geo = c.args.geometry.now in
    let old = c.loop-number.self in
    let new = c.add.new.self in
    let n = get_or c.args.numbers.now c.loop-number.number-index 0 in
    let same : n / c.inodes_a_group.result ≡ n / geo.inodes = ap (λ m. n / m) c.inodes_a_group.ensures.count in
    record {
      all = c.in_ok-add.ensures.groups ∙ i.all;
      grown = grow_more geo c.args.numbers.now c.loop-number.number-index n c.args.self.now old new refl c.loop-number-test.true i.all i.grown
          (subst (λ g. g < length old → numbers_at new g ≡ numbers_at old g ++ n ∷ []) same c.in_ok-add.ensures.own)
          (subst (λ k. (g : ℕ) → (g ≡ k → ⊥) → numbers_at new g ≡ numbers_at old g) same c.in_ok-add.ensures.others);
    }
