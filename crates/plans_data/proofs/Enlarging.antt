-- A record gets a larger size over the same blocks, where the size grows.
use Rattle.std.proofs.Common.{◌≡◌, ℕ, ◌≤◌, eqb, ltb, List, ◌∷◌, inl, inr, sym, ap, ◌∙◌, subst, IsTrue, arith, ltb-false}
use mathlib.Core.Path.{fun_ext}
use Rattle.std.proofs.lemmas.Bool.{cases_Bool, cond-true, cond-false, cases_eq, eq-eqb, ne_eqb}
use Rattle.model.specs.Layout.{Geometry}
use Rattle.model.specs.View.{View, Inode}
use Rattle.model.specs.Cells.{SetInode, updated, put_at}
use Rattle.model.specs.Uses.{is_sound, blocks_of}
use Rattle.ordering.specs.Cuts.{Cell, Pending, users_view}
use Rattle.ordering.specs.Ghosts.{Ghost}
use Rattle.ordering.specs.Histories.{Raises}
use Rattle.plans_data.specs.Append.{sized}
use Rattle.plans_data.specs.Write.{enlarged}
use Rattle.plans_data.proofs.Chains.{Goes, step}
use Rattle.plans_data.proofs.Numbers.{still_sound}

-- what stands there already changes nothing
pub put_own : {A : Type 0} (f : ℕ → A) (n : ℕ) (x : A) → f n ≡ x → put_at f n x ≡ f
put_own {A = A} f n x e = fun_ext (λ m. elim (cases_eq m n) [
  | inl same ↦ cond-true (eqb m n) x (f m) (eq-eqb m n same) ∙ sym e ∙ ap f (sym same)
  | inr other ↦ cond-false (eqb m n) x (f m) (ne_eqb m n other)
])

pub enlarged_view : (disk : View) (p : List Pending) (n : ℕ) (old : Inode) (size : ℕ) (after : List Cell) → (users_view disk p).inode n ≡ old → old.size ≤ size
    → users_view disk (enlarged n old size after p) ≡ updated (users_view disk p) (SetInode n (sized old size))
enlarged_view disk p n old size after was more = elim (cases_Bool (ltb old.size size)) [
  | inl grows ↦ ap (users_view disk) (cond-true (ltb old.size size) (record { change = SetInode n (sized old size); after = after } ∷ p) p grows)
  | inr stays ↦
      let same : old.size ≡ size = omega (arith, more, ltb-false old.size size stays) in
      ap (users_view disk) (cond-false (ltb old.size size) (record { change = SetInode n (sized old size); after = after } ∷ p) p stays)
      ∙ ap (λ f. record (users_view disk p) { inode = f }) (sym (put_own (users_view disk p).inode n (sized old size) (was ∙ ap (sized old) same)))
]

pub enlarge : (geo : Geometry) (disk : View) (q : List Pending) (ghost : Ghost) (p : List Pending) (g : Ghost) (n : ℕ) (old : Inode) (size : ℕ) (after : List Cell) → (users_view disk p).inode n ≡ old
    → IsTrue (is_sound geo old) → old.mode ≡ 1 → blocks_of old.size ≡ blocks_of size → Goes geo disk q ghost p g → Goes geo disk q ghost (enlarged n old size after p) g
enlarge geo disk q ghost p g n old size after was sound one blocks goes = elim (cases_Bool (ltb old.size size)) [
  | inr stays ↦ subst (λ l. Goes geo disk q ghost l g) (sym (cond-false (ltb old.size size) (u ∷ p) p stays)) goes
  | inl grows ↦ subst (λ l. Goes geo disk q ghost l g) (sym (cond-true (ltb old.size size) (u ∷ p) p grows))
      (step geo disk q ghost p g u g goes (Raises after n (sized old size) (record {
        body = record {
          sound = ap (is_sound geo) was ∙ sound;
          still_sound = still_sound geo old (sized old size) one one (sym blocks) sound;
          mode = ap (λ (x : Inode). x.mode) was;
          blocks = ap (λ (x : Inode). blocks_of x.size) was ∙ blocks;
          direct = ap (λ (x : Inode). x.direct) was;
          indirect = ap (λ (x : Inode). x.indirect) was;
          double = ap (λ (x : Inode). x.double) was;
        };
        links = omega (arith, ap (λ (x : Inode). x.links) was);
      })))
]
  where
    u : Pending
    u = record { change = SetInode n (sized old size); after = after }
