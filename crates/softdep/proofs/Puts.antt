-- What changes that are put into a block one after the other make of it.
use Rattle.std.proofs.Common.{◌≡◌, ℕ, List, [], ◌∷◌, inl, inr, sym, ap, ◌∙◌, subst, Contains}
use Rattle.std.proofs.lemmas.Bool.{cases_eq}
use mathlib.Core.Path.{fun_ext}
use Rattle.model.specs.Layout.{Geometry, group_block}
use Rattle.model.specs.Image.{IsGroupBlock}
use Rattle.model.specs.View.{View, view_of}
use Rattle.model.specs.Cells.{put_at, updated}
use Rattle.model.proofs.Places.{put_here, put_there}
use Rattle.ordering.specs.Cuts.{cell_of}
use Rattle.queue_model.specs.Blocks.{home_of}
use Rattle.queue_model.specs.Entries.{Entry, view_after}
use Rattle.queue_model.proofs.Lists.{contains_head, contains_tail}
use Rattle.power_cut.specs.Taking.{Turns}
use Rattle.updates.specs.Alone.{IsPutAll}
use Rattle.softdep_queue.specs.Taking.{changes_of}

put_again : {A : Type 0} (f : ℕ → A) (n : ℕ) (x y : A) → put_at (put_at f n x) n y ≡ put_at f n y
put_again f n x y = fun_ext (λ m. elim (cases_eq m n) [
  | inl e ↦ ap (put_at (put_at f n x) n y) e ∙ put_here (put_at f n x) n y ∙ sym (ap (put_at f n y) e ∙ put_here f n y)
  | inr d ↦ put_there (put_at f n x) n m y d ∙ put_there f n m x d ∙ sym (put_there f n m y d)
])

turns_nothing : (geo : Geometry) (a : ℕ) (block : List ℕ) → Turns geo a block block (λ v. v)
turns_nothing geo a block blocks is = ap (view_of geo) (fun_ext (λ k. elim (cases_eq k a) [
  | inl e ↦ ap (put_at blocks a block) e ∙ put_here blocks a block ∙ sym (ap blocks e ∙ is)
  | inr d ↦ put_there blocks a k block d
]))

turns_more : (geo : Geometry) (a : ℕ) (first old new : List ℕ) (f g : View → View) → Turns geo a first old f → Turns geo a old new g → Turns geo a first new (λ v. g (f v))
turns_more geo a first old new f g one two blocks is =
    ap (view_of geo) (sym (put_again blocks a old new)) ∙ two (put_at blocks a old) (put_here blocks a old) ∙ ap g (one blocks is)

-- all of these entries are of a block
abbrev pub AreOf : Geometry → ℕ → List Entry → Type 0
AreOf geo a es = (e : Entry) → Contains es e → home_of geo (cell_of e.change) ≡ a

pub later_of : (geo : Geometry) (a : ℕ) (e : Entry) (es : List Entry) → AreOf geo a (e ∷ es) → AreOf geo a es
later_of geo a e es own x m = own x (contains_tail e x es m)

module _ (geo : Geometry) (a : ℕ) where
  pub turned : (es : List Entry) (old new : List ℕ) → AreOf geo a es → IsPutAll geo (changes_of es) old new → Turns geo a old new (λ v. view_after v es)
  turned [] old new own put = subst (λ b. Turns geo a old b (λ v. v)) (sym put) (turns_nothing geo a old)
  turned (e ∷ es) old new own put =
      turns_more geo a old put.0 new (λ v. view_after v es) (λ v. updated v e.change) (turned es old put.0 (later_of geo a e es own) put.1)
      (subst (λ k. Turns geo k put.0 new (λ v. updated v e.change)) (own e (contains_head e es)) put.2.view)

  -- a block of maps stays the one of its group
  pub group_block_stays : (es : List Entry) (old new : List ℕ) → AreOf geo a es → IsPutAll geo (changes_of es) old new → (g : ℕ) → a ≡ group_block geo g → IsGroupBlock g old → IsGroupBlock g new
  group_block_stays [] old new own put g at is = subst (IsGroupBlock g) (sym put) is
  group_block_stays (e ∷ es) old new own put g at is =
      put.2.group_block g (own e (contains_head e es) ∙ at) (group_block_stays es old put.0 (later_of geo a e es own) put.1 g at is)
