-- What users see and what a read finds, while writes wait in the cache.
use Rattle.std.proofs.Common.{◌≡◌, ℕ, ◌<◌, Bool, true, false, eqb, List, [], ◌∷◌, inl, inr, refl, sym, ap, ◌∙◌, subst, length, eq-eqb}
use Rattle.std.proofs.lemmas.Bool.{cases_Bool, cond-true}
use Rattle.model.specs.View.{View}
use Rattle.model.specs.Cells.{Update, SetInode, SetNumber, SetBlock, SetBytes, updated}
use Rattle.ordering.specs.Cuts.{Cell, Pending, IsClosed, SameAt, cell_of, same_cell, seen, users_view}
use Rattle.ordering.specs.ClosedSets.{pending_at}
use Rattle.ordering.proofs.CutLemmas.{same_cell_eq, same_cell_self, same_skip, same_take, still_fresh}
use Rattle.queue_model.proofs.HistoryLemmas.{none_closed, none_seen}
use Rattle.queue_model.proofs.BlockLemmas.{same_views, turned}
use Rattle.queue_model.proofs.FlushLemmas.{same_self}
use Rattle.power_cut.proofs.Unions.{cell_same}
use Rattle.queue_model.specs.History.{none_of}

-- an update gives its cell what it says
own_cell : (v w : View) (u : Update) → SameAt (updated v u) (updated w u) (cell_of u)
own_cell v w (SetInode n x) = cond-true (eqb n n) x (v.inode n) (eq-eqb n n refl) ∙ sym (cond-true (eqb n n) x (w.inode n) (eq-eqb n n refl))
own_cell v w (SetNumber n x) = cond-true (eqb n n) x (v.number_marked n) (eq-eqb n n refl) ∙ sym (cond-true (eqb n n) x (w.number_marked n) (eq-eqb n n refl))
own_cell v w (SetBlock n x) = cond-true (eqb n n) x (v.block_marked n) (eq-eqb n n refl) ∙ sym (cond-true (eqb n n) x (w.block_marked n) (eq-eqb n n refl))
own_cell v w (SetBytes n x) = cond-true (eqb n n) x (v.bytes n) (eq-eqb n n refl) ∙ sym (cond-true (eqb n n) x (w.bytes n) (eq-eqb n n refl))

users_same : (v w : View) (q : List Pending) (c : Cell) → SameAt v w c → SameAt (users_view v q) (users_view w q) c
users_same v w [] c h = h
users_same v w (u ∷ q) c h =
    same_take (λ d. same_cell d c) (users_view v q) (users_view w q) u.change (λ d t. subst (λ e. SameAt (users_view v q) (users_view w q) e) (sym (same_cell_eq d c t)) (users_same v w q c h)) c (same_cell_self c)

again : (v : View) (q : List Pending) (u : Update) → updated (users_view (updated v u) q) u ≡ updated (users_view v q) u
again v q u = same_views (updated (users_view (updated v u) q) u) (updated (users_view v q) u) (λ c. elim (cases_Bool (same_cell (cell_of u) c)) [
  | inl t ↦ subst (λ d. SameAt (updated (users_view (updated v u) q) u) (updated (users_view v q) u) d) (same_cell_eq (cell_of u) c t) (own_cell (users_view (updated v u) q) (users_view v q) u)
  | inr f ↦
      let other : c ≡ cell_of u → ⊥ = λ e. let bad : false ≡ true = sym f ∙ subst (λ d. same_cell (cell_of u) d ≡ true) (sym e) (same_cell_self (cell_of u)) in cc in
      let before : SameAt (updated v u) v c = turned v (updated v u) c (same_skip (λ d. true) v v u (λ d t. same_self v d) c (still_fresh (λ d. true) (cell_of u) c refl other)) in
      let x = users_view (updated v u) q in
      let y = users_view v q in
      same_take (λ d. same_cell d c) x y u (λ d t. subst (λ e. SameAt x y e) (sym (same_cell_eq d c t)) (users_same (updated v u) v q c before)) c (same_cell_self c)
])

-- what is written, and not durable, may be thought of as pending still: users see the same
pub users_of_written : (durable : View) (q : List Pending) (cut : List Bool) → users_view (seen durable q cut) q ≡ users_view durable q
users_of_written durable [] cut = refl
users_of_written durable (u ∷ q) [] = refl
users_of_written durable (u ∷ q) (false ∷ cut) = ap (λ v. updated v u.change) (users_of_written durable q cut)
users_of_written durable (u ∷ q) (true ∷ cut) = again (seen durable q cut) q u.change ∙ ap (λ v. updated v u.change) (users_of_written durable q cut)

-- a cell with nothing loose is durable
pub cell_durable : (durable : View) (q : List Pending) (cut : List Bool) (c : Cell) → IsClosed q cut → ((k : ℕ) → k < length q → cell_of (pending_at q k).change ≡ c → ⊥) → SameAt (seen durable q cut) durable c
cell_durable durable q cut c k none =
    subst (λ v. SameAt (seen durable q cut) v c) (none_seen durable q) (cell_same durable q cut (none_of q) c k (none_closed q) (λ i b e. absurd (none i b e)))
