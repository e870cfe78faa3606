-- An inode that is freed, as the machine says it.
use Rattle.std.proofs.Common.{◌≡◌, ℕ, Bool, true, false, not, ◌&&◌, ◌||◌, cond, eqb, List, [], ◌∷◌, refl, sym, ap, ◌∙◌, IsFalse, eq-eqb, None}
use mathlib.Core.Path.{fun_ext}
use Rattle.std.proofs.lemmas.Bool.{and_from, cond-true}
use Rattle.model.specs.Layout.{Geometry, is_number}
use Rattle.model.specs.View.{View, Inode, free_inode}
use Rattle.model.specs.Cells.{SetInode, SetNumber, updated, updated_all, put_at}
use Rattle.model.specs.Uses.{record_use}
use Rattle.model.proofs.Steps.{use_at_is}
use Rattle.model.proofs.NewRecord.{record_uses}
use Rattle.model.proofs.Places.{put_here}
use Rattle.machine.specs.State.{State, is_kept, is_open}
use Rattle.machine.specs.Cells.{claims}
use Rattle.machine.specs.Effects.{lets_go, swept, relinked, with_links}
use Rattle.ordering.specs.Cuts.{Cell, Pending, users_view}
use Rattle.ordering.specs.Ghosts.{Gone}
use Rattle.ordering.specs.Agrees.{AllAgree}
use Rattle.machine.proofs.Records.{links_uses}
use Rattle.plans_data.specs.Now.{now, becomes}
use Rattle.plans_data.specs.Freeing.{held_with, within, freeing, MayFreeing}
use Rattle.plans_data.proofs.Freeing.{freeing_lets_go}
use Rattle.plans_data.proofs.LetsGo.{same_claims}

pub put_over : {A : Type 0} (f : ℕ → A) (n : ℕ) (x y : A) → put_at (put_at f n x) n y ≡ put_at f n y
put_over {A = A} f n x y = fun_ext (λ m. either (eqb m n) (f m))
  where
    either : (b : Bool) (z : A) → cond b y (cond b x z) ≡ cond b y z
    either true z = refl
    either false z = refl

-- what an inode claims does not hang on its links
pub claims_links : (geo : Geometry) (v : View) (n links a : ℕ) → claims geo (updated v (SetInode n (with_links (v.inode n) links))) n a ≡ claims geo v n a
claims_links geo v n links a = same_claims geo (updated v (SetInode n (with_links (v.inode n) links))) v n a (λ k.
    record_uses geo v n (with_links (v.inode n) links) n k
    ∙ ap (λ x. cond (is_number geo n) (record_use geo v x k) None) (put_here v.inode n (with_links (v.inode n) links))
    ∙ ap (λ o. cond (is_number geo n) o None) (links_uses geo v (v.inode n) links k)
    ∙ sym (use_at_is geo v n k))

-- the machine frees an inode of no links that is not open
pub swept_away : (geo : Geometry) (old : State) (n : ℕ) → (old.view.inode n).links ≡ 0 → IsFalse (is_open old n)
    → swept geo old n ≡ lets_go geo old n (updated_all old.view (SetInode n free_inode ∷ SetNumber n false ∷ []))
swept_away geo old n none shut = cond-true (eqb (old.view.inode n).links 0 && not (is_open old n)) _ _ (and_from (eqb (old.view.inode n).links 0) (not (is_open old n)) (eq-eqb (old.view.inode n).links 0 none) (ap not shut))

-- and any inode that it takes all links of
pub relinked_away : (geo : Geometry) (old : State) (n : ℕ) → IsFalse (is_open old n)
    → relinked geo old n 0 ≡ lets_go geo old n (updated_all old.view (SetInode n free_inode ∷ SetNumber n false ∷ []))
relinked_away geo old n shut =
    swept_away geo s1 n (ap (λ (x : Inode). x.links) (put_here old.view.inode n (with_links (old.view.inode n) 0))) shut
    ∙ ap (λ f. record old {
      view = record old.view { inode = f; number_marked = put_at old.view.number_marked n false; block_marked = λ a. old.view.block_marked a && not (claims geo s1.view n a && not (claims geo (gone1 f) n a) && not (is_kept old a)) };
      held = λ a. old.held a || claims geo s1.view n a && not (claims geo (gone1 f) n a) && is_kept old a;
    }) (put_over old.view.inode n (with_links (old.view.inode n) 0) free_inode)
    ∙ ap (λ g. record old {
      view = record old.view { inode = put_at old.view.inode n free_inode; number_marked = put_at old.view.number_marked n false; block_marked = λ a. old.view.block_marked a && not (g a && not (claims geo (gone1 (put_at old.view.inode n free_inode)) n a) && not (is_kept old a)) };
      held = λ a. old.held a || g a && not (claims geo (gone1 (put_at old.view.inode n free_inode)) n a) && is_kept old a;
    }) (fun_ext (claims_links geo old.view n 0))
  where
    s1 : State
    s1 = record old { view = updated old.view (SetInode n (with_links (old.view.inode n) 0)) }

    gone1 : (ℕ → Inode) → View
    gone1 f = record old.view { inode = f; number_marked = put_at old.view.number_marked n false }

module _ (geo : Geometry) (disk : View) (q : List Pending) (old : State) (gone : Gone → Bool) (safe : ℕ → Bool) (n : ℕ) (blocks : List ℕ) (after : List Cell)
    (may : MayFreeing geo (now disk q old) gone n blocks after) (all : AllAgree geo disk q (within old.held gone safe)) (shut : IsFalse (is_open old n)) where
  pub freeing_swept : ((users_view disk q).inode n).links ≡ 0 → becomes disk (freeing n blocks after q) (held_with geo (now disk q old) n free_inode) old ≡ swept geo (now disk q old) n
  freeing_swept none = freeing_lets_go geo disk q old gone safe n blocks after may all ∙ sym (swept_away geo (now disk q old) n none shut)

  pub freeing_relinked : becomes disk (freeing n blocks after q) (held_with geo (now disk q old) n free_inode) old ≡ relinked geo (now disk q old) n 0
  freeing_relinked = freeing_lets_go geo disk q old gone safe n blocks after may all ∙ sym (relinked_away geo (now disk q old) n shut)
