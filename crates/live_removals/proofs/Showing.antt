-- What the kept blocks say of an inode is what users see of it.
use Rattle.std.proofs.Common.{◌≡◌, ◌<◌, ◌≤◌, ◌-◌, ℕ, Bool, List, [], ◌∷◌, refl, ap, ap₂, ◌∙◌, subst}
use Rattle.std.specs.Prelude.{IfOk, OnOk, Result, Ok, Err, unwrap_or}
use Rattle.std.proofs.lemmas.Bool.{cond-true}
use Rattle.model.specs.Cells.{SetInode}
use Rattle.model.specs.Layout.{is_data_address}
use Rattle.model.specs.View.{Inode, View}
use Rattle.machine.specs.Effects.{with_links}
use Rattle.ordering.specs.Cuts.{Block, Cell}
use Rattle.plans_data.specs.Append.{sized}
use Rattle.plans_data.specs.Freeing.{freeing}
use Rattle.plans_naming.specs.Unlink.{lowered}
use Rattle.frozen.specs.Kept.{Kept, KeepsMetadata, frozen_view, kept_bytes}
use Rattle.metadata.specs.Shown.{Shows}
use Rattle.metadata.proofs.ShownLemmas.{shows_metadata}
use Rattle.live_states.specs.Drafts.{Draft, GoesOn}
use Rattle.live_plans.proofs.DraftLemmas.{goes_as}
use Rattle.live_plans.proofs.FoundLemmas.{same_claim}
use Rattle.live_states.specs.Holdings.{Holdings, is_kept_by}
use Rattle.live_removals.specs.Blocks.{freed, gone, held_back, is_loose}
use Rattle.live_removals.specs.Links.{Goes, LosesLinks, Stays}
use Rattle.live_removals.proofs.Clearing.{gone_same}

-- what is kept shows itself
pub shows_itself : (kept : Kept) → Shows kept (frozen_view kept)
shows_itself kept = record {
  inode = λ i. refl;
  number_marked = λ i. refl;
  block_marked = λ a. refl;
  bytes = λ a b t e. cond-true (is_data_address kept.geometry a) (kept_bytes kept.blocks a) [] t ∙ ap (λ o. unwrap_or o []) e;
}

pub lowers : (n fewer block : ℕ) (x y : Inode) (after : List Cell) (old new : Draft) → x ≡ y → after ≡ Block block ∷ []
    → GoesOn old new (λ q. record { change = SetInode n (with_links x (x.links - fewer)); after = after } ∷ q) → GoesOn old new (lowered n y fewer block)
lowers n fewer block x y after old new same cells goes =
    goes_as old new _ _ (λ q. ap₂ (λ (i : Inode) (cs : List Cell). record { change = SetInode n (with_links i (i.links - fewer)); after = cs } ∷ q) same cells) goes

-- what goes is the same to each view that the kept blocks show
pub gone_shown : (kept : Kept) (view : View) → KeepsMetadata kept → Shows kept view → (which : ℕ → Bool) (f : Kept) → f ≡ kept → (n left : ℕ) → gone which f.geometry (frozen_view f) n left ≡ gone which kept.geometry view n left
gone_shown kept view keeps shows which f same n left =
    ap (λ (k : Kept). gone which k.geometry (frozen_view k) n left) same
    ∙ gone_same which kept.geometry (frozen_view kept) view n left (same_claim kept.geometry (frozen_view kept) view (shows_metadata kept view keeps shows) n)

module _ (kept : Kept) (view : View) (shows : Shows kept view) (holdings : Holdings) (n fewer block : ℕ) (old new : Draft) (holds : List ℕ) where
  pub stays : (x : Inode) → x ≡ (frozen_view kept).inode n → fewer < x.links → GoesOn old new (lowered n ((frozen_view kept).inode n) fewer block) → holds ≡ []
      → LosesLinks kept.geometry view holdings n fewer block old new holds
  stays x is more goes none =
      Stays (subst (λ (i : Inode). fewer < i.links) (is ∙ shows.inode n) more) (subst (λ (i : Inode). GoesOn old new (lowered n i fewer block)) (shows.inode n) goes) none

  pub goes : KeepsMetadata kept → (f : Kept) → f ≡ kept → (x : Inode) → x ≡ (frozen_view kept).inode n → x.links ≤ fewer → (after : List Cell) → after ≡ Block block ∷ []
      → GoesOn old new (freeing n (freed f.geometry (frozen_view f) holdings n 0) after) → holds ≡ held_back f.geometry (frozen_view f) holdings n 0 → LosesLinks kept.geometry view holdings n fewer block old new holds
  goes keeps f same x is few after cells frees held =
      Goes (subst (λ (i : Inode). i.links ≤ fewer) (is ∙ shows.inode n) few)
      (subst (λ bs. GoesOn old new (freeing n bs (Block block ∷ []))) (gone_shown kept view keeps shows (is_loose holdings) f same n 0)
      (subst (λ (cs : List Cell). GoesOn old new (freeing n (freed f.geometry (frozen_view f) holdings n 0) cs)) cells frees))
      (held ∙ gone_shown kept view keeps shows (is_kept_by holdings) f same n 0)

pub resizes : (n size : ℕ) (x y : Inode) (after : List Cell) (old new : Draft) → x ≡ y → after ≡ [] → GoesOn old new (λ q. record { change = SetInode n (sized x size); after = after } ∷ q)
    → GoesOn old new (λ q. record { change = SetInode n (sized y size); after = [] } ∷ q)
resizes n size x y after old new same cells goes =
    goes_as old new _ _ (λ q. ap₂ (λ (i : Inode) (cs : List Cell). record { change = SetInode n (sized i size); after = cs } ∷ q) same cells) goes

-- what is said of both where there is a value
pub with_both : {A E : Type 0} (r : Result A E) (P : Type 0) (Q R : A → Type 0) → OnOk r P → IfOk r Q → ((x : A) → P → Q x → R x) → IfOk r R
with_both (Ok x) P Q R p q f = f x p q
with_both (Err e) P Q R p q f = tt
