-- What leaves a file as it was, or frees it.
use Rattle.std.proofs.Common.{◌≡◌, ◌/◌, ℕ, Bool, false, not, ◌&&◌, eqb, List, [], ◌∷◌, ◌⊎◌, inl, inr, refl, sym, ap, ◌∙◌, subst, IsTrue, IsFalse}
use Rattle.std.specs.Prelude.{unwrap_or}
use Rattle.std.proofs.lemmas.Bool.{cases_eq, cases_Bool, both_ways, cond-true, cond-false}
use Rattle.model.specs.Layout.{Geometry}
use Rattle.model.specs.View.{View, Inode, free_inode}
use Rattle.model.specs.Cells.{SetInode, SetNumber, SetBytes, updated, updated_all}
use Rattle.model.specs.Uses.{is_directory_at}
use Rattle.model.specs.Slots.{Slot, Absent, slot}
use Rattle.model.specs.Rules.{UsesAreClaims}
use Rattle.model.proofs.SlotLemmas.{slot_content}
use Rattle.model.proofs.UseLemmas.{claim_parts}
use Rattle.model.proofs.Places.{put_here, put_there}
use Rattle.machine.specs.State.{State, is_open}
use Rattle.machine.specs.Cells.{with_slot, with_entry}
use Rattle.machine.specs.Effects.{lets_go, swept, relinked}
use Rattle.machine.proofs.OtherLinks.{other_links, shape, modes, uses}
use Rattle.machine.proofs.SameFiles.{SameFile, same_file, then_file, record_file, block_file}

-- a file is no directory
pub apart_from : (geo : Geometry) (v : View) (j d : ℕ) → IsFalse (is_directory_at geo v j) → IsTrue (is_directory_at geo v d) → j ≡ d → ⊥
apart_from geo v j d file dir e = both_ways (is_directory_at geo v j) file (subst (λ q. IsTrue (is_directory_at geo v q)) (sym e) dir)

-- an inode gets another number of links
pub links_file : (geo : Geometry) (v : View) (i n j : ℕ) → SameFile geo v (other_links geo v i n) j
links_file geo v i n j = record {
  mode = modes geo v i n j;
  size = ap (λ (r : Inode). r.size) (shape geo v i n j);
  uses = uses geo v i n j;
  bytes = λ q a c. refl;
  none = refl;
}

-- a slot of a directory gets other bytes
pub entry_file : (geo : Geometry) (v : View) → UsesAreClaims geo v → (d s : ℕ) (entry : List ℕ) (x : Slot) → (Absent ≡ x → ⊥) → slot geo v d s ≡ x → (j : ℕ) → IsFalse (is_directory_at geo v j) → SameFile geo v (with_entry geo v d s entry) j
entry_file geo v u d s entry x there at j file =
    let c = slot_content geo v d s x there at in
    let claim = claim_parts geo v d (s / 16) c.block c.claimed in
    subst (λ w. SameFile geo v w j) (sym (ap (λ o. updated v (SetBytes (unwrap_or o 0) (with_slot (v.bytes (unwrap_or o 0)) s entry))) c.claimed))
    (block_file geo v c.block (with_slot (v.bytes c.block) s entry) j claim.1 (λ q e. apart_from geo v j d file c.directory (u.once j q d (s / 16) c.block e claim).0))

-- the file shows what it showed, or is the inode i that is freed
abbrev pub StaysBut : Geometry → View → View → ℕ → ℕ → Type 0
StaysBut geo v w i j = SameFile geo v w j ⊎ ((j ≡ i) × ((w.inode j).mode ≡ 0))

-- an inode without links is freed, if it is not open
pub swept_file : (geo : Geometry) (s : State) (i j : ℕ) → StaysBut geo s.view (swept geo s i).view i j
swept_file geo s i j = elim (cases_Bool test) [
  | inl t ↦ subst (λ (x : State). StaysBut geo s.view x.view i j) (sym (cond-true test gone s t)) (elim (cases_eq j i) [
    | inl e ↦ inr (e, ap (λ q. (gone.view.inode q).mode) e ∙ ap (λ (r : Inode). r.mode) (put_here s.view.inode i free_inode))
    | inr d ↦ inl (record_file geo s.view gone.view j (sym (put_there s.view.inode i j free_inode d)) refl)
  ])
  | inr f ↦ subst (λ (x : State). StaysBut geo s.view x.view i j) (sym (cond-false test gone s f)) (inl (same_file geo s.view j))
]
  where
    test : Bool
    test = eqb (s.view.inode i).links 0 && not (is_open s i)

    gone : State
    gone = lets_go geo s i (updated_all s.view (SetInode i free_inode ∷ SetNumber i false ∷ []))

-- so it is after it got another number of links
pub relinked_file : (geo : Geometry) (s : State) (i n j : ℕ) → StaysBut geo s.view (relinked geo s i n).view i j
relinked_file geo s i n j = elim (swept_file geo (record s { view = other_links geo s.view i n }) i j) [
  | inl t ↦ inl (then_file geo s.view (other_links geo s.view i n) (relinked geo s i n).view j (links_file geo s.view i n j) t)
  | inr gone ↦ inr gone
]

-- another file stays
pub other_stays : (geo : Geometry) (v w : View) (i j : ℕ) → (j ≡ i → ⊥) → StaysBut geo v w i j → SameFile geo v w j
other_stays geo v w i j apart (inl s) = s
other_stays geo v w i j apart (inr gone) = absurd (apart gone.0)

-- the file shows what it showed, or is freed
abbrev pub Stays : Geometry → View → View → ℕ → Type 0
Stays geo v w j = SameFile geo v w j ⊎ ((w.inode j).mode ≡ 0)

-- whichever inode may be freed
pub stays_or_gone : (geo : Geometry) (v w : View) (i j : ℕ) → StaysBut geo v w i j → Stays geo v w j
stays_or_gone geo v w i j (inl s) = inl s
stays_or_gone geo v w i j (inr gone) = inr gone.1

-- after a change that leaves it as it was
pub then_stays : (geo : Geometry) (u v w : View) (j : ℕ) → SameFile geo u v j → Stays geo v w j → Stays geo u w j
then_stays geo u v w j s (inl t) = inl (then_file geo u v w j s t)
then_stays geo u v w j s (inr gone) = inr gone
