-- Updates that leave the blocks of files, and what these hold, as they are, but for exceptions.
use Rattle.std.proofs.Common.{◌≡◌, ℕ, zero, suc, ◌≤◌, Bool, true, false, List, ◌∷◌, ◌⊎◌, inl, inr, refl, sym, ap, ◌∙◌, subst, Some, IsTrue, IsFalse, length, arith}
use Rattle.std.proofs.lemmas.Bool.{cases_eq}
use Rattle.model.specs.Layout.{Geometry}
use Rattle.model.specs.View.{View, Inode}
use Rattle.model.specs.Cells.{Update, SetInode, updated, put_at}
use Rattle.model.specs.Uses.{IsClaim, record_use}
use Rattle.model.proofs.Steps.{use_sound}
use Rattle.model.proofs.Uses.{use_number, number_use, record_uses_agree, same_fields}
use Rattle.model.proofs.NewRecord.{other_use, other_mode}
use Rattle.model.proofs.Places.{put_here, put_there}
use Rattle.ordering.specs.Cuts.{Pending, users_view}
use Rattle.ordering.specs.Ghosts.{Ghost}
use Rattle.ordering.specs.Histories.{Step}
use Rattle.machine.specs.Effects.{with_links}
use Rattle.plans_data.specs.Issues.{Issues, Nothing, Then}
use Rattle.queue_model.specs.Files.{Written, updates, creates, generation, IsFileBlock}
use Rattle.queue_model.proofs.FileLemmas.{generation_stays, in_use}
use Rattle.queue_model.proofs.HoldLemmas.{HeldSince, UsersHold}
use Rattle.courses.specs.Leads.{Named, Before, More}
use Rattle.courses.proofs.Chains.{chain_adds, named_adds}
use Rattle.courses.proofs.Fits.{Fewer, number_fewer, bit_fewer, bytes_fewer, step_fewer}
use Rattle.courses.proofs.Walks.{Kind, Number, Bit, Calm, NoFiles, Own, Last, Fits, Start, On, fits_adds}

-- Each block of a file after the update was one before and holds what it held, or is an exception.
abbrev pub Keeps : Geometry → (ℕ → ℕ → List ℕ → Type 0) → View → Update → Type 0
Keeps geo X v u = (n k b : ℕ) → IsFileBlock geo (updated v u) n k b → (IsFileBlock geo v n k b × ((updated v u).bytes b ≡ v.bytes b)) ⊎ X n k ((updated v u).bytes b)

-- there is no exception
abbrev pub Nowhere : ℕ → ℕ → List ℕ → Type 0
Nowhere n k bytes = ⊥

-- Each of these updates does so, and none creates the record of an exception's file.
pub data Firm (geo : Geometry) (X : ℕ → ℕ → List ℕ → Type 0) (disk : View) (q : List Pending) : List Pending → Type 0 where
  Begin : Firm geo X disk q q
  Further : {p : List Pending} (u : Pending) → Firm geo X disk q p → Keeps geo X (users_view disk p) u.change → ((n k : ℕ) (bytes : List ℕ) → X n k bytes → IsFalse (creates (users_view disk p) u.change n)) → Firm geo X disk q (u ∷ p)

-- such updates add
pub firm_adds : (geo : Geometry) (X : ℕ → ℕ → List ℕ → Type 0) (disk : View) (q p : List Pending) → Firm geo X disk q p → length q ≤ length p
firm_adds geo X disk q p Begin = omega (arith)
firm_adds geo X disk q p (Further {p = p'} u firm keeps old) = let less = firm_adds geo X disk q p' firm in omega (arith, less)

-- ---- what is true of them stays so

-- one update more
pub held_more : (geo : Geometry) (mounted : View) (P : ℕ → ℕ → ℕ → List ℕ → Type 0) (h h' : List Written) (w : Written) → UsersHold geo mounted P (w ∷ h') → HeldSince geo mounted P h h' → HeldSince geo mounted P h (w ∷ h')
held_more geo mounted P h h' w users held zero l = users
held_more geo mounted P h h' w users held (suc m) l = held m (omega (arith, l))

module _ (geo : Geometry) (mounted : View) (P : ℕ → ℕ → ℕ → List ℕ → Type 0) (X : ℕ → ℕ → List ℕ → Type 0) (file : ℕ) (disk : View) (h before : List Written) (users : UsersHold geo mounted P before) (held : HeldSince geo mounted P h before)
    (right : (n k : ℕ) (bytes : List ℕ) → X n k bytes → P n (generation mounted before n) k bytes) where
  -- what was true before is true after each of these updates, and an exception's file is the one that it was
  pub record HeldTo (p : List Pending) (h' : List Written) : Type 0 where
    pub users_hold : UsersHold geo mounted P h'
    pub since : HeldSince geo mounted P h h'
    pub same : users_view mounted (updates h') ≡ users_view disk p
    pub generations : (n k : ℕ) (bytes : List ℕ) → X n k bytes → generation mounted h' n ≡ generation mounted before n

  one_more : (p : List Pending) (h' : List Written) (u : Pending) → HeldTo p h' → Keeps geo X (users_view disk p) u.change → ((n k : ℕ) (bytes : List ℕ) → X n k bytes → IsFalse (creates (users_view disk p) u.change n))
      → HeldTo (u ∷ p) (record { update = u; file = file } ∷ h')
  one_more p h' u r keeps old = record {
    users_hold = here;
    since = held_more geo mounted P h h' (record { update = u; file = file }) here r.since;
    same = ap (λ v. updated v u.change) r.same;
    generations = λ n k bytes x. stays n k bytes x ∙ r.generations n k bytes x;
  }
    where
      stays : (n k : ℕ) (bytes : List ℕ) → X n k bytes → generation mounted (record { update = u; file = file } ∷ h') n ≡ generation mounted h' n
      stays n k bytes x = generation_stays mounted h' (record { update = u; file = file }) n (subst (λ v. IsFalse (creates v u.change n)) (sym r.same) (old n k bytes x))

      here : UsersHold geo mounted P (record { update = u; file = file } ∷ h')
      here n k b f = elim (subst (λ v. Keeps geo X v u.change) (sym r.same) keeps n k b f) [
        | inl was ↦
            let one = was.0.2 in
            let same = generation_stays mounted h' (record { update = u; file = file }) n (in_use (users_view mounted (updates h')) u.change n (λ z. omega (arith, one, z))) in
            subst (λ g. P n g k ((updated (users_view mounted (updates h')) u.change).bytes b)) (sym same) (subst (λ bytes. P n (generation mounted h' n) k bytes) (sym was.1) (r.users_hold n k b was.0))
        | inr x ↦
            subst (λ g. P n g k ((updated (users_view mounted (updates h')) u.change).bytes b)) (sym (stays n k _ x ∙ r.generations n k _ x)) (right n k _ x)
      ]

  pub firm_holds : (q start : List Pending) → length q ≡ length start → users_view mounted (updates before) ≡ users_view disk q → (h' : List Written) (p : List Pending) → Named geo mounted file before start h' p → Firm geo X disk q p → HeldTo p h'
  firm_holds q start many same h' p Before Begin = record { users_hold = users; since = held; same = same; generations = λ n k bytes x. refl }
  firm_holds q start many same h' p Before (Further {p = p'} u firm keeps old) = let less = firm_adds geo X disk q p' firm in absurd (omega (arith, less, many))
  firm_holds q start many same h' p (More {h' = h''} {p = p'} u named names) Begin = let less = named_adds geo mounted file before start h'' p' named in absurd (omega (arith, less, many))
  firm_holds q start many same h' p (More {h' = h''} {p = p'} u named names) (Further v firm keeps old) = one_more p' h'' u (firm_holds q start many same h'' p' named firm) keeps old

-- ---- plans that give no file a block

record CalmStep (geo : Geometry) (start v : View) (u : Update) (calm : Bool) : Type 0 where
  calm_before : IsTrue calm
  keeps : Fewer geo start v → Fewer geo v (updated v u) × ((n k b : ℕ) → IsClaim geo v n k b → (v.inode n).mode ≡ 1 → (updated v u).bytes b ≡ v.bytes b)

calm_step : (geo : Geometry) (start : View) (file : ℕ) (disk : View) (p : List Pending) (ws ws' : List ℕ) (calm calm' : Bool) (u : Pending) (ghost next : Ghost) → Step geo disk p ghost u next → Kind geo start file disk p ws calm u calm' ws' → IsTrue calm'
    → CalmStep geo start (users_view disk p) u.change calm
calm_step geo start file disk p ws ws' calm calm' u ghost next step (Number n x after) t = record { calm_before = t; keeps = λ f. (number_fewer geo (users_view disk p) n x, λ m k b c one. refl) }
calm_step geo start file disk p ws ws' calm calm' u ghost next step (Bit a x after) t = record { calm_before = t; keeps = λ f. (bit_fewer geo (users_view disk p) a x, λ m k b c one. refl) }
calm_step geo start file disk p ws ws' calm calm' u ghost next step (Calm n x after none) t = record { calm_before = refl; keeps = λ f. (step_fewer geo disk p ghost u next step none, λ m k b c one. refl) }
calm_step geo start file disk p ws ws' calm calm' u ghost next step (NoFiles a bytes after none) t = record {
  calm_before = refl;
  keeps = λ f.
      let v = users_view disk p in
      let here = λ (n k : ℕ) (c : IsClaim geo v n k a) (one : (v.inode n).mode ≡ 1). let r = f n k a c one in none n k r.0 r.1 in
      (bytes_fewer geo v a bytes here, λ n k b c one. put_there v.bytes a b bytes (λ e. here n k (subst (λ y. IsClaim geo v n k y) e c) one));
}
calm_step geo start file disk p ws ws' calm calm' u ghost next step (Own a bytes after own of) t = absurd (let bad : false ≡ true = t in cc)
calm_step geo start file disk p ws ws' calm calm' u ghost next step (Last x after used of) t = absurd (let bad : false ≡ true = t in cc)

record Calmly (geo : Geometry) (disk : View) (q start p : List Pending) : Type 0 where
  firm : Firm geo Nowhere disk q p
  fewer : Fewer geo (users_view disk start) (users_view disk p)

calm_firm : (geo : Geometry) (disk : View) (file : ℕ) (q start : List Pending) → length q ≡ length start → (ghost : Ghost) (p : List Pending) (g : Ghost) → Issues geo disk q ghost p g → (calm : Bool) (ws : List ℕ) → Fits geo disk file start calm ws p → IsTrue calm
    → Calmly geo disk q start p
calm_firm geo disk file q start many ghost p g Nothing calm ws Start t = record { firm = Begin; fewer = λ n k b c one. (c, one) }
calm_firm geo disk file q start many ghost p g Nothing calm ws (On {calm = calm0} {ws = ws0} {p = p'} u fits kind) t = let less = fits_adds geo disk file start calm0 ws0 p' fits in absurd (omega (arith, less, many))
calm_firm geo disk file q start many ghost p g (Then {p = p'} {g = o} u next chain step) calm ws Start t = let less = chain_adds geo disk q ghost p' o chain in absurd (omega (arith, less, many))
calm_firm geo disk file q start many ghost p g (Then {p = p'} {g = o} u next chain step) calm ws (On {calm = calm0} {ws = ws0} v fits kind) t =
    let s = calm_step geo (users_view disk start) file disk p' ws0 ws calm0 calm u o g step kind t in
    let r = calm_firm geo disk file q start many ghost p' o chain calm0 ws0 fits s.calm_before in
    let k = s.keeps r.fewer in
    record {
      firm = Further u r.firm (λ n j b (claim, low, one). let was = k.0 n j b claim one in inl ((was.0, low, was.1), k.1 n j b was.0 was.1)) (λ n j bytes x. absurd x);
      fewer = λ n j b claim one. let was = k.0 n j b claim one in r.fewer n j b was.0 was.1;
    }

pub still_firm : (geo : Geometry) (disk : View) (file : ℕ) (q : List Pending) (ghost : Ghost) (p : List Pending) (g : Ghost) → Issues geo disk q ghost p g → (ws : List ℕ) → Fits geo disk file q true ws p → Firm geo Nowhere disk q p
still_firm geo disk file q ghost p g chain ws fits = (calm_firm geo disk file q q refl ghost p g chain true ws fits refl).firm

-- the chain but for its last update
pub but_last : (geo : Geometry) (disk : View) (q : List Pending) (ghost : Ghost) (r : List Pending) (u : Pending) (p : List Pending) (g : Ghost) → r ≡ u ∷ p → length q ≤ length p → Issues geo disk q ghost r g → (o : Ghost) × Issues geo disk q ghost p o
but_last geo disk q ghost r u p g same less Nothing = let long = ap length same in absurd (omega (arith, less, long))
but_last geo disk q ghost r u p g same less (Then {p = p'} {g = o} v next chain step) = (o, subst (λ x. Issues geo disk q ghost x o) (let e : v ∷ p' ≡ u ∷ p = same in let t : p' ≡ p = cc in t) chain)

-- ---- a record with other links

pub links_keep : (geo : Geometry) (v : View) (m links : ℕ) (x : Inode) → x ≡ with_links (v.inode m) links → Keeps geo Nowhere v (SetInode m x)
links_keep geo v m links x same n k b (claim, low, one) = elim (cases_eq n m) [
  | inr other ↦ inl (((other_use geo v m x n k other ∙ claim.0, claim.1), low, other_mode geo v m x n other ∙ one), refl)
  | inl e ↦
      let here : put_at v.inode m x n ≡ with_links (v.inode n) links = ap (put_at v.inode m x) e ∙ put_here v.inode m x ∙ same ∙ ap (λ j. with_links (v.inode j) links) (sym e) in
      let u = use_number geo (updated v (SetInode m x)) n k b claim.0 in
      let used : record_use geo v (with_links (v.inode n) links) k ≡ Some b
      = record_uses_agree geo v (updated v (SetInode m x)) (with_links (v.inode n) links) k (λ t a above w d. refl) ∙ ap (λ y. record_use geo (updated v (SetInode m x)) y k) (sym here) ∙ u.1 in
      let sound = use_sound geo v (with_links (v.inode n) links) k b used in
      inl (
        (
          (number_use geo v n k b u.0 (sym (same_fields geo v (with_links (v.inode n) links) (v.inode n) sound sound refl (λ j. refl) k) ∙ used), claim.1),
          low,
          sym (ap (λ (y : Inode). y.mode) here) ∙ one,
        ),
        refl,
      )
]
