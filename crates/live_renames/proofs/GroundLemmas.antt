-- The grounds of a directory, as they are gathered part after part.
use Rattle.std.proofs.Common.{◌≡◌, ◌<◌, ◌+◌, ◌/◌, ◌++◌, ◌⊎◌, ℕ, zero, suc, List, [], ◌∷◌, inl, inr, refl, sym, ap, ◌∙◌, subst, arith, IsTrue, Option, Some, None, Result, Ok, Err, Contains, All, map}
use Rattle.std.specs.Option.{option_map}
use Rattle.std.proofs.lemmas.Bool.{cases_lt, leb-true}
use Rattle.std.proofs.lemmas.List.Elements.{All-contains, All-contains_itself, All-push, All-weaker, Contains-append_left, Contains-push, Contains-push_cases}
use Rattle.std.proofs.lemmas.List.{map-append}
use Rattle.updates.specs.declared.cell.Cell as program
use Rattle.updates.specs.declared.cell.Cell.TheVariants as variants
use Rattle.updates.specs.Values.{cell}
use Rattle.model.specs.Layout.{Geometry, is_number, root}
use Rattle.model.specs.View.{View}
use Rattle.model.specs.Shape.{is_table, most_blocks, tables}
use Rattle.model.specs.Uses.{IsClaim, blocks_of, claim_at, is_directory_at}
use Rattle.model.specs.Slots.{Good, slot, number_in}
use Rattle.model.specs.Reach.{Path}
use Rattle.model.proofs.Same.{SameFacts, same_facts}
use Rattle.model.proofs.SlotLemmas.{chosen, slot_content, slot_stands}
use Rattle.model.proofs.Ranges.{table_below}
use Rattle.model.proofs.UseLemmas.{claim_from, claim_parts}
use Rattle.ordering.specs.Cuts.{Cell, Record, Block}
use Rattle.ordering.specs.OneSlot.{AreGrounds, ArePointersKnown, IsKnown}
use Rattle.frozen.specs.Kept.{Kept, KeepsMetadata, frozen_view}
use Rattle.layout.specs.declared.refusal.Refusal.{Refusal}
use Rattle.layout.specs.declared.refusal.Refusal.TheVariants.{NotDirectory, NotFound, IsRoot}
use Rattle.machine.specs.Paths.{is_part, last_part, lookup, slot_of, walk}
use Rattle.machine.proofs.Walks.{part_behind, slot_fits}
use Rattle.metadata.specs.Shown.{Shows}
use Rattle.metadata.proofs.ShownLemmas.{shows_metadata}
use Rattle.plans_naming.specs.Move.{HasGrounds}
use Rattle.courses.specs.After.{AreGroundsWith, IsBlockAt, IsGround, IsOfDirectory}
use Rattle.updates.specs.Places.{IsCell}
use Rattle.live_plans.specs.Found.{IsFoundAt}
use Rattle.live_plans.specs.declared.locating.Found.{Found}
use Rattle.live_renames.specs.Gathered.{Gathers, HasDirectory, IsGrounded}

not_some : {P : Type 0} (x : ℕ) → Some x ≡ None → P
not_some x e = absurd cc

pub some_same : (x y : ℕ) → Some x ≡ Some y → x ≡ y
some_same x y e = cc

not_ok : {P : Type 0} (r : Refusal) (x : ℕ) → Err r ≡ Ok x → P
not_ok r x e = absurd cc

-- ---- cells
module _ (geo : Geometry) where
  pub gathers_none : (cells : List Cell) → Gathers geo cells cells
  gathers_none cells = record { kept = λ c k. k; cells = λ all. all }

  pub gathers_both : (a b c : List Cell) → Gathers geo a b → Gathers geo b c → Gathers geo a c
  gathers_both a b c g h = record { kept = λ x k. h.kept x (g.kept x k); cells = λ all. h.cells (g.cells all) }

  -- one cell more
  module _ (xs ys : List program.Cell) (x : program.Cell) (is : ys ≡ xs ++ x ∷ []) where
    pushed_is : map cell ys ≡ map cell xs ++ cell x ∷ []
    pushed_is = ap (map cell) is ∙ map-append cell xs (x ∷ [])

    pub holds_pushed : Contains (map cell ys) (cell x)
    holds_pushed = subst (λ zs. Contains zs (cell x)) (sym pushed_is) (Contains-push (map cell xs) (cell x))

    pub pushed : IsCell geo (cell x) → Gathers geo (map cell xs) (map cell ys)
    pushed good = record {
      kept = λ c k. subst (λ zs. Contains zs c) (sym pushed_is) (Contains-append_left (map cell xs) (cell x ∷ []) c k);
      cells = λ all. subst (All (IsCell geo)) (sym pushed_is) (All-push (IsCell geo) (map cell xs) (cell x) all good);
    }

    -- and no other came
    pub one_pushed : (c : Cell) → Contains (map cell ys) c → Contains (map cell xs) c ⊎ (cell x ≡ c)
    one_pushed c m = Contains-push_cases (map cell xs) (cell x) c (subst (λ zs. Contains zs c) pushed_is m)

    -- what holds of the cells before and of that one holds of all
    pub all_pushed : (P : Cell → Type 0) → All P (map cell xs) → P (cell x) → All P (map cell ys)
    all_pushed P all good = subst (All P) (sym pushed_is) (All-push P (map cell xs) (cell x) all good)

-- ---- more cells
module _ (geo : Geometry) (v : View) (old new : List Cell) (kept : (c : Cell) → Contains old c → Contains new c) where
  known_more : (block : ℕ) (c : Cell) → IsKnown old block c → IsKnown new block c
  known_more block c (inl k) = inl (kept c k)
  known_more block c (inr e) = inr e

  pointers_more : (block d : ℕ) → ArePointersKnown geo v old block d → ArePointersKnown geo v new block d
  pointers_more block d known = λ m x table claim. known_more block (Block x) (known m x table claim)

  pub grounds_more : (block n d : ℕ) (p : Path geo v n d) → AreGrounds geo v old block n d p → AreGrounds geo v new block n d p
  grounds_more block zero d p g = (known_more block (Record root) g.0, pointers_more block root g.1)
  grounds_more block (suc n) d p g =
      (grounds_more block n p.0 p.2 g.0, known_more block (Record d) g.1, pointers_more block d g.2, (λ b claim. known_more block (Block b) (g.3 b claim)))

-- ---- one directory
module _ (geo : Geometry) (v : View) where
  pub root_grounded : (first after : List Cell) → IsTrue (is_directory_at geo v root) → HasDirectory geo v root after → All (λ c. Contains first c ⊎ IsOfDirectory geo v root c) after → IsGrounded geo v root first after
  root_grounded first after dir has only = record { steps = 0; path = (refl, dir); needs = λ block. (inl has.record_first, has.pointers block); only = only }

  -- these cells were there, or are of directory e, or are the block in which its name stands
  abbrev pub IsNext : List Cell → ℕ → ℕ → Cell → Type 0
  IsNext old e b c = (Contains old c ⊎ (Block b ≡ c)) ⊎ IsOfDirectory geo v e c

  -- and then they are first ones or grounds of e, where those before were so of the directory that names it
  before : (first : List Cell) (steps e : ℕ) (p : Path geo v (suc steps) e) (c : Cell) → Contains first c ⊎ IsGround geo v c steps p.0 p.2 → Contains first c ⊎ IsGround geo v c (suc steps) e p
  before first steps e p c (inl m) = inl m
  before first steps e p c (inr g) = inr (inl g)

  next : (first old : List Cell) (steps e b : ℕ) (p : Path geo v (suc steps) e) → All (λ x. Contains first x ⊎ IsGround geo v x steps p.0 p.2) old → IsClaim geo v p.0 (p.1 / 16) b
      → (c : Cell) → IsNext old e b c → Contains first c ⊎ IsGround geo v c (suc steps) e p
  next first old steps e b p only claim c (inl (inl m)) = before first steps e p c (All-contains (λ x. Contains first x ⊎ IsGround geo v x steps p.0 p.2) old c only m)
  next first old steps e b p only claim c (inl (inr same)) = inr (inr (inr (b, claim, sym same)))
  next first old steps e b p only claim c (inr own) = inr (inr (inl own))

  pub next_grounded : (first old after : List Cell) (d s e b : ℕ) (name : List ℕ) → IsGrounded geo v d first old → ((c : Cell) → Contains old c → Contains after c) → IsTrue (is_part name) → slot geo v d s ≡ Good e name
      → IsTrue (is_directory_at geo v e) → HasDirectory geo v e after → claim_at geo v d (s / 16) ≡ Some b → Contains after (Block b) → All (IsNext old e b) after → IsGrounded geo v e first after
  next_grounded first old after d s e b name h kept part good dir has claim known only =
      let way : Path geo v (suc h.steps) e = (d, s, h.path, part_behind s name part (slot_fits geo v d s e name good), (name, good), dir) in
      record {
        steps = suc h.steps;
        path = way;
        needs = λ block. (
          grounds_more geo v old after kept block h.steps d h.path (h.needs block),
          inl has.record_first,
          has.pointers block,
          (λ a claims. inl (subst (λ z. Contains after (Block z)) (some_same b a (sym claim ∙ claim_from geo v d (s / 16) a claims)) known)),
        );
        only = All-weaker (IsNext old e b) (λ c. Contains first c ⊎ IsGround geo v c (suc h.steps) e way) (next first old h.steps e b way h.only (claim_parts geo v d (s / 16) b claim)) after only;
      }

  -- ---- a walk, part after part
  abbrev on : List (List ℕ) → Option ℕ → Result ℕ Refusal
  on parts o = elim o [ None ↦ Err NotFound | Some i ↦ walk geo v i parts ]

  pub walk_directory : (parts : List (List ℕ)) (d e : ℕ) → walk geo v d parts ≡ Ok e → IsTrue (is_directory_at geo v d)
  unfolding walk
  walk_directory [] d e way = not_ok IsRoot e way
  walk_directory (part ∷ []) d e way = elim (chosen (is_directory_at geo v d) (Ok d) (Err NotDirectory) (Ok e) way) [ inl h ↦ h.0 | inr h ↦ not_ok NotDirectory e h.1 ]
  walk_directory (part ∷ next ∷ parts) d e way =
      elim (chosen (is_directory_at geo v d) (on (next ∷ parts) (lookup geo v d part)) (Err NotDirectory) (Ok e) way) [ inl h ↦ h.0 | inr h ↦ not_ok NotDirectory e h.1 ]

  abbrev found : ℕ → Result ℕ Refusal
  found x = Ok x

  same_found : (x y : ℕ) → found x ≡ found y → x ≡ y
  same_found x y e = cc

  pub walk_end : (part : List ℕ) (d e : ℕ) → walk geo v d (part ∷ []) ≡ Ok e → d ≡ e
  unfolding walk
  walk_end part d e way = elim (chosen (is_directory_at geo v d) (Ok d) (Err NotDirectory) (Ok e) way) [ inl h ↦ same_found d e h.1 | inr h ↦ not_ok NotDirectory e h.1 ]

  goes_on : (parts : List (List ℕ)) (e : ℕ) (o : Option ℕ) → on parts o ≡ Ok e → (i : ℕ) × (o ≡ Some i) × (walk geo v i parts ≡ Ok e)
  goes_on parts e None way = not_ok NotFound e way
  goes_on parts e (Some i) way = (i, refl, way)

  pub walk_step : (part next : List ℕ) (parts : List (List ℕ)) (d e : ℕ) → walk geo v d (part ∷ next ∷ parts) ≡ Ok e → (i : ℕ) × (lookup geo v d part ≡ Some i) × (walk geo v i (next ∷ parts) ≡ Ok e)
  unfolding walk
  walk_step part next parts d e way = elim (chosen (is_directory_at geo v d) (on (next ∷ parts) (lookup geo v d part)) (Err NotDirectory) (Ok e) way) [
    | inl h ↦ goes_on (next ∷ parts) e (lookup geo v d part) h.1
    | inr h ↦ not_ok NotDirectory e h.1
  ]

  pub walk_into : (parts : List (List ℕ)) (d e : ℕ) → walk geo v d parts ≡ Ok e → IsTrue (is_directory_at geo v e)
  unfolding walk
  walk_into [] d e way = not_ok IsRoot e way
  walk_into (part ∷ []) d e way = elim (chosen (is_directory_at geo v d) (Ok d) (Err NotDirectory) (Ok e) way) [
    | inl h ↦ subst (λ i. IsTrue (is_directory_at geo v i)) (same_found d e h.1) h.0
    | inr h ↦ not_ok NotDirectory e h.1
  ]
  walk_into (part ∷ next ∷ parts) d e way = elim (chosen (is_directory_at geo v d) (on (next ∷ parts) (lookup geo v d part)) (Err NotDirectory) (Ok e) way) [
    | inl h ↦ let more = goes_on (next ∷ parts) e (lookup geo v d part) h.1 in walk_into (next ∷ parts) more.0 e more.2
    | inr h ↦ not_ok NotDirectory e h.1
  ]

  -- what stands in the first slot of a name is what the name stands for
  pub lookup_at : (d s i : ℕ) (name : List ℕ) → slot_of geo v d name ≡ Some s → slot geo v d s ≡ Good i name → lookup geo v d name ≡ Some i
  unfolding lookup
  lookup_at d s i name first good = ap (option_map (λ t. number_in (slot geo v d t))) first ∙ ap (λ x. Some (number_in x)) good

  pub lookup_none : (d i : ℕ) (name : List ℕ) → slot_of geo v d name ≡ None → lookup geo v d name ≡ Some i → ⊥
  unfolding lookup
  lookup_none d i name none some = not_some i (sym some ∙ ap (option_map (λ t. number_in (slot geo v d t))) none)

  pub named_directory : (d i j : ℕ) (name : List ℕ) → lookup geo v d name ≡ Some i → lookup geo v d name ≡ Some j → IsTrue (is_directory_at geo v i) → IsTrue (is_directory_at geo v j)
  named_directory d i j name e f dir = subst (λ n. IsTrue (is_directory_at geo v n)) (some_same i j (sym e ∙ f)) dir

  -- no walk without parts leads anywhere
  pub walk_none : (parts : List (List ℕ)) (d e : ℕ) → parts ≡ [] → walk geo v d parts ≡ Ok e → ⊥
  unfolding walk
  walk_none [] d e none way = not_ok IsRoot e way
  walk_none (part ∷ parts) d e none way = cc

  pub slot_claimed : (d s i : ℕ) (name : List ℕ) → slot geo v d s ≡ Good i name → claim_at geo v d (s / 16) ≡ None → ⊥
  slot_claimed d s i name good none = let at = slot_content geo v d s (Good i name) (λ e. cc) good in not_some at.block (sym at.claimed ∙ none)

  -- ---- the last directory
  pointers_last : (after : List Cell) (block n d : ℕ) (p : Path geo v n d) → AreGrounds geo v after block n d p → ArePointersKnown geo v after block d
  pointers_last after block zero d p g = subst (λ e. ArePointersKnown geo v after block e) (sym p.0) g.1
  pointers_last after block (suc n) d p g = g.2

  pub pointers_of : (after : List Cell) (block d : ℕ) → HasGrounds geo v d block after → ArePointersKnown geo v after block d
  pointers_of after block d h = pointers_last after block h.steps d h.path h.grounds

-- ---- the tables of a directory
-- The record is among these cells, and so are the tables that the directory claims at positions below this one; no others came.
pub record HasTables (geo : Geometry) (v : View) (d : ℕ) (old new : List Cell) (end : ℕ) : Type 0 where
  pub gathers : Gathers geo old new
  pub record_first : Contains new (Record d)
  pub tables : (m x : ℕ) → IsTrue (is_table geo m) → m < end → IsClaim geo v d m x → Contains new (Block x)
  pub only : All (λ c. Contains old c ⊎ IsOfDirectory geo v d c) new

module _ (geo : Geometry) (v : View) (d : ℕ) (xs : List program.Cell) where
  abbrev IsThere : Cell → Type 0
  IsThere c = Contains (map cell xs) c ⊎ IsOfDirectory geo v d c

  pub record_alone : (ys : List program.Cell) → IsTrue (is_number geo d) → ys ≡ xs ++ variants.Record d ∷ [] → HasTables geo v d (map cell xs) (map cell ys) (most_blocks geo)
  record_alone ys number is = record {
    gathers = pushed geo xs ys (variants.Record d) is number;
    record_first = holds_pushed geo xs ys (variants.Record d) is;
    tables = λ m x table low claim. absurd (let high = leb-true (most_blocks geo) m table in omega (arith, low, high));
    only = all_pushed geo xs ys (variants.Record d) is IsThere (All-weaker (Contains (map cell xs)) IsThere (λ c m. inl m) (map cell xs) (All-contains_itself (map cell xs))) (inr (inl refl));
  }

  -- a position more, where nothing is claimed
  pub no_table_more : (ys : List program.Cell) (m : ℕ) → claim_at geo v d m ≡ None → HasTables geo v d (map cell xs) (map cell ys) m → HasTables geo v d (map cell xs) (map cell ys) (m + 1)
  no_table_more ys m none has = record {
    gathers = has.gathers;
    record_first = has.record_first;
    tables = λ l x table low claim. elim (cases_lt l m) [
      | inl less ↦ has.tables l x table less claim
      | inr more ↦ not_some x (sym (claim_from geo v d m x (subst (λ k. IsClaim geo v d k x) (omega (arith, low, more)) claim)) ∙ none)
    ];
    only = has.only;
  }

  -- or a table
  pub table_more : (ys zs : List program.Cell) (m x : ℕ) → IsTrue (is_table geo m) → claim_at geo v d m ≡ Some x → zs ≡ ys ++ variants.Block x ∷ [] → HasTables geo v d (map cell xs) (map cell ys) m
      → HasTables geo v d (map cell xs) (map cell zs) (m + 1)
  table_more ys zs m x table at is has =
      let own = claim_parts geo v d m x at in
      let more = pushed geo ys zs (variants.Block x) is own.1 in record {
        gathers = gathers_both geo (map cell xs) (map cell ys) (map cell zs) has.gathers more;
        record_first = more.kept (Record d) has.record_first;
        tables = λ l y t low claim. elim (cases_lt l m) [
          | inl less ↦ more.kept (Block y) (has.tables l y t less claim)
          | inr past ↦ subst (λ b. Contains (map cell zs) (Block b)) (some_same x y (sym at ∙ claim_from geo v d m y (subst (λ k. IsClaim geo v d k y) (omega (arith, low, past)) claim))) (holds_pushed geo ys zs (variants.Block x) is)
        ];
        only = all_pushed geo ys zs (variants.Block x) is IsThere has.only (inr (inr (m, table, (x, own, refl))));
      }

  -- all tables
  pub all_tables : (new : List Cell) → HasTables geo v d (map cell xs) new (most_blocks geo + tables (blocks_of (v.inode d).size)) → HasDirectory geo v d new
  all_tables new has = record { record_first = has.record_first; pointers = λ block m x table claim. inl (has.tables m x table (table_below geo v d m x table claim.0) claim) }

-- a block, and behind it what is of a directory
pub only_next : (geo : Geometry) (v : View) (xs ys : List program.Cell) (e b : ℕ) (new : List Cell) → ys ≡ xs ++ variants.Block b ∷ [] → All (λ c. Contains (map cell ys) c ⊎ IsOfDirectory geo v e c) new
    → All (IsNext geo v (map cell xs) e b) new
only_next geo v xs ys e b new is all = All-weaker (λ c. Contains (map cell ys) c ⊎ IsOfDirectory geo v e c) (IsNext geo v (map cell xs) e b) there new all
  where
    there : (c : Cell) → Contains (map cell ys) c ⊎ IsOfDirectory geo v e c → IsNext geo v (map cell xs) e b c
    there c (inl m) = inl (one_pushed geo xs ys (variants.Block b) is c m)
    there c (inr own) = inr own

-- ---- the entry that was found
module _ (geo : Geometry) (v : View) (ps : List (List ℕ)) (found : Found) (is : IsFoundAt geo v ps found) where
  pub found_directory : IsTrue (is_directory_at geo v found.directory)
  found_directory = (slot_content geo v found.directory found.slot (Good found.number (last_part ps)) (λ e. cc) is.entry).directory

  pub found_claim : IsClaim geo v found.directory (found.slot / 16) found.block
  found_claim = claim_parts geo v found.directory (found.slot / 16) found.block is.block

  pub found_number : IsTrue (is_number geo found.number)
  found_number = (slot_stands geo v found.directory found.slot found.number (last_part ps) is.entry).number

-- ---- in each view that is shown
module _ (kept : Kept) (view : View) (keeps : KeepsMetadata kept) (shows : Shows kept view) where
  facts : SameFacts kept.geometry (frozen_view kept) view
  facts = same_facts kept.geometry (frozen_view kept) view (shows_metadata kept view keeps shows)

  directory_there : (e : ℕ) → IsTrue (is_directory_at kept.geometry (frozen_view kept) e) → IsTrue (is_directory_at kept.geometry view e)
  directory_there e t = sym (facts.directory_at e) ∙ t

  path_there : (n d : ℕ) → Path kept.geometry (frozen_view kept) n d → Path kept.geometry view n d
  path_there zero d p = (p.0, directory_there root p.1)
  path_there (suc n) d p = (p.0, p.1, path_there n p.0 p.2, p.3, (p.4.0, sym (facts.slots p.0 p.1) ∙ p.4.1), directory_there d p.5)

  module _ (after : List Cell) (block : ℕ) where
    pointers_there : (d : ℕ) → ArePointersKnown kept.geometry (frozen_view kept) after block d → ArePointersKnown kept.geometry view after block d
    pointers_there d known = λ m x table claim. known m x table (facts.uses d m ∙ claim.0, claim.1)

    grounds_there : (n d : ℕ) (p : Path kept.geometry (frozen_view kept) n d) → AreGrounds kept.geometry (frozen_view kept) after block n d p → AreGrounds kept.geometry view after block n d (path_there n d p)
    unfolding path_there
    grounds_there zero d p g = (g.0, pointers_there root g.1)
    grounds_there (suc n) d p g = (grounds_there n p.0 p.2 g.0, g.1, pointers_there d g.2, (λ b claim. g.3 b (facts.uses p.0 (p.1 / 16) ∙ claim.0, claim.1)))

  -- and no others
  block_there : (d k : ℕ) (c : Cell) → IsBlockAt kept.geometry (frozen_view kept) d k c → IsBlockAt kept.geometry view d k c
  block_there d k c h = (h.0, (sym (facts.uses d k) ∙ h.1.0, h.1.1), h.2)

  of_directory_there : (d : ℕ) (c : Cell) → IsOfDirectory kept.geometry (frozen_view kept) d c → IsOfDirectory kept.geometry view d c
  of_directory_there d c (inl is) = inl is
  of_directory_there d c (inr h) = inr (h.0, h.1, block_there d h.0 c h.2)

  ground_there : (c : Cell) (n d : ℕ) (p : Path kept.geometry (frozen_view kept) n d) → IsGround kept.geometry (frozen_view kept) c n d p → IsGround kept.geometry view c n d (path_there n d p)
  unfolding path_there
  ground_there c zero d p g = of_directory_there root c g
  ground_there c (suc n) d p (inl g) = inl (ground_there c n p.0 p.2 g)
  ground_there c (suc n) d p (inr (inl g)) = inr (inl (of_directory_there d c g))
  ground_there c (suc n) d p (inr (inr g)) = inr (inr (block_there p.0 (p.1 / 16) c g))

  pub grounds_with_there : (is_new : Cell → Type 0) (first after : List Cell) (d block : ℕ) → All is_new first → IsGrounded kept.geometry (frozen_view kept) d first after → AreGroundsWith kept.geometry view d block is_new after
  grounds_with_there is_new first after d block new h = record {
    needs = record { steps = h.steps; path = path_there h.steps d h.path; grounds = grounds_there after block h.steps d h.path (h.needs block) };
    only = All-weaker (λ c. Contains first c ⊎ IsGround kept.geometry (frozen_view kept) c h.steps d h.path) (λ c. is_new c ⊎ IsGround kept.geometry view c h.steps d (path_there h.steps d h.path)) there after h.only;
  }
    where
      there : (c : Cell) → Contains first c ⊎ IsGround kept.geometry (frozen_view kept) c h.steps d h.path → is_new c ⊎ IsGround kept.geometry view c h.steps d (path_there h.steps d h.path)
      there c (inl m) = inl (All-contains is_new first c new m)
      there c (inr g) = inr (ground_there c h.steps d h.path g)
