-- The first cause that refuses a new entry, by the parts of its path.
use Rattle.std.proofs.Common.{◌≡◌, ◌<◌, ◌≤◌, ◌+◌, ◌⊎◌, ℕ, Bool, true, false, not, ◌&&◌, leb, ltb, List, [], ◌∷◌, length, inl, inr, refl, sym, ap, ap₂, ◌∙◌, arith, IsTrue, IsFalse, Option, Some, None, Ok, Err}
use Rattle.std.specs.Prelude.{is_none, unwrap_or}
use Rattle.std.specs.Option.{option_or, option_map_or}
use Rattle.std.specs.Result.{result_err, result_unwrap_or}
use Rattle.std.proofs.lemmas.Bool.{le-leb, lt-leb}
use Rattle.std.proofs.lemmas.Bool.Decides.{nat_tests}
use Rattle.model.specs.Layout.{Geometry, is_number, inode_count, root}
use Rattle.model.specs.View.{View}
use Rattle.model.specs.Uses.{is_directory_at}
use Rattle.frozen.specs.Kept.{Kept, frozen_view}
use Rattle.layout.specs.declared.refusal.Refusal.{Refusal}
use Rattle.layout.specs.declared.refusal.Refusal.TheVariants.{BadName, IsDirectory, IsRoot, NoBlock, NoInode, TooBig, TooManyLinks}
use Rattle.machine.specs.Below.{first_of, when}
use Rattle.machine.specs.Causes.{causes, full, no_number, not_file, refusal_of, too_few, too_many_links}
use Rattle.machine.specs.Command.{Create, Link, Mkdir}
use Rattle.machine.specs.Paths.{parts_of, target, walk}
use Rattle.machine.specs.Room.{blocks_to_enter, has_number, is_full, unmarked_blocks}
use Rattle.machine.specs.State.{State}
use Rattle.machine.proofs.Decisions.{any_same}
use Rattle.machine.proofs.Walks.{not_some}
use Rattle.metadata.specs.Shown.{Shows}
use Rattle.live_places.specs.Chosen.{blocks_needed}
use Rattle.live_creations.specs.Named.{IsFile, IsNewIn, is_there, leading, naming}
use Rattle.live_creations.proofs.Names.{walked_parts}

-- a path with parts is none of "/"
pub some_parts : (ps : List (List ℕ)) → (ps ≡ [] → ⊥) → when (leb (length ps) 0) IsRoot ≡ None
some_parts [] some = absurd (some refl)
some_parts (part ∷ ps) some = let no : leb (length (part ∷ ps)) 0 ≡ false = grind (arith, nat_tests) in ap (λ b. when b IsRoot) no

or_behind : (a b c : Option Refusal) (r : Refusal) → option_or a (option_or b None) ≡ Some r → option_or a (option_or b c) ≡ Some r
or_behind (Some x) b c r e = e
or_behind None (Some x) c r e = e
or_behind None None c r e = not_some r (sym e)

module _ (geo : Geometry) (v : View) where
  -- ---- the name, and then these causes of its directory
  abbrev walking : (ℕ → Option Refusal) → List (List ℕ) → Option Refusal
  walking rest ps = option_or (result_err (walk geo v root ps)) (option_or (is_there geo v ps) (rest (result_unwrap_or (walk geo v root ps) 0)))

  abbrev entering : (ℕ → Option Refusal) → List (List ℕ) → Option Refusal
  entering rest ps = option_or (when (leb (length ps) 0) IsRoot) (walking rest ps)

  abbrev listed : (ℕ → Option Refusal) → Option (List (List ℕ)) → Option Refusal
  listed rest o =
      option_or (when (is_none o) BadName)
      (option_or (when (option_map_or (λ ps. leb (length ps) 0) o false) IsRoot) (walking rest (unwrap_or o [])))

  pub not_walked : (rest : ℕ → Option Refusal) (ps : List (List ℕ)) (r : Refusal) → first_of (naming geo v ps) ≡ Some r → walking rest ps ≡ Some r
  not_walked rest ps r e = or_behind (result_err (walk geo v root ps)) (is_there geo v ps) (rest (result_unwrap_or (walk geo v root ps) 0)) r e

  pub walked : (rest : ℕ → Option Refusal) (ps : List (List ℕ)) (d : ℕ) → IsNewIn geo v ps d → walking rest ps ≡ rest d
  walked rest ps d is =
      ap (λ r. option_or (result_err r) (option_or (is_there geo v ps) (rest (result_unwrap_or r 0)))) is.directory
      ∙ ap (λ o. option_or o (rest d)) is.new

  pub not_named : (rest : ℕ → Option Refusal) (ps : List (List ℕ)) (r : Refusal) → first_of (naming geo v ps) ≡ Some r → entering rest ps ≡ Some r
  unfolding walk
  not_named rest [] r e = e
  not_named rest (part ∷ ps) r e =
      ap (λ o. option_or o (walking rest (part ∷ ps))) (some_parts (part ∷ ps) (λ none. cc)) ∙ not_walked rest (part ∷ ps) r e

  pub named : (rest : ℕ → Option Refusal) (ps : List (List ℕ)) (d : ℕ) → IsNewIn geo v ps d → entering rest ps ≡ rest d
  named rest ps d is = ap (λ o. option_or o (walking rest ps)) (some_parts ps (walked_parts geo v ps d is.directory)) ∙ walked rest ps d is

  -- ---- the place
  abbrev placing : ℕ → ℕ → Option Refusal
  placing d need = option_or (full geo v d) (option_or (too_few geo v need) None)

  refuses_place : (d need : ℕ) (r : Refusal) → ((r ≡ TooBig) × IsTrue (is_full geo v d)) ⊎ ((r ≡ NoBlock) × IsFalse (is_full geo v d) × (unmarked_blocks geo v < need)) → placing d need ≡ Some r
  refuses_place d need r (inl h) = ap (λ b. option_or (when b TooBig) (option_or (too_few geo v need) None)) h.1 ∙ ap Some (sym h.0)
  refuses_place d need r (inr h) =
      let less : ltb (unmarked_blocks geo v) need ≡ true = grind (arith, nat_tests, h.2) in
      ap₂ (λ b c. option_or (when b TooBig) (option_or (when c NoBlock) None)) h.1 less ∙ ap Some (sym h.0)

  finds_place : (d need : ℕ) → IsFalse (is_full geo v d) → need ≤ unmarked_blocks geo v → placing d need ≡ None
  finds_place d need left enough =
      let less : ltb (unmarked_blocks geo v) need ≡ false = grind (arith, nat_tests, enough) in
      ap₂ (λ b c. option_or (when b TooBig) (option_or (when c NoBlock) None)) left less

  none_besides : (d : ℕ) → blocks_needed geo v d false ≡ blocks_to_enter geo v d
  none_besides d = omega arith

  pub no_place : (d : ℕ) (r : Refusal)
      → ((r ≡ TooBig) × IsTrue (is_full geo v d)) ⊎ ((r ≡ NoBlock) × IsFalse (is_full geo v d) × (unmarked_blocks geo v < blocks_needed geo v d false))
      → placing d (blocks_to_enter geo v d) ≡ Some r
  no_place d r h = ap (placing d) (sym (none_besides d)) ∙ refuses_place d (blocks_needed geo v d false) r h

  pub some_place : (d : ℕ) → IsFalse (is_full geo v d) → blocks_needed geo v d false ≤ unmarked_blocks geo v → placing d (blocks_to_enter geo v d) ≡ None
  some_place d left enough = ap (placing d) (sym (none_besides d)) ∙ finds_place d (blocks_needed geo v d false) left enough

  -- ---- of a new file's directory
  abbrev pub file_rest : ℕ → Option Refusal
  file_rest d = option_or (no_number geo v) (placing d (blocks_to_enter geo v d))

  pub no_inode : (d : ℕ) → IsFalse (has_number geo v) → file_rest d ≡ Some NoInode
  no_inode d none = ap (λ b. option_or (when (not b) NoInode) (placing d (blocks_to_enter geo v d))) none

  pub with_number : (d : ℕ) → IsTrue (has_number geo v) → file_rest d ≡ placing d (blocks_to_enter geo v d)
  with_number d some = ap (λ b. option_or (when (not b) NoInode) (placing d (blocks_to_enter geo v d))) some

module _ (geo : Geometry) (old : State) (path words : List ℕ) where
  create_is : refusal_of geo old (Create path words) ≡ listed geo old.view (file_rest geo old.view) (parts_of path)
  unfolding causes
  create_is = refl

  pub create_bad : parts_of path ≡ None → refusal_of geo old (Create path words) ≡ Some BadName
  create_bad none = create_is ∙ ap (listed geo old.view (file_rest geo old.view)) none

  module _ (ps : List (List ℕ)) (is : parts_of path ≡ Some ps) where
    pub create_unnamed : (r : Refusal) → first_of (naming geo old.view ps) ≡ Some r → refusal_of geo old (Create path words) ≡ Some r
    create_unnamed r e = create_is ∙ ap (listed geo old.view (file_rest geo old.view)) is ∙ not_named geo old.view (file_rest geo old.view) ps r e

    pub create_named : (d : ℕ) → IsNewIn geo old.view ps d → refusal_of geo old (Create path words) ≡ file_rest geo old.view d
    create_named d new = create_is ∙ ap (listed geo old.view (file_rest geo old.view)) is ∙ named geo old.view (file_rest geo old.view) ps d new

-- ---- the numbers that users see
pub numbers_there : (kept : Kept) (view : View) → Shows kept view → (b : Bool) → has_number kept.geometry (frozen_view kept) ≡ b → has_number kept.geometry view ≡ b
numbers_there kept view shows b e =
    sym (any_same (inode_count kept.geometry) _ _ (λ k below. ap (λ t. is_number kept.geometry k && not t) (shows.number_marked k))) ∙ e

-- ---- of a file's other name
module _ (geo : Geometry) (v : View) where
  abbrev pub other_rest : ℕ → ℕ → Option Refusal
  other_rest i d = option_or (too_many_links v i) (placing geo v d (blocks_to_enter geo v d))

  pub many_links : (i d : ℕ) → 32767 ≤ (v.inode i).links → other_rest i d ≡ Some TooManyLinks
  many_links i d many = ap (λ b. option_or (when b TooManyLinks) (placing geo v d (blocks_to_enter geo v d))) (le-leb 32767 (v.inode i).links many)

  pub few_links : (i d : ℕ) → (v.inode i).links < 32767 → other_rest i d ≡ placing geo v d (blocks_to_enter geo v d)
  few_links i d few = ap (λ b. option_or (when b TooManyLinks) (placing geo v d (blocks_to_enter geo v d))) (lt-leb 32767 (v.inode i).links few)

  -- what the first path leads to, and then the second one
  abbrev led : List (List ℕ) → Option Refusal → Option Refusal
  led ps rest = option_or (result_err (target geo v ps)) (option_or (not_file geo v (result_unwrap_or (target geo v ps) 0)) rest)

  abbrev both : Option (List (List ℕ)) → Option (List (List ℕ)) → Option Refusal
  both o u =
      option_or (when (is_none o) BadName) (option_or (when (is_none u) BadName)
      (option_or (when (option_map_or (λ ps. leb (length ps) 0) u false) IsRoot)
      (led (unwrap_or o []) (walking geo v (other_rest (result_unwrap_or (target geo v (unwrap_or o [])) 0)) (unwrap_or u [])))))

  pub of_file : (ps : List (List ℕ)) (i : ℕ) (rest : ℕ → Option Refusal) → IsFile geo v ps i → led ps (rest (result_unwrap_or (target geo v ps) 0)) ≡ rest i
  of_file ps i rest is =
      ap (λ t. option_or (result_err t) (option_or (not_file geo v (result_unwrap_or t 0)) (rest (result_unwrap_or t 0)))) is.leads
      ∙ ap (λ o. option_or o (rest i)) is.file

module _ (geo : Geometry) (old : State) (path other : List ℕ) where
  link_is : refusal_of geo old (Link path other) ≡ both geo old.view (parts_of path) (parts_of other)
  unfolding causes
  link_is = refl

  pub link_bad : parts_of path ≡ None → refusal_of geo old (Link path other) ≡ Some BadName
  link_bad none = link_is ∙ ap (λ o. both geo old.view o (parts_of other)) none

  module _ (ps : List (List ℕ)) (is : parts_of path ≡ Some ps) where
    pub link_bad_other : parts_of other ≡ None → refusal_of geo old (Link path other) ≡ Some BadName
    link_bad_other none = link_is ∙ ap₂ (λ o u. both geo old.view o u) is none

    module _ (qs : List (List ℕ)) (it : parts_of other ≡ Some qs) where
      link_parts : refusal_of geo old (Link path other)
          ≡ option_or (when (leb (length qs) 0) IsRoot) (led geo old.view ps (walking geo old.view (other_rest geo old.view (result_unwrap_or (target geo old.view ps) 0)) qs))
      link_parts = link_is ∙ ap₂ (λ o u. both geo old.view o u) is it

      pub link_root : qs ≡ [] → refusal_of geo old (Link path other) ≡ Some IsRoot
      link_root none = link_parts ∙ ap (λ (rs : List (List ℕ)). option_or (when (leb (length rs) 0) IsRoot) (led geo old.view ps (walking geo old.view (other_rest geo old.view (result_unwrap_or (target geo old.view ps) 0)) qs))) none

      module _ (some : qs ≡ [] → ⊥) where
        link_below : refusal_of geo old (Link path other) ≡ led geo old.view ps (walking geo old.view (other_rest geo old.view (result_unwrap_or (target geo old.view ps) 0)) qs)
        link_below =
            link_parts
            ∙ ap (λ o. option_or o (led geo old.view ps (walking geo old.view (other_rest geo old.view (result_unwrap_or (target geo old.view ps) 0)) qs))) (some_parts qs some)

        pub link_no_file : (r : Refusal) → first_of (leading geo old.view ps) ≡ Some r → refusal_of geo old (Link path other) ≡ Some r
        link_no_file r e = link_below ∙ or_behind (result_err (target geo old.view ps)) (not_file geo old.view (result_unwrap_or (target geo old.view ps) 0)) (walking geo old.view (other_rest geo old.view (result_unwrap_or (target geo old.view ps) 0)) qs) r e

        module _ (i : ℕ) (file : IsFile geo old.view ps i) where
          link_file : refusal_of geo old (Link path other) ≡ walking geo old.view (other_rest geo old.view i) qs
          link_file = link_below ∙ of_file geo old.view ps i (λ n. walking geo old.view (other_rest geo old.view n) qs) file

          pub link_unnamed : (r : Refusal) → first_of (naming geo old.view qs) ≡ Some r → refusal_of geo old (Link path other) ≡ Some r
          link_unnamed r e = link_file ∙ not_walked geo old.view (other_rest geo old.view i) qs r e

          pub link_named : (d : ℕ) → IsNewIn geo old.view qs d → refusal_of geo old (Link path other) ≡ other_rest geo old.view i d
          link_named d new = link_file ∙ walked geo old.view (other_rest geo old.view i) qs d new

-- ---- what a path leads to
module _ (geo : Geometry) (v : View) (ps : List (List ℕ)) where
  pub leads_nowhere : (r : Refusal) → target geo v ps ≡ Err r → first_of (leading geo v ps) ≡ Some r
  leads_nowhere r e = ap (λ t. option_or (result_err t) (option_or (not_file geo v (result_unwrap_or t 0)) None)) e

  pub no_file : (i : ℕ) → target geo v ps ≡ Ok i → is_directory_at geo v i ≡ true → first_of (leading geo v ps) ≡ Some IsDirectory
  no_file i e directory =
      ap (λ t. option_or (result_err t) (option_or (not_file geo v (result_unwrap_or t 0)) None)) e ∙ ap (λ b. option_or (when b IsDirectory) None) directory

  pub is_file : (i : ℕ) → target geo v ps ≡ Ok i → is_directory_at geo v i ≡ false → IsFile geo v ps i
  is_file i e file = record { leads = e; file = ap (λ b. when b IsDirectory) file }

-- ---- of a new directory
module _ (geo : Geometry) (v : View) where
  abbrev pub directory_rest : ℕ → Option Refusal
  directory_rest d = option_or (too_many_links v d) (option_or (no_number geo v) (placing geo v d (1 + blocks_to_enter geo v d)))

  pub parent_many : (d : ℕ) → 32767 ≤ (v.inode d).links → directory_rest d ≡ Some TooManyLinks
  parent_many d many = ap (λ b. option_or (when b TooManyLinks) (option_or (no_number geo v) (placing geo v d (1 + blocks_to_enter geo v d)))) (le-leb 32767 (v.inode d).links many)

  module _ (d : ℕ) (few : (v.inode d).links < 32767) where
    parent_few : directory_rest d ≡ option_or (no_number geo v) (placing geo v d (1 + blocks_to_enter geo v d))
    parent_few = ap (λ b. option_or (when b TooManyLinks) (option_or (no_number geo v) (placing geo v d (1 + blocks_to_enter geo v d)))) (lt-leb 32767 (v.inode d).links few)

    pub parent_no_inode : IsFalse (has_number geo v) → directory_rest d ≡ Some NoInode
    parent_no_inode none = parent_few ∙ ap (λ b. option_or (when (not b) NoInode) (placing geo v d (1 + blocks_to_enter geo v d))) none

    module _ (some : IsTrue (has_number geo v)) where
      parent_number : directory_rest d ≡ placing geo v d (1 + blocks_to_enter geo v d)
      parent_number = parent_few ∙ ap (λ b. option_or (when (not b) NoInode) (placing geo v d (1 + blocks_to_enter geo v d))) some

      one_besides : blocks_needed geo v d true ≡ 1 + blocks_to_enter geo v d
      one_besides = omega arith

      pub parent_no_place : (r : Refusal)
          → ((r ≡ TooBig) × IsTrue (is_full geo v d)) ⊎ ((r ≡ NoBlock) × IsFalse (is_full geo v d) × (unmarked_blocks geo v < blocks_needed geo v d true))
          → directory_rest d ≡ Some r
      parent_no_place r h = parent_number ∙ ap (placing geo v d) (sym one_besides) ∙ refuses_place geo v d (blocks_needed geo v d true) r h

      pub parent_place : IsFalse (is_full geo v d) → blocks_needed geo v d true ≤ unmarked_blocks geo v → directory_rest d ≡ None
      parent_place left enough = parent_number ∙ ap (placing geo v d) (sym one_besides) ∙ finds_place geo v d (blocks_needed geo v d true) left enough

module _ (geo : Geometry) (old : State) (path words : List ℕ) where
  mkdir_is : refusal_of geo old (Mkdir path words) ≡ listed geo old.view (directory_rest geo old.view) (parts_of path)
  unfolding causes
  mkdir_is = refl

  pub mkdir_bad : parts_of path ≡ None → refusal_of geo old (Mkdir path words) ≡ Some BadName
  mkdir_bad none = mkdir_is ∙ ap (listed geo old.view (directory_rest geo old.view)) none

  module _ (ps : List (List ℕ)) (is : parts_of path ≡ Some ps) where
    pub mkdir_unnamed : (r : Refusal) → first_of (naming geo old.view ps) ≡ Some r → refusal_of geo old (Mkdir path words) ≡ Some r
    mkdir_unnamed r e = mkdir_is ∙ ap (listed geo old.view (directory_rest geo old.view)) is ∙ not_named geo old.view (directory_rest geo old.view) ps r e

    pub mkdir_named : (d : ℕ) → IsNewIn geo old.view ps d → refusal_of geo old (Mkdir path words) ≡ directory_rest geo old.view d
    mkdir_named d new = mkdir_is ∙ ap (listed geo old.view (directory_rest geo old.view)) is ∙ named geo old.view (directory_rest geo old.view) ps d new
