-- The steps of requests that look at what is known.
use Rattle.std.proofs.Common.{◌≡◌, ◌≤◌, ◌<◌, ◌^◌, ℕ, Bool, true, false, cond, List, [], ◌∷◌, ◌++◌, ◌||◌, not, eq-eqb, length, Option, Some, None, Result, Ok, Err, option_map, bit_and, refl, sym, ap, ap₂, ◌∙◌}
use Rattle.std.proofs.lemmas.Bool.{le-leb, le-ltb, lt-leb, lt-ltb, ne_eqb}
use Rattle.std.specs.Prelude.{◌==◌, ◌/◌}
use Rattle.frozen.specs.Kept.{Kept, frozen_view}
use Rattle.fuse_wire.specs.declared.bodies.Body.{Body}
use Rattle.fuse_wire.specs.declared.bodies.Body.TheVariants as bodies
use Rattle.fuse_wire.specs.declared.bodies.Entry.{Entry}
use Rattle.fuse_wire.specs.declared.errors.Errno.{Errno}
use Rattle.fuse_wire.specs.declared.errors.Errno.TheVariants as errors
use Rattle.fuse_wire.specs.declared.numbers.NodeId.{NodeId}
use Rattle.fuse_nodes.specs.Known.{named}
use Rattle.machine.specs.Command as command
use Rattle.fuse_nodes.specs.Table.{Got, Lost, Table, Told as WasTold, found, known, path_of}
use Rattle.fuse_nodes.specs.declared.known.Open.{Open}
use Rattle.fuse_reader.specs.Listings.{listing_from}
use Rattle.fuse_reader.specs.Said as said
use Rattle.fuse_reader.specs.Said.{told}
use Rattle.fuse_writer.specs.declared.session.Session.{Session}
use Rattle.fuse_writer.specs.declared.making.New.{New}
use Rattle.fuse_writer.specs.declared.renaming.Moved.{Moved}
use Rattle.fuse_writer.specs.Ahead.{marks, notes}
use Rattle.fuse_writer.specs.Moves.{IsSoAfter, changes_of}
use Rattle.fuse_writer.specs.Doings.{Change, Doing, MayGoOn, Notes, Says, asks_done, go_on, noted, refuses, says_done, with_memory}
use Rattle.fuse_writer.proofs.DoingLemmas.{goes_memory, goes_no_memory, goes_same, goes_then}
use Rattle.fuse_writer.specs.Requests.{at_directory, at_name, at_node, at_path, closes, crosses, entry_of, gains, if_fits, if_there, is_below_root, is_directory, leading, links, links_at, lists, makes, makes_node, may_make, moved, moves, on_inode, on_path, opens, opens_known, path_in, releases, removes_as, renames, renames_at, renames_to, replaces, tells, where_leads}

module _ (s : Session) (node : NodeId) where
  pub node_known : (i : ℕ) → Some i ≡ found s.nodes node.0 → (next : ℕ → Doing) → at_node s node next ≡ next i
  unfolding at_node
  node_known i e next = ap (λ (o : Option ℕ). on_inode o next) (sym e)

  pub node_stale : None ≡ found s.nodes node.0 → (next : ℕ → Doing) → at_node s node next ≡ refuses errors.Stale
  unfolding at_node
  node_stale e next = ap (λ (o : Option ℕ). on_inode o next) (sym e)

  module _ (kept : Kept) where
    pub directory_known : (d : ℕ) → ((next : ℕ → Doing) → at_node s node next ≡ next d) → is_directory kept d ≡ true → (next : ℕ → Doing) → at_directory kept s node next ≡ next d
    unfolding at_directory
    directory_known d at is next = at _ ∙ ap (λ b. cond b (next d) (refuses errors.NotDirectory)) is

    pub directory_none : (d : ℕ) → ((next : ℕ → Doing) → at_node s node next ≡ next d) → is_directory kept d ≡ false → (next : ℕ → Doing)
        → at_directory kept s node next ≡ refuses errors.NotDirectory
    unfolding at_directory
    directory_none d at is next = at _ ∙ ap (λ b. cond b (next d) (refuses errors.NotDirectory)) is

    pub directory_refused : (e : Errno) → ((next : ℕ → Doing) → at_node s node next ≡ refuses e) → (next : ℕ → Doing) → at_directory kept s node next ≡ refuses e
    unfolding at_directory
    directory_refused e at next = at _

module _ (kept : Kept) (d : ℕ) (name : List ℕ) where
  pub leads_short : length name ≤ 56 → (o : Option ℕ) → o ≡ leading kept d name → (next : Option ℕ → Doing) → where_leads kept d name next ≡ next o
  unfolding where_leads
  leads_short short o e next = ap (λ b. cond b (next (leading kept d name)) (refuses errors.NameTooLong)) (le-leb (length name) 56 short) ∙ ap next (sym e)

  pub leads_long : 56 < length name → (next : Option ℕ → Doing) → where_leads kept d name next ≡ refuses errors.NameTooLong
  unfolding where_leads
  leads_long long next = ap (λ b. cond b (next (leading kept d name)) (refuses errors.NameTooLong)) (lt-leb (length name) 56 long)

  pub name_there : (i : ℕ) → ((next : Option ℕ → Doing) → where_leads kept d name next ≡ next (Some i)) → (next : ℕ → Doing) → at_name kept d name next ≡ next i
  unfolding at_name
  name_there i at next = at (if_there next)

  pub name_missing : ((next : Option ℕ → Doing) → where_leads kept d name next ≡ next None) → (next : ℕ → Doing) → at_name kept d name next ≡ refuses errors.NotFound
  unfolding at_name
  name_missing at next = at (if_there next)

  pub name_refused : (e : Errno) → ((next : Option ℕ → Doing) → where_leads kept d name next ≡ refuses e) → (next : ℕ → Doing) → at_name kept d name next ≡ refuses e
  unfolding at_name
  name_refused e at next = at (if_there next)

-- ---- paths

on_short : (o : Option (List ℕ)) (path : List ℕ) → o ≡ Some path → length path ≤ 4096 → (next : List ℕ → Doing) → on_path o next ≡ next path
on_short o path e short next =
    ap (λ (o : Option (List ℕ)). on_path o next) e ∙ ap (λ b. cond b (next path) (refuses errors.NameTooLong)) (le-leb (length path) 4096 short)

on_long : (o : Option (List ℕ)) (path : List ℕ) → o ≡ Some path → 4096 < length path → (next : List ℕ → Doing) → on_path o next ≡ refuses errors.NameTooLong
on_long o path e long next =
    ap (λ (o : Option (List ℕ)). on_path o next) e ∙ ap (λ b. cond b (next path) (refuses errors.NameTooLong)) (lt-leb (length path) 4096 long)

on_none : (o : Option (List ℕ)) → o ≡ None → (next : List ℕ → Doing) → on_path o next ≡ refuses errors.Stale
on_none o e next = ap (λ (o : Option (List ℕ)). on_path o next) e

module _ (s : Session) (i : ℕ) where
  whole_path : (next : List ℕ → Doing) → at_path s i next ≡ with_memory (on_path (path_of 2048 s.nodes i) next)
  unfolding at_path
  whole_path next = refl

  pub path_known : (path : List ℕ) → path_of 2048 s.nodes i ≡ Some path → length path ≤ 4096 → (next : List ℕ → Doing) → MayGoOn (at_path s i next) (next path)
  path_known path e short next = goes_then (goes_same (whole_path next)) (goes_then goes_memory (goes_same (on_short (path_of 2048 s.nodes i) path e short next)))

  pub path_long : (path : List ℕ) → path_of 2048 s.nodes i ≡ Some path → 4096 < length path → (next : List ℕ → Doing)
      → MayGoOn (at_path s i next) (refuses errors.NameTooLong)
  path_long path e long next = goes_then (goes_same (whole_path next)) (goes_then goes_memory (goes_same (on_long (path_of 2048 s.nodes i) path e long next)))

  pub path_none : path_of 2048 s.nodes i ≡ None → (next : List ℕ → Doing) → MayGoOn (at_path s i next) (refuses errors.Stale)
  path_none e next = goes_then (goes_same (whole_path next)) (goes_then goes_memory (goes_same (on_none (path_of 2048 s.nodes i) e next)))

  pub path_no_memory : (next : List ℕ → Doing) → MayGoOn (at_path s i next) (refuses errors.NoMemory)
  path_no_memory next = goes_then (goes_same (whole_path next)) goes_no_memory

module _ (s : Session) (d : ℕ) (name : List ℕ) where
  abbrev inside : (List ℕ → Doing) → Doing
  inside next = on_path (option_map (λ (path : List ℕ). path ++ 47 ∷ name) (path_of 2048 s.nodes d)) next

  inner : (next : List ℕ → Doing) → length name ≤ 56 → path_in s d name next ≡ with_memory (inside next)
  unfolding path_in
  inner next short = ap (λ b. cond b (with_memory (inside next)) (refuses errors.NameTooLong)) (le-leb (length name) 56 short)

  within : (next : List ℕ → Doing) (doing : Doing) → length name ≤ 56 → inside next ≡ doing → MayGoOn (path_in s d name next) doing
  within next doing short e = goes_then (goes_same (inner next short)) (goes_then goes_memory (goes_same e))

  with_name : (path : List ℕ) → path_of 2048 s.nodes d ≡ Some path → option_map (λ (path : List ℕ). path ++ 47 ∷ name) (path_of 2048 s.nodes d) ≡ Some (path ++ 47 ∷ name)
  with_name path e = ap (option_map (λ (path : List ℕ). path ++ 47 ∷ name)) e

  pub in_known : (path all : List ℕ) → length name ≤ 56 → path_of 2048 s.nodes d ≡ Some path → all ≡ path ++ 47 ∷ name → length all ≤ 4096
      → (next : List ℕ → Doing) → MayGoOn (path_in s d name next) (next all)
  in_known path all name_short e is short next = within next (next all) name_short (on_short _ all (with_name path e ∙ ap (λ (xs : List ℕ). Some xs) (sym is)) short next)

  pub in_long : (path all : List ℕ) → length name ≤ 56 → path_of 2048 s.nodes d ≡ Some path → all ≡ path ++ 47 ∷ name → 4096 < length all
      → (next : List ℕ → Doing) → MayGoOn (path_in s d name next) (refuses errors.NameTooLong)
  in_long path all name_short e is long next =
      within next (refuses errors.NameTooLong) name_short (on_long _ all (with_name path e ∙ ap (λ (xs : List ℕ). Some xs) (sym is)) long next)

  pub in_none : length name ≤ 56 → path_of 2048 s.nodes d ≡ None → (next : List ℕ → Doing) → MayGoOn (path_in s d name next) (refuses errors.Stale)
  in_none name_short e next = within next (refuses errors.Stale) name_short (on_none _ (ap (option_map (λ (path : List ℕ). path ++ 47 ∷ name)) e) next)

  pub in_no_memory : length name ≤ 56 → (next : List ℕ → Doing) → MayGoOn (path_in s d name next) (refuses errors.NoMemory)
  in_no_memory name_short next = goes_then (goes_same (inner next name_short)) goes_no_memory

  too_long : 56 < length name → (next : List ℕ → Doing) → path_in s d name next ≡ refuses errors.NameTooLong
  unfolding path_in
  too_long long next = ap (λ b. cond b (with_memory (inside next)) (refuses errors.NameTooLong)) (lt-leb (length name) 56 long)

  pub in_long_name : 56 < length name → (next : List ℕ → Doing) → MayGoOn (path_in s d name next) (refuses errors.NameTooLong)
  in_long_name long next = goes_same (too_long long next)

-- ---- the kernel is told

module _ (s : Session) (d : ℕ) (name : List ℕ) (i : ℕ) (body : Entry → Body) where
  abbrev telling : Doing
  telling = Notes (WasTold i (named d name) ∷ []) [] (Says (λ kept. told (body (entry_of kept s i))))

  pub tells_below : is_below_root s i ≡ true → tells s d name i body ≡ with_memory telling
  unfolding tells
  tells_below e = ap (λ b. cond b (with_memory telling) (refuses errors.Device)) e

  pub tells_none : is_below_root s i ≡ false → tells s d name i body ≡ refuses errors.Device
  unfolding tells
  tells_none e = ap (λ b. cond b (with_memory telling) (refuses errors.Device)) e

-- ---- names that become others

module _ (s : Session) (changes : List Change) (directory : Bool) (i d : ℕ) (old : List ℕ) (e : ℕ) (new : List ℕ) where
  abbrev moving : Doing
  moving =
      path_in s d old (λ from. path_in s e new (λ to. asks_done (command.Rename from to) (Notes (Lost i (named d old) ∷ []) changes (with_memory (Notes (Got i (named e new) ∷ []) [] says_done)))))

  pub moves_on : crosses directory d e ≡ false → moves s changes directory i d old e new ≡ moving
  unfolding moves
  moves_on h = ap (λ b. cond b (refuses errors.CrossDevice) moving) h

  pub moves_across : crosses directory d e ≡ true → moves s changes directory i d old e new ≡ refuses errors.CrossDevice
  unfolding moves
  moves_across h = ap (λ b. cond b (refuses errors.CrossDevice) moving) h

  module _ (kept : Kept) (other : Bool) (j : ℕ) where
    abbrev replacing : Doing
    replacing =
        path_in s e new (λ path. asks_done (removes_as directory path)
        (Notes (Lost j (named e new) ∷ []) (marks kept s j) (moves (noted (Lost j (named e new) ∷ []) (marks kept s j) s) changes directory i d old e new)))

    pub replaces_on : {T : Type 0} (o : Result T Errno) (b : Bool) → b ≡ other → ((next : Doing) → if_fits directory b d e next ≡ go_on o next)
        → replaces kept s changes directory other i d old j e new ≡ go_on o replacing
    unfolding replaces
    replaces_on o b same h = ap (λ x. if_fits directory x d e replacing) (sym same) ∙ h replacing

    pub replaces_refused : {T : Type 0} (o : Result T Errno) (b : Bool) → b ≡ other → ((next : Doing) → if_fits directory b d e next ≡ go_on o next)
        → (error : Errno) → o ≡ Err error → replaces kept s changes directory other i d old j e new ≡ refuses error
    replaces_refused o b same h error is = replaces_on o b same h ∙ ap (λ (o : Result _ Errno). go_on o replacing) is

    pub replaces_fits : {T : Type 0} (o : Result T Errno) (b : Bool) → b ≡ other → ((next : Doing) → if_fits directory b d e next ≡ go_on o next)
        → (x : T) → o ≡ Ok x → replaces kept s changes directory other i d old j e new ≡ replacing
    replaces_fits o b same h x is = replaces_on o b same h ∙ ap (λ (o : Result _ Errno). go_on o replacing) is

module _ (s : Session) (directory : Bool) (i d : ℕ) (old : List ℕ) (e : ℕ) (new : List ℕ) where
  module _ (kept : Kept) (spares : Bool) where
    pub renames_none : renames_to kept s spares directory i d old e new None ≡ moves s (moved kept s i d e) directory i d old e new
    unfolding renames_to
    renames_none = refl

    module _ (j : ℕ) where
      abbrev taking : Doing
      taking = replaces kept s (moved kept s i d e) directory (is_directory kept j) i d old j e new

      pub renames_same : j ≡ i → renames_to kept s spares directory i d old e new (Some j) ≡ says_done
      unfolding renames_to
      renames_same h = ap (λ b. cond b says_done (cond (spares || not s.rules.replaces) (refuses errors.Exists) taking)) (eq-eqb j i h)

      pub renames_spared : (j ≡ i → ⊥) → (spares || not s.rules.replaces) ≡ true → renames_to kept s spares directory i d old e new (Some j) ≡ refuses errors.Exists
      unfolding renames_to
      renames_spared apart h =
          ap (λ b. cond b says_done (cond (spares || not s.rules.replaces) (refuses errors.Exists) taking)) (ne_eqb j i apart)
          ∙ ap (λ b. cond b (refuses errors.Exists) taking) h

      pub renames_over : (j ≡ i → ⊥) → (spares || not s.rules.replaces) ≡ false → renames_to kept s spares directory i d old e new (Some j) ≡ taking
      unfolding renames_to
      renames_over apart h =
          ap (λ b. cond b says_done (cond (spares || not s.rules.replaces) (refuses errors.Exists) taking)) (ne_eqb j i apart)
          ∙ ap (λ b. cond b (refuses errors.Exists) taking) h

pub renames_by : (kept : Kept) (s : Session) (spares : Bool) (i d : ℕ) (old : List ℕ) (e : ℕ) (new : List ℕ) (o : Option ℕ)
    → ((next : ℕ → Doing) → at_name kept d old next ≡ next i) → ((next : Option ℕ → Doing) → where_leads kept e new next ≡ next o)
    → renames_at kept s spares d old e new ≡ renames_to kept s spares (is_directory kept i) i d old e new o
unfolding renames_at
renames_by kept s spares i d old e new o at leads = at _ ∙ leads _

pub renames_none_there : (kept : Kept) (s : Session) (spares : Bool) (d : ℕ) (old : List ℕ) (e : ℕ) (new : List ℕ) (error : Errno)
    → ((next : ℕ → Doing) → at_name kept d old next ≡ refuses error) → renames_at kept s spares d old e new ≡ refuses error
unfolding renames_at
renames_none_there kept s spares d old e new error at = at _

pub renames_nowhere : (kept : Kept) (s : Session) (spares : Bool) (i d : ℕ) (old : List ℕ) (e : ℕ) (new : List ℕ) (error : Errno)
    → ((next : ℕ → Doing) → at_name kept d old next ≡ next i) → ((next : Option ℕ → Doing) → where_leads kept e new next ≡ refuses error)
    → renames_at kept s spares d old e new ≡ refuses error
unfolding renames_at
renames_nowhere kept s spares i d old e new error at leads = at _ ∙ leads _

pub links_in : (kept : Kept) (s : Session) (d : ℕ) (name : List ℕ) (i : ℕ)
    → links_at kept s d name i ≡ at_path s i (λ own. path_in s d name (λ path.
    asks_done (command.Link own path) (Notes [] (gains kept s i d) (tells (noted [] (gains kept s i d) s) d name i bodies.Entry))))
unfolding links_at
links_in kept s d name i = refl

-- what is worked out for a move is what is noted
pub changes_so : (kept : Kept) (s : Session) (m : Moved) → IsSoAfter kept s m → changes_of s m ≡ moved kept s m.number m.from.directory m.to.directory
changes_so kept s m so =
    ap₂ (λ (xs ys : List Change). xs ++ ys) (ap (notes s m.from.directory) so.left)
    (ap₂ (λ (xs ys : List Change). xs ++ ys) (ap (notes s m.to.directory) so.reached) (ap (notes s m.number) so.own))

-- ---- sessions

abbrev pub with_nodes : Session → Table → Session
with_nodes s t = record s { nodes = t }

-- ---- kinds

module _ (kept : Kept) (s : Session) (node : NodeId) (name : List ℕ) (new : New) where
  pub node_made : may_make s.rules (new.mode / 4096) ≡ true → makes_node kept s node name new ≡ makes kept s node name new command.Create
  node_made may = ap (λ b. cond b (makes kept s node name new command.Create) (refuses errors.NotPermitted)) may

  pub node_of_kind : may_make s.rules (new.mode / 4096) ≡ false → makes_node kept s node name new ≡ refuses errors.NotPermitted
  node_of_kind may = ap (λ b. cond b (makes kept s node name new command.Create) (refuses errors.NotPermitted)) may

-- ---- looks at an inode

module _ (kept : Kept) (s : Session) (node : NodeId) (i : ℕ) (at : (next : ℕ → Doing) → at_node s node next ≡ next i) where
  pub opens_file : is_directory kept i ≡ false → (o : Option Open) → o ≡ (known s.nodes i).open_by → opens kept s node ≡ opens_known s i o
  opens_file is o e =
      at _ ∙ ap (λ b. cond b (refuses errors.IsDirectory) (opens_known s i (known s.nodes i).open_by)) is ∙ ap (opens_known s i) (sym e)

  pub opens_no_directory : is_directory kept i ≡ true → opens kept s node ≡ refuses errors.IsDirectory
  opens_no_directory is = at _ ∙ ap (λ b. cond b (refuses errors.IsDirectory) (opens_known s i (known s.nodes i).open_by)) is

module _ (kept : Kept) (s : Session) (node file : NodeId) (name : List ℕ) (d i : ℕ) (at_d : (next : ℕ → Doing) → at_directory kept s node next ≡ next d)
    (at_i : (next : ℕ → Doing) → at_node s file next ≡ next i) where
  pub links_file : is_directory kept i ≡ false → links kept s node file name ≡ links_at kept s d name i
  links_file is = at_d _ ∙ at_i _ ∙ ap (λ b. cond b (refuses errors.NotPermitted) (links_at kept s d name i)) is

  pub links_directory : is_directory kept i ≡ true → links kept s node file name ≡ refuses errors.NotPermitted
  links_directory is = at_d _ ∙ at_i _ ∙ ap (λ b. cond b (refuses errors.NotPermitted) (links_at kept s d name i)) is

module _ (kept : Kept) (s : Session) (node : NodeId) (from size d : ℕ) (at_d : (next : ℕ → Doing) → at_directory kept s node next ≡ next d) where
  abbrev listing : Doing
  listing = with_memory (Says (λ kept. said.Told (listing_from kept.geometry (frozen_view kept) d from size)))

  pub lists_short : size ≤ 1048576 → lists kept s node from size ≡ listing
  lists_short small = at_d _ ∙ ap (λ b. cond b listing (refuses errors.Invalid)) (le-leb size 1048576 small)

  pub lists_long : 1048576 < size → lists kept s node from size ≡ refuses errors.Invalid
  lists_long large = at_d _ ∙ ap (λ b. cond b listing (refuses errors.Invalid)) (lt-leb size 1048576 large)

module _ (s : Session) (handle : ℕ) where
  pub releases_file : handle < 2 ^ 32 → releases s handle ≡ closes s handle says_done refuses
  releases_file small = ap (λ b. cond b (closes s handle says_done refuses) (refuses errors.Stale)) (lt-ltb handle 4294967296 small)

  pub releases_none : 2 ^ 32 ≤ handle → releases s handle ≡ refuses errors.Stale
  releases_none large = ap (λ b. cond b (closes s handle says_done refuses) (refuses errors.Stale)) (le-ltb handle 4294967296 large)

module _ (kept : Kept) (s : Session) (node : NodeId) (old : List ℕ) (target : NodeId) (new : List ℕ) (flags : ℕ) where
  abbrev renaming : Doing
  renaming = at_directory kept s node (λ d. at_directory kept s target (λ e. renames_at kept s (not (bit_and flags 1 == 0)) d old e new))

  pub renames_known : bit_and flags 4294967294 ≡ 0 → renames kept s node old target new flags ≡ renaming
  renames_known e = ap (λ b. cond b renaming (refuses errors.Invalid)) (eq-eqb (bit_and flags 4294967294) 0 e)

  pub renames_unknown : (bit_and flags 4294967294 ≡ 0 → ⊥) → renames kept s node old target new flags ≡ refuses errors.Invalid
  renames_unknown apart = ap (λ b. cond b renaming (refuses errors.Invalid)) (ne_eqb (bit_and flags 4294967294) 0 apart)
