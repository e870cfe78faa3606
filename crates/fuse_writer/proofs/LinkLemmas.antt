-- The steps of symbolic links.
use Rattle.std.proofs.Common.{◌≡◌, ◌+◌, ℕ, suc, cond, eq-eqb, false, true, List, Result, Ok, Err, drop, length, take, min, refl, sym, ap, subst, ◌∙◌}
use Rattle.frozen.specs.Kept.{Kept, frozen_view}
use Rattle.fuse_wire.specs.declared.bodies.Body.TheVariants as bodies
use Rattle.fuse_wire.specs.declared.errors.Errno.{Errno}
use Rattle.fuse_wire.specs.declared.errors.Errno.TheVariants as errors
use Rattle.fuse_wire.specs.declared.numbers.NodeId.{NodeId}
use Rattle.fuse_writer.specs.declared.session.Session.{Session}
use Rattle.fuse_reader.specs.Said.{Said, Refused}
use Rattle.machine.specs.Command.{Close, Create, Open}
use Rattle.model.specs.Layout.{Geometry}
use Rattle.model.specs.Uses.{blocks_of}
use Rattle.snapshot.specs.Asked.{asked}
use Rattle.snapshot.specs.declared.command.Command.{Command}
use Rattle.fuse_writer.specs.declared.making.New.{New}
use Rattle.fuse_writer.specs.Ahead.{words_for}
use Rattle.fuse_writer.specs.Replied.{number_in}
use Rattle.fuse_writer.specs.Doings.{Asks, Does, Doing, IsDone, IsNumber, LeadsOn, MayGoOn, WasAsked, asks_done, asks_number, go_on_or, if_done_or, if_number, items_of, refuses, with_memory}
use Rattle.fuse_writer.specs.Requests.{at_directory, at_node, at_path, bears, born, if_block, if_link_opened, if_target, kind_at, makes_link, opens_link, path_in, puts_blocks, puts_target, reads_between, reads_link, reads_target, says_bytes, takes_away, tells, writes_piece}
use Rattle.fuse_writer.specs.Saying.{said_bytes}
use Rattle.fuse_writer.specs.Turns.{Turn}
use Rattle.fuse_writer.proofs.DoingLemmas.{Left, does_ask, does_say, goes_same, goes_then, on_ask, on_done, on_err, on_may, on_number, on_ok, on_same, on_then}
use Rattle.fuse_writer.proofs.WriteLemmas.{piece_none}
use Rattle.std.proofs.lemmas.Bool.{ne_eqb}

module _ (kept : Kept) (s : Session) (node : NodeId) (i : ℕ) (at : (next : ℕ → Doing) → at_node s node next ≡ next i) where
  pub reads_of_link : kind_at kept s i ≡ 10 → reads_link kept s node ≡ reads_target kept s i
  reads_of_link is = at _ ∙ ap (λ b. cond b (reads_target kept s i) (refuses errors.Invalid)) (eq-eqb (kind_at kept s i) 10 is)

  pub reads_no_link : (kind_at kept s i ≡ 10 → ⊥) → reads_link kept s node ≡ refuses errors.Invalid
  reads_no_link apart = at _ ∙ ap (λ b. cond b (reads_target kept s i) (refuses errors.Invalid)) (ne_eqb (kind_at kept s i) 10 apart)

-- the file of a link is read by a handle, and closed in any case
abbrev pub by_handle : Kept → ℕ → ℕ → Doing
by_handle kept i handle =
    reads_between handle 0 (min ((frozen_view kept).inode i).size 4095) (λ bytes. asks_done (Close handle) (says_bytes bytes))
    (λ error. Asks (Close handle) (λ reply. refuses error))

pub target_by : (kept : Kept) (s : Session) (i : ℕ) → reads_target kept s i ≡ at_path s i (λ path. asks_number (Open path) (by_handle kept i))
unfolding reads_target
target_by kept s i = refl

module _ (kept : Kept) (s : Session) (node : NodeId) (name target : List ℕ) (new : New) where
  -- a link is made in a directory, of which the path is known
  abbrev pub link_at_path : ℕ → List ℕ → Doing
  link_at_path d path =
      asks_number (Create path (words_for kept s d new)) (λ i. bears kept s d i (opens_link (born kept s d i) d name i target path))

  abbrev pub linking : Doing
  linking = at_directory kept s node (λ d. path_in s d name (λ path. with_memory (link_at_path d path)))

  pub link_strict : s.rules.keeps_attributes ≡ false → makes_link kept s node name target new ≡ refuses errors.NotPermitted
  link_strict e = ap (λ b. cond b (if_target target linking) (refuses errors.NotPermitted)) e

  pub link_kept : s.rules.keeps_attributes ≡ true → makes_link kept s node name target new ≡ if_target target linking
  link_kept e = ap (λ b. cond b (if_target target linking) (refuses errors.NotPermitted)) e

-- what was opened gets its target, or not
pub opens_link_by : {D : Type 0} (old mid new : Turn D) (s s' : Session) (said : Said) (d : ℕ) (name : List ℕ) (i : ℕ) (target path : List ℕ) (command : Command) (outcome o : Result ℕ Errno)
    → WasAsked old.calls mid.calls command (IsNumber outcome) → asked new.volume.kept.geometry command ≡ Open path → outcome ≡ o
    → Does (if_link_opened s d name i target o) mid s said new s' → Does (opens_link s d name i target path) old s said new s'
unfolding opens_link
opens_link_by old mid new s s' said d name i target path command outcome o was asks same does =
    does_ask old new s s' said mid (Open path) (λ reply. if_link_opened s d name i target (number_in reply)) command was.reply was.grew asks
    (subst (λ (o : Result ℕ Errno). Does (if_link_opened s d name i target o) mid s said new s') (sym same ∙ was.is) does)

-- ---- a target that is read

-- the same by the size of the file
abbrev pub by_size : ℕ → ℕ → Doing
by_size size handle =
    reads_between handle 0 (min size 4095) (λ bytes. asks_done (Close handle) (says_bytes bytes)) (λ error. Asks (Close handle) (λ reply. refuses error))

module _ (kept : Kept) (s : Session) (i size : ℕ) (is : size ≡ ((frozen_view kept).inode i).size) where
  pub target_at : reads_target kept s i ≡ at_path s i (λ path. asks_number (Open path) (by_size size))
  target_at = target_by kept s i ∙ ap (λ n. at_path s i (λ path. asks_number (Open path) (by_size n))) (sym is)

module _ {D : Type 0} (kept : Kept) (s : Session) (i size : ℕ) (is : size ≡ ((frozen_view kept).inode i).size) where
  pub target_no_path : (turn : Turn D) (error : Errno) → ((next : List ℕ → Doing) → MayGoOn (at_path s i next) (refuses error))
      → LeadsOn (reads_target kept s i) turn s (refuses error) turn s
  target_no_path turn error gives = on_may (reads_target kept s i) (refuses error) turn s (goes_then (goes_same (target_at kept s i size is)) (gives (λ path. asks_number (Open path) (by_size size))))

  pub target_opened : (old mid : Turn D) (t : Session) (path : List ℕ) (command : Command) (outcome : Result ℕ Errno) → ((next : List ℕ → Doing) → MayGoOn (at_path s i next) (next path))
      → WasAsked old.calls mid.calls command (IsNumber outcome) → ((geo : Geometry) → asked geo command ≡ Open path) → t ≡ s
      → LeadsOn (reads_target kept s i) old s (if_number outcome (by_size size)) mid t
  target_opened old mid t path command outcome gives was asks same =
      on_then (reads_target kept s i) (asks_number (Open path) (by_size size)) (if_number outcome (by_size size)) old old mid s s t
      (on_may (reads_target kept s i) (asks_number (Open path) (by_size size)) old s (goes_then (goes_same (target_at kept s i size is)) (gives (λ path. asks_number (Open path) (by_size size)))))
      (on_number old mid s t (Open path) command outcome was asks same (by_size size))

-- what was read is said once the file is closed, or why it was not read
module _ {D V T : Type 0} (a : Doing) (begin old mid : Turn D) (u s t : Session) (handle : ℕ) (items : V → List ℕ) (read : Result V Errno) (command : Command) (closed : Result T Errno)
    (on : LeadsOn a begin u (if_block (items_of items read) (λ bytes. asks_done (Close handle) (says_bytes bytes)) (λ error. Asks (Close handle) (λ reply. refuses error))) old s)
    (was : WasAsked old.calls mid.calls command (IsDone closed)) (asks : (geo : Geometry) → asked geo command ≡ Close handle) (same : t ≡ s) where
  pub target_refused : (error : Errno) → read ≡ Err error → LeadsOn a begin u (refuses error) mid t
  target_refused error is =
      on_then a (Asks (Close handle) (λ reply. refuses error)) (refuses error) begin old mid u s t
      (subst (λ (o : Result V Errno). LeadsOn a begin u (if_block (items_of items o) (λ bytes. asks_done (Close handle) (says_bytes bytes)) (λ error. Asks (Close handle) (λ reply. refuses error))) old s) is on)
      (on_ask old mid s t (Close handle) (λ reply. refuses error) command was.reply was.grew asks same)

  pub target_closed : (v : V) → read ≡ Ok v → LeadsOn a begin u (go_on_or closed (says_bytes (items v)) refuses) mid t
  target_closed v is =
      on_then a (asks_done (Close handle) (says_bytes (items v))) (go_on_or closed (says_bytes (items v)) refuses) begin old mid u s t
      (subst (λ (o : Result V Errno). LeadsOn a begin u (if_block (items_of items o) (λ bytes. asks_done (Close handle) (says_bytes bytes)) (λ error. Asks (Close handle) (λ reply. refuses error))) old s) is on)
      (on_done old mid s t (Close handle) command closed was asks same (says_bytes (items v)) refuses)

pub ends_refused : {D V : Type 0} (old mid : Turn D) (s t : Session) (items : V → List ℕ) (r : Result V Errno) (error : Errno) (doing : Doing) → Left r error
    → LeadsOn doing old s (refuses error) mid t → Does doing old s (said_bytes items r) mid t
ends_refused old mid s t items r error doing left on =
    on (said_bytes items r) mid t
    (does_say mid mid t t (said_bytes items r) (λ k. Refused error) refl (ap (λ (o : Result _ Errno). said_bytes items o) left.1 ∙ ap Refused left.2) refl)

-- ---- a target that is written

module _ {D : Type 0} (handle k : ℕ) (rest : List ℕ) (next : Doing) (refused : Errno → Doing) where
  put_one : {T : Type 0} (old mid : Turn D) (s t : Session) (piece left : List ℕ) (outcome : Result T Errno) → piece ≡ take 1024 rest → left ≡ drop 1024 rest
      → ((done : Doing) (refused : Errno → Doing) → LeadsOn (writes_piece handle k piece done refused) old s (go_on_or outcome done refused) mid t)
      → (n : ℕ) → LeadsOn (puts_blocks handle k (suc n) rest next refused) old s (go_on_or outcome (puts_blocks handle (k + 1) n left next refused) refused) mid t
  unfolding puts_blocks
  put_one old mid s t piece left outcome are remain on n =
      subst (λ xs. LeadsOn (writes_piece handle k xs (puts_blocks handle (k + 1) n (drop 1024 rest) next refused) refused) old s
      (go_on_or outcome (puts_blocks handle (k + 1) n left next refused) refused) mid t) are
      (subst (λ xs. LeadsOn (writes_piece handle k piece (puts_blocks handle (k + 1) n xs next refused) refused) old s
      (go_on_or outcome (puts_blocks handle (k + 1) n left next refused) refused) mid t) remain
      (on (puts_blocks handle (k + 1) n left next refused) refused))

  -- one block more
  pub put_more : {T : Type 0} (a : Doing) (begin old mid : Turn D) (u s t : Session) (piece left : List ℕ) (outcome : Result T Errno) (m n : ℕ)
      → LeadsOn a begin u (puts_blocks handle k m rest next refused) old s → suc n ≡ m → piece ≡ take 1024 rest → left ≡ drop 1024 rest
      → ((done : Doing) (refused : Errno → Doing) → LeadsOn (writes_piece handle k piece done refused) old s (go_on_or outcome done refused) mid t)
      → LeadsOn a begin u (go_on_or outcome (puts_blocks handle (k + 1) n left next refused) refused) mid t
  put_more a begin old mid u s t piece left outcome m n before count are remain on =
      on_then a (puts_blocks handle k m rest next refused) (go_on_or outcome (puts_blocks handle (k + 1) n left next refused) refused) begin old mid u s t before
      (subst (λ j. LeadsOn (puts_blocks handle k j rest next refused) old s (go_on_or outcome (puts_blocks handle (k + 1) n left next refused) refused) mid t) count
      (put_one old mid s t piece left outcome are remain on n))

  no_piece : (turn : Turn D) (s : Session) (n : ℕ) → LeadsOn (puts_blocks handle k (suc n) rest next refused) turn s (refused errors.NoMemory) turn s
  unfolding puts_blocks
  no_piece turn s n = piece_none turn s handle k (take 1024 rest) (puts_blocks handle (k + 1) n (drop 1024 rest) next refused) refused

  -- or no memory for it
  pub put_no_piece : (a : Doing) (begin old : Turn D) (u s : Session) (m n : ℕ) → LeadsOn a begin u (puts_blocks handle k m rest next refused) old s → suc n ≡ m
      → LeadsOn a begin u (refused errors.NoMemory) old s
  put_no_piece a begin old u s m n before count =
      on_then a (puts_blocks handle k m rest next refused) (refused errors.NoMemory) begin old old u s s before
      (subst (λ j. LeadsOn (puts_blocks handle k j rest next refused) old s (refused errors.NoMemory) old s) count (no_piece old s n))

  pub put_none : (turn : Turn D) (s : Session) (n : ℕ) → n ≡ 0 → LeadsOn (puts_blocks handle k n rest next refused) turn s next turn s
  unfolding puts_blocks
  put_none turn s n none said new last does = subst (λ m. Does (puts_blocks handle k m rest next refused) turn s said new last) (sym none) does

-- the target of a new link was put, or not, and the link is closed
module _ (s : Session) (d : ℕ) (name : List ℕ) (i : ℕ) (target : List ℕ) (handle : ℕ) where
  abbrev pub target_put : Doing
  target_put = Asks (Close handle) (λ reply. if_done_or reply (tells s d name i bodies.Entry) (takes_away s d name))

  abbrev pub target_not_put : Errno → Doing
  target_not_put error = Asks (Close handle) (λ reply. takes_away s d name error)

  pub puts_by : puts_target s d name i target handle ≡ puts_blocks handle 0 (blocks_of (length target)) target target_put target_not_put
  unfolding puts_target
  puts_by = refl

  module _ {D T U : Type 0} (old mid new : Turn D) (t u : Session) (written : Result T Errno) (command : Command) (closed : Result U Errno)
      (on : (next : Doing) (refused : Errno → Doing) → LeadsOn (puts_blocks handle 0 (blocks_of (length target)) target next refused) old s (go_on_or written next refused) mid t)
      (was : WasAsked mid.calls new.calls command (IsDone closed)) (asks : (geo : Geometry) → asked geo command ≡ Close handle) (same : u ≡ t) (back : u ≡ s) where
    so : LeadsOn (puts_target s d name i target handle) old s (go_on_or written target_put target_not_put) mid t
    so = on_same (puts_target s d name i target handle) (puts_blocks handle 0 (blocks_of (length target)) target target_put target_not_put) old s
        (go_on_or written target_put target_not_put) mid t puts_by (on target_put target_not_put)

    pub put_refused : (error : Errno) → written ≡ Err error → LeadsOn (puts_target s d name i target handle) old s (takes_away s d name error) new s
    put_refused error is =
        subst (λ (w : Session). LeadsOn (puts_target s d name i target handle) old s (takes_away s d name error) new w) back
        (on_then (puts_target s d name i target handle) (target_not_put error) (takes_away s d name error) old mid new s t u
        (on_err (puts_target s d name i target handle) old mid s t written error target_put target_not_put is so)
        (on_ask mid new t u (Close handle) (λ reply. takes_away s d name error) command was.reply was.grew asks same))

    pub put_closed : (x : T) → written ≡ Ok x → LeadsOn (puts_target s d name i target handle) old s (go_on_or closed (tells s d name i bodies.Entry) (takes_away s d name)) new s
    put_closed x is =
        subst (λ (w : Session). LeadsOn (puts_target s d name i target handle) old s (go_on_or closed (tells s d name i bodies.Entry) (takes_away s d name)) new w) back
        (on_then (puts_target s d name i target handle) target_put (go_on_or closed (tells s d name i bodies.Entry) (takes_away s d name)) old mid new s t u
        (on_ok (puts_target s d name i target handle) old mid s t written x target_put target_not_put is so)
        (on_done mid new t u (Close handle) command closed was asks same (tells s d name i bodies.Entry) (takes_away s d name)))
