-- The steps of reads.
use Rattle.std.proofs.Common.{◌≡◌, ◌<◌, ◌≤◌, ◌+◌, ◌*◌, ◌-◌, ◌/◌, arith, ℕ, suc, cond, List, [], ◌++◌, Option, Some, None, Result, Ok, Err, refl, sym, ap, subst, ◌∙◌}
use Rattle.std.proofs.lemmas.Bool.{le-leb, le-ltb, lt-leb, lt-ltb}
use Rattle.frozen.specs.Kept.{Kept, frozen_view}
use Rattle.fuse_wire.specs.declared.errors.Errno.{Errno}
use Rattle.fuse_wire.specs.declared.errors.Errno.TheVariants as errors
use Rattle.fuse_wire.specs.declared.numbers.NodeId.{NodeId}
use Rattle.machine.specs.Command.{Read}
use Rattle.model.specs.Layout.{Geometry}
use Rattle.fuse_nodes.specs.declared.known.Open.{Open}
use Rattle.fuse_nodes.specs.Table.{known}
use Rattle.snapshot.specs.Asked.{asked}
use Rattle.snapshot.specs.declared.command.Command.{Command}
use Rattle.fuse_reader.specs.Pieces.{piece_end}
use Rattle.fuse_reader.specs.Said as said
use Rattle.fuse_reader.specs.Said.{Refused}
use Rattle.fuse_writer.specs.declared.session.Session.{Session}
use Rattle.fuse_writer.specs.Doings.{Does, Doing, IfMemory, IsBytes, LeadsOn, Says, WasAsked, items_of, refuses}
use Rattle.fuse_writer.specs.Replied.{bytes_in}
use Rattle.fuse_writer.specs.Requests.{at_handle, at_node, if_block, on_handle, part_of, reads, reads_between, reads_blocks, reads_piece, says_bytes}
use Rattle.fuse_writer.specs.Saying.{said_bytes}
use Rattle.fuse_writer.specs.Turns.{Turn}
use Rattle.fuse_writer.proofs.DoingLemmas.{does_say, on_ask, on_memory, on_no_memory, on_then}

module _ {D V : Type 0} (old mid : Turn D) (s t : Session) (handle from to k : ℕ) (bytes : List ℕ) (items : V → List ℕ) (command : Command) (outcome : Result V Errno)
    (was : WasAsked old.calls mid.calls command (IsBytes items outcome)) (asks : (geo : Geometry) → asked geo command ≡ Read handle k) (same : t ≡ s) (n : ℕ)
    (next : List ℕ → Doing) (refused : Errno → Doing) where
  abbrev more_with : List ℕ → Doing
  more_with all = reads_blocks handle from to (k + 1) n all next refused

  abbrev goes : List ℕ → Doing
  goes block = IfMemory (more_with (bytes ++ part_of k from to block)) (refused errors.NoMemory)

  abbrev reading : Doing
  reading = reads_blocks handle from to k (suc n) bytes next refused

  asked_block : LeadsOn reading old s (if_block (items_of items outcome) goes refused) mid t
  unfolding reads_blocks
  asked_block =
      subst (λ (o : Result (List ℕ) Errno). LeadsOn reading old s (if_block o goes refused) mid t) (sym was.is)
      (on_ask old mid s t (Read handle k) (λ reply. if_block (bytes_in reply) goes refused) command was.reply was.grew asks same)

  got : (v : V) → outcome ≡ Ok v → LeadsOn reading old s (goes (items v)) mid t
  got v ok = subst (λ (o : Result V Errno). LeadsOn reading old s (if_block (items_of items o) goes refused) mid t) ok asked_block

  pub read_on : (v : V) → outcome ≡ Ok v → (more : List ℕ) → more ≡ bytes ++ part_of k from to (items v) → LeadsOn reading old s (more_with more) mid t
  read_on v ok more is =
      on_then reading (goes (items v)) (more_with more) old mid mid s t t (got v ok)
      (subst (λ (xs : List ℕ). LeadsOn (goes (items v)) mid t (more_with xs) mid t) (sym is)
      (on_memory (more_with (bytes ++ part_of k from to (items v))) (refused errors.NoMemory) mid t))

  -- there was no memory for what was read
  pub read_cut : (v : V) → outcome ≡ Ok v → LeadsOn reading old s (refused errors.NoMemory) mid t
  read_cut v ok =
      on_then reading (goes (items v)) (refused errors.NoMemory) old mid mid s t t (got v ok)
      (on_no_memory (more_with (bytes ++ part_of k from to (items v))) (refused errors.NoMemory) mid t)

  pub read_refused : (e : Errno) → outcome ≡ Err e → LeadsOn reading old s (refused e) mid t
  read_refused e is = subst (λ (o : Result V Errno). LeadsOn reading old s (if_block (items_of items o) goes refused) mid t) is asked_block

pub read_all : {D : Type 0} (turn : Turn D) (s : Session) (handle from to k n : ℕ) (bytes : List ℕ) (next : List ℕ → Doing) (refused : Errno → Doing) → n ≡ 0
    → LeadsOn (reads_blocks handle from to k n bytes next refused) turn s (next bytes) turn s
unfolding reads_blocks
read_all turn s handle from to k n bytes next refused none said new last does =
    subst (λ m. Does (reads_blocks handle from to k m bytes next refused) turn s said new last) (sym none) does

-- the bytes are said, or why they are refused
pub ends_bytes : {D V : Type 0} (old mid : Turn D) (s t : Session) (items : V → List ℕ) (r : Result V Errno) (doing : Doing)
    → LeadsOn doing old s (if_block (items_of items r) says_bytes refuses) mid t → Does doing old s (said_bytes items r) mid t
ends_bytes old mid s t items (Ok v) doing on = on (said.Told (items v)) mid t (does_say mid mid t t (said.Told (items v)) (λ k. said.Told (items v)) refl refl refl)
ends_bytes old mid s t items (Err e) doing on = on (Refused e) mid t (does_say mid mid t t (Refused e) (λ k. Refused e) refl refl refl)

-- ---- before the first

module _ (s : Session) (i : ℕ) where
  pub handle_known : (open_by : Open) → Some open_by ≡ (known s.nodes i).open_by → (next : ℕ → Doing) → at_handle s i next ≡ next open_by.handle
  unfolding at_handle
  handle_known open_by e next = ap (λ (o : Option Open). on_handle o next) (sym e)

  pub handle_stale : None ≡ (known s.nodes i).open_by → (next : ℕ → Doing) → at_handle s i next ≡ refuses errors.Stale
  unfolding at_handle
  handle_stale e next = ap (λ (o : Option Open). on_handle o next) (sym e)

module _ (kept : Kept) (s : Session) (node : NodeId) (offset size i : ℕ) (at : (next : ℕ → Doing) → at_node s node next ≡ next i) where
  abbrev piece : Doing
  piece = at_handle s i (λ handle. reads_piece handle offset (piece_end (frozen_view kept) i offset size))

  pub reads_small : size ≤ 1048576 → reads kept s node offset size ≡ piece
  reads_small small = at _ ∙ ap (λ b. cond b piece (refuses errors.Invalid)) (le-leb size 1048576 small)

  pub reads_large : 1048576 < size → reads kept s node offset size ≡ refuses errors.Invalid
  reads_large large = at _ ∙ ap (λ b. cond b piece (refuses errors.Invalid)) (lt-leb size 1048576 large)

  pub reads_handle : size ≤ 1048576 → (handle : ℕ) → ((next : ℕ → Doing) → at_handle s i next ≡ next handle) → (end : ℕ) → end ≡ piece_end (frozen_view kept) i offset size
      → reads kept s node offset size ≡ reads_piece handle offset end
  reads_handle small handle has end is = reads_small small ∙ has _ ∙ ap (reads_piece handle offset) (sym is)

  pub reads_some : size ≤ 1048576 → (handle : ℕ) → ((next : ℕ → Doing) → at_handle s i next ≡ next handle) → (end : ℕ) → end ≡ piece_end (frozen_view kept) i offset size
      → offset < end → reads kept s node offset size ≡ reads_between handle offset end says_bytes refuses
  reads_some small handle has end is some =
      reads_handle small handle has end is ∙ ap (λ b. cond b (reads_between handle offset end says_bytes refuses) (says_bytes [])) (lt-ltb offset end some)

  pub reads_none : size ≤ 1048576 → (handle : ℕ) → ((next : ℕ → Doing) → at_handle s i next ≡ next handle) → (end : ℕ) → end ≡ piece_end (frozen_view kept) i offset size
      → end ≤ offset → reads kept s node offset size ≡ says_bytes []
  reads_none small handle has end is none =
      reads_handle small handle has end is ∙ ap (λ b. cond b (reads_between handle offset end says_bytes refuses) (says_bytes [])) (le-ltb offset end none)

-- ---- how many bytes are read

pub few_read : (bytes first index last from to : ℕ) → first ≡ from / 1024 → last ≡ (to + 1023) / 1024 → (first ≤ last → index ≤ last) → from ≤ to → to ≤ from + 1048576
    → bytes ≤ 1024 * (index - first) → bytes ≤ 2097152
few_read bytes first index last from to f l high ordered small few =
    let within : first ≤ last = omega (arith, f, l) in
    let low = high within in
    omega (arith, f, l, low)
