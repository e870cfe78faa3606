-- The steps of writes.
use Rattle.std.proofs.Common.{◌≡◌, ◌<◌, ◌≤◌, ◌+◌, ◌-◌, ◌/◌, min, true, false, ℕ, suc, cond, eq-eqb, List, [], ◌++◌, length, take, drop, replicate, Result, Ok, Err, refl, sym, ap, subst, ◌∙◌}
use Rattle.std.proofs.lemmas.Bool.{le-leb, le-ltb, lt-leb, lt-ltb, ne_eqb}
use Rattle.frozen.specs.Kept.{Kept, frozen_view}
use Rattle.fuse_wire.specs.declared.bodies.Body.TheVariants as bodies
use Rattle.fuse_wire.specs.declared.errors.Errno.{Errno}
use Rattle.fuse_wire.specs.declared.errors.Errno.TheVariants as errors
use Rattle.fuse_wire.specs.declared.numbers.NodeId.{NodeId}
use Rattle.machine.specs.Command.{Read, Write}
use Rattle.model.specs.Layout.{Geometry}
use Rattle.model.specs.Uses.{blocks_of}
use Rattle.snapshot.specs.Asked.{asked}
use Rattle.snapshot.specs.declared.command.Command.{Command}
use Rattle.fuse_reader.specs.Said.{Said, Refused, told}
use Rattle.fuse_writer.specs.declared.granted.Rules.{Rules}
use Rattle.fuse_writer.specs.declared.session.Session.{Session}
use Rattle.fuse_writer.specs.Ahead.{touches}
use Rattle.fuse_writer.specs.Doings.{Asks, Does, Doing, IsBytes, IsDone, LeadsOn, Notes, Says, WasAsked, go_on_or, if_done_or, items_of, refuses}
use Rattle.fuse_writer.specs.Replied.{bytes_in}
use Rattle.fuse_writer.specs.Requests.{at_handle, at_node, count_in, filled, fills_blocks, fills_to, if_block, place_in, writes, writes_between, writes_blocks, writes_part, writes_piece, wrote}
use Rattle.fuse_writer.specs.Turns.{Turn}
use Rattle.fuse_writer.proofs.DoingLemmas.{does_ask, does_same, does_say, on_done, on_memory, on_no_memory, on_then}

module _ (handle k at : ℕ) (bytes : List ℕ) (done : Doing) (refused : Errno → Doing) where
  abbrev behind : Doing
  behind = Asks (Read handle k) (λ reply. if_block (bytes_in reply) (λ block. writes_piece handle k (filled at block ++ bytes) done refused) refused)

  pub part_at_start : at ≡ 0 → writes_part handle k at bytes done refused ≡ writes_piece handle k bytes done refused
  unfolding writes_part
  part_at_start e = ap (λ b. cond b (writes_piece handle k bytes done refused) behind) (eq-eqb at 0 e)

  pub part_behind : (at ≡ 0 → ⊥) → writes_part handle k at bytes done refused ≡ behind
  unfolding writes_part
  part_behind apart = ap (λ b. cond b (writes_piece handle k bytes done refused) behind) (ne_eqb at 0 apart)

abbrev more_of : ℕ → ℕ → ℕ → ℕ → List ℕ → ℕ → ℕ → ℕ → Doing
more_of handle from to k rest done count n = writes_blocks handle from to (k + 1) n (drop count rest) (done + count)

module _ {D : Type 0} where
  -- ---- one piece

  module _ {T : Type 0} (old mid : Turn D) (s t : Session) (handle k : ℕ) (piece : List ℕ) (command : Command) (outcome : Result T Errno)
      (was : WasAsked old.calls mid.calls command (IsDone outcome)) (asks : (geo : Geometry) → asked geo command ≡ Write handle k piece) (same : t ≡ s) where
    pub piece_on : (done : Doing) (refused : Errno → Doing) → LeadsOn (writes_piece handle k piece done refused) old s (go_on_or outcome done refused) mid t
    unfolding writes_piece
    piece_on done refused said new last does =
        on_memory (Asks (Write handle k piece) (λ reply. if_done_or reply done refused)) (refused errors.NoMemory) old s said new last
        (on_done old mid s t (Write handle k piece) command outcome was asks same done refused said new last does)

  pub piece_none : (turn : Turn D) (s : Session) (handle k : ℕ) (piece : List ℕ) (done : Doing) (refused : Errno → Doing)
      → LeadsOn (writes_piece handle k piece done refused) turn s (refused errors.NoMemory) turn s
  unfolding writes_piece
  piece_none turn s handle k piece done refused = on_no_memory (Asks (Write handle k piece) (λ reply. if_done_or reply done refused)) (refused errors.NoMemory) turn s

  module _ {V : Type 0} (old mid : Turn D) (s t : Session) (handle k : ℕ) (items : V → List ℕ) (command : Command) (outcome : Result V Errno)
      (was : WasAsked old.calls mid.calls command (IsBytes items outcome)) (asks : (geo : Geometry) → asked geo command ≡ Read handle k) (same : t ≡ s)
      (f : List ℕ → Doing) (refused : Errno → Doing) where
    pub block_on : (v : V) → outcome ≡ Ok v → LeadsOn (Asks (Read handle k) (λ reply. if_block (bytes_in reply) f refused)) old s (f (items v)) mid t
    block_on v ok said new last does =
        does_ask old new s last said mid (Read handle k) (λ reply. if_block (bytes_in reply) f refused) command was.reply was.grew (asks new.volume.kept.geometry)
        (subst (λ (o : Result (List ℕ) Errno). Does (if_block o f refused) mid s said new last) (sym (ap (items_of items) ok) ∙ was.is)
        (subst (λ (u : Session). Does (f (items v)) mid u said new last) same does))

    pub block_refused : (e : Errno) → outcome ≡ Err e → LeadsOn (Asks (Read handle k) (λ reply. if_block (bytes_in reply) f refused)) old s (refused e) mid t
    block_refused e is said new last does =
        does_ask old new s last said mid (Read handle k) (λ reply. if_block (bytes_in reply) f refused) command was.reply was.grew (asks new.volume.kept.geometry)
        (subst (λ (o : Result (List ℕ) Errno). Does (if_block o f refused) mid s said new last) (sym (ap (items_of items) is) ∙ was.is)
        (subst (λ (u : Session). Does (refused e) mid u said new last) same does))

  -- ---- zeroes

  module _ (old mid : Turn D) (s t : Session) (handle from to k : ℕ) (zeroes : List ℕ) (are : zeroes ≡ replicate (count_in k from to) 0) where
    fill_step : {T : Type 0} (outcome : Result T Errno) → ((done : Doing) (refused : Errno → Doing)
        → LeadsOn (writes_part handle k (place_in k from) zeroes done refused) old s (go_on_or outcome done refused) mid t)
        → (n : ℕ) (next : Doing) (refused : Errno → Doing)
        → LeadsOn (fills_blocks handle from to k (suc n) next refused) old s (go_on_or outcome (fills_blocks handle from to (k + 1) n next refused) refused) mid t
    unfolding fills_blocks
    fill_step outcome part n next refused =
        subst (λ zs. LeadsOn (writes_part handle k (place_in k from) zs (fills_blocks handle from to (k + 1) n next refused) refused) old s
        (go_on_or outcome (fills_blocks handle from to (k + 1) n next refused) refused) mid t) are
        (part (fills_blocks handle from to (k + 1) n next refused) refused)

    pub fill_more : {T : Type 0} (a : Doing) (begin : Turn D) (u : Session) (outcome : Result T Errno) → ((done : Doing) (refused : Errno → Doing)
        → LeadsOn (writes_part handle k (place_in k from) zeroes done refused) old s (go_on_or outcome done refused) mid t)
        → (m n : ℕ) → suc n ≡ m → (next : Doing) (refused : Errno → Doing) → LeadsOn a begin u (fills_blocks handle from to k m next refused) old s
        → LeadsOn a begin u (go_on_or outcome (fills_blocks handle from to (k + 1) n next refused) refused) mid t
    fill_more a begin u outcome part m n left next refused before =
        on_then a (fills_blocks handle from to k m next refused) (go_on_or outcome (fills_blocks handle from to (k + 1) n next refused) refused) begin old mid u s t before
        (subst (λ j. LeadsOn (fills_blocks handle from to k j next refused) old s (go_on_or outcome (fills_blocks handle from to (k + 1) n next refused) refused) mid t) left
        (fill_step outcome part n next refused))

  pub fill_none : (turn : Turn D) (s : Session) (handle from to k n : ℕ) (next : Doing) (refused : Errno → Doing) → n ≡ 0
      → LeadsOn (fills_blocks handle from to k n next refused) turn s next turn s
  unfolding fills_blocks
  fill_none turn s handle from to k n next refused none said new last does =
      subst (λ m. Does (fills_blocks handle from to k m next refused) turn s said new last) (sym none) does

  -- ---- data

  module _ (old mid : Turn D) (s t : Session) (handle from to k : ℕ) (rest : List ℕ) (done count : ℕ) (bytes : List ℕ)
      (counted : count ≡ min (count_in k from to) (length rest)) (are : bytes ≡ take count rest) where
    whole : (said : Said) (new : Turn D) (last : Session) (n : ℕ) → Does (writes_part handle k (place_in k from) bytes (more_of handle from to k rest done count n) (wrote done)) old s said new last
        → Does (writes_blocks handle from to k (suc n) rest done) old s said new last
    unfolding writes_blocks
    whole said new last n does =
        subst (λ c. Does (writes_part handle k (place_in k from) (take c rest) (more_of handle from to k rest done c n) (wrote done)) old s said new last) counted
        (subst (λ xs. Does (writes_part handle k (place_in k from) xs (more_of handle from to k rest done count n) (wrote done)) old s said new last) are does)

    module _ {T : Type 0} (outcome : Result T Errno) (part : (done : Doing) (refused : Errno → Doing)
        → LeadsOn (writes_part handle k (place_in k from) bytes done refused) old s (go_on_or outcome done refused) mid t) where
      pub write_on : (x : T) → outcome ≡ Ok x → (left : List ℕ) → left ≡ drop count rest → (n : ℕ)
          → LeadsOn (writes_blocks handle from to k (suc n) rest done) old s (writes_blocks handle from to (k + 1) n left (done + count)) mid t
      write_on x ok left is n said new last does =
          whole said new last n (part (more_of handle from to k rest done count n) (wrote done) said new last
          (subst (λ (o : Result T Errno). Does (go_on_or o (more_of handle from to k rest done count n) (wrote done)) mid t said new last) (sym ok)
          (subst (λ xs. Does (writes_blocks handle from to (k + 1) n xs (done + count)) mid t said new last) is does)))

      pub write_refused : (e : Errno) → outcome ≡ Err e → (n : ℕ) (said : Said) → Does (wrote done e) mid t said mid t
          → Does (writes_blocks handle from to k (suc n) rest done) old s said mid t
      write_refused e is n said does =
          whole said mid t n (part (more_of handle from to k rest done count n) (wrote done) said mid t
          (subst (λ (o : Result T Errno). Does (go_on_or o (more_of handle from to k rest done count n) (wrote done)) mid t said mid t) (sym is) does))

  pub write_all : (turn : Turn D) (s : Session) (handle from to k n : ℕ) (rest : List ℕ) (done : ℕ) → n ≡ 0
      → Does (writes_blocks handle from to k n rest done) turn s (told (bodies.Written done)) turn s
  unfolding writes_blocks
  write_all turn s handle from to k n rest done none =
      subst (λ m. Does (writes_blocks handle from to k m rest done) turn s (told (bodies.Written done)) turn s) (sym none)
      (does_say turn turn s s (told (bodies.Written done)) (λ kept. told (bodies.Written done)) refl refl refl)

  pub wrote_none : (turn : Turn D) (s : Session) (done : ℕ) (e : Errno) → done ≡ 0 → Does (wrote done e) turn s (Refused e) turn s
  wrote_none turn s done e none =
      does_same turn turn s s (Refused e) (wrote done e) (refuses e) (ap (λ b. cond b (refuses e) (Says (λ kept. told (bodies.Written done)))) (eq-eqb done 0 none))
      (does_say turn turn s s (Refused e) (λ kept. Refused e) refl refl refl)

  pub wrote_some : (turn : Turn D) (s : Session) (done : ℕ) (e : Errno) → (done ≡ 0 → ⊥) → Does (wrote done e) turn s (told (bodies.Written done)) turn s
  wrote_some turn s done e some =
      does_same turn turn s s (told (bodies.Written done)) (wrote done e) (Says (λ kept. told (bodies.Written done)))
      (ap (λ b. cond b (refuses e) (Says (λ kept. told (bodies.Written done)))) (ne_eqb done 0 some))
      (does_say turn turn s s (told (bodies.Written done)) (λ kept. told (bodies.Written done)) refl refl refl)

-- ---- before the first

module _ (rules : Rules) (handle own size : ℕ) (next : Doing) (refused : Errno → Doing) where
  abbrev filling : Doing
  filling = fills_blocks handle own size (own / 1024) (blocks_of size - own / 1024) next refused

  pub fills_no_more : size ≤ own → fills_to rules handle own size next refused ≡ next
  fills_no_more short = ap (λ b. cond b next (cond rules.fills filling (refused errors.Invalid))) (le-leb size own short)

  pub fills_allowed : own < size → rules.fills ≡ true → fills_to rules handle own size next refused ≡ filling
  fills_allowed longer all =
      ap (λ b. cond b next (cond rules.fills filling (refused errors.Invalid))) (lt-leb size own longer) ∙ ap (λ b. cond b filling (refused errors.Invalid)) all

  pub fills_not_allowed : own < size → rules.fills ≡ false → fills_to rules handle own size next refused ≡ refused errors.Invalid
  fills_not_allowed longer none =
      ap (λ b. cond b next (cond rules.fills filling (refused errors.Invalid))) (lt-leb size own longer) ∙ ap (λ b. cond b filling (refused errors.Invalid)) none

module _ (kept : Kept) (s : Session) (node : NodeId) (offset : ℕ) (bytes : List ℕ) (i handle : ℕ) (at : (next : ℕ → Doing) → at_node s node next ≡ next i)
    (has : (next : ℕ → Doing) → at_handle s i next ≡ next handle) where
  abbrev writing : Doing
  writing = Notes [] (touches kept s i) (fills_to s.rules handle ((frozen_view kept).inode i).size offset (writes_between handle offset (offset + length bytes) bytes) refuses)

  pub writes_some : offset + length bytes < 4294967296 → (own : ℕ) → own ≡ ((frozen_view kept).inode i).size
      → writes kept s node offset bytes
      ≡ Notes [] (touches kept s i) (fills_to s.rules handle own offset (writes_between handle offset (offset + length bytes) bytes) refuses)
  writes_some small own is =
      at _ ∙ has _ ∙ ap (λ b. cond b writing (refuses errors.TooBig)) (lt-ltb (offset + length bytes) 4294967296 small)
      ∙ ap (λ n. Notes [] (touches kept s i) (fills_to s.rules handle n offset (writes_between handle offset (offset + length bytes) bytes) refuses)) (sym is)

  pub writes_large : 4294967296 ≤ offset + length bytes → writes kept s node offset bytes ≡ refuses errors.TooBig
  writes_large large = at _ ∙ has _ ∙ ap (λ b. cond b writing (refuses errors.TooBig)) (le-ltb (offset + length bytes) 4294967296 large)
