-- The steps of attributes that are set.
use Rattle.std.proofs.Common.{◌≡◌, ◌<◌, ◌≤◌, ℕ, true, false, cond, [], ◌∷◌, List, Option, Some, None, Result, Ok, Err, ◌&&◌, not, sym, ap, subst, ◌∙◌}
use Rattle.std.proofs.lemmas.Bool.{le-ltb, lt-ltb}
use Rattle.std.specs.Prelude.{nat_lt, if◌then◌else◌}
use Rattle.attributes.specs.Words.{words_of}
use Rattle.attributes.specs.declared.Attributes.{Attributes as Own}
use Rattle.frozen.specs.Kept.{Kept, frozen_view}
use Rattle.fuse_wire.specs.declared.errors.Errno.{Errno}
use Rattle.fuse_wire.specs.declared.errors.Errno.TheVariants as errors
use Rattle.fuse_wire.specs.declared.numbers.NodeId.{NodeId}
use Rattle.fuse_wire.specs.declared.requests.Changes.{Changes}
use Rattle.machine.specs.Command.{Close, Open, SetAttributes, Truncate}
use Rattle.model.specs.Layout.{Geometry}
use Rattle.fuse_nodes.specs.declared.known.Open.{Open as Handled}
use Rattle.fuse_nodes.specs.Table.{known}
use Rattle.snapshot.specs.Asked.{asked}
use Rattle.snapshot.specs.declared.command.Command.{Command}
use Rattle.fuse_writer.specs.declared.granted.Rules.{Rules}
use Rattle.fuse_writer.specs.declared.session.Session.{Session}
use Rattle.fuse_writer.specs.Ahead.{attributes_of, has_attributes, notes, settled, with_changes}
use Rattle.fuse_writer.specs.Doings.{Asks, Does, Doing, IsDone, IsNumber, LeadsOn, MayGoOn, Notes, WasAsked, asks_done, asks_number, go_on, go_on_or, if_done_or, if_number, noted, refuses}
use Rattle.fuse_writer.specs.Requests.{at_node, at_path, fills_to, is_directory, keeps, resizes, resizes_by_path, resizes_known, says_shown, sets_attributes, sets_size}
use Rattle.fuse_writer.specs.Turns.{Turn}
use Rattle.fuse_writer.proofs.DoingLemmas.{does_note, does_same, on_done, on_equal, on_err, on_may, on_number, on_ok, on_then}

-- ---- an open file

module _ (rules : Rules) (handle own size : ℕ) (done : Doing) (refused : Errno → Doing) where
  abbrev cutting : Doing
  cutting = Asks (Truncate handle size) (λ reply. if_done_or reply done refused)

  pub resizes_less : size < own → resizes rules handle own size done refused ≡ cutting
  unfolding resizes
  resizes_less less = ap (λ b. cond b cutting (fills_to rules handle own size done refused)) (lt-ltb size own less)

  pub resizes_more : own ≤ size → resizes rules handle own size done refused ≡ fills_to rules handle own size done refused
  unfolding resizes
  resizes_more more = ap (λ b. cond b cutting (fills_to rules handle own size done refused)) (le-ltb size own more)

-- ---- one that is opened for it

-- the handle is closed in any case
abbrev pub closing : Session → ℕ → ℕ → Doing → ℕ → Doing
closing s own size next handle =
    resizes s.rules handle own size (asks_done (Close handle) next) (λ error. Asks (Close handle) (λ reply. refuses error))

module _ {D : Type 0} (s : Session) (i own size : ℕ) (next : Doing) where
  pub by_no_path : (turn : Turn D) (error : Errno) → ((next : List ℕ → Doing) → MayGoOn (at_path s i next) (refuses error))
      → LeadsOn (resizes_by_path s i own size next) turn s (refuses error) turn s
  unfolding resizes_by_path
  by_no_path turn error gives = on_may (resizes_by_path s i own size next) (refuses error) turn s (gives (λ path. asks_number (Open path) (closing s own size next)))

  pub by_path : (old mid : Turn D) (t : Session) (path : List ℕ) (command : Command) (outcome : Result ℕ Errno) → ((next : List ℕ → Doing) → MayGoOn (at_path s i next) (next path))
      → WasAsked old.calls mid.calls command (IsNumber outcome) → ((geo : Geometry) → asked geo command ≡ Open path) → t ≡ s
      → LeadsOn (resizes_by_path s i own size next) old s (if_number outcome (closing s own size next)) mid t
  unfolding resizes_by_path
  by_path old mid t path command outcome gives was asks same =
      on_then (resizes_by_path s i own size next) (asks_number (Open path) (closing s own size next)) (if_number outcome (closing s own size next)) old old mid s s t
      (on_may (resizes_by_path s i own size next) (asks_number (Open path) (closing s own size next)) old s (gives (λ path. asks_number (Open path) (closing s own size next))))
      (on_number old mid s t (Open path) command outcome was asks same (closing s own size next))

  pub closing_on : {T : Type 0} (old mid : Turn D) (t u : Session) (handle : ℕ) (resized : Result T Errno) → t ≡ s
      → ((done : Doing) (refused : Errno → Doing) → LeadsOn (resizes t.rules handle own size done refused) old t (go_on_or resized done refused) mid u)
      → LeadsOn (closing s own size next handle) old t (go_on_or resized (asks_done (Close handle) next) (λ error. Asks (Close handle) (λ reply. refuses error))) mid u
  closing_on old mid t u handle resized same on =
      subst (λ (w : Session). LeadsOn (closing w own size next handle) old t (go_on_or resized (asks_done (Close handle) next) (λ error. Asks (Close handle) (λ reply. refuses error))) mid u) same
      (on (asks_done (Close handle) next) (λ error. Asks (Close handle) (λ reply. refuses error)))

-- ---- a size

module _ (kept : Kept) (s : Session) (i : ℕ) (next : Doing) (asked_size : Option ℕ) where
  pub sets_no_size : asked_size ≡ None → sets_size kept s i asked_size next ≡ next
  unfolding sets_size
  sets_no_size none = ap (λ (o : Option ℕ). sets_size kept s i o next) none

  module _ (size : ℕ) (some : asked_size ≡ Some size) where
    abbrev resizing : Doing
    resizing = resizes_known s i ((frozen_view kept).inode i).size size (known s.nodes i).open_by next

    abbrev if_small : Doing
    if_small = if nat_lt size 4294967296 then resizing else refuses errors.TooBig

    whole : sets_size kept s i asked_size next ≡ (if is_directory kept i then refuses errors.IsDirectory else if_small)
    unfolding sets_size
    whole = ap (λ (o : Option ℕ). sets_size kept s i o next) some

    pub sets_directory : is_directory kept i ≡ true → sets_size kept s i asked_size next ≡ refuses errors.IsDirectory
    sets_directory is = whole ∙ ap (λ b. cond b (refuses errors.IsDirectory) if_small) is

    module _ (is : is_directory kept i ≡ false) where
      pub sets_large : 4294967296 ≤ size → sets_size kept s i asked_size next ≡ refuses errors.TooBig
      sets_large large =
          whole ∙ ap (λ b. cond b (refuses errors.IsDirectory) if_small) is ∙ ap (λ b. cond b resizing (refuses errors.TooBig)) (le-ltb size 4294967296 large)

      pub sets_small : size < 4294967296 → (own : ℕ) → own ≡ ((frozen_view kept).inode i).size → (o : Option Handled) → o ≡ (known s.nodes i).open_by
          → sets_size kept s i asked_size next ≡ resizes_known s i own size o next
      sets_small small own same o e =
          whole ∙ ap (λ b. cond b (refuses errors.IsDirectory) if_small) is ∙ ap (λ b. cond b resizing (refuses errors.TooBig)) (lt-ltb size 4294967296 small)
          ∙ ap (λ n. resizes_known s i n size (known s.nodes i).open_by next) (sym same) ∙ ap (λ (h : Option Handled). resizes_known s i own size h next) (sym e)

-- ---- what is kept

module _ (s : Session) (i : ℕ) (changes : Changes) (own : Own) (next : Session → Doing) where
  abbrev noting : Doing
  noting = Notes [] (notes s i own) (next (noted [] (notes s i own) s))

  abbrev cleared : Doing
  cleared = Notes [] (settled i) (next (noted [] (settled i) s))

  abbrev settling : Doing
  settling = asks_done (SetAttributes i (words_of own)) cleared

  pub keeps_none : s.rules.keeps_attributes ≡ false → keeps s i changes own next ≡ next s
  unfolding keeps
  keeps_none is = ap (λ b. cond (not b) (next s) (cond (has_attributes changes) settling noting)) is

  keeps_size : s.rules.keeps_attributes ≡ true → has_attributes changes ≡ false → keeps s i changes own next ≡ noting
  unfolding keeps
  keeps_size is has =
      ap (λ b. cond (not b) (next s) (cond (has_attributes changes) settling noting)) is ∙ ap (λ h. cond h settling noting) has

  keeps_more : s.rules.keeps_attributes ≡ true → has_attributes changes ≡ true → keeps s i changes own next ≡ settling
  unfolding keeps
  keeps_more is has =
      ap (λ b. cond (not b) (next s) (cond (has_attributes changes) settling noting)) is ∙ ap (λ h. cond h settling noting) has

  -- the size alone was set
  pub keeps_noted : {D : Type 0} (turn : Turn D) (s' : Session) → s.rules.keeps_attributes ≡ true → has_attributes changes ≡ false → s' ≡ noted [] (notes s i own) s
      → LeadsOn (keeps s i changes own next) turn s (next s') turn s'
  keeps_noted turn s' is has same said new last does =
      does_same turn new s last said (keeps s i changes own next) noting (keeps_size is has)
      (does_note turn new s last said [] (notes s i own) (next (noted [] (notes s i own) s))
      (subst (λ (u : Session). Does (next u) turn u said new last) same does))

  -- more was
  module _ {D T : Type 0} (old mid : Turn D) (t : Session) (command : Command) (outcome : Result T Errno) (was : WasAsked old.calls mid.calls command (IsDone outcome))
      (asks : (geo : Geometry) → asked geo command ≡ SetAttributes i (words_of own)) (same : t ≡ s) (is : s.rules.keeps_attributes ≡ true) (has : has_attributes changes ≡ true) where
    asked_so : LeadsOn (keeps s i changes own next) old s (go_on_or outcome cleared refuses) mid t
    asked_so =
        on_then (keeps s i changes own next) settling (go_on_or outcome cleared refuses) old old mid s s t
        (on_equal (keeps s i changes own next) settling old s (keeps_more is has))
        (on_done old mid s t (SetAttributes i (words_of own)) command outcome was asks same cleared refuses)

    pub keeps_refused : (error : Errno) → outcome ≡ Err error → LeadsOn (keeps s i changes own next) old s (refuses error) mid t
    keeps_refused error refused = on_err (keeps s i changes own next) old mid s t outcome error cleared refuses refused asked_so

    pub keeps_settled : (x : T) (s' : Session) → outcome ≡ Ok x → s' ≡ noted [] (settled i) t → LeadsOn (keeps s i changes own next) old s (next s') mid s'
    keeps_settled x s' done after said new last does =
        on_ok (keeps s i changes own next) old mid s t outcome x cleared refuses done asked_so said new last
        (subst (λ (u : Session). Does (Notes [] (settled i) (next (noted [] (settled i) u))) mid t said new last) same
        (does_note mid new t last said [] (settled i) (next (noted [] (settled i) t))
        (subst (λ (u : Session). Does (next u) mid u said new last) after does)))

-- in a session that is as the request found it
pub keeps_at : {D T : Type 0} (mid new : Turn D) (s t u : Session) (i : ℕ) (changes : Changes) (own : Own) (outcome : Result T Errno) → t ≡ s
    → ((next : Session → Doing) → LeadsOn (keeps t i changes own next) mid t (go_on outcome (next u)) new u) → (next : Session → Doing)
    → LeadsOn (keeps s i changes own next) mid t (go_on outcome (next u)) new u
keeps_at mid new s t u i changes own outcome same on next = subst (λ (w : Session). LeadsOn (keeps w i changes own next) mid t (go_on outcome (next u)) new u) same (on next)

-- ---- the request

-- what an inode is given, and a size and that are set
abbrev pub given : Kept → Session → ℕ → Changes → Own
given kept s i changes = with_changes s.time changes (attributes_of kept s i)

abbrev pub sets_with : Kept → Session → ℕ → Changes → Own → Doing
sets_with kept s i changes own = sets_size kept s i changes.size (keeps s i changes own (says_shown i))

module _ (kept : Kept) (s : Session) (node : NodeId) (changes : Changes) (i : ℕ) (at : (next : ℕ → Doing) → at_node s node next ≡ next i) where
  abbrev setting : Doing
  setting = sets_with kept s i changes (given kept s i changes)

  pub sets_forbidden : (has_attributes changes && not s.rules.keeps_attributes) ≡ true → sets_attributes kept s node changes ≡ refuses errors.NotPermitted
  sets_forbidden is = at _ ∙ ap (λ b. cond b (refuses errors.NotPermitted) setting) is

  pub sets_allowed : (has_attributes changes && not s.rules.keeps_attributes) ≡ false → sets_attributes kept s node changes ≡ setting
  sets_allowed is = at _ ∙ ap (λ b. cond b (refuses errors.NotPermitted) setting) is
