-- The steps of the unmount.
use Rattle.std.proofs.Common.{◌≡◌, ◌+◌, ℕ, Bool, true, false, cond, suc, [], ◌∷◌, ◌∙◌, Option, Some, None, Result, Ok, Err, ap, sym, subst}
use Rattle.std.specs.Prelude.{slice_index_or}
use Rattle.attributes.specs.Words.{words_of}
use Rattle.attributes.specs.declared.Attributes.{Attributes as Own}
use Rattle.frozen.specs.Kept.{Kept}
use Rattle.fuse_wire.specs.declared.errors.Errno.{Errno}
use Rattle.fuse_wire.specs.declared.numbers.NodeId.{NodeId}
use Rattle.machine.specs.Command.{Close, SetAttributes}
use Rattle.model.specs.Layout.{Geometry, inode_count}
use Rattle.fuse_nodes.specs.Known.{released_by}
use Rattle.fuse_nodes.specs.Table.{Closed, found, known}
use Rattle.snapshot.specs.Asked.{asked}
use Rattle.snapshot.specs.declared.command.Command.{Command}
use Rattle.fuse_reader.specs.Said.{Said}
use Rattle.fuse_writer.specs.declared.session.Session.{Session}
use Rattle.fuse_writer.specs.Ahead.{settled}
use Rattle.fuse_writer.specs.Doings.{Does, Doing, IsDone, IsSettled, LeadsOn, Notes, WasAsked, go_on_at, go_on_or, noted, refuses, says_done}
use Rattle.fuse_writer.specs.Requests.{closed, closes, closes_all, closes_by, closes_often, ends, opened_often, settles, settles_all, settles_by, settles_found, syncs, syncs_all, syncs_node, syncs_still}
use Rattle.fuse_writer.specs.Saying.{said_done}
use Rattle.fuse_writer.specs.Turns.{Turn}
use Rattle.fuse_writer.proofs.DoingLemmas.{Left, does_note, ends_so, on_done, on_equal, on_err, on_ok, on_settled, on_then}

-- what is ahead of the record of an inode is known
whole : (s : Session) (i : ℕ) (next : Session → Doing) (refused : Errno → Doing) (o : Option Own) → o ≡ slice_index_or s.ahead i None → settles s i next refused ≡ settles_by s i o next refused
unfolding settles
whole s i next refused o e = ap (λ (a : Option Own). settles_by s i a next refused) (sym e)

module _ {D : Type 0} where
  -- one of those who opened a file is done
  module _ (s s' : Session) (i : ℕ) (same : s' ≡ closed s i) (next : Doing) (refused : Errno → Doing) where
    pub closes_none : (turn : Turn D) → None ≡ released_by (known s.nodes i).open_by → LeadsOn (closes s i next refused) turn s next turn s'
    closes_none turn none said new last does =
        does_note turn new s last said (Closed i ∷ []) [] (closes_by (released_by (known s.nodes i).open_by) next refused)
        (subst (λ (o : Option ℕ). Does (closes_by o next refused) turn (closed s i) said new last) none
        (subst (λ (u : Session). Does next turn u said new last) same does))

    pub closes_last : {T : Type 0} (old mid : Turn D) (handle : ℕ) (command : Command) (outcome : Result T Errno) → Some handle ≡ released_by (known s.nodes i).open_by
        → WasAsked old.calls mid.calls command (IsDone outcome) → ((geo : Geometry) → asked geo command ≡ Close handle)
        → LeadsOn (closes s i next refused) old s (go_on_or outcome next refused) mid s'
    closes_last old mid handle command outcome some was asks said new last does =
        does_note old new s last said (Closed i ∷ []) [] (closes_by (released_by (known s.nodes i).open_by) next refused)
        (subst (λ (o : Option ℕ). Does (closes_by o next refused) old (closed s i) said new last) some
        (on_done old mid (closed s i) s' (Close handle) command outcome was asks same next refused said new last does))

  module _ (i : ℕ) (next : Session → Doing) (refused : Errno → Doing) where
    often_step : {T : Type 0} (old mid : Turn D) (s s' : Session) (outcome : Result T Errno)
        → ((next : Doing) (refused : Errno → Doing) → LeadsOn (closes s i next refused) old s (go_on_or outcome next refused) mid s') → s' ≡ closed s i
        → (n : ℕ) → LeadsOn (closes_often s i (suc n) next refused) old s (go_on_or outcome (closes_often s' i n next refused) refused) mid s'
    unfolding closes_often
    often_step old mid s s' outcome on same n =
        subst (λ (t : Session). LeadsOn (closes s i (closes_often t i n next refused) refused) old s (go_on_or outcome (closes_often s' i n next refused) refused) mid s') same
        (on (closes_often s' i n next refused) refused)

    pub often_more : {T : Type 0} (a : Doing) (begin old mid : Turn D) (u s s' : Session) (outcome : Result T Errno) (m n : ℕ)
        → LeadsOn a begin u (closes_often s i m next refused) old s → suc n ≡ m
        → ((next : Doing) (refused : Errno → Doing) → LeadsOn (closes s i next refused) old s (go_on_or outcome next refused) mid s') → s' ≡ closed s i
        → LeadsOn a begin u (go_on_or outcome (closes_often s' i n next refused) refused) mid s'
    often_more a begin old mid u s s' outcome m n before left on same =
        on_then a (closes_often s i m next refused) (go_on_or outcome (closes_often s' i n next refused) refused) begin old mid u s s' before
        (subst (λ k. LeadsOn (closes_often s i k next refused) old s (go_on_or outcome (closes_often s' i n next refused) refused) mid s') left
        (often_step old mid s s' outcome on same n))

    pub often_none : (turn : Turn D) (s : Session) (n : ℕ) → n ≡ 0 → LeadsOn (closes_often s i n next refused) turn s (next s) turn s
    unfolding closes_often
    often_none turn s n none said new last does = subst (λ m. Does (closes_often s i m next refused) turn s said new last) (sym none) does

  module _ (next : Doing) (refused : Errno → Doing) where
    all_step : {T : Type 0} (old mid : Turn D) (s s' : Session) (k count : ℕ) (outcome : Result T Errno) → count ≡ opened_often (known s.nodes k).open_by
        → ((next : Session → Doing) (refused : Errno → Doing) → LeadsOn (closes_often s k count next refused) old s (go_on_or outcome (next s') refused) mid s')
        → (n : ℕ) → LeadsOn (closes_all s k (suc n) next refused) old s (go_on_or outcome (closes_all s' (k + 1) n next refused) refused) mid s'
    unfolding closes_all
    all_step old mid s s' k count outcome counted on n =
        subst (λ m. LeadsOn (closes_often s k m (λ t. closes_all t (k + 1) n next refused) refused) old s
        (go_on_or outcome (closes_all s' (k + 1) n next refused) refused) mid s') counted
        (on (λ t. closes_all t (k + 1) n next refused) refused)

    pub all_more : {T : Type 0} (a : Doing) (begin old mid : Turn D) (u s s' : Session) (k count : ℕ) (outcome : Result T Errno) (m n : ℕ)
        → LeadsOn a begin u (closes_all s k m next refused) old s → suc n ≡ m → count ≡ opened_often (known s.nodes k).open_by
        → ((next : Session → Doing) (refused : Errno → Doing) → LeadsOn (closes_often s k count next refused) old s (go_on_or outcome (next s') refused) mid s')
        → LeadsOn a begin u (go_on_or outcome (closes_all s' (k + 1) n next refused) refused) mid s'
    all_more a begin old mid u s s' k count outcome m n before left counted on =
        on_then a (closes_all s k m next refused) (go_on_or outcome (closes_all s' (k + 1) n next refused) refused) begin old mid u s s' before
        (subst (λ j. LeadsOn (closes_all s k j next refused) old s (go_on_or outcome (closes_all s' (k + 1) n next refused) refused) mid s') left
        (all_step old mid s s' k count outcome counted on n))

    pub all_none : (turn : Turn D) (s : Session) (k n : ℕ) → n ≡ 0 → LeadsOn (closes_all s k n next refused) turn s next turn s
    unfolding closes_all
    all_none turn s k n none said new last does = subst (λ m. Does (closes_all s k m next refused) turn s said new last) (sym none) does

  -- ---- what is ahead of records

  module _ (s : Session) (i : ℕ) (next : Session → Doing) (refused : Errno → Doing) where
    pub settles_none : (turn : Turn D) → None ≡ slice_index_or s.ahead i None → LeadsOn (settles s i next refused) turn s (next s) turn s
    settles_none turn none = on_equal (settles s i next refused) (next s) turn s (whole s i next refused None none)

    module _ {T : Type 0} (old mid : Turn D) (t : Session) (own : Own) (some : Some own ≡ slice_index_or s.ahead i None) (command : Command) (outcome : Result T Errno)
        (was : WasAsked old.calls mid.calls command (IsSettled outcome)) (asks : (geo : Geometry) → asked geo command ≡ SetAttributes i (words_of own)) (same : t ≡ s) where
      abbrev cleared : Doing
      cleared = Notes [] (settled i) (next (noted [] (settled i) s))

      asked_so : LeadsOn (settles s i next refused) old s (go_on_or outcome cleared refused) mid t
      asked_so =
          on_then (settles s i next refused) (settles_by s i (Some own) next refused) (go_on_or outcome cleared refused) old old mid s s t
          (on_equal (settles s i next refused) (settles_by s i (Some own) next refused) old s (whole s i next refused (Some own) some))
          (on_settled old mid s t (SetAttributes i (words_of own)) command outcome was asks same cleared refused)

      pub settles_not : (error : Errno) → outcome ≡ Err error → LeadsOn (settles s i next refused) old s (refused error) mid t
      settles_not error is = on_err (settles s i next refused) old mid s t outcome error cleared refused is asked_so

      pub settles_so : (x : T) (s' : Session) → outcome ≡ Ok x → s' ≡ noted [] (settled i) t → LeadsOn (settles s i next refused) old s (next s') mid s'
      settles_so x s' done after said new last does =
          on_ok (settles s i next refused) old mid s t outcome x cleared refused done asked_so said new last
          (subst (λ (u : Session). Does (Notes [] (settled i) (next (noted [] (settled i) u))) mid t said new last) same
          (does_note mid new t last said [] (settled i) (next (noted [] (settled i) t))
          (subst (λ (u : Session). Does (next u) mid u said new last) after does)))

  module _ (next : Session → Doing) (refused : Session → Errno → Doing) where
    settle_step : {T : Type 0} (old mid : Turn D) (s s' : Session) (k : ℕ) (outcome : Result T Errno)
        → ((next : Session → Doing) (refused : Errno → Doing) → LeadsOn (settles s k next refused) old s (go_on_or outcome (next s') refused) mid s')
        → (n : ℕ) → LeadsOn (settles_all s k (suc n) next refused) old s (go_on_or outcome (settles_all s' (k + 1) n next refused) (refused s)) mid s'
    unfolding settles_all
    settle_step old mid s s' k outcome on n = on (λ t. settles_all t (k + 1) n next refused) (refused s)

    pub settle_more : {T : Type 0} (a : Doing) (begin old mid : Turn D) (u s s' : Session) (k : ℕ) (outcome : Result T Errno) (m n : ℕ)
        → LeadsOn a begin u (settles_all s k m next refused) old s → suc n ≡ m
        → ((next : Session → Doing) (refused : Errno → Doing) → LeadsOn (settles s k next refused) old s (go_on_or outcome (next s') refused) mid s')
        → LeadsOn a begin u (go_on_or outcome (settles_all s' (k + 1) n next refused) (refused s)) mid s'
    settle_more a begin old mid u s s' k outcome m n before left on =
        on_then a (settles_all s k m next refused) (go_on_or outcome (settles_all s' (k + 1) n next refused) (refused s)) begin old mid u s s' before
        (subst (λ j. LeadsOn (settles_all s k j next refused) old s (go_on_or outcome (settles_all s' (k + 1) n next refused) (refused s)) mid s') left
        (settle_step old mid s s' k outcome on n))

    pub settle_end : (turn : Turn D) (s : Session) (k n : ℕ) → n ≡ 0 → LeadsOn (settles_all s k n next refused) turn s (next s) turn s
    unfolding settles_all
    settle_end turn s k n none said new last does = subst (λ m. Does (settles_all s k m next refused) turn s said new last) (sym none) does

-- a refusal that is handed on, from a session that is as it was
pub left_at : {D U : Type 0} (a : Doing) (old mid : Turn D) (s t u : Session) (refused : Session → Errno → Doing) (next : Session → Doing) (r : Result U Errno) (error : Errno)
    → Left r error → t ≡ u → LeadsOn a old s (refused u error) mid t → LeadsOn a old s (go_on_at r next refused t) mid t
left_at a old mid s t u refused next r error left same on =
    subst (λ (o : Result _ Errno). LeadsOn a old s (go_on_at o next refused t) mid t) (sym left.1)
    (subst (λ (e : Errno). LeadsOn a old s (refused t e) mid t) (sym left.2)
    (subst (λ (v : Session). LeadsOn a old s (refused v error) mid t) (sym same) on))

-- whatever was the outcome, it goes on so
pub on_either : {D T : Type 0} (a b : Doing) (old mid : Turn D) (s t : Session) (outcome : Result T Errno) → LeadsOn a old s (go_on_or outcome b (λ e. b)) mid t → LeadsOn a old s b mid t
on_either a b old mid s t (Ok x) on = on
on_either a b old mid s t (Err e) on = on

-- ---- syncs

module _ (s : Session) (node : NodeId) (data_only : Bool) where
  pub syncs_data : data_only ≡ true → syncs_node s node data_only ≡ syncs
  syncs_data is = ap (λ b. cond b syncs (settles_found s (found s.nodes node.0))) is

  pub syncs_found : (o : Option ℕ) → data_only ≡ false → o ≡ found s.nodes node.0 → syncs_node s node data_only ≡ settles_found s o
  syncs_found o is e = ap (λ b. cond b syncs (settles_found s (found s.nodes node.0))) is ∙ ap (settles_found s) (sym e)

-- by how many numbers there are
pub syncs_with : {D : Type 0} (kept : Kept) (old new : Turn D) (s s' : Session) (said : Said) (n : ℕ) → n ≡ inode_count kept.geometry
    → Does (settles_all s 0 n (λ t. syncs) (λ t. refuses)) old s said new s' → Does (syncs_all kept s) old s said new s'
syncs_with kept old new s s' said n is does = subst (λ m. Does (settles_all s 0 m (λ t. syncs) (λ t. refuses)) old s said new s') is does

-- so many were settled, or the refusal of one is told
pub settled_some : {D T : Type 0} (doing : Doing) (old mid : Turn D) (s t : Session) (outcome : Result T Errno) → LeadsOn doing old s (go_on_at outcome (λ u. says_done) (λ u. refuses) t) mid t
    → Does doing old s (said_done outcome) mid t
settled_some {T = T} doing old mid s t (Ok x) on = ends_so {T = T} old mid s t (Ok x) doing on
settled_some {T = T} doing old mid s t (Err e) on = ends_so {T = T} old mid s t (Err e) doing on

-- the unmount, by how many numbers there are
abbrev ends_by : ℕ → Session → Doing
ends_by n s = settles_all s 0 n (λ t. closes_all t 0 n syncs syncs_still) (λ t error. closes_all t 0 n (syncs_still error) (λ later. syncs_still error))

pub ends_with : {D : Type 0} (kept : Kept) (old new : Turn D) (s s' : Session) (said : Said) (n : ℕ) → n ≡ inode_count kept.geometry
    → Does (ends_by n s) old s said new s' → Does (ends kept s) old s said new s'
ends_with kept old new s s' said n is does = subst (λ m. Does (ends_by m s) old s said new s') is does
