-- What is settled once a sync is answered.
use Rattle.std.proofs.Common.{◌≡◌, ◌<◌, ◌≤◌, ◌+◌, ◌⊎◌, inl, inr, ℕ, zero, suc, Bool, true, false, arith, List, [], ◌∷◌, Option, Some, None, Result, Ok, Err, slice_index_or, slice_set, refl, sym, ap, subst, ◌∙◌}
use Rattle.std.proofs.lemmas.Bool.{cases_eq}
use Rattle.attributes.specs.declared.Attributes.{Attributes as Own}
use Rattle.frozen.specs.Kept.{Kept}
use Rattle.fuse_wire.specs.declared.bodies.Body.TheVariants.{Empty}
use Rattle.fuse_wire.specs.declared.errors.Errno.{Errno}
use Rattle.fuse_wire.specs.declared.numbers.NodeId.{NodeId}
use Rattle.fuse_wire.specs.declared.requests.Head.{Head}
use Rattle.fuse_wire.specs.Requests as asked
use Rattle.fuse_wire.specs.Requests.{Asked}
use Rattle.layout.specs.declared.refusal.Refusal.{Refusal}
use Rattle.layout.specs.declared.refusal.Refusal.TheVariants as refusals
use Rattle.machine.specs.Command.{Close}
use Rattle.model.specs.Layout.{inode_count}
use Rattle.fuse_nodes.specs.Known.{released_by}
use Rattle.fuse_nodes.specs.Table.{Closed, found, known}
use Rattle.snapshot.specs.declared.answer.Answer.{Answer}
use Rattle.fuse_reader.specs.Said.{told}
use Rattle.fuse_writer.specs.declared.session.Session.{Session}
use Rattle.fuse_writer.specs.Ahead.{settled}
use Rattle.fuse_writer.specs.Answers.{IsSettledAt, Settles, doing_of}
use Rattle.fuse_writer.specs.Doings.{Asks, Doing, Leads, Notes, Says, if_done_or, if_settled, noted, refuses, says_done}
use Rattle.fuse_writer.specs.Replied.{errno_of}
use Rattle.fuse_writer.specs.Requests.{closed, closes, closes_all, closes_by, closes_often, ends, opened_often, settles, settles_all, settles_by, settles_found, syncs, syncs_all, syncs_node, syncs_still}
use Rattle.fuse_writer.specs.Turns.{Call}

-- ---- entries of the table

pub set_none : (xs : List (Option Own)) (i : ℕ) → slice_index_or (slice_set xs i None) i None ≡ None
set_none [] zero = refl
set_none [] (suc i) = refl
set_none (x ∷ xs) zero = refl
set_none (x ∷ xs) (suc i) = set_none xs i

set_still : (xs : List (Option Own)) (i j : ℕ) → slice_index_or xs j None ≡ None → slice_index_or (slice_set xs i None) j None ≡ None
set_still [] zero j e = e
set_still [] (suc i) j e = e
set_still (x ∷ xs) zero zero e = refl
set_still (x ∷ xs) zero (suc j) e = e
set_still (x ∷ xs) (suc i) zero e = e
set_still (x ∷ xs) (suc i) (suc j) e = set_still xs i j e

-- of these nothing is ahead any more, and of what nothing was ahead nothing is
record Clears (P : ℕ → Type 0) (s u : Session) : Type 0 where
  pub now : (j : ℕ) → P j → IsSettledAt u j
  pub still : (j : ℕ) → IsSettledAt s j → IsSettledAt u j

-- ---- what a reply leads to

settled_or : (reply : Result Answer Refusal)
    → ((done : Doing) (refused : Errno → Doing) → if_settled reply done refused ≡ done)
    ⊎ ((e : Errno) × ((done : Doing) (refused : Errno → Doing) → if_settled reply done refused ≡ refused e))
settled_or (Ok answer) = inl (λ done refused. refl)
settled_or (Err refusals.NotFound) = inl (λ done refused. refl)
settled_or (Err r) = inr (errno_of r, λ done refused. refl)

module _ (kept : Kept) (t : Session) where
  -- it never comes to say that it is done
  abbrev Never : Doing → Type 0
  Never doing = (v : Session) (calls : List Call) → Leads doing kept v calls (told Empty) t → ⊥

  -- where it says so, from a session of which this is ahead, this holds
  abbrev Ends : List (Option Own) → Type 0 → Doing → Type 0
  Ends ahead Q doing = (v : Session) (calls : List Call) → v.ahead ≡ ahead → Leads doing kept v calls (told Empty) t → Q

  never_refuses : (e : Errno) → Never (refuses e)
  unfolding Leads
  never_refuses e v [] leads = let other = leads.0 in absurd cc
  never_refuses e v (call ∷ calls) leads = absurd leads

  never_still : (e : Errno) → Never (syncs_still e)
  unfolding Leads
  never_still e v [] leads = absurd leads
  never_still e v (call ∷ calls) leads = never_refuses e v calls leads.1

  -- ---- what is settled

  -- what it comes to where one is settled, or all of so many are
  abbrev Comes : (ℕ → Type 0) → Session → (Session → Doing) → Type 0
  Comes P s next = (u : Session) × (calls : List Call) × Clears P s u × Leads (next u) kept u calls (told Empty) t

  module _ (s : Session) (i : ℕ) (next : Session → Doing) (refused : Errno → Doing) (never : (e : Errno) → Never (refused e)) where
    abbrev cleared : Doing
    cleared = Notes [] (settled i) (next (noted [] (settled i) s))

    comes_cleared : (calls : List Call) → Leads cleared kept s calls (told Empty) t → Comes (λ j. j ≡ i) s next
    unfolding Leads
    comes_cleared calls leads =
        (noted [] (settled i) s, calls, record { now = λ j is. subst (IsSettledAt (noted [] (settled i) s)) (sym is) (set_none s.ahead i); still = λ j h. set_still s.ahead i j h }, leads)

    comes_by : (reply : Result Answer Refusal) (calls : List Call) → Leads (if_settled reply cleared refused) kept s calls (told Empty) t → Comes (λ j. j ≡ i) s next
    comes_by reply calls leads =
        elim (settled_or reply) [
          | inl is ↦ comes_cleared calls (subst (λ (d : Doing). Leads d kept s calls (told Empty) t) (is cleared refused) leads)
          | inr h ↦ absurd (never h.0 s calls (subst (λ (d : Doing). Leads d kept s calls (told Empty) t) (h.1 cleared refused) leads))
        ]

    comes_so : (o : Option Own) (calls : List Call) → slice_index_or s.ahead i None ≡ o → Leads (settles_by s i o next refused) kept s calls (told Empty) t → Comes (λ j. j ≡ i) s next
    unfolding Leads
    comes_so None calls e leads = (s, calls, record { now = λ j is. subst (IsSettledAt s) (sym is) e; still = λ j h. h }, leads)
    comes_so (Some own) [] e leads = absurd leads
    comes_so (Some own) (call ∷ calls) e leads = comes_by call.1 calls leads.1

    comes_one : (calls : List Call) → Leads (settles s i next refused) kept s calls (told Empty) t → Comes (λ j. j ≡ i) s next
    unfolding settles
    comes_one calls leads = comes_so (slice_index_or s.ahead i None) calls refl leads

  next_of : (k n j : ℕ) → (j ≡ k → ⊥) → k ≤ j → (k + 1) ≤ j
  next_of k n j apart low = omega (arith, apart, low)

  comes_all : (n : ℕ) (s : Session) (k : ℕ) (next : Session → Doing) (refused : Session → Errno → Doing) → ((w : Session) (e : Errno) → Never (refused w e)) → (calls : List Call)
      → Leads (settles_all s k n next refused) kept s calls (told Empty) t → Comes (λ j. (k ≤ j) × (j < k + n)) s next
  unfolding settles_all
  comes_all zero s k next refused never calls leads = (s, calls, record { now = λ j within. absurd (omega (arith, within.0, within.1)); still = λ j h. h }, leads)
  comes_all (suc n) s k next refused never calls leads =
      let one = comes_one s k (λ v. settles_all v (k + 1) n next refused) (refused s) (never s) calls leads in
      let more = comes_all n one.0 (k + 1) next refused never one.1 one.3 in (
        more.0,
        more.1,
        record {
          now = λ j within. elim (cases_eq j k) [
            | inl is ↦ more.2.still j (one.2.now j is)
            | inr apart ↦ more.2.now j (omega (arith, apart, within.0), omega (arith, within.1))
          ];
          still = λ j h. more.2.still j (one.2.still j h);
        },
        more.3,
      )

  -- ---- what files that are closed leave

  module _ (ahead : List (Option Own)) (Q : Type 0) where
    ends_done : (reply : Result Answer Refusal) (next : Doing) (refused : Errno → Doing) → Ends ahead Q next → ((e : Errno) → Ends ahead Q (refused e)) → Ends ahead Q (if_done_or reply next refused)
    ends_done (Ok answer) next refused done none = done
    ends_done (Err r) next refused done none = none (errno_of r)

    ends_call : (handle : ℕ) (next : Doing) (refused : Errno → Doing) → Ends ahead Q next → ((e : Errno) → Ends ahead Q (refused e))
        → Ends ahead Q (Asks (Close handle) (λ reply. if_done_or reply next refused))
    unfolding Leads
    ends_call handle next refused done none v [] e leads = absurd leads
    ends_call handle next refused done none v (call ∷ calls) e leads = ends_done call.1 next refused done none v calls e leads.1

    ends_by : (o : Option ℕ) (next : Doing) (refused : Errno → Doing) → Ends ahead Q next → ((e : Errno) → Ends ahead Q (refused e)) → Ends ahead Q (closes_by o next refused)
    ends_by None next refused done none = done
    ends_by (Some handle) next refused done none = ends_call handle next refused done none

    ends_close : (s : Session) (i : ℕ) (next : Doing) (refused : Errno → Doing) → Ends ahead Q next → ((e : Errno) → Ends ahead Q (refused e)) → Ends ahead Q (closes s i next refused)
    unfolding Leads
    ends_close s i next refused done none v calls e leads =
        ends_by (released_by (known s.nodes i).open_by) next refused done none (noted (Closed i ∷ []) [] v) calls e leads

    ends_often : (n : ℕ) (s : Session) (i : ℕ) (next : Session → Doing) (refused : Errno → Doing) → ((w : Session) → Ends ahead Q (next w)) → ((e : Errno) → Ends ahead Q (refused e))
        → Ends ahead Q (closes_often s i n next refused)
    unfolding closes_often
    ends_often zero s i next refused done none = done s
    ends_often (suc n) s i next refused done none =
        ends_close s i (closes_often (closed s i) i n next refused) refused (ends_often n (closed s i) i next refused done none) none

    ends_all : (n : ℕ) (s : Session) (k : ℕ) (next : Doing) (refused : Errno → Doing) → Ends ahead Q next → ((e : Errno) → Ends ahead Q (refused e)) → Ends ahead Q (closes_all s k n next refused)
    unfolding closes_all
    ends_all zero s k next refused done none = done
    ends_all (suc n) s k next refused done none =
        ends_often (opened_often (known s.nodes k).open_by) s k (λ w. closes_all w (k + 1) n next refused) refused (λ w. ends_all n w (k + 1) next refused done none) none

    ends_never : (doing : Doing) → Never doing → Ends ahead Q doing
    ends_never doing never v calls e leads = absurd (never v calls leads)

  ends_said : (ahead : List (Option Own)) → Ends ahead (t.ahead ≡ ahead) says_done
  unfolding Leads
  ends_said ahead v [] e leads = ap (λ (w : Session). w.ahead) leads.1 ∙ e
  ends_said ahead v (call ∷ calls) e leads = absurd leads

  ends_syncs : (ahead : List (Option Own)) → Ends ahead (t.ahead ≡ ahead) syncs
  unfolding Leads
  ends_syncs ahead v [] e leads = absurd leads
  ends_syncs ahead v (call ∷ calls) e leads =
      ends_done ahead (t.ahead ≡ ahead) call.1 says_done refuses (ends_said ahead) (λ error. ends_never ahead (t.ahead ≡ ahead) (refuses error) (never_refuses error)) v calls e leads.1

  -- ---- the requests

  settled_as : (u : Session) (j : ℕ) → t.ahead ≡ u.ahead → IsSettledAt u j → IsSettledAt t j
  settled_as u j same is = ap (λ (xs : List (Option Own)). slice_index_or xs j None) same ∙ is

  node_settled : (s : Session) (node : NodeId) (calls : List Call) → Leads (syncs_node s node false) kept s calls (told Empty) t → (i : ℕ) → found s.nodes node.0 ≡ Some i → IsSettledAt t i
  node_settled s node calls leads i is =
      let one = comes_one s i (λ w. syncs) refuses never_refuses calls (subst (λ (o : Option ℕ). Leads (settles_found s o) kept s calls (told Empty) t) is leads) in
      settled_as one.0 i (ends_syncs one.0.ahead one.0 one.1 refl one.3) (one.2.now i refl)

  all_settled : (first : Kept) (s : Session) (calls : List Call) → Leads (syncs_all first s) kept s calls (told Empty) t → (i : ℕ) → i < inode_count first.geometry → IsSettledAt t i
  all_settled first s calls leads i within =
      let all = comes_all (inode_count first.geometry) s 0 (λ w. syncs) (λ w. refuses) (λ w. never_refuses) calls leads in
      settled_as all.0 i (ends_syncs all.0.ahead all.0 all.1 refl all.3) (all.2.now i (omega arith, omega (arith, within)))

  ended_settled : (first : Kept) (s : Session) (calls : List Call) → Leads (ends first s) kept s calls (told Empty) t → (i : ℕ) → i < inode_count first.geometry → IsSettledAt t i
  ended_settled first s calls leads i within =
      let n = inode_count first.geometry in
      let never : (w : Session) (e : Errno) → Never (closes_all w 0 n (syncs_still e) (λ later. syncs_still e)) =
      λ w e v more goes. ends_all v.ahead ⊥ n w 0 (syncs_still e) (λ later. syncs_still e) (ends_never v.ahead ⊥ (syncs_still e) (never_still e))
      (λ later. ends_never v.ahead ⊥ (syncs_still e) (never_still e)) v more refl goes in
      let all = comes_all n s 0 (λ w. closes_all w 0 n syncs syncs_still) (λ w e. closes_all w 0 n (syncs_still e) (λ later. syncs_still e)) never calls leads in
      settled_as all.0 i
      (ends_all all.0.ahead (t.ahead ≡ all.0.ahead) n all.0 0 syncs syncs_still (ends_syncs all.0.ahead) (λ e. ends_never all.0.ahead (t.ahead ≡ all.0.ahead) (syncs_still e) (never_still e))
      all.0 all.1 refl all.3) (all.2.now i (omega arith, omega (arith, within)))

pub sync_settles : (kept last : Kept) (s t : Session) (head : Head) (request : Asked) (calls : List Call) → Leads (doing_of kept s head request) last s calls (told Empty) t
    → Settles (inode_count kept.geometry) s head request t
unfolding doing_of
sync_settles kept last s t head (asked.Sync handle false) calls leads = node_settled last t s head.node calls leads
sync_settles kept last s t head (asked.SyncDirectory handle false) calls leads = node_settled last t s head.node calls leads
sync_settles kept last s t head asked.SyncVolume calls leads = all_settled last t kept s calls leads
sync_settles kept last s t head asked.Destroy calls leads = ended_settled last t kept s calls leads
sync_settles kept last s t head _ calls leads = tt
