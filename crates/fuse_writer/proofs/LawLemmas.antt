-- What becomes of a session by turns.
use Rattle.std.proofs.Common.{◌≡◌, ◌<◌, ◌≤◌, ◌-◌, ◌^◌, ◌⊎◌, ℕ, List, [], ◌∷◌, ◌++◌, length, Option, Some, None, inl, inr, refl, sym, ap, ◌∙◌}
use Rattle.frozen.specs.Kept.{Kept}
use Rattle.fuse_wire.specs.declared.errors.Errno.TheVariants as errors
use Rattle.fuse_nodes.proofs.Runs.{leads}
use Rattle.fuse_nodes.specs.Runs.{after_all}
use Rattle.fuse_nodes.specs.Table.{Event, Table, found, id_of, known}
use Rattle.fuse_reader.specs.Said.{Said}
use Rattle.fuse_writer.specs.declared.session.Session.{Session}
use Rattle.fuse_writer.specs.Answers.{ByTurns, IsNoted, Same, Turned}
use Rattle.fuse_writer.specs.Doings.{Asks, Does, Doing, IfMemory, Leads, Notes, Says, noted, refuses}
use Rattle.fuse_writer.specs.Requests.{at_node, on_inode}
use Rattle.fuse_writer.specs.Turns.{Call, Turn}
use Rattle.fuse_writer.proofs.DoingLemmas.{after_more, noted_more}

-- ---- each turn notes something

noted_none : (s : Session) → IsNoted s s
noted_none s = record { events = []; changes = []; session = refl }

noted_then : (s t u : Session) → IsNoted s t → IsNoted t u → IsNoted s u
noted_then s t u one two = record {
  events = one.events ++ two.events;
  changes = one.changes ++ two.changes;
  session = two.session ∙ ap (noted two.events two.changes) one.session ∙ noted_more one.events two.events one.changes two.changes s;
}

leads_noted : (doing : Doing) (kept : Kept) (s : Session) (calls : List Call) (said : Said) (s' : Session) → Leads doing kept s calls said s' → IsNoted s s'
unfolding Leads
leads_noted (Says f) kept s [] said s' leads = record { events = []; changes = []; session = leads.1 }
leads_noted (Says f) kept s (call ∷ calls) said s' leads = absurd leads
leads_noted (Asks request f) kept s [] said s' leads = absurd leads
leads_noted (Asks request f) kept s (call ∷ calls) said s' leads = leads_noted (f call.1) kept s calls said s' leads.1
leads_noted (Notes events changes next) kept s calls said s' leads =
    noted_then s (noted events changes s) s' (record { events = events; changes = changes; session = refl }) (leads_noted next kept (noted events changes s) calls said s' leads)
leads_noted (IfMemory next none) kept s calls said s' (inl leads) = leads_noted next kept s calls said s' leads
leads_noted (IfMemory next none) kept s calls said s' (inr leads) = leads_noted none kept s calls said s' leads

pub does_noted : {D : Type 0} (doing : Doing) (old : Turn D) (s : Session) (said : Said) (new : Turn D) (s' : Session) → Does doing old s said new s' → IsNoted s s'
does_noted doing old s said new s' does = leads_noted doing new.volume.kept s does.calls said s' does.came

-- ---- and so do many

-- the table is as these events left it
turns_told : {s u : Session} → ByTurns s u → (events : List Event) × (u.nodes ≡ after_all events s.nodes)
turns_told {s} Same = ([], refl)
turns_told {s} (Turned u v time before turn) =
    let told = turns_told before in (
      told.0 ++ turn.events,
      ap (λ (w : Session). w.nodes) turn.session ∙ ap (after_all turn.events) told.1 ∙ sym (after_more told.0 turn.events s.nodes),
    )

pub acts_on : (s u : Session) (i : ℕ) (next : ℕ → Doing) → 2 < i → i < length s.nodes → length s.nodes ≤ 2 ^ 32 → (known s.nodes i).generation < 2 ^ 32 - 1 → ByTurns s u
    → (at_node u (record { 0 = id_of s.nodes i }) next ≡ next i) ⊎ (at_node u (record { 0 = id_of s.nodes i }) next ≡ refuses errors.Stale)
unfolding at_node
acts_on s u i next no_root within small told turns =
    let came = turns_told turns in
    by (found u.nodes (id_of s.nodes i))
    (λ m e. (leads s.nodes i m came.0 no_root within small told (ap (λ (t : Table). found t (id_of s.nodes i)) (sym came.1) ∙ e)).0)
  where
    by : (o : Option ℕ) → ((m : ℕ) → o ≡ Some m → m ≡ i) → (on_inode o next ≡ next i) ⊎ (on_inode o next ≡ refuses errors.Stale)
    by None h = inr refl
    by (Some m) h = inl (ap next (h m refl))
