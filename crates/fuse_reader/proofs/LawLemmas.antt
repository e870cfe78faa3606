-- What becomes of a table by turns.
use Rattle.std.proofs.Common.{◌≡◌, ◌<◌, ◌≤◌, ◌-◌, ◌^◌, ℕ, List, [], ◌∷◌, ◌++◌, length, Option, Some, None, inl, inr, refl, sym, ap, ◌∙◌}
use Rattle.std.specs.Prelude.{◌⊎◌}
use Rattle.frozen.specs.Kept.{Kept}
use Rattle.fuse_wire.specs.declared.errors.Errno.TheVariants as errors
use Rattle.model.specs.Image.{image_view}
use Rattle.fuse_nodes.proofs.Runs.{leads}
use Rattle.fuse_nodes.specs.Runs.{after_all}
use Rattle.fuse_nodes.specs.Table.{Event, Table, after, found, id_of, known}
use Rattle.fuse_reader.specs.Desks.{ByTurns, Same, Turn}
use Rattle.fuse_reader.specs.Said.{Said, Refused}
use Rattle.fuse_reader.specs.Turns.{events_of, on_inode, on_node}

-- events after others
events_on : (first second : List Event) (t : Table) → after_all (first ++ second) t ≡ after_all second (after_all first t)
events_on [] second t = refl
events_on (event ∷ first) second t = events_on first second (after event t)

-- turns are events
turns_events : {kept : Kept} {image : List (List ℕ)} {t u : Table} → ByTurns kept image t u → (events : List Event) × (u ≡ after_all events t)
turns_events Same = ([], refl)
turns_events {kept} {image} {t} (Turn u v node asked before (inl known_then)) =
    let first = turns_events before in
    let more = events_of kept.geometry (image_view kept.geometry image) u node asked in
    (first.0 ++ more, known_then ∙ ap (after_all more) first.1 ∙ sym (events_on first.0 more t))
turns_events (Turn u v node asked before (inr same)) = let first = turns_events before in (first.0, same ∙ first.1)

pub acts_on : (kept : Kept) (image : List (List ℕ)) (t u : Table) (i : ℕ) (f : ℕ → Said) → 2 < i → i < length t → length t ≤ 2 ^ 32 → (known t i).generation < 2 ^ 32 - 1
    → ByTurns kept image t u → (on_node u (record { 0 = id_of t i }) f ≡ f i) ⊎ (on_node u (record { 0 = id_of t i }) f ≡ Refused errors.Stale)
acts_on kept image t u i f no_root within small told turns =
    let came = turns_events turns in
    by (found u (id_of t i)) (λ m e. (leads t i m came.0 no_root within small told (ap (λ w. found w (id_of t i)) (sym came.1) ∙ e)).0)
  where
    by : (o : Option ℕ) → ((m : ℕ) → o ≡ Some m → m ≡ i) → (on_inode f o ≡ f i) ⊎ (on_inode f o ≡ Refused errors.Stale)
    by None h = inr refl
    by (Some m) h = inl (ap f (h m refl))
