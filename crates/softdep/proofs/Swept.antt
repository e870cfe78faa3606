-- What writes do to what a flush writes next, and what they and the word of the device put.
use Rattle.std.proofs.Common.{◌≡◌, ℕ, ◌+◌, ◌<◌, Bool, true, false, List, [], ◌∷◌, ◌++◌, inl, inr, refl, sym, ap, ap₂, ◌∙◌, subst, length, arith, append-nil}
use Rattle.std.proofs.lemmas.Bool.{cases_eq, cases_lt}
use Rattle.std.proofs.lemmas.List.{append_assoc}
use Rattle.std.proofs.lemmas.List.Elements.{All-append, All-cons, All-nil}
use Rattle.model.specs.View.{View}
use Rattle.ordering.specs.Cuts.{Pending, IsClosed, rest, joined}
use Rattle.ordering.proofs.Flushes.{joined_closed}
use Rattle.queue_model.specs.Blocks.{home_of}
use Rattle.queue_model.specs.Flush.{ready, taken}
use Rattle.queue_model.specs.History.{none_of}
use Rattle.queue_model.specs.Files.{updates}
use Rattle.queue_model.proofs.FlushLemmas.{taken_rest}
use Rattle.queue_model.proofs.HistoryLemmas.{none_closed, joined_none, joined_joined, joined_rest}
use Rattle.power_cut.specs.Epochs.{union, beyond}
use Rattle.device.specs.Media.{Held, wrote}
use Rattle.softdep.specs.Queued.{Queued, AreClosed, IsNext, NothingNext, NothingNextFrom, unsynced_of, cut_of, pending_of, next_cut, flushed, settled, after_flush}
use Rattle.softdep.specs.Syncing.{HasPut, IsMediumOf, HasHeld}
use Rattle.softdep.proofs.Queues.{next_closed, cut_closed, closed_flushed, after_either, after_some, cut_after, pending_after, geometry_after, written_after}

-- ---- what is next after a write

own_written : (loose cut : List Bool) → taken (beyond (union loose cut) cut) ≡ 0
own_written [] [] = refl
own_written [] (true ∷ cut) = own_written [] cut
own_written [] (false ∷ cut) = own_written [] cut
own_written (b ∷ loose) [] = refl
own_written (true ∷ loose) (true ∷ cut) = own_written loose cut
own_written (true ∷ loose) (false ∷ cut) = own_written loose cut
own_written (false ∷ loose) (true ∷ cut) = own_written loose cut
own_written (false ∷ loose) (false ∷ cut) = own_written loose cut

less_left : (loose cut : List Bool) → taken cut ≡ 0 → taken (beyond loose cut) ≡ 0
less_left [] cut z = z
less_left (d ∷ loose) [] z = refl
less_left (d ∷ loose) (true ∷ cut) z = absurd (omega (arith, z))
less_left (true ∷ loose) (false ∷ cut) z = less_left loose cut z
less_left (false ∷ loose) (false ∷ cut) z = less_left loose cut z

still_written : (loose more cut : List Bool) → taken (beyond loose cut) ≡ 0 → taken (beyond (union loose more) cut) ≡ 0
still_written [] more cut z = less_left more cut z
still_written (b ∷ loose) [] cut z = z
still_written (b ∷ loose) (d ∷ more) [] z = refl
still_written (true ∷ loose) (d ∷ more) (x ∷ cut) z = still_written loose more cut z
still_written (false ∷ loose) (d ∷ more) (true ∷ cut) z = absurd (omega (arith, z))
still_written (false ∷ loose) (true ∷ more) (false ∷ cut) z = still_written loose more cut z
still_written (false ∷ loose) (false ∷ more) (false ∷ cut) z = still_written loose more cut z

-- once it is written, and all below it were, there is nothing to write up to it
pub below_next : (w : Queued) (from a : ℕ) → IsNext w from a → ((b : ℕ) → b < from → taken (next_cut w b) ≡ 0) → (b : ℕ) → b < a + 1 → taken (next_cut (after_flush false w a) b) ≡ 0
below_next w from a next below b low = subst (λ (v : Queued). taken (next_cut v b) ≡ 0) (sym (after_some w a next.has)) (elim (cases_eq b a) [
  | inl d ↦ subst (λ k. taken (beyond (union w.loose (cut_at a)) (cut_at k)) ≡ 0) (sym d) (own_written w.loose (cut_at a))
  | inr d ↦ still_written w.loose (cut_at a) (cut_at b) (elim (cases_lt b from) [ inl under ↦ below b under | inr over ↦ next.least b over (omega (arith, low, d)) ])
])
  where
    cut_at : ℕ → List Bool
    cut_at k = ready (home_of w.geometry) k (unsynced_of w)

pub nothing_more : (w : Queued) (from : ℕ) → ((b : ℕ) → b < from → taken (next_cut w b) ≡ 0) → NothingNextFrom w from → NothingNext w
nothing_more w from below above b = elim (cases_lt b from) [ inl under ↦ below b under | inr over ↦ above b over ]

-- what is written is not pending any more
pub fewer : (order : Bool) (w : Queued) → AreClosed w → (a : ℕ) → taken (next_cut w a) + length (pending_of (after_flush order w a)) ≡ length (pending_of w)
fewer order w closed a = ap (λ q. taken (next_cut w a) + length q) (pending_after order w closed a) ∙ taken_rest (pending_of w) (next_cut w a) (next_closed w closed a)

-- ---- what was put

-- a cut comes to another by a closed cut of what it leaves
abbrev pub Joins : List Pending → List Bool → List Bool → Type 0
Joins us cut cut' = (put : List Bool) × IsClosed (rest us cut) put × (cut' ≡ joined us cut put)

joins_nothing : (us : List Pending) (cut : List Bool) → IsClosed us cut → Joins us cut cut
joins_nothing us cut closed = (none_of (rest us cut), none_closed (rest us cut), sym (joined_none us cut closed))

joins_then : (us : List Pending) (cut cut1 cut2 : List Bool) → IsClosed us cut → Joins us cut cut1 → Joins us cut1 cut2 → Joins us cut cut2
joins_then us cut cut1 cut2 closed first more =
    let left : rest us cut1 ≡ rest (rest us cut) first.0 = ap (rest us) first.2 ∙ joined_rest us cut first.0 closed first.1 in
    let next : IsClosed (rest (rest us cut) first.0) more.0 = subst (λ q. IsClosed q more.0) left more.1 in
    (joined (rest us cut) first.0 more.0, joined_closed (rest us cut) first.0 more.0 first.1 next, more.2 ∙ ap (λ c. joined us c more.0) first.2 ∙ sym (joined_joined us cut first.0 more.0 closed first.1 next))

has_put : (old new : Queued) → new.geometry ≡ old.geometry → new.written ≡ old.written → Joins (updates old.written) (cut_of old) (cut_of new) → Joins (updates old.written) old.durable new.durable → HasPut old new
has_put old new geometry written cut durable = record {
  geometry = geometry;
  written = written;
  put = cut.0;
  closed = cut.1;
  cut = cut.2;
  synced = durable.0;
  synced_closed = durable.1;
  durable = durable.2;
}

pub put_nothing : (w : Queued) → AreClosed w → HasPut w w
put_nothing w closed = has_put w w refl refl (joins_nothing (updates w.written) (cut_of w) (cut_closed w closed)) (joins_nothing (updates w.written) w.durable closed.durable)

-- what is pending after it is the rest of a closed cut
pub put_pending : (old new : Queued) → AreClosed old → (put : HasPut old new) → pending_of new ≡ rest (pending_of old) put.put
put_pending old new closed put =
    ap₂ (λ h c. rest (updates h) c) put.written put.cut ∙ joined_rest (updates old.written) (cut_of old) put.put (cut_closed old closed) put.closed

pub rest_put : (old new : Queued) → AreClosed old → HasPut old new → (cut : List Bool) × IsClosed (pending_of old) cut × (pending_of new ≡ rest (pending_of old) cut)
rest_put old new closed put = (put.put, put.closed, put_pending old new closed put)

-- one after the other
pub put_then : (old new later : Queued) → AreClosed old → HasPut old new → HasPut new later → HasPut old later
put_then old new later closed first more =
    has_put old later (more.geometry ∙ first.geometry) (more.written ∙ first.written)
    (joins_then (updates old.written) (cut_of old) (cut_of new) (cut_of later) (cut_closed old closed) (first.put, first.closed, first.cut)
    (subst (λ h. Joins (updates h) (cut_of new) (cut_of later)) first.written (more.put, more.closed, more.cut)))
    (joins_then (updates old.written) old.durable new.durable later.durable closed.durable (first.synced, first.synced_closed, first.durable)
    (subst (λ h. Joins (updates h) new.durable later.durable) first.written (more.synced, more.synced_closed, more.durable)))

-- the word of the device makes durable what is loose
pub put_settled : (w : Queued) → AreClosed w → HasPut w (settled w)
put_settled w closed = has_put w (settled w) refl refl (none_of (pending_of w), none_closed (pending_of w), refl) (w.loose, closed.loose, refl)

pub put_after : (order : Bool) (w : Queued) → AreClosed w → (a : ℕ) → HasPut w (after_flush order w a)
put_after order w closed a =
    has_put w (after_flush order w a) (geometry_after order w closed a) (written_after order w closed a) (next_cut w a, next_closed w closed a, cut_after order w closed a)
    (after_either (λ v. Joins (updates w.written) w.durable v.durable) order w a (joins_nothing (updates w.written) w.durable closed.durable)
    ((flushed w a).loose, (closed_flushed w closed a).loose, refl))

-- ---- what the medium was

pub held_nothing : (mounted : View) (old : Queued) (held : Held) → HasHeld mounted old held held
held_nothing mounted old held = record { more = []; media = sym (append-nil held.media); each = All-nil (IsMediumOf mounted old) }

-- no write more
pub held_same : (mounted : View) (old : Queued) (held held1 held2 : Held) → HasHeld mounted old held held1 → held2.media ≡ held1.media → HasHeld mounted old held held2
held_same mounted old held held1 held2 h same = record { more = h.more; media = same ∙ h.media; each = h.each }

-- one write more
pub held_more : (mounted : View) (old : Queued) (held held1 held2 : Held) (order : Bool) (a : ℕ) (block : List ℕ) → HasHeld mounted old held held1 → held2 ≡ wrote order held1 a block → IsMediumOf mounted old held2.now → HasHeld mounted old held held2
held_more mounted old held held1 held2 order a block h is now = record {
  more = h.more ++ held2.now ∷ [];
  media = ap (λ (x : Held). x.media) is ∙ ap (λ m. held1.media ++ m ∷ []) (sym (ap (λ (x : Held). x.now) is)) ∙ ap (λ l. l ++ held2.now ∷ []) h.media ∙ append_assoc held.media h.more (held2.now ∷ []);
  each = All-append (IsMediumOf mounted old) h.more (held2.now ∷ []) h.each (All-cons (IsMediumOf mounted old) held2.now [] now (All-nil (IsMediumOf mounted old)));
}

-- one sweep after the other
pub held_then : (mounted : View) (old new : Queued) (held held1 held2 : Held) → AreClosed old → HasPut old new → HasHeld mounted old held held1 → HasHeld mounted new held1 held2 → HasHeld mounted old held held2
held_then mounted old new held held1 held2 closed put first later = record {
  more = first.more ++ later.more;
  media = later.media ∙ ap (λ l. l ++ later.more) first.media ∙ append_assoc held.media first.more later.more;
  each = All-append (IsMediumOf mounted old) first.more later.more first.each (λ k d l. let m = later.each k d l in record { queue = m.queue; put = put_then old new m.queue closed put m.put; on = m.on });
}
