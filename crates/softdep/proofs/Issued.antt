-- What an issue adds, one update after the other.
use Rattle.std.proofs.Common.{◌≡◌, ℕ, suc, ◌+◌, ◌<◌, Bool, false, List, [], ◌∷◌, ◌++◌, refl, ap, ◌∙◌, subst, length, take, arith, get_or, All, length-append}
use Rattle.std.proofs.Math.Seq.{take-suc, get_or-append_seam}
use Rattle.ordering.specs.Cuts.{Pending}
use Rattle.queue_model.specs.Files.{Written}
use Rattle.updates.specs.declared.change.Update.{Update}
use Rattle.softdep_queue.specs.declared.table.Table.{Table}
use Rattle.softdep_queue.specs.Rooms.{HasRoom}
use Rattle.softdep.specs.Queued.{Queued, issued, added, unmarked, after, after_event, Event, cells_of}

-- ---- counts of cells

cells_push : (us : List Update) (u : Update) → cells_of (us ++ u ∷ []) ≡ cells_of us + (1 + length u.after.items)
cells_push [] u = omega arith
cells_push (v ∷ us) u = let h = cells_push us u in omega (arith, h)

pub cells_take : (us : List Update) (i : ℕ) (d : Update) → i < length us → cells_of (take (i + 1) us) ≡ cells_of (take i us) + (1 + length (get_or us i d).after.items)
cells_take us i d low = ap (λ n. cells_of (take n us)) (let e : i + 1 ≡ suc i = omega arith in e) ∙ ap cells_of (take-suc us i d low) ∙ cells_push (take i us) (get_or us i d)

-- ---- events

pub after_push : (queue : Queued) (es : List Event) (e : Event) → after queue (es ++ e ∷ []) ≡ after_event (after queue es) e
after_push queue [] e = refl
after_push queue (x ∷ es) e = after_push (after_event queue x) es e

-- ---- what is issued

pub loose_issued : (queue : Queued) (ws : List Written) → (issued queue ws).loose ≡ unmarked queue.loose ws
loose_issued queue [] = refl
loose_issued queue (w ∷ ws) = loose_issued (record queue { written = w ∷ queue.written; durable = false ∷ queue.durable; loose = false ∷ queue.loose }) ws

-- one more
pub unmarked_push : (loose : List Bool) (ws : List Written) (w : Written) → unmarked loose (ws ++ w ∷ []) ≡ false ∷ unmarked loose ws
unmarked_push loose [] w = refl
unmarked_push loose (x ∷ ws) w = unmarked_push (false ∷ loose) ws w

pub added_push : (q : List Pending) (ws : List Written) (w : Written) → added q (ws ++ w ∷ []) ≡ w.update ∷ added q ws
added_push q [] w = refl
added_push q (x ∷ ws) w = added_push (x.update ∷ q) ws w

-- ---- room and members

pub all_at : (P : Update → Type 0) (before : List Update) (u : Update) (later : List Update) → All P (before ++ u ∷ later) → P u
all_at P before u later all = subst P (get_or-append_seam before u later u) (all (length before) u (omega (arith, length-append before (u ∷ later))))

pub subst2_room : (t : Table) (n m k l : ℕ) → n ≡ m → k ≡ l → HasRoom t n k → HasRoom t m l
subst2_room t n m k l e f room = subst (HasRoom t m) f (subst (λ x. HasRoom t x k) e room)

pub nothing_left : (us : List Update) → length us ≡ 0 → us ≡ []
nothing_left [] e = refl
nothing_left (u ∷ us) e = absurd (omega (arith, e))
