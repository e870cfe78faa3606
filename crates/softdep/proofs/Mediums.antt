-- What a write, an issue and the word of the device do to what a medium holds of a queue.
use Rattle.std.proofs.Common.{◌≡◌, ℕ, ◌<◌, Bool, true, false, ◌||◌, List, [], ◌∷◌, ◌++◌, inl, inr, refl, sym, ap, ap₂, ◌∙◌, subst, length, arith}
use Rattle.std.proofs.lemmas.Bool.{cases_eq}
use Rattle.std.proofs.lemmas.List.Elements.{All-append, All-cons, All-nil}
use Rattle.model.specs.Layout.{Geometry}
use Rattle.model.specs.View.{View, view_of}
use Rattle.model.specs.Image.{block_at, image_view}
use Rattle.ordering.specs.Cuts.{Pending, seen}
use Rattle.ordering.specs.Ghosts.{at_rest}
use Rattle.queue_model.specs.Blocks.{home_of}
use Rattle.queue_model.specs.Flush.{ready, taken}
use Rattle.queue_model.specs.Files.{Written as Issue, updates}
use Rattle.queue_model.proofs.HistoryLemmas.{write_joins}
use Rattle.device.specs.Writes.{image_after}
use Rattle.device.specs.Media.{Medium, Held, image_of, cached, written, wrote, settled as settled_medium}
use Rattle.power_cut.specs.Epochs.{Put, Shows, union, together, all_behind, ready_put}
use Rattle.power_cut.specs.Standing.{AreWithin, writes_of}
use Rattle.power_cut.specs.Volumes.{Moment}
use Rattle.power_cut.proofs.EpochLemmas.{left_is_cut, epoch_behind, epoch_written}
use Rattle.power_cut.proofs.ImageLemmas.{stands_synced}
use Rattle.softdep.specs.Queued.{Queued, AreClosed, unsynced_of, next_cut, flushed, settled, issued}
use Rattle.softdep.specs.OnMedium.{IsOnMedium, KeepsFrame}
use Rattle.softdep.proofs.Frames.{image_frames}
use Rattle.softdep.proofs.Queues.{closed_flushed, flushed_same}

-- ---- unions

or_swap : (x y : Bool) → (x || y) ≡ (y || x)
or_swap true true = refl
or_swap true false = refl
or_swap false true = refl
or_swap false false = refl

union_swap : (cut more : List Bool) → union cut more ≡ union more cut
union_swap [] [] = refl
union_swap [] (d ∷ more) = refl
union_swap (b ∷ cut) [] = refl
union_swap (b ∷ cut) (d ∷ more) = ap₂ (λ x l. x ∷ l) (or_swap b d) (union_swap cut more)

module _ (mounted : View) (queue : Queued) (m : Medium) (on : IsOnMedium mounted queue m) where
  abbrev geo : Geometry
  geo = queue.geometry

  abbrev q : List Pending
  q = unsynced_of queue

  abbrev durable : View
  durable = image_view queue.geometry m.durable

  -- the moment of the volume
  abbrev moment : Moment
  moment = record { written = queue.written; cut = queue.durable; durable = block_at m.durable; loose = on.puts; ghost = at_rest (λ a. false) (λ n. false) }

  -- what the device answers shows what is durable and what is loose
  pub answers_view : image_view queue.geometry (image_of m) ≡ seen (image_view queue.geometry m.durable) (unsynced_of queue) queue.loose
  answers_view =
      ap (view_of geo) (stands_synced m moment (record { durable = refl; loose = on.writes; within = on.within })).durable
      ∙ (left_is_cut geo (block_at m.durable) q on.puts on.epoch).1 ∙ ap (seen durable q) on.loose

  -- once the device has told that all is durable
  pub on_settled : AreClosed queue → IsOnMedium mounted (settled queue) (settled_medium m)
  on_settled closed =
      let joins = write_joins mounted (updates queue.written) queue.durable queue.loose closed.durable closed.loose in
      record {
        image = image_frames queue.geometry m.durable m.loose on.image on.frames;
        frames = All-nil (KeepsFrame queue.geometry);
        durable = answers_view ∙ ap (λ v. seen v q queue.loose) on.durable ∙ sym joins.2;
        puts = [];
        epoch = tt;
        writes = refl;
        within = tt;
        loose = refl;
      }

  -- after the write of a block with all that may go there
  pub on_flushed : (a : ℕ) (block : List ℕ) → a < length m.durable → Shows geo a block (seen durable q (ready (home_of geo) a q)) → KeepsFrame queue.geometry (a, block) → IsOnMedium mounted (flushed queue a) (cached m a block)
  on_flushed a block low shows keeps = record {
    image = on.image;
    frames = All-append (KeepsFrame queue.geometry) m.loose ((a, block) ∷ []) on.frames (All-cons (KeepsFrame queue.geometry) (a, block) [] keeps (All-nil (KeepsFrame queue.geometry)));
    durable = on.durable;
    puts = ready_put geo a block q ∷ on.puts;
    epoch = epoch_written geo durable q on.puts a block on.epoch shows;
    writes = ap (λ ws. ws ++ (a, block) ∷ []) on.writes;
    within = (low, on.within);
    loose = ap (union (ready (home_of geo) a q)) on.loose ∙ union_swap (ready (home_of geo) a q) queue.loose;
  }

-- ---- issues

together_behind : (q : List Pending) (u : Pending) (ps : List Put) → together (u ∷ q) (all_behind ps) ≡ false ∷ together q ps
together_behind q u [] = refl
together_behind q u (p ∷ ps) = ap (union (false ∷ p.cut)) (together_behind q u ps)

behind_writes : (ps : List Put) → writes_of (all_behind ps) ≡ writes_of ps
behind_writes [] = refl
behind_writes (p ∷ ps) = ap (λ ws. ws ++ (p.address, p.bytes) ∷ []) (behind_writes ps)

behind_within : (n : ℕ) (ps : List Put) → AreWithin n ps → AreWithin n (all_behind ps)
behind_within n [] w = tt
behind_within n (p ∷ ps) w = (w.0, behind_within n ps w.1)

pub on_issued : (mounted : View) (queue : Queued) (m : Medium) (ws : List Issue) → IsOnMedium mounted queue m → IsOnMedium mounted (issued queue ws) m
on_issued mounted queue m [] on = on
on_issued mounted queue m (w ∷ ws) on = on_issued mounted (record queue { written = w ∷ queue.written; durable = false ∷ queue.durable; loose = false ∷ queue.loose }) m ws (record {
  image = on.image;
  frames = on.frames;
  durable = on.durable;
  puts = all_behind on.puts;
  epoch = epoch_behind queue.geometry (image_view queue.geometry m.durable) (unsynced_of queue) w.update on.puts on.epoch;
  writes = on.writes ∙ sym (behind_writes on.puts);
  within = behind_within (length m.durable) on.puts on.within;
  loose = together_behind (unsynced_of queue) w.update on.puts ∙ ap (λ l. false ∷ l) on.loose;
})

-- ---- with nothing loose all is durable already

pub on_settled_same : (mounted : View) (queue : Queued) (m : Medium) → m.loose ≡ [] → IsOnMedium mounted queue (settled_medium m) → IsOnMedium mounted queue m
on_settled_same mounted queue m none on = subst (IsOnMedium mounted queue) (settled_same m none) on
  where
    settled_same : (m : Medium) → m.loose ≡ [] → settled_medium m ≡ m
    settled_same m none = ap (λ l. record { durable = image_after m.durable l; loose = [] }) none ∙ sym (ap (λ l. record { durable = m.durable; loose = l }) none)

-- ---- a flush, whose write left the queue so

module _ (mounted : View) (order : Bool) (old mid : Queued) (a count : ℕ) (closed : AreClosed old) (is : mid ≡ flushed old a) (counted : count ≡ taken (next_cut old a)) (h h' : Held) where
  -- what it wrote, if it wrote something
  abbrev WroteOn : Type 0
  WroteOn = (block : List ℕ) × (h' ≡ wrote order h a block) × (IsOnMedium mounted old h.now → IsOnMedium mounted mid (cached h.now a block))

  pub same_queue : count ≡ 0 → mid ≡ old
  same_queue zero = is ∙ flushed_same old closed a (sym counted ∙ zero)

  pub on_nothing : count ≡ 0 → h' ≡ h → IsOnMedium mounted old h.now → IsOnMedium mounted mid h'.now
  on_nothing zero same on = subst (λ (x : Held). IsOnMedium mounted mid x.now) (sym same) (subst (λ w. IsOnMedium mounted w h.now) (sym (same_queue zero)) on)

  pub on_loose : order ≡ false → (count ≡ 0 → h' ≡ h) → (0 < count → WroteOn) → IsOnMedium mounted old h.now → IsOnMedium mounted mid h'.now
  on_loose loose same wrote_on on = elim (cases_eq count 0) [
    | inl zero ↦ on_nothing zero (same zero) on
    | inr some ↦ let w = wrote_on (omega (arith, some)) in
        subst (IsOnMedium mounted mid) (sym (ap (λ (x : Held). x.now) w.1 ∙ ap (λ k. written k h.now a w.0) loose)) (w.2 on)
  ]

  pub on_durable : order ≡ true → h'.now.loose ≡ [] → (count ≡ 0 → h' ≡ h) → (0 < count → WroteOn) → IsOnMedium mounted old h.now → IsOnMedium mounted (settled mid) h'.now
  on_durable keeps none same wrote_on on =
      let closed_mid = subst AreClosed (sym is) (closed_flushed old closed a) in
      elim (cases_eq count 0) [
        | inl zero ↦ on_settled_same mounted (settled mid) h'.now none (on_settled mounted mid h'.now (on_nothing zero (same zero) on) closed_mid)
        | inr some ↦ let w = wrote_on (omega (arith, some)) in
            subst (IsOnMedium mounted (settled mid)) (sym (ap (λ (x : Held). x.now) w.1 ∙ ap (λ k. written k h.now a w.0) keeps)) (on_settled mounted mid (cached h.now a w.0) (w.2 on) closed_mid)
      ]
