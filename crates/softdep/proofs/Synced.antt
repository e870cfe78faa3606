-- The writes of a sync, one after the other, as what the device held.
use Rattle.std.proofs.Common.{◌≡◌, ℕ, ◌≤◌, Bool, List, [], ◌∷◌, ◌++◌, refl, sym, ap, ap₂, ◌∙◌, subst, map, reverse, append-nil}
use Rattle.std.proofs.lemmas.List.Elements.{All-append, All-cons, All-nil}
use Rattle.std.proofs.lemmas.List.{append_assoc, map-append, reverse-append}
use Rattle.model.specs.Layout.{Geometry}
use Rattle.model.specs.View.{View}
use Rattle.model.specs.Image.{IsImage, image_view}
use Rattle.ordering.specs.Cuts.{Cell, Pending, IsClosed, seen, rest, joined, users_view}
use Rattle.queue_model.specs.Blocks.{home_of}
use Rattle.queue_model.specs.Flush.{ready, taken, IsOfBlock}
use Rattle.queue_model.specs.Sync.{Flushes, Writes, IsLeastReady}
use Rattle.queue_model.specs.Sync as sync
use Rattle.queue_model.specs.History.{History, none_of}
use Rattle.queue_model.specs.History as history
use Rattle.queue_model.proofs.HistoryLemmas.{none_seen, none_rest, write_joins, history_closed, all_on_device}
use Rattle.device.specs.Media.{Held, images_held}
use Rattle.softdep.specs.Syncing.{IsHistory, AreWrites, AreFlushes, images_of}

-- ---- writes

module _ (home : Cell → ℕ) where
  writes_then : {disk disk1 disk2 : View} {q q1 q2 : List Pending} {blocks more : List ℕ} {views later : List View} → Writes home disk q blocks views disk1 q1 → Writes home disk1 q1 more later disk2 q2
      → Writes home disk q (blocks ++ more) (views ++ later) disk2 q2
  writes_then sync.WritesNone after = after
  writes_then (sync.WritesNext a cut closed own some writes) after = sync.WritesNext a cut closed own some (writes_then writes after)

-- they are a history of what was pending, after another
history_then : (home : Cell → ℕ) (start : View) (q : List Pending) (cut : List Bool) (images : List View) → History start q [] cut images
    → {disk disk' : View} {p p' : List Pending} {blocks : List ℕ} {views : List View} → Writes home disk p blocks views disk' p' → disk ≡ seen start q cut → p ≡ rest q cut
    → (cut' : List Bool) × History start q [] cut' (reverse views ++ images) × (disk' ≡ seen start q cut') × (p' ≡ rest q cut')
history_then home start q cut images h sync.WritesNone e f = (cut, h, e, f)
history_then home start q cut images h {disk = disk} {p = p} (sync.WritesNext {views = views} a next closed own some writes) e f =
    let next_closed : IsClosed (rest q cut) next = subst (λ x. IsClosed x next) f closed in
    let joins = write_joins start q cut next (history_closed start q [] cut images h) next_closed in
    let shown : seen disk p next ≡ seen start q (joined q cut next) = ap₂ (λ d x. seen d x next) e f ∙ sym joins.2 in
    let longer = subst (λ v. History start q [] (joined q cut next) (v ∷ images)) (sym shown) (history.Writes next next_closed h) in
    let more = history_then home start q (joined q cut next) (seen disk p next ∷ images) longer writes shown (ap (λ x. rest x next) f ∙ sym joins.3) in (
      more.0,
      subst (History start q [] more.0) (sym (ap (λ l. l ++ images) (reverse-append (seen disk p next ∷ []) views) ∙ append_assoc (reverse views) (seen disk p next ∷ []) images)) more.1,
      more.2,
      more.3,
    )

module _ (geo : Geometry) (image : List (List ℕ)) (held : Held) (q : List Pending) where
  pub writes_nothing : AreWrites geo image held q image held q
  writes_nothing = record { blocks = []; more = []; writes = sync.WritesNone; held_now = sym (append-nil (images_held held)); framed = λ is. (is, All-nil (IsImage geo)) }

  pub writes_append : (image1 : List (List ℕ)) (held1 : Held) (q1 : List Pending) (image2 : List (List ℕ)) (held2 : Held) (q2 : List Pending) → AreWrites geo image held q image1 held1 q1 → AreWrites geo image1 held1 q1 image2 held2 q2
      → AreWrites geo image held q image2 held2 q2
  writes_append image1 held1 q1 image2 held2 q2 first later = record {
    blocks = first.blocks ++ later.blocks;
    more = first.more ++ later.more;
    writes = subst (λ l. Writes (home_of geo) (image_view geo image) q (first.blocks ++ later.blocks) l (image_view geo image2) q2) (sym (map-append (image_view geo) first.more later.more))
        (writes_then (home_of geo) first.writes later.writes);
    held_now = later.held_now ∙ ap (λ l. l ++ later.more) first.held_now ∙ append_assoc (images_held held) first.more later.more;
    framed = λ is. let one = first.framed is in let two = later.framed one.0 in (two.0, All-append (IsImage geo) first.more later.more one.1 two.1);
  }

  -- one write
  pub writes_one : (image1 : List (List ℕ)) (held1 : Held) (a : ℕ) (cut : List Bool) → IsClosed q cut → IsOfBlock (home_of geo) a q cut → 1 ≤ taken cut → image_view geo image1 ≡ seen (image_view geo image) q cut
      → images_held held1 ≡ images_held held ++ image1 ∷ [] → (IsImage geo image → IsImage geo image1) → AreWrites geo image held q image1 held1 (rest q cut)
  writes_one image1 held1 a cut closed own some view held_now frame = record {
    blocks = a ∷ [];
    more = image1 ∷ [];
    writes = subst (λ v. Writes (home_of geo) (image_view geo image) q (a ∷ []) (v ∷ []) v (rest q cut)) (sym view) (sync.WritesNext a cut closed own some sync.WritesNone);
    held_now = held_now;
    framed = λ is. (frame is, All-cons (IsImage geo) image1 [] (frame is) (All-nil (IsImage geo)));
  }

  -- the word of the device adds none
  pub writes_synced : (image1 : List (List ℕ)) (held1 : Held) (q1 : List Pending) (image2 : List (List ℕ)) (held2 : Held) → AreWrites geo image held q image1 held1 q1 → image2 ≡ image1 → images_held held2 ≡ images_held held1
      → AreWrites geo image held q image2 held2 q1
  writes_synced image1 held1 q1 image2 held2 w same is = record {
    blocks = w.blocks;
    more = w.more;
    writes = subst (λ i. Writes (home_of geo) (image_view geo image) q w.blocks (map (image_view geo) w.more) (image_view geo i) q1) (sym same) w.writes;
    held_now = is ∙ w.held_now;
    framed = λ of_volume. let framed = w.framed of_volume in (subst (IsImage geo) (sym same) framed.0, framed.1);
  }

  pub writes_history : (image1 : List (List ℕ)) (held1 : Held) (q1 : List Pending) → AreWrites geo image held q image1 held1 q1 → IsHistory geo image held q image1 held1 q1
  writes_history image1 held1 q1 w =
      let h = history_then (home_of geo) (image_view geo image) q (none_of q) [] history.Opens w.writes (sym (none_seen (image_view geo image) q)) (sym (none_rest q)) in
      record {
        cut = h.0;
        more = w.more;
        history = subst (History (image_view geo image) q [] h.0) (append-nil (reverse (map (image_view geo) w.more))) h.1;
        held_now = w.held_now;
        device = h.2;
        pending = h.3;
      }

  -- with nothing left pending the device is what users see
  pub history_done : (image1 : List (List ℕ)) (held1 : Held) (q1 : List Pending) → IsHistory geo image held q image1 held1 q1 → q1 ≡ [] → image_view geo image1 ≡ users_view (image_view geo image) q
  history_done image1 held1 q1 h none =
      h.device ∙ all_on_device (image_view geo image) q h.cut (history_closed (image_view geo image) q [] h.cut (reverse (map (image_view geo) h.more)) h.history) (sym h.pending ∙ none)

-- ---- flushes of the least block that has a ready update

module _ (home : Cell → ℕ) where
  flushes_then : {disk disk1 disk2 : View} {q q1 q2 : List Pending} {blocks more : List ℕ} → Flushes home disk q blocks disk1 q1 → Flushes home disk1 q1 more disk2 q2 → Flushes home disk q (blocks ++ more) disk2 q2
  flushes_then sync.Stops after = after
  flushes_then (sync.Goes a least flushes) after = sync.Goes a least (flushes_then flushes after)

  images_then : {disk disk1 : View} {q q1 : List Pending} {blocks : List ℕ} (more : List ℕ) → Flushes home disk q blocks disk1 q1 → images_of home disk q (blocks ++ more) ≡ images_of home disk q blocks ++ images_of home disk1 q1 more
  images_then more sync.Stops = refl
  images_then {disk = disk} {q = q} more (sync.Goes a least flushes) = ap (λ l. seen disk q (ready home a q) ∷ l) (images_then more flushes)

module _ (geo : Geometry) (image : List (List ℕ)) (held : Held) (q : List Pending) where
  pub flushes_nothing : AreFlushes geo image held q image held q
  flushes_nothing = record { blocks = []; flushes = sync.Stops; more = []; held_now = sym (append-nil (images_held held)); images = refl; framed = λ is. (is, All-nil (IsImage geo)) }

  pub flushes_append : (image1 : List (List ℕ)) (held1 : Held) (q1 : List Pending) (image2 : List (List ℕ)) (held2 : Held) (q2 : List Pending) → AreFlushes geo image held q image1 held1 q1 → AreFlushes geo image1 held1 q1 image2 held2 q2
      → AreFlushes geo image held q image2 held2 q2
  flushes_append image1 held1 q1 image2 held2 q2 first later = record {
    blocks = first.blocks ++ later.blocks;
    flushes = flushes_then (home_of geo) first.flushes later.flushes;
    more = first.more ++ later.more;
    held_now = later.held_now ∙ ap (λ l. l ++ later.more) first.held_now ∙ append_assoc (images_held held) first.more later.more;
    images = map-append (image_view geo) first.more later.more ∙ ap₂ (λ l m. l ++ m) first.images later.images ∙ sym (images_then (home_of geo) later.blocks first.flushes);
    framed = λ is. let one = first.framed is in let two = later.framed one.0 in (two.0, All-append (IsImage geo) first.more later.more one.1 two.1);
  }

  pub flushes_one : (image1 : List (List ℕ)) (held1 : Held) (a : ℕ) → IsLeastReady (home_of geo) q a → image_view geo image1 ≡ seen (image_view geo image) q (ready (home_of geo) a q)
      → images_held held1 ≡ images_held held ++ image1 ∷ [] → (IsImage geo image → IsImage geo image1) → AreFlushes geo image held q image1 held1 (rest q (ready (home_of geo) a q))
  flushes_one image1 held1 a least view held_now frame = record {
    blocks = a ∷ [];
    flushes = subst (λ v. Flushes (home_of geo) (image_view geo image) q (a ∷ []) v (rest q (ready (home_of geo) a q))) (sym view) (sync.Goes a least sync.Stops);
    more = image1 ∷ [];
    held_now = held_now;
    images = ap (λ v. v ∷ []) view;
    framed = λ is. (frame is, All-cons (IsImage geo) image1 [] (frame is) (All-nil (IsImage geo)));
  }

  pub flushes_synced : (image1 : List (List ℕ)) (held1 : Held) (q1 : List Pending) (image2 : List (List ℕ)) (held2 : Held) → AreFlushes geo image held q image1 held1 q1 → image2 ≡ image1 → images_held held2 ≡ images_held held1
      → AreFlushes geo image held q image2 held2 q1
  flushes_synced image1 held1 q1 image2 held2 f same is = record {
    blocks = f.blocks;
    flushes = subst (λ i. Flushes (home_of geo) (image_view geo image) q f.blocks (image_view geo i) q1) (sym same) f.flushes;
    more = f.more;
    held_now = is ∙ f.held_now;
    images = f.images;
    framed = λ of_volume. let framed = f.framed of_volume in (subst (IsImage geo) (sym same) framed.0, framed.1);
  }
