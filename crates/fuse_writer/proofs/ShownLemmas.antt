-- What is shown of an inode whose record got what was ahead of it.
use Rattle.std.proofs.Common.{◌≡◌, ◌<◌, ◌+◌, ◌*◌, ◌/◌, ◌%◌, ◌^◌, ℕ, Bool, true, false, cond, ltb, arith, List, [], Option, Some, None, slice_index_or, unwrap_or, refl, sym, ap, ap₂, subst, ◌∙◌}
use Rattle.std.proofs.lemmas.Bool.{le-ltb}
use Rattle.attributes.specs.Words.{Fits, attributes_at, attributes_in, words_of}
use Rattle.attributes.specs.declared.Attributes.{Attributes as Own}
use Rattle.attributes.specs.declared.Time.{Time}
use Rattle.frozen.specs.Kept.{Kept, frozen_view}
use Rattle.fuse_reader.specs.Shown.{default_attributes, own_attributes, shown_by}
use Rattle.fuse_wire.specs.declared.bodies.Attributes.{Attributes}
use Rattle.model.specs.Layout.{Geometry}
use Rattle.model.specs.Uses.{is_directory_at}
use Rattle.model.specs.View.{Inode, View, with_attributes}
use Rattle.fuse_writer.specs.declared.session.Session.{Session}
use Rattle.fuse_writer.specs.Ahead.{attributes_of, settled}
use Rattle.fuse_writer.specs.Doings.{noted}
use Rattle.fuse_writer.specs.Requests.{shown_of}
use Rattle.fuse_writer.proofs.SettledLemmas.{set_none}

-- two halves are a number
halves : (n : ℕ) → n / 2 ^ 32 * 2 ^ 32 + n % 2 ^ 32 ≡ n
halves n = omega arith

time_back : (t : Time) → record { seconds = t.seconds / 2 ^ 32 * 2 ^ 32 + t.seconds % 2 ^ 32; nanoseconds = t.nanoseconds } ≡ t
time_back t = ap (λ n. record t { seconds = n }) (halves t.seconds)

-- attributes are read back
read_at : (own : Own) → attributes_at (words_of own) ≡ own
read_at own =
    ap (λ (t : Time). record own { accessed = t; modified = time_of own.modified; changed = time_of own.changed }) (time_back own.accessed)
    ∙ ap (λ (t : Time). record own { modified = t; changed = time_of own.changed }) (time_back own.modified)
    ∙ ap (λ (t : Time). record own { changed = t }) (time_back own.changed)
  where
    time_of : Time → Time
    time_of t = record { seconds = t.seconds / 2 ^ 32 * 2 ^ 32 + t.seconds % 2 ^ 32; nanoseconds = t.nanoseconds }

read_back : (own : Own) → Fits own → attributes_in (words_of own) ≡ Some own
read_back own fits = ap (λ b. cond b None (Some (attributes_at (words_of own)))) (le-ltb 65535 own.mode (omega (arith, fits))) ∙ ap (λ (a : Own). Some a) (read_at own)

module _ (kept then : Kept) (s : Session) (i : ℕ) (own : Own) (ahead : slice_index_or s.ahead i None ≡ Some own) (fits : Fits own) (same : then.geometry ≡ kept.geometry)
    (is : (frozen_view then).inode i ≡ with_attributes ((frozen_view kept).inode i) (words_of own)) where
  had : attributes_of kept s i ≡ own
  had = ap (λ (o : Option Own). unwrap_or o (own_attributes kept.geometry (frozen_view kept) s.owner i)) ahead

  has : attributes_of then (noted [] (settled i) s) i ≡ own
  has =
      ap (λ (o : Option Own). unwrap_or o (own_attributes then.geometry (frozen_view then) s.owner i)) (set_none s.ahead i)
      ∙ ap (λ (r : Inode). unwrap_or (attributes_in r.attributes) (default_attributes s.owner (is_directory_at then.geometry (frozen_view then) i))) is
      ∙ ap (λ (o : Option Own). unwrap_or o (default_attributes s.owner (is_directory_at then.geometry (frozen_view then) i))) (read_back own fits)

  -- what is shown of an inode with these attributes, by its record
  abbrev by_record : Geometry → Inode → Own → Attributes
  by_record geo r a = shown_by geo (record (frozen_view kept) { inode = λ j. r }) i a

  shown_same : shown_by then.geometry (frozen_view then) i own ≡ shown_by kept.geometry (frozen_view kept) i own
  shown_same = ap₂ (λ (geo : Geometry) (r : Inode). by_record geo r own) same is

  pub shows_the_same : shown_of then (noted [] (settled i) s) i ≡ shown_of kept s i
  shows_the_same =
      ap (shown_by then.geometry (frozen_view then) i) has ∙ shown_same ∙ ap (shown_by kept.geometry (frozen_view kept) i) (sym had)
