-- Bits of held blocks are cleared, in one block of maps after the other.
use Rattle.std.proofs.Common.{◌≡◌, ◌<◌, ◌≤◌, ◌+◌, ℕ, zero, suc, Bool, true, false, not, ◌&&◌, ◌||◌, cond, eqb, ltb, leb, eqb-true, eq-eqb, List, map, All, [], ◌∷◌, length, Option, Some, None, IsSome, IsTrue, unwrap_or, ◌⊎◌, inl, inr, refl, sym, ap, ap₂, ◌∙◌, subst, arith, ltb-true, lt-ltb, le-leb, slice_index_or, set as slice_set, get_or-set_same, get_or-set_other}
use mathlib.Core.Path.{fun_ext}
use Rattle.std.proofs.lemmas.Bool.{and_parts, and_from, both_ways, cases_Bool, cases_eq, cases_lt, leb-true}
use Rattle.marks.specs.Marks.{IsNextMarked, NothingMarkedFrom}
use Rattle.model.specs.Cells.{SetBlock, put_at, updated}
use Rattle.model.specs.Image.{IsBlock, IsGroupBlock}
use Rattle.model.specs.Layout.{Geometry, block_count, data_bit, group_block, group_of_address, is_data_address}
use Rattle.model.specs.Uses.{IsClaim, is_directory_at}
use Rattle.model.specs.View.{View, map_bit, view_of}
use Rattle.model.proofs.Addresses.{maps_below, maps_group}
use Rattle.model.proofs.Places.{put_here, put_there, maps_are_no_data}
use Rattle.model.proofs.Uses.{uses_agree}
use Rattle.queue_model.proofs.Lists.{bool_same}
use Rattle.frozen.specs.Kept.{Kept, KeepsFrame, KeepsMetadata, frozen_view, kept_at, kept_bytes}
use Rattle.std.specs.Arc.{arc_value}
use Rattle.frozen.specs.declared.frozen.Placed.{Placed}
use Rattle.frozen.specs.Installed.{FitsAt, FitsIn, standing, with_block, with_blocks}
use Rattle.frozen.proofs.FrozenLemmas.{frame_with}
use Rattle.metadata.specs.Shown.{Shows}
use Rattle.live_states.specs.Holdings.{Holdings, held_by}
use Rattle.live_snapshots.specs.Unmarked.{IsUnmarked, Unmarks, held_between, without_bits}

-- ---- tests

and_true : (b : Bool) → (b && true) ≡ b
and_true true = refl
and_true false = refl

or_true : (b : Bool) → (b || true) ≡ true
or_true true = refl
or_true false = refl

either : {P : Type 0} (x y : Bool) → (x || y) ≡ true → (x ≡ true → P) → (y ≡ true → P) → P
either true y t one other = one refl
either false y t one other = other t

one_less : (b m e : Bool) → cond e false (b && not m) ≡ (b && not (m || e))
one_less true true true = refl
one_less true true false = refl
one_less true false true = refl
one_less true false false = refl
one_less false true true = refl
one_less false true false = refl
one_less false false true = refl
one_less false false false = refl

both_less : (b m e : Bool) → ((b && not m) && not e) ≡ (b && not (m || e))
both_less true true e = refl
both_less true false e = refl
both_less false m e = refl

-- ---- what is held between two addresses

module _ (holdings : Holdings) where
  between_parts : (first last a : ℕ) → IsTrue (held_between holdings first last a) → IsTrue (held_by holdings a) × (first ≤ a) × (a < last)
  between_parts first last a t =
      let outer = and_parts (held_by holdings a) (leb first a && ltb a last) t in
      let inner = and_parts (leb first a) (ltb a last) outer.1 in
      (outer.0, leb-true first a inner.0, ltb-true a last inner.1)

  between_from : (first last a : ℕ) → IsTrue (held_by holdings a) → first ≤ a → a < last → IsTrue (held_between holdings first last a)
  between_from first last a h low high = and_from (held_by holdings a) (leb first a && ltb a last) h (and_from (leb first a) (ltb a last) (le-leb first a low) (lt-ltb a last high))

  -- nothing
  pub between_none : (first a : ℕ) → held_between holdings first first a ≡ false
  between_none first a = elim (cases_Bool (held_between holdings first first a)) [
    | inl t ↦ absurd (let p = between_parts first first a t in omega (arith, p.1, p.2))
    | inr f ↦ f
  ]

  -- and one block more, the next one
  pub between_more : (first from n : ℕ) → first ≤ from → IsNextMarked holdings.held from n → (a : ℕ) → (held_between holdings first from a || eqb a n) ≡ held_between holdings first (n + 1) a
  between_more first from n low next a = bool_same (held_between holdings first from a || eqb a n) (held_between holdings first (n + 1) a)
      (λ t. either (held_between holdings first from a) (eqb a n) t
      (λ was. let p = between_parts first from a was in between_from first (n + 1) a p.0 p.1 (omega (arith, p.2, next.above)))
      (λ e. let is = eqb-true a n e in between_from first (n + 1) a (subst (λ c. IsTrue (held_by holdings c)) (sym is) next.marked) (omega (arith, low, next.above, is)) (omega (arith, is))))
      (λ t. let p = between_parts first (n + 1) a t in elim (cases_eq a n) [
        | inl e ↦ ap (λ b. held_between holdings first from a || b) (eq-eqb a n e) ∙ or_true (held_between holdings first from a)
        | inr d ↦ elim (cases_lt a from) [
          | inl before ↦ ap (λ b. b || eqb a n) (between_from first from a p.0 p.1 before)
          | inr after ↦ absurd (both_ways (held_by holdings a) (next.least a (omega (arith, after)) (omega (arith, d, p.2))) p.0)
        ]
      ])

  -- and the blocks from the next one on
  pub between_joined : (from n end : ℕ) → IsNextMarked holdings.held from n → n < end → (a : ℕ) → (held_between holdings 0 from a || held_between holdings n end a) ≡ held_between holdings 0 end a
  between_joined from n end next more a = bool_same (held_between holdings 0 from a || held_between holdings n end a) (held_between holdings 0 end a)
      (λ t. either (held_between holdings 0 from a) (held_between holdings n end a) t
      (λ was. let p = between_parts 0 from a was in between_from 0 end a p.0 p.1 (omega (arith, p.2, next.above, more)))
      (λ is. let p = between_parts n end a is in between_from 0 end a p.0 (omega arith) p.2))
      (λ t. let p = between_parts 0 end a t in elim (cases_lt a from) [
        | inl before ↦ ap (λ b. b || held_between holdings n end a) (between_from 0 from a p.0 p.1 before)
        | inr after ↦ elim (cases_lt a n) [
          | inl gap ↦ absurd (both_ways (held_by holdings a) (next.least a (omega (arith, after)) gap) p.0)
          | inr here ↦ ap (λ b. held_between holdings 0 from a || b) (between_from n end a p.0 (omega (arith, here)) p.2) ∙ or_true (held_between holdings 0 from a)
        ]
      ])

  pub between_one : (n a : ℕ) → IsTrue (held_between holdings n (n + 1) a) → a ≡ n
  between_one n a t = let p = between_parts n (n + 1) a t in omega (arith, p.1, p.2)

  -- all of it
  pub between_all : (from : ℕ) → NothingMarkedFrom holdings.held from → (a : ℕ) → held_between holdings 0 from a ≡ held_by holdings a
  between_all from none a = bool_same (held_between holdings 0 from a) (held_by holdings a) (λ t. (between_parts 0 from a t).0) (λ h. elim (cases_lt a from) [
    | inl before ↦ between_from 0 from a h (omega arith) before
    | inr after ↦ absurd (both_ways (held_by holdings a) (none a (omega (arith, after))) h)
  ])

-- ---- a block of maps

module _ (geo : Geometry) (h : ℕ) where
  pub unmarked_same : (gone gone' : ℕ → Bool) (old new : List ℕ) → ((a : ℕ) → gone a ≡ gone' a) → IsUnmarked geo h gone old new → IsUnmarked geo h gone' old new
  unmarked_same gone gone' old new same is = subst (λ g. IsUnmarked geo h g old new) (fun_ext same) is

  -- no bit
  pub unmarked_none : (gone : ℕ → Bool) (old : List ℕ) → ((a : ℕ) → gone a ≡ false) → IsUnmarked geo h gone old old
  unmarked_none gone old none = record {
    view = λ blocks e. ap (view_of geo) (fun_ext (λ a. elim (cases_eq a h) [
      | inl is ↦ ap (put_at blocks h old) is ∙ put_here blocks h old ∙ sym e ∙ ap blocks (sym is)
      | inr d ↦ put_there blocks h a old d
    ])) ∙ ap (λ (f : ℕ → Bool). record (view_of geo blocks) { block_marked = f }) (fun_ext (λ a. sym (ap (λ b. (view_of geo blocks).block_marked a && not b) (none a) ∙ and_true ((view_of geo blocks).block_marked a))));
    group_block = λ g e is. is;
  }

  -- one bit more
  pub unmarked_more : (gone : ℕ → Bool) (n : ℕ) (old mid new : List ℕ) → IsUnmarked geo h gone old mid
      → ((blocks : ℕ → List ℕ) → blocks h ≡ mid → view_of geo (put_at blocks h new) ≡ updated (view_of geo blocks) (SetBlock n false))
      → ((g : ℕ) → h ≡ group_block geo g → IsGroupBlock g mid → IsGroupBlock g new)
      → IsUnmarked geo h (λ a. gone a || eqb a n) old new
  unmarked_more gone n old mid new is put maps = record {
    view = λ blocks e.
        ap (view_of geo) (fun_ext (λ a. elim (cases_eq a h) [
          | inl same ↦ ap (put_at blocks h new) same ∙ put_here blocks h new ∙ sym (put_here (put_at blocks h mid) h new) ∙ ap (put_at (put_at blocks h mid) h new) (sym same)
          | inr d ↦ put_there blocks h a new d ∙ sym (put_there blocks h a mid d) ∙ sym (put_there (put_at blocks h mid) h a new d)
        ]))
        ∙ put (put_at blocks h mid) (put_here blocks h mid) ∙ ap (λ v. updated v (SetBlock n false)) (is.view blocks e)
        ∙ ap (λ (f : ℕ → Bool). record (view_of geo blocks) { block_marked = f }) (fun_ext (λ a. one_less ((view_of geo blocks).block_marked a) (gone a) (eqb a n)));
    group_block = λ g e was. maps g e (is.group_block g e was);
  }

-- the next bit, and the first one
module _ (geo : Geometry) (holdings : Holdings) (n g : ℕ) (at : group_of_address geo n ≡ g) (mid new : List ℕ)
    (put : (blocks : ℕ → List ℕ) → blocks (group_block geo (group_of_address geo n)) ≡ mid
    → view_of geo (put_at blocks (group_block geo (group_of_address geo n)) new) ≡ updated (view_of geo blocks) (SetBlock n false))
    (maps : (k : ℕ) → group_block geo (group_of_address geo n) ≡ group_block geo k → IsGroupBlock k mid → IsGroupBlock k new) where
  abbrev home : ℕ
  home = group_block geo g

  pub next_clear : (first from : ℕ) (old : List ℕ) → first ≤ from → IsNextMarked holdings.held from n → IsUnmarked geo (group_block geo g) (held_between holdings first from) old mid
      → IsUnmarked geo (group_block geo g) (held_between holdings first (n + 1)) old new
  next_clear first from old low next is =
      unmarked_same geo home (λ a. held_between holdings first from a || eqb a n) (held_between holdings first (n + 1)) old new (between_more holdings first from n low next)
      (unmarked_more geo home (held_between holdings first from) n old mid new is
      (subst (λ x. (blocks : ℕ → List ℕ) → blocks (group_block geo x) ≡ mid → view_of geo (put_at blocks (group_block geo x) new) ≡ updated (view_of geo blocks) (SetBlock n false)) at put)
      (subst (λ x. (k : ℕ) → group_block geo x ≡ group_block geo k → IsGroupBlock k mid → IsGroupBlock k new) at maps))

  pub first_clear : IsNextMarked holdings.held n n → IsUnmarked geo (group_block geo g) (held_between holdings n (n + 1)) mid new
  first_clear next = next_clear n n mid (omega arith) next (unmarked_none geo home (held_between holdings n n) mid (between_none holdings n))

-- ---- what is kept

pub unmarks_same : (kept new : Kept) (gone gone' : ℕ → Bool) → ((a : ℕ) → gone a ≡ gone' a) → Unmarks kept gone new → Unmarks kept gone' new
unmarks_same kept new gone gone' same is = subst (λ g. Unmarks kept g new) (fun_ext same) is

-- bits that are not set
pub unmarks_none : (kept : Kept) (gone : ℕ → Bool) → ((a : ℕ) → IsTrue (gone a) → is_data_address kept.geometry a ≡ false) → Unmarks kept gone kept
unmarks_none kept gone none = record {
  geometry = refl;
  metadata = λ keeps. keeps;
  shows = λ users shows. record {
    inode = shows.inode;
    number_marked = shows.number_marked;
    block_marked = λ a. elim (cases_Bool (gone a)) [
      | inr f ↦ shows.block_marked a ∙ sym (ap (λ b. users.block_marked a && not b) f ∙ and_true (users.block_marked a))
      | inl t ↦
          let clear : (frozen_view kept).block_marked a ≡ false = unset a (none a t) in
          clear ∙ sym (ap (λ b. b && not (gone a)) (sym (shows.block_marked a) ∙ clear))
    ];
    bytes = shows.bytes;
  };
}
  where
    unset : (a : ℕ) → is_data_address kept.geometry a ≡ false → (frozen_view kept).block_marked a ≡ false
    unset a f = ap (λ b. b && map_bit (kept_bytes kept.blocks (group_block kept.geometry (group_of_address kept.geometry a))) 160 (data_bit kept.geometry a)) f

pub unmarks_joined : (kept mid new : Kept) (gone more : ℕ → Bool) → Unmarks kept gone mid → Unmarks mid more new → Unmarks kept (λ a. gone a || more a) new
unmarks_joined kept mid new gone more first second = record {
  geometry = second.geometry ∙ first.geometry;
  metadata = λ keeps. second.metadata (first.metadata keeps);
  shows = λ users shows. subst (Shows new) (ap (λ (f : ℕ → Bool). record users { block_marked = f }) (fun_ext (λ a. both_less (users.block_marked a) (gone a) (more a))))
      (second.shows (without_bits gone users) (first.shows users shows));
}

module _ (kept : Kept) (keeps : KeepsMetadata kept) (g : ℕ) (group : g < kept.geometry.groups) (new : List ℕ) (whole : IsBlock new) (gone : ℕ → Bool)
    (is : IsUnmarked kept.geometry (group_block kept.geometry g) gone (kept_bytes kept.blocks (group_block kept.geometry g)) new) where
  abbrev geo : Geometry
  geo = kept.geometry

  abbrev h : ℕ
  h = group_block geo g

  abbrev kept' : Kept
  kept' = with_block kept h new

  on_volume : h < block_count geo
  on_volume = maps_below geo keeps.frame.geometry g group

  here : kept_at kept'.blocks h ≡ Some new
  here = get_or-set_same kept.blocks h (Some new) None (omega (arith, on_volume, keeps.frame.count))

  there : (a : ℕ) → (a ≡ h → ⊥) → kept_at kept'.blocks a ≡ kept_at kept.blocks a
  there a differs = get_or-set_other kept.blocks h a (Some new) None differs

  view_then : frozen_view kept' ≡ without_bits gone (frozen_view kept)
  view_then = ap (view_of geo) (fun_ext (λ a. elim (cases_eq a h) [
    | inl e ↦ ap (λ (b : ℕ). kept_bytes kept'.blocks b) e ∙ ap (λ o. unwrap_or o []) here ∙ sym (put_here (kept_bytes kept.blocks) h new) ∙ ap (put_at (kept_bytes kept.blocks) h new) (sym e)
    | inr d ↦ ap (λ o. unwrap_or o []) (there a d) ∙ sym (put_there (kept_bytes kept.blocks) h a new d)
  ])) ∙ is.view (kept_bytes kept.blocks) refl

  is_maps : (k : ℕ) → group_block geo k ≡ h → IsGroupBlock k new
  is_maps k e =
      let ok = keeps.frame.geometry in
      let same : k ≡ g = sym (maps_group geo ok k) ∙ ap (group_of_address geo) e ∙ maps_group geo ok g in
      is.group_block k (sym e) (subst (λ j. IsGroupBlock j (kept_bytes kept.blocks h)) (sym same) (keeps.frame.group_blocks g group))

  stays_kept : (a : ℕ) → IsSome (kept_at kept.blocks a) → IsSome (kept_at kept'.blocks a)
  stays_kept a some = elim (cases_eq a h) [
    | inl e ↦ subst IsSome (sym (ap (kept_at kept'.blocks) e ∙ here)) refl
    | inr d ↦ subst IsSome (sym (there a d)) some
  ]

  claim_before : (i k a : ℕ) → IsClaim geo (frozen_view kept') i k a → IsClaim geo (frozen_view kept) i k a
  claim_before i k a c =
      let there = subst (λ v. IsClaim geo v i k a) view_then c in
      (uses_agree geo (frozen_view kept) (without_bits gone (frozen_view kept)) i k (λ number. refl) (λ m b above claim. refl) ∙ there.0, there.1)

  directory_before : (d : ℕ) → IsTrue (is_directory_at geo (frozen_view kept') d) → IsTrue (is_directory_at geo (frozen_view kept) d)
  directory_before d t = subst (λ v. IsTrue (is_directory_at geo v d)) view_then t

  installed_keeps : KeepsMetadata kept'
  installed_keeps = record {
    frame = frame_with kept h new keeps.frame (omega arith) on_volume whole is_maps;
    tables = λ i m is a c. stays_kept a (keeps.tables i m is a (claim_before i m a c));
    directory_blocks = λ d t k a c. stays_kept a (keeps.directory_blocks d (directory_before d t) k a (claim_before d k a c));
  }

  installed_unmarks : Unmarks kept gone kept'
  installed_unmarks = record {
    geometry = refl;
    metadata = λ k. installed_keeps;
    shows = λ users shows. record {
      inode = λ i. ap (λ (v : View). v.inode i) view_then ∙ shows.inode i;
      number_marked = λ i. ap (λ (v : View). v.number_marked i) view_then ∙ shows.number_marked i;
      block_marked = λ a. ap (λ (v : View). v.block_marked a) view_then ∙ ap (λ b. b && not (gone a)) (shows.block_marked a);
      bytes = λ a b t e. shows.bytes a b t (sym (there a (λ same. maps_are_no_data geo keeps.frame.geometry g a t (sym same))) ∙ e);
    };
  }

  -- where it is the only block that is installed
  module _ (ps : List Placed) (p : Placed) (alone : ps ≡ p ∷ []) (at : p.address ≡ h) (holds : arc_value p.block ≡ new) where
    pub all_fit : All (FitsIn geo) ps
    all_fit = subst (All (FitsIn geo)) (sym alone) only
      where
        fits : FitsAt geo h new
        fits = record { behind = omega arith; on_volume = on_volume; whole = whole; group_block = is_maps }

        only : (k : ℕ) (d : Placed) → k < 1 → FitsIn geo (slice_index_or (p ∷ []) k d)
        only zero d low = subst (λ a. FitsAt geo a (arc_value p.block)) (sym at) (subst (FitsAt geo h) (sym holds) fits)
        only (suc k) d low = absurd (omega (arith, low))

    same_then : with_blocks kept (map standing ps) ≡ kept'
    same_then = ap (λ qs. with_blocks kept (map standing qs)) alone ∙ ap₂ (with_block kept) at holds

    pub keeps_then : KeepsMetadata (with_blocks kept (map standing ps))
    keeps_then = subst KeepsMetadata (sym same_then) installed_keeps

    pub unmarks_then : (then : Kept) → then ≡ with_blocks kept (map standing ps) → Unmarks kept gone then
    unmarks_then then e = subst (Unmarks kept gone) (sym (e ∙ same_then)) installed_unmarks
