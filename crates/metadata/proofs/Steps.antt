-- One more change: the blocks in memory show what users see with it.
use Rattle.std.proofs.Common.{◌+◌, ◌&&◌, take, Result, Ok, Err, OnOk, zero, suc, All, map, slice_index_or, ◌≡◌, ◌<◌, ℕ, not, List, [], ◌∷◌, ◌++◌, ◌⊎◌, length, Option, Some, None, IsSome, unwrap_or, replicate, IsTrue, false, true, refl, sym, ap, ◌∙◌, subst, arith, inl, inr, set as slice_set, get_or-set_same, get_or-set_other}
use mathlib.Core.Path.{fun_ext}
use Rattle.std.proofs.lemmas.Bool.{cond-true, cases_eq, cases_Bool}
use Rattle.std.proofs.lemmas.Option.{same_Some}
use Rattle.std.proofs.Math.Seq.{take-suc}
use Rattle.std.proofs.lemmas.List.{length-set, map-append}
use Rattle.std.proofs.lemmas.List.Elements.{Contains-append_cases, All-push}
use Rattle.std.specs.Arc.{arc_value}
use Rattle.model.specs.Layout.{Geometry, block_count, group_block, group_of_address, is_number, is_data_address}
use Rattle.metadata.specs.Free.{Free, IsFreeOf}
use Rattle.model.specs.Image.{IsGroupBlock}
use Rattle.model.proofs.Addresses.{maps_group, address_in_group}
use Rattle.model.specs.View.{View, view_of}
use Rattle.model.specs.Cells.{Update, SetInode, SetNumber, SetBlock, SetBytes, updated, updated_all, put_at}
use Rattle.model.proofs.Places.{put_here, put_there, data_write, maps_are_no_data, inodes_are_no_data}
use Rattle.ordering.specs.Cuts.{cell_of}
use Rattle.queue_model.specs.Blocks.{home_of}
use Rattle.queue_model.proofs.Lists.{contains_cases, contains_none}
use Rattle.updates.specs.declared.change.Update as program
use Rattle.updates.specs.Values.{change}
use Rattle.updates.specs.Places.{IsCell}
use Rattle.updates.specs.Alone.{ChangesAlone}
use Rattle.frozen.specs.Kept.{Kept, KeepsFrame, frozen_view, kept_at, kept_bytes}
use Rattle.frozen.specs.declared.frozen.Placed.{Placed}
use Rattle.frozen.specs.Installed.{FitsAt, FitsIn, standing, with_block, with_blocks}
use Rattle.frozen.proofs.FrozenLemmas.{frame_from, frame_with, maps_are_frame}
use Rattle.metadata.specs.declared.staged.Staged.{Staged}
use Rattle.metadata.specs.declared.staged.Bit.{Bit}
use Rattle.metadata.specs.Shown.{Shows}
use Rattle.metadata.specs.Staged.{HasChange, IsStaged, NoneAt, IsLastAt, GivesBytes, IsBitOf, bit, bits_of, changes, after as staged_after}

-- two views with the same records and bits have the same after an update
module _ (v w : View) where
  pub same_inode : ((i : ℕ) → v.inode i ≡ w.inode i) → (u : Update) (i : ℕ) → (updated v u).inode i ≡ (updated w u).inode i
  same_inode same (SetInode n inode) i = elim (cases_eq i n) [
    | inl e ↦ ap (put_at v.inode n inode) e ∙ put_here v.inode n inode ∙ sym (put_here w.inode n inode) ∙ ap (put_at w.inode n inode) (sym e)
    | inr d ↦ put_there v.inode n i inode d ∙ same i ∙ sym (put_there w.inode n i inode d)
  ]
  same_inode same (SetNumber n marked) i = same i
  same_inode same (SetBlock a marked) i = same i
  same_inode same (SetBytes a bytes) i = same i

  pub same_number : ((i : ℕ) → v.number_marked i ≡ w.number_marked i) → (u : Update) (i : ℕ) → (updated v u).number_marked i ≡ (updated w u).number_marked i
  same_number same (SetInode n inode) i = same i
  same_number same (SetNumber n marked) i = elim (cases_eq i n) [
    | inl e ↦ ap (put_at v.number_marked n marked) e ∙ put_here v.number_marked n marked ∙ sym (put_here w.number_marked n marked) ∙ ap (put_at w.number_marked n marked) (sym e)
    | inr d ↦ put_there v.number_marked n i marked d ∙ same i ∙ sym (put_there w.number_marked n i marked d)
  ]
  same_number same (SetBlock a marked) i = same i
  same_number same (SetBytes a bytes) i = same i

  pub same_block : ((i : ℕ) → v.block_marked i ≡ w.block_marked i) → (u : Update) (i : ℕ) → (updated v u).block_marked i ≡ (updated w u).block_marked i
  same_block same (SetInode n inode) i = same i
  same_block same (SetNumber n marked) i = same i
  same_block same (SetBlock a marked) i = elim (cases_eq i a) [
    | inl e ↦ ap (put_at v.block_marked a marked) e ∙ put_here v.block_marked a marked ∙ sym (put_here w.block_marked a marked) ∙ ap (put_at w.block_marked a marked) (sym e)
    | inr d ↦ put_there v.block_marked a i marked d ∙ same i ∙ sym (put_there w.block_marked a i marked d)
  ]
  same_block same (SetBytes a bytes) i = same i

-- new bytes of block h, by which the cell of an update changes alone
module _ (kept : Kept) (frame : KeepsFrame kept) (h : ℕ) (old new : List ℕ) (u : Update) (low : h < block_count kept.geometry)
    (home : h ≡ home_of kept.geometry (cell_of u)) (cell : IsCell kept.geometry (cell_of u))
    (before : old ≡ unwrap_or (kept_at kept.blocks h) (replicate 1024 0))
    (put : (blocks : ℕ → List ℕ) → blocks h ≡ old → view_of kept.geometry (put_at blocks h new) ≡ updated (view_of kept.geometry blocks) u)
    (alone : ChangesAlone kept.geometry u old new) where
  abbrev geo : Geometry
  geo = kept.geometry

  abbrev bytes : ℕ → List ℕ
  bytes = kept_bytes kept.blocks

  -- with the block as it was read, also where it was none that is kept
  abbrev read : ℕ → List ℕ
  read = put_at bytes h old

  abbrev kept' : Kept
  kept' = with_block kept h new

  in_table : h < length kept.blocks
  in_table = omega (arith, low, frame.count)

  here : kept_at kept'.blocks h ≡ Some new
  here = get_or-set_same kept.blocks h (Some new) None in_table

  there : (a : ℕ) → (a ≡ h → ⊥) → kept_at kept'.blocks a ≡ kept_at kept.blocks a
  there a differs = get_or-set_other kept.blocks h a (Some new) None differs

  written : kept_bytes kept'.blocks ≡ put_at read h new
  written = fun_ext (λ a. elim (cases_eq a h) [
    | inl e ↦ ap (λ (b : ℕ). kept_bytes kept'.blocks b) e ∙ ap (λ o. unwrap_or o []) here ∙ sym (put_here read h new) ∙ ap (put_at read h new) (sym e)
    | inr d ↦ ap (λ o. unwrap_or o []) (there a d) ∙ sym (put_there bytes h a old d) ∙ sym (put_there read h a new d)
  ])

  after : frozen_view kept' ≡ updated (view_of geo read) u
  after = ap (view_of geo) written ∙ put read (put_here bytes h old)

  -- what was read is what was kept, or a data block
  same_or_data : (read ≡ bytes) ⊎ IsTrue (is_data_address geo h)
  same_or_data = by (kept_at kept.blocks h) refl
    where
      by : (o : Option (List ℕ)) → kept_at kept.blocks h ≡ o → (read ≡ bytes) ⊎ IsTrue (is_data_address geo h)
      by (Some b) e = inl (fun_ext (λ a. elim (cases_eq a h) [
        | inl same ↦ ap (put_at bytes h old) same ∙ put_here bytes h old ∙ before ∙ ap (λ o. unwrap_or o (replicate 1024 0)) e ∙ sym (ap (λ o. unwrap_or o []) e) ∙ ap bytes (sym same)
        | inr d ↦ put_there bytes h a old d
      ]))
      by None e = elim (cases_Bool (is_data_address geo h)) [
        | inl t ↦ inr t
        | inr f ↦ absurd (
            let some : IsSome (kept_at kept.blocks h) = frame.frame h (frame_from geo h low (λ t. let bad : false ≡ true = sym f ∙ t in cc)) in
            let bad : false ≡ true = subst IsSome e some in cc)
      ]

  records : (i : ℕ) → (view_of geo read).inode i ≡ (frozen_view kept).inode i
  records i = elim same_or_data [
    | inl e ↦ ap (λ f. (view_of geo f).inode i) e
    | inr t ↦ ap (λ (v : View). v.inode i) (data_write geo frame.geometry bytes h old t)
  ]

  numbers : (i : ℕ) → (view_of geo read).number_marked i ≡ (frozen_view kept).number_marked i
  numbers i = elim same_or_data [
    | inl e ↦ ap (λ f. (view_of geo f).number_marked i) e
    | inr t ↦ ap (λ (v : View). v.number_marked i) (data_write geo frame.geometry bytes h old t)
  ]

  blocks : (a : ℕ) → (view_of geo read).block_marked a ≡ (frozen_view kept).block_marked a
  blocks a = elim same_or_data [
    | inl e ↦ ap (λ f. (view_of geo f).block_marked a) e
    | inr t ↦ ap (λ (v : View). v.block_marked a) (data_write geo frame.geometry bytes h old t)
  ]

  -- an update of a data block gives it all its bytes, and leaves the others
  given : (users : View) → IsTrue (is_data_address geo h) → (updated users u).bytes h ≡ new
  given users t = by u home alone
    where
      by : (x : Update) → h ≡ home_of geo (cell_of x) → ChangesAlone geo x old new → (updated users x).bytes h ≡ new
      by (SetInode n inode) e is = absurd (inodes_are_no_data geo frame.geometry n h t (sym e))
      by (SetNumber n marked) e is = absurd (maps_are_no_data geo frame.geometry _ h t (sym e))
      by (SetBlock a marked) e is = absurd (maps_are_no_data geo frame.geometry _ h t (sym e))
      by (SetBytes a b) e is = ap (put_at users.bytes a b) e ∙ put_here users.bytes a b ∙ sym is

  others : (users : View) (a : ℕ) → (a ≡ h → ⊥) → (updated users u).bytes a ≡ users.bytes a
  others users a differs = by u home
    where
      by : (x : Update) → h ≡ home_of geo (cell_of x) → (updated users x).bytes a ≡ users.bytes a
      by (SetInode n inode) e = refl
      by (SetNumber n marked) e = refl
      by (SetBlock c marked) e = refl
      by (SetBytes c b) e = put_there users.bytes c a b (λ same. differs (same ∙ sym e))

  pub shows_after : (users : View) → Shows kept users → Shows kept' (updated users u)
  shows_after users shows = record {
    inode = λ i. ap (λ (v : View). v.inode i) after ∙ same_inode (view_of geo read) users (λ j. records j ∙ shows.inode j) u i;
    number_marked = λ i. ap (λ (v : View). v.number_marked i) after ∙ same_number (view_of geo read) users (λ j. numbers j ∙ shows.number_marked j) u i;
    block_marked = λ a. ap (λ (v : View). v.block_marked a) after ∙ same_block (view_of geo read) users (λ b. blocks b ∙ shows.block_marked b) u a;
    bytes = λ a b t e. elim (cases_eq a h) [
      | inl same ↦ ap (updated users u).bytes same ∙ given users (subst (λ c. IsTrue (is_data_address geo c)) same t) ∙ same_Some new b (sym here ∙ ap (kept_at kept'.blocks) (sym same) ∙ e)
      | inr differs ↦ others users a differs ∙ shows.bytes a b t (sym (there a differs) ∙ e)
    ];
  }

  -- what was kept stays kept, and so does this block
  pub more_after : (a : ℕ) → IsSome (kept_at kept.blocks a) ⊎ (a ≡ h) → IsSome (kept_at kept'.blocks a)
  more_after a (inl some) = elim (cases_eq a h) [
    | inl e ↦ subst IsSome (sym (ap (kept_at kept'.blocks) e ∙ here)) refl
    | inr d ↦ subst IsSome (sym (there a d)) some
  ]
  more_after a (inr e) = subst IsSome (sym (ap (kept_at kept'.blocks) e ∙ here)) refl

-- ---- the last block of an address counts

pub none_at : (ps : List Placed) (kept : Kept) (a : ℕ) → NoneAt ps a → kept_at (with_blocks kept (map standing ps)).blocks a ≡ kept_at kept.blocks a
none_at [] kept a none = refl
none_at (p ∷ ps) kept a none =
    none_at ps (with_block kept p.address (arc_value p.block)) a (λ k d low. none (suc k) d (omega (arith, low)))
    ∙ get_or-set_other kept.blocks p.address a (Some (arc_value p.block)) None (λ e. none 0 p (omega arith) (sym e))

pub last_at : (ps : List Placed) (kept : Kept) (a k : ℕ) → IsLastAt ps a k → a < length kept.blocks → (d : Placed) → kept_at (with_blocks kept (map standing ps)).blocks a ≡ Some (arc_value (slice_index_or ps k d).block)
last_at [] kept a k is low d = absurd (omega (arith, is.low))
last_at (p ∷ ps) kept a zero is low d =
    none_at ps (with_block kept p.address (arc_value p.block)) a (λ j e below. is.last (suc j) e (omega arith) (omega (arith, below)))
    ∙ subst (λ b. kept_at (slice_set kept.blocks p.address (Some (arc_value p.block))) b ≡ Some (arc_value p.block)) (is.here p)
    (get_or-set_same kept.blocks p.address (Some (arc_value p.block)) None (subst (λ b. b < length kept.blocks) (sym (is.here p)) low))
last_at (p ∷ ps) kept a (suc k) is low d =
    last_at ps (with_block kept p.address (arc_value p.block)) a k
    (record { low = omega (arith, is.low); here = is.here; last = λ j e above below. is.last (suc j) e (omega (arith, above)) (omega (arith, below)) })
    (omega (arith, low, length-set kept.blocks p.address (Some (arc_value p.block)))) d

-- one more block
pub with_more : (kept : Kept) (ps : List Placed) (p : Placed) → with_blocks kept (map standing (ps ++ p ∷ [])) ≡ with_block (with_blocks kept (map standing ps)) p.address (arc_value p.block)
with_more kept [] p = refl
with_more kept (q ∷ ps) p = with_more (with_block kept q.address (arc_value q.block)) ps p

-- ---- a block in the place of another

set_twice : {X : Type 0} (xs : List X) (k : ℕ) (x y : X) → slice_set (slice_set xs k x) k y ≡ slice_set xs k y
set_twice [] k x y = refl
set_twice (z ∷ zs) zero x y = refl
set_twice (z ∷ zs) (suc k) x y = ap (λ l. z ∷ l) (set_twice zs k x y)

set_apart : {X : Type 0} (xs : List X) (j k : ℕ) (x y : X) → (j ≡ k → ⊥) → slice_set (slice_set xs j x) k y ≡ slice_set (slice_set xs k y) j x
set_apart [] j k x y apart = refl
set_apart (z ∷ zs) zero zero x y apart = absurd (apart refl)
set_apart (z ∷ zs) zero (suc k) x y apart = refl
set_apart (z ∷ zs) (suc j) zero x y apart = refl
set_apart (z ∷ zs) (suc j) (suc k) x y apart = ap (λ l. z ∷ l) (set_apart zs j k x y (λ e. apart (ap suc e)))

-- a block may come before others that stand elsewhere, or behind them
comes_later : (kept : Kept) (ps : List Placed) (a : ℕ) (bytes : List ℕ) → NoneAt ps a → with_blocks (with_block kept a bytes) (map standing ps) ≡ with_block (with_blocks kept (map standing ps)) a bytes
comes_later kept [] a bytes none = refl
comes_later kept (p ∷ ps) a bytes none =
    ap (λ bs. with_blocks (record kept { blocks = bs }) (map standing ps)) (set_apart kept.blocks a p.address (Some bytes) (Some (arc_value p.block)) (λ e. none 0 p (omega arith) (sym e)))
    ∙ comes_later (with_block kept p.address (arc_value p.block)) ps a bytes (λ k d low. none (suc k) d (omega (arith, low)))

-- in the place of the last one of its address
pub replaced : (kept : Kept) (ps : List Placed) (k : ℕ) (p : Placed) → IsLastAt ps p.address k → with_blocks kept (map standing (slice_set ps k p)) ≡ with_block (with_blocks kept (map standing ps)) p.address (arc_value p.block)
replaced kept [] k p is = absurd (omega (arith, is.low))
replaced kept (q ∷ ps) zero p is =
    let none : NoneAt ps p.address = λ j d low. is.last (suc j) d (omega arith) (omega (arith, low)) in
    let later : with_blocks (with_block kept q.address (arc_value q.block)) (map standing ps) ≡ with_block (with_blocks kept (map standing ps)) p.address (arc_value q.block) =
    ap (λ a. with_blocks (with_block kept a (arc_value q.block)) (map standing ps)) (is.here p) ∙ comes_later kept ps p.address (arc_value q.block) none in
    comes_later kept ps p.address (arc_value p.block) none
    ∙ sym (ap (λ bs. record (with_blocks kept (map standing ps)) { blocks = bs }) (set_twice (with_blocks kept (map standing ps)).blocks p.address (Some (arc_value q.block)) (Some (arc_value p.block))))
    ∙ ap (λ m. with_block m p.address (arc_value p.block)) (sym later)
replaced kept (q ∷ ps) (suc k) p is =
    replaced (with_block kept q.address (arc_value q.block)) ps k p
    (record { low = omega (arith, is.low); here = is.here; last = λ j d above below. is.last (suc j) d (omega (arith, above)) (omega (arith, below)) })

pub same_geometry : (kept : Kept) (ps : List Placed) → (with_blocks kept (map standing ps)).geometry ≡ kept.geometry
same_geometry kept [] = refl
same_geometry kept (p ∷ ps) = same_geometry (with_block kept p.address (arc_value p.block)) ps

pub frame_with_all : (kept : Kept) (ps : List Placed) → KeepsFrame kept → All (FitsIn kept.geometry) ps → KeepsFrame (with_blocks kept (map standing ps))
frame_with_all kept [] frame fits = frame
frame_with_all kept (p ∷ ps) frame fits =
    let f : FitsIn kept.geometry p = fits 0 p (omega arith) in
    frame_with_all (with_block kept p.address (arc_value p.block)) ps (frame_with kept p.address (arc_value p.block) frame f.behind f.on_volume f.whole f.group_block) (λ k d low. fits (suc k) d (omega (arith, low)))

-- ---- a change that is staged after others

pub bits_push : (us : List Update) (u : Update) → bits_of (us ++ u ∷ []) ≡ bits_of us ++ bits_of (u ∷ [])
bits_push [] u = refl
bits_push (SetInode n inode ∷ us) u = bits_push us u
bits_push (SetNumber n marked ∷ us) u = ap (λ r. SetNumber n marked ∷ r) (bits_push us u)
bits_push (SetBlock a marked ∷ us) u = ap (λ r. SetBlock a marked ∷ r) (bits_push us u)
bits_push (SetBytes a bytes ∷ us) u = bits_push us u

pub updated_push : (view : View) (us : List Update) (u : Update) → updated_all view (us ++ u ∷ []) ≡ updated (updated_all view us) u
updated_push view [] u = refl
updated_push view (v ∷ us) u = updated_push (updated view v) us u

gives_before : (us : List Update) (u : Update) (a : ℕ) → GivesBytes (us ++ u ∷ []) a → GivesBytes us a ⊎ ((bytes : List ℕ) × (u ≡ SetBytes a bytes))
gives_before us u a gives = elim (Contains-append_cases us (u ∷ []) (SetBytes a gives.0) gives.1) [
  | inl c ↦ inl (gives.0, c)
  | inr c ↦ elim (contains_cases u (SetBytes a gives.0) [] c) [
    | inl e ↦ inr (gives.0, e)
    | inr none ↦ absurd (contains_none (SetBytes a gives.0) none)
  ]
]

module _ (kept : Kept) (us : List Update) (u : Update) (old new : Staged) (is : IsStaged kept us old) (cell : IsCell kept.geometry (cell_of u))
    (has : HasChange kept u old.blocks.items new.blocks.items) (bits : map bit new.bits.items ≡ map bit old.bits.items ++ bits_of (u ∷ [])) where
  abbrev h : ℕ
  h = home_of kept.geometry (cell_of u)

  -- the block as it was with what was staged before
  abbrev before : List ℕ
  before = unwrap_or (kept_at (staged_after kept old).blocks h) (replicate 1024 0)

  abbrev mid : Kept
  mid = staged_after kept old

  same : mid.geometry ≡ kept.geometry
  same = same_geometry kept old.blocks.items

  mid_frame : KeepsFrame mid
  mid_frame = frame_with_all kept old.blocks.items has.frame is.fits

  -- a group's block of maps was one before
  group_before : (g : ℕ) → group_block kept.geometry g ≡ h → IsGroupBlock g before
  group_before g e =
      let in_volume : g < kept.geometry.groups = subst (λ n. n < kept.geometry.groups) (ap (group_of_address kept.geometry) (sym e) ∙ maps_group kept.geometry has.frame.geometry g) (address_in_group kept.geometry has.frame.geometry h has.low) in
      let there : group_block mid.geometry g ≡ h = ap (λ (x : Geometry). group_block x g) same ∙ e in
      let is_frame_block = maps_are_frame mid mid_frame g (subst (λ (x : Geometry). g < x.groups) (sym same) in_volume) in
      subst (IsGroupBlock g) (ap (kept_bytes mid.blocks) there ∙ or_default (kept_at mid.blocks h) (subst (λ a. IsSome (kept_at mid.blocks a)) there (mid_frame.frame (group_block mid.geometry g) is_frame_block)))
      (mid_frame.group_blocks g (subst (λ (x : Geometry). g < x.groups) (sym same) in_volume))
    where
      or_default : (o : Option (List ℕ)) → IsSome o → unwrap_or o [] ≡ unwrap_or o (replicate {A = ℕ} 1024 0)
      or_default (Some b) some = refl
      or_default None some = let bad : false ≡ true = some in cc

  fits : FitsAt kept.geometry h has.bytes
  fits = record { behind = has.behind; on_volume = has.low; whole = has.whole; group_block = λ g e. has.put.group_block g (sym e) (group_before g e) }

  low : h < block_count mid.geometry
  low = subst (λ (g : Geometry). h < block_count g) (sym same) has.low

  home : h ≡ home_of mid.geometry (cell_of u)
  home = ap (λ (g : Geometry). home_of g (cell_of u)) (sym same)

  cell_there : IsCell mid.geometry (cell_of u)
  cell_there = subst (λ (g : Geometry). IsCell g (cell_of u)) (sym same) cell

  put : (blocks : ℕ → List ℕ) → blocks h ≡ before → view_of mid.geometry (put_at blocks h has.bytes) ≡ updated (view_of mid.geometry blocks) u
  put = subst (λ (g : Geometry). (blocks : ℕ → List ℕ) → blocks h ≡ before → view_of g (put_at blocks h has.bytes) ≡ updated (view_of g blocks) u) (sym same) has.put.view

  alone : ChangesAlone mid.geometry u before has.bytes
  alone = subst (λ (g : Geometry). ChangesAlone g u before has.bytes) (sym same) has.put.alone

  step : (users : View) → Shows mid users → Shows (with_block mid h has.bytes) (updated users u)
  step = shows_after mid mid_frame h before has.bytes u low home cell_there refl put alone

  more : (a : ℕ) → IsSome (kept_at mid.blocks a) ⊎ (a ≡ h) → IsSome (kept_at (with_block mid h has.bytes).blocks a)
  more = more_after mid mid_frame h before has.bytes u low home cell_there refl put alone

  stays : (a : ℕ) → IsSome (kept_at kept.blocks a) ⊎ GivesBytes (us ++ u ∷ []) a → IsSome (kept_at (with_block mid h has.bytes).blocks a)
  stays a (inl some) = more a (inl (is.more a (inl some)))
  stays a (inr gives) = elim (gives_before us u a gives) [
    | inl g ↦ more a (inl (is.more a (inr g)))
    | inr e ↦ more a (inr (sym (ap (λ (v : Update). home_of kept.geometry (cell_of v)) e.1)))
  ]

  pub staged_one_more : IsStaged kept (us ++ u ∷ []) new
  staged_one_more = record {
    fits = has.each fits is.fits;
    view = λ users shows. subst (λ k. Shows k (updated_all users (us ++ u ∷ []))) (sym has.then) (subst (Shows (with_block mid h has.bytes)) (sym (updated_push users us u)) (step (updated_all users us) (is.view users shows)));
    more = λ a some. subst (λ (k : Kept). IsSome (kept_at k.blocks a)) (sym has.then) (stays a some);
    cells = All-push (λ v. IsCell kept.geometry (cell_of v)) us u is.cells cell;
    bits = bits ∙ ap (λ bs. bs ++ bits_of (u ∷ [])) is.bits ∙ sym (bits_push us u);
  }

pub on_ok : {E P Q : Type 0} (r : Result (Unit {0}) E) → OnOk r P → (P → Q) → OnOk r Q
on_ok (Ok x) p f = f p
on_ok (Err e) p f = tt

pub on_both : {E P Q R : Type 0} (r : Result (Unit {0}) E) → OnOk r P → OnOk r Q → (P → Q → R) → OnOk r R
on_both (Ok x) p q f = f p q
on_both (Err e) p q f = tt

-- nothing was staged yet
pub none_staged : (kept : Kept) (staged : Staged) → staged.blocks.items ≡ [] → staged.bits.items ≡ [] → IsStaged kept [] staged
none_staged kept staged blocks bits = record {
  fits = subst (All (FitsIn kept.geometry)) (sym blocks) (λ k d low. absurd (omega (arith, low)));
  view = λ users shows. subst (λ ps. Shows (with_blocks kept (map standing ps)) users) (sym blocks) shows;
  more = λ a h. subst (λ ps. IsSome (kept_at (with_blocks kept (map standing ps)).blocks a)) (sym blocks) (was a h);
  cells = λ k d low. absurd (omega (arith, low));
  bits = ap (map bit) bits;
}
  where
    was : (a : ℕ) → IsSome (kept_at kept.blocks a) ⊎ GivesBytes [] a → IsSome (kept_at kept.blocks a)
    was a (inl some) = some
    was a (inr gives) = absurd (contains_none (SetBytes a gives.0) gives.1)

-- the changes of one update more
pub changes_more : (us : List program.Update) (k : ℕ) (u : program.Update) → k < length us → u ≡ slice_index_or us k u → changes (take k us) ++ change u.change ∷ [] ≡ changes (take (k + 1) us)
changes_more us k u low is =
    let next : k + 1 ≡ suc k = omega arith in
    sym (map-append (λ (v : program.Update). change v.change) (take k us) (u ∷ []))
    ∙ ap (λ v. changes (take k us ++ v ∷ [])) is ∙ sym (ap changes (take-suc us k u low)) ∙ sym (ap (λ n. changes (take n us)) next)

-- one bit more
pub bits_more : (view : View) (bits : List Bit) (k : ℕ) (d : Bit) → k < length bits → updated_all view (map bit (take (k + 1) bits)) ≡ updated (updated_all view (map bit (take k bits))) (bit (slice_index_or bits k d))
bits_more view bits k d low =
    let next : k + 1 ≡ suc k = omega arith in
    ap (λ n. updated_all view (map bit (take n bits))) next ∙ ap (λ bs. updated_all view (map bit bs)) (take-suc bits k d low)
    ∙ ap (updated_all view) (map-append bit (take k bits) (slice_index_or bits k d ∷ [])) ∙ updated_push view (map bit (take k bits)) (bit (slice_index_or bits k d))

-- ---- what may be given out after the changes
number_stays : (view : View) (us : List Update) (i : ℕ) → (updated_all view us).number_marked i ≡ (updated_all view (bits_of us)).number_marked i
number_stays view us i = same_numbers view view us (λ j. refl) i
  where
    same_numbers : (v w : View) (xs : List Update) → ((j : ℕ) → v.number_marked j ≡ w.number_marked j) → (j : ℕ) → (updated_all v xs).number_marked j ≡ (updated_all w (bits_of xs)).number_marked j
    same_numbers v w [] same j = same j
    same_numbers v w (SetInode n inode ∷ xs) same j = same_numbers (updated v (SetInode n inode)) w xs same j
    same_numbers v w (SetNumber n marked ∷ xs) same j = same_numbers (updated v (SetNumber n marked)) (updated w (SetNumber n marked)) xs (same_number v w same (SetNumber n marked)) j
    same_numbers v w (SetBlock a marked ∷ xs) same j = same_numbers (updated v (SetBlock a marked)) (updated w (SetBlock a marked)) xs same j
    same_numbers v w (SetBytes a bytes ∷ xs) same j = same_numbers (updated v (SetBytes a bytes)) w xs same j

block_stays : (view : View) (us : List Update) (a : ℕ) → (updated_all view us).block_marked a ≡ (updated_all view (bits_of us)).block_marked a
block_stays view us a = same_blocks view view us (λ b. refl) a
  where
    same_blocks : (v w : View) (xs : List Update) → ((b : ℕ) → v.block_marked b ≡ w.block_marked b) → (b : ℕ) → (updated_all v xs).block_marked b ≡ (updated_all w (bits_of xs)).block_marked b
    same_blocks v w [] same b = same b
    same_blocks v w (SetInode n inode ∷ xs) same b = same_blocks (updated v (SetInode n inode)) w xs same b
    same_blocks v w (SetNumber n marked ∷ xs) same b = same_blocks (updated v (SetNumber n marked)) (updated w (SetNumber n marked)) xs same b
    same_blocks v w (SetBlock c marked ∷ xs) same b = same_blocks (updated v (SetBlock c marked)) (updated w (SetBlock c marked)) xs (same_block v w same (SetBlock c marked)) b
    same_blocks v w (SetBytes c bytes ∷ xs) same b = same_blocks (updated v (SetBytes c bytes)) w xs same b

shows_itself : (kept : Kept) → Shows kept (frozen_view kept)
shows_itself kept = record {
  inode = λ i. refl;
  number_marked = λ i. refl;
  block_marked = λ a. refl;
  bytes = λ a b t e. cond-true (is_data_address kept.geometry a) (kept_bytes kept.blocks a) [] t ∙ ap (λ o. unwrap_or o []) e;
}

pub free_after : (kept : Kept) (us : List Update) (staged : Staged) (free : Free) → IsStaged kept us staged → IsFreeOf kept.geometry (updated_all (frozen_view kept) (map bit staged.bits.items)) free
    → IsFreeOf kept.geometry (frozen_view (staged_after kept staged)) free
free_after kept us staged free is before =
    let shows = is.view (frozen_view kept) (shows_itself kept) in
    let after : IsFreeOf kept.geometry (updated_all (frozen_view kept) (bits_of us)) free = subst (λ bs. IsFreeOf kept.geometry (updated_all (frozen_view kept) bs) free) is.bits before in
    record {
      numbers = record {
        count = after.numbers.count;
        each = λ i. after.numbers.each i ∙ ap (λ b. is_number kept.geometry i && not b) (sym (shows.number_marked i ∙ number_stays (frozen_view kept) us i));
      };
      blocks = record {
        count = after.blocks.count;
        each = λ a. after.blocks.each a ∙ ap (λ b. is_data_address kept.geometry a && not b) (sym (shows.block_marked a ∙ block_stays (frozen_view kept) us a));
      };
    }

tail_of : (geo : Geometry) (u : Update) (us : List Update) → All (λ v. IsCell geo (cell_of v)) (u ∷ us) → All (λ v. IsCell geo (cell_of v)) us
tail_of geo u us all k d low = all (suc k) d (omega (arith, low))

more_of : (geo : Geometry) (u : Update) (us : List Update) → IsCell geo (cell_of u) → All (λ v. IsCell geo (cell_of v)) us → All (λ v. IsCell geo (cell_of v)) (u ∷ us)
more_of geo u us h all zero d low = h
more_of geo u us h all (suc k) d low = all k d (omega (arith, low))

of_map : (geo : Geometry) (bs : List Bit) → All (λ u. IsCell geo (cell_of u)) (map bit bs) → All (IsBitOf geo) bs
of_map geo [] all k d low = absurd (omega (arith, low))
of_map geo (b ∷ bs) all zero d low = all 0 (bit b) (omega arith)
of_map geo (b ∷ bs) all (suc k) d low = of_map geo bs (λ j e below. all (suc j) e (omega (arith, below))) k d (omega (arith, low))

-- the bits that are staged are the volume's
pub bits_fit : (geo : Geometry) (us : List Update) → All (λ u. IsCell geo (cell_of u)) us → All (λ u. IsCell geo (cell_of u)) (bits_of us)
bits_fit geo [] all = all
bits_fit geo (SetInode n inode ∷ us) all = bits_fit geo us (tail_of geo (SetInode n inode) us all)
bits_fit geo (SetNumber n marked ∷ us) all = more_of geo (SetNumber n marked) (bits_of us) (all 0 (SetNumber n marked) (omega arith)) (bits_fit geo us (tail_of geo (SetNumber n marked) us all))
bits_fit geo (SetBlock a marked ∷ us) all = more_of geo (SetBlock a marked) (bits_of us) (all 0 (SetBlock a marked) (omega arith)) (bits_fit geo us (tail_of geo (SetBlock a marked) us all))
bits_fit geo (SetBytes a bytes ∷ us) all = bits_fit geo us (tail_of geo (SetBytes a bytes) us all)

pub bits_are : (kept : Kept) (us : List Update) (staged : Staged) → IsStaged kept us staged → All (IsBitOf kept.geometry) staged.bits.items
bits_are kept us staged is = of_map kept.geometry staged.bits.items (subst (All (λ u. IsCell kept.geometry (cell_of u))) (sym is.bits) (bits_fit kept.geometry us is.cells))

pub same_after : (kept : Kept) (staged : Staged) → (staged_after kept staged).geometry ≡ kept.geometry
same_after kept staged = same_geometry kept staged.blocks.items
