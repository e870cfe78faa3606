-- A block is put at a position of an inode: what its new record uses once the pointers stand where they are kept.
use Rattle.std.proofs.Common.{◌≡◌, ◌<◌, ◌≤◌, ℕ, true, List, [], ◌∷◌, ◌++◌, ◌⊎◌, inl, inr, refl, sym, ap, ◌∙◌, subst, arith, Contains, Some, IsTrue, IsFalse}
use Rattle.std.proofs.lemmas.Bool.{both_ways, and_parts, leb-true}
use Rattle.std.proofs.lemmas.Option.{same_Some}
use Rattle.model.specs.Layout.{Geometry, is_number}
use Rattle.model.specs.View.{View, Inode}
use Rattle.model.specs.Cells.{SetInode, SetBlock, SetBytes, updated, updated_all}
use Rattle.model.specs.Rules.{ObeysRules}
use Rattle.model.specs.Shape.{most_blocks, position_count, IsAbove, Next, Further}
use Rattle.model.specs.Uses.{blocks_of, is_sound, is_sound_at, has_position, record_use, IsClaim}
use Rattle.model.proofs.Shape.{more_reach, some_table}
use Rattle.model.proofs.Uses.{use_number, number_use, above_more, above_table}
use Rattle.model.proofs.Places.{put_here, put_there}
use Rattle.machine.specs.Cells.{Points, LeavesMark}
use Rattle.machine.specs.Room.{IsFreeBlock}
use Rattle.machine.proofs.Pointing.{IsLike, IsNew, Before, HoldsTables, Leaves, Comes as ComesAt, pointed_like, leaves, placed_use, kept_use, new_use, came_use, came_once, comes, new_free, all_new, still_marked}
use Rattle.machine.proofs.Placements.{updated_append}
use Rattle.ordering.specs.Cuts.{Block, Pending, users_view}
use Rattle.ordering.specs.Ghosts.{Ghost}
use Rattle.ordering.specs.Rewrites.{Comes}
use Rattle.plans_data.specs.Append.{Holder, IsWhole, IsNoneOf, IsKeptIn, new_blocks, cells_of, filled, linked, pointed, known, sized}
use Rattle.plans_data.proofs.Holders.{kept_points, knows_block, knows_new, knows_way, new_listed, leaves_mark, linked_view}
use Rattle.plans_data.proofs.Linking.{IsFilled, Linked}

above_both : (geo : Geometry) (k q m : ℕ) → IsAbove geo k q → IsAbove geo q m → IsAbove geo k m
above_both geo k q m (Next h) above = above_more geo k q m h above
above_both geo k q m (Further t h g) above = above_more geo k t m h (above_more geo t q m g above)

module _ (geo : Geometry) (disk : View) (q : List Pending) (n k b : ℕ) (bytes : List ℕ) (size : ℕ) (h : Holder) where
  abbrev users : View
  users = users_view disk q

  abbrev old : Inode
  old = users.inode n

  abbrev new : Inode
  new = sized (pointed geo old k b h) size

  abbrev u2 : View
  u2 = users_view disk (filled b bytes q)

  abbrev u3 : View
  u3 = users_view disk (linked geo n k b h (filled b bytes q))

  pub placed_whole : updated u3 (SetInode n new) ≡ updated_all users (SetBlock b true ∷ SetBytes b bytes ∷ cells_of geo k b h ++ SetInode n new ∷ [])
  placed_whole = ap (λ v. updated v (SetInode n new)) (linked_view geo disk n k b h (filled b bytes q)) ∙ sym (updated_append u2 (cells_of geo k b h) (SetInode n new ∷ []))

  pub record Change : Type 0 where
    pub rules : ObeysRules geo (users_view disk q)
    pub whole : IsWhole geo (users_view disk q)
    pub sound : IsTrue (is_sound_at geo (users_view disk q) n)
    pub still_sound : IsTrue (is_sound geo (sized (pointed geo ((users_view disk q).inode n) k b h) size))
    pub inside : k < blocks_of size
    pub few : blocks_of size ≤ most_blocks geo
    pub more : blocks_of ((users_view disk q).inode n).size ≤ blocks_of size
    pub came : (j : ℕ) → j < blocks_of size → (j < blocks_of ((users_view disk q).inode n).size) ⊎ (j ≡ k)
    pub free : IsFreeBlock geo (users_view disk q) b
    pub kept : IsKeptIn geo (users_view disk q) n k b h
    pub apart : IsNoneOf b (new_blocks h)

  module _ (c : Change) where
    abbrev p : Points geo users old k b (cells_of geo k b h) (pointed geo old k b h)
    p = kept_points geo users n k b h c.kept

    pub number : IsTrue (is_number geo n)
    number = (and_parts (is_number geo n) (is_sound geo old) c.sound).0

    pub old_sound : IsTrue (is_sound geo old)
    old_sound = (and_parts (is_number geo n) (is_sound geo old) c.sound).1

    use_claim : (m x : ℕ) → record_use geo users old m ≡ Some x → IsClaim geo users n m x
    use_claim m x e = let u = number_use geo users n m x number e in (u, c.rules.rule3.claims n m x u)

    unused : (t : ℕ) → IsFreeBlock geo users t → (l : ℕ) → record_use geo users old l ≡ Some t → ⊥
    unused t free l e = both_ways (users.block_marked t) free.unmarked (c.rules.rule3.marked n l t (use_claim l t e))

    before : Before geo users old c.whole.geometry new
    before = record {
      sound = λ l has. old_sound;
      still_sound = c.still_sound;
      keeps = λ l has. more_reach geo (blocks_of old.size) (blocks_of size) l c.more has;
      once = λ l m t tl tm f g d. (c.rules.rule3.once n l n m t (use_claim l t f) (use_claim m t g)).1;
      unused = λ t free m table e. unused t free m e;
      whole = λ m t table e d. c.whole.blocks t d;
      twelve = c.whole.pointers n number;
    }

    there : ComesAt geo users old c.whole.geometry new k b p
    there = record { before = before; fields = λ l. refl; address = c.free.address; inside = c.inside; few = c.few; came = c.came }

    holds : HoldsTables geo users old c.whole.geometry new u2
    holds m t table e d = sym (put_there users.bytes b t bytes (λ is. unused b c.free m (e ∙ ap Some is)))

    left : Leaves geo users old (cells_of geo k b h) u2 (updated_all u2 (cells_of geo k b h))
    left = leaves geo users old p u2

    seen : u3 ≡ updated_all u2 (cells_of geo k b h)
    seen = linked_view geo disk n k b h (filled b bytes q)

    no_mark : LeavesMark b (cells_of geo k b h)
    no_mark = leaves_mark geo b k b h c.apart

    -- ---- uses
    pub placed : record_use geo u3 new k ≡ Some b
    placed = ap (λ v. record_use geo v new k) seen ∙ placed_use geo users old c.whole.geometry new k b p there u2 holds

    pub kept_at : (j x : ℕ) → (j ≡ k → ⊥) → record_use geo users old j ≡ Some x → record_use geo u3 new j ≡ Some x
    kept_at j x differs e = ap (λ v. record_use geo v new j) seen ∙ kept_use geo users old c.whole.geometry new k b p there u2 holds j x differs e

    new_at : (j t : ℕ) → IsNew geo users old p j t → record_use geo u3 new j ≡ Some t
    new_at j t f = ap (λ v. record_use geo v new j) seen ∙ new_use geo users old c.whole.geometry new k b p there u2 holds j t f

    pub came_at : (j x : ℕ) → record_use geo u3 new j ≡ Some x
        → ((j ≡ k → ⊥) × (record_use geo users old j ≡ Some x)) ⊎ (((j ≡ k) × (x ≡ b)) ⊎ (IsAbove geo k j × IsNew geo users old p j x))
    came_at j x u = came_use geo users old c.whole.geometry new k b p there u2 holds j x (ap (λ v. record_use geo v new j) (sym seen) ∙ u)

    pub once_at : (j l x : ℕ) → ((j ≡ k) × (x ≡ b)) ⊎ (IsAbove geo k j × IsNew geo users old p j x) → ((l ≡ k) × (x ≡ b)) ⊎ (IsAbove geo k l × IsNew geo users old p l x) → j ≡ l
    once_at = came_once geo users old c.whole.geometry new k b p there u2 holds no_mark

    -- a position that comes is k or a table on its way
    pub comes_at : (j : ℕ) → IsTrue (has_position geo new j) → IsFalse (has_position geo old j) → (j ≡ k) ⊎ IsAbove geo k j
    comes_at = comes geo users old c.whole.geometry new k b p there u2 holds

    -- ---- the rest
    pub like : IsLike old (pointed geo old k b h)
    like = pointed_like geo users old p

    pub contents : u3.bytes b ≡ bytes
    contents = ap (λ (v : View). v.bytes b) seen ∙ left.bytes b no_mark (λ m table e. unused b c.free m e) ∙ put_here users.bytes b bytes

    pub same_inode : u3.inode n ≡ old
    same_inode = ap (λ (v : View). v.inode n) seen ∙ ap (λ (f : ℕ → Inode). f n) left.inode

    pub marks : (a : ℕ) → IsTrue (users.block_marked a) → IsTrue (u3.block_marked a)
    marks a t = ap (λ (v : View). v.block_marked a) seen ∙ left.marks_kept a (still_marked users.block_marked b a t)

    pub below_tables : k < most_blocks geo
    below_tables = omega (arith, c.inside, c.few)

    pub position_inside : k < position_count geo
    position_inside = omega (arith, below_tables, some_table geo)

    pub no_table : (j : ℕ) → IsAbove geo k j → j ≡ k → ⊥
    no_table j above e = let high = leb-true (most_blocks geo) j (above_table geo k j above) in omega (arith, high, e, below_tables)

    -- ---- the blocks that come
    module _ (ghost : Ghost) (done : Linked geo disk q ghost n (filled b bytes q) (linked geo n k b h (filled b bytes q)) (new_blocks h)) (own : IsFilled geo disk q ghost n (filled b bytes q) b) where
      -- the tables on the way come before the record
      known_table : (j : ℕ) → (j ≡ k) ⊎ IsAbove geo k j → (m t : ℕ) → IsAbove geo j m → record_use geo u3 new m ≡ Some t → Contains (known b h) (Block t)
      known_table j at m t above u =
          let over : IsAbove geo k m = elim at [ inl e ↦ subst (λ i. IsAbove geo i m) e above | inr up ↦ above_both geo k j m up above ] in
          let way = knows_way geo users n k b h c.kept m over in
          let there : record_use geo u3 new m ≡ Some way.0 = elim way.2 [
            | inl f ↦ new_at m way.0 f
            | inr claim ↦ kept_at m way.0 (no_table m over) (use_number geo users n m way.0 claim.0).1
          ] in
          subst (λ x. Contains (known b h) (Block x)) (same_Some way.0 t (sym there ∙ u)) way.1

      pub block_comes : Comes geo disk (linked geo n k b h (filled b bytes q)) ghost (known b h) new k b
      block_comes = let f = done.kept b own c.apart in record {
        uses = placed;
        address = c.free.address;
        free = f.free;
        bit = f.bit;
        contents = knows_block b h;
        tables = known_table k (inl refl);
      }

      table_comes : (j t : ℕ) → IsAbove geo k j → IsNew geo users old p j t → Comes geo disk (linked geo n k b h (filled b bytes q)) ghost (known b h) new j t
      table_comes j t above new_one = let listed = new_listed geo users n k b h c.kept j t new_one in let f = done.new t listed in record {
        uses = new_at j t new_one;
        address = (new_free geo users old p j t new_one).address;
        free = f.free;
        bit = f.bit;
        contents = knows_new b h t listed;
        tables = known_table j (inr above);
      }

      -- a table on the way that the record did not have
      pub fresh_table : (j : ℕ) → IsAbove geo k j → IsFalse (has_position geo old j) → (t : ℕ) × Comes geo disk (linked geo n k b h (filled b bytes q)) ghost (known b h) new j t
      fresh_table j above late = let new_one = all_new geo users old p j above late in (new_one.0, table_comes j new_one.0 above new_one.1)
