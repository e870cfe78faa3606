-- The pointer to a filled block is put where it is kept: one recursion over the tables, each update of its kind.
use Rattle.std.proofs.Common.{◌≡◌, ◌<◌, ℕ, true, if◌then◌else◌, List, [], ◌∷◌, map, inl, inr, refl, sym, ap, ◌∙◌, subst, Contains, IsTrue, IsFalse}
use Rattle.std.proofs.lemmas.Bool.{both_ways, le-leb}
use Rattle.std.proofs.lemmas.Bool.Decides.{eqb_tells}
use Rattle.model.specs.Layout.{Geometry, IsGeometry}
use Rattle.model.specs.View.{View, Inode}
use Rattle.model.specs.Image.{IsBlock}
use Rattle.model.specs.Cells.{SetBlock, SetBytes, updated}
use Rattle.model.specs.Shape.{most_blocks, position_count, place_in_table, pointer_in}
use Rattle.model.specs.Uses.{has_position, use_at, IsClaim}
use Rattle.model.specs.Rules.{ObeysRules}
use Rattle.model.proofs.Shape.{table_is_table, table_inside, place_inside, one_position}
use Rattle.model.proofs.Places.{put_there}
use Rattle.machine.specs.Cells.{with_pointer}
use Rattle.machine.specs.Room.{IsFreeBlock}
use Rattle.machine.specs.Whole.{HasWholeBlocks}
use Rattle.machine.proofs.PointerTables.{pointer_there}
use Rattle.ordering.specs.Cuts.{Cell, Record, NumberBit, BlockBit, Block, Pending, users_view, IsAfter}
use Rattle.ordering.specs.Ghosts.{Ghost}
use Rattle.ordering.specs.Kinds.{IsFree}
use Rattle.ordering.specs.Rewrites.{MayAppendSlot}
use Rattle.ordering.specs.Histories.{AppendsSlot}
use Rattle.ordering.proofs.Bits.{users_obey}
use Rattle.ordering.proofs.CutLemmas.{after_kept}
use Rattle.ordering.proofs.Tables.{append_uses}
use Rattle.plans_data.specs.Append.{Holder, KeptInRecord, KeptInTable, KeptInNew, IsSpare, IsNoneOf, AreApart, IsKeptIn, new_blocks, linked, pointer_after}
use Rattle.plans_data.proofs.Chains.{Goes, step}
use Rattle.plans_data.proofs.Numbers.{address_small}
use Rattle.plans_data.proofs.Filling.{fill, free, same_uses, after_bit}
use Rattle.plans_data.proofs.Holders.{first_of, later_of, nothing_in, one_of_both, is_none}

pub same_bit : (a c : ℕ) → BlockBit a ≡ BlockBit c → a ≡ c
same_bit a c e = ap number e
  where
    number : Cell → ℕ
    number (Record n) = n
    number (NumberBit n) = n
    number (BlockBit n) = n
    number (Block n) = n

module _ (geo : Geometry) (disk : View) (q : List Pending) (ghost : Ghost) (n : ℕ) where
  abbrev u0 : View
  u0 = users_view disk q

  -- a chain that changes nobody's uses
  pub record Quiet (p : List Pending) : Type 0 where
    pub goes : Goes geo disk q ghost p ghost
    pub uses : (i j : ℕ) → use_at geo (users_view disk q) i j ≡ use_at geo (users_view disk p) i j

  -- nor n's record, nor the blocks that were marked
  pub record Stage (p : List Pending) : Type 0 where
    pub quiet : Quiet p
    pub inode : (users_view disk p).inode n ≡ (users_view disk q).inode n
    pub bytes : (c : ℕ) → IsTrue ((users_view disk q).block_marked c) → (users_view disk p).bytes c ≡ (users_view disk q).bytes c

  -- a block that is marked and filled, and free
  pub record IsFilled (p : List Pending) (c : ℕ) : Type 0 where
    pub free : IsFree geo (users_view disk p) ghost c
    pub bit : IsAfter disk p (Block c) (BlockBit c)

  pub record Linked (p after : List Pending) (news : List ℕ) : Type 0 where
    pub quiet : Quiet after
    pub kept : (c : ℕ) → IsFilled p c → IsNoneOf c news → IsFilled after c
    pub new : (c : ℕ) → Contains news c → IsFilled after c

  -- Position k, which is not in use yet, is to point to the filled block b, and this is known when its turn comes.
  pub record At (k b : ℕ) (h : Holder) (p : List Pending) : Type 0 where
    pub kept : IsKeptIn geo (users_view disk q) n k b h
    pub apart : AreApart (b ∷ new_blocks h)
    pub low : k < position_count geo
    pub late : IsFalse (has_position geo ((users_view disk q).inode n) k)
    pub small : b < 4294967296
    pub stage : Stage p
    pub filled : IsFilled p b
    pub fresh : (c : ℕ) → Contains (new_blocks h) c → IsFalse ((users_view disk p).block_marked c)

  -- what is free stays so where uses and its mark stay
  still_free : (v w : View) (c : ℕ) → ((i j : ℕ) → use_at geo v i j ≡ use_at geo w i j) → w.block_marked c ≡ v.block_marked c → IsFree geo v ghost c → IsFree geo w ghost c
  still_free v w c uses marks f = record {
    marked = marks ∙ f.marked;
    unclaimed = λ h. f.unclaimed (h.0, h.1, (uses h.0 h.1 ∙ (h.2).0, (h.2).1));
    not_held = f.not_held;
    not_given_up = f.not_given_up;
  }

  module _ (geometry : IsGeometry geo) (blocks : HasWholeBlocks geo (users_view disk q)) (rules : ObeysRules geo (users_view disk q)) (spare : IsSpare (users_view disk q) ghost) where
    -- ---- into a table that is there
    module _ (k b m x : ℕ) (table over : List ℕ) (kept : IsKeptIn geo (users_view disk q) n k b (KeptInTable m x table over)) (low : k < position_count geo) (late : IsFalse (has_position geo ((users_view disk q).inode n) k))
        (small : b < 4294967296) (p : List Pending) (s : Stage p) where
      abbrev v : View
      v = users_view disk p

      abbrev place : ℕ
      place = place_in_table geo k

      abbrev table' : List ℕ
      table' = with_pointer table place b

      abbrev cells : List Cell
      cells = pointer_after n place b table over

      abbrev slot : Pending
      slot = record { change = SetBytes x table'; after = cells }

      inside : place < 256
      inside = place_inside geo k m low kept.0

      whole : IsBlock table
      whole = subst IsBlock (sym kept.2) (blocks x (kept.1).1)

      before : v.bytes x ≡ table
      before = s.bytes x (rules.rule3.marked n m x kept.1) ∙ sym kept.2

      may : MayAppendSlot geo v cells n m x table'
      may = record {
        table = le-leb (most_blocks geo) m (table_is_table geo k m kept.0);
        claims = (sym (s.quiet.uses n m) ∙ (kept.1).0, (kept.1).1);
        record_first = elim (eqb_tells (pointer_in table place) 0) [
          | inl t ↦ inr (
            place,
            record {
              others = λ j few differs. ap (λ t. pointer_in t j) before ∙ sym (pointer_there table whole place b inside small j differs);
              none = ap (λ t. pointer_in t place) before ∙ t.1;
            },
          )
          | inr t ↦ inl (subst (λ none. Contains (Block b ∷ (if none then [] else Record n ∷ map Block over)) (Record n)) (sym t.0) (later_of (Block b) (Record n ∷ map Block over) (Record n) (first_of (Record n) (map Block over))))
        ];
        others = λ j one has.
            ap (λ t. pointer_in t (place_in_table geo j)) before
            ∙ sym (pointer_there table whole place b inside small (place_in_table geo j) (λ at.
            both_ways (has_position geo ((users_view disk q).inode n) k) late
            (subst (λ l. IsTrue (has_position geo ((users_view disk q).inode n) l)) (one_position geo j k m one kept.0 at) (ap (λ (y : Inode). has_position geo y j) (sym s.inode) ∙ has))));
      }

      slot_uses : (i j : ℕ) → use_at geo v i j ≡ use_at geo (users_view disk (slot ∷ p)) i j
      slot_uses = append_uses geo v cells n m x table' may (users_obey geo disk p ghost s.quiet.goes.all).rule3

      into_table : Linked p (slot ∷ p) []
      into_table = record {
        quiet = record {
          goes = step geo disk q ghost p ghost slot ghost s.quiet.goes (AppendsSlot cells n m x table' may);
          uses = λ i j. s.quiet.uses i j ∙ slot_uses i j;
        };
        kept = λ c f none. record {
          free = still_free v (users_view disk (slot ∷ p)) c slot_uses refl f.free;
          bit = after_kept disk p slot (Block c) (BlockBit c) (λ e. cc) f.bit;
        };
        new = λ c h. absurd (nothing_in c h);
      }

    -- ---- into a new one, which is filled first
    module _ (b x : ℕ) (table : List ℕ) (unused : IsFreeBlock geo (users_view disk q) x) (p : List Pending) (s : Stage p) (unmarked : IsFalse ((users_view disk p).block_marked x)) where
      abbrev bit_of_x : Pending
      bit_of_x = record { change = SetBlock x true; after = [] }

      abbrev cells_of_x : List Cell
      cells_of_x = BlockBit x ∷ Block b ∷ []

      abbrev contents_of_x : Pending
      contents_of_x = record { change = SetBytes x table; after = cells_of_x }

      abbrev founded : List Pending
      founded = contents_of_x ∷ bit_of_x ∷ p

      own : Contains cells_of_x (BlockBit x)
      own = first_of (BlockBit x) (Block b ∷ [])

      not_held : IsFalse (ghost.held x)
      not_held = (spare x unused.unmarked).0

      not_given_up : (m j : ℕ) → IsFalse (ghost.given_up x m j)
      not_given_up = (spare x unused.unmarked).1

      founded_uses : (i j : ℕ) → use_at geo (users_view disk p) i j ≡ use_at geo (users_view disk founded) i j
      founded_uses = same_uses geo disk q ghost p ghost x table cells_of_x s.quiet.goes unmarked not_held not_given_up own

      founded_stage : Stage founded
      founded_stage = record {
        quiet = record {
          goes = fill geo disk q ghost p ghost x table cells_of_x s.quiet.goes unmarked not_held not_given_up own;
          uses = λ i j. s.quiet.uses i j ∙ founded_uses i j;
        };
        inode = s.inode;
        bytes = λ c marked. put_there (users_view disk p).bytes x c table (λ e. both_ways ((users_view disk q).block_marked x) unused.unmarked (subst (λ y. IsTrue ((users_view disk q).block_marked y)) e marked)) ∙ s.bytes c marked;
      }

      founded_filled : IsFilled founded x
      founded_filled = record {
        free = free geo disk q ghost p ghost x table cells_of_x s.quiet.goes unmarked not_held not_given_up own;
        bit = after_bit geo disk q ghost p ghost x table cells_of_x s.quiet.goes unmarked not_held not_given_up own;
      }

      founded_kept : (c : ℕ) → IsFilled p c → (x ≡ c → ⊥) → IsFilled founded c
      founded_kept c f differs = record {
        free = still_free (users_view disk p) (users_view disk founded) c founded_uses (put_there (users_view disk p).block_marked x c true (λ e. differs (sym e))) f.free;
        bit = after_kept disk (bit_of_x ∷ p) contents_of_x (Block c) (BlockBit c) (λ e. cc)
            (after_kept disk p bit_of_x (Block c) (BlockBit c) (λ e. differs (sym (same_bit c x e))) f.bit);
      }

    -- ---- wherever it belongs
    pub further : (k b m x : ℕ) (table : List ℕ) (up : Holder) (p : List Pending) → At k b (KeptInNew m x table up) p
        → At m x up (record { change = SetBytes x table; after = BlockBit x ∷ Block b ∷ [] } ∷ record { change = SetBlock x true; after = [] } ∷ p)
    further k b m x table up p at =
        let unused = (at.kept.2).free in
        let unmarked = at.fresh x (first_of x (new_blocks up)) in
        record {
          kept = at.kept.3;
          apart = at.apart.1;
          low = table_inside geo k m at.low at.kept.0;
          late = at.kept.1;
          small = address_small geo geometry x unused.address;
          stage = founded_stage b x table unused p at.stage unmarked;
          filled = founded_filled b x table unused p at.stage unmarked;
          fresh = λ c i. put_there (users_view disk p).block_marked x c true (is_none x c (new_blocks up) (at.apart.1).0 i) ∙ at.fresh c (later_of x (new_blocks up) c i);
        }

    -- nobody claims the new table before
    pub unclaimed_new : (k b m x : ℕ) (table : List ℕ) (up : Holder) (p : List Pending) → At k b (KeptInNew m x table up) p → (i j : ℕ) → IsClaim geo (users_view disk p) i j x → ⊥
    unclaimed_new k b m x table up p at i j c =
        both_ways ((users_view disk p).block_marked x) (at.fresh x (first_of x (new_blocks up))) ((users_obey geo disk p ghost at.stage.quiet.goes.all).rule3.marked i j x c)

    -- a table that is there is claimed as before, and its new bytes change no use
    pub claimed_table : (k b m x : ℕ) (table over : List ℕ) (p : List Pending) → At k b (KeptInTable m x table over) p → IsClaim geo (users_view disk p) n m x
    claimed_table k b m x table over p at = (sym (at.stage.quiet.uses n m) ∙ (at.kept.1).0, (at.kept.1).1)

    pub table_uses : (k b m x : ℕ) (table over : List ℕ) (p : List Pending) → At k b (KeptInTable m x table over) p
        → (i j : ℕ) → use_at geo (users_view disk p) i j ≡ use_at geo (updated (users_view disk p) (SetBytes x (with_pointer table (place_in_table geo k) b))) i j
    table_uses k b m x table over p at = slot_uses k b m x table over at.kept at.low at.late at.small p at.stage

    pub link : (k b : ℕ) (h : Holder) (p : List Pending) → At k b h p → Linked p (linked geo n k b h p) (new_blocks h)
    link k b KeptInRecord p at = record { quiet = at.stage.quiet; kept = λ c g none. g; new = λ c g. absurd (nothing_in c g) }
    link k b (KeptInTable m x table over) p at = into_table k b m x table over at.kept at.low at.late at.small p at.stage
    link k b (KeptInNew m x table up) p at =
        let next = further k b m x table up p at in
        let rest = link m x up _ next in
        record {
          quiet = rest.quiet;
          kept = λ c g none. rest.kept c (founded_kept b x table (at.kept.2).free p at.stage (at.fresh x (first_of x (new_blocks up))) c g none.0) none.1;
          new = λ c i. elim (one_of_both x (new_blocks up) c i) [
            | inl e ↦ subst (IsFilled (linked geo n k b (KeptInNew m x table up) p)) e (rest.kept x next.filled (at.apart.1).0)
            | inr d ↦ rest.new c d
          ];
        }
