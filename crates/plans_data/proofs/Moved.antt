-- A block of a file moves: the updates, wherever its pointer is kept, and what the file claims then.
use Rattle.std.proofs.Common.{◌≡◌, ◌<◌, ◌≤◌, if◌then◌else◌, ℕ, Bool, false, eqb, List, [], ◌∷◌, map, ◌⊎◌, inl, inr, refl, sym, ap, ◌∙◌, subst, IsTrue, arith, Contains, Some, eq-eqb}
use Rattle.std.proofs.lemmas.Bool.{both_ways, and_parts, cases_eq, lt-leb, leb-true, ne_eqb, or_left, or_right}
use Rattle.std.proofs.lemmas.Option.{none-some, same_Some}
use Rattle.model.specs.Layout.{Geometry, is_number, is_data_address}
use Rattle.model.specs.View.{View, Inode}
use Rattle.model.specs.Image.{IsBlock}
use Rattle.model.specs.Cells.{SetInode, SetBytes, updated}
use Rattle.model.specs.Rules.{ObeysRules}
use Rattle.model.specs.Shape.{most_blocks, place_in_table, above, top, field_at, pointer_in, reaches, IsAbove, Next, Further}
use Rattle.model.specs.Uses.{blocks_of, is_sound, is_sound_at, has_position, record_use, use_at, IsClaim}
use Rattle.model.proofs.Fields.{other_field}
use Rattle.model.proofs.Shape.{table_cases, shallow, place_inside, one_position, reach_parts, top_none, top_step, top_inside, top_stands, above_is}
use Rattle.model.proofs.Uses.{use_number, number_use, OfRecord, OfTable, pointer_at, record_uses_agree, same_fields, below_has, bytes_leave_uses, above_table}
use Rattle.model.proofs.NewRecord.{other_use}
use Rattle.model.proofs.Places.{put_here, put_there}
use Rattle.machine.specs.State.{State}
use Rattle.machine.specs.Cells.{block_of, with_pointer}
use Rattle.machine.specs.Room.{IsFreeBlock}
use Rattle.machine.proofs.Pointing.{IsLike, pointed_like}
use Rattle.machine.proofs.PointerTables.{pointer_here, pointer_there}
use Rattle.ordering.specs.Cuts.{Cell, Record, BlockBit, Block, Pending, users_view, IsAfter}
use Rattle.ordering.specs.Ghosts.{Ghost, at_rest}
use Rattle.ordering.specs.Agrees.{AllAgree}
use Rattle.ordering.specs.Kinds.{IsFree}
use Rattle.ordering.specs.Rewrites.{Comes}
use Rattle.ordering.specs.Histories.{RewritesFile, MovesSlot}
use Rattle.ordering.proofs.Bits.{users_obey}
use Rattle.plans_data.specs.Now.{now}
use Rattle.plans_data.specs.Append.{Holder, KeptInRecord, KeptInTable, KeptInNew, IsWhole, IsNoneOf, IsKeptIn, new_blocks, filled, linked, pointed, pointer_after, known, sized}
use Rattle.plans_data.specs.Write.{held_besides, relocated}
use Rattle.plans_data.proofs.Blocks.{block_is, few_blocks, position_claimed}
use Rattle.plans_data.proofs.Chains.{Goes, step}
use Rattle.plans_data.proofs.Enlarging.{enlarge, enlarged_view}
use Rattle.plans_data.proofs.Filling.{AfterFill}
use Rattle.plans_data.proofs.Holders.{first_of, later_of, mapped, nothing_in, kept_points, new_listed, none_new}
use Rattle.plans_data.proofs.Linking.{IsFilled, Linked}
use Rattle.plans_data.proofs.Moving.{Moves}
use Rattle.plans_data.proofs.Numbers.{still_sound, address_small}
use Rattle.plans_data.proofs.Placed.{Change, placed, kept_at, came_at, block_comes}

-- the position on the way whose pointer stands in the record is the position itself, or a table
top_above : (geo : Geometry) (j : ℕ) → (top geo j ≡ j) ⊎ IsAbove geo j (top geo j)
top_above geo j = elim (table_cases geo j) [
  | inl none ↦ inl (top_none geo j none)
  | inr one ↦ inr (elim (table_cases geo one.0) [
    | inl none ↦ subst (IsAbove geo j) (sym (top_step geo j one.0 one.1 ∙ top_none geo one.0 none)) (Next one.1)
    | inr two ↦ subst (IsAbove geo j) (sym (top_step geo j one.0 one.1 ∙ top_step geo one.0 two.0 two.1 ∙ top_none geo two.0 (shallow geo j one.0 two.0 one.1 two.1))) (Further one.0 one.1 two.1)
  ])
]

-- what is known of a block that moves
pub record MayMove (geo : Geometry) (disk : View) (q : List Pending) (old : State) (safe : ℕ → Bool) (n k b : ℕ) (bytes : List ℕ) (size : ℕ) (h : Holder) : Type 0 where
  pub whole : IsWhole geo (users_view disk q)
  pub sound : IsTrue (is_sound_at geo (users_view disk q) n)
  pub file : ((users_view disk q).inode n).mode ≡ 1
  pub inside : k < blocks_of ((users_view disk q).inode n).size
  pub blocks : blocks_of ((users_view disk q).inode n).size ≡ blocks_of size
  pub more : ((users_view disk q).inode n).size ≤ size
  pub free : IsFreeBlock geo (users_view disk q) b
  pub kept : IsKeptIn geo (users_view disk q) n k b h
  pub all : AllAgree geo disk q (at_rest old.held safe)
  pub filled : AfterFill geo disk q (at_rest old.held safe) b bytes

module _ (geo : Geometry) (disk : View) (q : List Pending) (old : State) (safe : ℕ → Bool) (n k b : ℕ) (bytes : List ℕ) (size : ℕ) (h : Holder) (may : MayMove geo disk q old safe n k b bytes size h) where
  abbrev users : View
  users = users_view disk q

  abbrev was : Inode
  was = users.inode n

  abbrev new : Inode
  new = sized (pointed geo was k b h) size

  abbrev q2 : List Pending
  q2 = filled b bytes q

  abbrev u2 : View
  u2 = users_view disk q2

  abbrev q3 : List Pending
  q3 = linked geo n k b h q2

  abbrev u3 : View
  u3 = users_view disk q3

  abbrev w : View
  w = updated u3 (SetInode n new)

  abbrev ghost : Ghost
  ghost = at_rest old.held safe

  abbrev held : ℕ → Bool
  held = held_besides geo (now disk q old) n k

  rules : ObeysRules geo users
  rules = users_obey geo disk q ghost may.all

  number : IsTrue (is_number geo n)
  number = (and_parts (is_number geo n) (is_sound geo was) may.sound).0

  sound : IsTrue (is_sound geo was)
  sound = (and_parts (is_number geo n) (is_sound geo was) may.sound).1

  few : blocks_of was.size ≤ most_blocks geo
  few = few_blocks geo users n may.sound

  has : IsTrue (has_position geo was k)
  has = below_has geo was k may.inside few

  low : k < most_blocks geo
  low = omega (arith, may.inside, few)

  like : IsLike was (pointed geo was k b h)
  like = pointed_like geo users was (kept_points geo users n k b h may.kept)

  no_new : new_blocks h ≡ []
  no_new = none_new geo users n k b h may.kept has

  new_sound : IsTrue (is_sound geo new)
  new_sound = still_sound geo was new may.file (like.mode ∙ may.file) (sym may.blocks) sound

  pub change : Change geo disk q n k b bytes size h
  change = record {
    rules = rules;
    whole = may.whole;
    sound = may.sound;
    still_sound = new_sound;
    inside = omega (arith, may.inside, may.blocks);
    few = omega (arith, may.blocks, few);
    more = omega (arith, may.blocks);
    came = λ j less. inl (omega (arith, less, may.blocks));
    free = may.free;
    kept = may.kept;
    apart = subst (IsNoneOf b) (sym no_new) tt;
  }

  own : IsFilled geo disk q ghost n q2 b
  own = record { free = may.filled.free; bit = may.filled.bit }

  -- ---- the claims
  use_then : (j : ℕ) → record_use geo w (w.inode n) j ≡ record_use geo u3 new j
  use_then j = ap (λ x. record_use geo w x j) (put_here u3.inode n new) ∙ record_uses_agree geo w u3 new j (λ m t above u d. refl)

  -- another position than k is used as before
  pub other_came : (j a : ℕ) → (j ≡ k → ⊥) → record_use geo u3 new j ≡ Some a → record_use geo users was j ≡ Some a
  unfolding change
  other_came j a o u = elim (came_at geo disk q n k b bytes size h change j a u) [
    | inl before ↦ before.1
    | inr r ↦ elim r [
      | inl e ↦ absurd (o e.0)
      | inr f ↦ absurd (nothing_in a (subst (λ xs. Contains xs a) no_new (new_listed geo users n k b h may.kept j a f.1)))
    ]
  ]

  pub moves : Moves geo users w n k b
  moves = record {
    there = λ j a o c. (number_use geo w n j a number (use_then j ∙ kept_at geo disk q n k b bytes size h change j a o (use_number geo users n j a c.0).1), c.1);
    back = λ j a o c. (number_use geo users n j a number (other_came j a o (sym (use_then j) ∙ (use_number geo w n j a c.0).1)), c.1);
    here = λ a c. same_Some a b (sym (sym (use_then k) ∙ (use_number geo w n k a c.0).1) ∙ placed geo disk q n k b bytes size h change);
  }

  -- the block that stood there is held
  drops : (c : ℕ) → IsClaim geo u2 n k c → IsTrue (held c)
  drops c d = or_right (old.held c) (eqb c (block_of geo users n k)) (eq-eqb c (block_of geo users n k) (sym (block_is geo users n k c (may.filled.uses n k ∙ d.0, d.1))))

-- ---- in the record
module _ (geo : Geometry) (disk : View) (q : List Pending) (old : State) (safe : ℕ → Bool) (n k b : ℕ) (bytes : List ℕ) (size : ℕ) (may : MayMove geo disk q old safe n k b bytes size KeptInRecord) where
  abbrev users_r : View
  users_r = users_view disk q

  abbrev was_r : Inode
  was_r = users_r.inode n

  abbrev new_r : Inode
  new_r = sized (pointed geo was_r k b KeptInRecord) size

  abbrev q2_r : List Pending
  q2_r = filled b bytes q

  abbrev u2_r : View
  u2_r = users_view disk q2_r

  abbrev w_r : View
  w_r = updated u2_r (SetInode n new_r)

  abbrev ghost_r : Ghost
  ghost_r = at_rest old.held safe

  abbrev held_r : ℕ → Bool
  held_r = held_besides geo (now disk q old) n k

  done : Linked geo disk q ghost_r n q2_r q2_r []
  done = record { quiet = record { goes = may.filled.goes; uses = may.filled.uses }; kept = λ c f none. f; new = λ c i. absurd (nothing_in c i) }

  same_positions : (j : ℕ) → has_position geo new_r j ≡ has_position geo was_r j
  same_positions j = ap (λ m. reaches geo m j) (sym may.blocks)

  comes_b : Comes geo disk q2_r ghost_r (Block b ∷ []) new_r k b
  comes_b = block_comes geo disk q n k b bytes size KeptInRecord (change geo disk q old safe n k b bytes size KeptInRecord may) ghost_r done (own geo disk q old safe n k b bytes size KeptInRecord may)

  same_top : (j : ℕ) → (j ≡ k → ⊥) → IsTrue (has_position geo was_r j) → field_at geo new_r (top geo j) ≡ field_at geo was_r (top geo j)
  same_top j o has_j =
      other_field geo was_r k b (top geo j) (reach_parts geo (blocks_of was_r.size) k (has geo disk q old safe n k b bytes size KeptInRecord may)).0
      (top_inside geo j (reach_parts geo (blocks_of was_r.size) j has_j).0) may.kept (top_stands geo j) (λ e. elim (top_above geo j) [
        | inl same ↦ o (sym same ∙ e)
        | inr up ↦
            let past = leb-true (most_blocks geo) (top geo j) (above_table geo j (top geo j) up) in
            let below = low geo disk q old safe n k b bytes size KeptInRecord may in
            omega (arith, past, e, below)
      ])

  -- a block that comes stands at position k
  only : (j c : ℕ) → Comes geo disk q2_r ghost_r (Block b ∷ []) new_r j c → j ≡ k
  only j c comes = elim (cases_eq j k) [
    | inl e ↦ e
    | inr o ↦
        let before = number_use geo users_r n j c (number geo disk q old safe n k b bytes size KeptInRecord may) (other_came geo disk q old safe n k b bytes size KeptInRecord may j c o comes.uses) in
        absurd (comes.free.unclaimed (n, j, (sym (may.filled.uses n j) ∙ before, comes.address)))
  ]

  move_record : Goes geo disk q ghost_r (record { change = SetInode n new_r; after = Block b ∷ [] } ∷ q2_r) (at_rest held_r safe)
  move_record = step geo disk q ghost_r q2_r ghost_r (record { change = SetInode n new_r; after = Block b ∷ [] }) (at_rest held_r safe) may.filled.goes
      (RewritesFile held_r (λ c m j. false) (Block b ∷ []) n new_r (record {
        file = may.file;
        sound = sound geo disk q old safe n k b bytes size KeptInRecord may;
        still_file = (like geo disk q old safe n k b bytes size KeptInRecord may).mode ∙ may.file;
        links = omega (arith, (like geo disk q old safe n k b bytes size KeptInRecord may).links);
        blocks = record {
          number = number geo disk q old safe n k b bytes size KeptInRecord may;
          sound = inr (new_sound geo disk q old safe n k b bytes size KeptInRecord may);
          came = λ j s u. elim (cases_eq j k) [
            | inl e ↦ inr (b, subst (λ i. Comes geo disk q2_r ghost_r (Block b ∷ []) new_r i b) (sym e) comes_b)
            | inr o ↦ let has_j = sym (same_positions j) ∙ u in inl (record { sound = sound geo disk q old safe n k b bytes size KeptInRecord may; used = has_j; field = same_top j o has_j })
          ];
          once = λ j l c u v x y. only j c x ∙ sym (only l c y);
          went = λ j c d. elim (cases_eq j k) [
            | inl e ↦ inr (inl (drops geo disk q old safe n k b bytes size KeptInRecord may c (subst (λ i. IsClaim geo u2_r n i c) e d)))
            | inr o ↦ inl ((moves geo disk q old safe n k b bytes size KeptInRecord may).there j c o (may.filled.uses n j ∙ d.0, d.1))
          ];
          held = λ c t. or_left (old.held c) _ t;
          given_up = λ c m j t. t;
        };
      }))

-- ---- in a table
module _ (geo : Geometry) (disk : View) (q : List Pending) (old : State) (safe : ℕ → Bool) (n k b : ℕ) (bytes : List ℕ) (size : ℕ) (m x : ℕ) (table over : List ℕ)
    (may : MayMove geo disk q old safe n k b bytes size (KeptInTable m x table over)) where
  abbrev h : Holder
  h = KeptInTable m x table over

  abbrev users_t : View
  users_t = users_view disk q

  abbrev was_t : Inode
  was_t = users_t.inode n

  abbrev q2_t : List Pending
  q2_t = filled b bytes q

  abbrev u2_t : View
  u2_t = users_view disk q2_t

  abbrev place : ℕ
  place = place_in_table geo k

  abbrev table' : List ℕ
  table' = with_pointer table place b

  abbrev cells : List Cell
  cells = pointer_after n place b table over

  abbrev slot : Pending
  slot = record { change = SetBytes x table'; after = cells }

  abbrev ghost_t : Ghost
  ghost_t = at_rest old.held safe

  abbrev held_t : ℕ → Bool
  held_t = held_besides geo (now disk q old) n k

  rules_t : ObeysRules geo users_t
  rules_t = rules geo disk q old safe n k b bytes size h may

  claim : IsClaim geo users_t n m x
  claim = may.kept.1

  pub claim2 : IsClaim geo u2_t n m x
  claim2 = (sym (may.filled.uses n m) ∙ claim.0, claim.1)

  apart : b ≡ x → ⊥
  apart e = may.filled.unclaimed n m (subst (λ y. IsClaim geo users_t n m y) (sym e) claim)

  whole_table : IsBlock table
  whole_table = subst IsBlock (sym may.kept.2) (may.whole.blocks x claim.1)

  small : b < 4294967296
  small = address_small geo may.whole.geometry b may.free.address

  inside : place < 256
  inside = place_inside geo k m (reach_parts geo (blocks_of was_t.size) k (has geo disk q old safe n k b bytes size h may)).0 may.kept.0

  before : u2_t.bytes x ≡ table
  before = put_there users_t.bytes b x bytes (λ e. apart (sym e)) ∙ sym may.kept.2

  points : pointer_in table' place ≡ b
  points = pointer_here table whole_table place b inside small

  -- the pointer that stands there
  address_there : IsTrue (is_data_address geo (pointer_in table place))
  address_there =
      let u = position_claimed geo users_t rules_t n k may.sound (has geo disk q old safe n k b bytes size h may) in
      let at = pointer_at geo users_t was_t k (block_of geo users_t n k) (use_number geo users_t n k (block_of geo users_t n k) u.0).1 in
      elim at [
        | OfRecord none has_k is ↦ absurd (none-some m (sym none ∙ may.kept.0))
        | OfTable l t one has_k uses d is ↦
            let same_table : l ≡ m = same_Some l m (sym one ∙ may.kept.0) in
            let same_block : t ≡ x = same_Some t x (sym uses ∙ ap (record_use geo users_t was_t) same_table ∙ (use_number geo users_t n m x claim.0).1) in
            subst (λ y. IsTrue (is_data_address geo y)) (is ∙ ap (λ y. pointer_in (users_t.bytes y) place) same_block ∙ ap (λ ys. pointer_in ys place) (sym may.kept.2)) u.1
      ]

  first : Contains cells (Block b)
  first = first_of (Block b) _

  -- another pointer stood there, so the record and the tables above come first
  cells_are : cells ≡ Block b ∷ Record n ∷ map Block over
  cells_are = ap (λ (none : Bool). Block b ∷ (if none then [] else Record n ∷ map Block over))
      (ne_eqb (pointer_in table place) 0 (λ zero. both_ways (is_data_address geo 0) refl (subst (λ c. IsTrue (is_data_address geo c)) zero address_there)))

  second : Contains cells (Record n)
  second = subst (λ cs. Contains cs (Record n)) (sym cells_are) (later_of (Block b) (Record n ∷ map Block over) (Record n) (first_of (Record n) (map Block over)))

  above_known : (t u : ℕ) → IsAbove geo m t → IsClaim geo u2_t n t u → Contains cells (Block u)
  above_known t u up d =
      let is = block_is geo users_t n t u (may.filled.uses n t ∙ d.0, d.1) in
      let listed = subst (λ ys. Contains ys u) (sym may.kept.3) (subst (λ y. Contains (map (block_of geo users_t n) (above geo m)) y) is (mapped (block_of geo users_t n) (above geo m) t (above_is geo m t up))) in
      subst (λ cs. Contains cs (Block u)) (sym cells_are) (later_of (Block b) (Record n ∷ map Block over) (Block u) (later_of (Record n) (map Block over) (Block u) (mapped Block over u listed)))

  goes3 : Goes geo disk q ghost_t (slot ∷ q2_t) (at_rest held_t safe)
  goes3 = step geo disk q ghost_t q2_t ghost_t slot (at_rest held_t safe) may.filled.goes
      (MovesSlot held_t (λ c i j. false) cells n m x k table' (record {
        table = may.kept.0;
        no_table = lt-leb (most_blocks geo) k (low geo disk q old safe n k b bytes size h may);
        claims = claim2;
        tables = above_known;
        record_first = second;
        file = may.file;
        used = has geo disk q old safe n k b bytes size h may;
        others = λ j o one. ap (λ t. pointer_in t (place_in_table geo j)) before ∙ sym (pointer_there table whole_table place b inside small (place_in_table geo j) (λ at. o (one_position geo j k m one may.kept.0 at)));
        free = subst (λ c. IsFree geo u2_t ghost_t c) (sym points) may.filled.free;
        address = subst (λ c. IsTrue (is_data_address geo c)) (sym points) may.free.address;
        bit = subst (λ c. IsAfter disk q2_t (Block c) (BlockBit c)) (sym points) may.filled.bit;
        contents = subst (λ c. Contains cells (Block c)) (sym points) first;
        dropped = drops geo disk q old safe n k b bytes size h may;
        held = λ c t. or_left (old.held c) _ t;
        given_up = λ c i j t. t;
      }))

  move_slot : Goes geo disk q ghost_t (relocated geo n was_t k b bytes size h q) (at_rest held_t safe)
  move_slot = enlarge geo disk q ghost_t (slot ∷ q2_t) (at_rest held_t safe) n was_t size (known b h) refl (sound geo disk q old safe n k b bytes size h may) may.file may.blocks goes3

  slot_view : users_view disk (relocated geo n was_t k b bytes size h q) ≡ updated (users_view disk (slot ∷ q2_t)) (SetInode n (sized was_t size))
  slot_view = enlarged_view disk (slot ∷ q2_t) n was_t size (known b h) refl may.more

  -- the record with its new size uses what it uses now
  pub same_record : (j : ℕ) → record_use geo (users_view disk (slot ∷ q2_t)) was_t j ≡ record_use geo (users_view disk (slot ∷ q2_t)) (sized was_t size) j
  same_record = same_fields geo (users_view disk (slot ∷ q2_t)) was_t (sized was_t size) (sound geo disk q old safe n k b bytes size h may) (new_sound geo disk q old safe n k b bytes size h may) may.blocks (λ j. refl)

  -- what stands elsewhere is claimed as before
  pub stays_claimed : (j a : ℕ) → (j ≡ k → ⊥) → IsClaim geo users_t n j a → IsClaim geo (users_view disk (slot ∷ q2_t)) n j a
  stays_claimed j a o c =
      let u = use_number geo users_t n j a c.0 in
      (number_use geo (users_view disk (slot ∷ q2_t)) n j a u.0 (same_record j ∙ kept_at geo disk q n k b bytes size h (change geo disk q old safe n k b bytes size h may) j a o u.1), c.1)

  -- and what is claimed there was, or is the block at position k
  pub was_claimed : (j a : ℕ) → IsClaim geo (users_view disk (slot ∷ q2_t)) n j a → ((j ≡ k → ⊥) × IsClaim geo users_t n j a) ⊎ ((j ≡ k) × (a ≡ b))
  was_claimed j a c =
      let u = use_number geo (users_view disk (slot ∷ q2_t)) n j a c.0 in
      let new_use = sym (same_record j) ∙ u.1 in
      elim (cases_eq j k) [
        | inr o ↦ inl (o, (number_use geo users_t n j a u.0 (other_came geo disk q old safe n k b bytes size h may j a o new_use), c.1))
        | inl e ↦ inr (e, same_Some a b (sym (ap (record_use geo (users_view disk (slot ∷ q2_t)) (sized was_t size)) (sym e) ∙ new_use) ∙ placed geo disk q n k b bytes size h (change geo disk q old safe n k b bytes size h may)))
      ]

  -- the uses of other inodes stay
  pub slot_others : (i j : ℕ) → (i ≡ n → ⊥) → use_at geo u2_t i j ≡ use_at geo (users_view disk (slot ∷ q2_t)) i j
  slot_others i j o = bytes_leave_uses geo u2_t x table' i (λ l t c. o ((users_obey geo disk q2_t ghost_t may.filled.goes.all).rule3.once i l n m x c claim2).0) j

-- ---- wherever it belongs
module _ (geo : Geometry) (disk : View) (q : List Pending) (old : State) (safe : ℕ → Bool) (n k b : ℕ) (bytes : List ℕ) (size : ℕ) where
  pub no_new_table : (m x : ℕ) (table : List ℕ) (up : Holder) → MayMove geo disk q old safe n k b bytes size (KeptInNew m x table up) → ⊥
  no_new_table m x table up may = nothing_in x (subst (λ xs. Contains xs x) (no_new geo disk q old safe n k b bytes size (KeptInNew m x table up) may) (first_of x (new_blocks up)))

  pub move : (h : Holder) → MayMove geo disk q old safe n k b bytes size h
      → Goes geo disk q (at_rest old.held safe) (relocated geo n ((users_view disk q).inode n) k b bytes size h q) (at_rest (held_besides geo (now disk q old) n k) safe)
  move KeptInRecord may = move_record geo disk q old safe n k b bytes size may
  move (KeptInTable m x table over) may = move_slot geo disk q old safe n k b bytes size m x table over may
  move (KeptInNew m x table up) may = absurd (no_new_table m x table up may)

  pub moved_view : (h : Holder) → MayMove geo disk q old safe n k b bytes size h → users_view disk (relocated geo n ((users_view disk q).inode n) k b bytes size h q)
      ≡ updated (users_view disk (linked geo n k b h (filled b bytes q))) (SetInode n (sized (pointed geo ((users_view disk q).inode n) k b h) size))
  moved_view KeptInRecord may = refl
  moved_view (KeptInTable m x table over) may = slot_view geo disk q old safe n k b bytes size m x table over may
  moved_view (KeptInNew m x table up) may = refl

  other_uses : (h : Holder) → MayMove geo disk q old safe n k b bytes size h → (i j : ℕ) → (i ≡ n → ⊥)
      → use_at geo (users_view disk (filled b bytes q)) i j ≡ use_at geo (users_view disk (linked geo n k b h (filled b bytes q))) i j
  other_uses KeptInRecord may i j o = refl
  other_uses (KeptInTable m x table over) may i j o = slot_others geo disk q old safe n k b bytes size m x table over may i j o
  other_uses (KeptInNew m x table up) may i j o = absurd (no_new_table m x table up may)

  pub other_claims : (h : Holder) → MayMove geo disk q old safe n k b bytes size h → (i j a : ℕ) → (i ≡ n → ⊥)
      → IsClaim geo (updated (users_view disk (linked geo n k b h (filled b bytes q))) (SetInode n (sized (pointed geo ((users_view disk q).inode n) k b h) size))) i j a → IsClaim geo (users_view disk q) i j a
  other_claims h may i j a o c = (
    may.filled.uses i j ∙ other_uses h may i j o
        ∙ other_use geo (users_view disk (linked geo n k b h (filled b bytes q))) n (sized (pointed geo ((users_view disk q).inode n) k b h) size) i j o ∙ c.0,
    c.1,
  )
