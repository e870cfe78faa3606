-- Each kind of update names its file, where it shows what its kind asks for.
use Rattle.std.proofs.Common.{◌≡◌, ℕ, ◌/◌, Bool, true, false, List, ◌∷◌, inl, inr, Some, refl, sym, ap, ◌∙◌, subst, IsTrue, IsFalse, arith}
use Rattle.std.proofs.lemmas.Bool.{both_ways, cases_eq, and_parts, leb-true, cond-true, cond-false}
use Rattle.std.proofs.lemmas.Option.{same_Some}
use Rattle.model.specs.Layout.{Geometry, is_number}
use Rattle.model.specs.View.{View, Inode}
use Rattle.model.specs.Cells.{Update, SetInode, SetNumber, SetBlock, SetBytes, updated, put_at}
use Rattle.model.specs.Shape.{most_blocks, is_table, place_in_table, pointer_in}
use Rattle.model.specs.Uses.{use_at, has_position, is_sound, IsUse, IsClaim}
use Rattle.model.specs.Rules.{ObeysRules}
use Rattle.model.specs.Slots.{Slot}
use Rattle.model.proofs.CellLemmas.{use_stays}
use Rattle.model.proofs.Uses.{use_parts}
use Rattle.model.proofs.SameShape.{claim_back}
use Rattle.model.proofs.Places.{put_here}
use Rattle.model.proofs.NewRecord.{other_mode}
use Rattle.ordering.specs.Cuts.{Cell, Block, Pending, cell_of, same_cell, seen, rest, users_view}
use Rattle.ordering.specs.Ghosts.{Ghost}
use Rattle.ordering.specs.Kinds.{MayFill, MayWrite, SameBody}
use Rattle.ordering.specs.Rewrites.{Comes, Rewrites, MayAppendSlot, MayMoveSlot, moved}
use Rattle.ordering.specs.OneSlot.{ChangesSlot}
use Rattle.ordering.specs.Histories.{Step, SetsBlock, SetsNumber, ClearsNumber, ClearsBlock, Fills, Writes, Raises, Lowers, RewritesFile, GrowsDirectory, CreatesFile, CreatesDirectory, Frees, AppendsSlot, MovesSlot, Removes, Enters, Renames, RemovesDirectory, EntersDirectory}
use Rattle.ordering.proofs.Bits.{users_obey, sound_used}
use Rattle.ordering.proofs.Data.{directory_mode}
use Rattle.ordering.proofs.Flushes.{users_flushed}
use Rattle.ordering.proofs.Records.{body_shape}
use Rattle.ordering.proofs.RecordSteps.{use_before}
use Rattle.ordering.proofs.Tables.{append_uses, move_elsewhere, move_here, moved_table}
use Rattle.queue_model.specs.Files.{Written, updates, creates, generation, last_writer, IsFileBlock, WroteLast, NamesFiles}
use Rattle.queue_model.specs.Course.{IsGood}
use Rattle.queue_model.specs.Naming.{Naming}
use Rattle.queue_model.proofs.NewClaims.{number_of_block, bit_use, number_use, at_position}
use Rattle.queue_model.proofs.FileLemmas.{same_from, in_use, no_creation, differs_from, generation_stays}

-- what an update must show, over a users' view
pub record Shows (geo : Geometry) (users : View) (u : Update) (file : ℕ) (Wrote : ℕ → ℕ → Type 0) : Type 0 where
  pub written : (n k b : ℕ) (bytes : List ℕ) → u ≡ SetBytes b bytes → IsFileBlock geo users n k b → file ≡ n
  pub given : (n k b : ℕ) → IsFileBlock geo (updated users u) n k b → (IsFileBlock geo users n k b → ⊥) → Wrote n b

-- where uses stay
plain_shows : (geo : Geometry) (users : View) (x : ℕ) (bytes : List ℕ) (file : ℕ) (Wrote : ℕ → ℕ → Type 0) → ((n k : ℕ) → use_at geo users n k ≡ use_at geo (updated users (SetBytes x bytes)) n k)
    → ((n k : ℕ) → IsFileBlock geo users n k x → file ≡ n) → Shows geo users (SetBytes x bytes) file Wrote
plain_shows geo users x bytes file Wrote uses mine = record {
  written = λ n k b others e f. mine n k (subst (λ y. IsFileBlock geo users n k y) (sym (ap (λ u. number_of_block (cell_of u)) e)) f);
  given = λ n k b (c, low, one) new. absurd (new ((uses n k ∙ c.0, c.1), low, one));
}

slot_shows : (geo : Geometry) (users : View) (file : ℕ) (Wrote : ℕ → ℕ → Type 0) → ObeysRules geo users → (x : ℕ) (bytes : List ℕ) (d s : ℕ) (old new : Slot) → ChangesSlot geo users x bytes d s old new → Shows geo users (SetBytes x bytes) file Wrote
slot_shows geo users file Wrote rules x bytes d s old new may =
    let below = may.slot.below in
    plain_shows geo users x bytes file Wrote
    (use_stays geo users x bytes (λ i j tab c. let e : j ≡ s / 16 = (rules.rule3.once i j d (s / 16) x c may.slot.claim).1 in let past = leb-true (most_blocks geo) j tab in omega (arith, e, below, past)))
    (λ n k (c, low, one). let two : (users.inode d).mode ≡ 2 = directory_mode geo users d may.slot.directory in
    let same = ap (λ j. (users.inode j).mode) (rules.rule3.once n k d (s / 16) x c may.slot.claim).0 in absurd (omega (arith, two, same, one)))

fill_shows : (geo : Geometry) (users : View) (ghost : Ghost) (after : List Cell) (file : ℕ) (Wrote : ℕ → ℕ → Type 0) (x : ℕ) (bytes : List ℕ) → MayFill geo users ghost after x → Shows geo users (SetBytes x bytes) file Wrote
fill_shows geo users ghost after file Wrote x bytes may =
    plain_shows geo users x bytes file Wrote (use_stays geo users x bytes (λ i j tab c. may.free.unclaimed (i, j, c))) (λ n k (c, low, one). absurd (may.free.unclaimed (n, k, c)))

write_shows : (geo : Geometry) (users : View) (file : ℕ) (Wrote : ℕ → ℕ → Type 0) → ObeysRules geo users → (m l x : ℕ) (bytes : List ℕ) → MayWrite geo users m l x → file ≡ m → Shows geo users (SetBytes x bytes) file Wrote
write_shows geo users file Wrote rules m l x bytes may mine =
    plain_shows geo users x bytes file Wrote (use_stays geo users x bytes (λ i j tab c. both_ways (is_table geo l) may.no_table (subst (λ k. IsTrue (is_table geo k)) (rules.rule3.once i j m l x c may.claims).1 tab)))
    (λ n k (c, low, one). mine ∙ sym (rules.rule3.once n k m l x c may.claims).0)

append_shows : (geo : Geometry) (users : View) (after : List Cell) (file : ℕ) (Wrote : ℕ → ℕ → Type 0) → ObeysRules geo users → (m t x : ℕ) (bytes : List ℕ) → MayAppendSlot geo users after m t x bytes → Shows geo users (SetBytes x bytes) file Wrote
append_shows geo users after file Wrote rules m t x bytes may =
    plain_shows geo users x bytes file Wrote (append_uses geo users after m t x bytes may rules.rule3)
    (λ n k (c, low, one). absurd (both_ways (is_table geo k) low (subst (λ l. IsTrue (is_table geo l)) (sym (rules.rule3.once n k m t x c may.claims).1) may.table)))

move_shows : (geo : Geometry) (disk : View) (q : List Pending) (ghost : Ghost) (held : ℕ → Bool) (up : ℕ → ℕ → ℕ → Bool) (after : List Cell) (file : ℕ) (Wrote : ℕ → ℕ → Type 0) → ObeysRules geo (users_view disk q) → (m t x p : ℕ) (bytes : List ℕ)
    → MayMoveSlot geo disk q ghost (moved held up ghost) after m t x p bytes → ((x ≡ pointer_in bytes (place_in_table geo p) → ⊥) → Wrote m (pointer_in bytes (place_in_table geo p))) → Shows geo (users_view disk q) (SetBytes x bytes) file Wrote
move_shows geo disk q ghost held up after file Wrote rules m t x p bytes may mine = record {
  written = λ n k b others e (c, low, one).
      let at = (rules.rule3.once n k m t x (subst (λ y. IsClaim geo users n k y) (sym (ap (λ u. number_of_block (cell_of u)) e)) c) may.claims).1 in
      absurd (both_ways (is_table geo k) low (subst (λ l. IsTrue (is_table geo l)) (sym at) (moved_table geo disk q ghost held up after m t x p bytes may)));
  given = λ n k b (c, low, one) new. elim (at_position n m k p) [
    | inr other ↦ absurd (new ((move_elsewhere geo disk q ghost held up after m t x p bytes may users may.claims rules.rule3 refl refl n k other ∙ c.0, c.1), low, one))
    | inl at ↦
        let here : IsUse geo users' m p b = subst (λ j. IsUse geo users' j p b) at.0 (subst (λ j. IsUse geo users' n j b) at.1 c.0) in
        let value : to ≡ b = same_Some to b (sym (move_here geo disk q ghost held up after m t x p bytes may users may.claims rules.rule3 refl refl) ∙ here) in
        subst (λ y. Wrote n y) value (subst (λ j. Wrote j to) (sym at.0) (mine (λ e. may.free.unclaimed (m, t, subst (λ y. IsClaim geo users m t y) e may.claims))))
  ];
}
  where
    users : View
    users = users_view disk q

    users' : View
    users' = updated users (SetBytes x bytes)

    to : ℕ
    to = pointer_in bytes (place_in_table geo p)

bit_shows : (geo : Geometry) (users : View) (file : ℕ) (Wrote : ℕ → ℕ → Type 0) (a : ℕ) (x : Bool) → Shows geo users (SetBlock a x) file Wrote
bit_shows geo users file Wrote a x = record { written = λ n k b bytes e f. cc; given = λ n k b (c, low, one) new. absurd (new ((sym (bit_use geo users a x n k) ∙ c.0, c.1), low, one)) }

number_shows : (geo : Geometry) (users : View) (file : ℕ) (Wrote : ℕ → ℕ → Type 0) (m : ℕ) (x : Bool) → Shows geo users (SetNumber m x) file Wrote
number_shows geo users file Wrote m x = record { written = λ n k b bytes e f. cc; given = λ n k b (c, low, one) new. absurd (new ((sym (number_use geo users m x n k) ∙ c.0, c.1), low, one)) }

body_shows : (geo : Geometry) (users : View) (file : ℕ) (Wrote : ℕ → ℕ → Type 0) (m : ℕ) (x : Inode) → SameBody geo (users.inode m) x → Shows geo users (SetInode m x) file Wrote
body_shows geo users file Wrote m x body =
    let shape = body_shape geo users m x body in record {
      written = λ n k b bytes e f. cc;
      given = λ n k b (c, low, one) new. absurd (new (claim_back geo users (updated users (SetInode m x)) shape n k b c, low, shape.modes n ∙ one));
    }

record_shows : (geo : Geometry) (disk : View) (q : List Pending) (ghost ghost' : Ghost) (after : List Cell) (file : ℕ) (Wrote : ℕ → ℕ → Type 0) (m : ℕ) (x : Inode) → Rewrites geo disk q ghost ghost' after m x
    → (x.mode ≡ 1 → IsTrue (is_sound geo ((users_view disk q).inode m)) → ((users_view disk q).inode m).mode ≡ 1)
    → ((k b : ℕ) → x.mode ≡ 1 → IsFalse (is_table geo k) → IsTrue (has_position geo x k) → Comes geo disk q ghost after x k b → Wrote m b) → Shows geo (users_view disk q) (SetInode m x) file Wrote
record_shows geo disk q ghost ghost' after file Wrote m x r was mine = record {
  written = λ n k b bytes e f. cc;
  given = λ n k b (c, low, file) new. elim (use_before geo disk q ghost ghost' after m x r users refl (λ t c. refl) n k b c.0) [
    | inl old ↦ absurd (new ((old, c.1), low, mode n k b file old))
    | inr came ↦ subst (λ j. Wrote j b) (sym came.0.mine) (mine k b (one n file came.0.mine) low came.0.used came.0.comes)
  ];
}
  where
    users : View
    users = users_view disk q

    one : (n : ℕ) → (put_at users.inode m x n).mode ≡ 1 → n ≡ m → x.mode ≡ 1
    one n file e = sym (ap (λ j. (put_at users.inode m x j).mode) e ∙ ap (λ (y : Inode). y.mode) (put_here users.inode m x)) ∙ file

    mode : (n k b : ℕ) → (put_at users.inode m x n).mode ≡ 1 → IsUse geo users n k b → (users.inode n).mode ≡ 1
    mode n k b file old = elim (cases_eq n m) [
      | inr other ↦ other_mode geo users m x n other ∙ file
      | inl e ↦
          let sound = (and_parts (is_number geo n) (is_sound geo (users.inode n)) (use_parts geo users n k b old).sound).1 in
          ap (λ j. (users.inode j).mode) e ∙ was (one n file e) (subst (λ j. IsTrue (is_sound geo (users.inode j))) e sound)
    ]

-- ---- kinds

-- a write of a block in the name of a file
pub wrote_now : (mounted : View) (h : List Written) (w : Written) (b : ℕ) (bytes : List ℕ) → w.update.change ≡ SetBytes b bytes → WroteLast mounted (w ∷ h) w.file b
wrote_now mounted h w b bytes e =
    cond-true (same_cell (cell_of w.update.change) (Block b)) (Some (record { number = w.file; generation = generation mounted h w.file })) (last_writer mounted h b) (same_from (cell_of w.update.change) (Block b) (ap cell_of e))
    ∙ ap (λ g. Some (record { number = w.file; generation = g }))
    (sym (generation_stays mounted h w w.file (subst (λ x. IsFalse (creates (users_view mounted (updates h)) x w.file)) (sym e) refl)))

-- where the record stays, and the block is another one
pub still_wrote : (mounted : View) (h : List Written) (w : Written) (n b : ℕ) → IsFalse (creates (users_view mounted (updates h)) w.update.change n) → (cell_of w.update.change ≡ Block b → ⊥) → WroteLast mounted h n b → WroteLast mounted (w ∷ h) n b
still_wrote mounted h w n b f other last =
    cond-false (same_cell (cell_of w.update.change) (Block b)) (Some (record { number = w.file; generation = generation mounted h w.file })) (last_writer mounted h b) (differs_from (cell_of w.update.change) (Block b) other)
    ∙ last ∙ ap (λ g. Some (record { number = n; generation = g })) (sym (generation_stays mounted h w n f))

step_shows : (geo : Geometry) (mounted : View) (h : List Written) (disk : View) (q : List Pending) (ghost : Ghost) (u : Pending) (ghost' : Ghost) (step : Step geo disk q ghost u ghost') (file : ℕ) → users_view disk q ≡ users_view mounted (updates h)
    → ObeysRules geo (users_view disk q) → Naming geo mounted h file step → Shows geo (users_view disk q) u.change file (WroteLast mounted (record { update = u; file = file } ∷ h))
step_shows geo mounted h disk q ghost u ghost' (SetsBlock after b may) file e o names = bit_shows geo (users_view disk q) file _ b true
step_shows geo mounted h disk q ghost u ghost' (SetsNumber after n k may) file e o names = number_shows geo (users_view disk q) file _ n true
step_shows geo mounted h disk q ghost u ghost' (ClearsNumber after n may) file e o names = number_shows geo (users_view disk q) file _ n false
step_shows geo mounted h disk q ghost u ghost' (ClearsBlock after b may) file e o names = bit_shows geo (users_view disk q) file _ b false
step_shows geo mounted h disk q ghost u ghost' (Fills after b bytes may) file e o names = fill_shows geo (users_view disk q) ghost after file _ b bytes may
step_shows geo mounted h disk q ghost u ghost' (Writes after n p b bytes may) file e o names = write_shows geo (users_view disk q) file _ o n p b bytes may names
step_shows geo mounted h disk q ghost u ghost' (Raises after n x may) file e o names = body_shows geo (users_view disk q) file _ n x may.body
step_shows geo mounted h disk q ghost u ghost' (Lowers after n x may) file e o names = body_shows geo (users_view disk q) file _ n x may.body
step_shows geo mounted h disk q ghost u ghost' (RewritesFile held up after n x may) file e o names =
    record_shows geo disk q ghost (moved held up ghost) after file _ n x may.blocks (λ m s. may.file)
    (λ k b m low used comes. still_wrote mounted h (record { update = u; file = file }) n b
    (in_use (users_view mounted (updates h)) u.change n (λ z. let one : ((users_view mounted (updates h)).inode n).mode ≡ 1 = ap (λ (v : View). (v.inode n).mode) (sym e) ∙ may.file in let none : ((users_view mounted (updates h)).inode n).mode ≡ 0 = z in omega (arith, one, none)))
    (λ d. cc) (names k b low comes))
step_shows geo mounted h disk q ghost u ghost' (GrowsDirectory after n x may) file e o names =
    record_shows geo disk q ghost ghost after file _ n x may.blocks (λ m s. let two = may.still_directory in absurd (omega (arith, m, two))) (λ k b m low used comes. let two = may.still_directory in absurd (omega (arith, m, two)))
step_shows geo mounted h disk q ghost u ghost' (CreatesFile after n x may) file e o names =
    record_shows geo disk q ghost ghost after file _ n x may.blocks (λ m s. absurd (sound_used geo ((users_view disk q).inode n) s may.free)) (λ k b m low used comes. absurd (both_ways (has_position geo x k) (names k) used))
step_shows geo mounted h disk q ghost u ghost' (CreatesDirectory after n x may) file e o names =
    record_shows geo disk q ghost ghost after file _ n x may.blocks (λ m s. absurd (sound_used geo ((users_view disk q).inode n) s may.free)) (λ k b m low used comes. absurd (omega (arith, m, names)))
step_shows geo mounted h disk q ghost u ghost' (Frees held up after n x may) file e o names =
    record_shows geo disk q ghost _ after file _ n x may.blocks (λ m s. let z = may.free in absurd (omega (arith, m, z))) (λ k b m low used comes. let z = may.free in absurd (omega (arith, m, z)))
step_shows geo mounted h disk q ghost u ghost' (AppendsSlot after n m x bytes may) file e o names = append_shows geo (users_view disk q) after file _ o n m x bytes may
step_shows geo mounted h disk q ghost u ghost' (MovesSlot held up after n m x p bytes may) file e o names =
    move_shows geo disk q ghost held up after file _ o n m x p bytes may
    (λ other. still_wrote mounted h (record { update = u; file = file }) n (pointer_in bytes (place_in_table geo p)) (no_creation (users_view mounted (updates h)) u.change n refl) (λ d. other (ap number_of_block d)) names)
step_shows geo mounted h disk q ghost u ghost' (Removes after block bytes d s i name safe may) file e o names = slot_shows geo (users_view disk q) file _ o block bytes d s _ _ may.change
step_shows geo mounted h disk q ghost u ghost' (Enters after block bytes d s i name may) file e o names = slot_shows geo (users_view disk q) file _ o block bytes d s _ _ may.change
step_shows geo mounted h disk q ghost u ghost' (Renames after block bytes d s i old new may) file e o names = slot_shows geo (users_view disk q) file _ o block bytes d s _ _ may.change
step_shows geo mounted h disk q ghost u ghost' (RemovesDirectory after block bytes d s i b name may) file e o names = slot_shows geo (users_view disk q) file _ o block bytes d s _ _ may.change
step_shows geo mounted h disk q ghost u ghost' (EntersDirectory after block bytes d s i b name may) file e o names = slot_shows geo (users_view disk q) file _ o block bytes d s _ _ may.change

pub naming_names : (geo : Geometry) (mounted : View) (h : List Written) (cut : List Bool) (ghost : Ghost) (u : Pending) (ghost' : Ghost) (file : ℕ) → IsGood geo mounted h cut ghost
    → (step : Step geo (seen mounted (updates h) cut) (rest (updates h) cut) ghost u ghost') → Naming geo mounted h file step → NamesFiles geo mounted h (record { update = u; file = file })
naming_names geo mounted h cut ghost u ghost' file g step names =
    let disk = seen mounted (updates h) cut in
    let q = rest (updates h) cut in
    let e : users_view disk q ≡ users_view mounted (updates h) = users_flushed mounted (updates h) cut g.closed in
    let s : Shows geo (users_view mounted (updates h)) u.change file (WroteLast mounted (record { update = u; file = file } ∷ h))
    = subst (λ v. Shows geo v u.change file (WroteLast mounted (record { update = u; file = file } ∷ h))) e (step_shows geo mounted h disk q ghost u ghost' step file e (users_obey geo disk q ghost g.agree) names) in
    record { written = s.written; given = s.given }
