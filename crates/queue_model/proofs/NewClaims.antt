-- What a file claims after an update that a cut takes, it claimed before, or the users' view claims it and the cut has the block's last bytes.
use Rattle.std.proofs.Common.{◌≡◌, ℕ, ◌/◌, Bool, true, false, List, ◌⊎◌, inl, inr, refl, sym, ap, ◌∙◌, subst, Some, IsTrue, arith}
use Rattle.std.proofs.lemmas.Bool.{both_ways, cases_eq, and_parts, leb-true}
use Rattle.std.proofs.lemmas.Option.{same_Some}
use Rattle.model.specs.Layout.{Geometry, is_number}
use Rattle.model.specs.View.{View, Inode}
use Rattle.model.specs.Cells.{Update, SetInode, SetNumber, SetBlock, SetBytes, updated, put_at}
use Rattle.model.specs.Shape.{most_blocks, is_table, place_in_table, pointer_in}
use Rattle.model.specs.Uses.{use_at, is_sound, IsUse, IsClaim}
use Rattle.model.specs.Rules.{ObeysRules}
use Rattle.model.specs.Slots.{Slot}
use Rattle.model.proofs.CellLemmas.{use_stays}
use Rattle.model.proofs.Uses.{use_parts, uses_agree}
use Rattle.model.proofs.SameShape.{claim_back}
use Rattle.model.proofs.Places.{put_here}
use Rattle.model.proofs.NewRecord.{other_mode}
use Rattle.ordering.specs.Cuts.{Cell, Record, NumberBit, BlockBit, Block, Pending, users_view, AreIn, cell_of}
use Rattle.ordering.specs.Ghosts.{Ghost}
use Rattle.ordering.specs.Agrees.{Agrees, AllAgree}
use Rattle.ordering.specs.Kinds.{MayFill, MayWrite, SameBody}
use Rattle.ordering.specs.Rewrites.{Rewrites, MayAppendSlot, MayMoveSlot, moved}
use Rattle.ordering.specs.OneSlot.{ChangesSlot}
use Rattle.ordering.specs.Histories.{Step, SetsBlock, SetsNumber, ClearsNumber, ClearsBlock, Fills, Writes, Raises, Lowers, RewritesFile, GrowsDirectory, CreatesFile, CreatesDirectory, Frees, AppendsSlot, MovesSlot, Removes, Enters, Renames, RemovesDirectory, EntersDirectory}
use Rattle.ordering.proofs.Bits.{users_obey, sound_used, claim_used}
use Rattle.ordering.proofs.Data.{directory_mode}
use Rattle.ordering.proofs.Records.{body_shape}
use Rattle.ordering.proofs.RecordSteps.{use_before, new_claim}
use Rattle.ordering.proofs.Tables.{append_alone, append_uses_cut, move_elsewhere, move_here, moved_table, view_claim}
use Rattle.queue_model.specs.Files.{IsFileBlock}

-- it was there before, in a block that is not written now, or it is one of the users' view
abbrev pub IsOldOrUsers : Geometry → View → View → (Cell → Bool) → Update → ℕ → ℕ → ℕ → Type 0
IsOldOrUsers geo users' view set u n k b = (IsFileBlock geo view n k b × (cell_of u ≡ Block b → ⊥)) ⊎ (IsFileBlock geo users' n k b × IsTrue (set (Block b)))

abbrev pub Accounts : Geometry → View → Ghost → Pending → Type 0
Accounts geo users ghost u = (set : Cell → Bool) (view : View) → Agrees geo users ghost set view → IsTrue (set (cell_of u.change)) → AreIn u.after set
    → (n k b : ℕ) → IsFileBlock geo (updated view u.change) n k b → IsOldOrUsers geo (updated users u.change) view set u.change n k b

abbrev pub number_of_block : Cell → ℕ
number_of_block (Record n) = n
number_of_block (NumberBit n) = n
number_of_block (BlockBit n) = n
number_of_block (Block n) = n

-- ---- bits

pub bit_use : (geo : Geometry) (v : View) (b : ℕ) (x : Bool) (n k : ℕ) → use_at geo (updated v (SetBlock b x)) n k ≡ use_at geo v n k
bit_use geo v b x n k = uses_agree geo (updated v (SetBlock b x)) v n k (λ number. refl) (λ m a above c. refl)

pub number_use : (geo : Geometry) (v : View) (m : ℕ) (x : Bool) (n k : ℕ) → use_at geo (updated v (SetNumber m x)) n k ≡ use_at geo v n k
number_use geo v m x n k = uses_agree geo (updated v (SetNumber m x)) v n k (λ number. refl) (λ j a above c. refl)

block_bit_accounts : (geo : Geometry) (users : View) (ghost : Ghost) (after : List Cell) (a : ℕ) (x : Bool) → Accounts geo users ghost (record { change = SetBlock a x; after = after })
block_bit_accounts geo users ghost after a x set view g own met n k b (c, low, file) = inl (((sym (bit_use geo view a x n k) ∙ c.0, c.1), low, file), λ e. cc)

number_bit_accounts : (geo : Geometry) (users : View) (ghost : Ghost) (after : List Cell) (m : ℕ) (x : Bool) → Accounts geo users ghost (record { change = SetNumber m x; after = after })
number_bit_accounts geo users ghost after m x set view g own met n k b (c, low, file) = inl (((sym (number_use geo view m x n k) ∙ c.0, c.1), low, file), λ e. cc)

-- ---- contents of blocks

-- where uses stay, and the block is no file's in the cut
plain_account : (geo : Geometry) (users' view : View) (set : Cell → Bool) (x : ℕ) (bytes : List ℕ) (n k b : ℕ) → use_at geo view n k ≡ use_at geo (updated view (SetBytes x bytes)) n k
    → ((m j : ℕ) → IsFileBlock geo view m j x → ⊥) → IsFileBlock geo (updated view (SetBytes x bytes)) n k b → IsOldOrUsers geo users' view set (SetBytes x bytes) n k b
plain_account geo users' view set x bytes n k b uses none (c, low, file) =
    let old : IsFileBlock geo view n k b = ((uses ∙ c.0, c.1), low, file) in
    inl (old, λ e. let d : x ≡ b = ap number_of_block e in none n k (subst (λ y. IsFileBlock geo view n k y) (sym d) old))

-- what a cut with the last bytes of a block that the users' view claims has of it
only_claim : (geo : Geometry) (users : View) (ghost : Ghost) (set : Cell → Bool) (view : View) → Agrees geo users ghost set view → (m l x : ℕ) → IsClaim geo users m l x → IsTrue (set (Block x))
    → (n k : ℕ) → IsClaim geo view n k x → (n ≡ m) × (k ≡ l) × ((view.inode n).mode ≡ (users.inode m).mode)
only_claim geo users ghost set view a m l x c own n k d =
    let e = a.blocks.claimed x m l n k (a.blocks.marked x m l c own) c d in
    (e.0, e.1, ap (λ j. (view.inode j).mode) e.0 ∙ a.modes.mode m e.2 (λ z. claim_used geo users m l x c z) (λ z. claim_used geo view n k x d (ap (λ j. (view.inode j).mode) e.0 ∙ z)))

fill_accounts : (geo : Geometry) (users : View) (ghost : Ghost) (after : List Cell) (x : ℕ) (bytes : List ℕ) → MayFill geo users ghost after x → Accounts geo users ghost (record { change = SetBytes x bytes; after = after })
fill_accounts geo users ghost after x bytes may set view a own met n k b f =
    plain_account geo (updated users (SetBytes x bytes)) view set x bytes n k b (use_stays geo view x bytes (λ i t tab c. none i t c) n k) (λ m j c. none m j c.0) f
  where
    none : (m j : ℕ) → IsClaim geo view m j x → ⊥
    none m j c = both_ways (ghost.given_up x m j) (may.free.not_given_up m j) (a.blocks.unclaimed x m j (met (BlockBit x) may.bit) may.free.unclaimed may.free.not_held c)

write_accounts : (geo : Geometry) (users : View) (ghost : Ghost) (after : List Cell) (m l x : ℕ) (bytes : List ℕ) → ObeysRules geo users → MayWrite geo users m l x → Accounts geo users ghost (record { change = SetBytes x bytes; after = after })
write_accounts geo users ghost after m l x bytes rules may set view a own met n k b (c, low, file) =
    let only = only_claim geo users ghost set view a m l x may.claims own in
    let uses = use_stays geo view x bytes (λ i t tab d. both_ways (is_table geo l) may.no_table (subst (λ j. IsTrue (is_table geo j)) (only i t d).1 tab)) n k in
    let old : IsClaim geo view n k b = (uses ∙ c.0, c.1) in
    elim (cases_eq b x) [
      | inr other ↦ inl ((old, low, file), λ e. other (sym (ap number_of_block e)))
      | inl same ↦
          let at = only n k (subst (λ y. IsClaim geo view n k y) same old) in
          let still : IsClaim geo (updated users (SetBytes x bytes)) m l x = (sym (use_stays geo users x bytes (λ i t tab d. both_ways (is_table geo l) may.no_table (subst (λ j. IsTrue (is_table geo j)) (rules.rule3.once i t m l x d may.claims).1 tab)) m l) ∙ may.claims.0, may.claims.1) in
          let mine : IsClaim geo (updated users (SetBytes x bytes)) n k b
          = subst (λ y. IsClaim geo (updated users (SetBytes x bytes)) n k y) (sym same) (subst (λ j. IsClaim geo (updated users (SetBytes x bytes)) n j x) (sym at.1) (subst (λ j. IsClaim geo (updated users (SetBytes x bytes)) j l x) (sym at.0) still)) in
          inr ((mine, low, ap (λ j. (users.inode j).mode) at.0 ∙ may.file), subst (λ y. IsTrue (set (Block y))) (sym same) own)
    ]

-- a directory's block
slot_accounts : (geo : Geometry) (users : View) (ghost : Ghost) (after : List Cell) (x : ℕ) (bytes : List ℕ) (d s : ℕ) (old new : Slot) → ChangesSlot geo users x bytes d s old new → Accounts geo users ghost (record { change = SetBytes x bytes; after = after })
slot_accounts geo users ghost after x bytes d s old new may set view a own met n k b f =
    let only = only_claim geo users ghost set view a d (s / 16) x may.slot.claim own in
    let below = may.slot.below in
    plain_account geo (updated users (SetBytes x bytes)) view set x bytes n k b
    (use_stays geo view x bytes (λ i t tab c. let e : t ≡ s / 16 = (only i t c).1 in let past = leb-true (most_blocks geo) t tab in omega (arith, e, below, past)) n k)
    (λ m j c. let two : (users.inode d).mode ≡ 2 = directory_mode geo users d may.slot.directory in let same = (only m j c.0).2 in let one = c.2 in omega (arith, two, same, one)) f

-- ---- tables

append_accounts : (geo : Geometry) (users : View) (ghost : Ghost) (after : List Cell) (m t x : ℕ) (bytes : List ℕ) → MayAppendSlot geo users after m t x bytes → Accounts geo users ghost (record { change = SetBytes x bytes; after = after })
append_accounts geo users ghost after m t x bytes may set view a own met n k b f =
    let alone = append_alone geo users ghost after m t x bytes may set view a own met in
    plain_account geo (updated users (SetBytes x bytes)) view set x bytes n k b
    (append_uses_cut geo users ghost after m t x bytes may set view a own met n k)
    (λ i j c. both_ways (is_table geo j) c.1 (subst (λ l. IsTrue (is_table geo l)) (sym (alone i j c.0).1) may.table)) f

-- at the position or elsewhere
pub at_position : (n m k p : ℕ) → ((n ≡ m) × (k ≡ p)) ⊎ ((n ≡ m) × (k ≡ p) → ⊥)
at_position n m k p = elim (cases_eq n m) [
  | inr differs ↦ inr (λ q. differs q.0)
  | inl same ↦ elim (cases_eq k p) [ inl at ↦ inl (same, at) | inr differs ↦ inr (λ q. differs q.1) ]
]

move_accounts : (geo : Geometry) (disk : View) (q : List Pending) (ghost : Ghost) (held : ℕ → Bool) (up : ℕ → ℕ → ℕ → Bool) (after : List Cell) (m t x p : ℕ) (bytes : List ℕ) → ObeysRules geo (users_view disk q)
    → MayMoveSlot geo disk q ghost (moved held up ghost) after m t x p bytes → Accounts geo (users_view disk q) ghost (record { change = SetBytes x bytes; after = after })
move_accounts geo disk q ghost held up after m t x p bytes rules may set view a own met n k b (c, low, file) = elim (at_position n m k p) [
  | inr other ↦ plain_account geo users' view set x bytes n k b
      (move_elsewhere geo disk q ghost held up after m t x p bytes may view claim a.rules.rule3 same same_block n k other)
      (λ i j d. both_ways (is_table geo j) d.1
      (subst (λ l. IsTrue (is_table geo l)) (sym (a.rules.rule3.once i j m t x d.0 claim).1) (moved_table geo disk q ghost held up after m t x p bytes may))) (c, low, file)
  | inl at ↦
      let here : IsUse geo view' m p b = subst (λ j. IsUse geo view' j p b) at.0 (subst (λ j. IsUse geo view' n j b) at.1 c.0) in
      let value : to ≡ b = same_Some to b (sym (move_here geo disk q ghost held up after m t x p bytes may view claim a.rules.rule3 same same_block) ∙ here) in
      let theirs : IsClaim geo users' m p b = (move_here geo disk q ghost held up after m t x p bytes may users may.claims rules.rule3 refl refl ∙ ap Some value, c.1) in
      inr (
        (subst (λ j. IsClaim geo users' n j b) (sym at.1) (subst (λ j. IsClaim geo users' j p b) (sym at.0) theirs), low, ap (λ j. (users.inode j).mode) at.0 ∙ may.file),
        subst (λ y. IsTrue (set (Block y))) value (met (Block to) may.contents),
      )
]
  where
    users : View
    users = users_view disk q

    users' : View
    users' = updated users (SetBytes x bytes)

    view' : View
    view' = updated view (SetBytes x bytes)

    to : ℕ
    to = pointer_in bytes (place_in_table geo p)

    same : view.inode m ≡ users.inode m
    same = a.same (Record m) (met (Record m) may.record_first)

    same_block : view.bytes x ≡ users.bytes x
    same_block = a.same (Block x) own

    claim : IsClaim geo view m t x
    claim = view_claim geo users ghost after m t x may.claims may.record_first may.tables set view a met

-- ---- records

body_accounts : (geo : Geometry) (users : View) (ghost : Ghost) (after : List Cell) (m : ℕ) (x : Inode) → SameBody geo (users.inode m) x → Accounts geo users ghost (record { change = SetInode m x; after = after })
body_accounts geo users ghost after m x body set view a own met n k b (c, low, file) =
    let same : view.inode m ≡ users.inode m = a.same (Record m) own in
    let shape = body_shape geo view m x (subst (λ y. SameBody geo y x) (sym same) body) in
    inl ((claim_back geo view (updated view (SetInode m x)) shape n k b c, low, shape.modes n ∙ file), λ e. cc)

record_accounts : (geo : Geometry) (disk : View) (q : List Pending) (ghost ghost' : Ghost) (after : List Cell) (m : ℕ) (x : Inode) → Rewrites geo disk q ghost ghost' after m x
    → (x.mode ≡ 1 → IsTrue (is_sound geo ((users_view disk q).inode m)) → ((users_view disk q).inode m).mode ≡ 1) → Accounts geo (users_view disk q) ghost (record { change = SetInode m x; after = after })
record_accounts geo disk q ghost ghost' after m x r was set view a own met n k b (c, low, file) =
    elim (use_before geo disk q ghost ghost' after m x r view same (λ t c. a.same (Block t) (met (Block t) c)) n k b c.0) [
      | inl old ↦ inl (((old, c.1), low, mode old), λ e. cc)
      | inr new ↦ inr (
        (new_claim geo disk q ghost ghost' after m x r n k b new.0, low, ap (λ j. (put_at users.inode m x j).mode) new.0.mine ∙ ap (λ (y : Inode). y.mode) (put_here users.inode m x) ∙ one new.0.mine),
        met (Block b) new.0.comes.contents,
      )
    ]
  where
    users : View
    users = users_view disk q

    same : view.inode m ≡ users.inode m
    same = a.same (Record m) own

    one : n ≡ m → x.mode ≡ 1
    one e = sym (ap (λ j. (put_at view.inode m x j).mode) e ∙ ap (λ (y : Inode). y.mode) (put_here view.inode m x)) ∙ file

    mode : IsUse geo view n k b → (view.inode n).mode ≡ 1
    mode old = elim (cases_eq n m) [
      | inr other ↦ other_mode geo view m x n other ∙ file
      | inl e ↦
          let sound = (and_parts (is_number geo n) (is_sound geo (view.inode n)) (use_parts geo view n k b old).sound).1 in
          ap (λ j. (view.inode j).mode) e ∙ ap (λ (y : Inode). y.mode) same ∙ was (one e) (ap (is_sound geo) (sym same) ∙ subst (λ j. IsTrue (is_sound geo (view.inode j))) e sound)
    ]

pub step_accounts : (geo : Geometry) (disk : View) (q : List Pending) (ghost : Ghost) (u : Pending) (ghost' : Ghost) → Step geo disk q ghost u ghost' → AllAgree geo disk q ghost → Accounts geo (users_view disk q) ghost u
step_accounts geo disk q ghost u ghost' (SetsBlock after b h) all = block_bit_accounts geo (users_view disk q) ghost after b true
step_accounts geo disk q ghost u ghost' (SetsNumber after n k h) all = number_bit_accounts geo (users_view disk q) ghost after n true
step_accounts geo disk q ghost u ghost' (ClearsNumber after n h) all = number_bit_accounts geo (users_view disk q) ghost after n false
step_accounts geo disk q ghost u ghost' (ClearsBlock after b h) all = block_bit_accounts geo (users_view disk q) ghost after b false
step_accounts geo disk q ghost u ghost' (Fills after b bytes h) all = fill_accounts geo (users_view disk q) ghost after b bytes h
step_accounts geo disk q ghost u ghost' (Writes after n p b bytes h) all = write_accounts geo (users_view disk q) ghost after n p b bytes (users_obey geo disk q ghost all) h
step_accounts geo disk q ghost u ghost' (Raises after n x h) all = body_accounts geo (users_view disk q) ghost after n x h.body
step_accounts geo disk q ghost u ghost' (Lowers after n x h) all = body_accounts geo (users_view disk q) ghost after n x h.body
step_accounts geo disk q ghost u ghost' (RewritesFile held up after n x h) all = record_accounts geo disk q ghost (moved held up ghost) after n x h.blocks (λ e s. h.file)
step_accounts geo disk q ghost u ghost' (GrowsDirectory after n x h) all = record_accounts geo disk q ghost ghost after n x h.blocks (λ e s. let two = h.still_directory in absurd (omega (arith, e, two)))
step_accounts geo disk q ghost u ghost' (CreatesFile after n x h) all = record_accounts geo disk q ghost ghost after n x h.blocks (λ e s. absurd (sound_used geo ((users_view disk q).inode n) s h.free))
step_accounts geo disk q ghost u ghost' (CreatesDirectory after n x h) all = record_accounts geo disk q ghost ghost after n x h.blocks (λ e s. absurd (sound_used geo ((users_view disk q).inode n) s h.free))
step_accounts geo disk q ghost u ghost' (Frees held up after n x h) all = record_accounts geo disk q ghost _ after n x h.blocks (λ e s. let z = h.free in absurd (omega (arith, e, z)))
step_accounts geo disk q ghost u ghost' (AppendsSlot after n m x bytes h) all = append_accounts geo (users_view disk q) ghost after n m x bytes h
step_accounts geo disk q ghost u ghost' (MovesSlot held up after n m x p bytes h) all = move_accounts geo disk q ghost held up after n m x p bytes (users_obey geo disk q ghost all) h
step_accounts geo disk q ghost u ghost' (Removes after block bytes d s i name safe h) all = slot_accounts geo (users_view disk q) ghost after block bytes d s _ _ h.change
step_accounts geo disk q ghost u ghost' (Enters after block bytes d s i name h) all = slot_accounts geo (users_view disk q) ghost after block bytes d s _ _ h.change
step_accounts geo disk q ghost u ghost' (Renames after block bytes d s i old new h) all = slot_accounts geo (users_view disk q) ghost after block bytes d s _ _ h.change
step_accounts geo disk q ghost u ghost' (RemovesDirectory after block bytes d s i b name h) all = slot_accounts geo (users_view disk q) ghost after block bytes d s _ _ h.change
step_accounts geo disk q ghost u ghost' (EntersDirectory after block bytes d s i b name h) all = slot_accounts geo (users_view disk q) ghost after block bytes d s _ _ h.change
