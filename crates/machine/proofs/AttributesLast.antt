-- The attributes of an inode that is in use and stays so are as they were, unless a command sets them.
use Rattle.std.proofs.Common.{◌≡◌, ◌+◌, ◌-◌, ◌*◌, ℕ, Bool, true, false, not, ◌&&◌, eqb, List, [], ◌∷◌, ◌⊎◌, inl, inr, refl, sym, ap, ◌∙◌, subst, Ok, Err}
use Rattle.std.proofs.lemmas.Bool.{cases_Bool, cases_eq, both_ways, cond-true, cond-false}
use Rattle.model.specs.Layout.{Geometry}
use Rattle.model.specs.View.{View, Inode, free_inode}
use Rattle.model.specs.Cells.{Update, SetInode, SetNumber, SetBlock, SetBytes, updated, updated_all}
use Rattle.model.proofs.Places.{put_here, put_there, put_same}
use Rattle.findings.specs.declared.repair.Repair.{Repair}
use Rattle.findings.specs.declared.repair.Repair.TheVariants.{DropInode, LowerCount, FreeBlock, FreeNumber}
use Rattle.machine.specs.Attributes.{IsSettingOf}
use Rattle.machine.specs.Balance.{Balance}
use Rattle.machine.specs.Causes.{file_of}
use Rattle.machine.specs.Cells.{Points, InRecord, InTable, InNewTable, Places, MakesRoom, Enters}
use Rattle.machine.specs.Command.{Command, Create, Mkdir, Link, Unlink, Rmdir, Rename, Open, Close, Read, Write, Truncate, SetAttributes, ReadAttributes, ListNames, Stat, Freeze, SnapRead, Release, Install, RepairAt, Flush, Sync, Answer, Done, Number, Bytes, Listed, Reply}
use Rattle.machine.specs.Effects.{lets_go, swept, relinked, emptied, with_links, new_directory, file_with, Renames, Within, Across, Stores, InPlace, Moved, Appended}
use Rattle.machine.specs.Paths.{holder, name_in, number_at, slot_at}
use Rattle.machine.specs.Repairs.{repaired}
use Rattle.machine.specs.Room.{IsFreeNumber}
use Rattle.machine.specs.State.{State, is_open}
use Rattle.machine.specs.Step.{Step, Effect}
use Rattle.machine.proofs.OtherLinks.{other_links}
use Rattle.machine.proofs.Placements.{placed_whole}
use Rattle.machine.proofs.Pointing.{IsLike, founded, pointed_like}

-- inode j is of the mode that it was, with the attributes that it had
pub record Same (v w : View) (j : ℕ) : Type 0 where
  pub mode : (w.inode j).mode ≡ (v.inode j).mode
  pub attributes : (w.inode j).attributes ≡ (v.inode j).attributes

-- or it is free
abbrev Last : View → View → ℕ → Type 0
Last v w j = ((w.inode j).mode ≡ 0) ⊎ Same v w j

alike : (v w : View) (j : ℕ) → w.inode j ≡ v.inode j → Same v w j
alike v w j e = record { mode = ap (λ (r : Inode). r.mode) e; attributes = ap (λ (r : Inode). r.attributes) e }

then_same : (u v w : View) (j : ℕ) → Same u v j → Same v w j → Same u w j
then_same u v w j s t = record { mode = t.mode ∙ s.mode; attributes = t.attributes ∙ s.attributes }

then_last : (u v w : View) (j : ℕ) → Last u v j → Last v w j → Last u w j
then_last u v w j s (inl gone) = inl gone
then_last u v w j (inl gone) (inr t) = inl (t.mode ∙ gone)
then_last u v w j (inr s) (inr t) = inr (then_same u v w j s t)

-- another view with the same records
as_seen : (v w x : View) (j : ℕ) → x.inode ≡ w.inode → Same v w j → Same v x j
as_seen v w x j e s = then_same v w x j s (alike w x j (ap (λ (f : ℕ → Inode). f j) e))

-- a record that is put there is of the old one's mode and has its attributes
put_record : (v : View) (i : ℕ) (x : Inode) → (v.inode i).mode ≡ x.mode → (v.inode i).attributes ≡ x.attributes → (j : ℕ) → Same v (updated v (SetInode i x)) j
put_record v i x mode attributes j = record {
  mode = sym (put_same v.inode i x (λ m (y : Inode). y.mode) mode j);
  attributes = sym (put_same v.inode i x (λ m (y : Inode). y.attributes) attributes j);
}

-- ---- a block more
cells_records : (geo : Geometry) (v : View) (old : Inode) {k a : ℕ} {cells : List Update} {pointed : Inode} → Points geo v old k a cells pointed → (w : View) → (updated_all w cells).inode ≡ w.inode
cells_records geo v old (InRecord none c p) w = ap (λ cs. (updated_all w cs).inode) c
cells_records geo v old (InTable m x one uses address c p) w = ap (λ cs. (updated_all w cs).inode) c
cells_records geo v old (InNewTable m x table more one none free apart whole first up c) w = ap (λ cs. (updated_all w cs).inode) c ∙ cells_records geo v old up (founded w x table)

places_same : (geo : Geometry) (v new : View) (i k : ℕ) (bytes : List ℕ) (size : ℕ) → Places geo v i k bytes size new → (j : ℕ) → Same v new j
places_same geo v new i k bytes size p j =
    subst (λ w. Same v w j) (sym (placed_whole geo v new i k bytes size p)) (then_same v z x j (alike v z j (ap (λ (f : ℕ → Inode). f j) records)) (put_record z i r
    (ap (λ (f : ℕ → Inode). (f i).mode) records ∙ sym like.mode) (ap (λ (f : ℕ → Inode). (f i).attributes) records ∙ sym like.attributes) j))
  where
    like : IsLike (v.inode i) p.pointed
    like = pointed_like geo v (v.inode i) p.points

    filled : View
    filled = founded v p.block bytes

    z : View
    z = updated_all filled p.cells

    records : z.inode ≡ v.inode
    records = cells_records geo v (v.inode i) p.points filled

    r : Inode
    r = record p.pointed { size = size }

    x : View
    x = updated z (SetInode i r)

room_same : (geo : Geometry) (v : View) (d : ℕ) (new : View) → MakesRoom geo v d new → (j : ℕ) → Same v new j
room_same geo v d new (inl there) j = alike v new j (ap (λ (w : View). w.inode j) there.1)
room_same geo v d new (inr grows) j = places_same geo v new d _ _ _ grows.1 j

pub enters_same : (geo : Geometry) (v : View) (d : ℕ) (name : List ℕ) (i : ℕ) (new : View) → Enters geo v d name i new → (j : ℕ) → Same v new j
enters_same geo v d name i new e j =
    then_same v e.roomy new j (room_same geo v d e.roomy e.room j) (alike e.roomy new j (ap (λ (w : View). w.inode j) e.whole))

-- ---- links
swept_last : (geo : Geometry) (s : State) (i j : ℕ) → Last s.view (swept geo s i).view j
swept_last geo s i j = elim (cases_Bool test) [
  | inl t ↦ subst (λ (x : State). Last s.view x.view j) (sym (cond-true test gone s t)) (elim (cases_eq j i) [
    | inl e ↦ inl (ap (λ q. (gone.view.inode q).mode) e ∙ ap (λ (r : Inode). r.mode) (put_here s.view.inode i free_inode))
    | inr d ↦ inr (alike s.view gone.view j (put_there s.view.inode i j free_inode d))
  ])
  | inr f ↦ subst (λ (x : State). Last s.view x.view j) (sym (cond-false test gone s f)) (inr (alike s.view s.view j refl))
]
  where
    test : Bool
    test = eqb (s.view.inode i).links 0 && not (is_open s i)

    gone : State
    gone = lets_go geo s i (updated_all s.view (SetInode i free_inode ∷ SetNumber i false ∷ []))

relinked_last : (geo : Geometry) (s : State) (i n j : ℕ) → Last s.view (relinked geo s i n).view j
relinked_last geo s i n j =
    then_last s.view (other_links geo s.view i n) (relinked geo s i n).view j
    (inr (put_record s.view i (with_links (s.view.inode i) n) refl refl j))
    (swept_last geo (record s { view = other_links geo s.view i n }) i j)

repaired_last : (geo : Geometry) (s : State) (r : Repair) (j : ℕ) → Last s.view (repaired geo s r).view j
repaired_last geo s (DropInode i) j = relinked_last geo s i 0 j
repaired_last geo s (LowerCount i x) j = relinked_last geo s i ((s.view.inode i).links - x) j
repaired_last geo s (FreeBlock a) j = inr (alike s.view _ j refl)
repaired_last geo s (FreeNumber i) j = inr (alike s.view _ j refl)

-- ---- the commands
module _ (geo : Geometry) (old new : State) (j : ℕ) where
  from : (t : State) → new ≡ t → Last old.view t.view j → Last old.view new.view j
  from t e l = subst (λ (x : State). Last old.view x.view j) (sym e) l

  kept : (t : State) → t.view.inode ≡ old.view.inode → new ≡ t → Last old.view new.view j
  kept t records e = from t e (inr (alike old.view t.view j (ap (λ (f : ℕ → Inode). f j) records)))

  same : new ≡ old → Last old.view new.view j
  same e = kept old refl e

  renames_last : (p q : List ℕ) → Renames geo old p q new → Last old.view new.view j
  renames_last p q (Within entry inside says e) = kept _ refl e
  renames_last p q (Across view apart enters e) = from _ e (inr (as_seen old.view view _ j refl (enters_same geo old.view (holder geo old.view q) (name_in q) (number_at geo old.view p) view enters j)))

  stores_last : (i k : ℕ) (bytes : List ℕ) (size : ℕ) → Stores geo old i k bytes size new → Last old.view new.view j
  stores_last i k bytes size (InPlace inside free e) = let same' = put_record old.view i (record (old.view.inode i) { size = size }) refl refl j in
      from _ e (inr (record { mode = same'.mode; attributes = same'.attributes }))
  stores_last i k bytes size (Moved view inside kept' places e) = from _ e (inr (as_seen old.view view _ j refl (places_same geo old.view view i k bytes size places j)))
  stores_last i k bytes size (Appended view end places e) = from _ e (inr (places_same geo old.view view i k bytes size places j))

  module _ (b : Balance geo old) (used : (old.view.inode j).mode ≡ 0 → ⊥) where
    -- a number that is given out is not the inode's
    apart : (i : ℕ) → IsFreeNumber geo old.view i → j ≡ i → ⊥
    apart i free e = both_ways (old.view.number_marked i) free.unmarked (b.rules.rule4 i free.number (λ none. used (ap (λ q. (old.view.inode q).mode) e ∙ none)))

    effect_last : (command : Command) (answer : Answer) → Effect geo old command answer new → (IsSettingOf j command → ⊥) → Last old.view new.view j
    effect_last (Create p words) (Number i) e other = from (record old { view = e.view }) e.whole (inr
        (then_same old.view (updated_all old.view (SetNumber i true ∷ SetInode i (file_with words) ∷ [])) e.view j
        (alike old.view _ j (put_there old.view.inode i j (file_with words) (apart i e.free)))
        (enters_same geo _ (holder geo old.view p) (name_in p) i e.view e.enters j)))
    effect_last (Mkdir p words) (Number i) e other =
        let d = holder geo old.view p in
        let raised = with_links (old.view.inode d) ((old.view.inode d).links + 1) in
        let first = updated_all old.view (SetNumber i true ∷ SetBlock e.block true ∷ SetInode d raised ∷ SetBytes e.block e.bytes ∷ []) in
        from (record old { view = e.view }) e.whole (inr
        (then_same old.view first e.view j (as_seen old.view (updated old.view (SetInode d raised)) first j refl (put_record old.view d raised refl refl j))
        (then_same first (updated first (SetInode i (new_directory e.block words))) e.view j
        (alike first _ j (put_there first.inode i j (new_directory e.block words) (apart i e.free)))
        (enters_same geo _ d (name_in p) i e.view e.enters j))))
    effect_last (Link p q) Done e other =
        let i = number_at geo old.view p in
        let raised = with_links (old.view.inode i) ((old.view.inode i).links + 1) in
        from (record old { view = e.view }) e.whole (inr
        (then_same old.view (updated old.view (SetInode i raised)) e.view j (put_record old.view i raised refl refl j)
        (enters_same geo _ (holder geo old.view q) (name_in q) i e.view e.enters j)))
    effect_last (Unlink p) Done e other =
        let bare = emptied geo old (holder geo old.view p) (slot_at geo old.view p) in
        from _ e (then_last old.view bare.view _ j (inr (alike old.view bare.view j refl))
        (relinked_last geo bare (number_at geo old.view p) ((old.view.inode (number_at geo old.view p)).links - 1) j))
    effect_last (Rmdir p) Done e other =
        let bare = emptied geo old (holder geo old.view p) (slot_at geo old.view p) in
        let gone = relinked geo bare (number_at geo old.view p) ((old.view.inode (number_at geo old.view p)).links - 2) in
        from _ e (then_last old.view bare.view _ j (inr (alike old.view bare.view j refl)) (then_last bare.view gone.view _ j
        (relinked_last geo bare (number_at geo old.view p) ((old.view.inode (number_at geo old.view p)).links - 2) j)
        (relinked_last geo gone (holder geo old.view p) ((old.view.inode (holder geo old.view p)).links - 1) j)))
    effect_last (Rename p q) Done e other = renames_last p q e
    effect_last (Open p) (Number h) e other = kept _ refl e.whole
    effect_last (Close h) Done e other = from _ e (swept_last geo (record old { opened = _ }) (file_of old h) j)
    effect_last (Read h k) (Bytes bytes) e other = same e.1
    effect_last (Write h k piece) Done e other = stores_last (file_of old h) k e.bytes _ e.stores
    effect_last (Truncate h n) Done e other =
        let i = file_of old h in
        let cut = record (old.view.inode i) { size = n } in
        from _ e (inr (as_seen old.view (updated old.view (SetInode i cut)) _ j refl (put_record old.view i cut refl refl j)))
    effect_last (SetAttributes i words) Done e other = from _ e (inr (alike old.view _ j (put_there old.view.inode i j _ other)))
    effect_last (ListNames p) (Listed names) e other = same e.1
    effect_last (Stat p) answer e other = same e.1
    effect_last (ReadAttributes i) answer e other = same e.1
    effect_last Freeze answer e other = kept _ refl e.1
    effect_last (SnapRead s i k) (Bytes bytes) e other = same e.3
    effect_last (Release s) Done e other = kept _ refl e
    effect_last (Install check) Done e other = kept _ refl e.whole
    effect_last (RepairAt k) Done e other = from _ e.whole (repaired_last geo old e.repair j)
    effect_last (Flush a) (Number n) e other = same e
    effect_last Sync Done e other = same e
    effect_last _ _ e other = absurd e

pub step_last : (geo : Geometry) (old new : State) (command : Command) (reply : Reply) (j : ℕ) → Balance geo old → Step geo old command reply new → (IsSettingOf j command → ⊥)
    → ((old.view.inode j).mode ≡ 0 → ⊥) → ((new.view.inode j).mode ≡ 0 → ⊥) → (new.view.inode j).attributes ≡ (old.view.inode j).attributes
step_last geo old new command (Ok answer) j b s other used still = told (effect_last geo old new j b used command answer s.1 other)
  where
    told : Last old.view new.view j → (new.view.inode j).attributes ≡ (old.view.inode j).attributes
    told (inl gone) = absurd (still gone)
    told (inr t) = t.attributes
step_last geo old new command (Err r) j b s other used still = ap (λ (t : State). (t.view.inode j).attributes) s.1
