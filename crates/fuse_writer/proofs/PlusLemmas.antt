-- Listings that tell what names lead to, slot after slot.
use Rattle.std.proofs.Common.{◌≡◌, ◌≤◌, ◌<◌, ◌+◌, ◌-◌, ◌||◌, ◌∷◌, ◌++◌, inl, inr, Bor, ℕ, suc, Bool, true, false, cond, not, List, [], Option, Some, None, Result, length, replicate, refl, sym, ap, ap₂, subst, ◌∙◌, arith}
use Rattle.std.specs.Prelude.{◌↔◌, IsTrue}
use Rattle.std.specs.Option.{option_copied}
use Rattle.std.proofs.lemmas.Bool.{both_ways, cases_lt, le-leb, lt-leb}
use Rattle.fuse_wire.specs.declared.entries.DirectoryEntry.{DirectoryEntry}
use Rattle.fuse_wire.proofs.Messages.{length_listed_plus}
use Rattle.frozen.specs.Kept.{Kept, frozen_view}
use Rattle.fuse_wire.specs.declared.bodies.Entry.{Entry}
use Rattle.fuse_wire.specs.declared.errors.Errno.{Errno}
use Rattle.fuse_wire.specs.declared.errors.Errno.TheVariants as errors
use Rattle.fuse_wire.specs.declared.numbers.NodeId.{NodeId}
use Rattle.fuse_wire.specs.Replies.{entry_bytes, found_bytes, listed_bytes, listed_plus_bytes}
use Rattle.fuse_nodes.specs.Known.{named}
use Rattle.fuse_nodes.specs.Table.{Event, Told as WasTold}
use Rattle.fuse_reader.specs.Listings.{listed_name, slots_of}
use Rattle.fuse_reader.specs.Said as said
use Rattle.fuse_reader.specs.Said.{Said}
use Rattle.model.specs.Slots.{Slot, Absent, Empty, Good, Bad, slot}
use Rattle.fuse_writer.specs.declared.session.Session.{Session}
use Rattle.fuse_writer.specs.Doings.{Change, Does, Doing, IfMemory, Leads, LeadsOn, MayLead, Notes, Says, noted, refuses, with_memory}
use Rattle.fuse_writer.specs.Requests.{adds, adds_name, adds_slot, adds_slots, at_node, at_directory, entry_of, found_or_not, if_room, lists_plus, may_tell, not_told}
use Rattle.fuse_writer.specs.Saying.{said_bytes}
use Rattle.fuse_writer.specs.Turns.{Turn}
use Rattle.fuse_writer.proofs.DoingLemmas.{Left, does_say}

-- ---- what a doing may lead to without a command

pub lead_same : {a b : Doing} {s : Session} → a ≡ b → MayLead a s b s
lead_same {s = s} e = record { leads = λ kept calls said last leads. subst (λ (d : Doing). Leads d kept s calls said last) (sym e) leads }

pub lead_then : {a b c : Doing} {s t u : Session} → MayLead a s b t → MayLead b t c u → MayLead a s c u
lead_then one two = record { leads = λ kept calls said last leads. one.leads kept calls said last (two.leads kept calls said last leads) }

pub lead_memory : {next none : Doing} {s : Session} → MayLead (IfMemory next none) s next s
unfolding Leads
lead_memory = record { leads = λ kept calls said last leads. inl leads }

pub lead_no_memory : {next none : Doing} {s : Session} → MayLead (IfMemory next none) s none s
unfolding Leads
lead_no_memory = record { leads = λ kept calls said last leads. inr leads }

pub lead_note : {events : List Event} {changes : List Change} {next : Doing} {s : Session} → MayLead (Notes events changes next) s next (noted events changes s)
unfolding Leads
lead_note = record { leads = λ kept calls said last leads. leads }

-- the session that it came to is this one
pub lead_as : {a : Doing} {s t u : Session} (f : Session → Doing) → MayLead a s (f t) t → u ≡ t → MayLead a s (f u) u
lead_as {a = a} {s = s} f may e = subst (λ (v : Session). MayLead a s (f v) v) (sym e) may

pub on_lead : {D : Type 0} (a b : Doing) (turn : Turn D) (s t : Session) → MayLead a s b t → LeadsOn a turn s b turn t
on_lead a b turn s t may said new last does = record { calls = does.calls; grew = does.grew; came = may.leads new.volume.kept does.calls said last does.came }

-- it ends with these bytes, or is refused
pub ends_told : {D : Type 0} (old new : Turn D) (s t : Session) (doing : Doing) (bytes : List ℕ) → new.calls ≡ old.calls → MayLead doing s (Says (λ k. said.Told bytes)) t
    → Does doing old s (said.Told bytes) new t
ends_told old new s t doing bytes none may =
    on_lead doing (Says (λ k. said.Told bytes)) old s t may (said.Told bytes) new t (does_say old new t t (said.Told bytes) (λ k. said.Told bytes) none refl refl)

pub ends_left : {D V : Type 0} (old new : Turn D) (s t : Session) (items : V → List ℕ) (doing : Doing) (error : Errno) (r : Result V Errno) → new.calls ≡ old.calls
    → MayLead doing s (refuses error) t → Left r error → Does doing old s (said_bytes items r) new t
ends_left old new s t items doing error r none may left =
    on_lead doing (refuses error) old s t may (said_bytes items r) new t
    (does_say old new t t (said_bytes items r) (λ k. said.Refused error) none (ap (λ (o : Result _ Errno). said_bytes items o) left.1 ∙ ap said.Refused left.2) refl)

-- ---- a name

module _ (kept : Kept) (s : Session) (d n i : ℕ) (name bytes entry : List ℕ) (next : Session → List ℕ → Doing) where
  abbrev told_of : Doing
  told_of = IfMemory (Notes (WasTold i (named d name) ∷ []) [] (adds (noted (WasTold i (named d name) ∷ []) [] s) bytes (entry_bytes (entry_of kept s i)) entry next))
      (adds s bytes not_told entry next)

  -- nothing is told of it
  pub name_apart : may_tell s n i ≡ false → MayLead (adds_name kept s d n i name bytes entry next) s (adds s bytes (found_or_not None) entry next) s
  name_apart e = lead_same (ap (λ b. cond b told_of (adds s bytes not_told entry next)) e)

  name_may : may_tell s n i ≡ true → adds_name kept s d n i name bytes entry next ≡ told_of
  name_may e = ap (λ b. cond b told_of (adds s bytes not_told entry next)) e

  -- there is no memory for it
  pub name_left : may_tell s n i ≡ true → MayLead (adds_name kept s d n i name bytes entry next) s (adds s bytes (found_or_not None) entry next) s
  name_left e = lead_then (lead_same (name_may e)) lead_no_memory

  -- the kernel is told
  pub name_told : may_tell s n i ≡ true → (found : Entry) → found ≡ entry_of kept s i
      → MayLead (adds_name kept s d n i name bytes entry next) s (adds (noted (WasTold i (named d name) ∷ []) [] s) bytes (found_or_not (Some found)) entry next)
      (noted (WasTold i (named d name) ∷ []) [] s)
  name_told e found is =
      let t = noted (WasTold i (named d name) ∷ []) [] s in
      lead_then (lead_same (name_may e)) (lead_then lead_memory (lead_then lead_note (lead_same (ap (λ (f : Entry). adds t bytes (entry_bytes f) entry next) (sym is)))))

-- an entry was added, or there was no memory for it
pub added_so : (s : Session) (bytes found entry more : List ℕ) (next : Session → List ℕ → Doing) → more ≡ bytes ++ (found ++ entry)
    → MayLead (adds s bytes found entry next) s (next s more) s
added_so s bytes found entry more next is = lead_then lead_memory (lead_same (ap (next s) (sym is)))

pub not_added : (s : Session) (bytes found entry : List ℕ) (next : Session → List ℕ → Doing) → MayLead (adds s bytes found entry next) s (refuses errors.NoMemory) s
not_added s bytes found entry next = lead_no_memory

module _ (kept : Kept) (s : Session) (d room n i : ℕ) (name bytes : List ℕ) (next : Session → List ℕ → Doing) where
  abbrev listed : List ℕ
  listed = listed_name kept.geometry (frozen_view kept) n i name

  pub slot_full : (room < length bytes + (128 + length listed)) → MayLead (adds_slot kept s d room n (Good i name) bytes next) s (if_room false s bytes next) s
  slot_full more = lead_same (ap (λ b. cond b (adds_name kept s d n i name bytes listed next) (Says (λ k. said.Told bytes))) (lt-leb (length bytes + (128 + length listed)) room more))

  pub slot_fits : (entry : List ℕ) → entry ≡ listed → length bytes + (128 + length entry) ≤ room
      → MayLead (adds_slot kept s d room n (Good i name) bytes next) s (adds_name kept s d n i name bytes entry next) s
  slot_fits entry is fits =
      lead_then (lead_same (ap (λ b. cond b (adds_name kept s d n i name bytes listed next) (Says (λ k. said.Told bytes)))
      (le-leb (length bytes + (128 + length listed)) room (subst (λ (e : List ℕ). length bytes + (128 + length e) ≤ room) is fits))))
      (lead_same (ap (λ (e : List ℕ). adds_name kept s d n i name bytes e next) (sym is)))

-- ---- slots

module _ (kept : Kept) (s : Session) (d room n : ℕ) (bytes : List ℕ) where
  pub slots_none : (m : ℕ) → m ≡ 0 → adds_slots kept s d room n m bytes ≡ Says (λ k. said.Told bytes)
  unfolding adds_slots
  slots_none m none = ap (λ k. adds_slots kept s d room n k bytes) none

  pub slots_more : (m : ℕ) → adds_slots kept s d room n (suc m) bytes
      ≡ adds_slot kept s d room n (slot kept.geometry (frozen_view kept) d n) bytes (λ t more. adds_slots kept t d room (n + 1) m more)
  unfolding adds_slots
  slots_more m = refl

-- ---- an entry, as it was written

-- there is no room for it
pub no_room : (fits : Bool) (bytes room : ℕ) → (IsTrue fits ↔ (bytes ≤ room)) → fits ≡ false → room < bytes
no_room fits bytes room h e = elim (cases_lt room bytes) [
  | inl low ↦ low
  | inr high ↦ absurd (both_ways fits e (h.1 high))
]

pub has_room : (fits : Bool) (bytes room : ℕ) → (IsTrue fits ↔ (bytes ≤ room)) → fits ≡ true → bytes ≤ room
has_room fits bytes room h e = h.0 e

found_lent : (lent : Option (Bor Entry)) → found_bytes lent ≡ found_or_not (option_copied lent)
found_lent None = refl
found_lent (Some entry) = refl

pub entry_added : (fits : Bool) (lent : Option (Bor Entry)) (found : Option Entry) (old new : List ℕ) (entry : DirectoryEntry) (room : ℕ)
    → length old + (128 + length (listed_bytes entry)) ≤ room → option_copied lent ≡ found
    → (IsTrue fits ↔ (length old + length (listed_plus_bytes lent entry) ≤ room)) → new ≡ cond fits (old ++ listed_plus_bytes lent entry) old
    → new ≡ old ++ (found_or_not found ++ listed_bytes entry)
entry_added fits lent found old new entry room few is h w =
    let long : length old + length (listed_plus_bytes lent entry) ≤ room = subst (λ n. length old + n ≤ room) (sym (length_listed_plus lent entry)) few in
    w ∙ ap (λ b. cond b (old ++ listed_plus_bytes lent entry) old) (h.1 long) ∙ ap (λ f. old ++ (f ++ listed_bytes entry)) (found_lent lent ∙ ap found_or_not is)

-- ---- the whole

module _ (kept : Kept) (s : Session) (node : NodeId) (from size d : ℕ) (at : (next : ℕ → Doing) → at_directory kept s node next ≡ next d) where
  abbrev all : Doing
  all = adds_slots kept s d size from (slots_of (frozen_view kept) d - from) []

  pub plus_long : 1048576 < size → lists_plus kept s node from size ≡ refuses errors.Invalid
  plus_long long = at _ ∙ ap (λ b. cond b all (refuses errors.Invalid)) (lt-leb size 1048576 long)

  pub plus_short : size ≤ 1048576 → (slots : ℕ) → slots ≡ slots_of (frozen_view kept) d → lists_plus kept s node from size ≡ adds_slots kept s d size from (slots - from) []
  plus_short short slots is =
      at _ ∙ ap (λ b. cond b all (refuses errors.Invalid)) (le-leb size 1048576 short) ∙ ap (λ n. adds_slots kept s d size from (n - from) []) (sym is)

-- one slot more, by what it was found to say
module _ (kept : Kept) (first s t : Session) (d room from place end : ℕ) (bytes more : List ℕ)
    (on : MayLead (adds_slots kept first d room from (end - from) []) first (adds_slots kept s d room place (end - place) bytes) s) (low : place < end) where
  abbrev rest : Session → List ℕ → Doing
  rest u xs = adds_slots kept u d room (place + 1) (end - (place + 1)) xs

  abbrev here : (Session → List ℕ → Doing) → Doing
  here next = adds_slot kept s d room place (slot kept.geometry (frozen_view kept) d place) bytes next

  step : MayLead (adds_slots kept first d room from (end - from) []) first (here rest) s
  step =
      let left : end - place ≡ suc (end - (place + 1)) = omega (arith, low) in
      lead_then on (lead_same (ap (λ m. adds_slots kept s d room place m bytes) left ∙ slots_more kept s d room place bytes (end - (place + 1))))

  module _ (goes_on : Bool) (added : (next : Session → List ℕ → Doing) → MayLead (here next) s (if_room goes_on t more next) t) where
    pub plus_on : goes_on ≡ true → MayLead (adds_slots kept first d room from (end - from) []) first (rest t more) t
    plus_on is = lead_then step (lead_then (added rest) (lead_same (ap (λ b. if_room b t more rest) is)))

    pub plus_full : goes_on ≡ false → MayLead (adds_slots kept first d room from (end - from) []) first (Says (λ k. said.Told more)) t
    plus_full is = lead_then step (lead_then (added rest) (lead_same (ap (λ b. if_room b t more rest) is)))

  pub plus_refused : (error : Errno) → ((next : Session → List ℕ → Doing) → MayLead (here next) s (refuses error) t)
      → MayLead (adds_slots kept first d room from (end - from) []) first (refuses error) t
  plus_refused error refused = lead_then step (refused rest)
