-- What a request leads to: commands that the volume is asked, each chosen by the replies to those before, and in the end what is said.
use Rattle.std.specs.Prelude.{◌≡◌, ◌⊎◌, ℕ, List, [], ◌∷◌, ◌++◌, slice_set, Ok, Err, Option, Result}
use Rattle.attributes.specs.declared.Attributes.{Attributes}
use Rattle.layout.specs.declared.refusal.Refusal.{Refusal}
use Rattle.layout.specs.declared.refusal.Refusal.TheVariants as refusals
use Rattle.frozen.specs.Kept.{Kept}
use Rattle.fuse_wire.specs.declared.bodies.Body.{Body}
use Rattle.fuse_wire.specs.declared.bodies.Body.TheVariants.{Empty}
use Rattle.fuse_wire.specs.declared.errors.Errno.{Errno}
use Rattle.fuse_wire.specs.declared.errors.Errno.TheVariants as errors
use Rattle.machine.specs.Command.{Command as Request}
use Rattle.fuse_nodes.specs.Runs.{after_all}
use Rattle.fuse_nodes.specs.Table.{Event}
use Rattle.snapshot.specs.Asked.{asked}
use Rattle.snapshot.specs.declared.answer.Answer.{Answer}
use Rattle.snapshot.specs.declared.command.Command.{Command}
use Rattle.fuse_reader.specs.Said.{Said, Refused, told}
use Rattle.fuse_writer.specs.declared.session.Session.{Session}
use Rattle.fuse_writer.specs.Replied.{bytes_in, errno_of, number_in}
use Rattle.fuse_writer.specs.Turns.{Call, Turn}

-- these attributes are ahead of the record of an inode from now on, or none are
pub record Change : Type 0 where
  pub number : ℕ
  pub ahead : Option Attributes

pub data Doing : Type 0 where
  -- this is said, as it shows with the metadata that users see then
  Says : (Kept → Said) → Doing
  -- the volume is asked, and its reply tells how it goes on
  Asks : Request → (Result Answer Refusal → Doing) → Doing
  -- the kernel was told and forgot, names and handles came and went, and attributes came before their records and were settled
  Notes : List Event → List Change → Doing → Doing
  -- memory is needed: it goes on so if there is some, and so if there is none
  IfMemory : Doing → Doing → Doing

-- it is refused
abbrev pub refuses : Errno → Doing
refuses error = Says (λ kept. Refused error)

-- memory is needed: it goes on so if there is some, and is refused if there is none
abbrev pub with_memory : Doing → Doing
with_memory next = IfMemory next (refuses errors.NoMemory)

-- a call was done of which there is nothing to tell
abbrev pub says_done : Doing
says_done = Says (λ kept. told Empty)

-- the volume was asked, and it goes on so where it did what it was asked for, and so where it refused
abbrev pub if_done_or : Result Answer Refusal → Doing → (Errno → Doing) → Doing
if_done_or (Ok answer) done refused = done
if_done_or (Err r) done refused = refused (errno_of r)

abbrev pub if_done : Result Answer Refusal → Doing → Doing
if_done reply next = if_done_or reply next refuses

abbrev pub asks_done : Request → Doing → Doing
asks_done request next = Asks request (λ reply. if_done reply next)

-- It was asked to give an inode its attributes: where the inode is gone there is nothing to give.
abbrev pub if_settled : Result Answer Refusal → Doing → (Errno → Doing) → Doing
if_settled (Ok answer) done refused = done
if_settled (Err refusals.NotFound) done refused = done
if_settled (Err r) done refused = refused (errno_of r)

-- the same, by the number that it answers
abbrev pub if_number : Result ℕ Errno → (ℕ → Doing) → Doing
if_number (Ok n) next = next n
if_number (Err error) next = refuses error

abbrev pub asks_number : Request → (ℕ → Doing) → Doing
asks_number request next = Asks request (λ reply. if_number (number_in reply) next)

-- ---- what came of it

abbrev pub set_all : List Change → List (Option Attributes) → List (Option Attributes)
set_all [] all = all
set_all (change ∷ changes) all = set_all changes (slice_set all change.number change.ahead)

abbrev pub noted : List Event → List Change → Session → Session
noted events changes s = record s { nodes = after_all events s.nodes; ahead = set_all changes s.ahead }

-- These are its calls, each with the reply that it got; with these metadata in the end this is said, and the session was the first and is the second.
unfoldable pub Leads : Doing → Kept → Session → List Call → Said → Session → Type 0
Leads (Says f) kept s [] said s' = (said ≡ f kept) × (s' ≡ s)
Leads (Says f) kept s (call ∷ calls) said s' = ⊥
Leads (Asks request f) kept s [] said s' = ⊥
Leads (Asks request f) kept s (call ∷ calls) said s' = (asked kept.geometry call.0 ≡ request) × Leads (f call.1) kept s calls said s'
Leads (Notes events changes next) kept s calls said s' = Leads next kept (noted events changes s) calls said s'
Leads (IfMemory next none) kept s calls said s' = Leads next kept s calls said s' ⊎ Leads none kept s calls said s'

-- From one time of a turn to a later one, this is what it led to at its end, and what is said. So want of memory is said only where the doing needs memory,
-- or where a command was refused for it, and what was noted by then is the session.
pub record Does {D : Type 0} (doing : Doing) (old : Turn D) (s : Session) (said : Said) (new : Turn D) (s' : Session) : Type 0 where
  pub calls : List Call
  pub grew : new.calls ≡ old.calls ++ calls
  pub came : Leads doing new.volume.kept s calls said s'

-- ---- parts of it

-- What a look at what is known gave: it goes on with it, or is refused.
abbrev pub Gives : {T : Type 0} → Result T Errno → ((T → Doing) → Doing) → Type 0
Gives {T} (Ok x) doing = (next : T → Doing) → doing next ≡ next x
Gives {T} (Err error) doing = (next : T → Doing) → doing next ≡ refuses error

-- whatever the second doing leads to, the first may lead to
pub record MayGoOn (doing next : Doing) : Type 0 where
  pub goes : (kept : Kept) (s : Session) (calls : List Call) (said : Said) (s' : Session) → Leads next kept s calls said s' → Leads doing kept s calls said s'

-- the same from a later session, to which no command led
pub record MayLead (doing : Doing) (s : Session) (next : Doing) (t : Session) : Type 0 where
  pub leads : (kept : Kept) (calls : List Call) (said : Said) (last : Session) → Leads next kept t calls said last → Leads doing kept s calls said last

-- the same of a path, for which there may be no memory
abbrev pub GivesPath : {V : Type 0} → (V → List ℕ) → Result V Errno → ((List ℕ → Doing) → Doing) → Type 0
GivesPath items (Ok path) doing = (next : List ℕ → Doing) → MayGoOn (doing next) (next (items path))
GivesPath items (Err error) doing = (next : List ℕ → Doing) → MayGoOn (doing next) (refuses error)

-- One command was asked, and this holds of its reply.
pub record WasAsked (old new : List Call) (command : Command) (P : Result Answer Refusal → Type 0) : Type 0 where
  pub reply : Result Answer Refusal
  pub grew : new ≡ old ++ (command, reply) ∷ []
  pub is : P reply

-- it goes on so where it was done, and so where it was refused
abbrev pub go_on_or : {T : Type 0} → Result T Errno → Doing → (Errno → Doing) → Doing
go_on_or (Ok x) done refused = done
go_on_or (Err error) done refused = refused error

-- the same from the session that it came to
abbrev pub go_on_at : {T : Type 0} → Result T Errno → (Session → Doing) → (Session → Errno → Doing) → Session → Doing
go_on_at (Ok x) done refused s = done s
go_on_at (Err error) done refused s = refused s error

abbrev pub go_on : {T : Type 0} → Result T Errno → Doing → Doing
go_on outcome next = go_on_or outcome next refuses

abbrev pub IsDone : {T : Type 0} → Result T Errno → Result Answer Refusal → Type 0
IsDone outcome reply = (done : Doing) (refused : Errno → Doing) → if_done_or reply done refused ≡ go_on_or outcome done refused

abbrev pub IsSettled : {T : Type 0} → Result T Errno → Result Answer Refusal → Type 0
IsSettled outcome reply = (done : Doing) (refused : Errno → Doing) → if_settled reply done refused ≡ go_on_or outcome done refused

abbrev pub IsNumber : Result ℕ Errno → Result Answer Refusal → Type 0
IsNumber outcome reply = outcome ≡ number_in reply

abbrev pub items_of : {V : Type 0} → (V → List ℕ) → Result V Errno → Result (List ℕ) Errno
items_of items (Ok v) = Ok (items v)
items_of items (Err error) = Err error

abbrev pub IsBytes : {V : Type 0} → (V → List ℕ) → Result V Errno → Result Answer Refusal → Type 0
IsBytes items outcome reply = items_of items outcome ≡ bytes_in reply

-- what leads on from there led on from here
abbrev pub LeadsOn : {D : Type 0} → Doing → Turn D → Session → Doing → Turn D → Session → Type 0
LeadsOn {D} doing old s next mid s' = (said : Said) (new : Turn D) (last : Session) → Does next mid s' said new last → Does doing old s said new last

-- what is said of an outcome
abbrev pub said_by : {T : Type 0} → (T → Body) → Result T Errno → Said
said_by body (Ok x) = told (body x)
said_by body (Err error) = Refused error
