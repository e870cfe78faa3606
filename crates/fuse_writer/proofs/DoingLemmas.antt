-- What a request leads to, step by step.
use Rattle.std.proofs.Common.{◌≡◌, inl, inr, ℕ, List, [], ◌∷◌, ◌++◌, Ok, Err, Option, Result, refl, sym, ap, ap₂, subst, ◌∙◌, append_assoc}
use Rattle.attributes.specs.declared.Attributes.{Attributes}
use Rattle.layout.specs.declared.refusal.Refusal.{Refusal}
use Rattle.frozen.specs.Kept.{Kept}
use Rattle.fuse_wire.specs.declared.bodies.Body.{Body}
use Rattle.fuse_wire.specs.declared.bodies.Body.TheVariants as bodies
use Rattle.fuse_wire.specs.declared.errors.Errno.{Errno}
use Rattle.fuse_wire.specs.declared.errors.Errno.TheVariants as errors
use Rattle.machine.specs.Command.{Command as Request, Open}
use Rattle.model.specs.Layout.{Geometry}
use Rattle.fuse_nodes.specs.Runs.{after_all}
use Rattle.fuse_nodes.specs.Table.{Event, Table}
use Rattle.snapshot.specs.Asked.{asked}
use Rattle.snapshot.specs.declared.answer.Answer.{Answer}
use Rattle.snapshot.specs.declared.command.Command.{Command}
use Rattle.fuse_reader.specs.Said.{Said, Refused, told}
use Rattle.fuse_writer.specs.declared.session.Session.{Session}
use Rattle.fuse_writer.specs.Doings.{Change, Does, Doing, IfMemory, IsDone, IsNumber, IsSettled, Leads, LeadsOn, MayGoOn, Notes, Asks, Says, WasAsked, asks_done, asks_number, go_on, go_on_at, go_on_or, if_done, if_done_or, if_number, if_settled, noted, refuses, said_by, says_done, set_all, with_memory}
use Rattle.fuse_writer.specs.Replied.{number_in}
use Rattle.fuse_writer.specs.Requests.{if_opened, opens_new}
use Rattle.fuse_writer.specs.Saying.{said_bytes, said_done}
use Rattle.fuse_writer.specs.Turns.{Call, Turn}

-- ---- notes, one after another

pub after_more : (es more : List Event) (t : Table) → after_all (es ++ more) t ≡ after_all more (after_all es t)
after_more [] more t = refl
after_more (e ∷ es) more t = after_more es more _

set_more : (cs more : List Change) (all : List (Option Attributes)) → set_all (cs ++ more) all ≡ set_all more (set_all cs all)
set_more [] more all = refl
set_more (c ∷ cs) more all = set_more cs more _

pub noted_more : (es more : List Event) (cs others : List Change) (s : Session) → noted more others (noted es cs s) ≡ noted (es ++ more) (cs ++ others) s
noted_more es more cs others s =
    ap₂ (λ (t : Table) (all : List (Option Attributes)). record s { nodes = t; ahead = all }) (sym (after_more es more s.nodes)) (sym (set_more cs others s.ahead))

-- one event, and two notes behind it, or three
pub noted_both : (e : Event) (a b : List Change) (s : Session) → noted [] b (noted [] a (noted (e ∷ []) [] s)) ≡ noted (e ∷ []) (a ++ b) s
noted_both e a b s = noted_more (e ∷ []) [] a b s

pub noted_three : (e : Event) (a b c : List Change) (s : Session) → noted [] c (noted [] b (noted [] a (noted (e ∷ []) [] s))) ≡ noted (e ∷ []) (a ++ (b ++ c)) s
noted_three e a b c s = noted_more [] [] b c (noted (e ∷ []) a s) ∙ noted_more (e ∷ []) [] a (b ++ c) s

-- no event, and two notes
pub noted_pair : (a b : List Change) (s : Session) → noted [] b (noted [] a s) ≡ noted [] (a ++ b) s
noted_pair a b s = noted_more [] [] a b s

-- ---- what one doing leads to the other may lead to

pub goes_same : {a b : Doing} → a ≡ b → MayGoOn a b
goes_same e = record { goes = λ kept s calls said s' leads. subst (λ (d : Doing). Leads d kept s calls said s') (sym e) leads }

pub goes_then : {a b c : Doing} → MayGoOn a b → MayGoOn b c → MayGoOn a c
goes_then one two = record { goes = λ kept s calls said s' leads. one.goes kept s calls said s' (two.goes kept s calls said s' leads) }

pub goes_memory : {next none : Doing} → MayGoOn (IfMemory next none) next
unfolding Leads
goes_memory = record { goes = λ kept s calls said s' leads. inl leads }

pub goes_no_memory : {next none : Doing} → MayGoOn (IfMemory next none) none
unfolding Leads
goes_no_memory = record { goes = λ kept s calls said s' leads. inr leads }

-- ---- steps

append_none : (calls : List Call) → calls ++ [] ≡ calls
append_none [] = refl
append_none (c ∷ cs) = ap (λ (xs : List Call). c ∷ xs) (append_none cs)

module _ {D : Type 0} (old new : Turn D) (s s' : Session) (said : Said) where
  -- nothing more was asked, and this is said
  pub does_say : (f : Kept → Said) → new.calls ≡ old.calls → said ≡ f new.volume.kept → s' ≡ s → Does (Says f) old s said new s'
  unfolding Leads
  does_say f none is same = record { calls = []; grew = none ∙ sym (append_none old.calls); came = (is, same) }

  pub does_same : (doing other : Doing) → doing ≡ other → Does other old s said new s' → Does doing old s said new s'
  does_same doing other e does = subst (λ (d : Doing). Does d old s said new s') (sym e) does

  pub does_note : (es : List Event) (cs : List Change) (next : Doing) → Does next old (noted es cs s) said new s' → Does (Notes es cs next) old s said new s'
  unfolding Leads
  does_note es cs next does = record { calls = does.calls; grew = does.grew; came = does.came }

  pub does_on : (doing other : Doing) → MayGoOn doing other → Does other old s said new s' → Does doing old s said new s'
  does_on doing other on does = record { calls = does.calls; grew = does.grew; came = on.goes new.volume.kept s does.calls said s' does.came }

  -- memory is needed, and was there
  pub does_memory : (next none : Doing) → Does next old s said new s' → Does (IfMemory next none) old s said new s'
  does_memory next none does = does_on (IfMemory next none) next goes_memory does

  -- or there was none, and this is said
  pub does_no_memory : (next : Doing) → new.calls ≡ old.calls → said ≡ Refused errors.NoMemory → s' ≡ s → Does (with_memory next) old s said new s'
  does_no_memory next none is same = does_on (with_memory next) (refuses errors.NoMemory) goes_no_memory (does_say (λ kept. Refused errors.NoMemory) none is same)

  -- a command was asked before
  pub does_ask : (mid : Turn D) (request : Request) (f : Result Answer Refusal → Doing) (command : Command) (reply : Result Answer Refusal)
      → mid.calls ≡ old.calls ++ (command, reply) ∷ [] → asked new.volume.kept.geometry command ≡ request → Does (f reply) mid s said new s'
      → Does (Asks request f) old s said new s'
  unfolding Leads
  does_ask mid request f command reply grew asks does = record {
    calls = (command, reply) ∷ does.calls;
    grew = does.grew ∙ ap (λ (xs : List Call). xs ++ does.calls) grew ∙ append_assoc old.calls ((command, reply) ∷ []) does.calls;
    came = (asks, does.came);
  }

  -- the same of one that was done
  module _ {T : Type 0} (mid : Turn D) (request : Request) (command : Command) (outcome : Result T Errno) (was : WasAsked old.calls mid.calls command (IsDone outcome))
      (asks : asked new.volume.kept.geometry command ≡ request) where
    pub does_done : (next : Doing) → Does (go_on outcome next) mid s said new s' → Does (asks_done request next) old s said new s'
    does_done next does =
        does_ask mid request (λ reply. if_done reply next) command was.reply was.grew asks
        (subst (λ (d : Doing). Does d mid s said new s') (sym (was.is next refuses)) does)

  -- and of one that was to answer a number
  module _ (mid : Turn D) (request : Request) (command : Command) (outcome : Result ℕ Errno) (was : WasAsked old.calls mid.calls command (IsNumber outcome))
      (asks : asked new.volume.kept.geometry command ≡ request) where
    pub does_number : (next : ℕ → Doing) → Does (if_number outcome next) mid s said new s' → Does (asks_number request next) old s said new s'
    does_number next does =
        does_ask mid request (λ reply. if_number (number_in reply) next) command was.reply was.grew asks
        (subst (λ (o : Result ℕ Errno). Does (if_number o next) mid s said new s') was.is does)

-- ---- exits

-- a refusal that is handed on
abbrev pub Left : {U : Type 0} → Result U Errno → Errno → Type 0
Left {U} r error = (y : Errno) × (r ≡ Err y) × (y ≡ error)

pub said_left : {U : Type 0} (body : U → Body) (r : Result U Errno) (error : Errno) → Left r error → said_by body r ≡ Refused error
said_left body r error left = ap (λ (o : Result _ Errno). said_by body o) left.1 ∙ ap Refused left.2

module _ {D U : Type 0} (old new : Turn D) (s s' : Session) (body : U → Body) (r : Result U Errno) (error : Errno) (left : Left r error) (same : s' ≡ s) where
  -- before anything was asked
  pub exit_path : (doing : Doing) → new.calls ≡ old.calls → MayGoOn doing (refuses error) → Does doing old s (said_by body r) new s'
  exit_path doing none on =
      does_on old new s s' (said_by body r) doing (refuses error) on (does_say old new s s' (said_by body r) (λ k. Refused error) none (said_left body r error left) same)

  pub exit_early : (doing : Doing) → new.calls ≡ old.calls → doing ≡ refuses error → Does doing old s (said_by body r) new s'
  exit_early doing none e = exit_path doing none (goes_same e)

  -- after a command
  pub exit_done : {T : Type 0} (request : Request) (command : Command) (outcome : Result T Errno) (doing next : Doing) → WasAsked old.calls new.calls command (IsDone outcome)
      → asked new.volume.kept.geometry command ≡ request → outcome ≡ Err error → MayGoOn doing (asks_done request next) → Does doing old s (said_by body r) new s'
  exit_done request command outcome doing next was asks refused on =
      does_on old new s s' (said_by body r) doing (asks_done request next) on
      (does_done old new s s' (said_by body r) new request command outcome was asks next
      (subst (λ (o : Result _ Errno). Does (go_on o next) new s (said_by body r) new s') (sym refused)
      (does_say new new s s' (said_by body r) (λ k. Refused error) refl (said_left body r error left) same)))

  pub exit_number : (request : Request) (command : Command) (outcome : Result ℕ Errno) (doing : Doing) (next : ℕ → Doing) → WasAsked old.calls new.calls command (IsNumber outcome)
      → asked new.volume.kept.geometry command ≡ request → outcome ≡ Err error → MayGoOn doing (asks_number request next) → Does doing old s (said_by body r) new s'
  exit_number request command outcome doing next was asks refused on =
      does_on old new s s' (said_by body r) doing (asks_number request next) on
      (does_number old new s s' (said_by body r) new request command outcome was asks next
      (subst (λ (o : Result ℕ Errno). Does (if_number o next) new s (said_by body r) new s') (sym refused)
      (does_say new new s s' (said_by body r) (λ k. Refused error) refl (said_left body r error left) same)))

-- ---- going on

module _ {D : Type 0} (old mid new : Turn D) (s s' : Session) (said : Said) where
  pub after_number : (request : Request) (command : Command) (outcome : Result ℕ Errno) (n : ℕ) (doing : Doing) (next : ℕ → Doing)
      → WasAsked old.calls mid.calls command (IsNumber outcome) → asked new.volume.kept.geometry command ≡ request → outcome ≡ Ok n → MayGoOn doing (asks_number request next)
      → Does (next n) mid s said new s' → Does doing old s said new s'
  after_number request command outcome n doing next was asks ok on does =
      does_on old new s s' said doing (asks_number request next) on
      (does_number old new s s' said mid request command outcome was asks next
      (subst (λ (o : Result ℕ Errno). Does (if_number o next) mid s said new s') (sym ok) does))

  pub after_done : {T : Type 0} (request : Request) (command : Command) (outcome : Result T Errno) (x : T) (doing next : Doing)
      → WasAsked old.calls mid.calls command (IsDone outcome) → asked new.volume.kept.geometry command ≡ request → outcome ≡ Ok x → MayGoOn doing (asks_done request next)
      → Does next mid s said new s' → Does doing old s said new s'
  after_done request command outcome x doing next was asks ok on does =
      does_on old new s s' said doing (asks_done request next) on
      (does_done old new s s' said mid request command outcome was asks next
      (subst (λ (o : Result _ Errno). Does (go_on o next) mid s said new s') (sym ok) does))

  pub after_refused : {T : Type 0} (request : Request) (command : Command) (outcome : Result T Errno) (error : Errno) (doing next : Doing)
      → WasAsked old.calls mid.calls command (IsDone outcome) → asked new.volume.kept.geometry command ≡ request → outcome ≡ Err error → MayGoOn doing (asks_done request next)
      → Does (refuses error) mid s said new s' → Does doing old s said new s'
  after_refused request command outcome error doing next was asks is on does =
      does_on old new s s' said doing (asks_done request next) on
      (does_done old new s s' said mid request command outcome was asks next
      (subst (λ (o : Result _ Errno). Does (go_on o next) mid s said new s') (sym is) does))

-- ---- the last command, of which the outcome is handed on

done_last : {D T : Type 0} (old new : Turn D) (s s' : Session) (outcome : Result T Errno) → new.calls ≡ old.calls → s' ≡ s → Does (go_on outcome says_done) old s (said_done outcome) new s'
done_last {T = T} old new s s' (Ok x) none same = does_say old new s s' (said_done {T = T} (Ok x)) (λ k. told bodies.Empty) none refl same
done_last {T = T} old new s s' (Err e) none same = does_say old new s s' (said_done {T = T} (Err e)) (λ k. Refused e) none refl same

pub ends_done : {D T : Type 0} (old new : Turn D) (s s' : Session) (request : Request) (command : Command) (outcome : Result T Errno)
    → WasAsked old.calls new.calls command (IsDone outcome) → asked new.volume.kept.geometry command ≡ request → s' ≡ s → (doing : Doing) → doing ≡ asks_done request says_done
    → Does doing old s (said_done outcome) new s'
ends_done {T = T} old new s s' request command outcome was asks same doing e =
    does_same old new s s' (said_done {T = T} outcome) doing (asks_done request says_done) e
    (does_done old new s s' (said_done {T = T} outcome) new request command outcome was asks says_done (done_last new new s s' outcome refl same))

-- ---- a new file is opened

pub opens_new_by : {D : Type 0} (old mid new : Turn D) (s s' : Session) (said : Said) (d : ℕ) (name : List ℕ) (i : ℕ) (path : List ℕ) (command : Command) (outcome o : Result ℕ Errno)
    → WasAsked old.calls mid.calls command (IsNumber outcome) → asked new.volume.kept.geometry command ≡ Open path → outcome ≡ o
    → Does (if_opened s d name i o) mid s said new s' → Does (opens_new s d name i path) old s said new s'
unfolding opens_new
opens_new_by old mid new s s' said d name i path command outcome o was asks same does =
    does_ask old new s s' said mid (Open path) (λ reply. if_opened s d name i (number_in reply)) command was.reply was.grew asks
    (subst (λ (o : Result ℕ Errno). Does (if_opened s d name i o) mid s said new s') (sym same ∙ was.is) does)

-- ---- a refusal in place of bytes is handed on

pub listing_left : {D V : Type 0} (old : Turn D) (s : Session) (items : V → List ℕ) (doing : Doing) (error : Errno) (r : Result V Errno) → doing ≡ refuses error → Left r error
    → Does doing old s (said_bytes items r) old s
listing_left old s items doing error r e left =
    does_same old old s s (said_bytes items r) doing (refuses error) e
    (does_say old old s s (said_bytes items r) (λ k. Refused error) refl (ap (λ (o : Result _ Errno). said_bytes items o) left.1 ∙ ap Refused left.2) refl)

-- ---- what leads on

module _ {D : Type 0} where
  pub on_equal : (a b : Doing) (turn : Turn D) (s : Session) → a ≡ b → LeadsOn a turn s b turn s
  on_equal a b turn s e said new last does = does_same turn new s last said a b e does

  pub on_same : (a b : Doing) (old : Turn D) (s : Session) (next : Doing) (mid : Turn D) (t : Session) → a ≡ b → LeadsOn b old s next mid t → LeadsOn a old s next mid t
  on_same a b old s next mid t e on said new last does = does_same old new s last said a b e (on said new last does)

  pub on_then : (a b c : Doing) (old mid new : Turn D) (s t u : Session) → LeadsOn a old s b mid t → LeadsOn b mid t c new u → LeadsOn a old s c new u
  on_then a b c old mid new s t u one two said end last does = one said end last (two said end last does)

  pub on_note : (events : List Event) (changes : List Change) (next : Doing) (turn : Turn D) (s : Session) → LeadsOn (Notes events changes next) turn s next turn (noted events changes s)
  on_note events changes next turn s said new last does = does_note turn new s last said events changes next does

  pub on_may : (a b : Doing) (turn : Turn D) (s : Session) → MayGoOn a b → LeadsOn a turn s b turn s
  on_may a b turn s may said new last does = does_on turn new s last said a b may does

  -- with memory, and without
  pub on_memory : (next none : Doing) (turn : Turn D) (s : Session) → LeadsOn (IfMemory next none) turn s next turn s
  on_memory next none turn s = on_may (IfMemory next none) next turn s goes_memory

  pub on_no_memory : (next none : Doing) (turn : Turn D) (s : Session) → LeadsOn (IfMemory next none) turn s none turn s
  on_no_memory next none turn s = on_may (IfMemory next none) none turn s goes_no_memory

  -- a command was asked
  pub on_ask : (old mid : Turn D) (s t : Session) (request : Request) (f : Result Answer Refusal → Doing) (command : Command) (reply : Result Answer Refusal)
      → mid.calls ≡ old.calls ++ (command, reply) ∷ [] → ((geo : Geometry) → asked geo command ≡ request) → t ≡ s → LeadsOn (Asks request f) old s (f reply) mid t
  on_ask old mid s t request f command reply grew asks same said new last does =
      does_ask old new s last said mid request f command reply grew (asks new.volume.kept.geometry)
      (subst (λ (u : Session). Does (f reply) mid u said new last) same does)

  pub on_done : {T : Type 0} (old mid : Turn D) (s t : Session) (request : Request) (command : Command) (outcome : Result T Errno) → WasAsked old.calls mid.calls command (IsDone outcome)
      → ((geo : Geometry) → asked geo command ≡ request) → t ≡ s → (done : Doing) (refused : Errno → Doing)
      → LeadsOn (Asks request (λ reply. if_done_or reply done refused)) old s (go_on_or outcome done refused) mid t
  on_done old mid s t request command outcome was asks same done refused =
      subst (λ (d : Doing). LeadsOn (Asks request (λ reply. if_done_or reply done refused)) old s d mid t) (was.is done refused)
      (on_ask old mid s t request (λ reply. if_done_or reply done refused) command was.reply was.grew asks same)

  -- the same of one that gives an inode its attributes
  pub on_settled : {T : Type 0} (old mid : Turn D) (s t : Session) (request : Request) (command : Command) (outcome : Result T Errno) → WasAsked old.calls mid.calls command (IsSettled outcome)
      → ((geo : Geometry) → asked geo command ≡ request) → t ≡ s → (done : Doing) (refused : Errno → Doing)
      → LeadsOn (Asks request (λ reply. if_settled reply done refused)) old s (go_on_or outcome done refused) mid t
  on_settled old mid s t request command outcome was asks same done refused =
      subst (λ (d : Doing). LeadsOn (Asks request (λ reply. if_settled reply done refused)) old s d mid t) (was.is done refused)
      (on_ask old mid s t request (λ reply. if_settled reply done refused) command was.reply was.grew asks same)

  pub on_number : (old mid : Turn D) (s t : Session) (request : Request) (command : Command) (outcome : Result ℕ Errno) → WasAsked old.calls mid.calls command (IsNumber outcome)
      → ((geo : Geometry) → asked geo command ≡ request) → t ≡ s → (next : ℕ → Doing) → LeadsOn (asks_number request next) old s (if_number outcome next) mid t
  on_number old mid s t request command outcome was asks same next =
      subst (λ (o : Result ℕ Errno). LeadsOn (asks_number request next) old s (if_number o next) mid t) (sym was.is)
      (on_ask old mid s t request (λ reply. if_number (number_in reply) next) command was.reply was.grew asks same)

  -- an outcome that is known, or handed on
  module _ (a : Doing) (old mid : Turn D) (s t : Session) where
    pub on_ok : {T : Type 0} (outcome : Result T Errno) (x : T) (done : Doing) (refused : Errno → Doing) → outcome ≡ Ok x → LeadsOn a old s (go_on_or outcome done refused) mid t
        → LeadsOn a old s done mid t
    on_ok outcome x done refused is on = subst (λ (o : Result _ Errno). LeadsOn a old s (go_on_or o done refused) mid t) is on

    pub on_err : {T : Type 0} (outcome : Result T Errno) (error : Errno) (done : Doing) (refused : Errno → Doing) → outcome ≡ Err error → LeadsOn a old s (go_on_or outcome done refused) mid t
        → LeadsOn a old s (refused error) mid t
    on_err outcome error done refused is on = subst (λ (o : Result _ Errno). LeadsOn a old s (go_on_or o done refused) mid t) is on

    pub on_at_ok : {T : Type 0} (outcome : Result T Errno) (x : T) (done : Session → Doing) (refused : Session → Errno → Doing) → outcome ≡ Ok x
        → LeadsOn a old s (go_on_at outcome done refused t) mid t → LeadsOn a old s (done t) mid t
    on_at_ok outcome x done refused is on = subst (λ (o : Result _ Errno). LeadsOn a old s (go_on_at o done refused t) mid t) is on

    pub on_at_err : {T : Type 0} (outcome : Result T Errno) (error : Errno) (done : Session → Doing) (refused : Session → Errno → Doing) → outcome ≡ Err error
        → LeadsOn a old s (go_on_at outcome done refused t) mid t → LeadsOn a old s (refused t error) mid t
    on_at_err outcome error done refused is on = subst (λ (o : Result _ Errno). LeadsOn a old s (go_on_at o done refused t) mid t) is on

    pub on_given : (outcome : Result ℕ Errno) (n : ℕ) (next : ℕ → Doing) → outcome ≡ Ok n → LeadsOn a old s (if_number outcome next) mid t → LeadsOn a old s (next n) mid t
    on_given outcome n next is on = subst (λ (o : Result ℕ Errno). LeadsOn a old s (if_number o next) mid t) is on

    pub on_not_given : (outcome : Result ℕ Errno) (error : Errno) (next : ℕ → Doing) → outcome ≡ Err error → LeadsOn a old s (if_number outcome next) mid t → LeadsOn a old s (refuses error) mid t
    on_not_given outcome error next is on = subst (λ (o : Result ℕ Errno). LeadsOn a old s (if_number o next) mid t) is on

    pub on_left : {U : Type 0} (r : Result U Errno) (error : Errno) (done : Doing) (refused : Errno → Doing) → Left r error → LeadsOn a old s (refused error) mid t
        → LeadsOn a old s (go_on_or r done refused) mid t
    on_left r error done refused left on =
        subst (λ (o : Result _ Errno). LeadsOn a old s (go_on_or o done refused) mid t) (sym left.1)
        (subst (λ (e : Errno). LeadsOn a old s (refused e) mid t) (sym left.2) on)

-- the outcome of what was done last is said
pub ends_so : {D T : Type 0} (old mid : Turn D) (s t : Session) (outcome : Result T Errno) (doing : Doing) → LeadsOn doing old s (go_on outcome says_done) mid t
    → Does doing old s (said_done outcome) mid t
ends_so old mid s t outcome doing on = on (said_done outcome) mid t (done_last mid mid t t outcome refl refl)

pub ends_err : {D U : Type 0} (old mid : Turn D) (s t : Session) (body : U → Body) (r : Result U Errno) (error : Errno) (doing : Doing) → Left r error → LeadsOn doing old s (refuses error) mid t
    → Does doing old s (said_by body r) mid t
ends_err old mid s t body r error doing left on = on (said_by body r) mid t (does_say mid mid t t (said_by body r) (λ k. Refused error) refl (said_left body r error left) refl)
