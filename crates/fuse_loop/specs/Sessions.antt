-- What is answered at a channel.
use Rattle.std.specs.Prelude.{◌≡◌, ℕ, ◌⊎◌, Bool, true, false, List, [], ◌∷◌, ◌++◌, Option, Some, None}
use Rattle.fuse_wire.specs.declared.requests.Head.{Head}
use Rattle.fuse_wire.specs.Requests as requests
use Rattle.fuse_wire.specs.Requests.{Asked, decode}
use Rattle.fuse_loop.specs.declared.LeftError.{LeftError}
use Rattle.fuse_loop.specs.declared.LeftError.TheVariants.{Channel, NoMemory, NoRequest}
use Rattle.fuse_reader.specs.declared.desk.Turned.{Turned}
use Rattle.fuse_reader.specs.declared.desk.Turned.TheVariants.{Ended, Replied, Silent, Unread}
use Rattle.fuse_reader.specs.Desks.{turned_of}

-- what a turn may be: from one desk, by a message, to what became of it, a reply and another desk
abbrev pub Turning : Type 0 → Type 1
Turning T = T → List ℕ → Turned → List ℕ → T → Type 0

-- what is given where a turn has come to this
abbrev pub given_by : Turned → List ℕ → List (List ℕ)
given_by Unread reply = []
given_by Silent reply = []
given_by Replied reply = reply ∷ []
given_by Ended reply = reply ∷ []

-- The message is a request, which is answered by one turn, and the reply is given, unless the request asks for none.
pub record IsAnswered {T : Type 0} (turns : Turning T) (old : T) (message : List ℕ) (given : List (List ℕ)) (new : T) : Type 0 where
  pub head : Head
  pub asked : Asked
  pub reply : List ℕ
  pub read : decode message ≡ Some (head, asked)
  pub turn : turns old message (turned_of asked) reply new
  pub gives : given ≡ given_by (turned_of asked) reply

-- The messages were answered one after another, the first first, by these replies, which leads from one desk to the other.
pub data Answered {T : Type 0} (turns : Turning T) (old : T) : List (List ℕ) → List (List ℕ) → T → Type 0 where
  Start : Answered turns old [] [] old
  Step : (messages replies : List (List ℕ)) (mid new : T) (message : List ℕ) (given : List (List ℕ)) → Answered turns old messages replies mid
      → IsAnswered turns mid message given new → Answered turns old (messages ++ message ∷ []) (replies ++ given) new

-- whether a request asks to agree on a version, as the first one of Linux does
abbrev pub asks_to_agree : Option (Head × Asked) → Bool
asks_to_agree (Some (head, requests.Init offer)) = true
asks_to_agree _ = false

-- whether a message may come: the first one is such a request
abbrev pub is_in_place : Bool → List ℕ → Bool
is_in_place true message = asks_to_agree (decode message)
is_in_place false message = true

abbrev pub begins : List (List ℕ) → Bool
begins [] = true
begins (message ∷ messages) = is_in_place true message

-- whether none was answered yet
abbrev pub is_begin : List (List ℕ) → Bool
is_begin [] = true
is_begin (message ∷ messages) = false

-- All messages that were taken were answered but these, and the replies were given. The first asked to agree.
pub record Serves {T : Type 0} (turns : Turning T) (old : T) (taken given new_taken new_given rest : List (List ℕ)) (new : T) : Type 0 where
  pub messages : List (List ℕ)
  pub replies : List (List ℕ)
  pub first : begins messages ≡ true
  pub answered : Answered turns old messages replies new
  pub takes : new_taken ≡ (taken ++ messages) ++ rest
  pub gives : new_given ≡ given ++ replies

-- What is left unanswered where a desk is left: a message that is no request, or the first one if it does not ask to agree; or one, if there is one, for
-- whose reply there is no memory or which the channel did not take.
abbrev pub IsLeft : Bool → LeftError → List (List ℕ) → Type 0
IsLeft first NoMemory rest = (rest ≡ []) ⊎ ((message : List ℕ) × (rest ≡ message ∷ []))
IsLeft first Channel rest = (rest ≡ []) ⊎ ((message : List ℕ) × (rest ≡ message ∷ []))
IsLeft first NoRequest rest = (message : List ℕ) × (rest ≡ message ∷ []) × ((decode message ≡ None) ⊎ (is_in_place first message ≡ false))

-- where it is left then: as it was, or after a turn by the message of which nothing was given
pub data EndsAt {T : Type 0} (turns : Turning T) (fails : T → List ℕ → T → Type 0) (old : T) : List (List ℕ) → T → Type 0 where
  Untouched : (rest : List (List ℕ)) → EndsAt turns fails old rest old
  NotGiven : (message reply : List ℕ) (turned : Turned) (new : T) → turns old message turned reply new → EndsAt turns fails old (message ∷ []) new
  NotTurned : (message : List ℕ) (new : T) → fails old message new → EndsAt turns fails old (message ∷ []) new

-- A desk was left, for this reason, after it had served so.
pub record Leaves {T : Type 0} (turns : Turning T) (fails : T → List ℕ → T → Type 0) (old : T) (taken given new_taken new_given : List (List ℕ)) (why : LeftError) (new : T) : Type 0 where
  pub rest : List (List ℕ)
  pub mid : T
  pub serves : Serves turns old taken given new_taken new_given rest mid
  pub left : IsLeft (is_begin serves.messages) why rest
  pub ends : EndsAt turns fails mid rest new

-- The message asks to end: no other one follows it.
abbrev pub IsDestroy : List ℕ → Type 0
IsDestroy message = (head : Head) × (decode message ≡ Some (head, requests.Destroy))

-- the last message that was taken does
abbrev pub LastIsDestroy : List (List ℕ) → Type 0
LastIsDestroy taken = (before : List (List ℕ)) × (message : List ℕ) × (taken ≡ before ++ message ∷ []) × IsDestroy message

-- A session ends well with its channel, or with a last message that asks to.
pub data EndsWell (ended : Type 0) (taken : List (List ℕ)) : Type 0 where
  WithChannel : ended → EndsWell ended taken
  WithDestroy : LastIsDestroy taken → EndsWell ended taken

-- ---- one message

-- It was answered, the first one only as it asks to agree.
pub record AnswersOne {T : Type 0} (turns : Turning T) (first : Bool) (old : T) (message : List ℕ) (given new_given : List (List ℕ)) (new : T) : Type 0 where
  pub agrees : is_in_place first message ≡ true
  pub replies : List (List ℕ)
  pub answered : IsAnswered turns old message replies new
  pub gives : new_given ≡ given ++ replies

-- It is left unanswered.
pub record LeavesIt {T : Type 0} (turns : Turning T) (fails : T → List ℕ → T → Type 0) (first : Bool) (old : T) (message : List ℕ) (why : LeftError) (new : T) : Type 0 where
  pub left : IsLeft first why (message ∷ [])
  pub ends : EndsAt turns fails old (message ∷ []) new

-- What came was answered, if something came; then the next message is not the first.
pub data ServesOne {T : Type 0} (turns : Turning T) (first next : Bool) (old : T) (taken given new_taken new_given : List (List ℕ)) (new : T) : Type 0 where
  NothingCame : next ≡ first → new_taken ≡ taken → new_given ≡ given → new ≡ old → ServesOne turns first next old taken given new_taken new_given new
  OneCame : (message : List ℕ) → next ≡ false → new_taken ≡ taken ++ message ∷ [] → AnswersOne turns first old message given new_given new
      → ServesOne turns first next old taken given new_taken new_given new

-- a desk is left, with what came
pub record LeavesOne {T : Type 0} (turns : Turning T) (fails : T → List ℕ → T → Type 0) (first : Bool) (old : T) (taken given new_taken new_given : List (List ℕ)) (why : LeftError) (new : T) : Type 0 where
  pub rest : List (List ℕ)
  pub left : IsLeft first why rest
  pub ends : EndsAt turns fails old rest new
  pub takes : new_taken ≡ taken ++ rest
  pub gives : new_given ≡ given
