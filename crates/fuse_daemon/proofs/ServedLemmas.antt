-- What is told of a session where nothing is told of its desk.
use Rattle.std.proofs.Common.{ℕ, List, [], ◌∷◌}
use Rattle.fuse_loop.specs.declared.LeftError.{LeftError}
use Rattle.fuse_loop.specs.Sessions.{Answered, EndsAt, Leaves, NotGiven, NotTurned, Serves, Start, Step, Turning, Untouched}
use Rattle.fuse_reader.specs.declared.desk.Turned.{Turned}

module _ {T : Type 0} (P : List ℕ → Turned → List ℕ → Type 0) where
  answered_anyhow : (old new : T) (messages replies : List (List ℕ)) → Answered (λ _ message turned reply _. P message turned reply) old messages replies new
      → Answered {T = Unit {0}} (λ _ message turned reply _. P message turned reply) tt messages replies tt
  answered_anyhow old _ _ _ Start = Start
  answered_anyhow old new _ _ (Step messages replies mid _ message given before here) =
      Step messages replies tt tt message given (answered_anyhow old mid messages replies before)
      record { head = here.head; asked = here.asked; reply = here.reply; read = here.read; turn = here.turn; gives = here.gives }

  pub serves_anyhow : (old new : T) (taken given new_taken new_given rest : List (List ℕ))
      → Serves (λ _ message turned reply _. P message turned reply) old taken given new_taken new_given rest new
      → Serves {T = Unit {0}} (λ _ message turned reply _. P message turned reply) tt taken given new_taken new_given rest tt
  serves_anyhow old new taken given new_taken new_given rest serves = record {
    messages = serves.messages;
    replies = serves.replies;
    first = serves.first;
    answered = answered_anyhow old new serves.messages serves.replies serves.answered;
    takes = serves.takes;
    gives = serves.gives;
  }

  ends_anyhow : (old new : T) (rest : List (List ℕ)) → EndsAt (λ _ message turned reply _. P message turned reply) (λ _ _ _. Unit {0}) old rest new
      → EndsAt {T = Unit {0}} (λ _ message turned reply _. P message turned reply) (λ _ _ _. Unit {0}) tt rest tt
  ends_anyhow old _ _ (Untouched rest) = Untouched rest
  ends_anyhow old new _ (NotGiven message reply turned _ turn) = NotGiven message reply turned tt turn
  ends_anyhow old new _ (NotTurned message _ fails) = NotTurned message tt tt

  pub leaves_anyhow : (old new : T) (taken given new_taken new_given : List (List ℕ)) (why : LeftError)
      → Leaves (λ _ message turned reply _. P message turned reply) (λ _ _ _. Unit {0}) old taken given new_taken new_given why new
      → Leaves {T = Unit {0}} (λ _ message turned reply _. P message turned reply) (λ _ _ _. Unit {0}) tt taken given new_taken new_given why tt
  unfolding serves_anyhow
  leaves_anyhow old new taken given new_taken new_given why leaves = record {
    rest = leaves.rest;
    mid = tt;
    serves = serves_anyhow old leaves.mid taken given new_taken new_given leaves.rest leaves.serves;
    left = leaves.left;
    ends = ends_anyhow leaves.mid new leaves.rest leaves.ends;
  }
