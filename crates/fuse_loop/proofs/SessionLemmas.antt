-- Messages are answered one behind the other.
use Rattle.std.proofs.Common.{◌≡◌, ◌↔◌, ℕ, Bool, true, false, List, [], ◌∷◌, ◌++◌, Option, Some, None, Result, Ok, Err, IfErr, IfOk, OnErr, OnOk, inl, inr, refl, sym, ap, subst, ◌∙◌, append_assoc}
use Rattle.std.specs.Prelude.{◌⊎◌}
use Rattle.std.proofs.lemmas.List.{append-nil}
use Rattle.fuse_wire.specs.declared.requests.Head.{Head}
use Rattle.fuse_wire.specs.Requests as requests
use Rattle.fuse_wire.specs.Requests.{Asked, decode}
use Rattle.fuse_loop.specs.declared.LeftError.{LeftError}
use Rattle.fuse_loop.specs.declared.LeftError.TheVariants.{Channel, NoMemory, NoRequest}
use Rattle.fuse_loop.specs.Sessions.{Answered, AnswersOne, EndsAt, IsAnswered, IsDestroy, IsLeft, LastIsDestroy, Leaves, LeavesIt, LeavesOne, NothingCame, NotGiven, NotTurned, OneCame, Serves, ServesOne, Start, Step, Turning, Untouched, begins, given_by, is_begin, is_in_place}
use Rattle.fuse_reader.specs.declared.desk.Turned.{Turned}
use Rattle.fuse_reader.specs.declared.desk.Turned.TheVariants.{Ended, Unread}
use Rattle.fuse_reader.specs.Desks.{turned_of}

-- what follows from clauses
pub on_ok : {A E P Q : Type 0} (r : Result A E) → OnOk r P → (P → Q) → OnOk r Q
on_ok (Ok x) p f = f p
on_ok (Err e) p f = tt

pub on_ok_both : {A E P Q R : Type 0} (r : Result A E) → OnOk r P → OnOk r Q → (P → Q → R) → OnOk r R
on_ok_both (Ok x) p q f = f p q
on_ok_both (Err e) p q f = tt

pub if_err : {A E : Type 0} {P Q : E → Type 0} (r : Result A E) → IfErr r P → ((e : E) → P e → Q e) → IfErr r Q
if_err (Ok x) p f = tt
if_err (Err e) p f = f e p

pub if_err_both : {A E R : Type 0} {P Q : E → Type 0} (r : Result A E) → IfErr r P → OnErr r R → ((e : E) → P e → R → Q e) → IfErr r Q
if_err_both (Ok x) p q f = tt
if_err_both (Err e) p q f = f e p q

pub if_ok : {A E : Type 0} {P Q : A → Type 0} (r : Result A E) → IfOk r P → ((x : A) → P x → Q x) → IfOk r Q
if_ok (Ok x) p f = f x p
if_ok (Err e) p f = tt

pub not_both : (b : Bool) → b ≡ true → b ≡ false → ⊥
not_both b h e = cc

-- a turn that came to one thing did not come to another
pub not_unread : {turned other : Turned} → turned ≡ other → (other ≡ Unread → ⊥) → turned ≡ Unread → ⊥
not_unread e h f = h (sym e ∙ f)

-- only one request ends a session
destroyed : (asked : Asked) → turned_of asked ≡ Ended → asked ≡ requests.Destroy
destroyed (requests.Init a) e = absurd cc
destroyed (requests.Lookup a) e = absurd cc
destroyed (requests.Forgotten a) e = absurd cc
destroyed (requests.BatchForget a) e = absurd cc
destroyed (requests.GetAttributes a) e = absurd cc
destroyed (requests.SetAttributes a) e = absurd cc
destroyed requests.ReadSymbolicLink e = absurd cc
destroyed (requests.MakeSymbolicLink a b) e = absurd cc
destroyed (requests.MakeNode a b c d) e = absurd cc
destroyed (requests.MakeDirectory a b c) e = absurd cc
destroyed (requests.Unlink a) e = absurd cc
destroyed (requests.RemoveDirectory a) e = absurd cc
destroyed (requests.Rename a b c d) e = absurd cc
destroyed (requests.Link a b) e = absurd cc
destroyed (requests.Open a) e = absurd cc
destroyed (requests.Read a b c) e = absurd cc
destroyed (requests.Write a b c) e = absurd cc
destroyed requests.Statistics e = absurd cc
destroyed (requests.Release a) e = absurd cc
destroyed (requests.Sync a b) e = absurd cc
destroyed (requests.Flush a) e = absurd cc
destroyed (requests.OpenDirectory a) e = absurd cc
destroyed (requests.ReadDirectory a b c) e = absurd cc
destroyed (requests.ReadDirectoryPlus a b c) e = absurd cc
destroyed (requests.ReleaseDirectory a) e = absurd cc
destroyed (requests.SyncDirectory a b) e = absurd cc
destroyed (requests.Create a b c d) e = absurd cc
destroyed (requests.Interrupt a) e = absurd cc
destroyed requests.Destroy e = refl
destroyed requests.SyncVolume e = absurd cc
destroyed (requests.Allocate a b c d) e = absurd cc
destroyed (requests.Other a) e = absurd cc

pub is_destroy : {turned : Turned} (message : List ℕ) → (turned ≡ Unread) ↔ (decode message ≡ None)
    → ((head : Head) (asked : Asked) → decode message ≡ Some (head, asked) → turned ≡ turned_of asked) → turned ≡ Ended → IsDestroy message
is_destroy {turned} message unread by is = go (decode message) refl
  where
    go : (o : Option (Head × Asked)) → decode message ≡ o → IsDestroy message
    go None e = absurd (not_unread is (λ e. cc) (unread.1 e))
    go (Some p) e = (p.0, e ∙ ap (λ a. Some (p.0, a)) (destroyed p.1 (sym (by p.0 p.1 e) ∙ is)))

-- the last message is the one that came
pub last_is_destroy : (message : List ℕ) (taken new_taken : List (List ℕ)) → new_taken ≡ taken ++ message ∷ [] → IsDestroy message → LastIsDestroy new_taken
last_is_destroy message taken new_taken e is = (taken, message, e, is)

begins_on : (messages : List (List ℕ)) (message : List ℕ) → begins messages ≡ true → is_in_place (is_begin messages) message ≡ true → begins (messages ++ message ∷ []) ≡ true
begins_on [] message first agrees = agrees
begins_on (m ∷ ms) message first agrees = first

is_begin_on : (messages : List (List ℕ)) (message : List ℕ) → is_begin (messages ++ message ∷ []) ≡ false
is_begin_on [] message = refl
is_begin_on (m ∷ ms) message = refl

module _ {T : Type 0} {turns : Turning T} where
  -- what a turn tells of a message that is a request
  pub answered_by : (old new : T) (message reply : List ℕ) (turned other : Turned) → (turned ≡ Unread) ↔ (decode message ≡ None)
      → ((head : Head) (asked : Asked) → decode message ≡ Some (head, asked) → turned ≡ turned_of asked) → turns old message turned reply new
      → turned ≡ other → (other ≡ Unread → ⊥) → IsAnswered turns old message (given_by other reply) new
  answered_by old new message reply turned other unread by turn is read = go (decode message) refl
    where
      go : (o : Option (Head × Asked)) → decode message ≡ o → IsAnswered turns old message (given_by other reply) new
      go None e = absurd (read (sym is ∙ unread.1 e))
      go (Some p) e = record {
        head = p.0;
        asked = p.1;
        reply = reply;
        read = e;
        turn = subst (λ x. turns old message x reply new) (by p.0 p.1 e) turn;
        gives = ap (λ x. given_by x reply) (sym is ∙ by p.0 p.1 e);
      }

  -- a message is answered as its bytes are
  pub same_message : {old new : T} {message bytes : List ℕ} {given : List (List ℕ)} → bytes ≡ message → IsAnswered turns old bytes given new → IsAnswered turns old message given new
  same_message {old} {new} {message} {bytes} {given} e h = subst (λ x. IsAnswered turns old x given new) e h

  pub answers_one : (first : Bool) (old new : T) (message : List ℕ) (given new_given more : List (List ℕ))
      → is_in_place first message ≡ true → IsAnswered turns old message more new → new_given ≡ given ++ more → AnswersOne turns first old message given new_given new
  answers_one first old new message given new_given more agrees answered gives = record { agrees = agrees; replies = more; answered = answered; gives = gives }

  -- the message is the one that came
  pub one_came : (first next : Bool) (old new : T) (message : List ℕ) (taken given mid_given new_taken new_given : List (List ℕ))
      → next ≡ false → new_taken ≡ taken ++ message ∷ [] → mid_given ≡ given → AnswersOne turns first old message mid_given new_given new
      → ServesOne turns first next old taken given new_taken new_given new
  one_came first next old new message taken given mid_given new_taken new_given later takes same answers =
      OneCame message later takes (subst (λ x. AnswersOne turns first old message x new_given new) same answers)

  -- ---- all of them

  -- none was served yet
  pub none_served : (old : T) (taken given : List (List ℕ)) → (s : Serves turns old taken given taken given [] old) × (true ≡ is_begin s.messages)
  none_served old taken given = (
    record {
      messages = [];
      replies = [];
      first = refl;
      answered = Start;
      takes = sym (append-nil _) ∙ sym (append-nil _);
      gives = sym (append-nil _);
    },
    refl,
  )

  -- one more was, or nothing came
  pub serves_more : (first next : Bool) (old mid new : T) (taken given mid_taken mid_given new_taken new_given : List (List ℕ))
      → (before : Serves turns old taken given mid_taken mid_given [] mid) → first ≡ is_begin before.messages
      → ServesOne turns first next mid mid_taken mid_given new_taken new_given new
      → (s : Serves turns old taken given new_taken new_given [] new) × (next ≡ is_begin s.messages)
  serves_more first next old mid new taken given mid_taken mid_given new_taken new_given before is (NothingCame stays takes gives same) = (
    record {
      messages = before.messages;
      replies = before.replies;
      first = before.first;
      answered = subst (λ x. Answered turns old before.messages before.replies x) (sym same) before.answered;
      takes = takes ∙ before.takes;
      gives = gives ∙ before.gives;
    },
    stays ∙ is,
  )
  serves_more first next old mid new taken given mid_taken mid_given new_taken new_given before is (OneCame message later takes answers) = (
    record {
      messages = before.messages ++ message ∷ [];
      replies = before.replies ++ answers.replies;
      first = begins_on before.messages message before.first (subst (λ b. is_in_place b message ≡ true) is answers.agrees);
      answered = Step before.messages before.replies mid new message answers.replies before.answered answers.answered;
      takes = takes ∙ ap (λ xs. xs ++ message ∷ []) (before.takes ∙ append-nil _) ∙ append_assoc taken before.messages (message ∷ []) ∙ sym (append-nil _);
      gives = answers.gives ∙ ap (λ xs. xs ++ answers.replies) before.gives ∙ append_assoc given before.replies answers.replies;
    },
    later ∙ sym (is_begin_on before.messages message),
  )

module _ {T : Type 0} {turns : Turning T} {fails : T → List ℕ → T → Type 0} where
  pub not_given : (first : Bool) (why : LeftError) (old new : T) (message reply : List ℕ) (turned : Turned) → why ≡ Channel → turns old message turned reply new
      → LeavesIt turns fails first old message why new
  not_given first why old new message reply turned is turn = record {
    left = subst (λ x. IsLeft first x (message ∷ [])) (sym is) (inr (message, refl));
    ends = NotGiven message reply turned new turn;
  }

  pub one_left : (first : Bool) (why : LeftError) (old new : T) (message : List ℕ) (taken given new_taken new_given : List (List ℕ)) → new_taken ≡ taken ++ message ∷ []
      → new_given ≡ given → LeavesIt turns fails first old message why new → LeavesOne turns fails first old taken given new_taken new_given why new
  one_left first why old new message taken given new_taken new_given takes gives leaves = record {
    rest = message ∷ [];
    left = leaves.left;
    ends = leaves.ends;
    takes = takes;
    gives = gives;
  }

  pub none_left : (why : LeftError) (old : T) (taken given : List (List ℕ)) → IsLeft true why [] → Leaves turns fails old taken given taken given why old
  none_left why old taken given left =
      let none : (s : Serves turns old taken given taken given [] old) × (true ≡ is_begin s.messages) = none_served old taken given in
      record { rest = []; mid = old; serves = none.0; left = subst (λ b. IsLeft b why []) none.1 left; ends = Untouched [] }

  pub leaves_one : (first : Bool) (why : LeftError) (old mid new : T) (taken given mid_taken mid_given new_taken new_given : List (List ℕ))
      → (before : Serves turns old taken given mid_taken mid_given [] mid) → first ≡ is_begin before.messages
      → LeavesOne turns fails first mid mid_taken mid_given new_taken new_given why new → Leaves turns fails old taken given new_taken new_given why new
  leaves_one first why old mid new taken given mid_taken mid_given new_taken new_given before is one = record {
    rest = one.rest;
    mid = mid;
    serves = record {
      messages = before.messages;
      replies = before.replies;
      first = before.first;
      answered = before.answered;
      takes = one.takes ∙ ap (λ xs. xs ++ one.rest) (before.takes ∙ append-nil _);
      gives = one.gives ∙ before.gives;
    };
    left = subst (λ b. IsLeft b why one.rest) is one.left;
    ends = one.ends;
  }

  -- it is left between two messages
  pub none_more : (why : LeftError) (old mid : T) (taken given new_taken new_given : List (List ℕ)) → (before : Serves turns old taken given new_taken new_given [] mid)
      → IsLeft (is_begin before.messages) why [] → Leaves turns fails old taken given new_taken new_given why mid
  none_more why old mid taken given new_taken new_given before left = record { rest = []; mid = mid; serves = before; left = left; ends = Untouched [] }
