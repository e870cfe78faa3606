-- A volume goes on by commands.
use Rattle.std.proofs.Common.{◌≡◌, ℕ, List, [], ◌∷◌, ◌++◌, map, IfOk, Option, Some, None, Result, Ok, Err, refl, sym, ap, subst, ◌∙◌}
use Rattle.std.proofs.lemmas.List.{map-append}
use Rattle.std.specs.List.{AllZip}
use Rattle.std.specs.Prelude.{unwrap_or}
use Rattle.attributes.specs.declared.Time.{Time}
use Rattle.device.specs.Media.{Held}
use Rattle.layout.specs.declared.refusal.Refusal.{Refusal}
use Rattle.shared.specs.Opened.{Opened, opened_of}
use Rattle.snapshot.proofs.AppliesLemmas.{runs_none}
use Rattle.snapshot.proofs.Joining.{joined}
use Rattle.snapshot.specs.Alive.{Alive}
use Rattle.snapshot.specs.Asked.{IsReply, asked}
use Rattle.snapshot.specs.Goes.{Goes, Runs}
use Rattle.snapshot.specs.declared.answer.Answer.{Answer}
use Rattle.snapshot.specs.declared.command.Command.{Command}
use Rattle.fuse_writer.specs.Turns.{Call, GoesBy}
use Rattle.fuse_daemon.specs.Services.{Begins, ByTurn, IsPart, More, Parts, TurnsAt, TurnsSome, Unread, Went, timed}
use Rattle.fuse_loop.specs.Tended.{TurnsTended}
use Rattle.fuse_wire.specs.declared.requests.Head.{Head}
use Rattle.fuse_wire.specs.Requests.{Asked, decode}
use Rattle.fuse_writer.specs.Answers.{IsTurn}
use Rattle.fuse_writer.specs.Desks.{AtDesk, at_time, begun, ended}
use Rattle.fuse_reader.specs.declared.desk.Turned.{Turned}

zip_append : {A B : Type 0} (R : A → B → Type 0) (xs xs' : List A) (ys ys' : List B) → AllZip R xs ys → AllZip R xs' ys' → AllZip R (xs ++ xs') (ys ++ ys')
zip_append R [] xs' [] ys' all more = more
zip_append R (a ∷ xs) xs' (b ∷ ys) ys' all more = (all.0, zip_append R xs xs' ys ys' all.1 more)
zip_append R [] xs' (b ∷ ys) ys' all more = absurd all
zip_append R (a ∷ xs) xs' [] ys' all more = absurd all

module _ {D : Type 0} (held held' held'' : Held) (image image' image'' : List (List ℕ)) (old mid new : Alive D) where
  runs_then : (commands more : List Command) (replies others : List (Result Answer Refusal)) → Runs held image old (map (asked old.kept.geometry) commands) replies held' image' mid
      → Runs held' image' mid (map (asked mid.kept.geometry) more) others held'' image'' new
      → Runs held image old (map (asked old.kept.geometry) (commands ++ more)) (replies ++ others) held'' image'' new
  runs_then commands more replies others ran then beside is =
      let geo = old.kept.geometry in
      let first = ran beside is in
      let last = then first.0 first.3.is in
      let goes = subst (λ g. Goes first.0 held' image' mid (map (asked g) more) last.1 last.0 held'' image'' new) first.3.geometry last.3 in (
        last.0,
        first.1 ++ last.1,
        zip_append IsReply replies others first.1 last.1 first.2 last.2,
        subst (λ cs. Goes beside held image old cs (first.1 ++ last.1) last.0 held'' image'' new) (sym (map-append (asked geo) commands more))
            (joined beside first.0 last.0 held held' held'' image image' image'' old mid new (map (asked geo) commands) (map (asked geo) more) first.1 last.1 first.3 goes),
      )

module _ {D : Type 0} (honest : D → Type 0) (held_of : D → Held) (image_of : D → List (List ℕ)) where
  goes_then : (old mid new : Alive D) (calls more : List Call) → GoesBy honest held_of image_of old calls mid → GoesBy honest held_of image_of mid more new
      → GoesBy honest held_of image_of old (calls ++ more) new
  goes_then old mid new calls more first then = record {
    honest_before = λ h. first.honest_before (then.honest_before h);
    runs = λ h.
        subst (λ cs. Runs (held_of old.device) (image_of old.device) old (map (asked old.kept.geometry) cs) (map (λ c. c.1) (calls ++ more)) (held_of new.device) (image_of new.device) new)
        (sym (map-append (λ (c : Call). c.0) calls more))
        (subst (λ rs. Runs (held_of old.device) (image_of old.device) old (map (asked old.kept.geometry) (map (λ c. c.0) calls ++ map (λ c. c.0) more)) rs (held_of new.device) (image_of new.device) new)
        (sym (map-append (λ (c : Call). c.1) calls more))
        (runs_then (held_of old.device) (held_of mid.device) (held_of new.device) (image_of old.device) (image_of mid.device) (image_of new.device) old mid new
        (map (λ c. c.0) calls) (map (λ c. c.0) more) (map (λ c. c.1) calls) (map (λ c. c.1) more) (first.runs (then.honest_before h)) (then.runs h)));
  }

  -- one part more
  pub went_on : (begins : Opened → Type 0) (old new : AtDesk D) → Went honest held_of image_of begins old → IsPart old new
      → GoesBy honest held_of image_of old.volume new.calls new.volume → Went honest held_of image_of begins new
  went_on begins old new went part goes = record {
    first = went.first;
    known = went.known;
    calls = went.calls ++ new.calls;
    parts = More went.calls old new went.parts part goes;
    goes = goes_then went.first.volume old.volume new.volume went.calls new.calls went.goes goes;
  }

  pub went_nowhere : (begins : Opened → Type 0) (now : AtDesk D) → begins (opened_of held_of image_of now.volume) → Went honest held_of image_of begins now
  went_nowhere begins now known = record {
    first = now;
    known = known;
    calls = [];
    parts = Begins;
    goes = record { honest_before = λ h. h; runs = λ h. runs_none (held_of now.volume.device) (image_of now.volume.device) now.volume [] [] refl };
  }

  -- a turn from a desk of which this is known
  pub turns_at : {E : Type 0} (begins : Opened → Type 0) (time : Option Time) (old new : AtDesk D) (message reply : List ℕ) (outcome : Result Turned E)
      → Went honest held_of image_of begins old
      → IfOk outcome (λ turned. TurnsTended honest held_of image_of (timed (unwrap_or time old.session.time) old) message turned reply new)
      → IfOk outcome (λ turned. TurnsAt honest held_of image_of begins time message turned reply)
  turns_at begins time old new message reply (Ok turned) went turn = record { old = old; new = new; went = went; turn = turn }
  turns_at begins time old new message reply (Err e) went turn = tt

  pub at_some_time : {E : Type 0} (begins : Opened → Type 0) (time : Option Time) (message reply : List ℕ) (outcome : Result Turned E)
      → IfOk outcome (λ turned. TurnsAt honest held_of image_of begins time message turned reply)
      → IfOk outcome (λ turned. TurnsSome honest held_of image_of begins message turned reply)
  at_some_time begins time message reply (Ok turned) turn = (time, turn)
  at_some_time begins time message reply (Err e) turn = tt

-- the time of a turn: the one that was told, or else that of the turn before
pub time_told : {D : Type 0} (time : Option Time) (at own : Time) (old now : AtDesk D) → at ≡ unwrap_or time own → own ≡ now.session.time → now ≡ old
    → at ≡ unwrap_or time old.session.time
time_told {D = D} time at own old now e f same = e ∙ ap (unwrap_or time) (f ∙ ap (λ (desk : AtDesk D). desk.session.time) same)

-- what is done by a turn, whatever it came to
pub part_of_turn : {D T E : Type 0} (old new : AtDesk D) (time : Time) (message reply : List ℕ) (outcome : Result T E)
    → (decode message ≡ None → new.session ≡ at_time time old.session)
    → ((head : Head) (asked : Asked) → decode message ≡ Some (head, asked) → IsTurn head asked (begun old) (at_time time old.session) outcome reply (ended new) new.session)
    → IsPart old new
part_of_turn old new time message reply outcome idle turn = go (decode message) refl
  where
    go : (o : Option (Head × Asked)) → decode message ≡ o → IsPart old new
    go None e = Unread message time e (idle e)
    go (Some p) e = let t = turn p.0 p.1 e in ByTurn message time p.0 p.1 t.said e t.comes
