-- A trace begins, goes on by one entry, and begins anew.
use Rattle.std.proofs.Common.{◌≡◌, ◌⊎◌, ◌+◌, inl, inr, refl, sym, ap, ap₂, ◌∙◌, subst, ℕ, List, [], ◌∷◌, ◌++◌, Ok, Err, IfErr, IfOk, Result, IsErrOf, OnErr, arith, ◌↔◌, cond, length}
use Rattle.std.specs.List.{count_by}
use Rattle.std.proofs.lemmas.List.{map-append, length-append, length-map}
use Rattle.std.proofs.lemmas.List.Sums.{sum_by-append, sum_by-cons}
use Rattle.layout.specs.declared.refusal.Refusal.{Refusal}
use Rattle.layout.specs.declared.refusal.Refusal.TheVariants.{Device, NoMemory, NoSnapshot, TooManySnapshots, TraceFull}
use Rattle.model.specs.Layout.{Geometry}
use Rattle.device.specs.Media.{Held, image_of as shown_by}
use Rattle.machine.specs.Command.{Command as Request, Reply as Response, Write as WriteOf, Done as IsDone, Number as IsNumber, Bytes as AreBytes, Listed, Status as IsStatus, Attributes as AreAttributes, Image as IsImage}
use Rattle.machine.specs.State.{State}
use Rattle.machine.specs.Step.{Run}
use Rattle.replies.specs.Replies.{IsCopied}
use Rattle.replies.proofs.Copied.{run_refused, service_refused}
use Rattle.queue_model.specs.Flush.{taken}
use Rattle.softdep.specs.Queued.{pending_of, NothingNext, Queued, next_cut, unsynced_of}
use Rattle.snapshot.specs.Alive.{Alive, disk_of, state_of}
use Rattle.live_states.specs.Holdings.{Beside}
use Rattle.snapshot.specs.declared.command.Command.{Command}
use Rattle.snapshot.specs.declared.answer.Answer.{Answer}
use Rattle.snapshot.specs.declared.answer.Answer.TheVariants.{Done, Number, Bytes, Names, Status, Attributes, Image}
use Rattle.snapshot.specs.Asked.{HasBytesOrNames, IsReply, asked, mode_of}
use Rattle.snapshot.specs.declared.command.Command.TheVariants.{Create, Mkdir, Link, Unlink, Rmdir, Rename, Open, Close, Read, Write, Truncate, List as ListOf, Stat, Freeze, SnapRead, Release, Install, Repair, Flush, Sync, SetAttributes, ReadAttributes}
use Rattle.snapshot.specs.Durable.{GoesSoundly}
use Rattle.snapshot.specs.Goes.{Applies, Goes, HasBeside, pieces_in, views_in}
use Rattle.snapshot.specs.Stages.{Stage}
use Rattle.snapshot.specs.Synced.{IsSynced}
use Rattle.snapshot.specs.Writes.{Writes}
use Rattle.snapshot.proofs.AppliesLemmas.{goes_nowhere, zip_push}
use Rattle.snapshot.proofs.Joining.{joined}
use Rattle.shared.specs.declared.entry.Entry.{Entry}
use Rattle.shared.specs.Next.{IsNext}
use Rattle.shared.specs.declared.counts.Counts.{Counts}
use Rattle.shared.specs.Calls.{no_calls}
use Rattle.shared.specs.Noted.{IsNoted, Notes}
use Rattle.shared.specs.Opened.{Opened, opened_of}
use Rattle.shared.specs.Repairing.{asks_repair, is_repair, is_repair_entry}
use Rattle.shared.specs.Traces.{Begins, Calls, HasHistory, HasOpening, asked_by}

-- ---- replies

-- what is noted of a reply stands for what is noted of the machine's
pub noted_so : (reply noted : Result Answer Refusal) (response : Response) → Notes reply noted → IsReply reply response → IsNoted noted response
noted_so (Err r) noted (Err s) n is = subst (λ x. IsReply x (Err s)) (sym n) is
noted_so (Err r) noted (Ok answer) n is = absurd is
noted_so (Ok given) noted (Err s) n is = absurd is
noted_so (Ok Done) noted (Ok answer) n is = subst (λ a. IsNoted noted (Ok a)) (sym is) (subst (λ x. IsReply x (Ok IsDone)) (sym n) refl)
noted_so (Ok (Number k)) noted (Ok answer) n is = subst (λ a. IsNoted noted (Ok a)) (sym is) (subst (λ x. IsReply x (Ok (IsNumber k))) (sym n) refl)
noted_so (Ok (Status status)) noted (Ok answer) n is =
    subst (λ a. IsNoted noted (Ok a)) (sym is) (subst (λ x. IsReply x (Ok (IsStatus status.number (mode_of status.kind) status.links status.size))) (sym n) refl)
noted_so (Ok (Attributes words)) noted (Ok answer) n is = subst (λ a. IsNoted noted (Ok a)) (sym is) (subst (λ x. IsReply x (Ok (AreAttributes words))) (sym n) refl)
noted_so (Ok (Bytes bytes)) (Ok (Bytes copy)) (Ok answer) n is = subst (λ a. IsNoted (Ok (Bytes copy)) (Ok a)) (sym is) (ap AreBytes (sym n))
noted_so (Ok (Names names)) (Ok (Names copy)) (Ok answer) n is = subst (λ a. IsNoted (Ok (Names copy)) (Ok a)) (sym is) (ap Listed (sym n))
noted_so (Ok (Image number frozen)) noted (Ok (IsImage k view)) n is = subst (λ x. IsReply x (Ok (IsNumber k))) (sym n) (ap IsNumber is.0)
noted_so (Ok (Image number frozen)) noted (Ok _) n is = absurd is
noted_so (Ok (Bytes bytes)) noted response n is = absurd n
noted_so (Ok (Names names)) noted response n is = absurd n

-- a reply that is copied is bytes or names of the machine's
pub copied_so : (reply : Result Answer Refusal) (response : Response) → HasBytesOrNames reply → IsReply reply response → IsCopied response
copied_so (Ok (Bytes bytes)) (Ok answer) c is = subst (λ a. IsCopied (Ok a)) (sym is) tt
copied_so (Ok (Names names)) (Ok answer) c is = subst (λ a. IsCopied (Ok a)) (sym is) tt
copied_so (Ok given) (Err s) c is = absurd is
copied_so _ response c is = absurd c

-- what an answer promises stays promised where it is noted
pub noted_ok : (X : Type 0) (reply noted : Result Answer Refusal) → Notes reply noted → IfOk reply (λ answer. X) → IfOk noted (λ answer. X)
noted_ok X (Err r) noted n x = subst (λ o. IfOk o (λ answer. X)) (sym n) tt
noted_ok X (Ok Done) noted n x = subst (λ o. IfOk o (λ answer. X)) (sym n) x
noted_ok X (Ok (Number k)) noted n x = subst (λ o. IfOk o (λ answer. X)) (sym n) x
noted_ok X (Ok (Status status)) noted n x = subst (λ o. IfOk o (λ answer. X)) (sym n) x
noted_ok X (Ok (Attributes words)) noted n x = subst (λ o. IfOk o (λ answer. X)) (sym n) x
noted_ok X (Ok (Image number frozen)) noted n x = subst (λ o. IfOk o (λ answer. X)) (sym n) x
noted_ok X (Ok (Bytes bytes)) (Ok answer) n x = x
noted_ok X (Ok (Names names)) (Ok answer) n x = x
noted_ok X (Ok (Bytes bytes)) (Err r) n x = tt
noted_ok X (Ok (Names names)) (Err r) n x = tt

-- ---- a reply that is handed out in place of another

never_no_memory : (answer : Result Answer Refusal) (r : Refusal) → (NoMemory ≡ r → ⊥) → answer ≡ Err NoMemory → answer ≡ Err r → ⊥
never_no_memory answer r other none is = other (let e : Err NoMemory ≡ Err r = sym none ∙ is in cc)

-- it is no full trace unless the other one was
pub never_full : (reply answer : Result Answer Refusal) → (IsErrOf reply TraceFull → ⊥) → (answer ≡ reply) ⊎ (HasBytesOrNames reply × (answer ≡ Err NoMemory)) → answer ≡ Err TraceFull → ⊥
never_full reply answer never (inl same) full = never (sym same ∙ full)
never_full reply answer never (inr (copied, none)) full = never_no_memory answer TraceFull (λ e. cc) none full

-- nor the device
pub caused_so : {P : Type 0} (reply answer : Result Answer Refusal) → (IsErrOf reply Device → P) → (answer ≡ reply) ⊎ (HasBytesOrNames reply × (answer ≡ Err NoMemory)) → IsErrOf answer Device → P
caused_so reply answer cause (inl same) is = cause (sym same ∙ is)
caused_so reply answer cause (inr (copied, none)) is = absurd (never_no_memory answer Device (λ e. cc) none is)

-- and it has what each refusal has, if want of memory has that
pub error_so : (P : Refusal → Type 0) → P NoMemory → (reply answer : Result Answer Refusal) → IfErr reply P → (answer ≡ reply) ⊎ (HasBytesOrNames reply × (answer ≡ Err NoMemory)) → IfErr answer P
error_so P memory reply answer holds (inl same) = subst (λ r. IfErr r P) (sym same) holds
error_so P memory reply answer holds (inr (copied, none)) = subst (λ r. IfErr r P) (sym none) memory

-- where it is a refusal, all stayed as it was
pub untouched_so : {P : Type 0} (reply answer : Result Answer Refusal) → OnErr reply P → (HasBytesOrNames reply → P) → (answer ≡ reply) ⊎ (HasBytesOrNames reply × (answer ≡ Err NoMemory)) → OnErr answer P
untouched_so {P = P} reply answer untouched reading (inl same) = subst (λ r. OnErr r P) (sym same) untouched
untouched_so {P = P} reply answer untouched reading (inr (copied, none)) = subst (λ r. OnErr r P) (sym none) (reading copied)

module _ {D : Type 0} (held held' : Held) (image image' : List (List ℕ)) (old new : Alive D) where
  -- bytes and names may be refused
  copied_asks : (geo : Geometry) (s t : State) (command : Request) (response : Response) → IsCopied response → (run : Run geo s (command ∷ []) (response ∷ []) t) → pieces_in geo s (command ∷ []) (response ∷ []) t run ≡ []
  copied_asks geo s t (WriteOf h k bytes) (Ok (AreBytes b)) c run = absurd run.1.1
  copied_asks geo s t (WriteOf h k bytes) (Ok (Listed names)) c run = absurd run.1.1
  copied_asks geo s t (WriteOf h k bytes) (Ok _) c run = absurd c
  copied_asks geo s t command (Err r) c run = absurd c
  copied_asks geo s t _ (Ok answer) c run = refl

  goes_refused : (beside beside' : Beside) (command : Request) (response : Response) → IsCopied response → Goes beside held image old (command ∷ []) (response ∷ []) beside' held' image' new
      → Goes beside held image old (command ∷ []) (Err NoMemory ∷ []) beside' held' image' new
  goes_refused beside beside' command response c goes =
      let geo = old.kept.geometry in
      let was = state_of image old beside in
      let now = state_of image' new beside' in
      let run = run_refused geo was now command response c goes.run in
      let same_views : views_in geo was (command ∷ []) (response ∷ []) now goes.run ≡ views_in geo was (command ∷ []) (Err NoMemory ∷ []) now run = ap (λ (t : State). t.view ∷ was.view ∷ []) (sym goes.run.2 ∙ run.2) in
      record {
        geometry = goes.geometry;
        is = goes.is;
        run = run;
        later = goes.later;
        since = goes.since;
        service = λ mount h cut safe begin.
            let s = goes.service mount h cut safe begin in (
              s.0,
              service_refused geo (disk_of image old) (pending_of old.queue) was safe (disk_of image' new) (pending_of new.queue) now s.0 command response goes.later c s.1,
              subst (GoesSoundly held old held' new safe s.0 []) same_views
                  (subst (λ pieces. GoesSoundly held old held' new safe s.0 pieces (views_in geo was (command ∷ []) (response ∷ []) now goes.run)) (copied_asks geo was now command response c goes.run) s.2),
            );
      }

  pub applied_so : (command : Request) (reply answer : Result Answer Refusal) → (answer ≡ reply) ⊎ (HasBytesOrNames reply × (answer ≡ Err NoMemory))
      → Applies held image old command reply held' image' new → Applies held image old command answer held' image' new
  applied_so command reply answer (inl same) applied = subst (λ r. Applies held image old command r held' image' new) (sym same) applied
  applied_so command reply answer (inr (copied, none)) applied = subst (λ r. Applies held image old command r held' image' new) (sym none)
      (λ beside is.
      let a = applied beside is in
      (a.0, Err NoMemory, refl, goes_refused beside a.0 command a.1 (copied_so reply a.1 copied a.2) a.3))

-- what was written does not hang on a copy of bytes or names
module _ {D : Type 0} (honest : D → Type 0) (held_of : D → Held) (image_of : D → List (List ℕ)) (old new : Alive D) where
  copied_writes : (command : Command) (reply : Result Answer Refusal) → HasBytesOrNames reply → Writes honest held_of image_of old command reply new → Writes honest held_of image_of old command (Err NoMemory) new
  copied_writes (Create path attributes) reply c w = w
  copied_writes (Mkdir path attributes) reply c w = w
  copied_writes (Link path other) reply c w = w
  copied_writes (Unlink path) reply c w = w
  copied_writes (Rmdir path) reply c w = w
  copied_writes (Rename path other) reply c w = w
  copied_writes (Open path) reply c w = w
  copied_writes (Close handle) reply c w = w
  copied_writes (Read handle index) reply c w = w
  copied_writes (Write handle index piece) reply c w = w
  copied_writes (Truncate handle size) reply c w = w
  copied_writes (SetAttributes inode attributes) reply c w = w
  copied_writes (ReadAttributes inode) reply c w = w
  copied_writes (ListOf path) reply c w = w
  copied_writes (Stat path) reply c w = w
  copied_writes Freeze reply c w = (w.0, λ e. let bad : Err NoMemory ≡ Err TooManySnapshots = e in cc)
  copied_writes (SnapRead snapshot inode index) reply c w = w
  copied_writes (Release number) reply c w = (w.0, λ e. let bad : Err NoMemory ≡ Err NoSnapshot = e in cc)
  copied_writes (Install checked) reply c w = w
  copied_writes (Repair place) reply c w = w
  copied_writes (Flush address) (Ok (Bytes bytes)) c w = absurd w
  copied_writes (Flush address) (Ok (Names names)) c w = absurd w
  copied_writes (Flush address) reply c w = absurd c
  copied_writes Sync reply c w = w

  pub writes_so : (command : Command) (reply answer : Result Answer Refusal) → (answer ≡ reply) ⊎ (HasBytesOrNames reply × (answer ≡ Err NoMemory))
      → Writes honest held_of image_of old command reply new → Writes honest held_of image_of old command answer new
  writes_so command reply answer (inl same) w = subst (λ r. Writes honest held_of image_of old command r new) (sym same) w
  writes_so command reply answer (inr (copied, none)) w = subst (λ r. Writes honest held_of image_of old command r new) (sym none) (copied_writes command reply copied w)

-- ---- traces

pub if_ok : (P Q : Answer → Type 0) (reply : Result Answer Refusal) → ((answer : Answer) → P answer → Q answer) → IfOk reply P → IfOk reply Q
if_ok P Q (Ok answer) so holds = so answer holds
if_ok P Q (Err r) so holds = tt

-- an empty trace begins where it ends
pub begins : {D : Type 0} (held : Held) (image : List (List ℕ)) (now : Alive D) → HasBeside image now → HasOpening held image [] now
begins held image now has = record {
  opening = now;
  opening_beside = has.beside;
  opening_held = held;
  opening_image = image;
  opens = has.is;
  responses = [];
  noted = tt;
  beside = has.beside;
  goes = goes_nowhere held image now has.beside has.is;
  through = Begins;
}

-- one more call
pub noted_on : {D : Type 0} (held held' : Held) (image image' : List (List ℕ)) (trace : List Entry) (old new : Alive D) (command : Command) (reply noted : Result Answer Refusal)
    → HasOpening held image trace old → Applies held image old (asked old.kept.geometry command) reply held' image' new → Notes reply noted
    → (command ≡ Sync → IfOk noted (λ answer. unsynced_of new.queue ≡ [])) → image' ≡ shown_by held'.now
    → HasOpening held' image' (trace ++ record { command = command; reply = noted } ∷ []) new
noted_on held held' image image' trace old new command reply noted o applied notes synced answers =
    let geo = o.opening.kept.geometry in
    let entry : Entry = record { command = command; reply = noted } in
    let last = applied o.beside o.goes.is in
    let goes = subst (λ g. Goes o.beside held image old (asked g command ∷ []) (last.1 ∷ []) last.0 held' image' new) o.goes.geometry last.3 in
    record {
      opening = o.opening;
      opening_beside = o.opening_beside;
      opening_held = o.opening_held;
      opening_image = o.opening_image;
      opens = o.opens;
      responses = o.responses ++ last.1 ∷ [];
      noted = zip_push (λ (e : Entry) response. IsNoted e.reply response) trace o.responses entry last.1 o.noted (noted_so reply noted last.1 notes last.2);
      beside = last.0;
      goes = subst (λ cs. Goes o.opening_beside o.opening_held o.opening_image o.opening cs (o.responses ++ last.1 ∷ []) last.0 held' image' new) (sym (map-append (λ (e : Entry). asked geo e.command) trace (entry ∷ [])))
          (joined o.opening_beside o.beside last.0 o.opening_held held held' o.opening_image image image' o.opening old new (asked_by geo trace) (asked geo command ∷ []) o.responses (last.1 ∷ []) o.goes goes);
      through = Calls entry last.1 (record { volume = new; beside = last.0; held = held'; image = image' }) o.through goes (λ is. if_ok (λ answer. unsynced_of new.queue ≡ []) (λ answer. (unsynced_of new.queue ≡ []) × (image' ≡ shown_by held'.now)) noted (λ answer none. (none, answers)) (synced is));
    }

-- ---- histories

asks_so : (geo : Geometry) (command : Command) → asks_repair (asked geo command) ≡ is_repair command
asks_so geo (Create path attributes) = refl
asks_so geo (Mkdir path attributes) = refl
asks_so geo (Link path other) = refl
asks_so geo (Unlink path) = refl
asks_so geo (Rmdir path) = refl
asks_so geo (Rename path other) = refl
asks_so geo (Open path) = refl
asks_so geo (Close handle) = refl
asks_so geo (Read handle index) = refl
asks_so geo (Write handle index piece) = refl
asks_so geo (Truncate handle size) = refl
asks_so geo (SetAttributes inode attributes) = refl
asks_so geo (ReadAttributes inode) = refl
asks_so geo (ListOf path) = refl
asks_so geo (Stat path) = refl
asks_so geo Freeze = refl
asks_so geo (SnapRead snapshot inode index) = refl
asks_so geo (Release number) = refl
asks_so geo (Install checked) = refl
asks_so geo (Repair place) = refl
asks_so geo (Flush address) = refl
asks_so geo Sync = refl

repairs_asked : (geo : Geometry) (trace : List Entry) → count_by asks_repair (asked_by geo trace) ≡ count_by is_repair_entry trace
repairs_asked geo [] = refl
repairs_asked geo (e ∷ es) =
    sum_by-cons (λ (c : Request). cond (asks_repair c) 1 0) (asked geo e.command) (asked_by geo es)
    ∙ ap₂ (λ m n. m + n) (ap (λ b. cond b 1 0) (asks_so geo e.command)) (repairs_asked geo es)
    ∙ sym (sum_by-cons (λ (e : Entry). cond (is_repair_entry e) 1 0) e es)

module _ {D : Type 0} (held_of : D → Held) (image_of : D → List (List ℕ)) (opens : Opened → Type 0) where
  -- a volume that is shared has no calls before it
  pub opened : (now : Alive D) → opens (opened_of held_of image_of now) → HasBeside (image_of now.device) now → HasHistory held_of image_of opens no_calls [] now
  unfolding begins
  opened now known has = record {
    opening = begins (held_of now.device) (image_of now.device) now has;
    past = record {
      first = now;
      known = known;
      beside = has.beside;
      stands = has.is;
      commands = [];
      responses = [];
      repairs = refl;
      calls = refl;
      goes = goes_nowhere (held_of now.device) (image_of now.device) now has.beside has.is;
    };
  }

  -- one more call
  pub called : (before : Counts) (trace : List Entry) (old new : Alive D) (command : Command) (reply noted : Result Answer Refusal) → HasHistory held_of image_of opens before trace old
      → Applies (held_of old.device) (image_of old.device) old (asked old.kept.geometry command) reply (held_of new.device) (image_of new.device) new → Notes reply noted
      → (command ≡ Sync → IfOk noted (λ answer. unsynced_of new.queue ≡ [])) → image_of new.device ≡ shown_by (held_of new.device).now
      → HasHistory held_of image_of opens before (trace ++ record { command = command; reply = noted } ∷ []) new
  unfolding noted_on
  called before trace old new command reply noted h applied notes synced answers =
      let p = h.past in
      record {
        opening = noted_on (held_of old.device) (held_of new.device) (image_of old.device) (image_of new.device) trace old new command reply noted h.opening applied notes synced answers;
        past = record { first = p.first; known = p.known; beside = p.beside; stands = p.stands; commands = p.commands; responses = p.responses; repairs = p.repairs; calls = p.calls; goes = p.goes };
      }

  -- the trace is emptied
  pub rotated : (before before' : Counts) (trace : List Entry) (now : Alive D) → HasHistory held_of image_of opens before trace now
      → before'.repairs ≡ before.repairs + count_by is_repair_entry trace → before'.others + count_by is_repair_entry trace ≡ before.others + length trace
      → HasHistory held_of image_of opens before' [] now
  unfolding begins
  rotated before before' trace now h repairs others =
      let o = h.opening in
      let p = h.past in
      let geo = o.opening.kept.geometry in
      let more = asked_by geo trace in
      record {
        opening = begins (held_of now.device) (image_of now.device) now (record { beside = o.beside; is = o.goes.is });
        past = record {
          first = p.first;
          known = p.known;
          beside = p.beside;
          stands = p.stands;
          commands = p.commands ++ more;
          responses = p.responses ++ o.responses;
          repairs = sum_by-append (λ (c : Request). cond (asks_repair c) 1 0) p.commands more ∙ ap₂ (λ m n. m + n) p.repairs (repairs_asked geo trace) ∙ sym repairs;
          calls = let all = length-append p.commands more in let mapped = length-map trace (λ (e : Entry). asked geo e.command) in omega (arith, all, mapped, p.calls, repairs, others);
          goes = joined p.beside o.opening_beside o.beside (held_of p.first.device) o.opening_held (held_of now.device) (image_of p.first.device) o.opening_image (image_of now.device)
              p.first o.opening now p.commands more p.responses o.responses p.goes o.goes;
        };
      }

-- ---- flushes

-- what holds of an answer holds of it where the same is handed out
pub answer_so : (P : Answer → Type 0) (reply answer : Result Answer Refusal) → IfOk reply P → (answer ≡ reply) ⊎ (HasBytesOrNames reply × (answer ≡ Err NoMemory)) → IfOk answer P
answer_so P reply answer holds (inl same) = subst (λ r. IfOk r P) (sym same) holds
answer_so P reply answer holds (inr (copied, none)) = subst (λ r. IfOk r P) (sym none) tt

-- what a flush of the next block counts
pub counts_some : (queue : Queued) (a : ℕ) → IsNext queue a → (answer : Answer) → answer ≡ Number (taken (next_cut queue a)) → (n : ℕ) × (answer ≡ Number n) × ((n ≡ 0) ↔ NothingNext queue)
counts_some queue a (inl least) answer is = (taken (next_cut queue a), is, (λ none. absurd (omega (arith, none, least.has)), λ nothing. nothing a))
counts_some queue a (inr (nothing, zero)) answer is = (taken (next_cut queue a), is, (λ none. nothing, λ again. nothing a))
