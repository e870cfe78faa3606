-- A sync of a trace stands between the calls before it and those behind it.
use Rattle.std.proofs.Common.{◌≡◌, List, [], ◌∷◌, ◌++◌, append-nil, inl, inr, IfOk, IsOk, Err, Ok, Result, refl, sym, ap, ◌∙◌, subst}
use Rattle.std.proofs.lemmas.List.{append_assoc, map-append}
use Rattle.layout.specs.declared.refusal.Refusal.{Refusal}
use Rattle.machine.specs.Command.{Command as Request, Reply as Response}
use Rattle.snapshot.specs.declared.answer.Answer.{Answer}
use Rattle.snapshot.specs.Asked.{asked}
use Rattle.snapshot.specs.Stages.{LeadsTo, Stage, StandsAt, geometry_at}
use Rattle.snapshot.specs.Synced.{IsSynced}
use Rattle.snapshot.proofs.AppliesLemmas.{goes_nowhere}
use Rattle.snapshot.proofs.Joining.{joined}
use Rattle.shared.specs.declared.entry.Entry.{Entry}
use Rattle.shared.specs.Traces.{Begins, Calls, IsAfterSync, Through, asked_by}

-- A stage at which all was durable, with the calls before it and those behind it.
pub record HasSync {D : Type 0} (s : Stage D) (commands : List Request) (responses : List Response) (t now : Stage D) : Type 0 where
  pub before : List Request
  pub after : List Request
  pub all : before ++ after ≡ commands
  pub first : List Response
  pub later : List Response
  pub replies : first ++ later ≡ responses
  pub led : LeadsTo s before first t
  pub leads : LeadsTo t after later now
  pub synced : IsSynced t

module _ {D : Type 0} where
  nowhere : (s : Stage D) → StandsAt s → LeadsTo s [] [] s
  nowhere s stands = goes_nowhere s.held s.image s.volume s.beside stands

  further : (s t u : Stage D) (commands more : List Request) (replies others : List Response) → LeadsTo s commands replies t → LeadsTo t more others u → LeadsTo s (commands ++ more) (replies ++ others) u
  further s t u commands more replies others one two =
      joined s.beside t.beside u.beside s.held t.held u.held s.image t.image u.image s.volume t.volume u.volume commands more replies others one two

  module _ (s : Stage D) (stands : StandsAt s) where
    asked_on : (trace : List Entry) (entry : Entry) → asked_by (geometry_at s) trace ++ asked_by (geometry_at s) (entry ∷ []) ≡ asked_by (geometry_at s) (trace ++ entry ∷ [])
    asked_on trace entry = sym (map-append (λ (e : Entry). asked (geometry_at s) e.command) trace (entry ∷ []))

    goes : (trace : List Entry) (responses : List Response) (now : Stage D) → Through s trace responses now → LeadsTo s (asked_by (geometry_at s) trace) responses now
    goes trace responses now Begins = nowhere s stands
    goes all every u (Calls {trace = trace} {responses = responses} {t = t} entry response v through leads synced) =
        subst (λ cs. LeadsTo s cs (responses ++ response ∷ []) v) (asked_on trace entry)
        (further s t v (asked_by (geometry_at s) trace) (asked_by (geometry_at s) (entry ∷ [])) responses (response ∷ []) (goes trace responses t through) leads)

    is_synced : (reply : Result Answer Refusal) (u : Stage D) → IsOk reply → IfOk reply (λ answer. IsSynced u) → IsSynced u
    is_synced (Ok answer) u ok synced = synced
    is_synced (Err r) u ok synced = cc

    pub sync_of : (trace : List Entry) (responses : List Response) (now t : Stage D) (through : Through s trace responses now) → IsAfterSync t through → HasSync s (asked_by (geometry_at s) trace) responses t now
    sync_of trace responses now t Begins none = absurd none
    sync_of all every u t (Calls {trace = trace} {responses = responses} {t = mid} entry response v through leads synced) (inl earlier) =
        let was = sync_of trace responses mid t through earlier in
        let last = asked_by (geometry_at s) (entry ∷ []) in
        record {
          before = was.before;
          after = was.after ++ last;
          all = sym (append_assoc was.before was.after last) ∙ ap (λ cs. cs ++ last) was.all ∙ asked_on trace entry;
          first = was.first;
          later = was.later ++ response ∷ [];
          replies = sym (append_assoc was.first was.later (response ∷ [])) ∙ ap (λ rs. rs ++ response ∷ []) was.replies;
          led = was.led;
          leads = further t mid v was.after last was.later (response ∷ []) was.leads leads;
          synced = was.synced;
        }
    sync_of all every u t (Calls {trace = trace} {responses = responses} {t = mid} entry response v through leads synced) (inr (same, is, ok)) =
        subst (λ x. HasSync s (asked_by (geometry_at s) (trace ++ entry ∷ [])) (responses ++ response ∷ []) x v) same (record {
          before = asked_by (geometry_at s) (trace ++ entry ∷ []);
          after = [];
          all = append-nil (asked_by (geometry_at s) (trace ++ entry ∷ []));
          first = responses ++ response ∷ [];
          later = [];
          replies = append-nil (responses ++ response ∷ []);
          led = goes (trace ++ entry ∷ []) (responses ++ response ∷ []) v (Calls entry response v through leads synced);
          leads = nowhere v leads.is;
          synced = is_synced entry.reply v ok (synced is);
        })
