use Rattle.std.proofs.Common.{rules, subst, inl, inr, refl, ◌≡◌, ◌++◌, ◌∷◌, [], sym, ◌∙◌, ap, ◌+◌, cond}
use Rattle.std.specs.List.{count_by}
use Rattle.std.proofs.lemmas.List.Sums.{sum_by_push}
use Rattle.softdep.specs.Queued.{unsynced_of}
use Rattle.snapshot.specs.Asked.{asked}
use Rattle.snapshot.specs.Refusing.{IsCause}
use Rattle.snapshot.proofs.Blaming.{not_full}
use Rattle.shared.specs.declared.entry.Entry.{Entry}
use Rattle.shared.specs.Calls.{IsOfSharing}
use Rattle.shared.specs.Repairing.{is_repair_entry}
use Rattle.shared.specs.Shown.{Shown}
use Rattle.shared.proofs.TraceLemmas.{answer_so, applied_so, called, caused_so, error_so, never_full, noted_ok, untouched_so, writes_so}
use Rattle.shared.proofs.booked.Booked.call.Goals as goal

pub invariant_of-self : goal.invariant_of-self
invariant_of-self g c =
    let b = c.self.inside in
    let e : Entry = record { command = c.args.command; reply = c.with_note-reply.result.1 } in
    let items : c.push.new.self.items ≡ b.trace.items ++ e ∷ [] = search rules in
    let held = g.D.Device.held in
    let image = g.D.Device.image in
    let old = b.volume in
    let new = c.apply-reply.new.self in (
      search rules,
      search rules,
      rw items (c.count.ensures.repairs ∙ ap (λ n. n + cond c.is_repair-repair.result 1 0) c.self.invariant.2
          ∙ ap (λ r. count_by is_repair_entry b.trace.items + cond r 1 0) c.is_repair-repair.ensures
          ∙ sym (sum_by_push (λ e. cond (is_repair_entry e) 1 0) b.trace.items e)),
      search rules,
      search rules,
      search rules,
      λ h. rw items (called held image g.L.Sharing.opens b.before b.trace.items old new c.args.command c.with_note-reply.result.0 c.with_note-reply.result.1
          (c.self.invariant.6 (c.apply-reply.ensures.honest h))
          (applied_so (held old.device) (held new.device) (image old.device) (image new.device) old new (asked old.kept.geometry c.args.command) c.apply-reply.result c.with_note-reply.result.0 c.with_note-reply.ensures.same (c.apply-reply.ensures.applied h))
          c.with_note-reply.ensures.noted (λ is. noted_ok (unsynced_of new.queue ≡ []) c.with_note-reply.result.0 c.with_note-reply.result.1 c.with_note-reply.ensures.noted
          (answer_so (λ answer. unsynced_of new.queue ≡ []) c.apply-reply.result c.with_note-reply.result.0 (c.apply-reply.ensures.synced is) c.with_note-reply.ensures.same))
          (g.met.D.Device.answers new.device)),
      search rules,
    )

pub returns-clause-call : goal.returns-clause-call
returns-clause-call g c =
    let honest = g.D.Device.honest in
    let held = g.D.Device.held in
    let image = g.D.Device.image in
    let old = c.self.inside.volume in
    let new = c.apply-reply.new.self in
    let reply = c.apply-reply.result in
    let answer = c.with_note-reply.result.0 in
    let same = c.with_note-reply.ensures.same in
    let none_full = never_full reply answer (not_full old c.args.command reply c.apply-reply.ensures.error) same in
    rw (← c.self.view_is) (record {
      full = (λ full. absurd (none_full full), λ full. absurd (search rules));
      unchanged = λ full. absurd (none_full full);
      applied = λ _ h. applied_so (held old.device) (held new.device) (image old.device) (image new.device) old new (asked old.kept.geometry c.args.command) reply answer same (c.apply-reply.ensures.applied h);
      writes = λ _. writes_so honest held image old new c.args.command reply answer same c.apply-reply.ensures.writes;
      error = λ _. error_so (IsCause old c.args.command) (inr (inl refl)) reply answer c.apply-reply.ensures.error same;
      entry = search rules;
      untouched = untouched_so reply answer c.apply-reply.ensures.untouched c.apply-reply.ensures.reading same;
      flushed = λ a is h. answer_so _ reply answer (c.apply-reply.ensures.flushed a is h) same;
      synced = λ is. answer_so _ reply answer (c.apply-reply.ensures.synced is) same;
      before = refl;
      limit = refl;
    })

pub returns-clause-unchanged : goal.returns-clause-unchanged
returns-clause-unchanged g c = λ full.
    absurd (never_full c.apply-reply.result c.with_note-reply.result.0 (not_full c.self.inside.volume c.args.command c.apply-reply.result c.apply-reply.ensures.error) c.with_note-reply.ensures.same full)

pub returns-clause-cause : goal.returns-clause-cause
returns-clause-cause g c =
    rw (← c.self.view_is) (caused_so c.apply-reply.result c.with_note-reply.result.0 c.apply-reply.ensures.cause c.with_note-reply.ensures.same)

pub returns-clause-known : goal.returns-clause-known
returns-clause-known g c =
    subst (λ (b : Shown _). IsOfSharing g.D.Device.honest g.D.Device.held g.D.Device.image g.L.Sharing.limit g.L.Sharing.opens b) c.self.view_is
    (record { limit_is = c.self.invariant.7; short = search rules; history = c.self.invariant.6 })

pub returns-then-len-self-clause-known : goal.returns-then-len-self-clause-known
returns-then-len-self-clause-known g c =
    subst (λ (b : Shown _). IsOfSharing g.D.Device.honest g.D.Device.held g.D.Device.image g.L.Sharing.limit g.L.Sharing.opens b) c.self.view_is
    (record { limit_is = c.self.invariant.7; short = search rules; history = c.self.invariant.6 })
