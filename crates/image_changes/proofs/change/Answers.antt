use Rattle.std.proofs.Common.{Err, Ok, ap, inl, inr, length, take}
use Rattle.std.proofs.lemmas.Result.{err_from_is_err_and}
use Rattle.layout.specs.declared.refusal.Refusal.TheVariants.{Device}
use Rattle.snapshot.specs.declared.command.Command.TheVariants.{Sync}
use Rattle.snapshot.proofs.AppliesLemmas.{runs_on}
use Rattle.snapshot.proofs.Blaming.{same_refusal}
use Rattle.image_changes.proofs.BlameLemmas.{memory_is_no_device}
use Rattle.image_changes.proofs.change.Goals as goal

pub returns-clause-changed : goal.returns-clause-changed
returns-clause-changed g c = λ honest.
    let held = g.D.Device.held in
    let image = g.D.Device.image in
    let old = c.args.volume.now in
    let mid = c.carry_out.new.volume in
    let new = c.write_all.new.volume in
    let replies = c.in_ok-replies.replies.items in
    let written = c.in_ok-write_all.ensures.written honest in
    record {
      answer = written.answer;
      runs = runs_on (held old.device) (held mid.device) (held new.device) (image old.device) (image mid.device) (image new.device) old mid new
          (take (length replies) c.args.commands.now) replies Sync (Ok written.answer) (c.in_ok-replies.ensures.ran (c.write_all.ensures.honest honest)) written.applies;
    }

pub returns-clause-blames : goal.returns-clause-blames
returns-clause-blames g c = record {
  carried = c.carry_out.new.volume;
  blames = c.in_ok-replies.ensures.blames;
  honest_then = c.write_all.ensures.honest;
  writes = c.in_ok-write_all.ensures.written;
}

pub returns-in_err-replies-clause-went : goal.returns-in_err-replies-clause-went
returns-in_err-replies-clause-went g c =
    let p = err_from_is_err_and c.from_residual.result c.from_residual.ensures.1 in
    rw (p.1, p.2) (λ honest. inl c.in_err-replies.ensures.untouched)

pub returns-in_err-replies-clause-cause : goal.returns-in_err-replies-clause-cause
returns-in_err-replies-clause-cause g c =
    let p = err_from_is_err_and c.from_residual.result c.from_residual.ensures.1 in
    rw (p.1, p.2) (λ e. absurd (memory_is_no_device _ c.in_err-replies.ensures.error (same_refusal _ Device e)))

pub returns-in_err-write_all-clause-went : goal.returns-in_err-write_all-clause-went
returns-in_err-write_all-clause-went g c =
    let p = err_from_is_err_and c.from_residual-in_err-write_all.result c.from_residual-in_err-write_all.ensures.1 in
    rw (p.1, p.2) (λ honest.
    let held = g.D.Device.held in
    let image = g.D.Device.image in
    let old = c.args.volume.now in
    let mid = c.carry_out.new.volume in
    let new = c.write_all.new.volume in
    let replies = c.in_ok-replies.replies.items in
    inr (record {
      replies = replies;
      stopped = c.in_ok-replies.ensures.stopped;
      ran = runs_on (held old.device) (held mid.device) (held new.device) (image old.device) (image mid.device) (image new.device) old mid new
          (take (length replies) c.args.commands.now) replies Sync _ (c.in_ok-replies.ensures.ran (c.write_all.ensures.honest honest)) (c.in_err-write_all.ensures.went honest);
    }))

pub returns-in_err-write_all-clause-cause : goal.returns-in_err-write_all-clause-cause
returns-in_err-write_all-clause-cause g c =
    let p = err_from_is_err_and c.from_residual-in_err-write_all.result c.from_residual-in_err-write_all.ensures.1 in
    rw (p.1, p.2) (λ e. record {
      replies = c.in_ok-replies.replies.items;
      stopped = c.in_ok-replies.ensures.stopped;
      failed = record {
        before = c.carry_out.new.volume;
        honest_before = c.carry_out.ensures.honest;
        ran = c.in_ok-replies.ensures.ran;
        failed = c.in_err-write_all.ensures.cause (ap Err (same_refusal _ Device e));
      };
    })
