use Rattle.std.proofs.Common.{◌≡◌, ◌+◌, ◌<◌, ℕ, arith, ◌∷◌, ◌++◌, [], Err, Ok, length, map, take, refl, sym, ap, ◌∙◌, subst}
use Rattle.snapshot.specs.Asked.{asked}
use Rattle.snapshot.specs.Goes.{Runs}
use Rattle.snapshot.proofs.AppliesLemmas.{runs_next, runs_none}
use Rattle.image_changes.specs.Asking.{AllAnswer}
use Rattle.image_changes.proofs.BlameLemmas.{blames_last, blames_none}
use Rattle.image_changes.proofs.StopLemmas.{each_done, last_refused, longer, one_more}
use Rattle.image_changes.proofs.carry_out.Goals as goal

one_longer : (n m i : ℕ) → n ≡ m + 1 → m ≡ i → n ≡ i + 1
one_longer n m i more is = more ∙ ap (λ k. k + 1) is

pub loop-command-init : goal.loop-command-init
loop-command-init g c =
    let live = c.args.volume.now in
    record {
      room = omega (arith, c.in_ok-replies.ensures.capacity);
      count = c.in_ok-replies.ensures.len;
      long = ap length c.in_ok-replies.ensures.items;
      answered = subst AllAnswer (sym c.in_ok-replies.ensures.items) tt;
      honest = λ h. h;
      ran = λ h. runs_none (g.D.Device.held live.device) (g.D.Device.image live.device) live c.args.commands.now c.in_ok-replies.replies.items c.in_ok-replies.ensures.items;
    }

pub loop-command-preserved : goal.loop-command-preserved
loop-command-preserved g c =
    let inv = c.loop-command.invariant in
    let old = c.args.volume.now in
    let mid = c.loop-command.volume in
    let new = c.apply.new.self in
    let held = g.D.Device.held in
    let image = g.D.Device.image in
    let i = c.loop-command.command-index in
    let commands = c.args.commands.now in
    let replies = c.loop-command.replies.items in
    let within : i < length commands = omega (arith, c.loop-command-test.true) in
    let pushed = c.in_ok-push-in-Ok.ensures.items in
    record {
      room = omega (arith, inv.room, c.push.ensures.capacity);
      count = one_longer _ _ i c.in_ok-push-in-Ok.ensures.len inv.count;
      long = longer replies c.push.new.self.items (Ok c.in-Ok.answer) pushed i inv.long;
      answered = one_more replies c.push.new.self.items (Ok c.in-Ok.answer) c.in-Ok.answer refl pushed inv.answered;
      honest = λ h. inv.honest (c.apply.ensures.honest h);
      ran = λ h. runs_next (held old.device) (held mid.device) (held new.device) (image old.device) (image mid.device) (image new.device) old mid new commands commands refl
          i c.command-item.result within c.command-item.is replies c.push.new.self.items c.apply.result (pushed ∙ ap (λ r. replies ++ r ∷ []) (sym c.in-Ok.is))
          (inv.ran (c.apply.ensures.honest h)) (c.apply.ensures.applied h);
    }

pub returns-in-Err-clause-ran : goal.returns-in-Err-clause-ran
returns-in-Err-clause-ran g c = λ h.
    let inv = c.loop-command.invariant in
    let old = c.args.volume.now in
    let mid = c.loop-command.volume in
    let new = c.apply.new.self in
    let held = g.D.Device.held in
    let image = g.D.Device.image in
    let i = c.loop-command.command-index in
    let commands = c.args.commands.now in
    let replies = c.loop-command.replies.items in
    let within : i < length commands = omega (arith, c.loop-command-test.true) in
    let pushed = c.in_ok-push-in-Err.ensures.items in
    let more = c.push-in-Err.new.self.items in
    subst (λ n. Runs (held old.device) (image old.device) old (map (asked old.kept.geometry) (take n commands)) more (held new.device) (image new.device) new)
    (sym (longer replies more (Err c.in-Err.refusal) pushed i inv.long))
    (runs_next (held old.device) (held mid.device) (held new.device) (image old.device) (image mid.device) (image new.device) old mid new commands commands refl
    i c.command-item.result within c.command-item.is replies more c.apply.result (pushed ∙ ap (λ r. replies ++ r ∷ []) (sym c.in-Err.is))
    (inv.ran (c.apply.ensures.honest h)) (c.apply.ensures.applied h))

pub returns-in-Err-clause-stopped : goal.returns-in-Err-clause-stopped
returns-in-Err-clause-stopped g c =
    let inv = c.loop-command.invariant in
    last_refused (length c.args.commands.now) c.loop-command.replies.items c.push-in-Err.new.self.items (Err c.in-Err.refusal) c.in-Err.refusal refl c.in_ok-push-in-Err.ensures.items inv.answered
    (omega (arith, inv.long, c.loop-command-test.true))

pub returns-clause-stopped : goal.returns-clause-stopped
returns-clause-stopped g c =
    let inv = c.loop-command.invariant in
    each_done (length c.args.commands.now) c.loop-command.replies.items inv.answered (omega (arith, inv.long, c.loop-command-test.false, c.loop-command.auto.command-index-end))

pub returns-in-Err-clause-blames : goal.returns-in-Err-clause-blames
returns-in-Err-clause-blames g c =
    let inv = c.loop-command.invariant in
    let D = g.D.Device in
    blames_last D.honest D.held D.image D.failures c.args.volume.now c.loop-command.volume c.apply.new.self c.args.commands.now c.loop-command.replies.items c.push-in-Err.new.self.items c.in-Err.refusal c.loop-command.command-index
    c.in_ok-push-in-Err.ensures.items inv.long inv.honest inv.ran (λ device. c.apply.ensures.cause (c.in-Err.is ∙ ap Err device))

pub returns-clause-blames : goal.returns-clause-blames
returns-clause-blames g c =
    let live = c.loop-command.volume in
    let D = g.D.Device in
    blames_none D.honest D.held D.image D.failures c.args.volume.now live live c.args.commands.now c.loop-command.replies.items c.loop-command.invariant.answered

pub returns-clause-ran : goal.returns-clause-ran
returns-clause-ran g c = λ h.
    let inv = c.loop-command.invariant in
    let old = c.args.volume.now in
    let new = c.loop-command.volume in
    let held = g.D.Device.held in
    let image = g.D.Device.image in
    subst (λ n. Runs (held old.device) (image old.device) old (map (asked old.kept.geometry) (take n c.args.commands.now)) c.loop-command.replies.items (held new.device) (image new.device) new) (sym inv.long) (inv.ran h)
