use Rattle.std.proofs.Common.{◌≡◌, [], ◌∷◌, ◌++◌, inl, refl, sym, ap, ◌∙◌}
use Rattle.std.proofs.lemmas.List.{append-nil}
use Rattle.fuse_channels.specs.Messages.{came}
use Rattle.fuse_loop.specs.Sessions.{Untouched, WithChannel, WithDestroy}
use Rattle.fuse_loop.proofs.SessionLemmas.{if_err_both, if_ok, last_is_destroy, on_ok_both, one_came, one_left}
use Rattle.fuse_loop.proofs.serve_one.Goals as goal

pub returns-in-Ok-Message-clause-served : goal.returns-in-Ok-Message-clause-served
returns-in-Ok-Message-clause-served g c = on_ok_both c.answer.result c.answer.ensures.answered c.answer.ensures.first (λ h later. one_came _ _ _ _ c.receive.new.message _ _ _ _ _ later
    (c.answer.ensures.taken ∙ c.in-Ok-Message.ensures.taken ∙ ap (λ r. g.C.Channel.taken c.args.channel.now ++ came r c.receive.new.message) c.in-Ok-Message.field-0-is)
    c.receive.ensures.given h)

pub returns-in-Ok-Message-clause-left : goal.returns-in-Ok-Message-clause-left
returns-in-Ok-Message-clause-left g c = if_err_both c.answer.result c.answer.ensures.left c.answer.ensures.none (λ why h same. one_left _ why _ _ c.receive.new.message _ _ _ _
    (c.answer.ensures.taken ∙ c.in-Ok-Message.ensures.taken ∙ ap (λ r. g.C.Channel.taken c.args.channel.now ++ came r c.receive.new.message) c.in-Ok-Message.field-0-is)
    (same ∙ c.receive.ensures.given) h)

pub returns-in-Err-clause-left : goal.returns-in-Err-clause-left
returns-in-Err-clause-left g c = record {
  rest = [];
  left = inl refl;
  ends = Untouched [];
  takes = c.in-Err.ensures.failed ∙ sym (append-nil _);
  gives = c.receive.ensures.given;
}

pub returns-in-Ok-Message-clause-ended : goal.returns-in-Ok-Message-clause-ended
returns-in-Ok-Message-clause-ended g c = if_ok c.answer.result c.answer.ensures.ended (λ more h stops. WithDestroy (last_is_destroy c.receive.new.message _ _
    (c.answer.ensures.taken ∙ c.in-Ok-Message.ensures.taken ∙ ap (λ r. g.C.Channel.taken c.args.channel.now ++ came r c.receive.new.message) c.in-Ok-Message.field-0-is) (h stops)))

pub returns-in-Ok-End-clause-ended : goal.returns-in-Ok-End-clause-ended
returns-in-Ok-End-clause-ended g c = λ _. WithChannel (c.in-Ok-End.ensures.ended c.in-Ok-End.field-0-is)
