use Rattle.std.proofs.Common.{◌≡◌, [], ◌∷◌, true, false, inl, inr, refl, sym, ap, subst, ◌∙◌}
use Rattle.std.proofs.lemmas.List.{append-nil}
use Rattle.fuse_wire.specs.Requests.{decode}
use Rattle.fuse_loop.specs.Sessions.{IsDestroy, NotGiven, NotTurned, Untouched, is_in_place}
use Rattle.fuse_loop.proofs.SessionLemmas.{answered_by, answers_one, if_err, if_ok, is_destroy, not_both, not_given, on_ok, same_message}
use Rattle.fuse_loop.proofs.answer.Goals as goal

pub returns-then-not-is_in_place-clause-left : goal.returns-then-not-is_in_place-clause-left
returns-then-not-is_in_place-clause-left g c = record {
  left = (c.args.message.now, refl, inr (subst (λ bytes. is_in_place c.args.is_first.now bytes ≡ false) c.as_slice-bytes.ensures (sym c.is_in_place.ensures ∙ c.if-not-is_in_place.true)));
  ends = Untouched (c.args.message.now ∷ []);
}

pub returns-in_default-clause-left : goal.returns-in_default-clause-left
returns-in_default-clause-left g c = record {
  left = inr (c.args.message.now, refl);
  ends = NotTurned c.args.message.now c.turn.new.self (subst (λ bytes. g.T.Answering.fails c.args.desk.now bytes c.turn.new.self) c.as_slice-bytes.ensures c.in_default.ensures.failed);
}

pub returns-in-Unread-clause-left : goal.returns-in-Unread-clause-left
returns-in-Unread-clause-left g c = record {
  left = (c.args.message.now, refl, inl (subst (λ bytes. decode bytes ≡ _) c.as_slice-bytes.ensures (c.in-Ok.ensures.unread.0 c.in-Unread.is)));
  ends = NotGiven c.args.message.now c.turn.new.reply.items c.in-Ok.turned c.turn.new.self
      (subst (λ bytes. g.T.Answering.turns c.args.desk.now bytes c.in-Ok.turned c.turn.new.reply.items c.turn.new.self) c.as_slice-bytes.ensures c.in-Ok.ensures.turn);
}

pub returns-in-Silent-clause-answered : goal.returns-in-Silent-clause-answered
returns-in-Silent-clause-answered g c = answers_one _ _ _ _ _ _ []
    (subst (λ bytes. is_in_place c.args.is_first.now bytes ≡ true) c.as_slice-bytes.ensures (sym c.is_in_place.ensures ∙ c.if-not-is_in_place.false))
    (same_message c.as_slice-bytes.ensures (answered_by _ _ _ _ _ _ c.in-Ok.ensures.unread c.in-Ok.ensures.turned c.in-Ok.ensures.turn c.in-Silent.is (λ e. cc)))
    (sym (append-nil _))

pub returns-in-Replied-clause-answered : goal.returns-in-Replied-clause-answered
returns-in-Replied-clause-answered g c = on_ok c.give.result c.give.ensures.given (λ given. answers_one _ _ _ _ _ _ (c.turn.new.reply.items ∷ [])
    (subst (λ bytes. is_in_place c.args.is_first.now bytes ≡ true) c.as_slice-bytes.ensures (sym c.is_in_place.ensures ∙ c.if-not-is_in_place.false))
    (same_message c.as_slice-bytes.ensures (answered_by _ _ _ _ _ _ c.in-Ok.ensures.unread c.in-Ok.ensures.turned c.in-Ok.ensures.turn c.in-Replied.is (λ e. cc)))
    given)

pub returns-in-Replied-clause-left : goal.returns-in-Replied-clause-left
returns-in-Replied-clause-left g c = if_err c.give.result c.give.ensures.left (λ why h. not_given _ why _ _ _ c.turn.new.reply.items c.in-Ok.turned h.0
    (subst (λ bytes. g.T.Answering.turns c.args.desk.now bytes c.in-Ok.turned c.turn.new.reply.items c.turn.new.self) c.as_slice-bytes.ensures c.in-Ok.ensures.turn))

pub returns-in-Ended-clause-answered : goal.returns-in-Ended-clause-answered
returns-in-Ended-clause-answered g c = on_ok c.give-in-Ended.result c.give-in-Ended.ensures.given (λ given. answers_one _ _ _ _ _ _ (c.turn.new.reply.items ∷ [])
    (subst (λ bytes. is_in_place c.args.is_first.now bytes ≡ true) c.as_slice-bytes.ensures (sym c.is_in_place.ensures ∙ c.if-not-is_in_place.false))
    (same_message c.as_slice-bytes.ensures (answered_by _ _ _ _ _ _ c.in-Ok.ensures.unread c.in-Ok.ensures.turned c.in-Ok.ensures.turn c.in-Ended.is (λ e. cc)))
    given)

pub returns-in-Ended-clause-left : goal.returns-in-Ended-clause-left
returns-in-Ended-clause-left g c = if_err c.give-in-Ended.result c.give-in-Ended.ensures.left (λ why h. not_given _ why _ _ _ c.turn.new.reply.items c.in-Ok.turned h.0
    (subst (λ bytes. g.T.Answering.turns c.args.desk.now bytes c.in-Ok.turned c.turn.new.reply.items c.turn.new.self) c.as_slice-bytes.ensures c.in-Ok.ensures.turn))

pub returns-in-Replied-clause-ended : goal.returns-in-Replied-clause-ended
returns-in-Replied-clause-ended g c = if_ok c.give.result c.give.ensures.more (λ more h stops. absurd (not_both more h stops))

pub returns-in-Ended-clause-ended : goal.returns-in-Ended-clause-ended
returns-in-Ended-clause-ended g c = if_ok c.give-in-Ended.result c.give-in-Ended.ensures.more (λ more h stops.
    subst (λ bytes. IsDestroy bytes) c.as_slice-bytes.ensures (is_destroy c.as_slice-bytes.result.now c.in-Ok.ensures.unread c.in-Ok.ensures.turned c.in-Ended.is))
