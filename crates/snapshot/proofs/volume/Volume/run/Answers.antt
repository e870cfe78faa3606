use Rattle.std.proofs.Common.{◌≡◌, ◌+◌, ◌<◌, ◌≤◌, ℕ, arith, List, [], ◌∷◌, ◌++◌, Result, IfErr, OnErr, get_or, length, map, take, ap, sym, ◌∙◌, subst}
use Rattle.std.specs.Prelude.{vec_capacity, vec_len}
use Rattle.std.proofs.lemmas.List.{take_all, take_more}
use Rattle.layout.specs.declared.refusal.Refusal.{Refusal}
use Rattle.live.specs.Alive.{Alive}
use Rattle.snapshot.specs.declared.answer.Answer.{Answer}
use Rattle.snapshot.specs.Asked.{asked}
use Rattle.snapshot.specs.Goes.{Runs}
use Rattle.snapshot.specs.Refusing.{AreCaused, IsCause, NoneYet, OneMore}
use Rattle.snapshot.specs.declared.command.Command.{Command}
use Rattle.snapshot.proofs.AppliesLemmas.{runs_next, runs_none}
use Rattle.snapshot.proofs.volume.Volume.run.Goals as goal

-- the next one of a list
caused_next : {D : Type 0} (old mid new : Alive D) (items shown : List Command) → shown ≡ items → (i : ℕ) (command : Command) → i < length shown → command ≡ get_or shown i command
    → (replies replies' : List (Result Answer Refusal)) (reply : Result Answer Refusal) → replies' ≡ replies ++ reply ∷ []
    → AreCaused old (take i items) replies mid → IfErr reply (IsCause mid command) → OnErr reply ((new.kept ≡ mid.kept) × (new.holdings ≡ mid.holdings)) → AreCaused old (take (i + 1) items) replies' new
caused_next old mid new items shown same i command within at replies replies' reply pushed caused cause left =
    let more : take (i + 1) items ≡ take i items ++ command ∷ [] =
    take_more items i command (subst (λ xs. i < length xs) same within) ∙ ap (λ x. take i items ++ x ∷ []) (sym (subst (λ xs. command ≡ get_or xs i command) same at)) in
    subst (λ rs. AreCaused old (take (i + 1) items) rs new) (sym pushed) (subst (λ cs. AreCaused old cs (replies ++ reply ∷ []) new) (sym more) (OneMore command reply new caused cause left))

none_caused : {D : Type 0} (old : Alive D) (items : List Command) (replies : List (Result Answer Refusal)) → replies ≡ [] → AreCaused old (take 0 items) replies old
none_caused old items replies none = subst (λ rs. AreCaused old (take 0 items) rs old) (sym none) (by items)
  where
    by : (items : List Command) → AreCaused old (take 0 items) [] old
    by [] = NoneYet
    by (command ∷ commands) = NoneYet

one_more : (n m i : ℕ) → n ≡ m + 1 → m ≡ i → n ≡ i + 1
one_more n m i more is = more ∙ ap (λ k. k + 1) is

pub loop-command-init : goal.loop-command-init
loop-command-init g c =
    let live = c.args.self.now in
    let room : length c.args.commands.items ≤ vec_capacity c.in_ok-replies.replies = omega (arith, c.args.commands.ok.0, c.len.ensures, c.in_ok-replies.ensures.capacity) in
    record {
      items = c.deref-command-items.ensures.value;
      room = room;
      count = c.in_ok-replies.ensures.len;
      honest = λ h. h;
      caused = none_caused live c.args.commands.items c.in_ok-replies.replies.items c.in_ok-replies.ensures.items;
      ran = λ h. runs_none (g.D.Device.held live.device) (g.D.Device.image live.device) live c.args.commands.items c.in_ok-replies.replies.items c.in_ok-replies.ensures.items;
    }

pub loop-command-preserved : goal.loop-command-preserved
loop-command-preserved g c =
    let inv = c.loop-command.invariant in
    let old = c.args.self.now in
    let mid = c.loop-command.self in
    let new = c.apply-reply.new.self in
    let held = g.D.Device.held in
    let image = g.D.Device.image in
    let i = c.loop-command.command-index in
    let shown = c.deref-command-items.result.now in
    let within : i < length shown = omega arith in
    let room : length c.args.commands.items ≤ vec_capacity c.push.new.self = omega (arith, inv.room, c.push.ensures.capacity) in
    record {
      items = c.deref-command-items.ensures.value;
      room = room;
      count = one_more (vec_len c.push.new.self) (vec_len c.loop-command.replies) i c.in_ok-push.ensures.len inv.count;
      honest = λ h. inv.honest (c.apply-reply.ensures.honest h);
      caused = caused_next old mid new c.args.commands.items shown c.deref-command-items.ensures.value i c.command-item.result within c.command-item.is
          c.loop-command.replies.items c.push.new.self.items c.apply-reply.result c.in_ok-push.ensures.items inv.caused c.apply-reply.ensures.error c.apply-reply.ensures.untouched;
      ran = λ h. runs_next (held old.device) (held mid.device) (held new.device) (image old.device) (image mid.device) (image new.device) old mid new c.args.commands.items shown c.deref-command-items.ensures.value
          i c.command-item.result within c.command-item.is c.loop-command.replies.items c.push.new.self.items c.apply-reply.result c.in_ok-push.ensures.items
          (inv.ran (c.apply-reply.ensures.honest h)) (c.apply-reply.ensures.applied h);
    }

pub returns-clause-ran : goal.returns-clause-ran
returns-clause-ran g c = λ h.
    let old = c.args.self.now in
    let l = c.loop-command in
    let held = g.D.Device.held in
    let image = g.D.Device.image in
    let past : length c.args.commands.items ≤ l.command-index = subst (λ (cs : List Command). length cs ≤ l.command-index) c.deref-command-items.ensures.value c.loop-command-test.false in
    subst (λ (cs : List Command). Runs (held old.device) (image old.device) old (map (asked old.kept.geometry) cs) l.replies.items (held l.self.device) (image l.self.device) l.self)
    (take_all l.command-index c.args.commands.items past) (l.invariant.ran h)

pub returns-clause-caused : goal.returns-clause-caused
returns-clause-caused g c =
    let old = c.args.self.now in
    let l = c.loop-command in
    let past : length c.args.commands.items ≤ l.command-index = subst (λ (cs : List Command). length cs ≤ l.command-index) c.deref-command-items.ensures.value c.loop-command-test.false in
    subst (λ (cs : List Command). AreCaused old cs l.replies.items l.self) (take_all l.command-index c.args.commands.items past) l.invariant.caused
