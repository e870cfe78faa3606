use Rattle.std.proofs.Common.{◌≡◌, ℕ, suc, ◌+◌, ◌<◌, ◌∷◌, [], ◌++◌, ◌∙◌, Some, length, ap, ap₂, arith, refl, slice_get, subst, sym, take}
use Rattle.std.proofs.lemmas.Option.{slice_get_read}
use Rattle.std.specs.Global.{Vec}
use Rattle.fuse_channels.specs.Messages.{Messages, texts}
use Rattle.fuse_channels.proofs.Taken.{taken_more}
use Rattle.fuse_channels.proofs.memory.MemoryChannelChannel.receive.Goals as goal

pub returns-clause-taken : goal.returns-clause-taken
returns-clause-taken c =
    let s = c.self.inside in
    let v = c.in-Some.request.now in
    let got : slice_get c.deref.result.now s.next ≡ Some v = slice_get_read c.deref.result.now (length c.deref.result.now) s.next v refl c.in-Some.ensures.lookup.3.0 (c.in-Some.ensures.lookup.3.1 v) in
    let more : take (suc s.next) (texts s.requests.items) ≡ take s.next (texts s.requests.items) ++ v.items ∷ [] =
    taken_more s.requests.items s.next v (ap (λ messages. slice_get messages s.next) (sym c.deref.ensures.value) ∙ got) in
    let message : c.copy_from.new.self ≡ v.items = c.if-not-copy_from.ensures refl ∙ c.deref-2.ensures.value in
    let next : s.next + 1 ≡ suc s.next = omega arith in
    ap (λ n. take n (texts s.requests.items)) next
    ∙ more
    ∙ ap₂ (λ front m. front ++ m ∷ []) (ap (λ (messages : Messages). messages.taken) c.self.view_is) (sym message)
