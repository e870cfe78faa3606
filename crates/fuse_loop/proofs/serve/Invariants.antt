use Rattle.std.proofs.Common.{◌≡◌, []}
use Rattle.fuse_loop.specs.Sessions.{Serves, is_begin}
use Rattle.fuse_loop.proofs.serve.Given as goal

-- all messages so far were answered, and the flag tells whether there was one
abbrev pub invariant-loop-turn : goal.invariant-loop-turn
invariant-loop-turn g l = (served : Serves g.T.Answering.turns l.fn.desk (g.C.Channel.taken l.fn.channel) (g.C.Channel.given l.fn.channel) (g.C.Channel.taken l.channel) (g.C.Channel.given l.channel) [] l.desk)
    × (l.is_first ≡ is_begin served.messages)
