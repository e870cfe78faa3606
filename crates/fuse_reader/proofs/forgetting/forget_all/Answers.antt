use Rattle.std.proofs.Common.{sym, ap, ◌∙◌, length}
use Rattle.fuse_wire.specs.Forgets.{forgets_of}
use Rattle.fuse_nodes.specs.Table.{after}
use Rattle.fuse_reader.specs.Turns.{forgot_by}
use Rattle.fuse_reader.proofs.TurnLemmas.{forgets_more, length_forgot}
use Rattle.fuse_reader.proofs.forgetting.forget_all.Goals as goal

pub loop-place-preserved : goal.loop-place-preserved
loop-place-preserved c =
    let id = c.get-forget.result.node.0 in
    let lookups = c.get-forget.result.lookups in
    record {
      nodes = c.forget.ensures ∙ ap (after (forgot_by c.get-forget.result)) c.loop-place.invariant.nodes
          ∙ sym (forgets_more (forgets_of c.args.forgets) c.args.nodes.now c.loop-place.place c.get-forget.result c.get-forget.ensures);
      length = ap length c.forget.ensures ∙ length_forgot id lookups c.loop-place.nodes ∙ c.loop-place.invariant.length;
    }
