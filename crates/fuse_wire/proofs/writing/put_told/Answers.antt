use Rattle.std.proofs.Common.{◌∙◌, ◌++◌, ◌∷◌, [], ap}
use Rattle.std.proofs.lemmas.Result.{on_ok_weaker}
use Rattle.fuse_wire.specs.Fields.{numbers}
use Rattle.fuse_wire.specs.Replies.{attributes_bytes, told_bytes}
use Rattle.fuse_wire.proofs.Messages.{three_behind}
use Rattle.fuse_wire.proofs.writing.put_told.Goals as goal

pub returns : goal.returns
unfolding told_bytes
returns c =
    on_ok_weaker c.put_attributes.result
    (λ e.
    e
    ∙ ap (λ m. m ++ attributes_bytes c.args.attributes.now) (c.in_ok-put_words.ensures ∙ ap (λ m. m ++ numbers 4 (c.args.kept.now.nanoseconds ∷ 0 ∷ [])) c.in_ok-put_longs.ensures)
    ∙ three_behind c.args.out.now.items (numbers 8 (c.args.kept.now.seconds ∷ [])) (numbers 4 (c.args.kept.now.nanoseconds ∷ 0 ∷ [])) (attributes_bytes c.args.attributes.now))
    c.put_attributes.ensures
