use Rattle.std.proofs.Common.{◌≡◌, ◌++◌, ap, refl, ◌∙◌}
use Rattle.std.proofs.lemmas.Result.{err_from_is_err_and}
use Rattle.fuse_writer.specs.Requests.{part_of}
use Rattle.fuse_writer.proofs.BytesLemmas.{read_cut, read_on, read_refused}
use Rattle.fuse_writer.proofs.bytes.read_part.Goals as goal

pub returns-in_err-block-clause-refused : goal.returns-in_err-block-clause-refused
returns-in_err-block-clause-refused g c =
    let p = err_from_is_err_and c.from_residual.result c.from_residual.ensures.1 in
    rw (p.1, p.2) (λ n next refused. read_refused _ _ _ _ _ _ _ _ _ _ _ _ c.ask_bytes.ensures.asked (λ geo. refl) c.ask_bytes.ensures.session n next refused _ c.in_err-block.was)

pub returns-in-Ok-clause-read : goal.returns-in-Ok-clause-read
returns-in-Ok-clause-read g c = λ n next refused.
    let part = rw (c.saturating_sub.ensures, c.place_in-from.ensures.place, c.place_in-to.ensures.place, c.as_slice.ensures.value) at c.cut-part.ensures.cut in
    let more : c.extend_from_slice.new.self.items ≡ c.args.bytes.now.items ++ part_of c.args.index c.args.span.from c.args.span.to c.in_ok-block.block.items =
    c.in-Ok.ensures.items ∙ ap (λ xs. c.args.bytes.now.items ++ xs) part in
    read_on _ _ _ _ _ _ _ _ _ _ _ _ c.ask_bytes.ensures.asked (λ geo. refl) c.ask_bytes.ensures.session n next refused _ c.in_ok-block.was _ more

pub returns-clause-refused : goal.returns-clause-refused
returns-clause-refused g c = λ n next refused. read_cut _ _ _ _ _ _ _ _ _ _ _ _ c.ask_bytes.ensures.asked (λ geo. refl) c.ask_bytes.ensures.session n next refused _ c.in_ok-block.was
