use Rattle.std.proofs.Common.{refl, ◌∙◌}
use Rattle.fuse_wire.specs.declared.bodies.Body.TheVariants as bodies
use Rattle.fuse_writer.proofs.DoingLemmas.{on_err, on_ok}
use Rattle.fuse_writer.proofs.LinkLemmas.{put_closed, put_refused}
use Rattle.fuse_writer.proofs.linking.put_target.Goals as goal

pub returns-in-Err-clause-does : goal.returns-in-Err-clause-does
returns-in-Err-clause-does g c =
    let s = c.args.mounted.now.session in
    let mid = c.put_blocks-written.new.mounted in
    let new = c.ask_done-closed.new.self in
    put_refused s c.args.directory c.args.name.now c.args.number c.args.target.now c.args.handle _ mid.asking new.asking mid.session new.session c.put_blocks-written.result _ c.ask_done-closed.result
    c.put_blocks-written.ensures.does c.ask_done-closed.ensures.asked (λ geo. refl) c.ask_done-closed.ensures.session (c.ask_done-closed.ensures.session ∙ c.put_blocks-written.ensures.session) _ c.in-Err.is _ _ _ (rw (c.ask_done-closed.ensures.session ∙ c.put_blocks-written.ensures.session) at c.take_away-in-Err.ensures.does)

pub returns-in-Ok-closed-clause-does : goal.returns-in-Ok-closed-clause-does
returns-in-Ok-closed-clause-does g c =
    let s = c.args.mounted.now.session in
    let mid = c.put_blocks-written.new.mounted in
    let new = c.ask_done-closed.new.self in
    on_ok _ _ _ _ _ _ _ _ _ c.in-Ok-closed.is (put_closed s c.args.directory c.args.name.now c.args.number c.args.target.now c.args.handle _ mid.asking new.asking mid.session new.session c.put_blocks-written.result _ c.ask_done-closed.result
    c.put_blocks-written.ensures.does c.ask_done-closed.ensures.asked (λ geo. refl) c.ask_done-closed.ensures.session (c.ask_done-closed.ensures.session ∙ c.put_blocks-written.ensures.session) _ c.in-Ok.is) _ _ _ (rw (c.ask_done-closed.ensures.session ∙ c.put_blocks-written.ensures.session) at (c.tell_of.ensures.does bodies.Entry))

pub returns-in-Err-closed-clause-does : goal.returns-in-Err-closed-clause-does
returns-in-Err-closed-clause-does g c =
    let s = c.args.mounted.now.session in
    let mid = c.put_blocks-written.new.mounted in
    let new = c.ask_done-closed.new.self in
    on_err _ _ _ _ _ _ _ _ _ c.in-Err-closed.is (put_closed s c.args.directory c.args.name.now c.args.number c.args.target.now c.args.handle _ mid.asking new.asking mid.session new.session c.put_blocks-written.result _ c.ask_done-closed.result
    c.put_blocks-written.ensures.does c.ask_done-closed.ensures.asked (λ geo. refl) c.ask_done-closed.ensures.session (c.ask_done-closed.ensures.session ∙ c.put_blocks-written.ensures.session) _ c.in-Ok.is) _ _ _ (rw (c.ask_done-closed.ensures.session ∙ c.put_blocks-written.ensures.session) at c.take_away.ensures.does)
