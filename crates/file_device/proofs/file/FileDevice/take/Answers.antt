use Rattle.std.proofs.Common.{◌≡◌, ◌<◌, ◌++◌, ◌∷◌, [], refl, sym, ap, ◌∙◌, arith, subst}
use Rattle.std.proofs.lemmas.List.{length-take}
use Rattle.model.proofs.ImageLemmas.{is_block}
use Rattle.device.specs.declared.cache.Step.TheVariants.{Wrote}
use Rattle.device.specs.Writes.{Write}
use Rattle.file_device.specs.Calls.{Calls, image_of}
use Rattle.file_device.specs.Runs.{waiting, blocks_of_run, writes_of_earlier, writes_of_run}
use Rattle.file_device.proofs.KeepLemmas.{keeps_pushed, keeps_started}
use Rattle.file_device.proofs.RunLemmas.{all_wait, replaced_outside}
use Rattle.file_device.proofs.CallLemmas.{gives_all, goes_further, waits_one, write_to}
use Rattle.file_device.proofs.file.FileDevice.take.Goals as goal

pub invariant_of-self : goal.invariant_of-self
invariant_of-self g c =
    let device = c.self.inside in
    let w : Write = (c.args.address, c.args.from.now) in
    let run = device.kept in
    let behind = c.goes_on.ensures.behind c.if-goes_on.true in
    let pushed : writes_of_run c.push.new.self ≡ writes_of_run run ++ w ∷ [] = c.push.ensures ∙ ap (λ a. writes_of_run run ++ (a, c.args.from.now) ∷ []) (sym behind) in
    record {
      keeping = keeps_pushed (image_of g.S.Start.first device.count) device.answered.items (waiting device.waits run) (writes_of_run run) (writes_of_earlier device.earlier) c.args.address c.args.from.now
          (write_to g.S.Start.first device.count c.args.address c.args.from.now (subst (λ (v : Calls). c.args.address < v.count) (sym c.self.view_is) c.requires) (is_block c.args.from.now c.told-from c.fits-from))
          c.self.invariant.keeping (waiting device.waits c.push.new.self) (writes_of_run c.push.new.self) (writes_of_earlier c.replace.new.self)
          (all_wait device.waits c.push.new.self c.if-self.true ∙ pushed ∙ ap (λ ws. ws ++ w ∷ []) (sym (all_wait device.waits run c.if-self.true)))
          (replaced_outside c.args.address c.args.from.now run.span.first (blocks_of_run run) (λ from to. omega (arith, behind, to, length-take run.span.count run.blocks.value.all)))
          pushed c.replace.ensures;
      heard = c.self.invariant.heard;
    }

pub invariant_of-self-2 : goal.invariant_of-self-2
invariant_of-self-2 g c =
    let device = c.self-2.inside in
    let given = c.self-2.view_is ∙ c.in_ok-give_waiting.ensures.given in
    record {
      keeping = keeps_started (image_of g.S.Start.first device.count) device.answered.items (waiting device.waits device.kept) (writes_of_run device.kept) (writes_of_earlier device.earlier) c.args.address c.args.from.now
          (write_to g.S.Start.first device.count c.args.address c.args.from.now (subst (λ n. c.args.address < n) (sym (ap (λ (v : Calls). v.count) given)) c.requires) (is_block c.args.from.now c.told-from c.fits-from))
          c.self-2.invariant.keeping (writes_of_run c.start.new.self) (writes_of_run c.start.new.self) (writes_of_earlier c.replace-2.new.self)
          (ap (λ (v : Calls). v.waiting) given) c.start.ensures c.start.ensures c.replace-2.ensures;
      heard = c.self-2.invariant.heard;
    }

pub returns-clause-taken : goal.returns-clause-taken
returns-clause-taken g c =
    let device = c.self-2.inside in
    let w : Write = (c.args.address, c.args.from.now) in
    goes_further c.args.self.now c.give_waiting.new.self _ [] (Wrote w.0 w.1 ∷ []) (gives_all c.args.self.now c.give_waiting.new.self c.in_ok-give_waiting.ensures.given)
    (waits_one c.give_waiting.new.self _ _ w c.self-2.view_is refl refl
    (c.start.ensures ∙ ap (λ ws. ws ++ w ∷ []) (sym (ap (λ (v : Calls). v.waiting) (c.self-2.view_is ∙ c.in_ok-give_waiting.ensures.given)))))
