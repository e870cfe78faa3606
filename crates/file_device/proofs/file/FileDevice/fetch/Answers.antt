use Rattle.std.proofs.Common.{◌%◌, [], ◌∷◌, false, sym, subst}
use Rattle.file_device.specs.Calls.{Calls, image_of}
use Rattle.file_device.specs.Runs.{IsUntouched, slots_of, waiting, writes_of_earlier, writes_of_run}
use Rattle.file_device.proofs.CallLemmas.{still_heard}
use Rattle.file_device.proofs.EarlierLemmas.{kept_copies}
use Rattle.file_device.proofs.KeepLemmas.{keeps_fetched}
use Rattle.file_device.proofs.file.FileDevice.fetch.Goals as goal

pub invariant_of-self : goal.invariant_of-self
invariant_of-self g c =
    let device = c.self.inside in
    record {
      keeping = keeps_fetched (image_of g.S.Start.first device.count) device.answered.items c.and-self-inside.result.items (waiting device.waits device.kept) (waiting device.waits device.kept) (writes_of_run device.kept)
          (writes_of_earlier device.earlier) c.self.invariant.keeping c.args.address c.read_exact_at.new.buf (writes_of_earlier c.keep.new.self)
          (subst (λ (v : Calls). IsUntouched v.waiting c.args.address) (sym c.self.view_is) c.requires) c.and-self-inside.ensures
          (λ now. kept_copies now (slots_of device.earlier) (slots_of c.keep.new.self) (c.args.address % 31) (c.args.address, c.read_exact_at.new.buf) c.keep.ensures);
      heard = still_heard device.broken device.answered.items c.and-self-inside.result.items false ((c.args.address, c.read_exact_at.new.buf) ∷ []) c.self.invariant.heard c.and-self-inside.ensures;
    }
