use Rattle.std.proofs.Common.{[], List, Option, ℕ, option_copied, sym, ap, ◌∙◌}
use Rattle.std.specs.Prelude.{unwrap_or}
use Rattle.std.proofs.lemmas.Bool.{cond-true}
use Rattle.model.specs.Image.{block_at, image_view}
use Rattle.model.specs.Layout.{is_data_address}
use Rattle.softdep.specs.Queued.{pending_of}
use Rattle.live.proofs.ByteLemmas.{users_bytes}
use Rattle.live.proofs.bytes.read_seen.Goals as goal

pub returns-in-Some-clause-bytes : goal.returns-in-Some-clause-bytes
returns-in-Some-clause-bytes g c = λ h.
    let geo = c.args.queue.now.geometry in
    let disk = image_view geo (g.D.Device.image c.args.device.now) in
    users_bytes disk (pending_of c.args.queue.now) c.args.address
    ∙ ap (λ (o : Option (List ℕ)). unwrap_or o (disk.bytes c.args.address)) (sym c.contents.ensures ∙ ap option_copied c.in-Some.is)

pub returns-clause-bytes : goal.returns-clause-bytes
returns-clause-bytes g c = λ h.
    let geo = c.args.queue.now.geometry in
    let image = g.D.Device.image c.args.device.now in
    let disk = image_view geo image in
    users_bytes disk (pending_of c.args.queue.now) c.args.address
    ∙ ap (λ (o : Option (List ℕ)). unwrap_or o (disk.bytes c.args.address)) (sym c.contents.ensures ∙ ap option_copied c.in_default.is)
    ∙ cond-true (is_data_address geo c.args.address) (block_at image c.args.address) [] c.requires.address
    ∙ sym (c.in_ok-read.ensures.block h)
