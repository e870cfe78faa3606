-- What the workers read, joined.
use Rattle.std.proofs.Common.{All, inl, inr, sym, ap, ◌∙◌, subst, arith}
use Rattle.std.proofs.lemmas.Result.{err_from_is_err_and}
use Rattle.frozen.specs.Loading.{FrameRefuses}
use Rattle.layout.specs.declared.refusal.Refusal.{Refusal}
use Rattle.loaders.specs.Readers.{AreRead}
use Rattle.loaders.proofs.ReadLemmas.{ahead_of_data, ahead_of_image, all_read, all_reads, every_header, every_of, every_told}
use Rattle.loaders.proofs.FrameLemmas.{first_refused}
use Rattle.loaders.proofs.by_workers.read_frame.Goals as goal

pub joined-requires-clause-read : goal.joined-requires-clause-read
joined-requires-clause-read g c =
    let d = g.D.Device in
    let geo = c.args.geometry.now in
    let old = c.in_ok-works.ensures.devices ∙ ap (λ v. v.items) c.replace.ensures.value in
    let alike = all_reads d.honest d.image d.held geo c.in_ok-works.works.items c.args.devices.now.items old c.in_ok-works.ensures.geometry c.requires.count in
    every_header d.honest d.image d.held geo c.groups.result c.in_ok-works.works.items c.in_ok-headers.headers.items c.in_ok-headers.works.items c.in_ok-headers.ensures.done alike
    c.groups.ensures.count c.args.devices.now.items c.in_ok-back.back.items old (sym c.in_ok-back.ensures.devices)

pub place_all-requires-clause-of_data : goal.place_all-requires-clause-of_data
place_all-requires-clause-of_data g c =
    let d = g.D.Device in
    let geo = c.args.geometry.now in
    let old = c.in_ok-works.ensures.devices ∙ ap (λ v. v.items) c.replace.ensures.value in
    let alike = all_reads d.honest d.image d.held geo c.in_ok-works.works.items c.args.devices.now.items old c.in_ok-works.ensures.geometry c.requires.count in
    ahead_of_data d.honest d.image d.held geo c.groups.result c.in_ok-works.works.items c.in_ok-headers.headers.items c.in_ok-headers.works.items c.in_ok-headers.ensures.done alike
    c.in_ok-works.ensures.ahead c.in_ok-back.ahead.items c.in_ok-back.ensures.ahead

pub returns-clause-blocks : goal.returns-clause-blocks
returns-clause-blocks g c = λ image shown honest first.
    let d = g.D.Device in
    let geo = c.args.geometry.now in
    let old = c.in_ok-works.ensures.devices ∙ ap (λ v. v.items) c.replace.ensures.value in
    let alike = all_reads d.honest d.image d.held geo c.in_ok-works.works.items c.args.devices.now.items old c.in_ok-works.ensures.geometry c.requires.count in
    c.place_all.ensures.blocks image
    (ahead_of_image d.honest d.image d.held geo c.groups.result c.in_ok-works.works.items c.in_ok-headers.headers.items c.in_ok-headers.works.items c.in_ok-headers.ensures.done alike
    c.in_ok-works.ensures.ahead c.in_ok-back.ahead.items c.in_ok-back.ensures.ahead c.args.devices.now.items c.in_ok-back.back.items old (sym c.in_ok-back.ensures.devices) image shown honest)
    (c.in_ok-blocks.ensures.blocks image
    (every_of d.honest d.image d.held geo c.groups.result c.in_ok-works.works.items c.in_ok-headers.headers.items c.in_ok-headers.works.items c.in_ok-headers.ensures.done alike
    c.groups.ensures.count c.args.devices.now.items c.in_ok-back.back.items old (sym c.in_ok-back.ensures.devices) image shown honest) first)

pub returns-in_err-blocks-clause-refused : goal.returns-in_err-blocks-clause-refused
returns-in_err-blocks-clause-refused g c =
    let p = err_from_is_err_and c.from_residual-in_err-blocks.result c.from_residual-in_err-blocks.ensures.1 in
    let d = g.D.Device in
    let geo = c.args.geometry.now in
    let news = c.in_ok-back.back.items in
    let parts = c.in_ok-headers.headers.items in
    let old = c.in_ok-works.ensures.devices ∙ ap (λ v. v.items) c.replace.ensures.value in
    let alike = all_reads d.honest d.image d.held geo c.in_ok-works.works.items c.args.devices.now.items old c.in_ok-works.ensures.geometry c.requires.count in
    rw (p.1, p.2)
    (λ image shown. elim c.in_err-blocks.ensures.refused [
      | inl none ↦ subst (λ (r : Refusal). FrameRefuses (All d.honest news) geo image r) (sym none) tt
      | inr least ↦ first_refused (All d.honest news) geo c.groups.ensures.geometry (omega arith) image parts c.in_err-blocks.field-0.0 (c.in_ok-headers.ensures.done.count ∙ c.groups.ensures.count)
          (every_told d.honest d.image d.held geo c.groups.result c.in_ok-works.works.items parts c.in_ok-headers.works.items c.in_ok-headers.ensures.done alike
          c.groups.ensures.count c.args.devices.now.items news old (sym c.in_ok-back.ensures.devices) image shown) least
    ])

pub returns-clause-read : goal.returns-clause-read
returns-clause-read g c =
    let d = g.D.Device in
    let old = c.in_ok-works.ensures.devices ∙ ap (λ v. v.items) c.replace.ensures.value in
    subst (λ olds. AreRead d.honest d.image d.held olds c.in_ok-back.back.items) old
    (subst (AreRead d.honest d.image d.held _) (sym c.in_ok-back.ensures.devices)
    (all_read d.honest d.image d.held c.args.geometry.now c.groups.result c.in_ok-works.works.items c.in_ok-headers.headers.items c.in_ok-headers.works.items c.in_ok-headers.ensures.done))

pub returns-in_err-blocks-clause-lost : goal.returns-in_err-blocks-clause-lost
returns-in_err-blocks-clause-lost g c =
    let p = err_from_is_err_and c.from_residual-in_err-blocks.result c.from_residual-in_err-blocks.ensures.1 in
    let d = g.D.Device in
    let old = c.in_ok-works.ensures.devices ∙ ap (λ v. v.items) c.replace.ensures.value in
    rw (p.1, p.2)
    (inr (subst (λ olds. AreRead d.honest d.image d.held olds c.in_ok-back.back.items) old
    (subst (AreRead d.honest d.image d.held _) (sym c.in_ok-back.ensures.devices)
    (all_read d.honest d.image d.held c.args.geometry.now c.groups.result c.in_ok-works.works.items c.in_ok-headers.headers.items c.in_ok-headers.works.items c.in_ok-headers.ensures.done))))
