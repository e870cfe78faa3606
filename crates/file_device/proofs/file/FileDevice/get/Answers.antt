use Rattle.std.proofs.Common.{[], sym, subst}
use Rattle.std.proofs.lemmas.Result.{on_ok_weaker}
use Rattle.file_device.specs.Calls.{Calls}
use Rattle.file_device.specs.Runs.{IsUntouched}
use Rattle.file_device.proofs.CallLemmas.{asks_one, fetched, goes_further, stays}
use Rattle.file_device.proofs.file.FileDevice.get.Goals as goal

pub fetch-requires : goal.fetch-requires
fetch-requires g c = subst (λ (v : Calls). IsUntouched v.waiting c.args.address) (sym c.let_go.ensures) (c.find.ensures.none c.in_default.is)

pub returns-clause-block : goal.returns-clause-block
returns-clause-block g c =
    on_ok_weaker c.fetch.result
    (λ is h _. fetched g.S.Start.first c.let_go.new.self c.fetch.new.self c.args.address c.fetch.new.to
    (subst (λ (v : Calls). IsUntouched v.waiting c.args.address) (sym c.let_go.ensures) (c.find.ensures.none c.in_default.is)) is h) c.fetch.ensures.read

pub returns-clause-read : goal.returns-clause-read
returns-clause-read g c =
    let old = c.args.self.now in
    let mid = c.read_ahead.new.self in
    asks_one c.fetch.result old c.let_go.new.self c.fetch.new.self c.args.address c.fetch.new.to
    (goes_further old mid c.let_go.new.self [] [] c.read_ahead.ensures.read (stays mid c.let_go.new.self c.let_go.ensures)) c.fetch.ensures.read c.fetch.ensures.refused
