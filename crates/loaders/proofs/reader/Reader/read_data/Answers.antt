-- One block more was read.
use Rattle.std.proofs.Common.{IsTrue, not, refl, sym, ap, ◌∙◌, subst}
use Rattle.model.specs.Layout.{is_data_address}
use Rattle.model.specs.Image.{block_at}
use Rattle.loaders.proofs.AheadLemmas.{ahead_more}
use Rattle.loaders.proofs.reader.Reader.read_data.Goals as goal

pub returns-clause-ahead : goal.returns-clause-ahead
returns-clause-ahead g c =
    let geo = c.args.self.now.geometry in
    let placed = c.in_ok-placed_at.field-0 in
    let there : IsTrue (is_data_address geo c.args.address) = sym c.place_of.ensures.exactly ∙ c.is_none.ensures ∙ ap not c.if-is_none.false in
    ahead_more c.args.self.now _ placed refl c.in_ok-push.ensures.items (record { same = c.in_ok-read.ensures.same; held = c.in_ok-read.ensures.held; honest = c.in_ok-read.ensures.honest })
    (subst (λ a. IsTrue (is_data_address geo a)) (sym c.in_ok-placed_at.ensures.address) there, c.in_ok-placed_at.ensures.whole)
    (λ honest. c.in_ok-placed_at.ensures.block ∙ c.in_ok-read.ensures.block honest ∙ ap (block_at (g.D.Device.image c.args.self.now.device)) (sym c.in_ok-placed_at.ensures.address))
