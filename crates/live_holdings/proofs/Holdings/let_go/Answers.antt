use Rattle.std.proofs.Common.{◌<◌, All, length, sym, ap, subst}
use Rattle.live_states.specs.Holdings.{Holdings}
use Rattle.live_holdings.proofs.Walks.{let_go_low}
use Rattle.live_holdings.proofs.Holdings.let_go.Goals as goal

pub unmark-requires : goal.unmark-requires
unmark-requires c =
    let old = c.args.self.now in
    subst (λ n. All (λ a. a < n) c.args.blocks.now) (sym (ap (λ (h : Holdings). length h.held) c.self.view_is))
    (subst (All (λ a. a < length old.held)) (sym c.requires) (let_go_low old c.args.number))
