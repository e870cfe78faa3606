use Rattle.std.proofs.Common.{◌≡◌, List, [], ◌∷◌, true, false, ℕ, sym, ap, ◌∙◌, subst}
use Rattle.std.specs.Option.{MatchOption}
use Rattle.ordering.specs.Cuts.{cell_of}
use Rattle.queue_model.specs.Blocks.{home_of}
use Rattle.queue_model.specs.Entries.{issued}
use Rattle.lists.specs.Stacks.{stack_at}
use Rattle.softdep_queue.specs.Adding.{update_of}
use Rattle.softdep_queue.specs.Taking.{TakesNext}
use Rattle.softdep_queue.specs.Moving.{IsClosedByBlocks, HoldsAlone}
use Rattle.softdep_queue.proofs.Moved.{on_volume_low, retaken, alone_with}
use Rattle.softdep_queue.proofs.table.Table.add_again.Goals as goal

pub add-requires-clause-held : goal.add-requires-clause-held
add-requires-clause-held c = let h = c.requires.alone.2 in record { queue = h.queue; q = c.requires.alone.0; loose = c.requires.alone.1; holds = h.holds }

pub take_next-requires-clause-held : goal.take_next-requires-clause-held
take_next-requires-clause-held c =
    let h = c.requires.alone.2 in
    let u = update_of c.args.update in
    let now = c.add.ensures.held h.queue c.requires.alone.0 c.requires.alone.1 h.holds in
    (c.args.geometry.now, record { queue = issued (home_of c.args.geometry.now) u h.queue; q = u ∷ c.requires.alone.0; ws = now.written; takes = now.takes })

pub take_next-requires-clause-address : goal.take_next-requires-clause-address
take_next-requires-clause-address c =
    let h = c.requires.alone.2 in
    on_volume_low c.args.geometry.now c.add.new.self _ _ _ (c.add.ensures.held h.queue c.requires.alone.0 c.requires.alone.1 h.holds) c.home-home.result c.home-home.ensures.on_volume

pub returns-then-taken-clause-held : goal.returns-then-taken-clause-held
returns-then-taken-clause-held c q loose alone closed =
    let geo = c.args.geometry.now in
    let u = update_of c.args.update in
    let now = c.add.ensures.held alone.queue q loose alone.holds in
    let home : c.home-home.result ≡ home_of geo (cell_of u.change) = c.home-home.ensures.address ∙ ap (home_of geo) c.cell.ensures in
    let held = retaken geo c.args.self.now c.add.new.self alone.queue q loose u alone.holds now (subst (λ b. IsClosedByBlocks (home_of geo) (u ∷ q) (b ∷ loose)) c.if-taken.true closed) c.take_next.new.self c.take_next.result c.add.ensures.stack
    (subst (λ a. TakesNext geo (issued (home_of geo) u alone.queue) (u ∷ q) a now.written c.add.new.self c.take_next.new.self c.take_next.result) home
    (c.take_next.ensures.next geo (issued (home_of geo) u alone.queue) (u ∷ q) now.written now.takes))
    (subst (λ a. MatchOption c.take_next.result (stack_at c.add.new.self.ready a ≡ []) (λ number. (rest : List ℕ) × (stack_at c.add.new.self.ready a ≡ number ∷ rest))) home c.take_next.ensures.top) in
    subst (λ b. HoldsAlone geo c.take_next.new.self (u ∷ q) (b ∷ loose)) (sym c.if-taken.true)
    (alone_with geo c.args.self.now c.take_next.new.self alone.queue q loose (true ∷ loose) u alone.holds alone.alone held)

pub returns-then-taken-clause-room : goal.returns-then-taken-clause-room
returns-then-taken-clause-room c updates cells has = c.take_next.ensures.room updates cells (c.add.ensures.room updates cells has)

pub returns-else-taken-clause-held : goal.returns-else-taken-clause-held
returns-else-taken-clause-held c q loose alone closed =
    let geo = c.args.geometry.now in
    let u = update_of c.args.update in
    subst (λ b. HoldsAlone geo c.add.new.self (u ∷ q) (b ∷ loose)) (sym c.if-taken.false)
    (alone_with geo c.args.self.now c.add.new.self alone.queue q loose (false ∷ loose) u alone.holds alone.alone (c.add.ensures.held alone.queue q loose alone.holds))
