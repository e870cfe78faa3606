-- The number is given, as a directory or another inode, or it is refused.
use Rattle.std.proofs.Common.{◌++◌, ◌∷◌, [], true, false, List, ℕ, sym, ap, ◌∙◌, subst, rules, IsTrue}
use Rattle.claims.specs.Seats.{Seated, after_claim}
use Rattle.frozen.specs.Kept.{frozen_view}
use Rattle.model.specs.Uses.{is_sound_at, is_directory_at}
use Rattle.connectivity.specs.Asked.{Asks}
use Rattle.connectivity.proofs.AskLemmas.{asks_directory, asks_file, asks_refused}
use Rattle.connectivity.proofs.asking.ask.Goals as goal
use Rattle.connectivity.proofs.asking.ask.Goals.{else-is_given-via-then-is_given+else-is_directory_at, else-is_given-via-else-is_given}

pub returns-then-is_directory_at-clause-asked : goal.returns-then-is_directory_at-clause-asked
returns-then-is_directory_at-clause-asked c =
    let geo = c.args.walk.now.frozen.now.geometry in
    let view = frozen_view c.args.walk.now.frozen.now in
    let n = c.args.number in
    let sound : IsTrue (is_sound_at geo view n) = search rules in
    let dir : IsTrue (is_directory_at geo view n) = search rules in
    let seat = c.claim-is_given.ensures ∙ ap (after_claim c.args.seat.now n) c.if-is_given.true in
    let items = c.push_reserved.ensures.items ∙ ap (λ (xs : List ℕ). xs ++ n ∷ []) c.reserve.ensures.items in
    subst (λ (s : Seated). Asks geo view (n ∷ []) c.args.seat.now c.args.found.now.items s c.push_reserved.new.self.items) (sym seat)
    (subst (λ (xs : List ℕ). Asks geo view (n ∷ []) c.args.seat.now c.args.found.now.items (after_claim c.args.seat.now n true) xs) (sym items)
    (asks_directory geo view n c.args.seat.now c.args.found.now.items sound dir))

pub returns-else-is_given-clause-asked : goal.returns-else-is_given-clause-asked
returns-else-is_given-clause-asked c =
    let geo = c.args.walk.now.frozen.now.geometry in
    let view = frozen_view c.args.walk.now.frozen.now in
    let n = c.args.number in
    let sound : IsTrue (is_sound_at geo view n) = search rules in
    let same = sym c.reserve.ensures.items in
    elim c.else-is_given.branch [
      | else-is_given-via-then-is_given+else-is_directory_at w ↦
          let seat = c.claim-is_given.ensures ∙ ap (after_claim c.args.seat.now n) w.if-is_given.true in
          subst (λ (s : Seated). Asks geo view (n ∷ []) c.args.seat.now c.args.found.now.items s c.reserve.new.self.items) (sym seat)
          (subst (λ (xs : List ℕ). Asks geo view (n ∷ []) c.args.seat.now c.args.found.now.items (after_claim c.args.seat.now n true) xs) same
          (asks_file geo view n c.args.seat.now c.args.found.now.items sound (sym w.is_directory_at.ensures ∙ w.if-is_directory_at.false)))
      | else-is_given-via-else-is_given w ↦
          let seat = c.claim-is_given.ensures ∙ ap (after_claim c.args.seat.now n) w.if-is_given.false in
          subst (λ (s : Seated). Asks geo view (n ∷ []) c.args.seat.now c.args.found.now.items s c.reserve.new.self.items) (sym seat)
          (subst (λ (xs : List ℕ). Asks geo view (n ∷ []) c.args.seat.now c.args.found.now.items (after_claim c.args.seat.now n false) xs) same
          (asks_refused geo view n c.args.seat.now c.args.found.now.items))
    ]
