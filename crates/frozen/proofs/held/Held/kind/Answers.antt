-- What the head of a record tells of its number.
use Rattle.std.proofs.Common.{◌≡◌, ◌&&◌, true, Bool, sym, ap, ap₂, ◌∙◌}
use Rattle.std.specs.Prelude.{nat_lt}
use Rattle.model.specs.Layout.{Geometry, is_number}
use Rattle.model.specs.Shape.{direct_positions}
use Rattle.model.specs.Uses.{blocks_of, is_directory, is_sound}
use Rattle.model.specs.View.{Inode}
use Rattle.frozen.specs.Kept.{frozen_view}
use Rattle.frozen.proofs.KindLemmas.{no_kind, sound_kind}
use Rattle.frozen.proofs.held.Held.kind.Goals as goal

pub returns-then-not-is_number : goal.returns-then-not-is_number
returns-then-not-is_number c =
    let kept = c.args.self.now in
    let view = frozen_view kept in
    no_kind kept.geometry view c.args.number (ap (λ (b : Bool). b && is_sound kept.geometry (view.inode c.args.number)) (sym c.is_number.ensures ∙ c.if-not-is_number.true))

pub returns-then-not-is_sound : goal.returns-then-not-is_sound
returns-then-not-is_sound c =
    let kept = c.args.self.now in
    let number : is_number kept.geometry c.args.number ≡ true = sym c.is_number.ensures ∙ c.if-not-is_number.false in
    let head = c.is_sound.ensures ∙ ap (λ (geo : Geometry). is_sound geo c.head-head.result) c.geometry.ensures.geometry ∙ ap (is_sound kept.geometry) c.head-head.ensures in
    no_kind kept.geometry (frozen_view kept) c.args.number (ap₂ (λ (a b : Bool). a && b) number (sym head ∙ c.if-not-is_sound.true))

pub returns : goal.returns
returns c =
    let kept = c.args.self.now in
    let number : is_number kept.geometry c.args.number ≡ true = sym c.is_number.ensures ∙ c.if-not-is_number.false in
    let head = c.is_sound.ensures ∙ ap (λ (geo : Geometry). is_sound geo c.head-head.result) c.geometry.ensures.geometry ∙ ap (is_sound kept.geometry) c.head-head.ensures in
    sound_kind kept.geometry (frozen_view kept) c.args.number _ _ (ap₂ (λ (a b : Bool). a && b) number (sym head ∙ c.if-not-is_sound.false))
    (ap (λ (n : _). nat_lt direct_positions n) (c.blocks-2.ensures ∙ ap (λ (r : Inode). blocks_of r.size) c.head-head.ensures)) (c.is_directory.ensures ∙ ap is_directory c.head-head.ensures)
