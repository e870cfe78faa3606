use Rattle.std.proofs.Common.{All, map, sym, subst}
use Rattle.frozen.specs.Kept.{Kept, KeepsMetadata, frozen_view}
use Rattle.frozen.specs.Installed.{FitsIn}
use Rattle.metadata.specs.Free.{IsFreeOf}
use Rattle.model.specs.Cells.{updated_all}
use Rattle.metadata.specs.Shown.{IsMetadata}
use Rattle.metadata.specs.Staged.{IsStaged, IsBitOf, after, bit}
use Rattle.metadata.proofs.Steps.{free_after, bits_are, same_after}
use Rattle.metadata.proofs.metadata.Metadata.install.Goals as goal

pub install-requires-clause-fits : goal.install-requires-clause-fits
install-requires-clause-fits c = subst (λ (k : Kept). All (FitsIn k.geometry) c.args.staged.blocks.items) (sym c.self.view_is) c.requires.staged.1.fits

pub note_all-requires : goal.note_all-requires
note_all-requires c =
    let is : IsStaged c.self.inside.frozen c.requires.staged.0 c.args.staged = subst (λ (k : Kept). IsStaged k c.requires.staged.0 c.args.staged) (sym c.self.view_is) c.requires.staged.1 in
    record {
      geometry = c.self.inside.frozen.geometry;
      view = frozen_view c.self.inside.frozen;
      free_of = c.self.invariant.free;
      each = subst (All (IsBitOf c.self.inside.frozen.geometry)) (sym c.as_slice.ensures.value) (bits_are c.self.inside.frozen c.requires.staged.0 c.args.staged is);
    }

pub invariant_of-self : goal.invariant_of-self
invariant_of-self c =
    let kept : Kept = c.self.inside.frozen in
    let is : IsStaged kept c.requires.staged.0 c.args.staged = subst (λ (k : Kept). IsStaged k c.requires.staged.0 c.args.staged) (sym c.self.view_is) c.requires.staged.1 in
    let whole : KeepsMetadata (after kept c.args.staged) = subst (λ (k : Kept). KeepsMetadata (after k c.args.staged)) (sym c.self.view_is) c.requires.metadata in
    let noted : IsFreeOf kept.geometry (updated_all (frozen_view kept) (map bit c.args.staged.bits.items)) c.note_all.new.free =
    subst (λ bs. IsFreeOf kept.geometry (updated_all (frozen_view kept) (map bit bs)) c.note_all.new.free) c.as_slice.ensures.value
    (c.note_all.ensures kept.geometry (frozen_view kept) (subst (All (IsBitOf kept.geometry)) (sym c.as_slice.ensures.value) (bits_are kept c.requires.staged.0 c.args.staged is)) c.self.invariant.free) in
    subst (λ (k : Kept). IsMetadata k c.note_all.new.free) (sym c.install.ensures)
    (record {
      metadata = whole;
      free = subst (λ g. IsFreeOf g (frozen_view (after kept c.args.staged)) c.note_all.new.free) (sym (same_after kept c.args.staged)) (free_after kept c.requires.staged.0 c.args.staged c.note_all.new.free is noted);
    })
