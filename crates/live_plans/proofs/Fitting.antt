-- A record that is written fits the version of the volume's layout, as the one that is kept does.
use Rattle.std.proofs.Common.{◌≡◌, ℕ, sym, ap, ◌∙◌, subst}
use Rattle.model.specs.Layout.{Geometry}
use Rattle.model.specs.View.{Fits, Inode}
use Rattle.model.specs.Cells.{SetInode}
use Rattle.model.proofs.Places.{record_fits}
use Rattle.machine.specs.Effects.{with_links}
use Rattle.updates.specs.Places.{FitsVolume}
use Rattle.frozen.specs.Kept.{Kept, frozen_view, kept_bytes}

-- what is kept, whatever its links
pub kept_fits : (kept : Kept) (n : ℕ) (inode : Inode) (links : ℕ) → inode ≡ with_links ((frozen_view kept).inode n) links → Fits kept.geometry.version inode
kept_fits kept n inode links is = subst (Fits kept.geometry.version) (sym is) (record_fits kept.geometry (kept_bytes kept.blocks) n)

-- and what has its double indirect pointer
pub written_fits : (kept : Kept) (geo : Geometry) (n : ℕ) (given was : Inode) → geo ≡ kept.geometry → was ≡ (frozen_view kept).inode n → given.double ≡ was.double → FitsVolume geo (SetInode n given)
written_fits kept geo n given was same is e =
    let fits : FitsVolume kept.geometry (SetInode n given) = λ one. e ∙ ap (λ (x : Inode). x.double) is ∙ record_fits kept.geometry (kept_bytes kept.blocks) n one in
    subst (λ (g : Geometry). FitsVolume g (SetInode n given)) (sym same) fits
