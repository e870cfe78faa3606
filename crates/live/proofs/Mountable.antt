-- An image of a volume that obeys the rules is mounted, unless memory runs out or the device fails.
use Rattle.std.proofs.Common.{◌≡◌, ◌<◌, ℕ, List, ◌⊎◌, inl, inr, refl, sym, ap, ◌∙◌, subst, arith}
use Rattle.layout.specs.declared.refusal.Refusal.{Refusal}
use Rattle.layout.specs.declared.refusal.Refusal.TheVariants as refusal
use Rattle.model.specs.Image.{IsSuper, block_at, image_view}
use Rattle.model.specs.Layout.{Geometry, block_count, group_block}
use Rattle.model.specs.Rules.{ObeysRules}
use Rattle.model.specs.Image.{IsGroupBlock}
use Rattle.live.specs.Mounting.{IsMountable}
use Rattle.rules.specs.Loading.{LoadSoundRefuses}

-- a superblock tells one geometry
told_once : (g h : Geometry) (block : List ℕ) → IsSuper g block → IsSuper h block → g ≡ h
told_once g h block a b =
    let groups : g.groups ≡ h.groups = sym a.groups ∙ b.groups in
    let blocks : g.blocks ≡ h.blocks = sym a.blocks ∙ b.blocks in
    let inodes : g.inodes ≡ h.inodes = sym a.inodes ∙ b.inodes in
    let version : g.version ≡ h.version = sym a.version ∙ b.version in
    λ i. record { groups = groups i; blocks = blocks i; inodes = inodes i; version = version i }

abbrev pub GivesOut : Refusal → Type 0
GivesOut r = (r ≡ refusal.NoMemory) ⊎ (r ≡ refusal.Device)

pub mounts : (geo : Geometry) (image : List (List ℕ)) (honest : Type 0) (r : Refusal) → IsMountable geo image → LoadSoundRefuses honest image r → honest → GivesOut r
mounts geo image honest refusal.NoMemory is refuses h = inl refl
mounts geo image honest refusal.Device is refuses h = inr refl
mounts geo image honest refusal.Damaged is refuses h =
    let b = refuses h in
    absurd (b.breaks (subst (λ g. ObeysRules g (image_view g image)) (told_once geo b.geometry (block_at image 0) is.is_image.first b.is_image.first) is.obeys))
mounts geo image honest refusal.BadLength is refuses h = elim (refuses h) [
  | inl none ↦ let n = is.is_image.count in absurd (omega (arith, none, n))
  | inr told ↦ absurd (told.2 (is.is_image.count ∙ ap block_count (told_once geo told.0 (block_at image 0) is.is_image.first told.1.first)))
]
mounts geo image honest refusal.BadSuper is refuses h =
    let bad = refuses h in
    absurd (bad.1 geo (record { some = bad.0; geometry = is.is_image.geometry; first = is.is_image.first }))
mounts geo image honest (refusal.BadGroup g) is refuses h =
    let bad = refuses h in
    let same : bad.geometry ≡ geo = told_once bad.geometry geo (block_at image 0) bad.told.first is.is_image.first in
    absurd (bad.least.wrong (subst (λ x. IsGroupBlock g (block_at image (group_block x g))) (sym same) (is.is_image.group_blocks g (subst (λ x. g < x.groups) same bad.in_volume))))
mounts geo image honest refusal.BadWorkers is refuses h = absurd refuses
mounts geo image honest refusal.NotFound is refuses h = absurd refuses
mounts geo image honest refusal.Exists is refuses h = absurd refuses
mounts geo image honest refusal.NotDirectory is refuses h = absurd refuses
mounts geo image honest refusal.IsDirectory is refuses h = absurd refuses
mounts geo image honest refusal.NotEmpty is refuses h = absurd refuses
mounts geo image honest refusal.BadName is refuses h = absurd refuses
mounts geo image honest refusal.NoInode is refuses h = absurd refuses
mounts geo image honest refusal.NoBlock is refuses h = absurd refuses
mounts geo image honest refusal.TooManyLinks is refuses h = absurd refuses
mounts geo image honest refusal.TooBig is refuses h = absurd refuses
mounts geo image honest refusal.BadHandle is refuses h = absurd refuses
mounts geo image honest refusal.BadIndex is refuses h = absurd refuses
mounts geo image honest refusal.BadPiece is refuses h = absurd refuses
mounts geo image honest refusal.SnapshotStands is refuses h = absurd refuses
mounts geo image honest refusal.NoSnapshot is refuses h = absurd refuses
mounts geo image honest refusal.ForeignPlan is refuses h = absurd refuses
mounts geo image honest refusal.AlreadyDone is refuses h = absurd refuses
mounts geo image honest refusal.PlanNotSoft is refuses h = absurd refuses
mounts geo image honest refusal.PlanStands is refuses h = absurd refuses
mounts geo image honest refusal.TraceFull is refuses h = absurd refuses
mounts geo image honest refusal.NoPlan is refuses h = absurd refuses
mounts geo image honest refusal.BadGeometry is refuses h = absurd refuses
mounts geo image honest refusal.IsRoot is refuses h = absurd refuses
mounts geo image honest refusal.TooManySnapshots is refuses h = absurd refuses
mounts geo image honest refusal.TooManyOpen is refuses h = absurd refuses
