-- What is told of the images that a loss of power may leave.
use Rattle.std.specs.Prelude.{◌≡◌, ℕ, if◌then◌else◌, List, [], flat_map}
use Rattle.command_line.specs.declared.answer.Answer.{Answer}
use Rattle.device.specs.Cached.{Cache, held_by}
use Rattle.device.specs.Media.{Held, writes_in}
use Rattle.device.specs.Writes.{image_after}
use Rattle.findings.specs.Findings.{AreFindings}
use Rattle.findings.specs.Report.{verdict_of}
use Rattle.findings.specs.declared.finding.Finding.{Finding}
use Rattle.findings.specs.declared.verdicts.Verdict.{Verdict}
use Rattle.left_images.specs.Judged.{AreCuts}
use Rattle.left_images.specs.Report.{may_damage, report_of}
use Rattle.left_images.specs.declared.judging.Cut.{Cut}
use Rattle.model.specs.Image.{IsImage, image_view}
use Rattle.model.specs.Layout.{Geometry}
use Rattle.softdep.specs.Queued.{fresh_queue}
use Rattle.snapshot.specs.Alive.{Alive}
use Rattle.snapshot.specs.Mounting.{IsMountable}
use Rattle.script_lines.specs.Carried.{HasRun}

-- what a check says of an image: the verdict of its findings
abbrev pub IsSaid : List (List ℕ) → Verdict → Type 0
IsSaid image verdict = (geo : Geometry) × IsImage geo image × (found : List Finding) × AreFindings geo (image_view geo image) found × (verdict ≡ verdict_of found)

-- what such a device held, and answers
abbrev pub held_in : Cache → Held
held_in cache = held_by cache.first cache.steps

abbrev pub image_in : Cache → List (List ℕ)
image_in cache = image_after cache.first (writes_in cache.steps)

-- a line is printed for each moment that this device with a write cache had, and the status is that of a damaged image where one may be left
pub record TellsMoments (cache : Cache) (most : ℕ) (answer : Answer) : Type 0 where
  pub cuts : List Cut
  pub are : AreCuts IsSaid cache most cuts
  pub text : answer.text.items ≡ report_of cuts
  pub status : answer.status ≡ (if may_damage cuts then 2 else 0)

-- The volume of an image was mounted on such a device, and went through commands: this is told of the device.
pub record TellsCuts (image : List ℕ) (most : ℕ) (answer : Answer) : Type 0 where
  pub blocks : List (List ℕ)
  pub bytes : flat_map (λ block. block) blocks ≡ image
  pub mounted : Alive Cache
  pub mountable : IsMountable mounted.kept.geometry blocks
  pub fresh : mounted.queue ≡ fresh_queue mounted.kept.geometry
  pub now : Alive Cache
  pub run : HasRun (held_by blocks []) blocks mounted (held_in now.device) (image_in now.device) now
  pub tells : TellsMoments now.device most answer
