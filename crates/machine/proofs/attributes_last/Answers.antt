use Rattle.std.proofs.Common.{◌∷◌, [], ◌+◌, true, ap, ◌∙◌}
use Rattle.model.specs.Cells.{SetInode, SetNumber, SetBlock, SetBytes, updated_all}
use Rattle.model.specs.View.{Inode, View, with_attributes}
use Rattle.model.proofs.Places.{put_here}
use Rattle.machine.specs.Effects.{file_with, new_directory, with_links}
use Rattle.machine.specs.Paths.{holder, name_in}
use Rattle.machine.specs.State.{State}
use Rattle.machine.proofs.AttributesLast.{enters_same, step_last}
use Rattle.machine.proofs.attributes_last.Goals as goal

pub returns : goal.returns
returns c = record {
  last = λ geo g. step_last geo;
  set = λ geo old new i words s. ap (λ (t : State). t.view.inode i) s.1 ∙ put_here old.view.inode i (with_attributes (old.view.inode i) words);
  created = λ geo old new path words i s.
      let e = s.1 in
      let first : View = updated_all old.view (SetNumber i true ∷ SetInode i (file_with words) ∷ []) in
      let same = enters_same geo first (holder geo old.view path) (name_in path) i e.view e.enters i in
      let here = put_here old.view.inode i (file_with words) in (
        ap (λ (t : State). (t.view.inode i).mode) e.whole ∙ same.mode ∙ ap (λ (r : Inode). r.mode) here,
        ap (λ (t : State). (t.view.inode i).attributes) e.whole ∙ same.attributes ∙ ap (λ (r : Inode). r.attributes) here,
      );
  made = λ geo old new path words i s.
      let e = s.1 in
      let d = holder geo old.view path in
      let before : View = updated_all old.view (SetNumber i true ∷ SetBlock e.block true ∷ SetInode d (with_links (old.view.inode d) ((old.view.inode d).links + 1)) ∷ SetBytes e.block e.bytes ∷ []) in
      let first : View = updated_all before (SetInode i (new_directory e.block words) ∷ []) in
      let same = enters_same geo first d (name_in path) i e.view e.enters i in
      let here = put_here before.inode i (new_directory e.block words) in (
        ap (λ (t : State). (t.view.inode i).mode) e.whole ∙ same.mode ∙ ap (λ (r : Inode). r.mode) here,
        ap (λ (t : State). (t.view.inode i).attributes) e.whole ∙ same.attributes ∙ ap (λ (r : Inode). r.attributes) here,
      );
}
