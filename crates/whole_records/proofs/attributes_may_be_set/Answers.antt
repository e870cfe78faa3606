use Rattle.std.proofs.Common.{[], refl, arith}
use Rattle.std.proofs.lemmas.Bool.{and_parts}
use Rattle.model.specs.Layout.{is_number}
use Rattle.model.specs.Uses.{is_sound}
use Rattle.ordering.specs.Cuts.{users_view}
use Rattle.ordering.specs.Histories.{Raises}
use Rattle.model.specs.View.{with_attributes}
use Rattle.whole_records.proofs.attributes_may_be_set.Goals as goal

pub returns : goal.returns
returns c = λ geo disk q ghost n words at.
    let inode = (users_view disk q).inode n in
    let sound = (and_parts (is_number geo n) (is_sound geo inode) at).1 in
    Raises [] n (with_attributes inode words)
    (record { body = record { sound = sound; still_sound = sound; mode = refl; blocks = refl; direct = refl; indirect = refl; double = refl }; links = omega arith })
