use Rattle.std.proofs.Common.{◌<◌, length, refl, sym, ap, ◌∙◌, List, ℕ, Some, eqb-true}
use Rattle.std.proofs.lemmas.List.{take_rest}
use Rattle.live_paths.specs.Parts.{parts_behind}
use Rattle.live_paths.proofs.PartLemmas.{a_path, bad_part, no_bytes, no_slash, some_bytes, too_long}
use Rattle.live_paths.proofs.path.Path.parse.Goals as goal
use Rattle.live_paths.proofs.path.Path.parse.Goals.{then-bytes-ne47-via-then-bytes-ne47, then-bytes-ne47-via-else-bytes-ne47+then-bytes-gt-PATH_BYTES, then-bytes-ne47-via-else-bytes-ne47+else-bytes-gt-PATH_BYTES+then-not-has_parts}

pub returns-then-is_empty : goal.returns-then-is_empty
returns-then-is_empty c = (no_bytes c.args.bytes.now (eqb-true (length c.args.bytes.now) 0 (sym c.is_empty.ensures ∙ c.if-is_empty.true)), refl)

pub returns-then-bytes-ne47 : goal.returns-then-bytes-ne47
returns-then-bytes-ne47 c =
    let xs = c.args.bytes.now in
    let some : 0 < length xs = some_bytes xs (sym c.is_empty.ensures ∙ c.if-is_empty.false) in
    elim c.then-bytes-ne47.branch [
      | then-bytes-ne47-via-then-bytes-ne47 w ↦ (no_slash xs some w.if-bytes-ne47.true, refl)
      | then-bytes-ne47-via-else-bytes-ne47+then-bytes-gt-PATH_BYTES w ↦ (too_long xs some w.if-bytes-gt-PATH_BYTES.true, refl)
      | then-bytes-ne47-via-else-bytes-ne47+else-bytes-gt-PATH_BYTES+then-not-has_parts w ↦
          (bad_part xs some (sym (rw take_rest at w.has_parts.ensures) ∙ w.if-not-has_parts.true), refl)
    ]

pub returns : goal.returns
returns c =
    let xs = c.args.bytes.now in
    let some : 0 < length xs = some_bytes xs (sym c.is_empty.ensures ∙ c.if-is_empty.false) in
    a_path xs some c.if-bytes-ne47.false c.if-bytes-gt-PATH_BYTES.false (sym (rw take_rest at c.has_parts.ensures) ∙ c.if-not-has_parts.false)
    ∙ ap (λ (tail : List ℕ). Some (parts_behind tail)) (sym (take_rest xs 1))
