-- The commands of some paths, one by one.
use Rattle.std.proofs.Common.{◌≡◌, ◌<◌, ◌+◌, ℕ, zero, suc, Bool, true, false, cond, eqb, eq-eqb, List, [], ◌∷◌, ◌++◌, drop, get_or, length, map, take, Some, None, Result, Ok, Err, refl, sym, ap, ap₂, ◌∙◌, arith}
use Rattle.std.proofs.lemmas.Bool.{ne_eqb}
use Rattle.std.proofs.lemmas.List.{map-append, map_more}
use Rattle.frozen.specs.Kept.{Kept, frozen_view}
use Rattle.layout.specs.declared.refusal.Refusal.{Refusal}
use Rattle.layout.specs.declared.refusal.Refusal.TheVariants.{BadName, NotDirectory}
use Rattle.live_paths.specs.Shown.{IsShownBy}
use Rattle.machine.specs.Paths.{parts_of, target}
use Rattle.model.specs.Uses.{is_directory_at}
use Rattle.model.specs.View.{View}
use Rattle.tool_answers.specs.Words.{IsLastSlash, NoSlash, at_parts, behind_slash, directory_at, if_directory, last_part}

pub deed_added : {P C Q : Type 0} (ask : C → Q) (want : P → Q) (paths : List P) (i : ℕ) (path : P) (commands more : List C) (command : C)
    → i < length paths → path ≡ get_or paths i path → more ≡ commands ++ command ∷ [] → map ask commands ≡ map want (take i paths) → ask command ≡ want path
    → map ask more ≡ map want (take (i + 1) paths)
deed_added ask want paths i path commands more command low at pushed before here =
    ap (map ask) pushed ∙ map-append ask commands (command ∷ []) ∙ ap₂ (λ xs x. xs ++ x ∷ []) before (here ∙ ap want at) ∙ sym (map_more want paths i path low)

-- ---- the last part of a path

no_slash : (path other : List ℕ) → NoSlash path → behind_slash path other ≡ other
no_slash [] other none = refl
no_slash (byte ∷ bytes) other none = rw (ne_eqb byte 47 (none 0 0 (omega arith))) (no_slash bytes other (λ k d lt. none (suc k) d (omega arith)))

pub part_at : (path other : List ℕ) (place : ℕ) → IsLastSlash path place → behind_slash path other ≡ drop (place + 1) path
part_at [] other place h = absurd (omega (arith, h.low))
part_at (byte ∷ bytes) other zero h = rw (eq-eqb byte 47 (h.here 0)) (no_slash bytes bytes (λ k d lt. h.last (suc k) d (omega arith) (omega arith)))
part_at (byte ∷ bytes) other (suc place) h =
    let next : IsLastSlash bytes place = record { low = omega (arith, h.low); here = h.here; last = λ k d gt lt. h.last (suc k) d (omega arith) (omega arith) } in
    let one_on : suc (place + 1) ≡ suc place + 1 = omega arith in
    by (eqb byte 47) (part_at bytes bytes place next) (part_at bytes other place next) ∙ ap (λ n. drop n (byte ∷ bytes)) one_on
  where
    by : (b : Bool) → behind_slash bytes bytes ≡ drop (place + 1) bytes → behind_slash bytes other ≡ drop (place + 1) bytes
        → cond b (behind_slash bytes bytes) (behind_slash bytes other) ≡ drop (place + 1) bytes
    by true one two = one
    by false one two = two

pub all_of : (path : List ℕ) → NoSlash path → path ≡ last_part path
all_of path none = sym (no_slash path path none)

pub part_is : (path part : List ℕ) (place : ℕ) → IsLastSlash path place → part ≡ drop (place + 1) path → part ≡ last_part path
part_is path part place h is = is ∙ sym (part_at path path place h)

-- ---- the directory that a path leads to

itself : (kept : Kept) → IsShownBy kept (frozen_view kept)
itself kept = record {
  inode = λ i n. refl;
  number_marked = λ i n. refl;
  block_marked = λ a n. refl;
  tables = λ i m a t c. refl;
  directory_blocks = λ d k a t c. refl;
}

module _ (kept : Kept) (path : List ℕ) where
  pub no_parts : parts_of path ≡ None → Err BadName ≡ directory_at kept.geometry (frozen_view kept) path
  unfolding directory_at
  no_parts none = ap (at_parts kept.geometry (frozen_view kept)) (sym none)

  module _ (parts : List (List ℕ)) (some : parts_of path ≡ Some parts) (found : Result ℕ Refusal) (leads : (view : View) → IsShownBy kept view → found ≡ target kept.geometry view parts) where
    by_parts : if_directory kept.geometry (frozen_view kept) found ≡ directory_at kept.geometry (frozen_view kept) path
    unfolding directory_at
    by_parts = ap (if_directory kept.geometry (frozen_view kept)) (leads (frozen_view kept) (itself kept)) ∙ ap (at_parts kept.geometry (frozen_view kept)) (sym some)

    pub leads_nowhere : (r : Refusal) → found ≡ Err r → Err r ≡ directory_at kept.geometry (frozen_view kept) path
    leads_nowhere r is = ap (if_directory kept.geometry (frozen_view kept)) (sym is) ∙ by_parts

    module _ (number : ℕ) (is : found ≡ Ok number) where
      tested : cond (is_directory_at kept.geometry (frozen_view kept) number) (Ok number) (Err NotDirectory) ≡ directory_at kept.geometry (frozen_view kept) path
      tested = ap (if_directory kept.geometry (frozen_view kept)) (sym is) ∙ by_parts

      pub leads_there : is_directory_at kept.geometry (frozen_view kept) number ≡ true → Ok number ≡ directory_at kept.geometry (frozen_view kept) path
      leads_there h = ap (λ b. cond b (Ok number) (Err NotDirectory)) (sym h) ∙ tested

      pub leads_elsewhere : is_directory_at kept.geometry (frozen_view kept) number ≡ false → Err NotDirectory ≡ directory_at kept.geometry (frozen_view kept) path
      leads_elsewhere h = ap (λ b. cond b (Ok number) (Err NotDirectory)) (sym h) ∙ tested
