-- The orphans that the handles below one are open on, one handle after the other.
use Rattle.std.proofs.Common.{◌≡◌, ◌<◌, ℕ, suc, Bool, true, false, not, ◌&&◌, ◌||◌, eqb, List, [], IsTrue, Option, Some, None, ◌⊎◌, inl, inr, refl, sym, ap, ◌∙◌, eq-eqb, eqb-true, ne_eqb, ltb-true}
use Rattle.std.specs.Option.{option_and_then, option_map_or}
use Rattle.std.specs.Bool.{then_some}
use Rattle.std.proofs.lemmas.Bool.{and_parts, both_ways, cases_eq}
use Rattle.std.proofs.lemmas.Option.{none-some, same_Some}
use Rattle.queue_model.proofs.Lists.{bool_same}
use Rattle.model.specs.Layout.{inode_count, is_number}
use Rattle.model.specs.Uses.{is_sound, is_sound_at}
use Rattle.machine.specs.Below.{any_below}
use Rattle.machine.specs.Cells.{claims}
use Rattle.machine.proofs.Decisions.{any_found, any_here, any_none, any_same}
use Rattle.updates.specs.declared.change.Update as program
use Rattle.frozen.specs.Kept.{Kept, frozen_view}
use Rattle.live_states.specs.Holdings.{Holdings}
use Rattle.live_holdings.specs.Handles.{handle_at}
use Rattle.live_snapshots.specs.Orphans.{Frees, FreesToo, is_bare, is_open_below, orphan_by}
use Rattle.live_snapshots.proofs.Freeing.{frees_as, frees_none}

or_true : (b : Bool) → (b || true) ≡ true
or_true true = refl
or_true false = refl

or_false : (b : Bool) → (b || false) ≡ b
or_false true = refl
or_false false = refl

and_false : (b : Bool) → (b && false) ≡ false
and_false true = refl
and_false false = refl

-- from either of two
either : (x y z : Bool) → (x || y) ≡ true → (x ≡ true → z ≡ true) → (y ≡ true → z ≡ true) → z ≡ true
either true y z t one other = one refl
either false y z t one other = other t

both : (x y : Bool) → x ≡ true → y ≡ true → (x && y) ≡ true
both x y s t = ap (λ b. b && y) s ∙ t

module _ (kept : Kept) (holdings : Holdings) where
  abbrev bare : ℕ → Bool
  bare = is_bare kept

  abbrev claimed : ℕ → ℕ → Bool
  claimed i a = claims kept.geometry (frozen_view kept) i a

  abbrev numbers : ℕ
  numbers = inode_count kept.geometry

  -- a handle below h is open on inode i, which is bare
  abbrev found : ℕ → ℕ → Bool
  found h i = bare i && is_open_below holdings h i

  -- one of these numbers claims block a
  abbrev taken : (ℕ → Bool) → ℕ → Bool
  taken ns a = any_below numbers (λ i. ns i && claimed i a)

  -- these numbers, and their blocks, are freed
  abbrev FreesThem : (ℕ → Bool) → List program.Update → Type 0
  FreesThem ns us = Frees kept.geometry ns (taken ns) us

  -- these numbers and n
  abbrev with_number : (ℕ → Bool) → ℕ → ℕ → Bool
  with_number ns n i = ns i || eqb i n

  -- these updates free the orphans of the handles below one
  abbrev pub FreesFound : ℕ → List program.Update → Type 0
  FreesFound h us = FreesThem (found h) us

  same_numbers : (ns ns' : ℕ → Bool) (us : List program.Update) → ((i : ℕ) → ns i ≡ ns' i) → FreesThem ns us → FreesThem ns' us
  same_numbers ns ns' us same frees =
      frees_as kept.geometry ns (taken ns) ns' (taken ns') us same
      (λ a. any_same numbers (λ i. ns i && claimed i a) (λ i. ns' i && claimed i a) (λ i low. ap (λ b. b && claimed i a) (same i)))
      frees

  pub none_found : FreesFound 0 []
  unfolding any_below
  none_found =
      frees_as kept.geometry (λ i. false) (λ a. false) (found 0) (taken (found 0)) [] (λ i. sym (and_false (bare i)))
      (λ a. sym (any_none numbers (λ i. found 0 i && claimed i a) (λ i low. ap (λ b. b && claimed i a) (and_false (bare i)))))
      (frees_none kept.geometry)

  -- a bare inode's number is one of the volume's
  bare_number : (i : ℕ) → bare i ≡ true → i < numbers
  bare_number i is =
      let sound = (and_parts (is_sound_at kept.geometry (frozen_view kept) i) (eqb ((frozen_view kept).inode i).links 0) is).0 in
      let number = (and_parts (is_number kept.geometry i) (is_sound kept.geometry ((frozen_view kept).inode i)) sound).0 in
      ltb-true i numbers (and_parts _ _ number).1

  -- one number more
  one_number_more : (ns : ℕ → Bool) (n : ℕ) (old new : List program.Update) → n < numbers → FreesThem ns old → FreesToo kept.geometry (λ i. eqb i n) (claimed n) old new
      → FreesThem (with_number ns n) new
  one_number_more ns n old new low frees too =
      frees_as kept.geometry (with_number ns n) (λ a. taken ns a || claimed n a) (with_number ns n) (taken (with_number ns n)) new (λ i. refl)
      (λ a. bool_same (taken ns a || claimed n a) (taken (with_number ns n) a) (grows a) (shrinks a))
      (too ns (taken ns) frees)
    where
      here : (a : ℕ) → claimed n a ≡ true → taken (with_number ns n) a ≡ true
      here a claim =
          any_here numbers (λ i. (ns i || eqb i n) && claimed i a) n low
          (both (ns n || eqb n n) (claimed n a) (ap (λ b. ns n || b) (eq-eqb n n refl) ∙ or_true (ns n)) claim)

      stays : (a : ℕ) → taken ns a ≡ true → taken (with_number ns n) a ≡ true
      stays a was =
          let at = any_found numbers (λ i. ns i && claimed i a) was in
          let parts = and_parts (ns at.0) (claimed at.0 a) at.2 in
          any_here numbers (λ i. (ns i || eqb i n) && claimed i a) at.0 at.1
          (both (ns at.0 || eqb at.0 n) (claimed at.0 a) (ap (λ b. b || eqb at.0 n) parts.0) parts.1)

      grows : (a : ℕ) → IsTrue (taken ns a || claimed n a) → taken (with_number ns n) a ≡ true
      grows a t = either (taken ns a) (claimed n a) (taken (with_number ns n) a) t (stays a) (here a)

      shrinks : (a : ℕ) → IsTrue (taken (with_number ns n) a) → (taken ns a || claimed n a) ≡ true
      shrinks a t =
          let at = any_found numbers (λ i. (ns i || eqb i n) && claimed i a) t in
          let parts = and_parts (ns at.0 || eqb at.0 n) (claimed at.0 a) at.2 in
          elim (cases_eq at.0 n) [
            | inl e ↦ ap (λ b. taken ns a || b) (sym (ap (λ i. claimed i a) e) ∙ parts.1) ∙ or_true (taken ns a)
            | inr d ↦ ap (λ b. b || claimed n a)
                (any_here numbers (λ i. ns i && claimed i a) at.0 at.1
                (both (ns at.0) (claimed at.0 a) (sym (or_false (ns at.0)) ∙ ap (λ b. ns at.0 || b) (sym (ne_eqb at.0 n d)) ∙ parts.0) parts.1))
          ]

  -- what the handles up to h name, where h names n
  with_one : (h n i : ℕ) → handle_at holdings h ≡ Some n → is_open_below holdings (suc h) i ≡ (is_open_below holdings h i || eqb i n)
  unfolding any_below
  with_one h n i is = ap (λ b. is_open_below holdings h i || b) (ap (λ (o : Option ℕ). option_map_or (λ j. eqb j i) o false) is ∙ other_way n i)
    where
      other_way : (a b : ℕ) → eqb a b ≡ eqb b a
      other_way a b = bool_same (eqb a b) (eqb b a) (λ t. eq-eqb b a (sym (eqb-true a b t))) (λ t. eq-eqb a b (sym (eqb-true b a t)))

  -- a handle that is open on a bare inode, on another one, and on none
  one_more : (h n : ℕ) (old new : List program.Update) → handle_at holdings h ≡ Some n → bare n ≡ true → FreesFound h old → FreesToo kept.geometry (λ i. eqb i n) (claimed n) old new → FreesFound (suc h) new
  one_more h n old new at is frees too =
      same_numbers (λ i. found h i || eqb i n) (found (suc h)) new
      (λ i. same i ∙ ap (λ b. bare i && b) (sym (with_one h n i at)))
      (one_number_more (found h) n old new (bare_number n is) frees too)
    where
      same : (i : ℕ) → (found h i || eqb i n) ≡ (bare i && (is_open_below holdings h i || eqb i n))
      same i = elim (cases_eq i n) [
        | inl e ↦ ap (λ b. found h i || b) (eq-eqb i n e) ∙ or_true (found h i)
            ∙ sym (both (bare i) (is_open_below holdings h i || eqb i n) (ap bare e ∙ is) (ap (λ b. is_open_below holdings h i || b) (eq-eqb i n e) ∙ or_true (is_open_below holdings h i)))
        | inr d ↦ ap (λ b. found h i || b) (ne_eqb i n d) ∙ or_false (found h i)
            ∙ sym (ap (λ b. bare i && (is_open_below holdings h i || b)) (ne_eqb i n d) ∙ ap (λ b. bare i && b) (or_false (is_open_below holdings h i)))
      ]

  not_this : (h n : ℕ) (us : List program.Update) → handle_at holdings h ≡ Some n → bare n ≡ false → FreesFound h us → FreesFound (suc h) us
  not_this h n us at is frees =
      same_numbers (found h) (found (suc h)) us
      (λ i. same i ∙ ap (λ b. bare i && b) (sym (with_one h n i at)))
      frees
    where
      same : (i : ℕ) → found h i ≡ (bare i && (is_open_below holdings h i || eqb i n))
      same i = elim (cases_eq i n) [
        | inl e ↦ ap (λ b. b && is_open_below holdings h i) (ap bare e ∙ is) ∙ sym (ap (λ b. b && (is_open_below holdings h i || eqb i n)) (ap bare e ∙ is))
        | inr d ↦ sym (ap (λ b. bare i && (is_open_below holdings h i || b)) (ne_eqb i n d) ∙ ap (λ b. bare i && b) (or_false (is_open_below holdings h i)))
      ]

  not_again : (h n : ℕ) (us : List program.Update) → handle_at holdings h ≡ Some n → is_open_below holdings h n ≡ true → FreesFound h us → FreesFound (suc h) us
  not_again h n us at is frees =
      same_numbers (found h) (found (suc h)) us
      (λ i. same i ∙ ap (λ b. bare i && b) (sym (with_one h n i at)))
      frees
    where
      same : (i : ℕ) → found h i ≡ (bare i && (is_open_below holdings h i || eqb i n))
      same i = elim (cases_eq i n) [
        | inl e ↦ ap (λ b. bare i && b) (ap (is_open_below holdings h) e ∙ is) ∙ sym (ap (λ b. bare i && b) (ap (λ b. is_open_below holdings h i || b) (eq-eqb i n e) ∙ or_true (is_open_below holdings h i)))
        | inr d ↦ sym (ap (λ b. bare i && (is_open_below holdings h i || b)) (ne_eqb i n d) ∙ ap (λ b. bare i && b) (or_false (is_open_below holdings h i)))
      ]

  not_open : (h : ℕ) (us : List program.Update) → handle_at holdings h ≡ None → FreesFound h us → FreesFound (suc h) us
  unfolding any_below
  not_open h us at frees =
      same_numbers (found h) (found (suc h)) us
      (λ i. ap (λ b. bare i && b) (sym (ap (λ b. is_open_below holdings h i || b) (ap (λ (o : Option ℕ). option_map_or (λ j. eqb j i) o false) at) ∙ or_false (is_open_below holdings h i))))
      frees

  -- by what a handle is open on
  then_is : (b : Bool) (m n : ℕ) → then_some b m ≡ Some n → (b ≡ true) × (m ≡ n)
  then_is true m n e = (refl, same_Some m n e)
  then_is false m n e = absurd (none-some n e)

  then_none : (b : Bool) (m : ℕ) → then_some b m ≡ None → b ≡ false
  then_none true m e = absurd (none-some m (sym e))
  then_none false m e = refl

  abbrev first : ℕ → ℕ → Bool
  first h i = bare i && not (is_open_below holdings h i)

  one_of : (h n : ℕ) (o : Option ℕ) → option_and_then (λ i. then_some (first h i) i) o ≡ Some n → (o ≡ Some n) × (bare n ≡ true)
  one_of h n None e = absurd (none-some n e)
  one_of h n (Some m) e = let is = then_is (first h m) m n e in (ap Some is.1, sym (ap bare is.1) ∙ (and_parts (bare m) (not (is_open_below holdings h m)) is.0).0)

  pub an_orphan : (h n : ℕ) (old new : List program.Update) → orphan_by kept holdings h ≡ Some n → FreesFound h old → FreesToo kept.geometry (λ i. eqb i n) (claimed n) old new → FreesFound (suc h) new
  an_orphan h n old new is = let at = one_of h n (handle_at holdings h) is in one_more h n old new at.0 at.1

  pub no_orphan : (h : ℕ) (us : List program.Update) → orphan_by kept holdings h ≡ None → FreesFound h us → FreesFound (suc h) us
  no_orphan h us is = by (handle_at holdings h) refl is
    where
      neither : (b o : Bool) → (b && not o) ≡ false → (b ≡ false) ⊎ (o ≡ true)
      neither false o e = inl refl
      neither true true e = inr refl
      neither true false e = absurd (both_ways true e refl)

      by : (o : Option ℕ) → handle_at holdings h ≡ o → option_and_then (λ i. then_some (first h i) i) o ≡ None → FreesFound h us → FreesFound (suc h) us
      by None at e = not_open h us at
      by (Some m) at e = elim (neither (bare m) (is_open_below holdings h m) (then_none (first h m) m e)) [
        | inl none ↦ not_this h m us at none
        | inr again ↦ not_again h m us at again
      ]
