-- What a loss of power leaves of a medium after one more write, and that a block may be left there as it is now.
use Rattle.std.proofs.Common.{◌≡◌, ℕ, Bool, true, false, if◌then◌else◌, eqb, List, [], ◌∷◌, ◌++◌, map, length, get_or, inl, inr, ◌⊎◌, refl, sym, ap, ◌∙◌, subst, slice_set, arith, append-nil, get_or-set_same, get_or-set_other}
use Rattle.std.proofs.lemmas.Bool.{cases_Bool, cases_eq, cases_lt, eq-eqb, ne_eqb}
use Rattle.std.proofs.lemmas.List.{get_or_past, length-set}
use Rattle.model.specs.Image.{block_at}
use Rattle.device.specs.Media.{MayBeLeft, Medium, chosen, image_of, settled, written}
use Rattle.device.specs.MediaLaws.{image_after-push}
use Rattle.device.specs.Writes.{Write, image_after}
use Rattle.device.proofs.MediaLemmas.{chosen-push}
use Rattle.device.proofs.WriteLemmas.{length-image_after}

-- ---- all of the writes

abbrev all_of : List Write → List Bool
all_of ws = map (λ _. true) ws

chosen_all : (ws : List Write) → chosen ws (all_of ws) ≡ ws
chosen_all [] = refl
chosen_all (w ∷ ws) = ap (λ vs. w ∷ vs) (chosen_all ws)

pub answered_leaves : (m : Medium) → MayBeLeft m (image_of m)
answered_leaves m = (all_of m.loose, ap (image_after m.durable) (sym (chosen_all m.loose)))

pub settled_leaves : (m : Medium) (image : List (List ℕ)) → MayBeLeft (settled m) image → MayBeLeft m image
settled_leaves m image may = (all_of m.loose, may.1 ∙ ap (image_after m.durable) (sym (chosen_all m.loose)))

pub left_length : (m : Medium) (image : List (List ℕ)) → MayBeLeft m image → length image ≡ length (image_of m)
left_length m image may = ap length may.1 ∙ length-image_after m.durable (chosen m.loose may.0) ∙ sym (length-image_after m.durable m.loose)

-- ---- one more write

-- it is left, or it is not
abbrev pub IsLeftOrNot : Medium → ℕ → List ℕ → List (List ℕ) → Type 0
IsLeftOrNot m a block image = (left : List (List ℕ)) × MayBeLeft m left × ((image ≡ slice_set left a block) ⊎ (image ≡ left))

pub written_leaves : (keeps_order : Bool) (m : Medium) (a : ℕ) (block : List ℕ) (image : List (List ℕ)) → MayBeLeft (written keeps_order m a block) image → IsLeftOrNot m a block image
written_leaves true m a block image may = (image_of m, answered_leaves m, inl (may.1 ∙ image_after-push m.durable m.loose (a, block)))
written_leaves false m a block image may = (
  left,
  (may.0, refl),
  elim (cases_Bool last) [
    | inl is ↦ inl (split ∙ ap (λ b. image_after m.durable (before ++ (if b then (a, block) ∷ [] else []))) is ∙ image_after-push m.durable before (a, block))
    | inr none ↦ inr (split ∙ ap (λ b. image_after m.durable (before ++ (if b then (a, block) ∷ [] else []))) none ∙ ap (image_after m.durable) (append-nil before))
  ],
)
  where
    before : List Write
    before = chosen m.loose may.0

    left : List (List ℕ)
    left = image_after m.durable before

    last : Bool
    last = get_or may.0 (length m.loose) false

    split : image ≡ image_after m.durable (before ++ (if last then (a, block) ∷ [] else []))
    split = may.1 ∙ ap (image_after m.durable) (chosen-push m.loose (a, block) may.0)

-- ---- images that have the same block at an address

-- they are as long, and have the same block there
pub record Agrees (b : ℕ) (x y : List (List ℕ)) : Type 0 where
  pub count : length x ≡ length y
  pub block : block_at x b ≡ block_at y b

module _ (b : ℕ) (x y : List (List ℕ)) (same : Agrees b x y) (a : ℕ) (block : List ℕ) where
  set_left : (b ≡ a → ⊥) → Agrees b (slice_set x a block) y
  set_left other = record { count = length-set x a block ∙ same.count; block = get_or-set_other x a b block [] other ∙ same.block }

  set_right : (b ≡ a → ⊥) → Agrees b x (slice_set y a block)
  set_right other = record { count = same.count ∙ sym (length-set y a block); block = same.block ∙ sym (get_or-set_other y a b block [] other) }

  set_here : b ≡ a → block_at (slice_set x a block) b ≡ block_at (slice_set y a block) b
  set_here e = elim (cases_lt a (length x)) [
    | inl low ↦
        ap (block_at (slice_set x a block)) e ∙ get_or-set_same x a block [] low
        ∙ sym (ap (block_at (slice_set y a block)) e ∙ get_or-set_same y a block [] (omega (arith, low, same.count)))
    | inr past ↦
        let before = length-set x a block in
        let behind = length-set y a block in
        get_or_past (slice_set x a block) b [] (omega (arith, past, before, e)) ∙ sym (get_or_past (slice_set y a block) b [] (omega (arith, past, behind, same.count, e)))
  ]

  set_both : Agrees b (slice_set x a block) (slice_set y a block)
  set_both = record {
    count = length-set x a block ∙ same.count ∙ sym (length-set y a block);
    block = elim (cases_eq b a) [
      | inl e ↦ set_here e
      | inr other ↦ get_or-set_other x a b block [] other ∙ same.block ∙ sym (get_or-set_other y a b block [] other)
    ];
  }

-- ---- the writes to one address are chosen too
raised : ℕ → List Write → List Bool → List Bool
raised a [] picks = []
raised a (w ∷ ws) [] = eqb w.0 a ∷ raised a ws []
raised a (w ∷ ws) (true ∷ picks) = true ∷ raised a ws picks
raised a (w ∷ ws) (false ∷ picks) = eqb w.0 a ∷ raised a ws picks

abbrev after_raised : ℕ → List (List ℕ) → List Write → List Bool → List (List ℕ)
after_raised a x ws picks = image_after x (chosen ws (raised a ws picks))

-- the head of them
abbrev with_head : List (List ℕ) → Write → List Write → Bool → List Bool → List (List ℕ)
with_head x w ws pick picks = image_after x (chosen (w ∷ ws) (pick ∷ picks))

-- none of them is chosen
chosen_none : (ws : List Write) → chosen ws [] ≡ []
chosen_none [] = refl
chosen_none (w ∷ ws) = refl

with_none : (b : ℕ) (x y : List (List ℕ)) (ws : List Write) → Agrees b x (image_after y (chosen ws [])) → Agrees b x y
with_none b x y ws same = subst (λ vs. Agrees b x (image_after y vs)) (chosen_none ws) same

-- the blocks at all other addresses stay
others_agree : (a b : ℕ) → (b ≡ a → ⊥) → (ws : List Write) (picks : List Bool) (x y : List (List ℕ)) → Agrees b x y → Agrees b (after_raised a x ws picks) (image_after y (chosen ws picks))
unfolding raised
others_agree a b other [] picks x y same = same
others_agree a b other (w ∷ ws) [] x y same = elim (cases_eq w.0 a) [
  | inl e ↦
      subst (λ p. Agrees b (with_head x w ws p (raised a ws [])) y) (sym (eq-eqb w.0 a e))
      (with_none b (after_raised a (slice_set x w.0 w.1) ws []) y ws (others_agree a b other ws [] (slice_set x w.0 w.1) y (set_left b x y same w.0 w.1 (λ d. other (d ∙ e)))))
  | inr d ↦
      subst (λ p. Agrees b (with_head x w ws p (raised a ws [])) y) (sym (ne_eqb w.0 a d))
      (with_none b (after_raised a x ws []) y ws (others_agree a b other ws [] x y same))
]
others_agree a b other (w ∷ ws) (true ∷ picks) x y same = others_agree a b other ws picks (slice_set x w.0 w.1) (slice_set y w.0 w.1) (set_both b x y same w.0 w.1)
others_agree a b other (w ∷ ws) (false ∷ picks) x y same = elim (cases_eq w.0 a) [
  | inl e ↦
      subst (λ p. Agrees b (with_head x w ws p (raised a ws picks)) (image_after y (chosen ws picks))) (sym (eq-eqb w.0 a e))
      (others_agree a b other ws picks (slice_set x w.0 w.1) y (set_left b x y same w.0 w.1 (λ d. other (d ∙ e))))
  | inr d ↦ subst (λ p. Agrees b (with_head x w ws p (raised a ws picks)) (image_after y (chosen ws picks))) (sym (ne_eqb w.0 a d)) (others_agree a b other ws picks x y same)
]

-- and the block at this address is the one after all writes
here_agrees : (a : ℕ) (ws : List Write) (picks : List Bool) (x y : List (List ℕ)) → Agrees a x y → Agrees a (after_raised a x ws picks) (image_after y ws)
unfolding raised
here_agrees a [] picks x y same = same
here_agrees a (w ∷ ws) [] x y same = elim (cases_eq w.0 a) [
  | inl e ↦
      subst (λ p. Agrees a (with_head x w ws p (raised a ws [])) (image_after (slice_set y w.0 w.1) ws)) (sym (eq-eqb w.0 a e))
      (here_agrees a ws [] (slice_set x w.0 w.1) (slice_set y w.0 w.1) (set_both a x y same w.0 w.1))
  | inr d ↦
      subst (λ p. Agrees a (with_head x w ws p (raised a ws [])) (image_after (slice_set y w.0 w.1) ws)) (sym (ne_eqb w.0 a d))
      (here_agrees a ws [] x (slice_set y w.0 w.1) (set_right a x y same w.0 w.1 (λ e. d (sym e))))
]
here_agrees a (w ∷ ws) (true ∷ picks) x y same = here_agrees a ws picks (slice_set x w.0 w.1) (slice_set y w.0 w.1) (set_both a x y same w.0 w.1)
here_agrees a (w ∷ ws) (false ∷ picks) x y same = elim (cases_eq w.0 a) [
  | inl e ↦
      subst (λ p. Agrees a (with_head x w ws p (raised a ws picks)) (image_after (slice_set y w.0 w.1) ws)) (sym (eq-eqb w.0 a e))
      (here_agrees a ws picks (slice_set x w.0 w.1) (slice_set y w.0 w.1) (set_both a x y same w.0 w.1))
  | inr d ↦
      subst (λ p. Agrees a (with_head x w ws p (raised a ws picks)) (image_after (slice_set y w.0 w.1) ws)) (sym (ne_eqb w.0 a d))
      (here_agrees a ws picks x (slice_set y w.0 w.1) (set_right a x y same w.0 w.1 (λ e. d (sym e))))
]

-- Another image may be left as well: it has the block that the device answers at this address, and the same ones elsewhere.
pub record Raised (m : Medium) (was : List (List ℕ)) (a : ℕ) : Type 0 where
  pub image : List (List ℕ)
  pub might : MayBeLeft m image
  pub here : block_at image a ≡ block_at (image_of m) a
  pub others : (b : ℕ) → (b ≡ a → ⊥) → block_at image b ≡ block_at was b

pub raise : (m : Medium) (was : List (List ℕ)) (a : ℕ) → MayBeLeft m was → Raised m was a
raise m was a may = record {
  image = after_raised a m.durable m.loose may.0;
  might = (raised a m.loose may.0, refl);
  here = here.block;
  others = λ b other.
      let same = others_agree a b other m.loose may.0 m.durable m.durable (record { count = refl; block = refl }) in same.block ∙ ap (λ x. block_at x b) (sym may.1);
}
  where
    here : Agrees a (after_raised a m.durable m.loose may.0) (image_of m)
    here = here_agrees a m.loose may.0 m.durable m.durable (record { count = refl; block = refl })
