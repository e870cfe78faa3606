-- What a device held, after one more step, and that it stays whole.
use Rattle.std.proofs.Common.{◌≡◌, ◌<◌, ◌≤◌, ◌+◌, ℕ, zero, suc, Bool, true, false, if◌then◌else◌, List, [], ◌∷◌, ◌++◌, length, map, take, drop, get_or, refl, sym, ap, ◌∙◌, subst, All, arith, append-nil}
use Rattle.std.specs.List.{AllByRecursion}
use Rattle.std.proofs.lemmas.List.{drop_all, drop-append-le, map-append, take_all, take_more}
use Rattle.std.proofs.lemmas.List.Elements.{All-from_recursion, All-nil, All-push, recursion_from_All}
use Rattle.model.specs.Image.{IsBlock}
use Rattle.device.specs.declared.cache.Step.{Step}
use Rattle.device.specs.declared.cache.Step.TheVariants.{Wrote, Synced}
use Rattle.device.specs.Cached.{AreWrites, IsSince, held_by}
use Rattle.device.specs.Media.{Held, IsWhole, Medium, begun, cached, chosen, held_after, image_of, images_held, settled, settled_on, step, steps_of, synced, written, writes_in, wrote}
use Rattle.device.specs.MediaLaws.{image_of-held_after}
use Rattle.device.specs.Memory.{IsWriteTo}
use Rattle.device.specs.Writes.{Write, image_after}
use Rattle.device.proofs.WriteLemmas.{image_after-append, length-image_after, whole_after_writes}

-- one more step
pub held_after-push : (k : Bool) (h : Held) (ss : List Step) (s : Step) → held_after k h (ss ++ s ∷ []) ≡ step k (held_after k h ss) s
held_after-push k h [] s = refl
held_after-push k h (r ∷ ss) s = held_after-push k (step k h r) ss s

-- one more write of a device that keeps order
pub held_in_order-push : (h : Held) (ws : List Write) (w : Write) → held_after true h (steps_of (ws ++ w ∷ [])) ≡ wrote true (held_after true h (steps_of ws)) w.0 w.1
held_in_order-push h ws w = ap (held_after true h) (map-append (λ (v : Write). Wrote v.0 v.1) ws (w ∷ [])) ∙ held_after-push true h (steps_of ws) (Wrote w.0 w.1)

-- a sync where nothing is loose
settled_same : (m : Medium) → m.loose ≡ [] → m ≡ settled m
settled_same m none = ap (λ ws. record { durable = m.durable; loose = ws }) none ∙ ap (λ ws. record { durable = image_after m.durable ws; loose = [] }) (sym none)

pub synced_same : (h : Held) → h.now.loose ≡ [] → h ≡ synced h
synced_same h none = ap (λ m. record { media = h.media; now = m }) (settled_same h.now none)

-- the images after one more write
pub images_held-wrote : (k : Bool) (h : Held) (a : ℕ) (block : List ℕ) → images_held (wrote k h a block) ≡ images_held h ++ image_of (wrote k h a block).now ∷ []
images_held-wrote k h a block = map-append image_of h.media (written k h.now a block ∷ [])

-- the same where the device answers this image then
pub images_held-write : (k : Bool) (h h' : Held) (a : ℕ) (block : List ℕ) (image : List (List ℕ)) → h' ≡ wrote k h a block → image ≡ image_of h'.now → images_held h' ≡ images_held h ++ image ∷ []
images_held-write k h h' a block image is answers =
    ap images_held is ∙ images_held-wrote k h a block ∙ ap (λ i. images_held h ++ i ∷ []) (sym (answers ∙ ap (λ (g : Held). image_of g.now) is))

-- ---- the writes among steps

pub writes_in-append : (ss rs : List Step) → writes_in (ss ++ rs) ≡ writes_in ss ++ writes_in rs
writes_in-append [] rs = refl
writes_in-append (Wrote a block ∷ ss) rs = ap (λ vs. (a, block) ∷ vs) (writes_in-append ss rs)
writes_in-append (Synced ∷ ss) rs = writes_in-append ss rs

writes_by_recursion : (P : Write → Type 0) (ss : List Step) (i : ℕ) (d : Step) → i < length ss → AllByRecursion P (writes_in ss) → AllByRecursion P (writes_in (get_or ss i d ∷ []))
writes_by_recursion P [] i d low all = absurd (omega (arith, low))
writes_by_recursion P (Wrote a block ∷ ss) zero d low all = (all.0, tt)
writes_by_recursion P (Synced ∷ ss) zero d low all = tt
writes_by_recursion P (Wrote a block ∷ ss) (suc i) d low all = writes_by_recursion P ss i d (omega (arith, low)) all.1
writes_by_recursion P (Synced ∷ ss) (suc i) d low all = writes_by_recursion P ss i d (omega (arith, low)) all

-- the write of one of them
pub writes_in-at : (P : Write → Type 0) (ss : List Step) (i : ℕ) (d : Step) → i < length ss → All P (writes_in ss) → All P (writes_in (get_or ss i d ∷ []))
writes_in-at P ss i d low all = All-from_recursion P (writes_in (get_or ss i d ∷ [])) (writes_by_recursion P ss i d low (recursion_from_All P (writes_in ss) all))

taken_by_recursion : (P : Write → Type 0) (n : ℕ) (ss : List Step) → AllByRecursion P (writes_in ss) → AllByRecursion P (writes_in (take n ss)) × AllByRecursion P (writes_in (drop n ss))
taken_by_recursion P zero ss all = (tt, all)
taken_by_recursion P (suc n) [] all = (tt, tt)
taken_by_recursion P (suc n) (Wrote a block ∷ ss) all = let rest = taken_by_recursion P n ss all.1 in ((all.0, rest.0), rest.1)
taken_by_recursion P (suc n) (Synced ∷ ss) all = taken_by_recursion P n ss all

-- those of the first steps, and those of the others
pub writes_in-take : (P : Write → Type 0) (n : ℕ) (ss : List Step) → All P (writes_in ss) → All P (writes_in (take n ss))
writes_in-take P n ss all = All-from_recursion P (writes_in (take n ss)) (taken_by_recursion P n ss (recursion_from_All P (writes_in ss) all)).0

pub writes_in-drop : (P : Write → Type 0) (n : ℕ) (ss : List Step) → All P (writes_in ss) → All P (writes_in (drop n ss))
writes_in-drop P n ss all = All-from_recursion P (writes_in (drop n ss)) (taken_by_recursion P n ss (recursion_from_All P (writes_in ss) all)).1

-- one more write, and one more sync
pub writes_in-wrote : (ss : List Step) (a : ℕ) (block : List ℕ) → writes_in (ss ++ Wrote a block ∷ []) ≡ writes_in ss ++ (a, block) ∷ []
writes_in-wrote ss a block = writes_in-append ss (Wrote a block ∷ [])

pub writes_in-synced : (ss : List Step) → writes_in (ss ++ Synced ∷ []) ≡ writes_in ss
writes_in-synced ss = writes_in-append ss (Synced ∷ []) ∙ append-nil (writes_in ss)

-- ---- media that are whole

whole_written : (k : Bool) (n : ℕ) (m : Medium) (a : ℕ) (block : List ℕ) → IsWhole n m → IsWriteTo n (a, block) → IsWhole n (written k m a block)
whole_written true n m a block whole is = record {
  as_many = length-image_after m.durable (m.loose ++ (a, block) ∷ []) ∙ whole.as_many;
  durable = whole_after_writes m.durable n (m.loose ++ (a, block) ∷ []) whole.durable (All-push (IsWriteTo n) m.loose (a, block) whole.loose is);
  loose = All-nil (IsWriteTo n);
}
whole_written false n m a block whole is = record { as_many = whole.as_many; durable = whole.durable; loose = All-push (IsWriteTo n) m.loose (a, block) whole.loose is }

whole_settled : (n : ℕ) (m : Medium) → IsWhole n m → IsWhole n (settled m)
whole_settled n m whole = record {
  as_many = length-image_after m.durable m.loose ∙ whole.as_many;
  durable = whole_after_writes m.durable n m.loose whole.durable whole.loose;
  loose = All-nil (IsWriteTo n);
}

whole_by_recursion : (k : Bool) (n : ℕ) (h : Held) (ss : List Step) → IsWhole n h.now → AllByRecursion (IsWriteTo n) (writes_in ss) → IsWhole n (held_after k h ss).now
whole_by_recursion k n h [] whole all = whole
whole_by_recursion k n h (Wrote a block ∷ ss) whole all = whole_by_recursion k n (wrote k h a block) ss (whole_written k n h.now a block whole all.0) all.1
whole_by_recursion k n h (Synced ∷ ss) whole all = whole_by_recursion k n (synced h) ss (whole_settled n h.now whole) all

pub whole_after : (k : Bool) (n : ℕ) (h : Held) (ss : List Step) → IsWhole n h.now → All (IsWriteTo n) (writes_in ss) → IsWhole n (held_after k h ss).now
whole_after k n h ss whole all = whole_by_recursion k n h ss whole (recursion_from_All (IsWriteTo n) (writes_in ss) all)

pub whole_begun : (image : List (List ℕ)) → All IsBlock image → IsWhole (length image) (settled_on image)
whole_begun image whole = record { as_many = refl; durable = whole; loose = All-nil (IsWriteTo (length image)) }

-- ---- the last sync

writes-push : (ss : List Step) (a : ℕ) (block : List ℕ) → AreWrites ss → AreWrites (ss ++ Wrote a block ∷ [])
writes-push ss a block all =
    ap steps_of (writes_in-wrote ss a block) ∙ map-append (λ (v : Write). Wrote v.0 v.1) (writes_in ss) ((a, block) ∷ []) ∙ ap (λ rs. rs ++ Wrote a block ∷ []) all

module _ (ss : List Step) (n at : ℕ) (d : Step) (low : at < length ss) (known : n ≤ at) (length-take : length (take at ss) ≡ at) (since : IsSince ss n at) where
  one_more : (s : Step) → get_or ss at d ≡ s → take (at + 1) ss ≡ take at ss ++ s ∷ []
  one_more s is = take_more ss at d low ∙ ap (λ r. take at ss ++ r ∷ []) is

  behind_more : (s : Step) → get_or ss at d ≡ s → drop n (take (at + 1) ss) ≡ drop n (take at ss) ++ s ∷ []
  behind_more s is = ap (drop n) (one_more s is) ∙ drop-append-le n (take at ss) (s ∷ []) (omega (arith, known, length-take))

  -- one more write
  pub since_wrote : (a : ℕ) (block : List ℕ) → get_or ss at d ≡ Wrote a block → IsSince ss n (at + 1)
  since_wrote a block is image =
      ap (held_by_now image) (one_more (Wrote a block) is) ∙ ap (λ (h : Held). h.now) (held_after-push false (begun (settled_on image)) (take at ss) (Wrote a block))
      ∙ ap (λ m. cached m a block) (since image)
      ∙ ap (λ ws. record { durable = image_after image (writes_in (take n ss)); loose = ws }) (sym (ap writes_in (behind_more (Wrote a block) is) ∙ writes_in-wrote (drop n (take at ss)) a block))
    where
      held_by_now : List (List ℕ) → List Step → Medium
      held_by_now start rs = (held_by start rs).now

  pub writes_more : (a : ℕ) (block : List ℕ) → get_or ss at d ≡ Wrote a block → AreWrites (drop n (take at ss)) → AreWrites (drop n (take (at + 1) ss))
  writes_more a block is all = subst AreWrites (sym (behind_more (Wrote a block) is)) (writes-push (drop n (take at ss)) a block all)

-- a sync
pub since_synced : (ss : List Step) (at : ℕ) (d : Step) → at < length ss → length (take (at + 1) ss) ≡ at + 1 → get_or ss at d ≡ Synced → IsSince ss (at + 1) (at + 1)
since_synced ss at d low count is image =
    let more : take (at + 1) ss ≡ take at ss ++ Synced ∷ [] = take_more ss at d low ∙ ap (λ r. take at ss ++ r ∷ []) is in
    ap (λ rs. (held_by image rs).now) more ∙ ap (λ (h : Held). h.now) (held_after-push false (begun (settled_on image)) (take at ss) Synced)
    ∙ ap (λ i. record { durable = i; loose = [] }) (image_of-held_after false (begun (settled_on image)) (take at ss)
    ∙ ap (image_after image) (sym (ap writes_in more ∙ writes_in-synced (take at ss))))
    ∙ ap (λ ws. record { durable = image_after image (writes_in (take (at + 1) ss)); loose = ws }) (sym (ap writes_in (drop_all (at + 1) (take (at + 1) ss) (omega (arith, count)))))

pub no_writes_behind : (ss : List Step) (at : ℕ) → length (take at ss) ≡ at → AreWrites (drop at (take at ss))
no_writes_behind ss at count = subst AreWrites (sym (drop_all at (take at ss) (omega (arith, count)))) refl

-- ---- writes that are picked

pub chosen_writes : (ws : List Write) (picks : List Bool) → writes_in (chosen (steps_of ws) picks) ≡ chosen ws picks
chosen_writes [] picks = refl
chosen_writes (w ∷ ws) [] = refl
chosen_writes (w ∷ ws) (true ∷ picks) = ap (λ vs. w ∷ vs) (chosen_writes ws picks)
chosen_writes (w ∷ ws) (false ∷ picks) = chosen_writes ws picks

-- one more of a list is chosen, or is not
pub chosen-push : {X : Type 0} (xs : List X) (x : X) (picks : List Bool) → chosen (xs ++ x ∷ []) picks ≡ chosen xs picks ++ (if get_or picks (length xs) false then x ∷ [] else [])
chosen-push [] x [] = refl
chosen-push [] x (true ∷ picks) = refl
chosen-push [] x (false ∷ picks) = refl
chosen-push (y ∷ xs) x [] = refl
chosen-push (y ∷ xs) x (true ∷ picks) = ap (λ ys. y ∷ ys) (chosen-push xs x picks)
chosen-push (y ∷ xs) x (false ∷ picks) = chosen-push xs x picks

-- what holds of each, holds of those that are chosen
chosen_by_recursion : {X : Type 0} (P : X → Type 0) (xs : List X) (picks : List Bool) → AllByRecursion P xs → AllByRecursion P (chosen xs picks)
chosen_by_recursion P [] picks all = tt
chosen_by_recursion P (x ∷ xs) [] all = tt
chosen_by_recursion P (x ∷ xs) (true ∷ picks) all = (all.0, chosen_by_recursion P xs picks all.1)
chosen_by_recursion P (x ∷ xs) (false ∷ picks) all = chosen_by_recursion P xs picks all.1

pub All-chosen : {X : Type 0} (P : X → Type 0) (xs : List X) (picks : List Bool) → All P xs → All P (chosen xs picks)
All-chosen P xs picks all = All-from_recursion P (chosen xs picks) (chosen_by_recursion P xs picks (recursion_from_All P xs all))

-- ---- steps that are made

-- the steps up to one, and that one
pub made_more : (image blocks blocks' : List (List ℕ)) (ss : List Step) (i : ℕ) (d : Step) → i < length ss → blocks ≡ image_after image (writes_in (take i ss))
    → blocks' ≡ image_after blocks (writes_in (get_or ss i d ∷ [])) → blocks' ≡ image_after image (writes_in (take (i + 1) ss))
made_more image blocks blocks' ss i d low before next =
    next ∙ ap (λ b. image_after b (writes_in (get_or ss i d ∷ []))) before ∙ sym (image_after-append image (writes_in (take i ss)) (writes_in (get_or ss i d ∷ [])))
    ∙ ap (image_after image) (sym (ap writes_in (take_more ss i d low) ∙ writes_in-append (take i ss) (get_or ss i d ∷ [])))

-- the same with those that are picked
pub picked_more : (image blocks blocks' : List (List ℕ)) (ss : List Step) (picks : List Bool) (i : ℕ) (d : Step) → i < length ss → length (take i ss) ≡ i
    → blocks ≡ image_after image (writes_in (chosen (take i ss) picks)) → blocks' ≡ image_after blocks (writes_in (if get_or picks i false then get_or ss i d ∷ [] else []))
    → blocks' ≡ image_after image (writes_in (chosen (take (i + 1) ss) picks))
picked_more image blocks blocks' ss picks i d low count before next =
    next ∙ ap (λ b. image_after b (writes_in one)) before ∙ sym (image_after-append image (writes_in (chosen (take i ss) picks)) (writes_in one))
    ∙ ap (image_after image) (sym (ap (λ rs. writes_in (chosen rs picks)) (take_more ss i d low)
    ∙ ap writes_in (chosen-push (take i ss) (get_or ss i d) picks ∙ ap (λ k. chosen (take i ss) picks ++ (if get_or picks k false then get_or ss i d ∷ [] else [])) count)
    ∙ writes_in-append (chosen (take i ss) picks) one))
  where
    one : List Step
    one = if get_or picks i false then get_or ss i d ∷ [] else []

-- the write of one of them is within the blocks
pub one_within : (image blocks : List (List ℕ)) (ws : List Write) (ss : List Step) (i : ℕ) (d : Step) → blocks ≡ image_after image ws → i < length ss → All (IsWriteTo (length image)) (writes_in ss)
    → All (IsWriteTo (length blocks)) (writes_in (get_or ss i d ∷ []))
one_within image blocks ws ss i d is low all =
    subst (λ n. All (IsWriteTo n) (writes_in (get_or ss i d ∷ []))) (sym (ap length is ∙ length-image_after image ws)) (writes_in-at (IsWriteTo (length image)) ss i d low all)

picked_by_recursion : (P : Write → Type 0) (ss : List Step) (picks : List Bool) → AllByRecursion P (writes_in ss) → AllByRecursion P (writes_in (chosen ss picks))
picked_by_recursion P [] picks all = tt
picked_by_recursion P (s ∷ ss) [] all = tt
picked_by_recursion P (Wrote a block ∷ ss) (true ∷ picks) all = (all.0, picked_by_recursion P ss picks all.1)
picked_by_recursion P (Synced ∷ ss) (true ∷ picks) all = picked_by_recursion P ss picks all
picked_by_recursion P (Wrote a block ∷ ss) (false ∷ picks) all = picked_by_recursion P ss picks all.1
picked_by_recursion P (Synced ∷ ss) (false ∷ picks) all = picked_by_recursion P ss picks all

picked_within : (P : Write → Type 0) (ss : List Step) (picks : List Bool) → All P (writes_in ss) → All P (writes_in (chosen ss picks))
picked_within P ss picks all = All-from_recursion P (writes_in (chosen ss picks)) (picked_by_recursion P ss picks (recursion_from_All P (writes_in ss) all))

-- ---- what is left: first the steps up to the last sync, then those behind it that are picked
module _ (first blocks left : List (List ℕ)) (made : List Step) (n : ℕ) (picks : List Bool) (before : blocks ≡ image_after first (writes_in (take n made))) (behind : left ≡ image_after blocks (writes_in (chosen (drop n made) picks))) where
  pub left_count : length left ≡ length first
  left_count = ap length behind ∙ length-image_after blocks (writes_in (chosen (drop n made) picks)) ∙ ap length before ∙ length-image_after first (writes_in (take n made))

  pub left_whole : All IsBlock first → All (IsWriteTo (length first)) (writes_in made) → All IsBlock left
  left_whole whole all =
      let P = IsWriteTo (length first) in
      let whole' : All IsBlock blocks = subst (All IsBlock) (sym before) (whole_after_writes first (length first) (writes_in (take n made)) whole (writes_in-take P n made all)) in
      subst (All IsBlock) (sym behind)
      (whole_after_writes blocks (length first) (writes_in (chosen (drop n made) picks)) whole' (picked_within P (drop n made) picks (writes_in-drop P n made all)))

  pub left_is : IsSince made n (length made) → AreWrites (drop n made) → left ≡ image_after (held_by first made).now.durable (chosen (held_by first made).now.loose picks)
  left_is since writes =
      behind ∙ ap (λ image. image_after image (writes_in (chosen (drop n made) picks))) before
      ∙ ap (λ ss. image_after (image_after first (writes_in (take n made))) (writes_in (chosen ss picks))) (sym writes)
      ∙ ap (image_after (image_after first (writes_in (take n made)))) (chosen_writes (writes_in (drop n made)) picks)
      ∙ ap (λ (m : Medium). image_after m.durable (chosen m.loose picks)) (sym now)
    where
      all_of_them : take (length made) made ≡ made
      all_of_them = take_all (length made) made (omega arith)

      now : (held_by first made).now ≡ record { durable = image_after first (writes_in (take n made)); loose = writes_in (drop n made) }
      now =
          ap (λ ss. (held_by first ss).now) (sym all_of_them) ∙ since first
          ∙ ap (λ ss. record { durable = image_after first (writes_in (take n made)); loose = writes_in (drop n ss) }) all_of_them
