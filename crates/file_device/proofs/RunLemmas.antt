-- Runs of blocks, as writes: one more, one replaced, and where they stand.
use Rattle.std.proofs.Common.{◌≡◌, ◌<◌, ◌≤◌, ◌+◌, ◌-◌, if◌then◌else◌, inl, inr, ℕ, zero, suc, Bool, true, false, not, Option, Some, None, List, [], ◌∷◌, ◌++◌, length, take, slice_index_or, set as slice_set, refl, sym, ap, ap₂, ◌∙◌, subst, arith}
use Rattle.std.proofs.Common.{get_or-set_same, get_or-set_other}
use Rattle.std.specs.Prelude.{IfSome, is_some}
use Rattle.std.proofs.lemmas.Bool.{eq-eqb, ne_eqb, true≢false, false≢true}
use Rattle.std.proofs.lemmas.Bool.Decides.{eqb_tells}
use Rattle.std.proofs.lemmas.List.{append_assoc, map-append, length-take-le, length-set, take_more, take_more_set, get_or-take}
use Rattle.model.specs.Image.{block_at}
use Rattle.device.specs.Writes.{Write, image_after}
use Rattle.file_device.specs.Calls.{Answered, call_at, calls_of, writes_from}
use Rattle.file_device.specs.declared.run.Run.{Run}
use Rattle.file_device.specs.Runs.{IsKept, IsUntouched, waiting, writes_of_run, blocks_of_run, replaced_one, replaced, IsCopy, AreCopies}

-- one more block
pub writes_from-push : (a : ℕ) (xs : List (List ℕ)) (x : List ℕ) → writes_from a (xs ++ x ∷ []) ≡ writes_from a xs ++ (a + length xs, x) ∷ []
writes_from-push a [] x = ap (λ n. (n, x) ∷ []) (let e : a ≡ a + 0 = omega arith in e)
writes_from-push a (y ∷ ys) x =
    ap (λ ws. (a, y) ∷ ws)
    (writes_from-push (suc a) ys x ∙ ap (λ n. writes_from (suc a) ys ++ (n, x) ∷ []) (let e : suc a + length ys ≡ a + suc (length ys) = omega arith in e))

-- a block behind the first n is put there
pub writes_from-put : (a n : ℕ) (blocks : List (List ℕ)) (block : List ℕ) → n < length blocks → writes_from a (take (n + 1) (slice_set blocks n block)) ≡ writes_from a (take n blocks) ++ (a + n, block) ∷ []
writes_from-put a n blocks block low =
    ap (writes_from a) (take_more_set blocks n block low) ∙ writes_from-push a (take n blocks) block
    ∙ ap (λ k. writes_from a (take n blocks) ++ (a + k, block) ∷ []) (length-take-le n blocks (omega (arith, low)))

-- what was answered of the first blocks, and of the next one
pub add_next : (is_write : Bool) (a i : ℕ) (blocks : List (List ℕ)) (old mid new : List Answered) → i < length blocks → mid ≡ old ++ calls_of is_write (writes_from a (take i blocks))
    → new ≡ mid ++ (call_at is_write (a + i), slice_index_or blocks i []) ∷ [] → new ≡ old ++ calls_of is_write (writes_from a (take (i + 1) blocks))
add_next is_write a i blocks old mid new low before next =
    next ∙ ap (λ es. es ++ (call_at is_write (a + i), slice_index_or blocks i []) ∷ []) before ∙ append_assoc old (calls_of is_write (writes_from a (take i blocks))) ((call_at is_write (a + i), slice_index_or blocks i []) ∷ [])
    ∙ ap (λ es. old ++ es) (sym (ap (λ bs. calls_of is_write (writes_from a bs)) (take_more blocks i [] low)
    ∙ ap (calls_of is_write) (writes_from-push a (take i blocks) (slice_index_or blocks i []))
    ∙ map-append (λ (w : Write). (call_at is_write w.0, w.1)) (writes_from a (take i blocks)) ((a + length (take i blocks), slice_index_or blocks i []) ∷ [])
    ∙ ap (λ k. calls_of is_write (writes_from a (take i blocks)) ++ (call_at is_write (a + k), slice_index_or blocks i []) ∷ []) (length-take-le i blocks (omega (arith, low)))))

-- ---- what is found

pub none_of : {X : Type 0} (r : Option X) (is_none : Bool) → is_some r ≡ not is_none → is_none ≡ true → r ≡ None
none_of None is_none tells none = refl
none_of (Some x) is_none tells none = absurd (true≢false (tells ∙ ap not none))

-- what is found has what is said of it
pub some_of : {X : Type 0} (P : X → Type 0) (r : Option X) (is_none : Bool) → IfSome r P → is_some r ≡ not is_none → is_none ≡ false → (x : X) × P x
some_of P None is_none said tells some = absurd (false≢true (tells ∙ ap not some))
some_of P (Some x) is_none said tells some = (x, said)

-- a block of the room, among those that are kept
pub kept_in : (run : Run) (a : ℕ) (all : List (List ℕ)) → all ≡ run.blocks.value.all → length all ≡ 32 → run.span.first ≤ a → a - run.span.first < run.span.count
    → IsKept run a (slice_index_or all (a - run.span.first) [])
kept_in run a all same room from to =
    let long : length (blocks_of_run run) ≡ run.span.count = length-take-le run.span.count run.blocks.value.all (omega (arith, ap length same, room, run.span.few)) in
    record {
      from = from;
      to = omega (arith, from, to, long);
      is = ap (λ bs. slice_index_or bs (a - run.span.first) []) same ∙ sym (get_or-take run.span.count run.blocks.value.all (a - run.span.first) [] to);
    }

-- ---- a block is replaced

pub replaced_other : (a : ℕ) (block : List ℕ) (w : Write) → (w.0 ≡ a → ⊥) → replaced_one a block w ≡ w
replaced_other a block w differs = ap (λ q. if q then (a, block) else w) (ne_eqb w.0 a differs)

pub replaced_same : (a : ℕ) (block : List ℕ) (w : Write) → w.0 ≡ a → replaced_one a block w ≡ (a, block)
replaced_same a block w same = ap (λ q. if q then (a, block) else w) (eq-eqb w.0 a same)

-- no block of a run that does not reach there
pub replaced_outside : (a : ℕ) (block : List ℕ) (f : ℕ) (xs : List (List ℕ)) → (f ≤ a → a < f + length xs → ⊥) → replaced a block (writes_from f xs) ≡ writes_from f xs
replaced_outside a block f [] out = refl
replaced_outside a block f (x ∷ xs) out =
    ap₂ (λ w ws. w ∷ ws) (replaced_other a block (f, x) (λ e. out (omega (arith, e)) (omega (arith, e))))
    (replaced_outside a block (suc f) xs (λ l b. out (omega (arith, l)) (omega (arith, l, b))))

-- ---- blocks of an image

-- writes that do not reach there leave the block
pub untouched : (a : ℕ) (xs : List (List ℕ)) (k : ℕ) (image : List (List ℕ)) → (a ≤ k → k < a + length xs → ⊥) → block_at (image_after image (writes_from a xs)) k ≡ block_at image k
untouched a [] k image out = refl
untouched a (x ∷ xs) k image out =
    untouched (suc a) xs k (slice_set image a x) (λ l b. out (omega (arith, l)) (omega (arith, l, b)))
    ∙ get_or-set_other image a k x [] (λ e. out (omega (arith, e)) (omega (arith, e)))

-- a block of a run of copies
pub copy_at : (a i : ℕ) (xs : List (List ℕ)) (image : List (List ℕ)) → AreCopies image (writes_from a xs) → i < length xs → a + i < length image → block_at xs i ≡ block_at image (a + i)
copy_at a i [] image h low within = absurd (omega (arith, low))
copy_at a zero (x ∷ xs) image h low within = h.0 (omega (arith, within)) ∙ ap (block_at image) (let e : a ≡ a + 0 = omega arith in e)
copy_at a (suc i) (x ∷ xs) image h low within =
    copy_at (suc a) i xs image h.1 (omega (arith, low)) (omega (arith, within)) ∙ ap (block_at image) (let e : suc a + i ≡ a + suc i = omega arith in e)

-- a block that is found in a run of copies
pub kept_copy : (image : List (List ℕ)) (run : Run) (a : ℕ) (block : List ℕ) → AreCopies image (writes_of_run run) → IsKept run a block → a < length image → block ≡ block_at image a
kept_copy image run a block h kept low =
    let there : run.span.first + (a - run.span.first) ≡ a = omega (arith, kept.from) in
    kept.is ∙ copy_at run.span.first (a - run.span.first) (blocks_of_run run) image h (omega (arith, kept.from, kept.to)) (omega (arith, kept.from, low)) ∙ ap (block_at image) there

-- where none is found, none waits
pub waiting_untouched : (waits : Bool) (run : Run) (a : ℕ) → ((block : List ℕ) → IsKept run a block → ⊥) → IsUntouched (waiting waits run) a
waiting_untouched false run a none image = refl
waiting_untouched true run a none image = untouched run.span.first (blocks_of_run run) a image (λ f t. none (block_at (blocks_of_run run) (a - run.span.first)) (record { from = f; to = t; is = refl }))

pub none_waits : (waits : Bool) (run : Run) → waits ≡ false → waiting waits run ≡ []
none_waits waits run e = ap (λ w. waiting w run) e

pub all_wait : (waits : Bool) (run : Run) → waits ≡ true → waiting waits run ≡ writes_of_run run
all_wait waits run e = ap (λ w. waiting w run) e

-- ---- copies, and one more write

replaced_copy : (image : List (List ℕ)) (a : ℕ) (block : List ℕ) (w : Write) → IsCopy image w → IsCopy (slice_set image a block) (replaced_one a block w)
replaced_copy image a block w h =
    elim (eqb_tells w.0 a) [
      | inl t ↦ subst (λ q. IsCopy (slice_set image a block) (if q then (a, block) else w)) (sym t.0)
          (λ l. sym (get_or-set_same image a block [] (omega (arith, l, length-set image a block))))
      | inr t ↦ subst (λ q. IsCopy (slice_set image a block) (if q then (a, block) else w)) (sym t.0)
          (λ l. h (omega (arith, l, length-set image a block)) ∙ sym (get_or-set_other image a w.0 block [] t.1))
    ]

pub replaced_copies : (image : List (List ℕ)) (a : ℕ) (block : List ℕ) (ws : List Write) → AreCopies image ws → AreCopies (slice_set image a block) (replaced a block ws)
replaced_copies image a block [] h = tt
replaced_copies image a block (w ∷ ws) h = (replaced_copy image a block w h.0, replaced_copies image a block ws h.1)

pub written_copy : (image : List (List ℕ)) (a : ℕ) (block : List ℕ) → IsCopy (slice_set image a block) (a, block)
written_copy image a block l = sym (get_or-set_same image a block [] (omega (arith, l, length-set image a block)))

pub push_copies : (image : List (List ℕ)) (ws : List Write) (w : Write) → AreCopies image ws → IsCopy image w → AreCopies image (ws ++ w ∷ [])
push_copies image [] w h is = (is, tt)
push_copies image (v ∷ ws) w h is = (h.0, push_copies image ws w h.1 is)
