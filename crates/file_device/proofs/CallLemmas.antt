-- Calls that a file answered, one more of them, and what a device over it then is.
use Rattle.std.proofs.Common.{◌≡◌, ◌<◌, ◌≤◌, ◌+◌, ℕ, suc, Bool, true, false, List, [], ◌∷◌, ◌++◌, ◌⊎◌, inl, inr, length, Result, Ok, Err, refl, sym, ap, ap₂, ◌∙◌, subst, set as slice_set, All, append-nil, arith}
use Rattle.std.specs.Prelude.{OnErr, OnOk}
use Rattle.std.specs.List.{AllByRecursion}
use Rattle.std.proofs.lemmas.List.{append_assoc, map-append}
use Rattle.std.proofs.lemmas.List.FromFn.{get_or-map-range_with_len, length-map-range_with_len}
use Rattle.std.proofs.lemmas.List.Elements.{All-from_recursion, recursion_from_All}
use Rattle.std.proofs.lemmas.Grind.{flat_map-append}
use Rattle.model.specs.Image.{IsBlock, block_at}
use Rattle.device.specs.declared.cache.Step.{Step}
use Rattle.device.specs.declared.cache.Step.TheVariants.{Wrote, Synced}
use Rattle.device.specs.Media.{IsWhole, begun, held_after, settled_on, step, steps_of, writes_in}
use Rattle.device.specs.MediaLaws.{image_after-push}
use Rattle.device.specs.Memory.{IsWriteTo}
use Rattle.device.specs.Writes.{Write, image_after}
use Rattle.device.proofs.MediaLemmas.{held_after-push, whole_after, writes_in-append}
use Rattle.device.proofs.WriteLemmas.{image_after-append, length-image_after}
use Rattle.file_device.specs.declared.file.Call.{Call}
use Rattle.file_device.specs.declared.file.Call.TheVariants.{ReadBlock, WriteBlock, Sync, Refuse}
use Rattle.file_device.specs.Calls.{Answered, write_of, writes_of, writes_from, calls_of, after_call, AreHonest, image_of, Calls, GoesOn, IsHonestFile, all_steps, all_writes, has_refused, held_so_far, image_now, opened, refused_by, step_of, steps_in, sync_of}
use Rattle.file_device.specs.CallLaws.{opened_image, writes_in-all_steps}
use Rattle.file_device.specs.Runs.{IsUntouched}

-- the writes of these calls, and of more
pub writes_of-append : (es fs : List Answered) → writes_of (es ++ fs) ≡ writes_of es ++ writes_of fs
writes_of-append es fs = flat_map-append (λ (e : Answered). write_of e.0 e.1) es fs

-- calls that write these blocks, and calls that read them
pub writes_of-writes : (ws : List Write) → writes_of (calls_of true ws) ≡ ws
writes_of-writes [] = refl
writes_of-writes (w ∷ ws) = ap (λ vs. w ∷ vs) (writes_of-writes ws)

pub writes_of-reads : (ws : List Write) → writes_of (calls_of false ws) ≡ []
writes_of-reads [] = refl
writes_of-reads (w ∷ ws) = writes_of-reads ws

-- what an image is after a call and more writes
after_first : (image : List (List ℕ)) (call : Call) (block : List ℕ) (ws : List Write) → image_after image (write_of call block ++ ws) ≡ image_after (after_call image call block) ws
after_first image (ReadBlock a) block ws = refl
after_first image (WriteBlock a) block ws = refl
after_first image Sync block ws = refl
after_first image Refuse block ws = refl

-- a file that was honest in more calls was so before them, and told the truth in them
pub honest-append : (image : List (List ℕ)) (es fs : List Answered) → AreHonest image (es ++ fs) → AreHonest image es × AreHonest (image_after image (writes_of es)) fs
honest-append image [] fs h = (tt, h)
honest-append image (e ∷ es) fs h =
    let rest = honest-append (after_call image e.0 e.1) es fs h.1 in
    ((h.0, rest.0), subst (λ i. AreHonest i fs) (sym (after_first image e.0 e.1 (writes_of es))) rest.1)

-- ---- steps

-- the steps of these calls, and of more
pub steps_in-append : (refused : Bool) (es fs : List Answered) → steps_in refused (es ++ fs) ≡ steps_in refused es ++ steps_in (has_refused refused es) fs
steps_in-append refused [] fs = refl
steps_in-append refused (e ∷ es) fs =
    ap (λ ss. step_of e.0 e.1 refused ++ ss) (steps_in-append (refused_by e.0 refused) es fs)
    ∙ sym (append_assoc (step_of e.0 e.1 refused) (steps_in (refused_by e.0 refused) es) (steps_in (has_refused (refused_by e.0 refused) es) fs))

pub has_refused-append : (refused : Bool) (es fs : List Answered) → has_refused refused (es ++ fs) ≡ has_refused (has_refused refused es) fs
has_refused-append refused [] fs = refl
has_refused-append refused (e ∷ es) fs = has_refused-append (refused_by e.0 refused) es fs

-- calls that write these blocks, and calls that read them
steps_in-writes : (refused : Bool) (ws : List Write) → steps_in refused (calls_of true ws) ≡ steps_of ws
steps_in-writes refused [] = refl
steps_in-writes refused (w ∷ ws) = ap (λ ss. Wrote w.0 w.1 ∷ ss) (steps_in-writes refused ws)

steps_in-reads : (refused : Bool) (ws : List Write) → steps_in refused (calls_of false ws) ≡ []
steps_in-reads refused [] = refl
steps_in-reads refused (w ∷ ws) = steps_in-reads refused ws

refused-calls : (is_write refused : Bool) (ws : List Write) → has_refused refused (calls_of is_write ws) ≡ refused
refused-calls is_write refused [] = refl
refused-calls true refused (w ∷ ws) = refused-calls true refused ws
refused-calls false refused (w ∷ ws) = refused-calls false refused ws

-- more calls that write or read refuse nothing
pub still_heard : (broken : Bool) (es es' : List Answered) (is_write : Bool) (ws : List Write) → broken ≡ has_refused false es → es' ≡ es ++ calls_of is_write ws → broken ≡ has_refused false es'
still_heard broken es es' is_write ws heard more =
    heard ∙ sym (ap (has_refused false) more ∙ has_refused-append false es (calls_of is_write ws) ∙ refused-calls is_write (has_refused false es) ws)

pub refusal_heard : (es es' : List Answered) (block : List ℕ) → es' ≡ es ++ (Refuse, block) ∷ [] → true ≡ has_refused false es'
refusal_heard es es' block more = sym (ap (has_refused false) more ∙ has_refused-append false es ((Refuse, block) ∷ []))

pub refusal_ends : (old new : Calls) (block : List ℕ) → new ≡ record old { answered = old.answered ++ (Refuse, block) ∷ [] } → has_refused false new.answered ≡ true
refusal_ends old new block is = sym (refusal_heard old.answered new.answered block (ap (λ (c : Calls). c.answered) is))

pub sync_heard : (broken : Bool) (es es' : List Answered) (block : List ℕ) → broken ≡ has_refused false es → es' ≡ es ++ (Sync, block) ∷ [] → broken ≡ has_refused false es'
sync_heard broken es es' block heard more = heard ∙ sym (ap (has_refused false) more ∙ has_refused-append false es ((Sync, block) ∷ []))

-- ---- blocks

-- an image of blocks
pub whole_start : (block : ℕ → List ℕ) → ((a : ℕ) → IsBlock (block a)) → (count : ℕ) → All IsBlock (image_of block count)
whole_start block each count k d b =
    subst IsBlock (sym (get_or-map-range_with_len block 0 count k k d (omega (arith, length-map-range_with_len block 0 count)) (omega arith))) (each k)

-- what holds, holds after an error
pub on_err : {T E P : Type 0} (r : Result T E) → P → OnErr r P
on_err (Ok x) p = tt
on_err (Err e) p = p

-- the medium at first
writes_whole : (n a : ℕ) (blocks : List (List ℕ)) → a + length blocks ≤ n → AllByRecursion IsBlock blocks → AllByRecursion (IsWriteTo n) (writes_from a blocks)
writes_whole n a [] few whole = tt
writes_whole n a (x ∷ xs) few whole = (record { address = omega (arith, few); block = whole.0 }, writes_whole n (suc a) xs (omega (arith, few)) whole.1)

opened_whole : (first below : ℕ → List ℕ) → ((a : ℕ) → IsBlock (first a)) → ((a : ℕ) → IsBlock (below a)) → (count : ℕ) → IsWhole count (opened first below count)
opened_whole first below each each' count =
    let many = length-map-range_with_len first 0 count in
    record {
      as_many = length-map-range_with_len below 0 count;
      durable = whole_start below each' count;
      loose = All-from_recursion (IsWriteTo count) (writes_from 0 (image_of first count))
          (writes_whole count 0 (image_of first count) (omega (arith, many)) (recursion_from_All IsBlock (image_of first count) (whole_start first each count)));
    }

pub held_whole : (first below : ℕ → List ℕ) → ((a : ℕ) → IsBlock (first a)) → ((a : ℕ) → IsBlock (below a)) → (calls : Calls) → All (IsWriteTo calls.count) (all_writes calls) → IsWhole calls.count (held_so_far first below calls).now
held_whole first below each each' calls all =
    whole_after false calls.count (begun (opened first below calls.count)) (all_steps calls) (opened_whole first below each each' calls.count)
    (subst (All (IsWriteTo calls.count)) (sym (writes_in-all_steps calls)) all)

-- ---- a device over a file that went on

-- it did nothing
pub stays : (old new : Calls) → new ≡ old → GoesOn old new []
stays old new same = record {
  more = [];
  count = ap (λ (c : Calls). c.count) same;
  answered = ap (λ (c : Calls). c.answered) same ∙ sym (append-nil old.answered);
  steps = ap all_steps same ∙ sym (append-nil (all_steps old));
}

-- and went on again
pub goes_further : (old mid new : Calls) (ss rs : List Step) → GoesOn old mid ss → GoesOn mid new rs → GoesOn old new (ss ++ rs)
goes_further old mid new ss rs g h = record {
  more = g.more ++ h.more;
  count = h.count ∙ g.count;
  answered = h.answered ∙ ap (λ es. es ++ h.more) g.answered ∙ append_assoc old.answered g.more h.more;
  steps = h.steps ∙ ap (λ us. us ++ rs) g.steps ∙ append_assoc (all_steps old) ss rs;
}

-- and counted a fault
pub then_fault : (old mid new : Calls) (ss : List Step) (n : ℕ) → GoesOn old mid ss → new ≡ record mid { failures = n } → GoesOn old new ss
then_fault old mid new ss n g fault = record {
  more = g.more;
  count = ap (λ (c : Calls). c.count) fault ∙ g.count;
  answered = ap (λ (c : Calls). c.answered) fault ∙ g.answered;
  steps = ap all_steps fault ∙ g.steps;
}

-- the file answered one call more, behind which the same writes wait
one_call : (old new : Calls) (call : Call) (block : List ℕ) (ss : List Step) → new ≡ record old { answered = old.answered ++ (call, block) ∷ [] } → step_of call block (has_refused false old.answered) ≡ ss
    → (old.waiting ≡ []) ⊎ (ss ≡ []) → GoesOn old new ss
one_call old new call block ss is means clear = record {
  more = (call, block) ∷ [];
  count = ap (λ (c : Calls). c.count) is;
  answered = ap (λ (c : Calls). c.answered) is;
  steps = ap all_steps is
      ∙ ap (λ rs. rs ++ steps_of old.waiting) (steps_in-append false old.answered ((call, block) ∷ []) ∙ ap (λ rs. steps_in false old.answered ++ rs) (append-nil (step_of call block (has_refused false old.answered)) ∙ means))
      ∙ last clear;
}
  where
    last : (old.waiting ≡ []) ⊎ (ss ≡ []) → (steps_in false old.answered ++ ss) ++ steps_of old.waiting ≡ all_steps old ++ ss
    last (inl none) =
        ap (λ ws. (steps_in false old.answered ++ ss) ++ steps_of ws) none ∙ append-nil (steps_in false old.answered ++ ss)
        ∙ ap (λ rs. rs ++ ss) (sym (append-nil (steps_in false old.answered))) ∙ ap (λ ws. (steps_in false old.answered ++ steps_of ws) ++ ss) (sym none)
    last (inr nothing) =
        ap (λ rs. (steps_in false old.answered ++ rs) ++ steps_of old.waiting) nothing ∙ ap (λ rs. rs ++ steps_of old.waiting) (append-nil (steps_in false old.answered))
        ∙ sym (append-nil (all_steps old)) ∙ ap (λ rs. all_steps old ++ rs) (sym nothing)

-- a call that a device noted
pub noted : (old here : Calls) (es : List Answered) (call : Call) (block : List ℕ) → here ≡ old → es ≡ here.answered ++ (call, block) ∷ [] → record here { answered = es } ≡ record old { answered = old.answered ++ (call, block) ∷ [] }
noted old here es call block is more = ap (λ fs. record here { answered = fs }) more ∙ ap (λ (v : Calls). record v { answered = v.answered ++ (call, block) ∷ [] }) is

-- the file gave a block
pub reads_one : (old new : Calls) (a : ℕ) (block : List ℕ) → new ≡ record old { answered = old.answered ++ (ReadBlock a, block) ∷ [] } → GoesOn old new []
reads_one old new a block is = one_call old new (ReadBlock a) block [] is refl (inr refl)

-- or it did not
pub asks_one : {T E : Type 0} (r : Result T E) (old mid new : Calls) (a : ℕ) (block : List ℕ) → GoesOn old mid [] → OnOk r (new ≡ record mid { answered = mid.answered ++ (ReadBlock a, block) ∷ [] }) → OnErr r (new ≡ mid) → GoesOn old new []
asks_one (Ok x) old mid new a block g is same = goes_further old mid new [] [] g (reads_one mid new a block is)
asks_one (Err e) old mid new a block g is same = goes_further old mid new [] [] g (stays mid new same)

-- it refused a write or a sync
pub refuses_one : (old new : Calls) (block : List ℕ) → new ≡ record old { answered = old.answered ++ (Refuse, block) ∷ [] } → GoesOn old new []
refuses_one old new block is = one_call old new Refuse block [] is refl (inr refl)

-- it was synced, once it was given all, and had refused nothing before
pub syncs_one : (old new : Calls) (block : List ℕ) → new ≡ record old { answered = old.answered ++ (Sync, block) ∷ [] } → has_refused false old.answered ≡ false → old.waiting ≡ [] → GoesOn old new (Synced ∷ [])
syncs_one old new block is sound none = one_call old new Sync block (Synced ∷ []) is (ap sync_of sound) (inl none)

-- the file was given what waited
pub gives_all : (old new : Calls) → new ≡ record old { answered = old.answered ++ calls_of true old.waiting; waiting = [] } → GoesOn old new []
gives_all old new is = record {
  more = calls_of true old.waiting;
  count = ap (λ (c : Calls). c.count) is;
  answered = ap (λ (c : Calls). c.answered) is;
  steps = ap all_steps is ∙ append-nil (steps_in false (old.answered ++ calls_of true old.waiting)) ∙ steps_in-append false old.answered (calls_of true old.waiting)
      ∙ ap (λ ss. steps_in false old.answered ++ ss) (steps_in-writes (has_refused false old.answered) old.waiting) ∙ sym (append-nil (all_steps old));
}

-- and has refused nothing, if it had not before
pub given_sound : (old new : Calls) → new ≡ record old { answered = old.answered ++ calls_of true old.waiting; waiting = [] } → has_refused false old.answered ≡ false → has_refused false new.answered ≡ false
given_sound old new is sound =
    ap (λ (c : Calls). has_refused false c.answered) is ∙ has_refused-append false old.answered (calls_of true old.waiting) ∙ refused-calls true (has_refused false old.answered) old.waiting ∙ sound

-- the writes after more steps
writes_more : (old new : Calls) (ss : List Step) → GoesOn old new ss → all_writes new ≡ all_writes old ++ writes_in ss
writes_more old new ss g =
    sym (writes_in-all_steps new) ∙ ap writes_in g.steps ∙ writes_in-append (all_steps old) ss ∙ ap (λ ws. ws ++ writes_in ss) (writes_in-all_steps old)

module _ (first : ℕ → List ℕ) (old new : Calls) where
  pub on_honest : (ss : List Step) → GoesOn old new ss → IsHonestFile first new → IsHonestFile first old
  on_honest ss g h =
      (honest-append (image_of first old.count) old.answered g.more
      (subst (λ es. AreHonest (image_of first old.count) es) g.answered (subst (λ n. AreHonest (image_of first n) new.answered) g.count h))).0

  pub on_same : (ss : List Step) → writes_in ss ≡ [] → GoesOn old new ss → image_now first new ≡ image_now first old
  on_same ss none g = ap₂ (λ n ws. image_after (image_of first n) ws) g.count (writes_more old new ss g ∙ ap (λ ws. all_writes old ++ ws) none ∙ append-nil (all_writes old))

  pub on_written : (a : ℕ) (block : List ℕ) → GoesOn old new (Wrote a block ∷ []) → image_now first new ≡ slice_set (image_now first old) a block
  on_written a block g = ap₂ (λ n ws. image_after (image_of first n) ws) g.count (writes_more old new (Wrote a block ∷ []) g) ∙ image_after-push (image_of first old.count) (all_writes old) (a, block)

  pub on_held : (below : ℕ → List ℕ) → GoesOn old new [] → held_so_far first below new ≡ held_so_far first below old
  on_held below g = ap₂ (λ n ss. held_after false (begun (opened first below n)) ss) g.count (g.steps ∙ append-nil (all_steps old))

  pub on_step : (below : ℕ → List ℕ) (s : Step) → GoesOn old new (s ∷ []) → held_so_far first below new ≡ step false (held_so_far first below old) s
  on_step below s g =
      ap₂ (λ n ss. held_after false (begun (opened first below n)) ss) g.count g.steps ∙ held_after-push false (begun (opened first below old.count)) (all_steps old) s

-- as many blocks as there were at first
pub length_of : (first : ℕ → List ℕ) (count : ℕ) (ws : List Write) → length (image_after (image_of first count) ws) ≡ count
length_of first count ws = length-image_after (image_of first count) ws ∙ length-map-range_with_len first 0 count

-- the file gave blocks that are kept
pub reads_run : (old new mid : Calls) (ws : List Write) → mid ≡ old → new.count ≡ mid.count → new.answered ≡ mid.answered ++ calls_of false ws → new.waiting ≡ mid.waiting → GoesOn old new []
reads_run old new mid ws same count more waits = record {
  more = calls_of false ws;
  count = count ∙ ap (λ (c : Calls). c.count) same;
  answered = more ∙ ap (λ (c : Calls). c.answered ++ calls_of false ws) same;
  steps = ap₂ (λ es vs. steps_in false es ++ steps_of vs) more waits
      ∙ ap (λ ss. ss ++ steps_of mid.waiting) (steps_in-append false mid.answered (calls_of false ws) ∙ ap (λ ss. steps_in false mid.answered ++ ss) (steps_in-reads (has_refused false mid.answered) ws) ∙ append-nil (steps_in false mid.answered))
      ∙ ap all_steps same ∙ sym (append-nil (all_steps old));
}

-- a block was written, and waits
pub waits_one : (old new mid : Calls) (w : Write) → mid ≡ old → new.count ≡ mid.count → new.answered ≡ mid.answered → new.waiting ≡ mid.waiting ++ w ∷ [] → GoesOn old new (Wrote w.0 w.1 ∷ [])
waits_one old new mid w same count next more = record {
  more = [];
  count = count ∙ ap (λ (c : Calls). c.count) same;
  answered = next ∙ ap (λ (c : Calls). c.answered) same ∙ sym (append-nil old.answered);
  steps = ap₂ (λ es vs. steps_in false es ++ steps_of vs) next more
      ∙ ap (λ ss. steps_in false mid.answered ++ ss) (map-append (λ (v : Write). Wrote v.0 v.1) mid.waiting (w ∷ []))
      ∙ sym (append_assoc (steps_in false mid.answered) (steps_of mid.waiting) (Wrote w.0 w.1 ∷ [])) ∙ ap (λ (c : Calls). all_steps c ++ Wrote w.0 w.1 ∷ []) same;
}

-- a block that the file gave, and for whose address none waits, is the one that stands there
pub read_stands : (image : List (List ℕ)) (es : List Answered) (ws : List Write) (a : ℕ) (block : List ℕ) → IsUntouched ws a → AreHonest image (es ++ (ReadBlock a, block) ∷ []) → block ≡ block_at (image_after image (writes_of es ++ ws)) a
read_stands image es ws a block clear h =
    (honest-append image es ((ReadBlock a, block) ∷ []) h).1.0 ∙ sym (clear (image_after image (writes_of es))) ∙ ap (λ now. block_at now a) (sym (image_after-append image (writes_of es) ws))

pub fetched : (first : ℕ → List ℕ) (old new : Calls) (a : ℕ) (block : List ℕ) → IsUntouched old.waiting a → new ≡ record old { answered = old.answered ++ (ReadBlock a, block) ∷ [] } → IsHonestFile first new → block ≡ block_at (image_now first new) a
fetched first old new a block clear is =
    subst (λ (c : Calls). IsHonestFile first c → block ≡ block_at (image_now first c) a) (sym is)
    (λ h. read_stands (image_of first old.count) old.answered old.waiting a block clear h
    ∙ ap (λ ws. block_at (image_after (image_of first old.count) (ws ++ old.waiting)) a) (sym (writes_of-append old.answered ((ReadBlock a, block) ∷ []) ∙ append-nil (writes_of old.answered))))

-- a write of the device
pub write_to : (first : ℕ → List ℕ) (count a : ℕ) (block : List ℕ) → a < count → IsBlock block → IsWriteTo (length (image_of first count)) (a, block)
write_to first count a block low is = record { address = omega (arith, low, length-map-range_with_len first 0 count); block = is }

-- ---- a device that was synced when it was opened
module _ (first below : ℕ → List ℕ) (calls : Calls) (count : ℕ) (block : List ℕ) (is : calls ≡ record { count = count; answered = (Sync, block) ∷ []; waiting = []; failures = 0 }) where
  pub opened_durable : (held_so_far first below calls).now ≡ settled_on (image_now first calls)
  opened_durable = subst (λ v. (held_so_far first below v).now ≡ settled_on (image_now first v)) (sym is) (ap settled_on (opened_image first below count))

  pub opened_new : 0 < count → (calls.answered ≡ (Sync, block) ∷ []) × (calls.waiting ≡ []) × (calls.failures ≡ 0) × (0 < calls.count)
  opened_new some = subst (λ (v : Calls). (v.answered ≡ (Sync, block) ∷ []) × (v.waiting ≡ []) × (v.failures ≡ 0) × (0 < v.count)) (sym is) (refl, refl, refl, some)
