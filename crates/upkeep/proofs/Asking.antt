-- Lists of calls that get longer.
use Rattle.std.proofs.Common.{◌≡◌, ◌++◌, ◌+◌, ℕ, suc, zero, Bool, true, false, if◌then◌else◌, List, [], ◌∷◌, length, All, refl, sym, ap, ◌∙◌, IsTrue, append-nil, Result, Ok, Err, inl, inr, arith}
use Rattle.std.proofs.lemmas.List.{append_assoc}
use Rattle.std.proofs.lemmas.List.Elements.{All-append, All-cons, All-nil}
use Rattle.layout.specs.declared.refusal.Refusal.{Refusal}
use Rattle.layout.specs.declared.refusal.Refusal.TheVariants.{AlreadyDone, NoPlan}
use Rattle.snapshot.specs.declared.answer.Answer.{Answer}
use Rattle.snapshot.specs.declared.command.Command.{Command}
use Rattle.snapshot.specs.declared.command.Command.TheVariants.{Repair}
use Rattle.upkeep.specs.Calls.{AreRepairs, AsksRepairs, Call, Inner, count_done, is_answered, is_mending, is_passed}

-- ---- commands that mend

abbrev IsMending : Call → Type 0
IsMending call = IsTrue (is_mending call.0)

pub inner_none : (before : List Call) → Inner before before
inner_none before = ([], sym (append-nil before), All-nil IsMending)

pub inner_more : (before middle after : List Call) (call : Call) → Inner before middle → after ≡ middle ++ call ∷ [] → IsTrue (is_mending call.0) → Inner before after
inner_more before middle after call inner more is = (
  inner.0 ++ call ∷ [],
  more ∙ ap (λ l. l ++ call ∷ []) inner.1 ∙ append_assoc before inner.0 (call ∷ []),
  All-append IsMending inner.0 (call ∷ []) inner.2 (All-cons IsMending call [] is (All-nil IsMending)),
)

pub inner_then : (before middle after : List Call) → Inner before middle → Inner middle after → Inner before after
inner_then before middle after first later = (
  first.0 ++ later.0,
  later.1 ∙ ap (λ l. l ++ later.0) first.1 ∙ append_assoc before first.0 later.0,
  All-append IsMending first.0 later.0 first.2 later.2,
)

-- ---- repairs, one more at a time

repairs_more : (n m : ℕ) (repairs : List Call) (reply : Result Answer Refusal) → m ≡ length repairs + n → IsTrue (is_passed reply) → AreRepairs n repairs → AreRepairs n (repairs ++ (Repair m, reply) ∷ [])
repairs_more n m [] reply e passes are = (ap Repair (omega (arith, e)), passes, tt)
repairs_more n m (call ∷ calls) reply e passes are = (are.0, are.1, repairs_more (suc n) m calls reply (omega (arith, e)) passes are.2)

if_suc : (b : Bool) (n : ℕ) → (if b then suc (suc n) else suc n) ≡ suc (if b then suc n else n)
if_suc true n = refl
if_suc false n = refl

count_more : (calls : List Call) (command : Command) (answer : Answer) → count_done (calls ++ (command, Ok answer) ∷ []) ≡ suc (count_done calls)
count_more [] command answer = refl
count_more (call ∷ calls) command answer = ap (λ n. if is_answered call.1 then suc n else n) (count_more calls command answer) ∙ if_suc (is_answered call.1) (count_done calls)

count_same : (calls : List Call) (command : Command) (r : Refusal) → count_done (calls ++ (command, Err r) ∷ []) ≡ count_done calls
count_same [] command r = refl
count_same (call ∷ calls) command r = ap (λ n. if is_answered call.1 then suc n else n) (count_same calls command r)

length_more : (calls : List Call) (call : Call) → length (calls ++ call ∷ []) ≡ suc (length calls)
length_more [] call = refl
length_more (it ∷ calls) call = ap suc (length_more calls call)

-- The repairs of so many places were asked, and this many were carried out.
pub record Asks (before after : List Call) (places done : ℕ) : Type 0 where
  pub repairs : List Call
  pub calls : after ≡ before ++ repairs
  pub in_order : AreRepairs 0 repairs
  pub all : length repairs ≡ places
  pub counted : done ≡ count_done repairs

pub asks_none : (before : List Call) → Asks before before 0 0
asks_none before = record { repairs = []; calls = sym (append-nil before); in_order = tt; all = refl; counted = refl }

module _ (before middle : List Call) (place done : ℕ) (asks : Asks before middle place done) (after : List Call) where
  in_line : (reply : Result Answer Refusal) → IsTrue (is_passed reply) → AreRepairs 0 (asks.repairs ++ (Repair place, reply) ∷ [])
  in_line reply passes = repairs_more 0 place asks.repairs reply (omega (arith, asks.all)) passes asks.in_order

  longer : (call : Call) → after ≡ middle ++ call ∷ [] → after ≡ before ++ (asks.repairs ++ call ∷ [])
  longer call e = e ∙ ap (λ l. l ++ call ∷ []) asks.calls ∙ append_assoc before asks.repairs (call ∷ [])

  -- one was carried out
  pub asks_done : (answer : Answer) → after ≡ middle ++ (Repair place, Ok answer) ∷ [] → Asks before after (suc place) (suc done)
  asks_done answer e = record {
    repairs = asks.repairs ++ (Repair place, Ok answer) ∷ [];
    calls = longer (Repair place, Ok answer) e;
    in_order = in_line (Ok answer) refl;
    all = length_more asks.repairs (Repair place, Ok answer) ∙ ap suc asks.all;
    counted = ap suc asks.counted ∙ sym (count_more asks.repairs (Repair place) answer);
  }

  -- one had been
  pub asks_again : after ≡ middle ++ (Repair place, Err AlreadyDone) ∷ [] → Asks before after (suc place) done
  asks_again e = record {
    repairs = asks.repairs ++ (Repair place, Err AlreadyDone) ∷ [];
    calls = longer (Repair place, Err AlreadyDone) e;
    in_order = in_line (Err AlreadyDone) refl;
    all = length_more asks.repairs (Repair place, Err AlreadyDone) ∙ ap suc asks.all;
    counted = asks.counted ∙ sym (count_same asks.repairs (Repair place) AlreadyDone);
  }

  -- one belongs to no check any more
  pub asks_last : (places : ℕ) → after ≡ middle ++ (Repair place, Err NoPlan) ∷ [] → AsksRepairs before after places done
  asks_last places e = record {
    repairs = asks.repairs ++ (Repair place, Err NoPlan) ∷ [];
    calls = longer (Repair place, Err NoPlan) e;
    in_order = in_line (Err NoPlan) refl;
    all = inr (asks.repairs, Repair place, refl);
    counted = asks.counted ∙ sym (count_same asks.repairs (Repair place) NoPlan);
  }

-- all were asked
pub asks_all : (before after : List Call) (place places done : ℕ) → Asks before after place done → place ≡ places → AsksRepairs before after places done
asks_all before after place places done asks e = record { repairs = asks.repairs; calls = asks.calls; in_order = asks.in_order; all = inl (asks.all ∙ e); counted = asks.counted }
