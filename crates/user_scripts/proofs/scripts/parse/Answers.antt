use Rattle.std.proofs.Common.{◌≡◌, ◌≢◌, All, ℕ, ◌+◌, length, List, [], ◌∷◌, ◌++◌, refl, ap, sym, ◌∙◌, arith, append_assoc, length-append}
use Rattle.std.proofs.lemmas.Bool.Decides.{nat_tests}
use Rattle.std.proofs.lemmas.Grind.{flat_map-append}
use Rattle.std.proofs.lemmas.List.Elements.{All-head, All-push, All-tail}
use Rattle.std.proofs.lemmas.List.Sums.{sum_by-append, sum_by-cons}
use Rattle.user_scripts.specs.Script.{IsBeginning, IsWhole, IsOfUser, line_feeds, script_of}
use Rattle.user_scripts.specs.declared.lines.UserLine.{UserLine}
use Rattle.user_scripts.proofs.scripts.parse.Goals as goal

no_feeds : (text : List ℕ) → All (λ byte. byte ≢ 10) text → line_feeds text ≡ 0
no_feeds [] none = refl
no_feeds (x ∷ xs) none =
    let here : x ≢ 10 = All-head (λ byte. byte ≢ 10) x xs none in
    let rest : line_feeds xs ≡ 0 = no_feeds xs (All-tail (λ byte. byte ≢ 10) x xs none) in
    grind (arith, nat_tests)

parted_more : (items : List UserLine) (line : UserLine) (rest behind bytes : List ℕ)
    → script_of items ++ rest ≡ bytes → rest ≡ line.text.items ++ 10 ∷ behind
    → script_of (items ++ line ∷ []) ++ behind ≡ bytes
parted_more items line rest behind bytes parted begins =
    simp (flat_map-append, append_assoc) (ap (λ r. script_of items ++ r) (sym begins) ∙ parted)

feeds_more : (text behind : List ℕ) → All (λ byte. byte ≢ 10) text → line_feeds (text ++ 10 ∷ behind) ≡ line_feeds behind + 1
feeds_more text behind none =
    let none_there : line_feeds text ≡ 0 = no_feeds text none in
    let both : line_feeds (text ++ 10 ∷ behind) ≡ line_feeds text + line_feeds (10 ∷ behind) = sum_by-append _ text (10 ∷ behind) in
    let first : line_feeds (10 ∷ behind) ≡ 1 + line_feeds behind = sum_by-cons _ 10 behind in
    omega arith

counted_more : (items : List UserLine) (line : UserLine) (rest behind bytes : List ℕ)
    → length items + line_feeds rest ≡ line_feeds bytes → rest ≡ line.text.items ++ 10 ∷ behind → IsWhole line
    → length (items ++ line ∷ []) + line_feeds behind ≡ line_feeds bytes
counted_more items line rest behind bytes counted begins whole =
    let feeds : line_feeds rest ≡ line_feeds behind + 1 = ap line_feeds begins ∙ feeds_more line.text.items behind whole in
    let longer : length (items ++ line ∷ []) ≡ length items + 1 = length-append items (line ∷ []) in
    omega arith

pub loop-rest-preserved : goal.loop-rest-preserved
loop-rest-preserved c =
    let begins : IsBeginning c.loop-rest.rest.now c.in-Some.line c.in-Some.behind.now = rw c.in-Some.is at c.in_ok-line.ensures in
    let pushed : c.push.new.self.items ≡ c.loop-rest.lines.items ++ c.in-Some.line ∷ [] = c.in_ok-push-in-Some.ensures.items in
    record {
      parted = rw pushed (parted_more c.loop-rest.lines.items c.in-Some.line c.loop-rest.rest.now c.in-Some.behind.now c.args.bytes.now c.loop-rest.invariant.parted begins.parted);
      counted = rw pushed (counted_more c.loop-rest.lines.items c.in-Some.line c.loop-rest.rest.now c.in-Some.behind.now c.args.bytes.now c.loop-rest.invariant.counted begins.parted begins.whole);
      whole = rw pushed (All-push IsWhole _ _ c.loop-rest.invariant.whole begins.whole);
      users = rw pushed (All-push IsOfUser _ _ c.loop-rest.invariant.users (c.in-Some.line.from_one, c.in-Some.line.to_eight));
    }
