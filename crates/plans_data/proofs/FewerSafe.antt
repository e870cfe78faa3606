-- Fewer files may be called safe.
use Rattle.std.proofs.Common.{ℕ, Bool, List, IsTrue}
use Rattle.model.specs.Layout.{Geometry}
use Rattle.model.specs.View.{View}
use Rattle.ordering.specs.Cuts.{Pending}
use Rattle.ordering.specs.Ghosts.{at_rest}
use Rattle.ordering.specs.Agrees.{AllAgree}

pub fewer_agree : (geo : Geometry) (disk : View) (q : List Pending) (held safe fewer : ℕ → Bool) → ((f : ℕ) → IsTrue (fewer f) → IsTrue (safe f))
    → AllAgree geo disk q (at_rest held safe) → AllAgree geo disk q (at_rest held fewer)
fewer_agree geo disk q held safe fewer less all cut closed = let a = all cut closed in record {
  same = a.same;
  rules = a.rules;
  numbers = record { free = a.numbers.free; used = a.numbers.used };
  blocks = record { unclaimed = a.blocks.unclaimed; claimed = a.blocks.claimed; marked = a.blocks.marked };
  modes = a.modes;
  tree = record { places = a.tree.places; directories = a.tree.directories; numbers = a.tree.numbers; removed = a.tree.removed };
  safe = λ f t. a.safe f (less f t);
}
