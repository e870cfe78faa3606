-- The updates by which a directory is made, before its entry, in their order.
use Rattle.std.proofs.Common.{◌+◌, ℕ, Bool, true, List, [], ◌∷◌, inr, refl, sym, ap, ◌∙◌, subst, arith, IsTrue, IsFalse}
use Rattle.model.specs.Layout.{Geometry}
use Rattle.model.specs.View.{View, Inode}
use Rattle.model.specs.Cells.{SetInode, SetNumber, SetBlock, SetBytes}
use Rattle.model.specs.Shape.{IsAbove}
use Rattle.model.specs.Uses.{has_position, record_use}
use Rattle.model.specs.Reach.{IsReachableDirectory}
use Rattle.model.specs.Rules.{ObeysRules}
use Rattle.model.proofs.SameShape.{claim_back}
use Rattle.model.proofs.Places.{put_here}
use Rattle.ordering.specs.Cuts.{Record, NumberBit, BlockBit, Block, Pending, users_view, IsAfter}
use Rattle.ordering.specs.Ghosts.{Ghost, at_rest}
use Rattle.ordering.specs.Agrees.{AllAgree}
use Rattle.ordering.specs.Kinds.{IsFree}
use Rattle.ordering.specs.Rewrites.{Comes, MayCreate, entered}
use Rattle.ordering.specs.Histories.{SetsNumber, SetsBlock, Raises, Fills, CreatesDirectory}
use Rattle.ordering.proofs.CutLemmas.{after_own, after_through}
use Rattle.ordering.proofs.Bits.{users_obey, claim_used}
use Rattle.machine.specs.Effects.{with_links, new_directory}
use Rattle.machine.proofs.Records.{new_directory_sound, new_directory_first}
use Rattle.plans_data.specs.Issues.{Issues, Nothing, Then}
use Rattle.plans_naming.specs.Link.{raised}
use Rattle.plans_naming.specs.Make.{CanMake, made}
use Rattle.plans_naming.proofs.Dots.{none_above, only_first}
use Rattle.plans_naming.proofs.MakeViews.{body, still_unclaimed, to_dots, free4}

module _ (geo : Geometry) (disk : View) (q : List Pending) (held safe : ℕ → Bool)
    (i b d : ℕ) (words dots : List ℕ) (can : CanMake geo (users_view disk q) i b d dots) (reachable : IsReachableDirectory geo (users_view disk q) d) (not_held : IsFalse (held b))
    (all : AllAgree geo disk q (at_rest held safe)) where
  abbrev ghost : Ghost
  ghost = at_rest held safe

  abbrev users : View
  users = users_view disk q

  abbrev x : Inode
  x = users.inode d

  abbrev q2 : List Pending
  q2 = record { change = SetBlock b true; after = [] } ∷ record { change = SetNumber i true; after = [] } ∷ q

  abbrev q3 : List Pending
  q3 = raised d x q2

  abbrev pub q4 : List Pending
  q4 = record { change = SetBytes b dots; after = BlockBit b ∷ Record d ∷ [] } ∷ q3

  rules : ObeysRules geo users
  rules = users_obey geo disk q ghost all

  free3 : IsFree geo (users_view disk q3) ghost b
  free3 = record {
    marked = put_here users.block_marked b true;
    unclaimed = still_unclaimed geo users rules i b d words dots can reachable;
    not_held = not_held;
    not_given_up = λ n k. refl;
  }

  free4' : IsFree geo (users_view disk q4) ghost b
  free4' = record {
    marked = put_here users.block_marked b true;
    unclaimed = λ c. still_unclaimed geo users rules i b d words dots can reachable (c.0, c.1, claim_back geo (users_view disk q3) (users_view disk q4) (to_dots geo users rules i b d words dots can reachable) c.0 c.1 b c.2);
    not_held = not_held;
    not_given_up = λ n k. refl;
  }

  comes : (k : ℕ) → IsTrue (has_position geo (new_directory b words) k) → Comes geo disk q4 ghost (NumberBit i ∷ Block b ∷ []) (new_directory b words) k b
  comes k u = record {
    uses = ap (λ j. record_use geo (users_view disk q4) (new_directory b words) j) (only_first geo b words k u) ∙ new_directory_first geo (users_view disk q4) b words;
    address = can.address;
    free = free4';
    bit = after_own disk q3 (record { change = SetBytes b dots; after = BlockBit b ∷ Record d ∷ [] }) (BlockBit b) (0, omega arith, refl);
    contents = (1, omega arith, refl);
    tables = λ m t above used. absurd (none_above geo m (subst (λ j. IsAbove geo j m) (only_first geo b words k u) above));
  }

  create : MayCreate geo disk q4 ghost (NumberBit i ∷ Block b ∷ []) i (new_directory b words)
  create = record {
    free = free4 geo users rules i b d words dots can reachable;
    marked = put_here users.number_marked i true;
    not_zeroed = refl;
    bit = (0, omega arith, refl);
    sound = new_directory_sound geo b words;
    blocks = record {
      number = can.number;
      sound = inr (new_directory_sound geo b words);
      came = λ k t u. inr (b, comes k u);
      once = λ k j c u v y z. only_first geo b words k u ∙ sym (only_first geo b words j v);
      went = λ k c y. absurd (claim_used geo (users_view disk q4) i k c y (free4 geo users rules i b d words dots can reachable));
      held = λ c t. t;
      given_up = λ c m k t. t;
    };
  }

  pub made_issues : Issues geo disk q ghost (made i b words dots d x q) (entered i ghost)
  made_issues =
      Then (record { change = SetInode i (new_directory b words); after = NumberBit i ∷ Block b ∷ [] }) (entered i ghost)
      (Then (record { change = SetBytes b dots; after = BlockBit b ∷ Record d ∷ [] }) ghost
      (Then (record { change = SetInode d (with_links x (x.links + 1)); after = [] }) ghost
      (Then (record { change = SetBlock b true; after = [] }) ghost
      (Then (record { change = SetNumber i true; after = [] }) ghost Nothing (SetsNumber [] i can.number can.unmarked))
      (SetsBlock [] b can.block_unmarked))
      (Raises [] d (with_links x (x.links + 1)) (record { body = body geo users rules i b d words dots can reachable; links = omega arith })))
      (Fills (BlockBit b ∷ Record d ∷ []) b dots (record { free = free3; bit = (0, omega arith, refl) })))
      (CreatesDirectory (NumberBit i ∷ Block b ∷ []) i (new_directory b words) create)

  -- the record comes after the dots, and so after the parent's link
  pub dots_before : IsAfter disk (made i b words dots d x q) (Record i) (Block b)
  dots_before = after_own disk q4 (record { change = SetInode i (new_directory b words); after = NumberBit i ∷ Block b ∷ [] }) (Block b) (1, omega arith, refl)

  pub link_before : IsAfter disk (made i b words dots d x q) (Record i) (Record d)
  link_before = after_through disk q4 (record { change = SetInode i (new_directory b words); after = NumberBit i ∷ Block b ∷ [] }) (Block b) (Record d) (1, omega arith, refl)
      (after_own disk q3 (record { change = SetBytes b dots; after = BlockBit b ∷ Record d ∷ [] }) (Record d) (1, omega arith, refl))
