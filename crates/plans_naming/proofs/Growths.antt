-- A directory gets one more block of zeroes, and its pointer is kept wherever it belongs.
use Rattle.std.proofs.Common.{◌≡◌, ◌≤◌, ◌%◌, ℕ, eqb, [], Contains, Some, ◌⊎◌, inl, inr, sym, ap, ◌∙◌, subst, arith, IsTrue, IsFalse}
use Rattle.std.proofs.lemmas.Bool.{cases_lt, and_parts, and_from, false_from_ne_true, leb-true}
use Rattle.model.specs.Layout.{Geometry, is_number}
use Rattle.model.specs.View.{View, Inode}
use Rattle.model.specs.Rules.{ObeysRules}
use Rattle.model.specs.Shape.{most_blocks, is_table}
use Rattle.model.specs.Uses.{blocks_of, is_directory, is_sound, is_sound_at, has_position, record_use}
use Rattle.model.proofs.Shape.{more_reach}
use Rattle.model.proofs.Uses.{has_below, above_table, same_field}
use Rattle.machine.proofs.Pointing.{IsLike, pointed_like}
use Rattle.ordering.specs.Cuts.{users_view}
use Rattle.ordering.specs.Ghosts.{Ghost}
use Rattle.plans_data.specs.Append.{Holder, MayAppend, OfFile, OfDirectory, new_blocks, filled, linked, pointed, sized}
use Rattle.plans_data.proofs.Holders as holders
use Rattle.plans_data.proofs.Numbers.{address_small, sound_directory}
use Rattle.plans_data.proofs.Placed.{Change, placed, came_at, comes_at, contents, position_inside}
use Rattle.plans_naming.proofs.Grown.{Grown}
use Rattle.plans_naming.proofs.GrowthFacts.{AsBefore, zeroes, linked_view, some_block, as_before}

module _ (geo : Geometry) (v : View) (rules : ObeysRules geo v) (ghost : Ghost) (d k b : ℕ) (size : ℕ) (two : (v.inode d).mode ≡ 2) (h : Holder) (may : MayAppend geo v ghost d k b zeroes size h) where
  abbrev old : Inode
  old = v.inode d

  abbrev new : Inode
  new = sized (pointed geo old k b h) size

  abbrev u : View
  u = users_view v (linked geo d k b h (filled b zeroes []))

  parts : IsTrue (is_number geo d) × IsTrue (is_sound geo old)
  parts = and_parts (is_number geo d) (is_sound geo old) may.sound

  like : IsLike old (pointed geo old k b h)
  like = pointed_like geo v old (holders.kept_points geo v d k b h may.kept)

  few : blocks_of size ≤ most_blocks geo
  few = omega (arith, may.blocks, may.room)

  whole_size : size % 1024 ≡ 0
  whole_size = elim may.content [ OfFile one ↦ absurd (omega (arith, one, two)) | OfDirectory m z w ↦ w ]

  still : IsTrue (is_sound geo new)
  still = sound_directory geo new (like.mode ∙ two) (omega (arith, may.blocks)) whole_size few

  late : IsFalse (has_position geo old k)
  late = false_from_ne_true (has_position geo old k) (λ has. let inside = has_below geo old k may.room has in omega (arith, inside, may.next))

  change : Change geo v [] d k b zeroes size h
  change = record {
    rules = rules;
    whole = may.whole;
    sound = may.sound;
    still_sound = still;
    inside = omega (arith, may.blocks);
    few = few;
    more = omega (arith, may.blocks, may.next);
    came = λ j low. elim (cases_lt j k) [ inl less ↦ inl (omega (arith, less, may.next)) | inr more ↦ inr (omega (arith, more, low, may.blocks)) ];
    free = may.free;
    kept = may.kept;
    apart = (may.apart).0;
  }

  seen : u ≡ linked_view geo v k b h
  seen = holders.linked_view geo v d k b h (filled b zeroes [])

  -- a table that the record has then it had before, or it is new
  pub came_tables : (m t : ℕ) → IsTrue (is_table geo m) → record_use geo (linked_view geo v k b h) new m ≡ Some t → (record_use geo v old m ≡ Some t) ⊎ Contains (new_blocks h) t
  unfolding change
  came_tables m t one used = elim (came_at geo v [] d k b zeroes size h change m t (ap (λ w. record_use geo w new m) seen ∙ used)) [
    | inl was ↦ inl was.1
    | inr (inl is) ↦ absurd (let high = leb-true (most_blocks geo) m one in omega (arith, high, is.0, may.room))
    | inr (inr comes) ↦ inr (holders.new_listed geo v d k b h may.kept m t comes.1)
  ]

  same : AsBefore geo v u
  same = subst (AsBefore geo v) (sym seen) (as_before geo v rules may.whole.geometry may.whole.blocks d k b h may.kept may.apart (position_inside geo v [] d k b zeroes size h change) late
      (address_small geo may.whole.geometry b may.free.address) may.free.unmarked (λ c i. (holders.kept_free geo v d k b h may.kept c i).unmarked))

  pub grown : Grown geo v (linked_view geo v k b h) d k b new
  grown = subst (λ w. Grown geo v w d k b new) seen (record {
    folder = same.folder;
    tree = same.tree;
    inodes = same.inodes;
    zeroes = contents geo v [] d k b zeroes size h change;
    address = may.free.address;
    was = and_from (is_sound_at geo v d) (is_directory old) may.sound (ap (λ m. eqb m 2) two);
    sound = still;
    mode = like.mode ∙ two;
    links = like.links;
    old = λ j has.
        let now : IsTrue (has_position geo new j) = more_reach geo (blocks_of old.size) (blocks_of size) j (omega (arith, may.blocks, may.next)) has in
        (now, λ view. same_field geo view new old still parts.1 j now has (holders.pointed_fields geo v d k b h may.kept (position_inside geo v [] d k b zeroes size h change) late j has));
    used = placed geo v [] d k b zeroes size h change;
    only = λ j low now fresh. elim (comes_at geo v [] d k b zeroes size h change j now fresh) [
      | inl e ↦ e
      | inr above ↦ absurd (let high = leb-true (most_blocks geo) j (above_table geo k j above) in omega (arith, high, low))
    ];
    fresh = late;
    low = omega (arith, (some_block geo old parts.1 two).0, may.next);
    room = may.room;
  })
