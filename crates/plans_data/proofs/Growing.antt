-- A record that keeps its positions and gets new ones, whose blocks are free and filled.
use Rattle.std.proofs.Common.{◌≡◌, ◌≤◌, ◌<◌, ◌/◌, ℕ, List, ◌⊎◌, inl, inr, refl, sym, ap, ◌∙◌, subst, IsTrue, IsFalse, arith, Some}
use Rattle.std.proofs.lemmas.Bool.{cases_Bool, cases_eq, false_from_ne_true}
use Rattle.std.proofs.lemmas.Option.{same_Some}
use Rattle.model.specs.Layout.{Geometry, is_number}
use Rattle.model.specs.View.{View, Inode}
use Rattle.model.specs.Cells.{SetInode, updated}
use Rattle.model.specs.Shape.{most_blocks, top, field_at}
use Rattle.model.specs.Slots.{Empty, slot_in}
use Rattle.model.specs.Uses.{is_sound, has_position, record_use, IsUse, IsClaim}
use Rattle.model.proofs.Uses.{use_number, number_use, use_has, record_uses_agree, same_field}
use Rattle.model.proofs.NewRecord.{other_use}
use Rattle.model.proofs.Places.{put_here}
use Rattle.ordering.specs.Cuts.{Cell, Pending, users_view}
use Rattle.ordering.specs.Ghosts.{Ghost}
use Rattle.ordering.specs.Histories.{Step, RewritesFile, GrowsDirectory}
use Rattle.ordering.specs.Rewrites.{Stays, Comes, Rewrites}

pub record Grows (geo : Geometry) (disk : View) (q : List Pending) (ghost : Ghost) (after : List Cell) (n : ℕ) (old new : Inode) : Type 0 where
  pub number : IsTrue (is_number geo n)
  pub was : (users_view disk q).inode n ≡ old
  pub sound : IsTrue (is_sound geo old)
  pub still_sound : IsTrue (is_sound geo new)
  pub mode : old.mode ≡ new.mode
  pub links : old.links ≡ new.links
  pub old_blocks : (k : ℕ) → IsTrue (has_position geo old k) → IsTrue (has_position geo new k) × (field_at geo new (top geo k) ≡ field_at geo old (top geo k))
  pub new_block : (k : ℕ) → IsTrue (has_position geo new k) → IsFalse (has_position geo old k) → (b : ℕ) × Comes geo disk q ghost after new k b
  pub once : (k j b : ℕ) → IsFalse (has_position geo old k) → IsFalse (has_position geo old j) → Comes geo disk q ghost after new k b → Comes geo disk q ghost after new j b → k ≡ j
  -- for a directory
  pub empty : (s : ℕ) → new.mode ≡ 2 → IsTrue (has_position geo new (s / 16)) → IsFalse (has_position geo old (s / 16)) → s / 16 < most_blocks geo
      → (b : ℕ) × Comes geo disk q ghost after new (s / 16) b × (slot_in geo ((users_view disk q).bytes b) s ≡ Empty)

module _ (geo : Geometry) (disk : View) (q : List Pending) (ghost : Ghost) (after : List Cell) (n : ℕ) (old new : Inode) (g : Grows geo disk q ghost after n old new) where
  abbrev users : View
  users = users_view disk q

  abbrev then : View
  then = updated users (SetInode n new)

  here : then.inode n ≡ new
  here = put_here users.inode n new

  -- an old position is used as before
  same_use : (k : ℕ) → IsTrue (has_position geo old k) → record_use geo users new k ≡ record_use geo users (users.inode n) k
  same_use k has =
      let kept = g.old_blocks k has in
      same_field geo users new old g.still_sound g.sound k kept.0 has kept.1 ∙ ap (λ x. record_use geo users x k) (sym g.was)

  use_then : (k : ℕ) → record_use geo then (then.inode n) k ≡ record_use geo users new k
  use_then k = ap (λ x. record_use geo then x k) here ∙ record_uses_agree geo then users new k (λ m t above u d. refl)

  -- a block that comes stands at no old position
  new_position : (k b : ℕ) → Comes geo disk q ghost after new k b → IsFalse (has_position geo old k)
  new_position k b comes = false_from_ne_true (has_position geo old k) (λ has.
      comes.free.unclaimed (n, k, (number_use geo users n k b g.number (sym (same_use k has) ∙ comes.uses), comes.address)))

  stays : (k : ℕ) → IsTrue (has_position geo old k) → Stays geo (users.inode n) new k
  stays k has = record {
    sound = ap (is_sound geo) g.was ∙ g.sound;
    used = ap (λ x. has_position geo x k) g.was ∙ has;
    field = (g.old_blocks k has).1 ∙ ap (λ x. field_at geo x (top geo k)) (sym g.was);
  }

  rewrites : Rewrites geo disk q ghost ghost after n new
  rewrites = record {
    number = g.number;
    sound = inr g.still_sound;
    came = λ k s u. elim (cases_Bool (has_position geo old k)) [
      | inl has ↦ inl (stays k has)
      | inr fresh ↦ inr (g.new_block k u fresh)
    ];
    once = λ k j b u v x y. g.once k j b (new_position k b x) (new_position j b y) x y;
    went = λ k b c.
        let u = use_number geo users n k b c.0 in
        let has : IsTrue (has_position geo old k) = ap (λ x. has_position geo x k) (sym g.was) ∙ use_has geo users (users.inode n) k b u.1 in
        inl (number_use geo then n k b g.number (use_then k ∙ same_use k has ∙ u.1), c.1);
    held = λ b t. t;
    given_up = λ b m k t. t;
  }

  same_links : (users.inode n).links ≤ new.links
  same_links = omega (arith, ap (λ (x : Inode). x.links) g.was, g.links)

  grow_file : old.mode ≡ 1 → Step geo disk q ghost (record { change = SetInode n new; after = after }) ghost
  grow_file one = RewritesFile ghost.held ghost.given_up after n new (record {
    file = ap (λ (x : Inode). x.mode) g.was ∙ one;
    sound = ap (is_sound geo) g.was ∙ g.sound;
    still_file = sym g.mode ∙ one;
    links = same_links;
    blocks = rewrites;
  })

  grow_directory : old.mode ≡ 2 → Step geo disk q ghost (record { change = SetInode n new; after = after }) ghost
  grow_directory two = GrowsDirectory after n new (record {
    directory = ap (λ (x : Inode). x.mode) g.was ∙ two;
    sound = ap (is_sound geo) g.was ∙ g.sound;
    still_directory = sym g.mode ∙ two;
    still_sound = g.still_sound;
    links = same_links;
    old_blocks = λ k u. let has = ap (λ x. has_position geo x k) (sym g.was) ∙ u in ((g.old_blocks k has).0, stays k has);
    empty = λ s f u low. g.empty s (sym g.mode ∙ two) u (ap (λ x. has_position geo x (s / 16)) (sym g.was) ∙ f) low;
    blocks = rewrites;
  })

  pub grow : (old.mode ≡ 1) ⊎ (old.mode ≡ 2) → Step geo disk q ghost (record { change = SetInode n new; after = after }) ghost
  grow (inl one) = grow_file one
  grow (inr two) = grow_directory two

  -- a block that is claimed then was claimed before, or is not held
  pub grown_claim : (i k a : ℕ) → IsClaim geo then i k a → IsClaim geo users i k a ⊎ IsFalse (ghost.held a)
  grown_claim i k a c = elim (cases_eq i n) [
    | inr o ↦ inl (other_use geo users n new i k o ∙ c.0, c.1)
    | inl e ↦
        let u = use_number geo then n k a (subst (λ m. IsClaim geo then m k a) e c).0 in
        let used : record_use geo users new k ≡ Some a = sym (use_then k) ∙ u.1 in
        elim (cases_Bool (has_position geo old k)) [
          | inl has ↦ inl (subst (λ m. IsUse geo users m k a) (sym e) (number_use geo users n k a g.number (sym (same_use k has) ∙ used)), c.1)
          | inr fresh ↦
              let b = g.new_block k (use_has geo users new k a used) fresh in
              inr (subst (λ x. IsFalse (ghost.held x)) (same_Some b.0 a (sym (b.1).uses ∙ used)) (b.1).free.not_held)
        ]
  ]
