-- What is held stays right after a write.
use Rattle.std.proofs.Common.{◌≡◌, ℕ, ◌<◌, Bool, eqb, List, [], ◌∷◌, length, ◌⊎◌, inl, inr, refl, sym, ◌∙◌, subst, IsTrue, IsFalse, arith, eqb-true}
use Rattle.std.proofs.lemmas.Bool.{cases_eq, both_ways, leb-true, or_cases, and_parts}
use Rattle.model.specs.Layout.{Geometry, is_number}
use Rattle.model.specs.View.{View}
use Rattle.model.specs.Cells.{SetInode, SetBytes, updated}
use Rattle.model.specs.Shape.{most_blocks, is_table}
use Rattle.model.specs.Uses.{is_sound, blocks_of, use_at, IsClaim}
use Rattle.model.specs.Rules.{ObeysRules}
use Rattle.model.proofs.Uses.{sound_few, bytes_leave_uses}
use Rattle.machine.specs.State.{State}
use Rattle.machine.specs.Cells.{block_of}
use Rattle.machine.specs.Effects.{size_after}
use Rattle.ordering.specs.Cuts.{Pending, Block, users_view}
use Rattle.ordering.specs.Ghosts.{at_rest}
use Rattle.ordering.specs.Agrees.{AllAgree}
use Rattle.ordering.proofs.Bits.{users_obey}
use Rattle.ordering.proofs.Records.{body_shape}
use Rattle.plans_data.specs.Now.{now, becomes}
use Rattle.plans_data.specs.Append.{Holder, sized, appended}
use Rattle.plans_data.specs.Held.{HeldAreRight}
use Rattle.plans_data.specs.Write.{MayWriteInPlace, MayWriteAppended, MayWriteMoved, written, relocated, held_besides}
use Rattle.plans_data.proofs.Blocks.{block_claimed, same_blocks, no_less}
use Rattle.plans_data.proofs.Enlarging.{enlarged_view}
use Rattle.plans_data.proofs.Append.{append_came, append_marks}
use Rattle.plans_data.proofs.Moved.{change, moves, moved_view, other_claims}
use Rattle.plans_data.proofs.Moving.{Moves}
use Rattle.plans_data.proofs.Numbers.{still_sound}
use Rattle.plans_data.proofs.HeldAppends.{held_stays}
use Rattle.plans_data.proofs.WriteAppended.{may_append}
use Rattle.plans_data.proofs.Placed.{marks}
use Rattle.plans_data.proofs.WriteMoved.{may_move, claim}

module _ (geo : Geometry) (disk : View) (q : List Pending) (old : State) (safe : ℕ → Bool) (agree : AllAgree geo disk q (at_rest old.held safe)) (right : HeldAreRight geo (now disk q old)) where
  abbrev users : View
  users = users_view disk q

  rules : ObeysRules geo users
  rules = users_obey geo disk q (at_rest old.held safe) agree

  pub in_place_right : (n k : ℕ) (piece bytes : List ℕ) → MayWriteInPlace geo (now disk q old) n k piece bytes
      → HeldAreRight geo (becomes disk (written n (users.inode n) (block_of geo users n k) bytes (size_after users n k piece) q) old.held old)
  in_place_right n k piece bytes may =
      subst (λ v. HeldAreRight geo (record old { view = v })) (sym (enlarged_view disk q1 n (users.inode n) size (Block b ∷ []) refl (no_less (users.inode n).size k (length piece))))
      (held_stays geo (now disk q old) (record old { view = w }) (λ i j a c. inl (same i j ∙ c.0, c.1)) (λ a t. t) refl right)
    where
      b : ℕ
      b = block_of geo users n k

      size : ℕ
      size = size_after users n k piece

      q1 : List Pending
      q1 = record { change = SetBytes (block_of geo users n k) bytes; after = [] } ∷ q

      w : View
      w = updated (updated users (SetBytes (block_of geo users n k) bytes)) (SetInode n (sized (users.inode n) (size_after users n k piece)))

      sound : IsTrue (is_sound geo (users.inode n))
      sound = (and_parts (is_number geo n) (is_sound geo (users.inode n)) may.write.sound).1

      low : k < most_blocks geo
      low = omega (arith, may.inside, sound_few geo (users.inode n) sound)

      blocks : blocks_of (users.inode n).size ≡ blocks_of (size_after users n k piece)
      blocks = same_blocks (users.inode n).size k (length piece) may.inside may.write.few

      no_table : (i m : ℕ) → IsTrue (is_table geo m) → IsClaim geo users i m (block_of geo users n k) → ⊥
      no_table i m table c =
          let past = leb-true (most_blocks geo) m table in
          let same = (rules.rule3.once i m n k (block_of geo users n k) c (block_claimed geo users rules n k may.write.sound may.inside)).1 in
          omega (arith, low, past, same)

      same : (i j : ℕ) → use_at geo users i j ≡ use_at geo w i j
      same i j =
          bytes_leave_uses geo users (block_of geo users n k) bytes i (no_table i) j
          ∙ (body_shape geo (updated users (SetBytes (block_of geo users n k) bytes)) n (sized (users.inode n) (size_after users n k piece))
          (record { sound = sound; still_sound = still_sound geo (users.inode n) (sized (users.inode n) (size_after users n k piece)) may.write.file may.write.file (sym blocks) sound; mode = refl; blocks = blocks; direct = refl; indirect = refl; double = refl })).uses i j

  pub appended_right : (n k b : ℕ) (piece bytes : List ℕ) (holder : Holder) → MayWriteAppended geo (now disk q old) n k b piece bytes holder
      → HeldAreRight geo (becomes disk (appended geo n (users.inode n) k b bytes (size_after users n k piece) holder q) old.held old)
  appended_right n k b piece bytes holder may =
      held_stays geo (now disk q old) (now disk (appended geo n (users.inode n) k b bytes (size_after users n k piece) holder q) old)
      (append_came geo disk q (at_rest old.held safe) n k b bytes (size_after users n k piece) holder (may_append geo disk q old safe n k b piece bytes holder may) agree)
      (append_marks geo disk q (at_rest old.held safe) n k b bytes (size_after users n k piece) holder (may_append geo disk q old safe n k b piece bytes holder may) agree) refl right

  -- one of n's blocks has moved
  moved_right : (w : View) (n k b : ℕ) → Moves geo users w n k b → ((i j a : ℕ) → (i ≡ n → ⊥) → IsClaim geo w i j a → IsClaim geo users i j a) → ((a : ℕ) → IsTrue (users.block_marked a) → IsTrue (w.block_marked a))
      → IsFalse (users.block_marked b) → IsClaim geo users n k (block_of geo users n k) → HeldAreRight geo (record old { view = w; held = held_besides geo (now disk q old) n k })
  moved_right w n k b moves others marks unmarked claim = record {
    unclaimed = λ a t c. elim (or_cases (old.held a) (eqb a (block_of geo users n k)) t) [
      | inl before ↦ elim (from c.0 c.1 a c.2) [
        | inl d ↦ right.unclaimed a before (c.0, c.1, d.0)
        | inr e ↦ both_ways (users.block_marked b) unmarked (subst (λ x. IsTrue (users.block_marked x)) e (right.marked a before))
      ]
      | inr here ↦
          let at = eqb-true a (block_of geo users n k) here in
          elim (from c.0 c.1 a c.2) [
            | inl d ↦ d.1 (rules.rule3.once c.0 c.1 n k a d.0 (subst (λ x. IsClaim geo users n k x) (sym at) claim))
            | inr e ↦ both_ways (users.block_marked b) unmarked (subst (λ x. IsTrue (users.block_marked x)) (sym at ∙ e) (rules.rule3.marked n k (block_of geo users n k) claim))
          ]
    ];
    marked = λ a t. marks a (elim (or_cases (old.held a) (eqb a (block_of geo users n k)) t) [
      | inl before ↦ right.marked a before
      | inr here ↦ subst (λ x. IsTrue (users.block_marked x)) (sym (eqb-true a (block_of geo users n k) here)) (rules.rule3.marked n k (block_of geo users n k) claim)
    ]);
  }
    where
      from : (i j a : ℕ) → IsClaim geo w i j a → (IsClaim geo users i j a × ((i ≡ n) × (j ≡ k) → ⊥)) ⊎ (a ≡ b)
      from i j a c = elim (cases_eq i n) [
        | inr o ↦ inl (others i j a o c, λ e. o e.0)
        | inl e ↦ elim (cases_eq j k) [
          | inl f ↦ inr (moves.here a (subst (λ x. IsClaim geo w n x a) f (subst (λ x. IsClaim geo w x j a) e c)))
          | inr o ↦ inl (subst (λ x. IsClaim geo users x j a) (sym e) (moves.back j a o (subst (λ x. IsClaim geo w x j a) e c)), λ g. o g.1)
        ]
      ]

  pub moved_block_right : (n k b : ℕ) (piece bytes : List ℕ) (holder : Holder) → MayWriteMoved geo (now disk q old) n k b piece bytes holder
      → HeldAreRight geo (becomes disk (relocated geo n (users.inode n) k b bytes (size_after users n k piece) holder q) (held_besides geo (now disk q old) n k) old)
  moved_block_right n k b piece bytes holder m =
      let may = may_move geo disk q old safe n k b piece bytes agree holder m in
      let size = size_after users n k piece in
      subst (λ v. HeldAreRight geo (record old { view = v; held = held_besides geo (now disk q old) n k })) (sym (moved_view geo disk q old safe n k b bytes size holder may))
      (moved_right _ n k b (moves geo disk q old safe n k b bytes size holder may) (other_claims geo disk q old safe n k b bytes size holder may)
      (marks geo disk q n k b bytes size holder (change geo disk q old safe n k b bytes size holder may)) m.free.unmarked (claim geo disk q old safe n k b piece bytes agree holder m))
