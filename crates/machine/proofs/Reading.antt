-- A read gives as many bytes as the file has in that block.
use Rattle.std.proofs.Common.{◌≡◌, ◌<◌, ◌-◌, ◌*◌, ℕ, Bool, true, false, not, leb, eqb, List, length, min, inl, inr, refl, sym, ap, ◌∙◌, IsTrue, Some, Ok, eq-eqb}
use Rattle.std.specs.Prelude.{unwrap_or}
use Rattle.std.specs.Option.{option_and_then}
use Rattle.std.proofs.lemmas.Bool.{leb-false, both_ways, and_parts, and_from}
use Rattle.std.proofs.lemmas.List.{length-take}
use Rattle.model.specs.Layout.{Geometry, is_number}
use Rattle.model.specs.View.{View}
use Rattle.model.specs.Uses.{is_sound, is_sound_at, blocks_of, IsClaim}
use Rattle.model.specs.Rules.{ObeysRules}
use Rattle.model.proofs.UseLemmas.{claim_from}
use Rattle.model.proofs.Uses.{below_has, has_claims, sound_few}
use Rattle.layout.specs.declared.refusal.Refusal.TheVariants.{BadIndex, NotFound}
use Rattle.machine.specs.Below.{when}
use Rattle.machine.specs.State.{State, snapshot_at}
use Rattle.machine.specs.Command.{Read, SnapRead, Bytes}
use Rattle.machine.specs.Cells.{seen, block_of}
use Rattle.machine.specs.Causes.{causes, file_of, is_used_number, past}
use Rattle.machine.specs.Whole.{HasWholeBlocks}
use Rattle.machine.specs.Step.{Step}
use Rattle.machine.specs.Balance.{Balance}
use Rattle.machine.proofs.Decisions.{sound_parts}
use Rattle.machine.proofs.OpenHandles.{opened_file}
use Rattle.machine.proofs.Walks.{quiet, when_none}

module _ (geo : Geometry) (v : View) (o : ObeysRules geo v) (whole : HasWholeBlocks geo v) (i k : ℕ) (sound : IsTrue (is_sound_at geo v i)) (inside : k < blocks_of (v.inode i).size) where
  pub claimed : (a : ℕ) × IsClaim geo v i k a
  claimed = has_claims geo v i (λ q a u. o.rule3.claims i q a u) sound k (below_has geo (v.inode i) k inside (sound_few geo (v.inode i) (sound_parts geo v i sound).1))

  pub seen_length : length (seen geo v i k) ≡ min ((v.inode i).size - 1024 * k) 1024
  seen_length =
      length-take ((v.inode i).size - 1024 * k) (v.bytes (block_of geo v i k))
      ∙ ap (λ n. min ((v.inode i).size - 1024 * k) n) (ap (λ b. length (v.bytes (unwrap_or b 0))) (claim_from geo v i k claimed.0 claimed.1) ∙ (whole claimed.0 claimed.1.1).length)

module _ (geo : Geometry) (old new : State) (b : Balance geo old) where
  pub read_length : (h k : ℕ) (bytes : List ℕ) → Step geo old (Read h k) (Ok (Bytes bytes)) new → length bytes ≡ min ((old.view.inode (file_of old h)).size - 1024 * k) 1024
  unfolding causes
  read_length h k bytes s =
      let q = quiet (causes geo old (Read h k)) s.0.0 in
      let p = b.open_file (file_of old h) (h, opened_file old h q.0) in
      ap length s.1.0 ∙ seen_length geo old.view b.rules b.whole (file_of old h) k p.0 (leb-false (blocks_of (old.view.inode (file_of old h)).size) k (when_none (leb (blocks_of (old.view.inode (file_of old h)).size) k) BadIndex q.1.0))

  pub snap_read_length : (n i k : ℕ) (bytes : List ℕ) (image : View) → snapshot_at old n ≡ Some image → Step geo old (SnapRead n i k) (Ok (Bytes bytes)) new → length bytes ≡ min ((image.inode i).size - 1024 * k) 1024
  unfolding causes
  snap_read_length n i k bytes image stands s =
      let q = quiet (causes geo old (SnapRead n i k)) s.0.0 in
      let h = b.snapshot n image stands in
      let same : s.1.0 ≡ image = some_view s.1.0 image (sym s.1.1 ∙ stands) in
      let is_used_here = used_number (when_none (not (is_used_number geo image i)) NotFound (sym (ap (option_and_then (λ w. when (not (is_used_number geo w i)) NotFound)) stands) ∙ q.1.0)) in
      let within = when_none (leb (blocks_of (image.inode i).size) k) BadIndex (sym (ap (option_and_then (λ w. past geo w i k)) stands) ∙ q.1.1.1.0) in
      ap length (s.1.2 ∙ ap (λ w. seen geo w i k) same)
      ∙ seen_length geo image h.0 h.1 i k (sound_of h.0 is_used_here) (leb-false (blocks_of (image.inode i).size) k within)
    where
      some_view : (v w : View) → Some v ≡ Some w → v ≡ w
      some_view v w e = cc

      used_number : not (is_used_number geo image i) ≡ false → IsTrue (is_used_number geo image i)
      used_number f = go (is_used_number geo image i) f
        where
          go : (t : Bool) → not t ≡ false → t ≡ true
          go true f = refl
          go false f = absurd (both_ways true f refl)

      sound_of : ObeysRules geo image → IsTrue (is_used_number geo image i) → IsTrue (is_sound_at geo image i)
      sound_of o u =
          let parts = and_parts (is_number geo i) (not (eqb (image.inode i).mode 0)) u in
          elim (o.rule2 i parts.0) [
            | inr h ↦ and_from (is_number geo i) (is_sound geo (image.inode i)) parts.0 h
            | inl z ↦ absurd (both_ways (not (eqb (image.inode i).mode 0)) (ap not (eq-eqb (image.inode i).mode 0 z)) parts.1)
          ]
