-- What a read of an open file shows.
use Rattle.std.proofs.Common.{◌≡◌, ◌<◌, ◌≤◌, ◌-◌, ◌*◌, ℕ, ◌&&◌, List, [], ◌∷◌, length, min, take, Option, Some, None, IsTrue, inl, refl, sym, ap, ap₂, ◌∙◌, subst, arith, le-leb, leb, leb-true}
use Rattle.std.specs.Prelude.{is_none, unwrap_or, nat_le}
use Rattle.std.specs.Option.{option_or}
use Rattle.std.proofs.lemmas.Bool.{and_parts, lt-leb}
use Rattle.std.proofs.lemmas.List.{take_min}
use Rattle.std.proofs.lemmas.Option.{none-some}
use Rattle.layout.specs.declared.refusal.Refusal.{Refusal}
use Rattle.layout.specs.declared.refusal.Refusal.TheVariants.{BadHandle, BadIndex}
use Rattle.model.specs.Layout.{Geometry, is_data_address, is_number}
use Rattle.model.specs.Uses.{blocks_of, claim_at, is_sound, is_sound_at}
use Rattle.model.specs.View.{Inode, View}
use Rattle.model.proofs.UseLemmas.{claim_from, claim_parts}
use Rattle.machine.specs.Below.{when}
use Rattle.machine.specs.Causes.{causes, file_of, refusal_of}
use Rattle.machine.specs.Cells.{block_of, seen}
use Rattle.machine.specs.Command.{Bytes, Read}
use Rattle.machine.specs.State.{State, open_at}
use Rattle.plans_data.proofs.Blocks.{block_claimed}
use Rattle.frozen.specs.Kept.{Kept, KeepsMetadata, frozen_view}
use Rattle.metadata.specs.Shown.{Shows}
use Rattle.metadata.proofs.ShownLemmas.{shows_metadata}
use Rattle.live_states.specs.Holdings.{Has, Holdings}
use Rattle.live_states.specs.Planned.{IsFirstCauseWith, IsOfVolumeWith, IsQuietlyDone}
use Rattle.live_states.proofs.Standing.{as_it_was}
use Rattle.live_holdings.specs.Handles.{handle_at}
use Rattle.live_holdings.proofs.Opened.{file_there, handle_there, opened_sound}
use Rattle.live_plans.proofs.FoundLemmas.{same_claim}

-- ---- refusals in order

read_causes : ℕ → Option ℕ → Inode → Option Refusal
read_causes k handle inode = option_or (when (is_none handle) BadHandle) (option_or (when (nat_le (blocks_of inode.size) k) BadIndex) None)

by_causes : (geo : Geometry) (old : State) (h k : ℕ) → refusal_of geo old (Read h k) ≡ read_causes k (open_at old h) (old.view.inode (file_of old h))
unfolding causes read_causes
by_causes geo old h k = refl

module _ (kept : Kept) (holdings : Holdings) (h k : ℕ) where
  pub to_closed : handle_at holdings h ≡ None → IsFirstCauseWith kept holdings (Read h k) BadHandle
  unfolding read_causes
  to_closed is old shows has = inl (by_causes kept.geometry old h k ∙ ap (λ o. read_causes k o (old.view.inode (file_of old h))) (handle_there holdings old h has ∙ is))

  module _ (n : ℕ) (is : handle_at holdings h ≡ Some n) where
    to_open : (old : State) → Shows kept old.view → Has holdings old → refusal_of kept.geometry old (Read h k) ≡ read_causes k (Some n) ((frozen_view kept).inode n)
    to_open old shows has =
        by_causes kept.geometry old h k ∙ ap₂ (read_causes k) (handle_there holdings old h has ∙ is) (ap old.view.inode (file_there holdings old h n has is) ∙ sym (shows.inode n))

    pub to_end : blocks_of ((frozen_view kept).inode n).size ≤ k → IsFirstCauseWith kept holdings (Read h k) BadIndex
    unfolding read_causes
    to_end past old shows has =
        inl (to_open old shows has ∙ ap (λ b. option_or (when b BadIndex) None) (le-leb (blocks_of ((frozen_view kept).inode n).size) k past))

    -- ---- what is shown

    module _ (keeps : KeepsMetadata kept) (inside : k < blocks_of ((frozen_view kept).inode n).size) (a : ℕ) (claim : claim_at kept.geometry (frozen_view kept) n k ≡ Some a) where
      accepted : (old : State) → Shows kept old.view → Has holdings old → refusal_of kept.geometry old (Read h k) ≡ None
      unfolding read_causes
      accepted old shows has =
          to_open old shows has ∙ ap (λ b. option_or (when b BadIndex) None) (lt-leb (blocks_of ((frozen_view kept).inode n).size) k inside)

      stands_at : (old : State) → Shows kept old.view → Has holdings old → block_of kept.geometry old.view (file_of old h) k ≡ a
      stands_at old shows has =
          ap (λ i. block_of kept.geometry old.view i k) (file_there holdings old h n has is)
          ∙ ap (λ o. unwrap_or o 0) (sym (same_claim kept.geometry (frozen_view kept) old.view (shows_metadata kept old.view keeps shows) n k) ∙ claim)

      module _ (bytes : List ℕ) (whole : length bytes ≡ 1024) where
        shown : (old : State) → Shows kept old.view → Has holdings old → old.view.bytes a ≡ bytes
            → take (min (((frozen_view kept).inode n).size - 1024 * k) 1024) bytes ≡ seen kept.geometry old.view (file_of old h) k
        shown old shows has sees =
            ap (λ m. take (min (((frozen_view kept).inode n).size - 1024 * k) m) bytes) (sym whole)
            ∙ take_min (((frozen_view kept).inode n).size - 1024 * k) bytes
            ∙ ap₂ (λ (i : Inode) (bs : List ℕ). take (i.size - 1024 * k) bs) (shows.inode n ∙ ap old.view.inode (sym (file_there holdings old h n has is)))
            (sym sees ∙ ap old.view.bytes (sym (stands_at old shows has)))

        pub reads : (count : ℕ) → count ≡ min (((frozen_view kept).inode n).size - 1024 * k) 1024
            → IsQuietlyDone kept holdings (record { address = a; bytes = bytes } ∷ []) (Read h k) (Bytes (take count bytes)) holdings
        reads count e = record {
          quiet = refl;
          snapshots = refl;
          held = refl;
          accepted = λ old shows has. (accepted old shows has, tt);
          effect = λ old shows has sees. (
            ap (λ m. take m bytes) e ∙ shown old shows has (sees 0 (record { address = a; bytes = bytes }) (omega arith)),
            sym (as_it_was old holdings old.view has),
          );
        }

-- the block of an open file is one of data
module _ (kept : Kept) (holdings : Holdings) (keeps : KeepsMetadata kept) (volume : IsOfVolumeWith kept holdings) (h n : ℕ) (is : handle_at holdings h ≡ Some n) (k : ℕ) where
  abbrev there : State
  there = volume.volume.old

  pub claimed : k < blocks_of ((frozen_view kept).inode n).size → claim_at kept.geometry (frozen_view kept) n k ≡ None → ⊥
  claimed inside none =
      let shows = volume.volume.shows in
      let sound = subst (λ r. IsTrue (is_number kept.geometry n && is_sound kept.geometry r)) (shows.inode n) (opened_sound kept holdings volume h n is) in
      let rules = volume.volume.stands.balance.rules in
      let within = subst (λ (i : Inode). k < blocks_of i.size) (shows.inode n) inside in
      let claims = block_claimed kept.geometry there.view rules n k sound within in
      none-some (block_of kept.geometry there.view n k)
      (sym none ∙ same_claim kept.geometry (frozen_view kept) there.view (shows_metadata kept there.view keeps shows) n k ∙ claim_from kept.geometry there.view n k (block_of kept.geometry there.view n k) claims)

  pub of_data : (a : ℕ) → claim_at kept.geometry (frozen_view kept) n k ≡ Some a → IsTrue (is_data_address kept.geometry a)
  of_data a e = (claim_parts kept.geometry (frozen_view kept) n k a e).1
