-- A volume stays one without a block in memory that a file holds data in.
use Rattle.std.proofs.Common.{◌≡◌, ◌<◌, ℕ, List, IsFalse, true, false, sym, ap, ◌∙◌, arith}
use Rattle.std.proofs.lemmas.Bool.{leb-true}
use Rattle.model.specs.Layout.{Geometry}
use Rattle.model.specs.Rules.{ObeysRules}
use Rattle.model.specs.Shape.{most_blocks}
use Rattle.model.specs.Uses.{IsClaim, is_directory_at}
use Rattle.model.specs.View.{View}
use Rattle.model.proofs.Same.{SameFacts, claim_there, same_facts}
use Rattle.ordering.specs.Cuts.{Pending, users_view}
use Rattle.frozen.specs.Installed.{IsPlain, without_block}
use Rattle.frozen.specs.Kept.{Kept, KeepsMetadata, frozen_view}
use Rattle.metadata.proofs.LettingGo.{shows_without}
use Rattle.metadata.proofs.ShownLemmas.{shows_metadata}
use Rattle.live_states.specs.Holdings.{Holdings}
use Rattle.live_states.specs.Volume.{IsVolume}

module _ (kept : Kept) (holdings : Holdings) (q : List Pending) (disk : View) (keeps : KeepsMetadata kept) (volume : IsVolume kept holdings q disk)
    (f k a : ℕ) (claim : IsClaim kept.geometry (frozen_view kept) f k a) (inside : k < most_blocks kept.geometry) (is_file : IsFalse (is_directory_at kept.geometry (frozen_view kept) f)) where
  abbrev geo : Geometry
  geo = kept.geometry

  abbrev users : View
  users = users_view disk q

  rules : ObeysRules geo users
  rules = volume.beginning.stands.balance.rules

  facts : SameFacts geo (frozen_view kept) users
  facts = same_facts geo (frozen_view kept) users (shows_metadata kept users keeps volume.shows)

  -- no other claim is on the block
  once : (i l : ℕ) → IsClaim geo (frozen_view kept) i l a → (f ≡ i) × (k ≡ l)
  once i l other = rules.rule3.once f k i l a (claim_there geo (frozen_view kept) users facts f k a claim) (claim_there geo (frozen_view kept) users facts i l a other)

  pub plain : IsPlain kept a
  plain = record {
    of_data = claim.1;
    no_table = λ i m is other. let e = (once i m other).1 in let from = leb-true (most_blocks geo) m is in omega (arith, inside, e, from);
    no_directory = λ d l t other. let bad : false ≡ true = sym is_file ∙ ap (is_directory_at geo (frozen_view kept)) (once d l other).0 ∙ t in cc;
  }

  pub volume_without : IsVolume (without_block kept a) holdings q disk
  volume_without = record {
    beside = volume.beside;
    snapshots = volume.snapshots;
    mount = volume.mount;
    history = volume.history;
    cut = volume.cut;
    beginning = volume.beginning;
    shows = shows_without kept keeps.frame a claim.1 users volume.shows;
  }
