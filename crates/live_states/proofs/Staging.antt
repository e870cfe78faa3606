-- What is kept after updates were staged is all metadata again, where they make no new claim on it but of blocks that they give their bytes.
use Rattle.std.proofs.Common.{◌≡◌, ℕ, ◌&&◌, List, [], ◌∷◌, ◌++◌, map, unwrap_or, IsTrue, IsSome, ◌⊎◌, inl, inr, refl, sym, ap, ◌∙◌, subst}
use Rattle.std.specs.List.{Contains}
use Rattle.std.proofs.lemmas.Bool.{cond-true, le-leb}
use Rattle.model.specs.Layout.{Geometry, is_data_address, is_number}
use Rattle.model.specs.View.{View}
use Rattle.model.specs.Cells as model
use Rattle.model.specs.Shape.{most_blocks, place_in_table, pointer_in}
use Rattle.model.specs.Uses.{is_directory, is_sound, use_at}
use Rattle.model.proofs.Same.{claim_there, directory_there, other_way, same_facts}
use Rattle.model.proofs.Shape.{by_way, table_is_table}
use Rattle.model.proofs.Uses.{uses_step}
use Rattle.ordering.specs.Cuts.{Pending, users_view}
use Rattle.queue_model.specs.Files.{Written}
use Rattle.queue_model.proofs.Lists.{contains_cases, contains_head, contains_none, contains_tail}
use Rattle.updates.specs.declared.change.Update.{Update}
use Rattle.updates.specs.Values.{change, written}
use Rattle.softdep.specs.Queued.{added}
use Rattle.frozen.specs.Kept.{Kept, KeepsTables, KeepsDirectory, KeepsMetadata, frozen_view, kept_at, kept_bytes}
use Rattle.frozen.proofs.ClaimLemmas.{there}
use Rattle.metadata.specs.declared.staged.Staged.{Staged}
use Rattle.metadata.specs.Shown.{Shows}
use Rattle.metadata.specs.Staged.{IsStaged, after, changes, GivesBytes as Gives}
use Rattle.metadata.proofs.ShownLemmas.{shows_metadata}
use Rattle.metadata.proofs.Steps.{frame_with_all, same_geometry}
use Rattle.kept_claims.specs.Claims.{IsMetadataClaim, GivesBytes}
use Rattle.live_states.specs.Drafts.{over}

-- ---- lists of updates

added_after : (p q : List Pending) (ws : List Written) → added (p ++ q) ws ≡ added p ws ++ q
added_after p q [] = refl
added_after p q (w ∷ ws) = added_after (w.update ∷ p) q ws

pub over_after : (q : List Pending) (us : List Update) → over q us ≡ over [] us ++ q
over_after q us = added_after [] q (map written us)

pub users_over : (disk : View) (q : List Pending) (us : List Update) → users_view disk (over q us) ≡ model.updated_all (users_view disk q) (changes us)
users_over disk q [] = refl
users_over disk q (u ∷ us) = users_over disk ((written u).update ∷ q) us

-- what is added is what was there, or a change of one of the updates
change_of_added : (acc : List Pending) (us : List Update) (p : Pending) → Contains (over acc us) p → Contains acc p ⊎ Contains (changes us) p.change
change_of_added acc [] p c = inl c
change_of_added acc (u ∷ us) p c = elim (change_of_added ((written u).update ∷ acc) us p c) [
  | inr rest ↦ inr (contains_tail (change u.change) p.change (changes us) rest)
  | inl now ↦ elim (contains_cases (written u).update p acc now) [
    | inl e ↦ inr (subst (λ (x : Pending). Contains (changes (u ∷ us)) x.change) e (contains_head (change u.change) (changes us)))
    | inr before ↦ inl before
  ]
]

gives : (us : List Update) (a : ℕ) → GivesBytes (over [] us) a → Gives (changes us) a
gives us a (p, c, bytes, e) = elim (change_of_added [] us p c) [
  | inl none ↦ absurd (contains_none p none)
  | inr is ↦ (bytes, subst (Contains (changes us)) e is)
]

-- ---- what is kept

module _ (kept : Kept) (q : List Pending) (disk : View) (updates : List Update) (keeps : KeepsMetadata kept) (shows : Shows kept (users_view disk q))
    (more : (i k a : ℕ) → IsMetadataClaim kept.geometry (users_view disk (over q updates)) i k a → IsMetadataClaim kept.geometry (users_view disk q) i k a ⊎ GivesBytes (over [] updates) a)
    (staged : Staged) (is : IsStaged kept (changes updates) staged) where
  abbrev geo : Geometry
  geo = kept.geometry

  abbrev q' : List Pending
  q' = over q updates

  abbrev kept' : Kept
  kept' = after kept staged

  abbrev users : View
  users = users_view disk q

  abbrev users' : View
  users' = users_view disk q'

  pub same : kept'.geometry ≡ geo
  same = same_geometry kept staged.blocks.items

  pub shows' : Shows kept' users'
  shows' = subst (Shows kept') (sym (users_over disk q updates)) (is.view users shows)

  -- a block that was metadata is kept
  kept_before : (i k a : ℕ) → IsMetadataClaim geo users i k a → IsSome (kept_at kept.blocks a)
  kept_before i k a (claim, kind) =
      let facts = other_way (same_facts geo (frozen_view kept) users (shows_metadata kept users keeps shows)) in
      let there = claim_there geo users (frozen_view kept) facts i k a claim in
      elim kind [
        | inl table ↦ keeps.tables i k table a there
        | inr d ↦ keeps.directory_blocks i (directory_there geo users (frozen_view kept) facts i d) k a there
      ]

  kept_now : (i k a : ℕ) → IsMetadataClaim kept'.geometry users' i k a → IsSome (kept_at kept'.blocks a)
  kept_now i k a claim =
      elim (more i k a (subst (λ g. IsMetadataClaim g users' i k a) same claim)) [
        | inl before ↦ is.more a (inl (kept_before i k a before))
        | inr given ↦ is.more a (inr (gives updates a given))
      ]

  bytes_shown : (a : ℕ) → IsTrue (is_data_address kept'.geometry a) → IsSome (kept_at kept'.blocks a) → (frozen_view kept').bytes a ≡ users'.bytes a
  bytes_shown a address some =
      let at = there (kept_at kept'.blocks a) some in
      cond-true (is_data_address kept'.geometry a) (kept_bytes kept'.blocks a) [] address ∙ ap (λ o. unwrap_or o []) at.1 ∙ sym (shows'.bytes a at.0 address at.1)

  -- users use the same: the tables on the way are metadata, so they are kept
  shown : (i k : ℕ) → use_at kept'.geometry (frozen_view kept') i k ≡ use_at kept'.geometry users' i k
  shown i = by_way kept'.geometry (λ k. use_at kept'.geometry (frozen_view kept') i k ≡ use_at kept'.geometry users' i k)
      (λ k tables. uses_step kept'.geometry (frozen_view kept') users' i k (λ number. shows'.inode i) tables
      (λ m t h has claim.
      let table = le-leb (most_blocks kept'.geometry) m (table_is_table kept'.geometry k m h) in
      ap (λ bytes. pointer_in bytes (place_in_table kept'.geometry k)) (bytes_shown t claim.1 (kept_now i m t ((sym (tables m h) ∙ claim.0, claim.1), inl table)))))

  tables' : KeepsTables kept'
  tables' i m table a claim = kept_now i m a ((sym (shown i m) ∙ claim.0, claim.1), inl table)

  directory' : (d : ℕ) → KeepsDirectory kept' d
  directory' d t k a claim =
      kept_now d k a (
        (sym (shown d k) ∙ claim.0, claim.1),
        inr (subst (λ r. IsTrue ((is_number kept'.geometry d && is_sound kept'.geometry r) && is_directory r)) (shows'.inode d) t),
      )

  pub keeps' : KeepsMetadata kept'
  keeps' = record {
    frame = frame_with_all kept staged.blocks.items keeps.frame is.fits;
    tables = tables';
    directory_blocks = directory';
  }
