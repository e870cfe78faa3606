-- A volume once a snapshot begins, and once one ends.
use Rattle.std.proofs.Common.{◌≡◌, ◌<◌, ◌≤◌, ◌+◌, ℕ, zero, suc, add-one, arith, false, not, ◌&&◌, All, List, [], ◌∷◌, length, map, take, IsSome, IsTrue, refl, sym, ap, ap₂, ◌∙◌, subst, slice_index_or}
use Rattle.std.proofs.lemmas.Bool.{and_parts}
use Rattle.std.proofs.lemmas.List.Elements.{All-contains_itself, All-weaker}
use Rattle.std.specs.List.{Contains}
use Rattle.findings.proofs.FoundBelow.{found_members}
use Rattle.model.specs.Cells.{SetBlock}
use Rattle.model.specs.Image.{IsImage, image_view}
use Rattle.model.specs.Layout.{block_count, is_data_address}
use Rattle.model.specs.View.{View}
use Rattle.ordering.specs.Cuts.{Pending}
use Rattle.live_holdings.proofs.Tables.{unmarked_length}
use Rattle.machine.specs.Standing.{ended, image_at, others, too_many}
use Rattle.machine.specs.Snapshot.{released}
use Rattle.plans_data.specs.Release.{releasing}
use Rattle.updates.specs.Values.{written}
use Rattle.frozen.specs.Kept.{Kept, KeepsMetadata}
use Rattle.metadata.proofs.Steps.{same_geometry}
use Rattle.metadata.specs.declared.staged.Staged.{Staged}
use Rattle.metadata.specs.Staged.{IsStaged, after, changes}
use Rattle.softdep.specs.Queued.{Queued, pending_of}
use Rattle.live_states.specs.Drafts.{Draft, over}
use Rattle.live_states.specs.Holdings.{AreImagesOf, Beside, Holdings, held_by, kept_by}
use Rattle.live_states.specs.Snapshots.{AreRepairsOf, IsSettled, keeping, let_go, let_go_blocks}
use Rattle.live_states.specs.Volume.{IsVolume, state_over}
use Rattle.live_states.proofs.SnapshotEnds.{let_go_keeps, let_go_state, let_go_volume}
use Rattle.live_states.proofs.Snapshots.{kept_volume}
use Rattle.live.specs.Alive.{AreSnapshotsOf, IsLive}
use Rattle.live.specs.Issued.{IsIssued}
use Rattle.live.proofs.Carrying.{issued_geometry}
use Rattle.live.proofs.Whole.{whole_begun, whole_ended}

-- ---- the updates of its end

-- the update that clears the bit of a block
abbrev pub cleared_at : ℕ → Pending
cleared_at a = record { change = SetBlock a false; after = [] }

clears_more : (blocks : List ℕ) (k : ℕ) (q : List Pending) → k < length blocks → releasing (take (suc k) blocks) q ≡ cleared_at (slice_index_or blocks k 0) ∷ releasing (take k blocks) q
clears_more [] k q low = absurd (omega (arith, low))
clears_more (b ∷ blocks) zero q low = refl
clears_more (b ∷ blocks) (suc k) q low = clears_more blocks k (cleared_at b ∷ q) (omega (arith, low))

pub clears_next : (blocks : List ℕ) (k : ℕ) → k < length blocks → releasing (take (k + 1) blocks) [] ≡ cleared_at (slice_index_or blocks k 0) ∷ releasing (take k blocks) []
clears_next blocks k low = ap (λ n. releasing (take n blocks) []) (add-one k) ∙ clears_more blocks k [] low

-- ---- what is held is data blocks

module _ (kept : Kept) (holdings : Holdings) (q : List Pending) (disk : View) (volume : IsVolume kept holdings q disk) where
  held_is_data : (a : ℕ) → IsTrue (held_by holdings a) → IsTrue (is_data_address kept.geometry a)
  held_is_data a t =
      let marked = (volume.beginning.stands.balance.held_block a t).1 in
      (and_parts (is_data_address kept.geometry a) _ (subst (λ b. IsTrue b) (sym (volume.shows.block_marked a)) marked)).0

  let_go_is_data : (s a : ℕ) → Contains (let_go_blocks holdings s) a → IsTrue (is_data_address kept.geometry a)
  let_go_is_data s a c =
      let found = found_members (λ b. held_by holdings b && not (kept_by (others holdings.snapshots.standing s) b)) (λ b. b) (length holdings.held) a c in
      subst (λ b. IsTrue (is_data_address kept.geometry b)) found.is (held_is_data found.number (and_parts (held_by holdings found.number) _ found.passes).0)

  pub held_are_data : (s : ℕ) (blocks : List ℕ) → blocks ≡ let_go_blocks holdings s → All (λ a. IsTrue (is_data_address kept.geometry a)) blocks
  held_are_data s blocks e =
      let gone = let_go_blocks holdings s in
      subst (All (λ a. IsTrue (is_data_address kept.geometry a))) (sym e)
      (All-weaker (Contains gone) (λ a. IsTrue (is_data_address kept.geometry a)) (let_go_is_data s) gone (All-contains_itself gone))

-- ---- it begins

module _ (honest : Type 0) (image : List (List ℕ)) (queue : Queued) (kept : Kept) (holdings : Holdings) (live : IsLive honest image queue kept holdings) (none : pending_of queue ≡ []) where
  module _ (room : too_many holdings.snapshots ≡ false) (snapshot : Kept) (settles : IsSettled kept holdings snapshot) (whole : (snapshot.geometry ≡ kept.geometry) × KeepsMetadata snapshot) where
    keeps_over : (disk : View) → IsVolume kept holdings (pending_of queue) disk → IsVolume kept (keeping holdings snapshot) (pending_of queue) disk
    keeps_over disk volume =
        subst (λ q. IsVolume kept (keeping holdings snapshot) q disk) (sym none)
        (kept_volume kept holdings disk (subst (λ q. IsVolume kept holdings q disk) none volume) room snapshot settles)

    pub live_kept : IsLive honest image queue kept (keeping holdings snapshot)
    live_kept = record {
      geometry = live.geometry;
      alive = record {
        count = live.alive.count;
        keeps = live.alive.keeps;
        disk = live.alive.disk;
        some = keeps_over live.alive.disk live.alive.some;
        true = λ h. keeps_over (image_view kept.geometry image) (live.alive.true h);
      };
      marks = live.marks;
      repairs = tt;
      snapshots = whole_begun kept.geometry holdings.snapshots live.snapshots snapshot room whole;
      framed = live.framed;
    }

  -- ---- it ends

  module _ (s : ℕ) (stands : IsSome (image_at holdings.snapshots.standing s)) (draft : Draft) (list : over [] draft.updates ≡ releasing (let_go_blocks holdings s) []) where
    pub metadata_then : (staged : Staged) → IsStaged kept (changes draft.updates) staged → KeepsMetadata (after kept staged)
    metadata_then staged is =
        let_go_keeps kept holdings live.alive.disk live.alive.keeps (subst (λ q. IsVolume kept holdings q live.alive.disk) none live.alive.some) s stands draft.updates list staged is

    module _ (queue' : Queued) (kept' : Kept) (is : IsIssued draft queue kept queue' kept') where
      pub pending_then : pending_of queue' ≡ over [] draft.updates
      pending_then = is.pending ∙ ap (λ q. over q draft.updates) none

      geometry' : kept'.geometry ≡ kept.geometry
      geometry' = ap (λ (k : Kept). k.geometry) is.metadata ∙ same_geometry kept is.staged.blocks.items

      ends_over : (disk : View) → IsVolume kept holdings (pending_of queue) disk → IsVolume kept' (let_go holdings s) (pending_of queue') disk
      ends_over disk volume =
          subst (λ k. IsVolume k (let_go holdings s) (pending_of queue') disk) (sym is.metadata)
          (subst (λ q. IsVolume (after kept is.staged) (let_go holdings s) q disk) (sym pending_then)
          (let_go_volume kept holdings disk live.alive.keeps (subst (λ q. IsVolume kept holdings q disk) none volume) s stands draft.updates list is.staged is.is_staged))

      pub live_let_go : IsLive honest image queue' kept' (let_go holdings s)
      live_let_go = record {
        geometry = ap (λ (q : Queued). q.geometry) is.queued ∙ issued_geometry queue (map written draft.updates) ∙ live.geometry ∙ sym geometry';
        alive = record {
          count = live.alive.count ∙ ap block_count (sym geometry');
          keeps = subst KeepsMetadata (sym is.metadata) (metadata_then is.staged is.is_staged);
          disk = live.alive.disk;
          some = ends_over live.alive.disk live.alive.some;
          true = λ h. subst (λ geo. IsVolume kept' (let_go holdings s) (pending_of queue') (image_view geo image)) (sym geometry') (ends_over (image_view kept.geometry image) (live.alive.true h));
        };
        marks = subst (λ n. n ≤ length (let_go holdings s).held) (ap block_count (sym geometry')) (subst (λ n. block_count kept.geometry ≤ n) (sym (unmarked_length (let_go_blocks holdings s) holdings.held)) live.marks);
        repairs = subst (λ geo. AreRepairsOf geo holdings.repairs) (sym geometry') live.repairs;
        snapshots = subst (λ geo. AreSnapshotsOf geo (ended holdings.snapshots s)) (sym geometry') (whole_ended kept.geometry holdings.snapshots live.snapshots s);
        framed = λ h. subst (λ geo. IsImage geo image) (sym geometry') (live.framed h);
      }

      -- users see what the machine has then
      pub released_then : honest → (beside : Beside) → AreImagesOf holdings.snapshots beside.snapshots
          → state_over (image_view kept'.geometry image) (pending_of queue') (let_go holdings s) (record { snapshots = ended beside.snapshots s })
          ≡ released (state_over (image_view kept.geometry image) (pending_of queue) holdings beside) s
      released_then h beside images =
          let disk = image_view kept.geometry image in
          ap₂ (λ geo q. state_over (image_view geo image) q (let_go holdings s) (record { snapshots = ended beside.snapshots s })) geometry' pending_then
          ∙ let_go_state kept holdings disk live.alive.keeps (subst (λ q. IsVolume kept holdings q disk) none (live.alive.true h)) s stands draft.updates list is.staged is.is_staged beside images
          ∙ ap (λ q. released (state_over disk q holdings beside) s) (sym none)
