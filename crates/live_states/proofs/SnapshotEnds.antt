-- A volume goes on where a snapshot ends.
use Rattle.std.proofs.Common.{◌≡◌, ◌<◌, ◌≤◌, ℕ, Bool, true, false, List, [], ◌∷◌, length, not, ◌&&◌, ◌||◌, eqb, Ok, None, replicate, IsSome, IsTrue, ◌⊎◌, inl, inr, refl, sym, ap, ap₂, ◌∙◌, subst, slice_index_or, set as slice_set, get_or-set_same, get_or-set_other, length-set, eq-eqb, ne_eqb}
use Rattle.std.proofs.lemmas.Bool.{cases_eq, cases_lt}
use Rattle.std.proofs.lemmas.List.{get_or-replicate, get_or_past, length-replicate}
use Rattle.std.specs.Option.{option_or}
use mathlib.Core.Path.{fun_ext}
use Rattle.model.specs.Layout.{Geometry}
use Rattle.model.specs.View.{View}
use Rattle.model.proofs.Uses.{uses_agree}
use Rattle.findings.specs.Numbers.{found_below}
use Rattle.machine.proofs.Tests.{and_false, and_true}
use Rattle.ordering.specs.Cuts.{Pending, users_view}
use Rattle.updates.specs.declared.change.Update.{Update}
use Rattle.layout.specs.declared.refusal.Refusal.TheVariants.{NoSnapshot}
use Rattle.queue_model.specs.Sync.{WritesNone}
use Rattle.machine.specs.Below.{when}
use Rattle.machine.specs.Causes.{Accepts, causes}
use Rattle.machine.specs.Command.{Done, Release}
use Rattle.machine.specs.Snapshot.{released, held_still, let_go_of}
use Rattle.machine.specs.Standing.{ended, image_at, others}
use Rattle.machine.specs.State.{State, keeps, snapshot_at}
use Rattle.plans_data.specs.Release.{releasing}
use Rattle.plans_data.specs.Lists.{let_go_below}
use Rattle.plans_data.proofs.Clearing.{among, among_contains, contains_among}
use Rattle.plans_data.proofs.LetsGo.{same_truth}
use Rattle.plans_data.proofs.Lists.{let_go_are}
use Rattle.courses.specs.Serves.{CarriesOut, IsBeginning, IsSafeService, Releases, Starts}
use Rattle.courses.proofs.ServiceLemmas.{service_safe}
use Rattle.frozen.specs.Kept.{Kept, KeepsMetadata}
use Rattle.metadata.specs.declared.staged.Staged.{Staged}
use Rattle.metadata.specs.Staged.{IsStaged, after, changes}
use Rattle.kept_claims.specs.Claims.{IsMetadataClaim, GivesBytes}
use Rattle.live_states.specs.Drafts.{over}
use Rattle.live_states.specs.Holdings.{AreImagesOf, Beside, Holdings, held_by, kept_by, opened_by, plan_by}
use Rattle.live_states.specs.Snapshots.{let_go, let_go_blocks, unmarked}
use Rattle.live_states.specs.Volume.{IsVolume, state_over}
use Rattle.live_states.proofs.Images.{images_ended, same_at, same_kept}
use Rattle.live_states.proofs.Planning.{nothing_safe}
use Rattle.live_states.proofs.Snapshots.{some_image}
use Rattle.live_states.proofs.Staging.{keeps' as keeps_staged, same, shows'}

-- nothing is held then
pub none_marked : (n : ℕ) → ◌≡◌ {A = ℕ → Bool} (λ a. slice_index_or (replicate n false) a false) (λ a. false)
none_marked n = fun_ext (λ a. elim (cases_lt a n) [
  | inl low ↦ get_or-replicate n a false false low
  | inr past ↦ get_or_past (replicate n false) a false (subst (λ m. m ≤ a) (sym (length-replicate {A = Bool} n false)) past)
])

-- one block is not held any more, and so are all of a list
unmark_one : (held : List Bool) (b a : ℕ) → slice_index_or (slice_set held b false) a false ≡ (slice_index_or held a false && not (eqb a b))
unmark_one held b a = elim (cases_eq a b) [
  | inl e ↦ gone e ∙ sym (ap (λ t. slice_index_or held a false && not t) (eq-eqb a b e) ∙ and_false (slice_index_or held a false))
  | inr d ↦ get_or-set_other held b a false false d ∙ sym (ap (λ t. slice_index_or held a false && not t) (ne_eqb a b d) ∙ and_true (slice_index_or held a false))
]
  where
    gone : a ≡ b → slice_index_or (slice_set held b false) a false ≡ false
    gone e = ap (λ n. slice_index_or (slice_set held b false) n false) e ∙ elim (cases_lt b (length held)) [
      | inl low ↦ get_or-set_same held b false false low
      | inr past ↦ get_or_past (slice_set held b false) b false (subst (λ m. m ≤ b) (sym (length-set held b false)) past)
    ]

unmarked_at : (bs : List ℕ) (held : List Bool) (a : ℕ) → slice_index_or (unmarked bs held) a false ≡ (slice_index_or held a false && not (among a bs))
unmarked_at [] held a = sym (and_true (slice_index_or held a false))
unmarked_at (b ∷ bs) held a = unmarked_at bs (slice_set held b false) a ∙ ap (λ t. t && not (among a bs)) (unmark_one held b a) ∙ both (slice_index_or held a false) (eqb a b) (among a bs)
  where
    both : (h p q : Bool) → ((h && not p) && not q) ≡ (h && not (p || q))
    both true true q = refl
    both true false q = refl
    both false p q = refl

not_gone : (h k : Bool) → (h && not (h && not k)) ≡ (h && k)
not_gone true true = refl
not_gone true false = refl
not_gone false k = refl

few_held : (held : List Bool) (a : ℕ) → slice_index_or held a false ≡ true → a < length held
few_held held a t = elim (cases_lt a (length held)) [
  | inl low ↦ low
  | inr past ↦ absurd (let wrong : false ≡ true = sym (get_or_past held a false past) ∙ t in let bad : false ≡ true = wrong in cc)
]

-- what another snapshot than s keeps
abbrev kept_besides : State → ℕ → ℕ → Bool
kept_besides old s a = keeps (others old.snapshots.standing s) a

module _ (kept : Kept) (holdings : Holdings) (disk : View) (keeps : KeepsMetadata kept) (volume : IsVolume kept holdings [] disk) (s : ℕ) (stands : IsSome (image_at holdings.snapshots.standing s))
    (updates : List Update) (list : over [] updates ≡ releasing (let_go_blocks holdings s) []) (staged : Staged) (is : IsStaged kept (changes updates) staged) where
  abbrev geo : Geometry
  geo = kept.geometry

  abbrev old : State
  old = state_over disk [] holdings volume.beside

  abbrev beside' : Beside
  beside' = record { snapshots = ended volume.beside.snapshots s }

  abbrev n : ℕ
  n = length holdings.held

  pub accepts : Accepts geo old (Release s)
  unfolding causes
  accepts = (ap (λ b. option_or (when b NoSnapshot) None) (some_image (image_at holdings.snapshots.standing s) (snapshot_at old s) stands (same_at holdings.snapshots.standing volume.beside.snapshots.standing volume.snapshots.1 s)), tt)

  -- what another snapshot keeps, by the images that stand beside and by the metadata
  same_besides : (beside : Beside) → AreImagesOf holdings.snapshots beside.snapshots → (a : ℕ) → kept_besides (state_over disk [] holdings beside) s a ≡ kept_by (others holdings.snapshots.standing s) a
  same_besides beside images a = same_kept (others holdings.snapshots.standing s) (others beside.snapshots.standing s) (images_ended holdings.snapshots beside.snapshots s images).1 a

  one_besides : (beside : Beside) → AreImagesOf holdings.snapshots beside.snapshots → (a : ℕ) → kept_besides old s a ≡ kept_besides (state_over disk [] holdings beside) s a
  one_besides beside images a = same_besides volume.beside volume.snapshots a ∙ sym (same_besides beside images a)

  pub few : (a : ℕ) → IsTrue (old.held a) → a < n
  few a t = few_held holdings.held a t

  abbrev q' : List Pending
  q' = releasing (let_go_below old s n) []

  safely : IsSafeService geo volume.mount volume.history volume.cut disk [] old nothing_safe disk q' (released old s) nothing_safe (Release s ∷ []) (Ok Done ∷ []) []
  safely = service_safe geo volume.mount volume.history volume.cut disk [] old nothing_safe volume.beginning disk q' (released old s) nothing_safe (Release s ∷ []) (Ok Done ∷ []) []
      (CarriesOut (Release s) Done disk q' (released old s) nothing_safe [] Starts accepts (Releases s [] [] disk n WritesNone few))

  begins : IsBeginning geo volume.mount safely.lived.h' safely.lived.cut' disk q' (released old s) nothing_safe
  begins = record { stands = safely.stands; moment = safely.lived.moment }

  -- what goes is what the machine lets go
  same_blocks : let_go_blocks holdings s ≡ let_go_below old s n
  same_blocks = ap (λ (f : ℕ → Bool). found_below f (λ a. a) n) (fun_ext (λ a. ap (λ k. held_by holdings a && not k) (sym (same_besides volume.beside volume.snapshots a))))

  pub cleared : over [] updates ≡ q'
  cleared = list ∙ ap (λ bs. releasing bs []) same_blocks

  -- the bits of what goes are cleared, and nothing else changes
  view_then : users_view disk (over [] updates) ≡ (released old s).view
  view_then = ap (users_view disk) cleared ∙ safely.stands.same

  among_gone : (a : ℕ) → among a (let_go_below old s n) ≡ let_go_of old s a
  among_gone a = same_truth (among a (let_go_below old s n)) (let_go_of old s a)
      (λ t. (let_go_are old s n few a).0 (among_contains a (let_go_below old s n) t)) (λ t. contains_among a (let_go_below old s n) ((let_go_are old s n few a).1 t))

  -- so it is whatever images stand beside
  module _ (beside : Beside) (images : AreImagesOf holdings.snapshots beside.snapshots) where
    abbrev before : State
    before = state_over disk [] holdings beside

    view_after : users_view disk (over [] updates) ≡ (released before s).view
    view_after = view_then ∙ ap (λ (f : ℕ → Bool). record (users_view disk []) { block_marked = λ a. (users_view disk []).block_marked a && not (f a) })
        (fun_ext (λ a. ap (λ k. held_by holdings a && not k) (one_besides beside images a)))

    pub held_after : held_by (let_go holdings s) ≡ held_still before s
    held_after = fun_ext (λ a.
        unmarked_at (let_go_blocks holdings s) holdings.held a ∙ ap (λ bs. held_by holdings a && not (among a bs)) same_blocks ∙ ap (λ t. held_by holdings a && not t) (among_gone a)
        ∙ not_gone (held_by holdings a) (kept_besides old s a) ∙ ap (λ k. held_by holdings a && k) (one_besides beside images a))

    pub let_go_state : state_over disk (over [] updates) (let_go holdings s) (record { snapshots = ended beside.snapshots s }) ≡ released before s
    let_go_state = ap₂ (λ (v : View) (h : ℕ → Bool). record { view = v; opened = opened_by holdings; held = h; snapshots = ended beside.snapshots s; plan = plan_by holdings }) view_after held_after

  claimed_before : (i k a : ℕ) → IsMetadataClaim geo (users_view disk (over [] updates)) i k a → IsMetadataClaim geo (users_view disk []) i k a ⊎ GivesBytes (over [] updates) a
  claimed_before i k a claim =
      let there = subst (λ v. IsMetadataClaim geo v i k a) view_then claim in
      inl ((uses_agree geo (users_view disk []) (released old s).view i k (λ number. refl) (λ m b above c. refl) ∙ there.0.0, there.0.1), there.1)

  pub let_go_keeps : KeepsMetadata (after kept staged)
  let_go_keeps = keeps_staged kept [] disk updates keeps volume.shows claimed_before staged is

  pub let_go_volume : IsVolume (after kept staged) (let_go holdings s) (over [] updates) disk
  let_go_volume = record {
    beside = beside';
    snapshots = images_ended holdings.snapshots volume.beside.snapshots s volume.snapshots;
    mount = volume.mount;
    history = safely.lived.h';
    cut = safely.lived.cut';
    beginning = subst (λ g. IsBeginning g volume.mount safely.lived.h' safely.lived.cut' disk (over [] updates) (state_over disk (over [] updates) (let_go holdings s) beside') nothing_safe)
        (sym (same kept [] disk updates keeps volume.shows claimed_before staged is))
        (subst (λ st. IsBeginning geo volume.mount safely.lived.h' safely.lived.cut' disk (over [] updates) st nothing_safe) (sym (let_go_state volume.beside volume.snapshots))
        (subst (λ q. IsBeginning geo volume.mount safely.lived.h' safely.lived.cut' disk q (released old s) nothing_safe) (sym cleared) begins));
    shows = shows' kept [] disk updates keeps volume.shows claimed_before staged is;
  }
