-- Each command that no cause refuses is carried out by its updates.
use Rattle.std.proofs.Common.{◌≡◌, ◌/◌, ℕ, Bool, List, ◌∷◌, refl, sym, subst, IsFalse, Contains}
use Rattle.model.specs.Layout.{Geometry}
use Rattle.model.specs.View.{View}
use Rattle.model.specs.Uses.{blocks_of}
use Rattle.model.specs.Slots.{Empty, slot}
use Rattle.ordering.specs.Cuts.{Cell, Record, Pending, users_view}
use Rattle.ordering.specs.Ghosts.{at_rest}
use Rattle.machine.specs.State.{State}
use Rattle.machine.specs.Command.{Create, Mkdir, Link, Number, Done}
use Rattle.machine.specs.Paths.{holder, name_in, number_at}
use Rattle.machine.specs.Room.{IsFreeNumber, IsFreeBlock, has_room}
use Rattle.machine.specs.Cells.{IsEntryFor, block_of}
use Rattle.machine.specs.Causes.{Accepts}
use Rattle.machine.specs.Effects.{AreDots}
use Rattle.plans_data.specs.Append.{Holder, IsKeptIn, AreApart, new_blocks}
use Rattle.plans_data.specs.Issues.{Issues}
use Rattle.plans_naming.specs.Entries.{HasBlocks, HasOtherBlocks, UnmarkedAreNotHeld}
use Rattle.plans_data.specs.Carried.{Stands, IsCarriedOut}
use Rattle.plans_naming.specs.Grow.{AreOther}
use Rattle.plans_naming.specs.Create.{CanCreate, CanCreateGrown, creating, creating_grown}
use Rattle.plans_naming.specs.Link.{CanLink, CanLinkGrown, linking, linking_grown}
use Rattle.plans_naming.specs.Make.{CanMakeIn, CanMakeGrown, making, making_grown}
use Rattle.plans_naming.proofs.AcceptedPlaces.{held_are_marked}
use Rattle.plans_naming.proofs.AcceptedCommands.{accepted_create, accepted_create_grown, accepted_make, accepted_make_grown, accepted_link, accepted_link_grown}
use Rattle.plans_naming.proofs.CreateEffect.{creating_creates}
use Rattle.plans_naming.proofs.CreateOrder.{creating_leads}
use Rattle.plans_naming.proofs.CreateGrown.{creating_grown_creates, creating_grown_issues}
use Rattle.plans_naming.proofs.Links.{linking_links, linking_leads}
use Rattle.plans_naming.proofs.LinkGrown.{linking_grown_links, linking_grown_issues}
use Rattle.plans_naming.proofs.MakeInSlot.{making_makes, making_issues}
use Rattle.plans_naming.proofs.MakeGrown.{making_grown_issues}
use Rattle.plans_naming.proofs.MakeGrownEffect.{making_grown_makes}
use Rattle.plans_data.proofs.Stands.{carried}

module _ (geo : Geometry) (disk : View) (q : List Pending) (old : State) (safe : ℕ → Bool) (stands : Stands geo disk q old safe) where
  abbrev v : View
  v = old.view

  pub not_held : UnmarkedAreNotHeld v old.held
  not_held = held_are_marked geo old stands.balance

  pub not_held' : UnmarkedAreNotHeld (users_view disk q) old.held
  not_held' = subst (λ w. UnmarkedAreNotHeld w old.held) (sym stands.same) not_held

  -- what is issued over the users' view, in terms of the state
  pub over : (plan : View → List Pending) (safe' : ℕ → Bool) → Issues geo disk q (at_rest old.held safe) (plan (users_view disk q)) (at_rest old.held safe')
      → Issues geo disk q (at_rest old.held safe) (plan v) (at_rest old.held safe')
  over plan safe' h = subst (λ w. Issues geo disk q (at_rest old.held safe) (plan w) (at_rest old.held safe')) stands.same h

  pub carries_create : (p words : List ℕ) → Accepts geo old (Create p words) → (n s : ℕ) (entry : List ℕ) (after : List Cell) → IsFreeNumber geo v n → slot geo v (holder geo v p) s ≡ Empty → IsEntryFor n (name_in p) entry
      → Contains after (Record n) → HasOtherBlocks geo v (holder geo v p) (block_of geo v (holder geo v p) (s / 16)) after
      → IsCarriedOut geo disk q old (Create p words) (Number n) (creating n words (block_of geo v (holder geo v p) (s / 16)) (v.bytes (block_of geo v (holder geo v p) (s / 16))) s entry after q)
      (record old { view = users_view disk (creating n words (block_of geo v (holder geo v p) (s / 16)) (v.bytes (block_of geo v (holder geo v p) (s / 16))) s entry after q) }) safe safe
  carries_create p words accepts n s entry after free empty says first others =
      let d = holder geo v p in
      let c = block_of geo v d (s / 16) in
      let can = accepted_create geo old stands.balance stands.geometry p words accepts n s entry after free empty says first others in
      carried geo disk q old safe stands (Create p words) (Number n) (creating n words c (v.bytes c) s entry after q) (record old { view = users_view disk (creating n words c (v.bytes c) s entry after q) }) safe
      (accepts, creating_creates geo old p words n s c entry after (stands.balance).rules can disk q stands.same) refl
      (over (λ w. creating n words c (w.bytes c) s entry after q) safe
      (creating_leads geo disk q old.held safe n words d s c (name_in p) entry after (subst (λ w. CanCreate geo w n d s c (name_in p) entry after) (sym stands.same) can) stands.agree))

  pub carries_create_grown : (p words : List ℕ) → Accepts geo old (Create p words) → (n c : ℕ) (kept : Holder) (s : ℕ) (entry : List ℕ) (after : List Cell) → IsFreeNumber geo v n → IsFalse (has_room geo v (holder geo v p))
      → IsFreeBlock geo v c → IsKeptIn geo v (holder geo v p) (blocks_of (v.inode (holder geo v p)).size) c kept → AreApart (c ∷ new_blocks kept) → s / 16 ≡ blocks_of (v.inode (holder geo v p)).size → IsEntryFor n (name_in p) entry
      → Contains after (Record n) → HasBlocks geo v (holder geo v p) after
      → IsCarriedOut geo disk q old (Create p words) (Number n) (creating_grown geo n words (holder geo v p) (v.inode (holder geo v p)) c kept s entry after q)
      (record old { view = users_view disk (creating_grown geo n words (holder geo v p) (v.inode (holder geo v p)) c kept s entry after q) }) safe safe
  carries_create_grown p words accepts n c kept s entry after free no_room block keeps news at says first blocks =
      let d = holder geo v p in
      let can = accepted_create_grown geo old stands.balance stands.geometry p words accepts n c kept s entry after free no_room block keeps news at says first blocks in
      carried geo disk q old safe stands (Create p words) (Number n) (creating_grown geo n words d (v.inode d) c kept s entry after q) (record old { view = users_view disk (creating_grown geo n words d (v.inode d) c kept s entry after q) }) safe
      (accepts, creating_grown_creates geo old p words n c kept s entry after can disk q stands.same safe not_held stands.agree) refl
      (over (λ w. creating_grown geo n words d (w.inode d) c kept s entry after q) safe
      (creating_grown_issues geo disk q old.held safe not_held' n words d c kept s (name_in p) entry after (subst (λ w. CanCreateGrown geo w n d c kept s (name_in p) entry after) (sym stands.same) can) stands.agree))

  pub carries_make : (p words : List ℕ) → Accepts geo old (Mkdir p words) → (i a : ℕ) (dots : List ℕ) (s : ℕ) (entry : List ℕ) (after : List Cell) → IsFreeNumber geo v i → IsFreeBlock geo v a → AreDots i (holder geo v p) dots
      → slot geo v (holder geo v p) s ≡ Empty → IsEntryFor i (name_in p) entry → Contains after (Record i) → HasOtherBlocks geo v (holder geo v p) (block_of geo v (holder geo v p) (s / 16)) after
      → IsCarriedOut geo disk q old (Mkdir p words) (Number i) (making i a words dots (holder geo v p) (v.inode (holder geo v p)) (block_of geo v (holder geo v p) (s / 16)) (v.bytes (block_of geo v (holder geo v p) (s / 16))) s entry after q)
      (record old { view = users_view disk (making i a words dots (holder geo v p) (v.inode (holder geo v p)) (block_of geo v (holder geo v p) (s / 16)) (v.bytes (block_of geo v (holder geo v p) (s / 16))) s entry after q) }) safe safe
  carries_make p words accepts i a dots s entry after free block are empty says first others =
      let d = holder geo v p in
      let c = block_of geo v d (s / 16) in
      let can = accepted_make geo old stands.balance stands.geometry p words accepts i a dots s entry after free block are empty says first others in
      carried geo disk q old safe stands (Mkdir p words) (Number i) (making i a words dots d (v.inode d) c (v.bytes c) s entry after q) (record old { view = users_view disk (making i a words dots d (v.inode d) c (v.bytes c) s entry after q) }) safe
      (accepts, making_makes geo old p words i a dots s c entry after (stands.balance).rules can disk q stands.same) refl
      (over (λ w. making i a words dots d (w.inode d) c (w.bytes c) s entry after q) safe
      (making_issues geo disk q old.held safe i a words dots d s c (name_in p) entry after (subst (λ w. CanMakeIn geo w i a dots d s c (name_in p) entry after) (sym stands.same) can) not_held' stands.agree))

  pub carries_make_grown : (p words : List ℕ) → Accepts geo old (Mkdir p words) → (i a : ℕ) (dots : List ℕ) (c : ℕ) (kept : Holder) (s : ℕ) (entry : List ℕ) (after : List Cell) → IsFreeNumber geo v i → IsFreeBlock geo v a → AreDots i (holder geo v p) dots
      → IsFalse (has_room geo v (holder geo v p)) → IsFreeBlock geo v c → AreOther a c kept → IsKeptIn geo v (holder geo v p) (blocks_of (v.inode (holder geo v p)).size) c kept → AreApart (c ∷ new_blocks kept) → s / 16 ≡ blocks_of (v.inode (holder geo v p)).size
      → IsEntryFor i (name_in p) entry → Contains after (Record i) → HasBlocks geo v (holder geo v p) after
      → IsCarriedOut geo disk q old (Mkdir p words) (Number i) (making_grown geo i a words dots (holder geo v p) (v.inode (holder geo v p)) c kept s entry after q)
      (record old { view = users_view disk (making_grown geo i a words dots (holder geo v p) (v.inode (holder geo v p)) c kept s entry after q) }) safe safe
  carries_make_grown p words accepts i a dots c kept s entry after free block are no_room other_block other keeps news at says first blocks =
      let d = holder geo v p in
      let can = accepted_make_grown geo old stands.balance stands.geometry p words accepts i a dots c kept s entry after free block are no_room other_block other keeps news at says first blocks in
      carried geo disk q old safe stands (Mkdir p words) (Number i) (making_grown geo i a words dots d (v.inode d) c kept s entry after q) (record old { view = users_view disk (making_grown geo i a words dots d (v.inode d) c kept s entry after q) }) safe
      (accepts, making_grown_makes geo old p words i a dots c kept s entry after can disk q stands.same safe not_held stands.agree) refl
      (over (λ w. making_grown geo i a words dots d (w.inode d) c kept s entry after q) safe
      (making_grown_issues geo disk q old.held safe not_held' i a words dots d c kept s (name_in p) entry after (subst (λ w. CanMakeGrown geo w i a dots d c kept s (name_in p) entry after) (sym stands.same) can) stands.agree))

  pub carries_link : (p r : List ℕ) → Accepts geo old (Link p r) → (s : ℕ) (entry : List ℕ) (after : List Cell) → slot geo v (holder geo v r) s ≡ Empty → IsEntryFor (number_at geo v p) (name_in r) entry
      → Contains after (Record (number_at geo v p)) → HasOtherBlocks geo v (holder geo v r) (block_of geo v (holder geo v r) (s / 16)) after
      → IsCarriedOut geo disk q old (Link p r) Done (linking (number_at geo v p) (v.inode (number_at geo v p)) (block_of geo v (holder geo v r) (s / 16)) (v.bytes (block_of geo v (holder geo v r) (s / 16))) s entry after q)
      (record old { view = users_view disk (linking (number_at geo v p) (v.inode (number_at geo v p)) (block_of geo v (holder geo v r) (s / 16)) (v.bytes (block_of geo v (holder geo v r) (s / 16))) s entry after q) }) safe safe
  carries_link p r accepts s entry after empty says first others =
      let i = number_at geo v p in
      let d = holder geo v r in
      let c = block_of geo v d (s / 16) in
      let can = accepted_link geo old stands.balance stands.geometry p r accepts s entry after empty says first others in
      carried geo disk q old safe stands (Link p r) Done (linking i (v.inode i) c (v.bytes c) s entry after q) (record old { view = users_view disk (linking i (v.inode i) c (v.bytes c) s entry after q) }) safe
      (accepts, linking_links geo old p r s c entry after can disk q stands.same) refl
      (over (λ w. linking i (w.inode i) c (w.bytes c) s entry after q) safe
      (linking_leads geo disk q old.held safe i d s c (name_in r) entry after (subst (λ w. CanLink geo w i d s c (name_in r) entry after) (sym stands.same) can) stands.agree))

  pub carries_link_grown : (p r : List ℕ) → Accepts geo old (Link p r) → (c : ℕ) (kept : Holder) (s : ℕ) (entry : List ℕ) (after : List Cell) → IsFalse (has_room geo v (holder geo v r)) → IsFreeBlock geo v c
      → IsKeptIn geo v (holder geo v r) (blocks_of (v.inode (holder geo v r)).size) c kept → AreApart (c ∷ new_blocks kept) → s / 16 ≡ blocks_of (v.inode (holder geo v r)).size → IsEntryFor (number_at geo v p) (name_in r) entry
      → Contains after (Record (number_at geo v p)) → HasBlocks geo v (holder geo v r) after
      → IsCarriedOut geo disk q old (Link p r) Done (linking_grown geo (number_at geo v p) (v.inode (number_at geo v p)) (holder geo v r) (v.inode (holder geo v r)) c kept s entry after q)
      (record old { view = users_view disk (linking_grown geo (number_at geo v p) (v.inode (number_at geo v p)) (holder geo v r) (v.inode (holder geo v r)) c kept s entry after q) }) safe safe
  carries_link_grown p r accepts c kept s entry after no_room block keeps news at says first blocks =
      let i = number_at geo v p in
      let d = holder geo v r in
      let can = accepted_link_grown geo old stands.balance stands.geometry p r accepts c kept s entry after no_room block keeps news at says first blocks in
      carried geo disk q old safe stands (Link p r) Done (linking_grown geo i (v.inode i) d (v.inode d) c kept s entry after q) (record old { view = users_view disk (linking_grown geo i (v.inode i) d (v.inode d) c kept s entry after q) }) safe
      (accepts, linking_grown_links geo old p r c kept s entry after can disk q stands.same safe not_held stands.agree) refl
      (over (λ w. linking_grown geo i (w.inode i) d (w.inode d) c kept s entry after q) safe
      (linking_grown_issues geo disk q old.held safe not_held' i d c kept s (name_in r) entry after (subst (λ w. CanLinkGrown geo w i d c kept s (name_in r) entry after) (sym stands.same) can) stands.agree))
