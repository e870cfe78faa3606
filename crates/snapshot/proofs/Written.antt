-- What a volume goes through by a command that writes all that is pending first.
use Rattle.std.proofs.Common.{◌≡◌, ◌⊎◌, ◌∙◌, ℕ, true, false, List, [], Bor, Ok, Err, Result, IfErr, OnErr, OnOk, Option, Some, None, ◌∷◌, is_some, inl, refl, sym, ap₂, subst}
use Rattle.std.specs.Option.{option_copied, option_map}
use Rattle.layout.specs.declared.refusal.Refusal.{Refusal}
use Rattle.layout.specs.declared.refusal.Refusal.TheVariants.{NoMemory, Device}
use Rattle.device.specs.Media.{Held}
use Rattle.machine.specs.Causes.{FirstRefusal}
use Rattle.machine.specs.Command.{Command as Request, Freeze, Image, Release}
use Rattle.machine.specs.Snapshot.{frozen, released, settled}
use Rattle.machine.specs.Standing.{begun, ended, image_at, too_many}
use Rattle.plans_data.specs.Release.{releasing}
use Rattle.frozen.specs.Kept.{Kept}
use Rattle.metadata.specs.Shown.{Shows}
use Rattle.softdep.specs.Queued.{pending_of, unsynced_of}
use Rattle.softdep.specs.Syncing.{AreWrites}
use Rattle.live_states.specs.Holdings.{Beside, Holdings, AreImagesOf}
use Rattle.live_states.specs.Snapshots.{let_go_blocks, keeping, let_go}
use Rattle.live.specs.Alive.{Alive, StandsSo, state_of}
use Rattle.live.specs.Durable.{StaysSound}
use Rattle.live.proofs.Durably.{goes_still, goes_then}
use Rattle.snapshot.specs.Goes.{Freezes, Goes, HasBeside, IsBeside, Releases, Replies, StaysSafe}
use Rattle.snapshot.proofs.CallLemmas.{refused_after}
use Rattle.snapshot.proofs.Standing.{freezes, releases}

-- whether something is there, by what is told of it
pub some_copied : {X Y : Type 0} (f : X → Y) (o : Option (Bor X)) → is_some (option_map f (option_copied o)) ≡ is_some o
some_copied f None = refl
some_copied f (Some b) = refl

pub none_where : {X : Type 0} (o : Option X) → is_some o ≡ false → o ≡ None
none_where None t = refl
none_where (Some x) t = let bad : true ≡ false = t in cc

pub some_stands : {X : Type 0} (o : Option X) → is_some o ≡ true → o ≡ None → ⊥
some_stands None t none = let bad : false ≡ true = t in cc
some_stands (Some x) t none = let bad : Some x ≡ None = none in cc

module _ {D : Type 0} (honest : D → Type 0) (held_of : D → Held) (image_of : D → List (List ℕ)) (old mid : Alive D) (kept : mid.kept ≡ old.kept) (holdings : mid.holdings ≡ old.holdings)
    (flushes : honest mid.device → AreWrites old.kept.geometry (image_of old.device) (held_of old.device) (pending_of old.queue) (image_of mid.device) (held_of mid.device) (pending_of mid.queue))
    (sound : honest mid.device → StaysSafe (held_of old.device) old (held_of mid.device) mid) (stands : honest mid.device → StandsSo (image_of mid.device) mid) where
  -- ---- a refusal

  pub written_err : (command : Request) (r : Refusal) → ((beside : Beside) → IsBeside (image_of old.device) old beside → (r ≡ NoMemory) ⊎ ((r ≡ Device) ⊎ FirstRefusal old.kept.geometry (state_of (image_of old.device) old beside) command r))
      → honest mid.device → Replies (held_of old.device) (image_of old.device) old command (Err r) (held_of mid.device) (image_of mid.device) mid
  written_err command r cause h beside is =
      refused_after (held_of old.device) (held_of mid.device) (image_of old.device) (image_of mid.device) old mid (stands h) (flushes h) kept holdings (sound h) beside is command r (cause beside is)

  pub written_keeps : (honest old.device → HasBeside (image_of old.device) old) → (honest mid.device → honest old.device) → honest mid.device → HasBeside (image_of mid.device) mid
  written_keeps has back h = let b = has (back h) in record { beside = b.beside; is = (written_err Freeze NoMemory (λ beside is. inl refl) h b.beside b.is).is }

  -- the volume with all written, by what it was
  abbrev Mid : Alive D
  Mid = record { device = mid.device; queue = mid.queue; kept = old.kept; holdings = old.holdings }

  same_mid : mid ≡ Mid
  same_mid = ap₂ (λ (k : Kept) (h : Holdings). record mid { kept = k; holdings = h }) kept holdings

  sound_mid : honest mid.device → StaysSafe (held_of old.device) old (held_of mid.device) Mid
  sound_mid h = subst (λ (m : Alive D). StaysSafe (held_of old.device) old (held_of m.device) m) same_mid (sound h)

  -- ---- a snapshot begins

  module _ (new : Alive D) (number : ℕ) (snapshot : Kept) (room : too_many old.holdings.snapshots ≡ false) (none : pending_of mid.queue ≡ []) where
    abbrev Begins : Alive D → Type 0
    Begins m = (new ≡ record m { holdings = keeping m.holdings snapshot })
        × ((beside : Beside) → AreImagesOf old.holdings.snapshots beside.snapshots → Shows snapshot (settled old.kept.geometry (state_of (image_of old.device) old beside)))
        × ((beside : Beside) → state_of (image_of new.device) new (record { snapshots = begun beside.snapshots (settled m.kept.geometry (state_of (image_of m.device) m beside)) }) ≡ frozen m.kept.geometry (state_of (image_of m.device) m beside))
        × (number ≡ m.holdings.snapshots.freezes)

    abbrev IsFrozen : Alive D → Type 0
    IsFrozen n = Freezes (held_of old.device) (image_of old.device) old number snapshot (held_of n.device) (image_of n.device) n

    abbrev Kept' : Alive D
    Kept' = record { device = mid.device; queue = mid.queue; kept = old.kept; holdings = keeping old.holdings snapshot }

    begins_from : honest mid.device → StandsSo (image_of Kept'.device) Kept' → Begins Mid → IsFrozen new
    begins_from h so facts = subst IsFrozen (sym facts.0) (λ beside is.
        let begun_now = subst (λ (n : Alive D). state_of (image_of n.device) n (record { snapshots = begun beside.snapshots (settled old.kept.geometry (state_of (image_of mid.device) Mid beside)) }) ≡ frozen old.kept.geometry (state_of (image_of mid.device) Mid beside)) facts.0 (facts.2 beside) in
        let shows = facts.1 beside is.belongs in
        let view = settled old.kept.geometry (state_of (image_of old.device) old beside) in (
          facts.3,
          shows,
          subst (λ n. Goes beside (held_of old.device) (image_of old.device) old (Freeze ∷ []) (Ok (Image n view) ∷ []) (record { snapshots = begun beside.snapshots view }) (held_of mid.device) (image_of mid.device) Kept')
              (is.belongs.0 ∙ sym facts.3)
              (freezes (held_of old.device) (held_of mid.device) (image_of old.device) (image_of mid.device) old beside is mid.queue (flushes h) none mid.device snapshot room shows begun_now so
              (λ safe. goes_then (held_of old.device) (held_of mid.device) (held_of mid.device) old Mid Kept' safe safe safe [] [] [] [] (sound_mid h safe) (goes_still (held_of mid.device) (held_of mid.device) Mid Kept' refl refl refl refl safe))),
        ))

    pub begins : (honest new.device → StandsSo (image_of new.device) new) → honest mid.device → Begins mid → IsFrozen new
    begins so h facts =
        let there = subst Begins same_mid facts in
        begins_from h (subst (λ (n : Alive D). honest n.device → StandsSo (image_of n.device) n) there.0 so h) there

  -- ---- it ends

  module _ (new : Alive D) (number : ℕ) (standing : is_some (image_at old.holdings.snapshots.standing number) ≡ true) (none : pending_of mid.queue ≡ []) where
    abbrev Ends : Alive D → Type 0
    Ends m = (new.device ≡ m.device) × (new.holdings ≡ let_go m.holdings number) × (new.kept.geometry ≡ m.kept.geometry) × (pending_of new.queue ≡ releasing (let_go_blocks m.holdings number) [])
        × ((beside : Beside) → AreImagesOf m.holdings.snapshots beside.snapshots → state_of (image_of new.device) new (record { snapshots = ended beside.snapshots number }) ≡ released (state_of (image_of m.device) m beside) number)
        × StaysSafe (held_of m.device) m (held_of new.device) new

    abbrev IsReleased : Alive D → Type 0
    IsReleased n = Releases (held_of old.device) (image_of old.device) old number (held_of n.device) (image_of n.device) n

    abbrev Gone : D → Holdings → Alive D
    Gone d h = record { device = d; queue = new.queue; kept = new.kept; holdings = h }

    ends_from : honest mid.device → StandsSo (image_of mid.device) (Gone mid.device (let_go old.holdings number)) → Ends Mid → IsReleased new
    ends_from h so facts =
        subst (λ d. IsReleased (Gone d new.holdings)) (sym facts.0) (subst (λ o. IsReleased (Gone mid.device o)) (sym facts.1) (λ beside is.
        let ended_now = subst (λ (n : Alive D). state_of (image_of n.device) n (record { snapshots = ended beside.snapshots number }) ≡ released (state_of (image_of mid.device) Mid beside) number)
        (ap₂ (λ (d : D) (o : Holdings). Gone d o) facts.0 facts.1) (facts.4 beside is.belongs) in
        let gone : Alive D = Gone mid.device (let_go old.holdings number) in
        let ends_soundly = subst (λ (n : Alive D). StaysSafe (held_of mid.device) Mid (held_of n.device) n) (ap₂ (λ (d : D) (o : Holdings). Gone d o) facts.0 facts.1) facts.5 in
        releases (held_of old.device) (held_of mid.device) (image_of old.device) (image_of mid.device) old beside is mid.queue (flushes h) none mid.device new.queue new.kept number standing facts.2 facts.3 ended_now so
        (λ safe. goes_then (held_of old.device) (held_of mid.device) (held_of mid.device) old Mid gone safe safe safe [] [] [] [] (sound_mid h safe) (ends_soundly safe))))

    pub ends : (honest new.device → StandsSo (image_of new.device) new) → honest mid.device → Ends mid → IsReleased new
    ends so h facts =
        let there = subst Ends same_mid facts in
        ends_from h (subst (λ (n : Alive D). honest n.device → StandsSo (image_of n.device) n) (ap₂ (λ (d : D) (o : Holdings). Gone d o) there.0 there.1) so h) there

    module _ {T : Type 0} (device : new.device ≡ mid.device) where
      -- by what the end of a snapshot promises
      pub ends_ok : (r : Result T Refusal) → (honest new.device → StandsSo (image_of new.device) new)
          → OnOk r (honest mid.device → (beside : Beside) → AreImagesOf mid.holdings.snapshots beside.snapshots → state_of (image_of new.device) new (record { snapshots = ended beside.snapshots number }) ≡ released (state_of (image_of mid.device) mid beside) number)
          → OnOk r (pending_of new.queue ≡ releasing (let_go_blocks mid.holdings number) []) → OnOk r (new.holdings ≡ let_go mid.holdings number) → OnOk r (new.kept.geometry ≡ mid.kept.geometry)
          → OnOk r (honest mid.device → unsynced_of mid.queue ≡ [] → StaysSound held_of mid new) → unsynced_of mid.queue ≡ []
          → OnOk r (honest new.device → IsReleased new)
      ends_ok (Ok t) so gone pending held geometry soundly unsynced = λ h. let there = subst honest device h in ends so there (device, held, geometry, pending, gone there, soundly there unsynced)
      ends_ok (Err e) so gone pending held geometry soundly unsynced = gone

      pub ends_err : (r : Result T Refusal) → IfErr r (λ e. e ≡ NoMemory) → OnErr r (new ≡ mid)
          → IfErr r (λ e. honest new.device → Replies (held_of old.device) (image_of old.device) old (Release number) (Err e) (held_of new.device) (image_of new.device) new)
      ends_err (Ok t) none same = none
      ends_err (Err e) none same = λ h. subst (λ (n : Alive D). Replies (held_of old.device) (image_of old.device) old (Release number) (Err e) (held_of n.device) (image_of n.device) n) (sym same)
          (written_err (Release number) e (λ beside is. inl none) (subst honest device h))

      pub ends_keeps : (r : Result T Refusal) → OnOk r (honest new.device → IsReleased new) → OnErr r (new ≡ mid) → (honest old.device → HasBeside (image_of old.device) old) → (honest mid.device → honest old.device)
          → honest new.device → HasBeside (image_of new.device) new
      ends_keeps (Ok t) gone same has back h = let b = has (back (subst honest device h)) in record { beside = record { snapshots = ended b.beside.snapshots number }; is = (gone h b.beside b.is).is }
      ends_keeps (Err e) gone same has back h = subst (λ (n : Alive D). HasBeside (image_of n.device) n) (sym same) (written_keeps has back (subst honest device h))
