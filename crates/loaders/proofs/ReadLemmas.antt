-- What workers have read of all groups, once all are back.
use Rattle.std.proofs.Common.{◌≡◌, ℕ, zero, suc, ◌<◌, List, [], ◌∷◌, length, map, Some, Ok, Err, slice_get, get_or, refl, sym, ap, ◌∙◌, subst, arith, All}
use Rattle.std.proofs.lemmas.Option.{get_or_from_slice_get, none-some, same_Some, slice_get-map, slice_get_within}
use Rattle.std.proofs.lemmas.List.{length-map}
use Rattle.std.specs.Option.{option_map}
use Rattle.layout.specs.declared.refusal.Refusal.{Refusal}
use Rattle.layout.specs.declared.refusal.Refusal.TheVariants.{NoMemory, Device, BadGroup}
use Rattle.model.specs.Layout.{Geometry, block_count}
use Rattle.frozen.specs.declared.frozen.Placed.{Placed}
use Rattle.std.specs.Global.{Vec}
use Rattle.device.specs.Media.{Held}
use Rattle.device.specs.Reading.{ReadsOnly}
use Rattle.device.proofs.ReadingLemmas.{reads_on}
use Rattle.frozen.specs.Loading.{HeaderRefuses, IsHeader, IsHeaderOf}
use Rattle.frozen.specs.Shared.{shared_blocks}
use Rattle.workers.specs.Turns.{AreDone, Runs, calls_of}
use Rattle.workers.proofs.EveryPart.{in_calls}
use Rattle.loaders.specs.declared.reader.Reader.{Reader}
use Rattle.loaders.specs.Readers.{AreAhead, AreRead, GivesHeader, Header, IsOfData, IsPlacedOf, IsRead, Show, StaysAhead}
use Rattle.loaders.proofs.AheadLemmas.{ahead_nothing, ahead_same}

-- what is said of honest devices holds of those that are honest for a better reason
refuses_less : (more less : Type 0) → (less → more) → (geo : Geometry) (image : List (List ℕ)) (g : ℕ) (refusal : Refusal) → HeaderRefuses more geo image g refusal → HeaderRefuses less geo image g refusal
refuses_less more less from geo image g NoMemory h = tt
refuses_less more less from geo image g Device h = tt
refuses_less more less from geo image g (BadGroup j) h = (h.0, λ l. h.1 (from l))
refuses_less more less from geo image g _ h = absurd h

pub read_less : (more less : Type 0) → (less → more) → (geo : Geometry) (image : List (List ℕ)) (g : ℕ) (part : Header) → IsRead more geo image g part → IsRead less geo image g part
read_less more less from geo image g (Ok blocks) h = (h.0, λ l. h.1 (from l))
read_less more less from geo image g (Err refusal) h = refuses_less more less from geo image g refusal h

-- the element at a place
pub there : {X : Type 0} (xs : List X) (k : ℕ) → k < length xs → (x : X) × (slice_get xs k ≡ Some x)
there [] k b = absurd (omega (arith, b))
there (x ∷ xs) zero b = (x, refl)
there (x ∷ xs) (suc k) b = there xs k (omega (arith, b))

-- what each element gives
all_mapped : {X Y : Type 0} (f : X → Y) (P : Y → Type 0) (xs : List X) (ys : List Y) → ys ≡ map f xs → ((k : ℕ) (x : X) → slice_get xs k ≡ Some x → P (f x)) → All P ys
all_mapped {X} {Y} f P xs ys same each k d within =
    let x = there xs k (subst (λ (n : ℕ). k < n) (ap length same ∙ length-map xs f) within) in
    let at : slice_get ys k ≡ Some (f x.0) = ap (λ (l : List Y). slice_get l k) same ∙ slice_get-map f xs k ∙ ap (option_map f) x.1 in
    subst P (sym (get_or_from_slice_get ys k (f x.0) d at)) (each k x.0 x.1)

module _ {D : Type 0} (honest_of : D → Type 0) (image_of : D → List (List ℕ)) (held_of : D → Held) (geo : Geometry) where
  abbrev pub Gives : Reader D → ℕ → Header → Reader D → Type 0
  Gives before unit part after = (after.geometry ≡ before.geometry) × GivesHeader honest_of image_of held_of before.geometry unit part before.device after.device
      × StaysAhead honest_of image_of before.geometry before.device before.ahead.items after.device after.ahead.items

  abbrev pub device_of : Reader D → D
  device_of reader = reader.device

  of_map : (readers : List (Reader D)) (i : ℕ) (reader : Reader D) (device : D) → slice_get readers i ≡ Some reader → slice_get (map device_of readers) i ≡ Some device → reader.device ≡ device
  of_map readers i reader device at there' = same_Some reader.device device (sym (slice_get-map device_of readers i ∙ ap (option_map device_of) at) ∙ there')

  -- one that reads this volume
  abbrev pub Reads : Reader D → Type 0
  Reads reader = (reader.geometry ≡ geo) × (length (image_of reader.device) ≡ block_count geo)

  next_reads : (before : Reader D) (unit : ℕ) (part : Header) (after : Reader D) → Reads before → Gives before unit part after → Reads after
  next_reads before unit part after is gave = (gave.0 ∙ is.0, ap length gave.1.reads.same ∙ is.1)

  -- all calls of a worker only read
  pub runs_read : (before : Reader D) (calls : List (ℕ × Header)) (after : Reader D) → Runs Gives before calls after → ReadsOnly honest_of image_of held_of before.device after.device
  runs_read before [] after runs =
      subst (λ (reader : Reader D). ReadsOnly honest_of image_of held_of before.device reader.device) runs (record { same = refl; held = refl; honest = λ h. h })
  runs_read before (call ∷ calls) after runs = reads_on runs.1.1.reads (runs_read runs.0 calls after runs.2)

  -- what one of them gave, if the device was honest to the end
  pub runs_told : (before : Reader D) (calls : List (ℕ × Header)) (after : Reader D) → Reads before → Runs Gives before calls after
      → (i unit : ℕ) (part : Header) → slice_get calls i ≡ Some (unit, part) → unit < geo.groups → IsRead (honest_of after.device) geo (image_of before.device) unit part
  runs_told before [] after is runs i unit part at low = absurd (none-some (unit, part) at)
  runs_told before (call ∷ calls) after is runs zero unit part at low =
      let e : call ≡ (unit, part) = cc in
      let gave : GivesHeader honest_of image_of held_of geo call.0 call.1 before.device runs.0.device =
      subst (λ (one : Geometry). GivesHeader honest_of image_of held_of one call.0 call.1 before.device runs.0.device) is.0 runs.1.1 in
      let rest = runs_read runs.0 calls after runs.2 in
      let here : IsRead (honest_of runs.0.device) geo (image_of before.device) unit part =
      subst (λ (c : ℕ × Header). c.0 < geo.groups → IsRead (honest_of runs.0.device) geo (image_of before.device) c.0 c.1) e (λ b. gave.read b is.1) low in
      read_less (honest_of runs.0.device) (honest_of after.device) rest.honest geo (image_of before.device) unit part here
  runs_told before (call ∷ calls) after is runs (suc i) unit part at low =
      subst (λ (image : List (List ℕ)). IsRead (honest_of after.device) geo image unit part) runs.1.1.reads.same
      (runs_told runs.0 calls after (next_reads before call.0 call.1 runs.0 is runs.1) runs.2 i unit part at low)

  -- what a worker read ahead
  abbrev pub ahead_of : Reader D → Vec Placed
  ahead_of reader = reader.ahead

  pub runs_ahead : (before : Reader D) (calls : List (ℕ × Header)) (after : Reader D) → before.geometry ≡ geo → Runs Gives before calls after
      → AreAhead (honest_of before.device) geo (image_of before.device) before.ahead.items → AreAhead (honest_of after.device) geo (image_of before.device) after.ahead.items
  runs_ahead before [] after is runs all = subst (λ (reader : Reader D). AreAhead (honest_of reader.device) geo (image_of before.device) reader.ahead.items) runs all
  runs_ahead before (call ∷ calls) after is runs all =
      let next = runs.0 in
      let same = runs.1.1.reads.same in
      let here = runs.1.2 (ahead_same (honest_of before.device) geo before.geometry (image_of before.device) (image_of before.device) before.ahead.items (sym is) refl all) in
      ahead_same (honest_of after.device) geo geo (image_of next.device) (image_of before.device) after.ahead.items refl same
      (runs_ahead next calls after (runs.1.0 ∙ is) runs.2
      (ahead_same (honest_of next.device) before.geometry geo (image_of before.device) (image_of next.device) next.ahead.items is (sym same) here))

  module _ (units : ℕ) (befores : List (Reader D)) (parts : List Header) (afters : List (Reader D)) (done : AreDone Gives units befores parts afters) where
    -- the devices that come back were only read
    pub all_read : AreRead honest_of image_of held_of (map device_of befores) (map device_of afters)
    all_read = record {
      count = length-map afters device_of ∙ done.workers ∙ sym (length-map befores device_of);
      each = λ i old new at now.
          let less : i < length befores = subst (λ (k : ℕ). i < k) (length-map befores device_of) (slice_get_within (map device_of befores) i old at) in
          let before = there befores i less in
          let after = there afters i (subst (λ (k : ℕ). i < k) (sym done.workers) less) in
          subst (λ (d : D). ReadsOnly honest_of image_of held_of d new) (of_map befores i before.0 old before.1 at)
          (subst (λ (d : D). ReadsOnly honest_of image_of held_of before.0.device d) (of_map afters i after.0 new after.1 now)
          (runs_read before.0 (calls_of done.dealt i parts) after.0 (done.each i before.0 after.0 before.1 after.1)));
    }

    -- each part is of its group
    pub every_read : All Reads befores → units ≡ geo.groups → (unit : ℕ) (part : Header) → slice_get parts unit ≡ Some part
        → (before after : Reader D) × (slice_get befores (done.dealt unit) ≡ Some before) × (slice_get afters (done.dealt unit) ≡ Some after)
        × IsRead (honest_of after.device) geo (image_of before.device) unit part
    every_read alike all unit part at =
        let below : unit < units = subst (λ (k : ℕ). unit < k) done.count (slice_get_within parts unit part at) in
        let less = done.to_one unit below in
        let before = there befores (done.dealt unit) less in
        let after = there afters (done.dealt unit) (subst (λ (k : ℕ). done.dealt unit < k) (sym done.workers) less) in
        let call = in_calls done.dealt parts unit part at in
        let is = subst Reads (get_or_from_slice_get befores (done.dealt unit) before.0 before.0 before.1) (alike (done.dealt unit) before.0 less) in (
          before.0,
          after.0,
          before.1,
          after.1,
          runs_told before.0 (calls_of done.dealt (done.dealt unit) parts) after.0 is (done.each (done.dealt unit) before.0 after.0 before.1 after.1)
              call.0 unit part call.1 (subst (λ (k : ℕ). unit < k) all below),
        )

  -- what all devices have, that of each worker has
  of_all : (P : D → Type 0) (devices : List D) (readers : List (Reader D)) → map device_of readers ≡ devices → All P devices → (w : ℕ) (reader : Reader D) → slice_get readers w ≡ Some reader → P reader.device
  of_all P devices readers same all w reader at =
      let within : w < length devices = subst (λ (k : ℕ). w < k) (sym (length-map readers device_of) ∙ ap length same) (slice_get_within readers w reader at) in
      let here : slice_get devices w ≡ Some reader.device = sym (ap (λ (ds : List D). slice_get ds w) same) ∙ slice_get-map device_of readers w ∙ ap (option_map device_of) at in
      subst P (get_or_from_slice_get devices w reader.device reader.device here) (all w reader.device within)

  pub all_reads : (readers : List (Reader D)) (devices : List D) → map device_of readers ≡ devices → All (λ (reader : Reader D). reader.geometry ≡ geo) readers
      → All (λ (device : D). length (image_of device) ≡ block_count geo) devices → All Reads readers
  all_reads readers devices same geometries counts k d within =
      let reader = there readers k within in
      let is : get_or readers k d ≡ reader.0 = get_or_from_slice_get readers k reader.0 d reader.1 in (
        geometries k d within,
        subst (λ (one : Reader D). length (image_of one.device) ≡ block_count geo) (sym is)
            (of_all (λ (device : D). length (image_of device) ≡ block_count geo) devices readers same counts k reader.0 reader.1),
      )

  module _ (units : ℕ) (befores : List (Reader D)) (parts : List Header) (afters : List (Reader D)) (done : AreDone Gives units befores parts afters)
      (alike : All Reads befores) (all : units ≡ geo.groups) (olds news : List D) (old : map device_of befores ≡ olds) (new : map device_of afters ≡ news) where
    -- the blocks of each group are as they have to be
    pub every_header : (g : ℕ) (blocks : _) → slice_get parts g ≡ Some (Ok blocks) → IsHeader geo g (shared_blocks blocks.items)
    every_header g blocks at = (every_read units befores parts afters done alike all g (Ok blocks) at).4.0

    -- and each part tells of the image that all devices show
    pub every_told : (image : List (List ℕ)) → Show image_of image olds → (g : ℕ) (part : Header) → slice_get parts g ≡ Some part → IsRead (All honest_of news) geo image g part
    every_told image shown g part at =
        let e = every_read units befores parts afters done alike all g part at in
        let is : image_of e.0.device ≡ image = of_all (λ (device : D). image_of device ≡ image) olds befores old shown (done.dealt g) e.0 e.2 in
        subst (λ (i : List (List ℕ)). IsRead (All honest_of news) geo i g part) is
        (read_less (honest_of e.1.device) (All honest_of news) (λ honest. of_all honest_of news afters new honest (done.dealt g) e.1 e.3) geo (image_of e.0.device) g part e.4)

    pub every_of : (image : List (List ℕ)) → Show image_of image olds → All honest_of news → (g : ℕ) (blocks : _) → slice_get parts g ≡ Some (Ok blocks) → IsHeaderOf geo image g (shared_blocks blocks.items)
    every_of image shown honest g blocks at = (every_told image shown g (Ok blocks) at).1 honest

  module _ (units : ℕ) (befores : List (Reader D)) (parts : List Header) (afters : List (Reader D)) (done : AreDone Gives units befores parts afters)
      (alike : All Reads befores) (fresh : All (λ (reader : Reader D). reader.ahead.items ≡ []) befores) (aheads : List (Vec Placed)) (placed : aheads ≡ map ahead_of afters) where
    every_ahead : (w : ℕ) (after : Reader D) → slice_get afters w ≡ Some after
        → (before : Reader D) × (slice_get befores w ≡ Some before) × AreAhead (honest_of after.device) geo (image_of before.device) after.ahead.items
    every_ahead w after at =
        let less : w < length befores = subst (λ (k : ℕ). w < k) done.workers (slice_get_within afters w after at) in
        let before = there befores w less in
        let is : get_or befores w before.0 ≡ before.0 = get_or_from_slice_get befores w before.0 before.0 before.1 in
        let none = subst (λ (reader : Reader D). reader.ahead.items ≡ []) is (fresh w before.0 less) in (
          before.0,
          before.1,
          runs_ahead before.0 (calls_of done.dealt w parts) after (subst (λ (reader : Reader D). reader.geometry ≡ geo) is (alike w before.0 less).0) (done.each w before.0 after before.1 at)
              (ahead_nothing (honest_of before.0.device) geo (image_of before.0.device) before.0.ahead.items none),
        )

    -- all that was read ahead stands at addresses of data blocks
    pub ahead_of_data : All (λ (one : Vec Placed). All (IsOfData geo) one.items) aheads
    ahead_of_data =
        all_mapped ahead_of (λ (one : Vec Placed). All (IsOfData geo) one.items) afters aheads placed
        (λ w after at k d low. ((every_ahead w after at).2 k d low).0)

    -- and is of the image that all devices show
    pub ahead_of_image : (olds news : List D) → map device_of befores ≡ olds → map device_of afters ≡ news → (image : List (List ℕ)) → Show image_of image olds → All honest_of news
        → All (λ (one : Vec Placed). All (IsPlacedOf image) one.items) aheads
    ahead_of_image olds news old new image shown honest =
        all_mapped ahead_of (λ (one : Vec Placed). All (IsPlacedOf image) one.items) afters aheads placed
        (λ w after at k d low.
        let e = every_ahead w after at in
        let is : image_of e.0.device ≡ image = of_all (λ (device : D). image_of device ≡ image) olds befores old shown w e.0 e.1 in
        subst (λ (i : List (List ℕ)). IsPlacedOf i (get_or after.ahead.items k d)) is ((e.2 k d low).1 (of_all honest_of news afters new honest w after at)))
