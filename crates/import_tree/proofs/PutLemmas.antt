-- What was put into a volume, block by block and item by item.
use Rattle.std.proofs.Common.{◌≡◌, ◌<◌, ◌≤◌, ◌+◌, ◌*◌, ℕ, suc, List, [], ◌∷◌, ◌++◌, Bool, true, false, get_or, length, map, take, All, refl, sym, ap, ap₂, ◌∙◌, subst, arith}
use Rattle.std.specs.Fork.{slice_chunk}
use Rattle.std.proofs.lemmas.List.Elements.{All-nil, All-push}
use Rattle.std.proofs.lemmas.List.{append-nil, length-append, map-append, take_more}
use Rattle.archives.specs.declared.entries.Kind.{Kind}
use Rattle.archives.specs.declared.entries.Kind.TheVariants as kind
use Rattle.archived_attributes.specs.Links.{is_hard_link}
use Rattle.snapshot.specs.Alive.{Alive}
use Rattle.machine.specs.Command.{Command as Request, Create, Link, Mkdir, Open, Write, Close, Flush, Sync}
use Rattle.model.specs.Uses.{blocks_of}
use Rattle.device.specs.Media.{Held}
use Rattle.image_changes.specs.Asking.{Adds, AddsFlushes}
use Rattle.image_changes.proofs.AskingLemmas.{adds_none, adds_then, went_nowhere}
use Rattle.import_tree.specs.Putting.{AddsBlocks, AddsItems, AddsPart, Nothing, Folder, File, Bare, Linked, Flushed, Written, FillsFile, MakesFile, Empty, Full, IsTrueReading, NextBlock, NoBlock, Reading, ThenFlushed, TookIn, WerePut, WriteBlocks, has_bytes, is_bare, item_of}
use Rattle.import_tree.specs.declared.items.Item.{Item}
use Rattle.import_tree.proofs.CutLemmas.{chunk_before, chunk_behind}

-- ---- kinds

folder_is_left : (k : Kind) → has_bytes k ≡ false → is_bare k ≡ false → is_hard_link k ≡ false → k ≡ kind.Folder
folder_is_left kind.File h b l = absurd cc
folder_is_left kind.Folder h b l = refl
folder_is_left kind.HardLink h b l = absurd cc
folder_is_left kind.SymbolicLink h b l = absurd cc
folder_is_left kind.CharacterDevice h b l = absurd cc
folder_is_left kind.BlockDevice h b l = absurd cc
folder_is_left kind.Fifo h b l = absurd cc

hard_link_is : (k : Kind) → is_hard_link k ≡ true → k ≡ kind.HardLink
hard_link_is kind.File l = absurd cc
hard_link_is kind.Folder l = absurd cc
hard_link_is kind.HardLink l = refl
hard_link_is kind.SymbolicLink l = absurd cc
hard_link_is kind.CharacterDevice l = absurd cc
hard_link_is kind.BlockDevice l = absurd cc
hard_link_is kind.Fifo l = absurd cc

module _ {D : Type 0} (held held' : Held) (image image' : List (List ℕ)) (old new : Alive D) where
  folder_at : (item : Item) (read : List ℕ) → item.kind ≡ kind.Folder → Adds held image old (Mkdir item.path.items item.attributes ∷ []) held' image' new → AddsItems ((item, read) ∷ []) held image old held' image' new
  folder_at item read is adds before held₀ image₀ start put = record {
    requests = put.requests ++ Mkdir item.path.items item.attributes ∷ [];
    put = Folder before put.requests item read put.put is;
    went = adds held₀ image₀ start put.requests put.went;
  }

  file_at : (item : Item) (read : List ℕ) → has_bytes item.kind ≡ true → (more : List Request) × MakesFile item.path.items item.attributes read more × Adds held image old more held' image' new
      → AddsItems ((item, read) ∷ []) held image old held' image' new
  file_at item read is made before held₀ image₀ start put = record {
    requests = put.requests ++ made.0;
    put = File before put.requests made.0 item read put.put is made.1;
    went = made.2 held₀ image₀ start put.requests put.went;
  }

  bare_at : (item : Item) (read : List ℕ) → is_bare item.kind ≡ true → Adds held image old (Create item.path.items item.attributes ∷ []) held' image' new → AddsItems ((item, read) ∷ []) held image old held' image' new
  bare_at item read is adds before held₀ image₀ start put = record {
    requests = put.requests ++ Create item.path.items item.attributes ∷ [];
    put = Bare before put.requests item read put.put is;
    went = adds held₀ image₀ start put.requests put.went;
  }

  link_at : (item : Item) (read : List ℕ) → item.kind ≡ kind.HardLink → Adds held image old (Link read item.path.items ∷ []) held' image' new → AddsItems ((item, read) ∷ []) held image old held' image' new
  link_at item read is adds before held₀ image₀ start put = record {
    requests = put.requests ++ Link read item.path.items ∷ [];
    put = Linked before put.requests item read put.put is;
    went = adds held₀ image₀ start put.requests put.went;
  }

  pub adds_folder : (item : Item) (read : List ℕ) (path : List ℕ) → path ≡ item.path.items → has_bytes item.kind ≡ false → is_bare item.kind ≡ false → is_hard_link item.kind ≡ false
      → Adds held image old (Mkdir path item.attributes ∷ []) held' image' new → AddsItems ((item, read) ∷ []) held image old held' image' new
  adds_folder item read path at h b l adds = folder_at item read (folder_is_left item.kind h b l) (subst (λ p. Adds held image old (Mkdir p item.attributes ∷ []) held' image' new) at adds)

  pub adds_bare : (item : Item) (read : List ℕ) (path : List ℕ) → path ≡ item.path.items → is_bare item.kind ≡ true → Adds held image old (Create path item.attributes ∷ []) held' image' new
      → AddsItems ((item, read) ∷ []) held image old held' image' new
  adds_bare item read path at is adds = bare_at item read is (subst (λ p. Adds held image old (Create p item.attributes ∷ []) held' image' new) at adds)

  pub adds_link : (item : Item) (read path : List ℕ) → path ≡ item.path.items → is_hard_link item.kind ≡ true → Adds held image old (Link read path ∷ []) held' image' new
      → AddsItems ((item, read) ∷ []) held image old held' image' new
  adds_link item read path at is adds = link_at item read (hard_link_is item.kind is) (subst (λ p. Adds held image old (Link read p ∷ []) held' image' new) at adds)

  pub adds_file : (item : Item) (read path : List ℕ) → path ≡ item.path.items → has_bytes item.kind ≡ true
      → (more : List Request) × MakesFile path item.attributes read more × Adds held image old more held' image' new → AddsItems ((item, read) ∷ []) held image old held' image' new
  adds_file item read path at is made = file_at item read is (subst (λ p. (more : List Request) × MakesFile p item.attributes read more × Adds held image old more held' image' new) at made)

  pub adds_sync : Adds held image old (Sync ∷ []) held' image' new → AddsItems [] held image old held' image' new
  adds_sync adds before held₀ image₀ start put = subst (λ readings. WerePut readings held₀ image₀ start held' image' new) (sym (append-nil before)) (record {
    requests = put.requests ++ Sync ∷ [];
    put = Written before put.requests put.put;
    went = adds held₀ image₀ start put.requests put.went;
  })

  pub adds_flushes : AddsFlushes held image old held' image' new → AddsItems [] held image old held' image' new
  adds_flushes flushes before held₀ image₀ start put = subst (λ readings. WerePut readings held₀ image₀ start held' image' new) (sym (append-nil before)) (record {
    requests = put.requests ++ map Flush flushes.addresses;
    put = Flushed before put.requests flushes.addresses put.put;
    went = flushes.adds held₀ image₀ start put.requests put.went;
  })

module _ {D : Type 0} (held : Held) (image : List (List ℕ)) (live : Alive D) where
  pub adds_no_items : AddsItems [] held image live held image live
  adds_no_items before held₀ image₀ start put = subst (λ readings. WerePut readings held₀ image₀ start held image live) (sym (append-nil before)) put

  pub nothing_put : (readings : List Reading) → readings ≡ [] → WerePut readings held image live held image live
  nothing_put readings none = subst (λ r. WerePut r held image live held image live) (sym none) (record {
    requests = [];
    put = Nothing;
    went = went_nowhere held image live;
  })

module _ {D : Type 0} (held held' held'' : Held) (image image' image'' : List (List ℕ)) (old mid new : Alive D) where
  -- of items none was put between
  pub no_items_then : AddsItems [] held image old held' image' mid → AddsItems [] held' image' mid held'' image'' new → AddsItems [] held image old held'' image'' new
  no_items_then one two before held₀ image₀ start put = two before held₀ image₀ start (subst (λ r. WerePut r held₀ image₀ start held' image' mid) (append-nil before) (one before held₀ image₀ start put))

-- ---- the bytes of a file
-- the first blocks are those of a longer file too
longer : (handle first : ℕ) (before part : List ℕ) → length before ≡ first * 1024 → (n : ℕ) (requests : List Request) → n ≤ first → WriteBlocks handle before n requests → WriteBlocks handle (before ++ part) n requests
longer handle first before part whole n requests few NoBlock = NoBlock
longer handle first before part whole n requests few (NextBlock m done wrote) =
    subst (λ block. WriteBlocks handle (before ++ part) (suc m) (done ++ Write handle m block ∷ [])) (sym (chunk_before before part m (omega (arith, whole, few))))
    (NextBlock m done (longer handle first before part whole m done (omega (arith, few)) wrote))
longer handle first before part whole n requests few (ThenFlushed m done addresses wrote) = ThenFlushed m done addresses (longer handle first before part whole m done few wrote)

module _ {D : Type 0} (held : Held) (image : List (List ℕ)) (live : Alive D) where
  pub no_block : (handle : ℕ) (bytes : List ℕ) → AddsBlocks handle bytes 0 held image live held image live
  no_block handle bytes = record { requests = []; write = NoBlock; adds = adds_none held image live }

  pub no_part : (handle first n : ℕ) (part : List ℕ) → n ≡ 0 → AddsPart handle first part n held image live held image live
  no_part handle first n part none before held₀ image₀ start whole wrote =
      let same : first ≡ first + n = omega (arith, none) in
      subst (λ m. AddsBlocks handle (before ++ part) m held₀ image₀ start held image live) same (record {
        requests = wrote.requests;
        write = longer handle first before part whole first wrote.requests (omega arith) wrote.write;
        adds = wrote.adds;
      })

  pub fills_nothing : (path bytes : List ℕ) → bytes ≡ [] → (more : List Request) × FillsFile path bytes more × Adds held image live more held image live
  fills_nothing path bytes none = ([], λ words. Empty none refl, adds_none held image live)

module _ {D : Type 0} (held held' : Held) (image image' : List (List ℕ)) (old new : Alive D) where
  -- a part that begins a file
  pub part_alone : (handle n : ℕ) (part : List ℕ) → AddsPart handle 0 part n held image old held' image' new → AddsBlocks handle part n held image old held' image' new
  part_alone handle n part wrote =
      let same : 0 + n ≡ n = omega arith in
      subst (λ m. AddsBlocks handle part m held image old held' image' new) same (wrote [] held image old refl (no_block held image old handle []))

  -- the part that ends one, behind whole blocks
  pub part_last : (handle n : ℕ) (before part after : List ℕ) → after ≡ before ++ part → length before ≡ n * 1024
      → (held₀ : Held) (image₀ : List (List ℕ)) (start : Alive D) → AddsBlocks handle before n held₀ image₀ start held image old
      → AddsPart handle n part (blocks_of (length part)) held image old held' image' new → AddsBlocks handle after (blocks_of (length after)) held₀ image₀ start held' image' new
  part_last handle n before part after is whole held₀ image₀ start done wrote =
      let many : n + blocks_of (length part) ≡ blocks_of (length after) = omega (arith, ap length is, length-append before part, whole) in
      subst (λ k. AddsBlocks handle after k held₀ image₀ start held' image' new) many
      (subst (λ bytes. AddsBlocks handle bytes (n + blocks_of (length part)) held₀ image₀ start held' image' new) (sym is) (wrote before held₀ image₀ start whole done))

module _ {D : Type 0} (held held' held'' : Held) (image image' image'' : List (List ℕ)) (old mid new : Alive D) where
  -- the next block was written
  pub wrote_more : (handle first n index next : ℕ) (part piece : List ℕ) → index ≡ first + n → next ≡ n + 1 → piece ≡ slice_chunk part 1024 n
      → AddsPart handle first part n held image old held' image' mid → Adds held' image' mid (Write handle index piece ∷ []) held'' image'' new
      → AddsPart handle first part next held image old held'' image'' new
  wrote_more handle first n index next part piece at more is wrote adds before held₀ image₀ start whole done =
      let m = first + n in
      let on : suc m ≡ first + next = omega (arith, more) in
      let block = slice_chunk (before ++ part) 1024 m in
      let same : piece ≡ block = is ∙ sym (chunk_behind before part first n whole) in
      let then = wrote before held₀ image₀ start whole done in
      subst (λ k. AddsBlocks handle (before ++ part) k held₀ image₀ start held'' image'' new) on (record {
        requests = then.requests ++ Write handle m block ∷ [];
        write = NextBlock m then.requests then.write;
        adds = adds_then held₀ held' held'' image₀ image' image'' start mid new then.requests (Write handle m block ∷ []) then.adds
            (subst (λ b. Adds held' image' mid (Write handle m b ∷ []) held'' image'' new) same (subst (λ k. Adds held' image' mid (Write handle k piece ∷ []) held'' image'' new) at adds));
      })

  -- and then blocks were flushed
  pub then_flushed : (handle first n : ℕ) (part : List ℕ) → AddsPart handle first part n held image old held' image' mid → AddsFlushes held' image' mid held'' image'' new
      → AddsPart handle first part n held image old held'' image'' new
  then_flushed handle first n part wrote flushes before held₀ image₀ start whole done =
      let then = wrote before held₀ image₀ start whole done in
      record {
        requests = then.requests ++ map Flush flushes.addresses;
        write = ThenFlushed (first + n) then.requests flushes.addresses then.write;
        adds = adds_then held₀ held' held'' image₀ image' image'' start mid new then.requests (map Flush flushes.addresses) then.adds flushes.adds;
      }

  pub creates : (path words bytes : List ℕ) → Adds held image old (Create path words ∷ []) held' image' mid
      → (more : List Request) × FillsFile path bytes more × Adds held' image' mid more held'' image'' new
      → (more : List Request) × MakesFile path words bytes more × Adds held image old more held'' image'' new
  creates path words bytes adds filled = (Create path words ∷ filled.0, filled.1 words, adds_then held held' held'' image image' image'' old mid new (Create path words ∷ []) filled.0 adds filled.2)

module _ {D : Type 0} (held₀ held₁ held₂ held₃ : Held) (image₀ image₁ image₂ image₃ : List (List ℕ)) (v₀ v₁ v₂ v₃ : Alive D) where
  pub fills : (path bytes : List ℕ) (handle : ℕ) → Adds held₀ image₀ v₀ (Open path ∷ []) held₁ image₁ v₁ → AddsBlocks handle bytes (blocks_of (length bytes)) held₁ image₁ v₁ held₂ image₂ v₂
      → Adds held₂ image₂ v₂ (Close handle ∷ []) held₃ image₃ v₃ → (more : List Request) × FillsFile path bytes more × Adds held₀ image₀ v₀ more held₃ image₃ v₃
  fills path bytes handle opens wrote closes = (
    Open path ∷ (wrote.requests ++ Close handle ∷ []),
    λ words. Full handle wrote.requests wrote.write refl,
    adds_then held₀ held₂ held₃ image₀ image₂ image₃ v₀ v₂ v₃ (Open path ∷ wrote.requests) (Close handle ∷ [])
        (adds_then held₀ held₁ held₂ image₀ image₁ image₂ v₀ v₁ v₂ (Open path ∷ []) wrote.requests opens wrote.adds) closes,
  )

-- ---- item by item
module _ {D : Type 0} (held₀ held₁ held₂ held₃ : Held) (image₀ image₁ image₂ image₃ : List (List ℕ)) (v₀ v₁ v₂ v₃ : Alive D) where
  -- one more item was put, and what waits may have been written
  pub put_next : (readings next : List Reading) (reading : Reading) → next ≡ readings ++ reading ∷ [] → WerePut readings held₀ image₀ v₀ held₁ image₁ v₁
      → AddsItems (reading ∷ []) held₁ image₁ v₁ held₂ image₂ v₂ → AddsItems [] held₂ image₂ v₂ held₃ image₃ v₃ → WerePut next held₀ image₀ v₀ held₃ image₃ v₃
  put_next readings next reading more put adds writes =
      subst (λ r. WerePut r held₀ image₀ v₀ held₃ image₃ v₃) (append-nil (readings ++ reading ∷ []) ∙ sym more)
      (writes (readings ++ reading ∷ []) held₀ image₀ v₀ (adds readings held₀ image₀ v₀ put))

module _ {D : Type 0} (held₀ held₁ held₂ : Held) (image₀ image₁ image₂ : List (List ℕ)) (v₀ v₁ v₂ : Alive D) where
  put_all : (readings : List Reading) → WerePut readings held₀ image₀ v₀ held₁ image₁ v₁ → Adds held₁ image₁ v₁ (Sync ∷ []) held₂ image₂ v₂ → TookIn readings held₀ image₀ v₀ held₂ image₂ v₂
  put_all readings put writes = record { requests = put.requests; put = put.put; went = writes held₀ image₀ v₀ put.requests put.went }

module _ {D : Type 0} (held₀ held₁ held₂ held₃ : Held) (image₀ image₁ image₂ image₃ : List (List ℕ)) (v₀ v₁ v₂ v₃ : Alive D) where
  -- blocks were flushed, and what waited then was written
  pub put_rest : (readings : List Reading) → WerePut readings held₀ image₀ v₀ held₁ image₁ v₁ → AddsItems [] held₁ image₁ v₁ held₂ image₂ v₂ → Adds held₂ image₂ v₂ (Sync ∷ []) held₃ image₃ v₃
      → TookIn readings held₀ image₀ v₀ held₃ image₃ v₃
  put_rest readings put flushes writes =
      put_all held₀ held₂ held₃ image₀ image₂ image₃ v₀ v₂ v₃ readings (subst (λ r. WerePut r held₀ image₀ v₀ held₂ image₂ v₂) (append-nil readings) (flushes readings held₀ image₀ v₀ put)) writes

-- none was read
pub read_none : (items : List Item) (readings : List Reading) → readings ≡ [] → map item_of readings ≡ take 0 items
read_none items readings none = ap (map item_of) none ∙ by items
  where
    by : (items : List Item) → [] ≡ take 0 items
    by [] = refl
    by (item ∷ items) = refl

-- the next item of a list was read
pub read_next : (items : List Item) (i : ℕ) (item : Item) (read : List ℕ) (readings next : List Reading) → i < length items → item ≡ get_or items i item → next ≡ readings ++ (item, read) ∷ []
    → map item_of readings ≡ take i items → map item_of next ≡ take (i + 1) items
read_next items i item read readings next within at more before =
    ap (map item_of) more ∙ map-append item_of readings ((item, read) ∷ []) ∙ ap₂ (λ xs x. xs ++ x ∷ []) before at ∙ sym (take_more items i item within)

-- readings are true to what their items hold
pub none_false : (readings : List Reading) → readings ≡ [] → All IsTrueReading readings
none_false readings none = subst (All IsTrueReading) (sym none) (All-nil IsTrueReading)

pub next_true : (readings next : List Reading) (reading : Reading) → next ≡ readings ++ reading ∷ [] → IsTrueReading reading → All IsTrueReading readings → All IsTrueReading next
next_true readings next reading more is before = subst (All IsTrueReading) (sym more) (All-push IsTrueReading readings reading before is)
