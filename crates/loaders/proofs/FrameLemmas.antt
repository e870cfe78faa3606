-- The blocks of all groups, joined in their order.
use Rattle.std.proofs.Common.{◌≡◌, ◌<◌, ◌+◌, ℕ, List, [], ◌∷◌, ◌++◌, length, Option, Some, None, Ok, Err, slice_get, refl, sym, ap, ◌∙◌, subst, arith}
use Rattle.std.proofs.lemmas.Bool.{both_ways, false_from_ne_true}
use Rattle.std.proofs.lemmas.Option.{slice_get_within}
use Rattle.layout.specs.declared.refusal.Refusal.{Refusal}
use Rattle.layout.specs.declared.refusal.Refusal.TheVariants.{NoMemory, Device, BadLength, BadSuper, BadGroup}
use Rattle.model.specs.Layout.{Geometry, IsGeometry, block_count, group_block, header_blocks, is_data_address}
use Rattle.model.specs.Image.{IsGroupBlock, block_at}
use Rattle.model.proofs.Places.{maps_are_no_data}
use Rattle.frozen.specs.Kept.{kept_at}
use Rattle.frozen.specs.Loading.{FrameRefuses, HeaderRefuses, IsHeader, IsHeaderOf, IsKeptBlock, LoadRefuses, TellsGeometry}
use Rattle.frozen.specs.Shared.{shared_blocks}
use Rattle.loaders.specs.Readers.{Header, IsFirstRefusal, IsRead}

-- the element behind some others
pub at_end : {X : Type 0} (xs : List X) (x : X) (rest : List X) → slice_get (xs ++ x ∷ rest) (length xs) ≡ Some x
at_end [] x rest = refl
at_end (y ∷ xs) x rest = at_end xs x rest

pub next_at : {X : Type 0} (xs : List X) (x : X) (rest all : List X) (k : ℕ) → xs ++ x ∷ rest ≡ all → k ≡ length xs → slice_get all k ≡ Some x
next_at xs x rest all k whole at = ap (slice_get all) at ∙ sym (ap (λ ys. slice_get ys (length xs)) whole) ∙ at_end xs x rest

maps_there : (geo : Geometry) → IsGeometry geo → (g : ℕ) (o : Option (List ℕ)) → IsKeptBlock geo (group_block geo g) o → (b : List ℕ) × (o ≡ Some b) × IsGroupBlock g b
maps_there geo ok g None h =
    absurd (both_ways (is_data_address geo (group_block geo g)) (false_from_ne_true (is_data_address geo (group_block geo g)) (λ t. maps_are_no_data geo ok g (group_block geo g) t refl)) h)
maps_there geo ok g (Some b) h = (b, refl, h.2 g refl)

-- a group's block of maps is right on the image, where the group was read
pub right : (geo : Geometry) → IsGeometry geo → 0 < header_blocks geo → (image : List (List ℕ)) (g : ℕ) (blocks : List (Option (List ℕ))) → IsHeader geo g blocks → IsHeaderOf geo image g blocks
    → IsGroupBlock g (block_at image (group_block geo g))
right geo ok some image g blocks header of =
    let place : group_block geo g + 0 ≡ group_block geo g = omega arith in
    let is = subst (λ (a : ℕ). IsKeptBlock geo a (kept_at blocks 0)) place (header.each 0 some) in
    let at = maps_there geo ok g (kept_at blocks 0) is in
    subst (IsGroupBlock g) (of 0 at.0 at.1 ∙ ap (block_at image) place) at.2

-- the first refusal, in order of the groups, is that of the least group whose block of maps is wrong, or the machine gave out
pub first_refused : (honest : Type 0) (geo : Geometry) → IsGeometry geo → 0 < header_blocks geo → (image : List (List ℕ)) (parts : List Header) (refusal : Refusal) → length parts ≡ geo.groups
    → ((g : ℕ) (part : Header) → slice_get parts g ≡ Some part → IsRead honest geo image g part) → IsFirstRefusal parts refusal → FrameRefuses honest geo image refusal
first_refused honest geo ok some image parts refusal count read first = go refusal (read first.group (Err refusal) first.refused)
  where
    before : honest → (h : ℕ) → h < first.group → IsGroupBlock h (block_at image (group_block geo h))
    before t h low =
        let part = first.before h low in
        let is = read h (Ok part.0) part.1 in
        right geo ok some image h (shared_blocks part.0.items) is.0 (is.1 t)

    go : (one : Refusal) → HeaderRefuses honest geo image first.group one → FrameRefuses honest geo image one
    go NoMemory h = tt
    go Device h = tt
    go (BadGroup j) h = subst (λ k. FrameRefuses honest geo image (BadGroup k)) (sym h.0)
        (subst (λ k. first.group < k) count (slice_get_within parts first.group (Err refusal) first.refused), λ t. record { wrong = h.1 t; before = before t })
    go _ h = absurd h

-- so the image that the superblock tells of is refused
pub frame_to_load : (honest others : Type 0) (geo : Geometry) (image : List (List ℕ)) (refusal : Refusal) → (honest → TellsGeometry image geo) → length image ≡ block_count geo
    → FrameRefuses others geo image refusal → LoadRefuses (honest × others) image refusal
frame_to_load honest others geo image NoMemory told count h = tt
frame_to_load honest others geo image Device told count h = tt
frame_to_load honest others geo image (BadGroup g) told count h = λ t. record { geometry = geo; told = told t.0; count = count; in_volume = h.0; least = h.1 t.1 }
frame_to_load honest others geo image _ told count h = absurd h

pub no_memory_is_no_device : NoMemory ≡ Device → ⊥
no_memory_is_no_device same = cc

-- what is refused where one device was honest is refused where all were
pub alone_to_load : (honest others : Type 0) (image : List (List ℕ)) (refusal : Refusal) → LoadRefuses honest image refusal → LoadRefuses (honest × others) image refusal
alone_to_load honest others image NoMemory h = tt
alone_to_load honest others image Device h = tt
alone_to_load honest others image BadLength h = λ t. h t.0
alone_to_load honest others image BadSuper h = λ t. h t.0
alone_to_load honest others image (BadGroup g) h = λ t. h t.0
alone_to_load honest others image _ h = absurd h
