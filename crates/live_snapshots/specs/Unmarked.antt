-- What a check does not see of what is held: its bits.
use Rattle.std.specs.Prelude.{◌≡◌, ℕ, Bool, not, ◌&&◌, List, nat_le, nat_lt}
use Rattle.model.specs.Layout.{Geometry, group_block}
use Rattle.model.specs.Cells.{put_at}
use Rattle.model.specs.Image.{IsGroupBlock}
use Rattle.model.specs.View.{View, view_of}
use Rattle.frozen.specs.Kept.{Kept, KeepsMetadata}
use Rattle.metadata.specs.Shown.{Shows}
use Rattle.live_states.specs.Holdings.{Holdings, held_by}

-- what users see without the bits of these blocks
abbrev pub without_bits : (ℕ → Bool) → View → View
without_bits gone view = record view { block_marked = λ a. view.block_marked a && not (gone a) }

-- what is held from the first address on and below the last
abbrev pub held_between : Holdings → ℕ → ℕ → ℕ → Bool
held_between holdings first last a = held_by holdings a && (nat_le first a && nat_lt a last)

-- In place of the old block at this address, the new one shows the same but for these bits.
pub record IsUnmarked (geo : Geometry) (h : ℕ) (gone : ℕ → Bool) (old new : List ℕ) : Type 0 where
  pub view : (blocks : ℕ → List ℕ) → blocks h ≡ old → view_of geo (put_at blocks h new) ≡ without_bits gone (view_of geo blocks)
  pub group_block : (g : ℕ) → h ≡ group_block geo g → IsGroupBlock g old → IsGroupBlock g new

-- Where the first one shows what users see, the second one shows it without these bits; and it keeps all metadata, if the first one does.
pub record Unmarks (kept : Kept) (gone : ℕ → Bool) (new : Kept) : Type 0 where
  pub geometry : new.geometry ≡ kept.geometry
  pub metadata : KeepsMetadata kept → KeepsMetadata new
  pub shows : (users : View) → Shows kept users → Shows new (without_bits gone users)
