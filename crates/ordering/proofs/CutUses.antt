-- What the kinds of update say of the uses of a cut's view.
use Rattle.std.proofs.Common.{◌≡◌, ℕ, sym, ◌∙◌, List, Contains, Some, IsTrue}
use Rattle.model.specs.Layout.{Geometry}
use Rattle.model.specs.View.{View, Inode}
use Rattle.model.specs.Uses.{has_position, is_sound, record_use}
use Rattle.model.proofs.Uses.{record_uses_agree, same_field}
use Rattle.ordering.specs.Cuts.{Cell, Block, Pending, users_view}
use Rattle.ordering.specs.Ghosts.{Ghost}
use Rattle.ordering.specs.Rewrites.{Stays, Comes}

-- a position that stays is used as before in each view
pub stays_used : (geo : Geometry) (view : View) (old new : Inode) (k : ℕ) → IsTrue (is_sound geo new) → IsTrue (has_position geo new k) → Stays geo old new k → record_use geo view new k ≡ record_use geo view old k
stays_used geo view old new k sound has s = same_field geo view new old sound s.sound k has s.used s.field

-- a position that comes has its block in each view that has, of each block that comes first, the bytes that users see there
pub comes_used : (geo : Geometry) (disk : View) (q : List Pending) (ghost : Ghost) (after : List Cell) (new : Inode) (k b : ℕ) → Comes geo disk q ghost after new k b
    → (view : View) → ((t : ℕ) → Contains after (Block t) → view.bytes t ≡ (users_view disk q).bytes t) → record_use geo view new k ≡ Some b
comes_used geo disk q ghost after new k b c view fresh =
    sym (record_uses_agree geo (users_view disk q) view new k (λ m t a u d. sym (fresh t (c.tables m t a u)))) ∙ c.uses
