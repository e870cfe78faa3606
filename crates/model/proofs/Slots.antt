-- The slots of a directory by its uses.
use Rattle.std.proofs.Common.{◌≡◌, ◌<◌, ◌/◌, ℕ, zero, suc, Bool, true, false, cond, ◌&&◌, ltb, leb, ◌++◌, [], refl, ap, ap₂, ◌∙◌, None, IsTrue}
use Rattle.std.specs.Option.{option_map_or, option_and_then}
use Rattle.std.specs.Bool.{then_some}
use Rattle.std.proofs.lemmas.Bool.{lt-ltb, cond-true, and_from, and_parts, ltb-true}
use Rattle.model.specs.Layout.{Geometry, is_data_address}
use Rattle.model.specs.View.{View}
use Rattle.model.specs.Shape.{most_blocks}
use Rattle.model.specs.Uses.{is_directory_at, use_at, claim_at, IsClaim}
use Rattle.model.specs.Slots.{Absent, slot, slot_in}
use Rattle.model.specs.Named.{number_of, named_below, named_from}
use Rattle.model.specs.Reach.{slot_count}
use Rattle.model.proofs.Alike.{same_cond, same_map_or}
use Rattle.model.proofs.UseLemmas.{claim_from, claim_parts, no_use_no_claim}

pub slot_claimed : (geo : Geometry) (view : View) (d s a : ℕ) → IsTrue (is_directory_at geo view d) → s / 16 < most_blocks geo → IsClaim geo view d (s / 16) a → slot geo view d s ≡ slot_in geo (view.bytes a) s
unfolding slot
slot_claimed geo view d s a directory low claim =
    cond-true (is_directory_at geo view d && ltb (s / 16) (most_blocks geo)) (option_map_or (λ b. slot_in geo (view.bytes b) s) (claim_at geo view d (s / 16)) Absent) Absent
    (and_from (is_directory_at geo view d) (ltb (s / 16) (most_blocks geo)) directory (lt-ltb (s / 16) (most_blocks geo) low))
    ∙ ap (λ o. option_map_or (λ b. slot_in geo (view.bytes b) s) o Absent) (claim_from geo view d (s / 16) a claim)

pub no_claim_no_slot : (geo : Geometry) (view : View) (d s : ℕ) → claim_at geo view d (s / 16) ≡ None → slot geo view d s ≡ Absent
unfolding slot
no_claim_no_slot geo view d s none =
    ap (λ o. cond (is_directory_at geo view d && ltb (s / 16) (most_blocks geo)) (option_map_or (λ b. slot_in geo (view.bytes b) s) o Absent) Absent) none
    ∙ either (is_directory_at geo view d && ltb (s / 16) (most_blocks geo))
  where
    either : (b : Bool) → cond b Absent Absent ≡ Absent
    either true = refl
    either false = refl

pub slot_absent : (geo : Geometry) (view : View) (d s : ℕ) → use_at geo view d (s / 16) ≡ None → slot geo view d s ≡ Absent
slot_absent geo view d s none = no_claim_no_slot geo view d s (no_use_no_claim geo view d (s / 16) none)

same_claim : (geo : Geometry) (v w : View) (d k : ℕ) → use_at geo v d k ≡ use_at geo w d k → claim_at geo v d k ≡ claim_at geo w d k
unfolding claim_at
same_claim geo v w d k e = ap (option_and_then (λ a. then_some (is_data_address geo a) a)) e

-- two views in which a directory is one, uses the same at a slot's position, and has the same bytes there, have the same slot
pub slots_of_uses : (geo : Geometry) (v w : View) (d s : ℕ) → is_directory_at geo v d ≡ is_directory_at geo w d → use_at geo v d (s / 16) ≡ use_at geo w d (s / 16)
    → ((a : ℕ) → IsTrue (is_directory_at geo v d) → s / 16 < most_blocks geo → IsClaim geo v d (s / 16) a → slot_in geo (v.bytes a) s ≡ slot_in geo (w.bytes a) s) → slot geo v d s ≡ slot geo w d s
unfolding slot
slots_of_uses geo v w d s same uses bytes =
    same_cond (is_directory_at geo v d && ltb (s / 16) (most_blocks geo)) _ _ Absent (λ h.
    same_map_or (λ b. slot_in geo (v.bytes b) s) (λ b. slot_in geo (w.bytes b) s) Absent (claim_at geo v d (s / 16)) (λ a c.
    let parts = and_parts (is_directory_at geo v d) (ltb (s / 16) (most_blocks geo)) h in
    bytes a parts.0 (ltb-true (s / 16) (most_blocks geo) parts.1) (claim_parts geo v d (s / 16) a c)))
    ∙ ap₂ (λ b o. cond (b && ltb (s / 16) (most_blocks geo)) (option_map_or (λ a. slot_in geo (w.bytes a) s) o Absent) Absent) same (same_claim geo v w d (s / 16) uses)

-- the same slots name the same numbers
pub named_of_slots : (geo : Geometry) (v w : View) (first d : ℕ) → ((s : ℕ) → slot geo v d s ≡ slot geo w d s) → (n : ℕ) → named_below geo v first d n ≡ named_below geo w first d n
unfolding named_below
named_of_slots geo v w first d same zero = refl
named_of_slots geo v w first d same (suc s) = ap₂ (λ xs x. xs ++ cond (leb first s) (number_of x) []) (named_of_slots geo v w first d same s) (same s)

pub named_of_uses : (geo : Geometry) (v w : View) (first d : ℕ) → ((s : ℕ) → slot geo v d s ≡ slot geo w d s) → named_from geo v first d ≡ named_from geo w first d
named_of_uses geo v w first d same = named_of_slots geo v w first d same (slot_count geo)
