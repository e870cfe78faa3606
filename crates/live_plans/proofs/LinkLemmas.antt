-- The updates by which a position of an inode points to a new block, as they are made and as the plan has them.
use Rattle.std.proofs.Common.{◌≡◌, ◌<◌, ℕ, true, List, [], ◌∷◌, ◌++◌, map, replicate, inl, inr, refl, sym, ap, ◌∙◌, subst, Option, Some, None, IsTrue, All}
use Rattle.std.specs.Option.{IfSome, option_map_or}
use Rattle.std.proofs.lemmas.List.Elements.{All-cons, All-nil, All-push}
use Rattle.model.specs.Layout.{Geometry, is_data_address}
use Rattle.model.specs.View.{Fits, Inode, View}
use Rattle.model.specs.Cells.{SetBlock, SetBytes}
use Rattle.model.specs.Metadata.{SameMetadata}
use Rattle.model.specs.Shape.{above, place_in_table, position_count, table_of, with_field}
use Rattle.model.specs.Uses.{IsClaim, claim_at}
use Rattle.model.proofs.Fields.{still_fits}
use Rattle.model.proofs.Shape.{Alone, One, Two, way, shallow, table_cases, table_is_table}
use Rattle.model.proofs.UseLemmas.{claim_from}
use Rattle.model.proofs.Uses.{table_claimed}
use Rattle.std.proofs.lemmas.Option.{none-some, same_Some}
use Rattle.std.specs.Prelude.{option_to_list, unwrap_or}
use Rattle.std.proofs.lemmas.Bool.{le-leb}
use Rattle.model.specs.Shape.{most_blocks}
use Rattle.machine.specs.Cells.{block_of, with_pointer}
use Rattle.ordering.specs.Cuts.{Block, BlockBit, Cell, Record}
use Rattle.updates.specs.Places.{IsCell}
use Rattle.frozen.specs.Kept.{Kept, frozen_view}
use Rattle.plans_data.specs.Append.{Holder, KeptInRecord, KeptInTable, KeptInNew, linked, pointer_after}
use Rattle.plans_data.specs.Plans.{holder_of}
use Rattle.plans_data.proofs.Blocks.{block_is}
use Rattle.live_states.specs.Drafts.{Draft, GoesOn}
use Rattle.live_plans.specs.Linked.{CanLink, IsLinked}
use Rattle.live_plans.proofs.DraftLemmas.{goes_then}
use Rattle.live_plans.proofs.FoundLemmas.{same_claim}

-- ---- where the pointer is kept
module _ (geo : Geometry) (v : View) (n : ℕ) where
  abbrev pub over_table : ℕ → List ℕ
  over_table m = map (block_of geo v n) (above geo m)

  abbrev there : ℕ → Holder
  there m = KeptInTable m (block_of geo v n m) (v.bytes (block_of geo v n m)) (over_table m)

  pub holder_none : (k b : ℕ) → table_of geo k ≡ None → holder_of geo v n k b [] ≡ KeptInRecord
  holder_none k b none = ap (λ o. option_map_or there o KeptInRecord) none

  pub holder_some : (k b m : ℕ) → table_of geo k ≡ Some m → holder_of geo v n k b [] ≡ there m
  holder_some k b m one = ap (λ o. option_map_or there o KeptInRecord) one

  pub holder_new : (k b m x : ℕ) (xs : List ℕ) → table_of geo k ≡ Some m → holder_of geo v n k b (x ∷ xs) ≡ KeptInNew m x (with_pointer (replicate 1024 0) 0 b) (holder_of geo v n m x xs)
  holder_new k b m x xs one = ap (λ o. option_map_or (λ l. KeptInNew l x (with_pointer (replicate 1024 0) 0 b) (holder_of geo v n l x xs)) o KeptInRecord) one

  -- the table over a table
  pub none_over : (m : ℕ) → table_of geo m ≡ None → over_table m ≡ []
  none_over m none = elim (way geo m) [
    | Alone stands list t ↦ ap (map (block_of geo v n)) list
    | One a one stands list t ↦ absurd (none-some a (sym none ∙ one))
    | Two a b one two stands list t ↦ absurd (none-some a (sym none ∙ one))
  ]

  pub one_over : (k m t : ℕ) → table_of geo k ≡ Some m → table_of geo m ≡ Some t → over_table m ≡ block_of geo v n t ∷ []
  one_over k m t one two = elim (way geo m) [
    | Alone none list at ↦ absurd (none-some t (sym none ∙ two))
    | One a up none list at ↦ ap (map (block_of geo v n)) list ∙ ap (λ x. block_of geo v n x ∷ []) (same_Some a t (sym up ∙ two))
    | Two a b up further none list at ↦ absurd (none-some b (sym (shallow geo k m a one up) ∙ further))
  ]

  -- and where the table is claimed the one over it is
  pub over_there : (k m t x : ℕ) (found : Option ℕ) → table_of geo k ≡ Some m → table_of geo m ≡ Some t → IsClaim geo v n m x → found ≡ claim_at geo v n t
      → (option_to_list found ≡ over_table m) × IfSome found (λ a. IsTrue (is_data_address geo a))
  over_there k m t x found one two claim is =
      let c = table_claimed geo v n m x t two claim.0 in
      let some = is ∙ claim_from geo v n t c.0 c.1 in (
        ap option_to_list some ∙ ap (λ y. y ∷ []) (sym (block_is geo v n t c.0 c.1)) ∙ sym (one_over k m t one two),
        subst (λ o. IfSome o (λ a. IsTrue (is_data_address geo a))) (sym some) c.1.1,
      )

-- where users see what is kept, it is the same
map_same : (f g : ℕ → ℕ) → ((k : ℕ) → f k ≡ g k) → (xs : List ℕ) → map f xs ≡ map g xs
map_same f g e [] = refl
map_same f g e (x ∷ xs) = ap (λ y. y ∷ map f xs) (e x) ∙ ap (λ ys. g x ∷ ys) (map_same f g e xs)

module _ (kept : Kept) (view : View) (same : SameMetadata kept.geometry (frozen_view kept) view) (n : ℕ) where
  same_block : (k : ℕ) → block_of kept.geometry (frozen_view kept) n k ≡ block_of kept.geometry view n k
  same_block k = ap (λ o. unwrap_or o 0) (same_claim kept.geometry (frozen_view kept) view same n k)

  pub holder_there : (k b : ℕ) (news : List ℕ) → CanLink kept n k news → holder_of kept.geometry (frozen_view kept) n k b news ≡ holder_of kept.geometry view n k b news
  holder_there k b [] can = elim (table_cases kept.geometry k) [
    | inl none ↦ holder_none kept.geometry (frozen_view kept) n k b none ∙ sym (holder_none kept.geometry view n k b none)
    | inr one ↦
        let m = one.0 in
        let claim = can m one.1 in
        let is = block_is kept.geometry (frozen_view kept) n m claim.0 claim.1 in
        let table = le-leb (most_blocks kept.geometry) m (table_is_table kept.geometry k m one.1) in
        let bytes = ap (frozen_view kept).bytes is ∙ same.tables n m claim.0 table claim.1 ∙ ap view.bytes (sym is ∙ same_block m) in
        holder_some kept.geometry (frozen_view kept) n k b m one.1
        ∙ ap (λ x. KeptInTable m x ((frozen_view kept).bytes (block_of kept.geometry (frozen_view kept) n m)) (over_table kept.geometry (frozen_view kept) n m)) (same_block m)
        ∙ ap (λ t. KeptInTable m (block_of kept.geometry view n m) t (over_table kept.geometry (frozen_view kept) n m)) bytes
        ∙ ap (λ o. KeptInTable m (block_of kept.geometry view n m) (view.bytes (block_of kept.geometry view n m)) o)
        (map_same (block_of kept.geometry (frozen_view kept) n) (block_of kept.geometry view n) same_block (above kept.geometry m))
        ∙ sym (holder_some kept.geometry view n k b m one.1)
  ]
  holder_there k b (x ∷ xs) can =
      holder_new kept.geometry (frozen_view kept) n k b can.0 x xs can.1
      ∙ ap (λ h. KeptInNew can.0 x (with_pointer (replicate 1024 0) 0 b) h) (holder_there can.0 x xs can.3)
      ∙ sym (holder_new kept.geometry view n k b can.0 x xs can.1)

-- ---- the updates
module _ (geo : Geometry) (v : View) (n : ℕ) (inode : Inode) where
  pub links_record : (k b : ℕ) (old : Draft) (given : Inode) (cells : List Cell) → k < position_count geo → table_of geo k ≡ None → IsTrue (is_data_address geo b) → given ≡ with_field geo inode k b → cells ≡ Block b ∷ []
      → IsLinked geo n inode k b (holder_of geo v n k b []) old old given cells
  links_record k b old given cells inside none address e f = subst (λ h. IsLinked geo n inode k b h old old given cells) (sym (holder_none geo v n k b none)) (record {
    goes_on = record { geometry = refl; file = refl; pending = λ q. refl };
    record_points = e;
    record_fits = λ fits. subst (Fits geo.version) (sym e) (still_fits geo inode k b inside none fits);
    record_after = f;
    cells = subst (All (IsCell geo)) (sym f) (All-cons (IsCell geo) (Block b) [] address (All-nil (IsCell geo)));
  })

  all_of : (o : Option ℕ) (x b : ℕ) → IfSome o (λ a. IsTrue (is_data_address geo a)) → IsTrue (is_data_address geo x) → IsTrue (is_data_address geo b) → All (IsCell geo) (map Block (option_to_list o) ++ Block x ∷ Block b ∷ [])
  all_of None x b over table block = All-cons (IsCell geo) (Block x) (Block b ∷ []) table (All-cons (IsCell geo) (Block b) [] block (All-nil (IsCell geo)))
  all_of (Some a) x b over table block =
      All-cons (IsCell geo) (Block a) (Block x ∷ Block b ∷ []) over
      (All-cons (IsCell geo) (Block x) (Block b ∷ []) table (All-cons (IsCell geo) (Block b) [] block (All-nil (IsCell geo))))

  pub links_table : (k b m x : ℕ) (pointers : List ℕ) (over : Option ℕ) (old new : Draft) (cells : List Cell) → table_of geo k ≡ Some m → IsClaim geo v n m x → pointers ≡ v.bytes x
      → option_to_list over ≡ over_table geo v n m → IfSome over (λ a. IsTrue (is_data_address geo a)) → IsTrue (is_data_address geo b)
      → GoesOn old new (λ q. record { change = SetBytes x (with_pointer pointers (place_in_table geo k) b); after = pointer_after n (place_in_table geo k) b pointers (option_to_list over) } ∷ q)
      → cells ≡ map Block (option_to_list over) ++ Block x ∷ Block b ∷ []
      → IsLinked geo n inode k b (holder_of geo v n k b []) old new inode cells
  links_table k b m x pointers over old new cells one claim bytes o address block goes f =
      let is = block_is geo v n m x claim in
      let kept =
      holder_some geo v n k b m one
      ∙ ap (λ y. KeptInTable m y (v.bytes y) (over_table geo v n m)) is
      ∙ ap (λ t. KeptInTable m x t (over_table geo v n m)) (sym bytes)
      ∙ ap (λ l. KeptInTable m x pointers l) (sym o) in
      subst (λ h. IsLinked geo n inode k b h old new inode cells) (sym kept) (record {
        goes_on = goes;
        record_points = refl;
        record_fits = λ fits. fits;
        record_after = f;
        cells = subst (All (IsCell geo)) (sym f) (all_of over x b address claim.1 block);
      })

  -- a new table, to which the inode then points likewise
  pub links_new : (k b m x : ℕ) (xs : List ℕ) (old mid new : Draft) (given : Inode) (cells : List Cell) → table_of geo k ≡ Some m → IsTrue (is_data_address geo b)
      → GoesOn old mid (λ q. record { change = SetBytes x (with_pointer (replicate 1024 0) 0 b); after = BlockBit x ∷ Block b ∷ [] } ∷ record { change = SetBlock x true; after = [] } ∷ q)
      → IsLinked geo n inode m x (holder_of geo v n m x xs) mid new given cells
      → IsLinked geo n inode k b (holder_of geo v n k b (x ∷ xs)) old new given (cells ++ Block b ∷ [])
  links_new k b m x xs old mid new given cells one address starts up =
      subst (λ h. IsLinked geo n inode k b h old new given (cells ++ Block b ∷ [])) (sym (holder_new geo v n k b m x xs one)) (record {
        goes_on = goes_then old mid new _ (linked geo n m x (holder_of geo v n m x xs)) starts up.goes_on;
        record_points = up.record_points;
        record_fits = up.record_fits;
        record_after = ap (λ cs. cs ++ Block b ∷ []) up.record_after;
        cells = All-push (IsCell geo) cells (Block b) up.cells address;
      })
