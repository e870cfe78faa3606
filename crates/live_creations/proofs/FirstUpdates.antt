-- What a new entry names, and then the entry, as they are added to the updates in the making.
use Rattle.std.proofs.Common.{◌≡◌, ◌+◌, ◌++◌, ℕ, true, List, [], ◌∷◌, take, drop, length, replicate, sym, ap, ap₂, ◌∙◌, arith, subst}
use Rattle.std.proofs.Math.Seq.{drop-append-add, take-append_seam}
use Rattle.std.proofs.lemmas.List.{drop-replicate}
use Rattle.model.specs.Layout.{Geometry}
use Rattle.model.specs.View.{View, Inode}
use Rattle.model.specs.Cells.{SetBlock, SetBytes, SetInode, SetNumber}
use Rattle.ordering.specs.Cuts.{Block, BlockBit, Cell, NumberBit, Pending, Record}
use Rattle.machine.specs.Cells.{IsEntryFor, with_slot}
use Rattle.machine.specs.Effects.{file_with, AreDots, new_directory, with_links}
use Rattle.plans_naming.specs.Create.{born}
use Rattle.plans_naming.specs.Link.{raised}
use Rattle.plans_naming.specs.Make.{made}
use Rattle.live_states.specs.Drafts.{Draft, GoesOn}
use Rattle.live_plans.specs.Entered.{EntersAt}
use Rattle.live_plans.specs.declared.entering.NewEntry.{NewEntry}
use Rattle.live_plans.proofs.DraftLemmas.{goes_as, goes_then}
use Rattle.live_creations.specs.Made.{Created, DirectoryMade, Linked}

abbrev no_updates : Geometry → ℕ → Draft
no_updates geo file = record { geometry = geo; file = file; updates = [] }

pub makes_file : (geo held : Geometry) (view : View) (new : NewEntry) (words : List ℕ) (start marked written draft : Draft) (none cells : List Cell)
    → start ≡ no_updates held new.number → held ≡ geo → none ≡ [] → cells ≡ NumberBit new.number ∷ []
    → GoesOn start marked (λ q. record { change = SetNumber new.number true; after = none } ∷ q)
    → GoesOn marked written (λ q. record { change = SetInode new.number (file_with words); after = cells } ∷ q)
    → EntersAt geo view new.directory new.parent new.number new.name.now new.place written draft
    → Created geo view new words draft
makes_file geo held view new words start marked written draft none cells empty same nothing bit marks writes enters = record {
  named = written;
  names = subst (λ (d : Draft). GoesOn d written (born new.number (file_with words) [])) (empty ∙ ap (λ (g : Geometry). no_updates g new.number) same)
      (goes_as start written _ (born new.number (file_with words) [])
      (λ q. ap₂ (λ cs ns. record { change = SetInode new.number (file_with words); after = cs } ∷ record { change = SetNumber new.number true; after = ns } ∷ q) bit nothing)
      (goes_then start marked written (λ q. record { change = SetNumber new.number true; after = none } ∷ q) (λ q. record { change = SetInode new.number (file_with words); after = cells } ∷ q) marks writes));
  enters = enters;
}

pub raises_links : (geo held : Geometry) (view : View) (new : NewEntry) (start written draft : Draft) (none : List Cell) (given record' : Inode)
    → start ≡ no_updates held new.number → held ≡ geo → none ≡ [] → given ≡ view.inode new.number → record' ≡ with_links given (given.links + 1)
    → GoesOn start written (λ q. record { change = SetInode new.number record'; after = none } ∷ q)
    → EntersAt geo view new.directory new.parent new.number new.name.now new.place written draft
    → Linked geo view new draft
raises_links geo held view new start written draft none given record' empty same nothing is more writes enters = record {
  named = written;
  names = subst (λ (d : Draft). GoesOn d written (raised new.number (view.inode new.number))) (empty ∙ ap (λ (g : Geometry). no_updates g new.number) same)
      (goes_as start written _ (raised new.number (view.inode new.number))
      (λ q. ap₂ (λ n ns. record { change = SetInode new.number n; after = ns } ∷ q) (more ∙ ap (λ (n : Inode). with_links n (n.links + 1)) is) nothing) writes);
  enters = enters;
}

-- ---- a new directory
pub dots_whole : (i d : ℕ) (own parent zeroes first second : List ℕ) → IsEntryFor i (46 ∷ []) own → IsEntryFor d (46 ∷ 46 ∷ []) parent → zeroes ≡ replicate 1024 0
    → first ≡ with_slot zeroes 0 own → second ≡ with_slot first 1 parent → AreDots i d second
dots_whole i d own parent zeroes first second names_it names_above none one two = record {
  own = own;
  parent = parent;
  names_own = names_it;
  names_parent = names_above;
  whole = two ∙ ap (λ l. take 64 l ++ parent ++ drop 128 l) with_own ∙ ap₂ (λ a b. a ++ parent ++ b) kept_own left;
}
  where
    with_own : first ≡ own ++ replicate 960 0
    with_own = one ∙ ap (λ zs. take 0 zs ++ own ++ drop 64 zs) none ∙ ap (λ zs. own ++ zs) (drop-replicate 64 1024 0)

    kept_own : take 64 (own ++ replicate 960 0) ≡ own
    kept_own = ap (λ n. take n (own ++ replicate 960 0)) (sym names_it.whole) ∙ take-append_seam own (replicate 960 0)

    left : drop 128 (own ++ replicate 960 0) ≡ replicate 896 0
    left =
        let past : 128 ≡ length own + 64 = omega (arith, names_it.whole) in
        ap (λ n. drop n (own ++ replicate 960 0)) past ∙ drop-append-add own (replicate 960 0) 64 ∙ drop-replicate 64 960 0

module _ (geo held : Geometry) (view : View) (new : NewEntry) (own : ℕ) (words dots : List ℕ) (start numbered marked raised_in filled_in written draft : Draft) (none_a none_b none_c before_dots before_record : List Cell) (given : Inode) where
  -- the updates, newest first
  abbrev listed : Inode → List Cell → List Cell → Inode → List Cell → List Cell → List Cell → List Pending → List Pending
  listed n rs ds p c b a q =
      record { change = SetInode new.number n; after = rs } ∷ record { change = SetBytes own dots; after = ds } ∷ record { change = SetInode new.directory p; after = c }
      ∷ record { change = SetBlock own true; after = b } ∷ record { change = SetNumber new.number true; after = a } ∷ q

  pub makes_directory : start ≡ no_updates held new.number → held ≡ geo → none_a ≡ [] → none_b ≡ [] → none_c ≡ []
      → before_dots ≡ BlockBit own ∷ Record new.directory ∷ [] → before_record ≡ NumberBit new.number ∷ Block own ∷ []
      → new.parent ≡ with_links (view.inode new.directory) ((view.inode new.directory).links + 1) → given ≡ new_directory own words → AreDots new.number new.directory dots
      → GoesOn start numbered (λ q. record { change = SetNumber new.number true; after = none_a } ∷ q)
      → GoesOn numbered marked (λ q. record { change = SetBlock own true; after = none_b } ∷ q)
      → GoesOn marked raised_in (λ q. record { change = SetInode new.directory new.parent; after = none_c } ∷ q)
      → GoesOn raised_in filled_in (λ q. record { change = SetBytes own dots; after = before_dots } ∷ q)
      → GoesOn filled_in written (λ q. record { change = SetInode new.number given; after = before_record } ∷ q)
      → EntersAt geo view new.directory new.parent new.number new.name.now new.place written draft
      → DirectoryMade geo view new own words draft
  makes_directory empty same na nb nc bd br parent is are first second third fourth fifth enters = record {
    dots = dots;
    are_dots = are;
    makes = record {
      named = written;
      names = subst (λ (d : Draft). GoesOn d written (made new.number own words dots new.directory (view.inode new.directory))) (empty ∙ ap (λ (g : Geometry). no_updates g new.number) same)
          (goes_as start written _ (made new.number own words dots new.directory (view.inode new.directory)) same_list
          (goes_then start filled_in written _ (λ q. record { change = SetInode new.number given; after = before_record } ∷ q)
          (goes_then start raised_in filled_in _ (λ q. record { change = SetBytes own dots; after = before_dots } ∷ q)
          (goes_then start marked raised_in _ (λ q. record { change = SetInode new.directory new.parent; after = none_c } ∷ q)
          (goes_then start numbered marked (λ q. record { change = SetNumber new.number true; after = none_a } ∷ q) (λ q. record { change = SetBlock own true; after = none_b } ∷ q) first second) third) fourth) fifth));
      enters = enters;
    };
  }
    where
      same_list : (q : List Pending) → listed given before_record before_dots new.parent none_c none_b none_a q ≡ made new.number own words dots new.directory (view.inode new.directory) q
      same_list q =
          ap₂ (λ n rs. listed n rs before_dots new.parent none_c none_b none_a q) is br
          ∙ ap₂ (λ ds p. listed (new_directory own words) (NumberBit new.number ∷ Block own ∷ []) ds p none_c none_b none_a q) bd parent
          ∙ ap₂ (λ c b. listed (new_directory own words) (NumberBit new.number ∷ Block own ∷ []) (BlockBit own ∷ Record new.directory ∷ []) (with_links (view.inode new.directory) ((view.inode new.directory).links + 1)) c b none_a q) nc nb
          ∙ ap (λ a. listed (new_directory own words) (NumberBit new.number ∷ Block own ∷ []) (BlockBit own ∷ Record new.directory ∷ []) (with_links (view.inode new.directory) ((view.inode new.directory).links + 1)) [] [] a q) na
