-- The updates of each plan stand on top of what is pending, and are the same whatever is.
use Rattle.std.proofs.Common.{◌≡◌, ℕ, ◌+◌, ◌-◌, Bool, true, false, if◌then◌else◌, List, [], ◌∷◌, ◌++◌, refl, sym, ap, ◌∙◌}
use Rattle.std.proofs.lemmas.List.{append_assoc}
use Rattle.model.specs.Layout.{Geometry}
use Rattle.std.specs.Prelude.{nat_lt}
use Rattle.model.specs.View.{Inode, free_inode, with_attributes}
use Rattle.model.specs.Uses.{blocks_of}
use Rattle.model.specs.Cells.{SetInode, SetNumber, SetBlock, SetBytes}
use Rattle.model.specs.Shape.{place_in_table}
use Rattle.findings.specs.declared.repair.Repair.{Repair}
use Rattle.findings.specs.declared.repair.Repair.TheVariants.{DropInode, LowerCount, FreeBlock, FreeNumber}
use Rattle.ordering.specs.Cuts.{Cell, Record, NumberBit, BlockBit, Block, Pending}
use Rattle.machine.specs.Cells.{with_pointer}
use Rattle.machine.specs.Effects.{file_with, new_directory, with_links}
use Rattle.plans_data.specs.Append.{Holder, KeptInRecord, KeptInTable, KeptInNew, appended, filled, known, linked, pointed, pointer_after, sized}
use Rattle.plans_data.specs.Freeing.{cleared, freeing}
use Rattle.plans_data.specs.Write.{enlarged, written, relocated}
use Rattle.plans_data.specs.Truncate.{truncation}
use Rattle.plans_data.specs.Relink.{closing, goes_away, relinking, repairing}
use Rattle.plans_naming.specs.Create.{born, creating, creating_grown}
use Rattle.plans_naming.specs.Grow.{empty_block, grown}
use Rattle.plans_naming.specs.Entries.{no_entry, slot_written}
use Rattle.plans_naming.specs.Link.{linking, linking_grown, raised}
use Rattle.plans_naming.specs.Unlink.{lowered, unlinking, unlinking_last}
use Rattle.plans_naming.specs.Make.{made, making, making_grown}
use Rattle.plans_naming.specs.Rename.{renaming}
use Rattle.plans_naming.specs.Move.{left, moving, moving_grown}
use Rattle.plans_naming.specs.RemoveDirectory.{removing, removing_name}
use Rattle.plans_data.specs.Attributes.{attributing}

abbrev pub IsOnTop : (List Pending → List Pending) → Type 0
IsOnTop f = (us : List Pending) × ((q : List Pending) → f q ≡ us ++ q)

same : IsOnTop (λ q. q)
same = ([], λ q. refl)

more : (u : Pending) (f : List Pending → List Pending) → IsOnTop f → IsOnTop (λ q. u ∷ f q)
more u f t = (u ∷ t.0, λ q. ap (λ l. u ∷ l) (t.1 q))

one : (u : Pending) → IsOnTop (λ q. u ∷ q)
one u = more u (λ q. q) same

after : (f g : List Pending → List Pending) → IsOnTop f → IsOnTop g → IsOnTop (λ q. f (g q))
after f g s t = (s.0 ++ t.0, λ q. s.1 (g q) ∙ ap (λ l. s.0 ++ l) (t.1 q) ∙ sym (append_assoc s.0 t.0 q))

either : (b : Bool) (f g : List Pending → List Pending) → IsOnTop f → IsOnTop g → IsOnTop (λ q. if b then f q else g q)
either true f g s t = s
either false f g s t = t

-- ---- of blocks and records

cleared_top : (n : ℕ) (blocks : List ℕ) → IsOnTop (cleared n blocks)
cleared_top n [] = same
cleared_top n (b ∷ bs) = after (cleared n bs) (λ q. record { change = SetBlock b false; after = Record n ∷ [] } ∷ q) (cleared_top n bs) (one (record { change = SetBlock b false; after = Record n ∷ [] }))

freeing_top : (n : ℕ) (blocks : List ℕ) (cells : List Cell) → IsOnTop (freeing n blocks cells)
freeing_top n blocks cells =
    after (cleared n blocks) (λ q. record { change = SetNumber n false; after = Record n ∷ [] } ∷ record { change = SetInode n free_inode; after = cells } ∷ q) (cleared_top n blocks)
    (more (record { change = SetNumber n false; after = Record n ∷ [] }) (λ q. record { change = SetInode n free_inode; after = cells } ∷ q) (one (record { change = SetInode n free_inode; after = cells })))

filled_top : (b : ℕ) (bytes : List ℕ) → IsOnTop (filled b bytes)
filled_top b bytes = more (record { change = SetBytes b bytes; after = BlockBit b ∷ [] }) (λ q. record { change = SetBlock b true; after = [] } ∷ q) (one (record { change = SetBlock b true; after = [] }))

linked_top : (geo : Geometry) (n k b : ℕ) (holder : Holder) → IsOnTop (linked geo n k b holder)
linked_top geo n k b KeptInRecord = same
linked_top geo n k b (KeptInTable m x table over) =
    one (record { change = SetBytes x (with_pointer table (place_in_table geo k) b); after = pointer_after n (place_in_table geo k) b table over })
linked_top geo n k b (KeptInNew m x table up) =
    after (linked geo n m x up) (λ q. record { change = SetBytes x table; after = BlockBit x ∷ Block b ∷ [] } ∷ record { change = SetBlock x true; after = [] } ∷ q) (linked_top geo n m x up)
    (more (record { change = SetBytes x table; after = BlockBit x ∷ Block b ∷ [] }) (λ q. record { change = SetBlock x true; after = [] } ∷ q) (one (record { change = SetBlock x true; after = [] })))

pub appended_top : (geo : Geometry) (n : ℕ) (inode : Inode) (k b : ℕ) (bytes : List ℕ) (size : ℕ) (holder : Holder) → IsOnTop (appended geo n inode k b bytes size holder)
appended_top geo n inode k b bytes size holder =
    more (record { change = SetInode n (sized (pointed geo inode k b holder) size); after = known b holder }) (λ q. linked geo n k b holder (filled b bytes q))
    (after (linked geo n k b holder) (filled b bytes) (linked_top geo n k b holder) (filled_top b bytes))

enlarged_top : (n : ℕ) (inode : Inode) (size : ℕ) (cells : List Cell) → IsOnTop (enlarged n inode size cells)
enlarged_top n inode size cells = either (nat_lt inode.size size) (λ q. record { change = SetInode n (sized inode size); after = cells } ∷ q) (λ q. q) (one (record { change = SetInode n (sized inode size); after = cells })) same

pub written_top : (n : ℕ) (inode : Inode) (b : ℕ) (bytes : List ℕ) (size : ℕ) → IsOnTop (written n inode b bytes size)
written_top n inode b bytes size =
    after (enlarged n inode size (Block b ∷ [])) (λ q. record { change = SetBytes b bytes; after = [] } ∷ q) (enlarged_top n inode size (Block b ∷ [])) (one (record { change = SetBytes b bytes; after = [] }))

pub relocated_top : (geo : Geometry) (n : ℕ) (inode : Inode) (k b : ℕ) (bytes : List ℕ) (size : ℕ) (holder : Holder) → IsOnTop (relocated geo n inode k b bytes size holder)
relocated_top geo n inode k b bytes size KeptInRecord = appended_top geo n inode k b bytes size KeptInRecord
relocated_top geo n inode k b bytes size (KeptInTable m x table over) =
    after (enlarged n inode size (known b (KeptInTable m x table over))) (λ q. linked geo n k b (KeptInTable m x table over) (filled b bytes q)) (enlarged_top n inode size (known b (KeptInTable m x table over)))
    (after (linked geo n k b (KeptInTable m x table over)) (filled b bytes) (linked_top geo n k b (KeptInTable m x table over)) (filled_top b bytes))
relocated_top geo n inode k b bytes size (KeptInNew m x table up) = appended_top geo n inode k b bytes size (KeptInNew m x table up)

pub truncation_top : (n : ℕ) (inode : Inode) (size : ℕ) (blocks : List ℕ) → IsOnTop (truncation n inode size blocks)
truncation_top n inode size blocks =
    after (cleared n blocks) (λ q. record { change = SetInode n (sized inode size); after = [] } ∷ q) (cleared_top n blocks) (one (record { change = SetInode n (sized inode size); after = [] }))

pub attributing_top : (n : ℕ) (inode : Inode) (words : List ℕ) → IsOnTop (attributing n inode words)
attributing_top n inode words = one (record { change = SetInode n (with_attributes inode words); after = [] })

pub relinking_top : (n : ℕ) (inode : Inode) (links : ℕ) (opened : Bool) (blocks : List ℕ) → IsOnTop (relinking n inode links opened blocks)
relinking_top n inode links opened blocks =
    either (goes_away links opened) (freeing n blocks []) (λ q. record { change = SetInode n (with_links inode links); after = [] } ∷ q) (freeing_top n blocks []) (one (record { change = SetInode n (with_links inode links); after = [] }))

pub closing_top : (n : ℕ) (inode : Inode) (opened : Bool) (blocks : List ℕ) → IsOnTop (closing n inode opened blocks)
closing_top n inode opened blocks = either (goes_away inode.links opened) (freeing n blocks []) (λ q. q) (freeing_top n blocks []) same

pub repairing_top : (r : Repair) (inode : Inode) (opened : Bool) (blocks : List ℕ) → IsOnTop (repairing r inode opened blocks)
repairing_top (DropInode n) inode opened blocks = relinking_top n inode 0 opened blocks
repairing_top (LowerCount n x) inode opened blocks = relinking_top n inode (inode.links - x) opened blocks
repairing_top (FreeBlock a) inode opened blocks = one (record { change = SetBlock a false; after = [] })
repairing_top (FreeNumber n) inode opened blocks = one (record { change = SetNumber n false; after = [] })

-- ---- of names

born_top : (n : ℕ) (inode : Inode) (cells : List Cell) → IsOnTop (born n inode cells)
born_top n inode cells = more (record { change = SetInode n inode; after = NumberBit n ∷ cells }) (λ q. record { change = SetNumber n true; after = [] } ∷ q) (one (record { change = SetNumber n true; after = [] }))

grown_top : (geo : Geometry) (d : ℕ) (inode : Inode) (b : ℕ) (holder : Holder) → IsOnTop (grown geo d inode b holder)
grown_top geo d inode b holder = appended_top geo d inode (blocks_of inode.size) b empty_block (inode.size + 1024) holder

raised_top : (i : ℕ) (inode : Inode) → IsOnTop (raised i inode)
raised_top i inode = one (record { change = SetInode i (with_links inode (inode.links + 1)); after = [] })

lowered_top : (i : ℕ) (inode : Inode) (fewer block : ℕ) → IsOnTop (lowered i inode fewer block)
lowered_top i inode fewer block = one (record { change = SetInode i (with_links inode (inode.links - fewer)); after = Block block ∷ [] })

slot_top : (block : ℕ) (bytes : List ℕ) (s : ℕ) (entry : List ℕ) (cells : List Cell) → IsOnTop (λ q. slot_written block bytes s entry cells ∷ q)
slot_top block bytes s entry cells = one (slot_written block bytes s entry cells)

pub creating_top : (n : ℕ) (words : List ℕ) (block : ℕ) (bytes : List ℕ) (s : ℕ) (entry : List ℕ) (cells : List Cell) → IsOnTop (creating n words block bytes s entry cells)
creating_top n words block bytes s entry cells = more (slot_written block bytes s entry cells) (born n (file_with words) []) (born_top n (file_with words) [])

pub creating_grown_top : (geo : Geometry) (n : ℕ) (words : List ℕ) (d : ℕ) (parent : Inode) (b : ℕ) (holder : Holder) (s : ℕ) (entry : List ℕ) (cells : List Cell) → IsOnTop (creating_grown geo n words d parent b holder s entry cells)
creating_grown_top geo n words d parent b holder s entry cells =
    more (slot_written b empty_block s entry cells) (λ q. grown geo d parent b holder (born n (file_with words) [] q)) (after (grown geo d parent b holder) (born n (file_with words) []) (grown_top geo d parent b holder) (born_top n (file_with words) []))

pub linking_top : (i : ℕ) (inode : Inode) (block : ℕ) (bytes : List ℕ) (s : ℕ) (entry : List ℕ) (cells : List Cell) → IsOnTop (linking i inode block bytes s entry cells)
linking_top i inode block bytes s entry cells = more (slot_written block bytes s entry cells) (raised i inode) (raised_top i inode)

pub linking_grown_top : (geo : Geometry) (i : ℕ) (inode : Inode) (d : ℕ) (parent : Inode) (b : ℕ) (holder : Holder) (s : ℕ) (entry : List ℕ) (cells : List Cell) → IsOnTop (linking_grown geo i inode d parent b holder s entry cells)
linking_grown_top geo i inode d parent b holder s entry cells =
    more (slot_written b empty_block s entry cells) (λ q. grown geo d parent b holder (raised i inode q)) (after (grown geo d parent b holder) (raised i inode) (grown_top geo d parent b holder) (raised_top i inode))

pub unlinking_top : (i : ℕ) (inode : Inode) (block : ℕ) (bytes : List ℕ) (s : ℕ) → IsOnTop (unlinking i inode block bytes s)
unlinking_top i inode block bytes s = after (lowered i inode 1 block) (λ q. slot_written block bytes s no_entry [] ∷ q) (lowered_top i inode 1 block) (slot_top block bytes s no_entry [])

pub unlinking_last_top : (i : ℕ) (blocks : List ℕ) (block : ℕ) (bytes : List ℕ) (s : ℕ) → IsOnTop (unlinking_last i blocks block bytes s)
unlinking_last_top i blocks block bytes s = after (freeing i blocks (Block block ∷ [])) (λ q. slot_written block bytes s no_entry [] ∷ q) (freeing_top i blocks (Block block ∷ [])) (slot_top block bytes s no_entry [])

made_top : (i b : ℕ) (words dots : List ℕ) (d : ℕ) (inode : Inode) → IsOnTop (made i b words dots d inode)
made_top i b words dots d inode =
    more (record { change = SetInode i (new_directory b words); after = NumberBit i ∷ Block b ∷ [] })
    (λ q. record { change = SetBytes b dots; after = BlockBit b ∷ Record d ∷ [] } ∷ raised d inode (record { change = SetBlock b true; after = [] } ∷ record { change = SetNumber i true; after = [] } ∷ q))
    (more (record { change = SetBytes b dots; after = BlockBit b ∷ Record d ∷ [] }) (λ q. raised d inode (record { change = SetBlock b true; after = [] } ∷ record { change = SetNumber i true; after = [] } ∷ q))
    (after (raised d inode) (λ q. record { change = SetBlock b true; after = [] } ∷ record { change = SetNumber i true; after = [] } ∷ q) (raised_top d inode)
    (more (record { change = SetBlock b true; after = [] }) (λ q. record { change = SetNumber i true; after = [] } ∷ q) (one (record { change = SetNumber i true; after = [] })))))

pub making_top : (i b : ℕ) (words dots : List ℕ) (d : ℕ) (inode : Inode) (block : ℕ) (bytes : List ℕ) (s : ℕ) (entry : List ℕ) (cells : List Cell) → IsOnTop (making i b words dots d inode block bytes s entry cells)
making_top i b words dots d inode block bytes s entry cells = more (slot_written block bytes s entry cells) (made i b words dots d inode) (made_top i b words dots d inode)

pub making_grown_top : (geo : Geometry) (i a : ℕ) (words dots : List ℕ) (d : ℕ) (inode : Inode) (b : ℕ) (holder : Holder) (s : ℕ) (entry : List ℕ) (cells : List Cell) → IsOnTop (making_grown geo i a words dots d inode b holder s entry cells)
making_grown_top geo i a words dots d inode b holder s entry cells =
    more (slot_written b empty_block s entry cells) (λ q. grown geo d (with_links inode (inode.links + 1)) b holder (made i a words dots d inode q))
    (after (grown geo d (with_links inode (inode.links + 1)) b holder) (made i a words dots d inode) (grown_top geo d (with_links inode (inode.links + 1)) b holder) (made_top i a words dots d inode))

pub removing_top : (i : ℕ) (blocks : List ℕ) (d : ℕ) (parent : Inode) (block : ℕ) (bytes : List ℕ) (s : ℕ) (cells : List Cell) → IsOnTop (removing i blocks d parent block bytes s cells)
removing_top i blocks d parent block bytes s cells =
    after (lowered d parent 1 block) (λ q. freeing i blocks (Block block ∷ []) (slot_written block bytes s no_entry cells ∷ q)) (lowered_top d parent 1 block)
    (after (freeing i blocks (Block block ∷ [])) (λ q. slot_written block bytes s no_entry cells ∷ q) (freeing_top i blocks (Block block ∷ [])) (slot_top block bytes s no_entry cells))

pub removing_name_top : (i : ℕ) (inode : Inode) (d : ℕ) (parent : Inode) (block : ℕ) (bytes : List ℕ) (s : ℕ) (cells : List Cell) → IsOnTop (removing_name i inode d parent block bytes s cells)
removing_name_top i inode d parent block bytes s cells =
    after (lowered d parent 1 block) (λ q. lowered i inode 2 block (slot_written block bytes s no_entry cells ∷ q)) (lowered_top d parent 1 block)
    (after (lowered i inode 2 block) (λ q. slot_written block bytes s no_entry cells ∷ q) (lowered_top i inode 2 block) (slot_top block bytes s no_entry cells))

pub renaming_top : (block : ℕ) (bytes : List ℕ) (s : ℕ) (entry : List ℕ) (cells : List Cell) → IsOnTop (renaming block bytes s entry cells)
renaming_top block bytes s entry cells = slot_top block bytes s entry cells

left_top : (i : ℕ) (inode : Inode) (block : ℕ) (bytes : List ℕ) (s : ℕ) (cells : List Cell) → IsOnTop (left i inode block bytes s cells)
left_top i inode block bytes s cells = more (record { change = SetInode i inode; after = Block block ∷ [] }) (λ q. slot_written block bytes s no_entry cells ∷ q) (slot_top block bytes s no_entry cells)

pub moving_top : (i : ℕ) (inode : Inode) (block' : ℕ) (bytes' : List ℕ) (s' : ℕ) (entry : List ℕ) (cells' : List Cell) (block : ℕ) (bytes : List ℕ) (s : ℕ) (cells : List Cell) → IsOnTop (moving i inode block' bytes' s' entry cells' block bytes s cells)
moving_top i inode block' bytes' s' entry cells' block bytes s cells =
    after (left i inode block bytes s cells) (linking i inode block' bytes' s' entry cells') (left_top i inode block bytes s cells) (linking_top i inode block' bytes' s' entry cells')

pub moving_grown_top : (geo : Geometry) (i : ℕ) (inode : Inode) (d' : ℕ) (parent : Inode) (b : ℕ) (holder : Holder) (s' : ℕ) (entry : List ℕ) (cells' : List Cell) (block : ℕ) (bytes : List ℕ) (s : ℕ) (cells : List Cell)
    → IsOnTop (moving_grown geo i inode d' parent b holder s' entry cells' block bytes s cells)
moving_grown_top geo i inode d' parent b holder s' entry cells' block bytes s cells =
    after (left i inode block bytes s cells) (linking_grown geo i inode d' parent b holder s' entry cells') (left_top i inode block bytes s cells) (linking_grown_top geo i inode d' parent b holder s' entry cells')
