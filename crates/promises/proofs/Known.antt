-- What a closed cut shows of single cells, and a stop.
use Rattle.std.proofs.Common.{◌≡◌, ℕ, zero, suc, Bool, true, false, List, [], ◌∷◌, ◌⊎◌, inl, inr, refl, sym, ap, ◌∙◌, subst, length, replicate}
use Rattle.std.specs.List.{All}
use Rattle.std.proofs.lemmas.Bool.{cases_eq}
use Rattle.std.proofs.lemmas.List.Elements.{All-head, All-tail}
use Rattle.model.specs.Layout.{Geometry}
use Rattle.model.specs.Image.{image_view}
use Rattle.model.specs.View.{Inode, View}
use Rattle.model.specs.Cells.{Update, SetInode, SetNumber, SetBlock, SetBytes, put_at, updated}
use Rattle.model.proofs.Places.{put_here, put_there}
use Rattle.device.specs.Media.{MayBeLeft, Medium, chosen, image_of}
use Rattle.device.specs.Writes.{image_after}
use Rattle.ordering.specs.Cuts.{Cell, Pending, seen}
use Rattle.ordering.specs.ClosedSets.{pending_at}
use Rattle.machine.specs.Looks.{looks}
use Rattle.queue_model.specs.Files.{Written, IsFileBlock, updates}
use Rattle.snapshot.specs.Durable.{WritesLooksOf, LooksAsIn, LeavesShown}
use Rattle.promises.specs.Known.{LeavesKnown, LeavesLooks}

abbrev IsKnown : View → List Pending → ℕ → Inode → Type 0
IsKnown view us n there = (there ≡ view.inode n) ⊎ ((i : ℕ) × ((pending_at us i).change ≡ SetInode n there))

older : (view : View) (u : Pending) (us : List Pending) (n : ℕ) (there : Inode) → IsKnown view us n there → IsKnown view (u ∷ us) n there
older view u us n there (inl same) = inl same
older view u us n there (inr one) = inr (suc one.0, one.1)

changed : (view : View) (us : List Pending) (n : ℕ) (before : View) (after : List Cell) (change : Update) → IsKnown view us n (before.inode n)
    → IsKnown view (record { change = change; after = after } ∷ us) n ((updated before change).inode n)
changed view us n before after (SetInode m r) known = elim (cases_eq n m) [
  | inl same ↦
      let here : put_at before.inode m r n ≡ r = subst (λ k. put_at before.inode m r k ≡ r) (sym same) (put_here before.inode m r) in
      inr (0, ap (λ k. SetInode k r) (sym same) ∙ ap (SetInode n) (sym here))
  | inr other ↦ older view (record { change = SetInode m r; after = after }) us n (put_at before.inode m r n) (subst (IsKnown view us n) (sym (put_there before.inode m n r other)) known)
]
changed view us n before after (SetNumber m marked) known = older view (record { change = SetNumber m marked; after = after }) us n (before.inode n) known
changed view us n before after (SetBlock a marked) known = older view (record { change = SetBlock a marked; after = after }) us n (before.inode n) known
changed view us n before after (SetBytes a bytes) known = older view (record { change = SetBytes a bytes; after = after }) us n (before.inode n) known

seen_known : (view : View) (us : List Pending) (cut : List Bool) (n : ℕ) → IsKnown view us n ((seen view us cut).inode n)
seen_known view [] cut n = inl refl
seen_known view (u ∷ us) [] n = inl refl
seen_known view (u ∷ us) (true ∷ cut) n = changed view us n (seen view us cut) u.after u.change (seen_known view us cut n)
seen_known view (u ∷ us) (false ∷ cut) n = older view u us n ((seen view us cut).inode n) (seen_known view us cut n)

pub leaves_known : (geo : Geometry) (view : View) (written : List Written) (safe : ℕ → Bool) (m : Medium) → LeavesShown geo view written safe m → LeavesKnown geo view written m
leaves_known geo view written safe m shown image may =
    let one = shown image may in (
      λ n. subst (λ (v : View). IsKnown view (updates written) n (v.inode n)) (sym one.1) (seen_known view (updates written) one.0 n),
      λ n k b f. elim (one.2.own n k b (subst (λ v. IsFileBlock geo v n k b) one.1 f)) [
        | inl w ↦ inr (w.0, w.2 ∙ ap (λ (v : View). SetBytes b (v.bytes b)) (sym one.1), w.3)
        | inr had ↦ inl (ap (λ (v : View). v.bytes b) one.1 ∙ had.0, had.2)
      ],
    )

-- ---- how inodes look

looks_at : (views : List View) (written : List Written) → All (WritesLooksOf views) written → (i n : ℕ) (x : Inode) → (pending_at (updates written) i).change ≡ SetInode n x → LooksAsIn views n (looks x)
looks_at views [] sized i n x is = cc
looks_at views (w ∷ written) sized zero n x is = All-head (WritesLooksOf views) w written sized n x is
looks_at views (w ∷ written) sized (suc i) n x is = looks_at views written (All-tail (WritesLooksOf views) w written sized) i n x is

pub leaves_looks : (geo : Geometry) (view : View) (written : List Written) (safe : ℕ → Bool) (m : Medium) (views : List View) → All (WritesLooksOf views) written → LeavesShown geo view written safe m → LeavesLooks geo view views m
leaves_looks geo view written safe m views sized shown image may n = elim ((leaves_known geo view written safe m shown image may).0 n) [
  | inl same ↦ inl (ap looks same)
  | inr one ↦ inr (looks_at views written sized one.0 n ((image_view geo image).inode n) one.1)
]

-- ---- what a stop leaves is what a loss of power may leave that loses nothing

all_chosen : {A : Type 0} (xs : List A) → xs ≡ chosen xs (replicate (length xs) true)
all_chosen [] = refl
all_chosen (x ∷ xs) = ap (λ l. x ∷ l) (all_chosen xs)

pub all_left : (m : Medium) → MayBeLeft m (image_of m)
all_left m = (replicate (length m.loose) true, ap (image_after m.durable) (all_chosen m.loose))
