-- A turn is what was said, and what is then known.
use Rattle.std.proofs.Common.{◌≡◌, ◌+◌, ℕ, zero, suc, Bool, true, false, cond, List, [], ◌∷◌, length, map, take, ◌%◌, ◌^◌, Option, Some, inl, inr, refl, sym, ap, subst, ◌∙◌, arith}
use Rattle.std.specs.Prelude.{◌⊎◌, slice_get}
use Rattle.std.proofs.lemmas.List.{length-set}
use Rattle.frozen.specs.Kept.{IsKeptOf, Kept, frozen_view}
use Rattle.fuse_wire.specs.declared.bodies.Body.TheVariants as bodies
use Rattle.fuse_wire.specs.declared.bodies.Statistics.{Statistics}
use Rattle.fuse_wire.specs.declared.errors.Errno.TheVariants as errors
use Rattle.fuse_wire.specs.declared.requests.Forget.{Forget}
use Rattle.fuse_wire.specs.declared.requests.Head.{Head}
use Rattle.fuse_wire.specs.declared.requests.Offer.{Offer}
use Rattle.fuse_wire.specs.declared.numbers.Handle.{Handle}
use Rattle.fuse_wire.specs.declared.numbers.Unique.{Unique}
use Rattle.fuse_wire.specs.Requests as asked
use Rattle.fuse_wire.specs.Requests.{Asked}
use Rattle.model.specs.Image.{image_view}
use Rattle.fuse_nodes.specs.Known.{Named, forgot, told_once}
use Rattle.fuse_nodes.specs.Runs.{after_all}
use Rattle.fuse_nodes.specs.Table.{Forgot, Table, Told, after, change, found, known}
use Rattle.fuse_reader.specs.declared.owner.Owner.{Owner}
use Rattle.fuse_reader.specs.Desks.{Failed, IsShown, IsTurn, KnowsAfter, NoMemory}
use Rattle.fuse_reader.specs.Said.{Said, Nothing, Refused, Says, spelled, told}
use Rattle.fuse_reader.specs.Shown.{room_of}
use Rattle.fuse_reader.specs.Turns.{agreed, answer, attributes_said, directory_opened, events_of, forgot_by, known_after, listed_said, looked_up, on_inode, opened_said, read_said, sized, taken, target_said, told_of}
use Rattle.fuse_reader.proofs.SameLemmas.{same_attributes_said, same_directory_opened, same_listed_said, same_looked_up, same_opened, same_room, same_told}

-- ---- the table

length_chosen : (b : Bool) (x y : Table) → length x ≡ length y → length (cond b x y) ≡ length y
length_chosen true x y e = e
length_chosen false x y e = refl

pub length_told : (i : ℕ) (name : Named) (t : Table) → length (after (Told i name) t) ≡ length t
length_told i name t = length-set t i (told_once name (known t i))

pub length_forgot : (id lookups : ℕ) (t : Table) → length (after (Forgot id lookups) t) ≡ length t
length_forgot id lookups t = length_chosen _ (change (forgot lookups) (id % 2 ^ 32) t) t (length-set t (id % 2 ^ 32) (forgot lookups (known t (id % 2 ^ 32))))

-- one more is forgotten
pub forgets_more : (forgets : List Forget) (t : Table) (n : ℕ) (forget : Forget) → slice_get forgets n ≡ Some forget
    → after_all (map forgot_by (take (n + 1) forgets)) t ≡ after (forgot_by forget) (after_all (map forgot_by (take n forgets)) t)
forgets_more [] t n forget e = absurd cc
forgets_more (first ∷ forgets) t zero forget e = let same : first ≡ forget = cc in ap (λ f. after (forgot_by f) t) same
forgets_more (first ∷ forgets) t (suc n) forget e =
    let next : suc n + 1 ≡ suc (n + 1) = omega arith in
    ap (λ k. after_all (map forgot_by (take k (first ∷ forgets))) t) next ∙ forgets_more forgets (after (forgot_by first) t) n forget e

-- ---- turns

abbrev pub read_as : Head → Asked → Option (Head × Asked)
read_as head asked = Some (head, asked)

abbrev request_of : Head → Asked → Head × Asked
request_of head asked = (head, asked)

-- a message is one request
pub of_read : (P : Head → Asked → Type 0) (front head : Head) (request asked : Asked) → read_as front request ≡ read_as head asked → P front request → P head asked
of_read P front head request asked e h =
    let same : request_of front request ≡ request_of head asked = cc in
    subst (λ x. P x asked) (ap (λ (p : Head × Asked). p.0) same) (subst (λ y. P front y) (ap (λ (p : Head × Asked). p.1) same) h)

module _ (kept : Kept) (image : List (List ℕ)) (owner : Owner) (t : Table) (head : Head) (failed : Type 0) (reply : List ℕ) where
  -- what the image shows is said, and nothing else is known
  pub shows : (request asked : Asked) (said : Said) → request ≡ asked → answer kept.geometry (image_view kept.geometry image) owner t head.node asked ≡ said
      → known_after kept.geometry (image_view kept.geometry image) head.node asked t ≡ t → reply ≡ spelled head.unique said
      → IsTurn kept image owner t head request failed reply t
  shows request asked said e shown known r =
      subst (λ a. IsTurn kept image owner t head a failed reply t) (sym e) (record { said = said; says = IsShown (sym shown); spells = r; nodes = inl (sym known) })

  -- and what it makes known
  pub shows_more : (request asked : Asked) (said : Said) (new : Table) → request ≡ asked → answer kept.geometry (image_view kept.geometry image) owner t head.node asked ≡ said
      → new ≡ known_after kept.geometry (image_view kept.geometry image) head.node asked t → reply ≡ spelled head.unique said
      → IsTurn kept image owner t head request failed reply new
  shows_more request asked said new e shown known r =
      subst (λ a. IsTurn kept image owner t head a failed reply new) (sym e) (record { said = said; says = IsShown (sym shown); spells = r; nodes = inl known })

  -- where there is no memory for another reply
  pub without_memory : (request : Asked) (new : Table) → KnowsAfter kept image t head.node request new → reply ≡ spelled head.unique (Refused errors.NoMemory)
      → IsTurn kept image owner t head request failed reply new
  without_memory request new (inl known) r = record { said = Refused errors.NoMemory; says = NoMemory refl; spells = r; nodes = inl known }
  without_memory request new (inr same) r = record { said = Refused errors.NoMemory; says = NoMemory refl; spells = r; nodes = inr (refl, same) }

  module _ (is : IsKeptOf kept image) (request : Asked) where
    pub lookup_turn : (name : List ℕ) (number : Option ℕ) (new : Table) → request ≡ asked.Lookup name → number ≡ found t head.node.0
        → reply ≡ spelled head.unique (on_inode (looked_up kept.geometry (frozen_view kept) owner t name) number)
        → new ≡ after_all (told_of kept.geometry (frozen_view kept) name number) t → IsTurn kept image owner t head request failed reply new
    unfolding answer events_of
    lookup_turn name number new e f r n =
        shows_more request (asked.Lookup name) _ new e (sym (same_looked_up kept image is owner t name (found t head.node.0)))
        (n ∙ ap (λ o. after_all (told_of kept.geometry (frozen_view kept) name o) t) f ∙ ap (λ events. after_all events t) (same_told kept image is name (found t head.node.0)))
        (r ∙ ap (λ o. spelled head.unique (on_inode (looked_up kept.geometry (frozen_view kept) owner t name) o)) f)

    -- where there is no memory to say it, the kernel may count as told
    pub lookup_known : (name : List ℕ) (number : Option ℕ) (new : Table) → request ≡ asked.Lookup name → number ≡ found t head.node.0
        → (new ≡ t) ⊎ (new ≡ after_all (told_of kept.geometry (frozen_view kept) name number) t) → KnowsAfter kept image t head.node request new
    unfolding events_of
    lookup_known name number new e f (inl same) = inr same
    lookup_known name number new e f (inr n) =
        inl (n ∙ ap (λ o. after_all (told_of kept.geometry (frozen_view kept) name o) t) f
        ∙ ap (λ events. after_all events t) (same_told kept image is name (found t head.node.0))
        ∙ ap (λ a. known_after kept.geometry (image_view kept.geometry image) head.node a t) (sym e))

    pub attributes_turn : (handle : Option Handle) (number : Option ℕ) → request ≡ asked.GetAttributes handle → number ≡ found t head.node.0
        → reply ≡ spelled head.unique (on_inode (attributes_said kept.geometry (frozen_view kept) owner) number) → IsTurn kept image owner t head request failed reply t
    unfolding answer events_of
    attributes_turn handle number e f r =
        shows request (asked.GetAttributes handle) _ e (sym (same_attributes_said kept image is owner (found t head.node.0))) refl
        (r ∙ ap (λ o. spelled head.unique (on_inode (attributes_said kept.geometry (frozen_view kept) owner) o)) f)

    pub open_turn : (flags : ℕ) (number : Option ℕ) → request ≡ asked.Open flags → number ≡ found t head.node.0
        → reply ≡ spelled head.unique (on_inode (opened_said kept.geometry (frozen_view kept) flags) number) → IsTurn kept image owner t head request failed reply t
    unfolding answer events_of
    open_turn flags number e f r =
        shows request (asked.Open flags) _ e (sym (same_opened kept image is flags (found t head.node.0))) refl
        (r ∙ ap (λ o. spelled head.unique (on_inode (opened_said kept.geometry (frozen_view kept) flags) o)) f)

    pub open_directory_turn : (flags : ℕ) (number : Option ℕ) → request ≡ asked.OpenDirectory flags → number ≡ found t head.node.0
        → reply ≡ spelled head.unique (on_inode (directory_opened kept.geometry (frozen_view kept)) number) → IsTurn kept image owner t head request failed reply t
    unfolding answer events_of
    open_directory_turn flags number e f r =
        shows request (asked.OpenDirectory flags) _ e (sym (same_directory_opened kept image is (found t head.node.0))) refl
        (r ∙ ap (λ o. spelled head.unique (on_inode (directory_opened kept.geometry (frozen_view kept)) o)) f)

    pub list_turn : (handle : Handle) (offset size : ℕ) (number : Option ℕ) → request ≡ asked.ReadDirectory handle offset size → number ≡ found t head.node.0
        → reply ≡ spelled head.unique (on_inode (λ d. sized size (listed_said kept.geometry (frozen_view kept) offset size d)) number)
        → IsTurn kept image owner t head request failed reply t
    unfolding answer events_of
    list_turn handle offset size number e f r =
        shows request (asked.ReadDirectory handle offset size) _ e (sym (same_listed_said kept image is offset size (found t head.node.0))) refl
        (r ∙ ap (λ o. spelled head.unique (on_inode (λ d. sized size (listed_said kept.geometry (frozen_view kept) offset size d)) o)) f)

    pub read_turn : (handle : Handle) (offset size : ℕ) (number : Option ℕ) → request ≡ asked.Read handle offset size → number ≡ found t head.node.0
        → Says head.unique (on_inode (λ i. sized size (read_said kept.geometry (image_view kept.geometry image) offset size i)) number) failed reply
        → IsTurn kept image owner t head request failed reply t
    unfolding answer events_of
    read_turn handle offset size number e f (inl r) =
        shows request (asked.Read handle offset size) _ e refl refl
        (r ∙ ap (λ o. spelled head.unique (on_inode (λ i. sized size (read_said kept.geometry (image_view kept.geometry image) offset size i)) o)) f)
    read_turn handle offset size number e f (inr h) =
        subst (λ a. IsTurn kept image owner t head a failed reply t) (sym e)
        (record { said = Refused errors.Device; says = Failed h.0 refl; spells = h.1; nodes = inl refl })

    pub link_turn : (number : Option ℕ) → request ≡ asked.ReadSymbolicLink → number ≡ found t head.node.0
        → Says head.unique (on_inode (target_said kept.geometry (image_view kept.geometry image)) number) failed reply → IsTurn kept image owner t head request failed reply t
    unfolding answer events_of
    link_turn number e f (inl r) =
        shows request asked.ReadSymbolicLink _ e refl refl (r ∙ ap (λ o. spelled head.unique (on_inode (target_said kept.geometry (image_view kept.geometry image)) o)) f)
    link_turn number e f (inr h) =
        subst (λ a. IsTurn kept image owner t head a failed reply t) (sym e)
        (record { said = Refused errors.Device; says = Failed h.0 refl; spells = h.1; nodes = inl refl })

    pub statistics_turn : (room : Statistics) → request ≡ asked.Statistics → room ≡ room_of kept.geometry (frozen_view kept)
        → reply ≡ spelled head.unique (told (bodies.Statistics room)) → IsTurn kept image owner t head request failed reply t
    unfolding answer events_of
    statistics_turn room e f r =
        shows request asked.Statistics _ e refl refl
        (r ∙ ap (λ (s : Statistics). spelled head.unique (told (bodies.Statistics s))) (f ∙ same_room kept image is))

    pub forget_turn : (lookups : ℕ) (new : Table) → request ≡ asked.Forgotten lookups → reply ≡ [] → new ≡ after (Forgot head.node.0 lookups) t
        → IsTurn kept image owner t head request failed reply new
    unfolding answer events_of
    forget_turn lookups new e r n = shows_more request (asked.Forgotten lookups) Nothing new e refl n r

    pub batch_forget_turn : (forgets : List Forget) (new : Table) → request ≡ asked.BatchForget forgets → reply ≡ [] → new ≡ after_all (map forgot_by forgets) t
        → IsTurn kept image owner t head request failed reply new
    unfolding answer events_of
    batch_forget_turn forgets new e r n = shows_more request (asked.BatchForget forgets) Nothing new e refl n r

    pub init_turn : (offer : Offer) → request ≡ asked.Init offer → reply ≡ spelled head.unique (agreed taken offer) → IsTurn kept image owner t head request failed reply t
    unfolding answer events_of
    init_turn offer e r = shows request (asked.Init offer) (agreed taken offer) e refl refl r

    pub interrupt_turn : (unique : Unique) → request ≡ asked.Interrupt unique → reply ≡ [] → IsTurn kept image owner t head request failed reply t
    unfolding answer events_of
    interrupt_turn unique e r = shows request (asked.Interrupt unique) Nothing e refl refl r
