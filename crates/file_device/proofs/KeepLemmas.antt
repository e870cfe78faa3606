-- What is kept of a file stays a true copy, whatever the file answers and whatever is written.
use Rattle.std.proofs.Common.{◌≡◌, ℕ, true, false, List, [], ◌∷◌, ◌++◌, length, All, sym, ap, ap₂, ◌∙◌, subst, append-nil, set as slice_set}
use Rattle.std.proofs.lemmas.List.{append_assoc}
use Rattle.std.proofs.lemmas.List.Elements.{All-push, All-nil}
use Rattle.file_device.specs.declared.file.Call.{Call}
use Rattle.device.specs.MediaLaws.{image_after-push}
use Rattle.device.specs.Memory.{IsWriteTo}
use Rattle.device.specs.Writes.{Write, image_after}
use Rattle.file_device.specs.Calls.{Answered, AreHonest, calls_of, write_of, writes_of}
use Rattle.file_device.specs.Runs.{AreCopies, IsCopy, IsKeeping, IsUntouched, replaced}
use Rattle.file_device.proofs.CallLemmas.{honest-append, read_stands, writes_of-append, writes_of-reads, writes_of-writes}
use Rattle.file_device.proofs.RunLemmas.{push_copies, replaced_copies, written_copy}

-- nothing is kept
pub keeps_nothing : (image : List (List ℕ)) (kept earlier : List Write) → kept ≡ [] → earlier ≡ [] → IsKeeping image [] [] kept earlier
keeps_nothing image kept earlier none none' = record {
  whole = All-nil (IsWriteTo (length image));
  kept = λ h. subst (AreCopies image) (sym none) tt;
  earlier = λ h. subst (AreCopies image) (sym none') tt;
}

-- the reads gave what stood there
read_copies : (image : List (List ℕ)) (ws : List Write) → AreHonest image (calls_of false ws) → AreCopies image ws
read_copies image [] h = tt
read_copies image (w ∷ ws) h = ((λ l. h.0), read_copies image ws h.1)

-- ---- the file answered more, and all writes are the same

module _ (image : List (List ℕ)) (es es' more : List Answered) (ws ws' kept earlier : List Write) (goes_on : es' ≡ es ++ more) (same : writes_of es' ++ ws' ≡ writes_of es ++ ws) (k : IsKeeping image es ws kept earlier) where
  told : AreHonest image es' → AreHonest image es × AreHonest (image_after image (writes_of es)) more
  told h = honest-append image es more (subst (λ fs. AreHonest image fs) goes_on h)

  -- with other blocks kept
  keeps_others : (kept' earlier' : List Write) → (AreHonest image es' → AreCopies (image_after image (writes_of es ++ ws)) kept')
      → (AreHonest image es' → AreCopies (image_after image (writes_of es ++ ws)) earlier') → IsKeeping image es' ws' kept' earlier'
  keeps_others kept' earlier' copies copies' = record {
    whole = subst (All (IsWriteTo (length image))) (sym same) k.whole;
    kept = λ h. subst (λ vs. AreCopies (image_after image vs) kept') (sym same) (copies h);
    earlier = λ h. subst (λ vs. AreCopies (image_after image vs) earlier') (sym same) (copies' h);
  }

  -- with another run
  keeps_run : (kept' : List Write) → (AreHonest image es' → AreCopies (image_after image (writes_of es ++ ws)) kept') → IsKeeping image es' ws' kept' earlier
  keeps_run kept' copies = keeps_others kept' earlier copies (λ h. k.earlier (told h).0)

  -- with other single blocks
  keeps_singles : (earlier' : List Write) → (AreHonest image es' → AreCopies (image_after image (writes_of es ++ ws)) earlier → AreCopies (image_after image (writes_of es ++ ws)) earlier') → IsKeeping image es' ws' kept earlier'
  keeps_singles earlier' copies = keeps_others kept earlier' (λ h. k.kept (told h).0) (λ h. copies h (k.earlier (told h).0))

module _ (image : List (List ℕ)) (es es' : List Answered) (ws ws' kept earlier : List Write) (k : IsKeeping image es ws kept earlier) where
  -- the file was given what waited
  pub keeps_given : es' ≡ es ++ calls_of true ws → ws' ≡ [] → IsKeeping image es' ws' kept earlier
  keeps_given is none =
      keeps_singles image es es' (calls_of true ws) ws ws' kept earlier is
      (ap₂ (λ fs vs. writes_of fs ++ vs) is none ∙ append-nil (writes_of (es ++ calls_of true ws)) ∙ writes_of-append es (calls_of true ws) ∙ ap (λ vs. writes_of es ++ vs) (writes_of-writes ws)) k
      earlier (λ h copies. copies)

  -- the file gave blocks, which are kept
  pub keeps_read : (kept' : List Write) → es' ≡ es ++ calls_of false kept' → ws ≡ [] → ws' ≡ [] → IsKeeping image es' ws' kept' earlier
  keeps_read kept' is none none' =
      keeps_run image es es' (calls_of false kept') ws ws' kept earlier is
      (ap₂ (λ fs vs. writes_of fs ++ vs) is none' ∙ append-nil (writes_of (es ++ calls_of false kept')) ∙ writes_of-append es (calls_of false kept')
      ∙ ap (λ vs. writes_of es ++ vs) (writes_of-reads kept' ∙ sym none)) k kept'
      (λ h. subst (λ vs. AreCopies (image_after image vs) kept') (sym (ap (λ vs. writes_of es ++ vs) none ∙ append-nil (writes_of es)))
      (read_copies (image_after image (writes_of es)) kept' (honest-append image es (calls_of false kept') (subst (λ fs. AreHonest image fs) is h)).1))

  -- the file gave a block, for whose address none waits, and it is kept alone
  pub keeps_fetched : (a : ℕ) (block : List ℕ) (earlier' : List Write) → IsUntouched ws a → es' ≡ es ++ calls_of false ((a, block) ∷ [])
      → ((now : List (List ℕ)) → IsCopy now (a, block) → AreCopies now earlier → AreCopies now earlier') → IsKeeping image es' ws kept earlier'
  keeps_fetched a block earlier' clear is puts =
      keeps_singles image es es' (calls_of false ((a, block) ∷ [])) ws ws kept earlier is
      (ap (λ fs. writes_of fs ++ ws) is ∙ ap (λ vs. vs ++ ws) (writes_of-append es (calls_of false ((a, block) ∷ [])) ∙ append-nil (writes_of es))) k earlier'
      (λ h. puts (image_after image (writes_of es ++ ws)) (λ low. read_stands image es ws a block clear (subst (λ fs. AreHonest image fs) is h)))

  -- a call of the file is noted that writes nothing
  pub keeps_noted : (call : Call) (block : List ℕ) → write_of call block ≡ [] → es' ≡ es ++ (call, block) ∷ [] → IsKeeping image es' ws kept earlier
  keeps_noted call block none is =
      keeps_singles image es es' ((call, block) ∷ []) ws ws kept earlier is
      (ap (λ fs. writes_of fs ++ ws) is ∙ ap (λ vs. vs ++ ws) (writes_of-append es ((call, block) ∷ []) ∙ ap (λ vs. writes_of es ++ (vs ++ [])) none ∙ append-nil (writes_of es))) k earlier (λ h copies. copies)

  -- what is kept is let go
  pub lets_go : (kept' : List Write) → kept' ≡ [] → ws' ≡ ws → IsKeeping image es ws' kept' earlier
  lets_go kept' none same = record {
    whole = subst (λ vs. All (IsWriteTo (length image)) (writes_of es ++ vs)) (sym same) k.whole;
    kept = λ h. subst (λ vs. AreCopies (image_after image (writes_of es ++ ws')) vs) (sym none) tt;
    earlier = λ h. subst (λ vs. AreCopies (image_after image (writes_of es ++ vs)) earlier) (sym same) (k.earlier h);
  }

-- ---- a block was written

-- it waits alone
pub adds_started : (es : List Answered) (ws ws' : List Write) (w : Write) → ws ≡ [] → ws' ≡ w ∷ [] → writes_of es ++ ws' ≡ (writes_of es ++ ws) ++ w ∷ []
adds_started es ws ws' w none more = ap (λ vs. writes_of es ++ vs) more ∙ ap (λ vs. vs ++ w ∷ []) (sym (append-nil (writes_of es)) ∙ ap (λ vs. writes_of es ++ vs) (sym none))

module _ (image : List (List ℕ)) (es es' : List Answered) (ws ws' kept earlier : List Write) (a : ℕ) (block : List ℕ) (is : IsWriteTo (length image) (a, block)) (k : IsKeeping image es ws kept earlier) (before : AreHonest image es' → AreHonest image es) (written : writes_of es' ++ ws' ≡ (writes_of es ++ ws) ++ (a, block) ∷ []) where
  image_is : image_after image (writes_of es' ++ ws') ≡ slice_set (image_after image (writes_of es ++ ws)) a block
  image_is = ap (image_after image) written ∙ image_after-push image (writes_of es ++ ws) (a, block)

  -- with other blocks kept
  keeps_after : (kept' earlier' : List Write) → (AreHonest image es → AreCopies (slice_set (image_after image (writes_of es ++ ws)) a block) kept')
      → (AreHonest image es → AreCopies (slice_set (image_after image (writes_of es ++ ws)) a block) earlier') → IsKeeping image es' ws' kept' earlier'
  keeps_after kept' earlier' copies copies' = record {
    whole = subst (All (IsWriteTo (length image))) (sym written) (All-push (IsWriteTo (length image)) (writes_of es ++ ws) (a, block) k.whole is);
    kept = λ h. subst (λ now. AreCopies now kept') (sym image_is) (copies (before h));
    earlier = λ h. subst (λ now. AreCopies now earlier') (sym image_is) (copies' (before h));
  }

module _ (image : List (List ℕ)) (es : List Answered) (ws kept earlier : List Write) (a : ℕ) (block : List ℕ) (is : IsWriteTo (length image) (a, block)) (k : IsKeeping image es ws kept earlier) where
  abbrev now : List (List ℕ)
  now = image_after image (writes_of es ++ ws)

  -- behind those that wait
  pub keeps_pushed : (ws' kept' earlier' : List Write) → ws' ≡ ws ++ (a, block) ∷ [] → replaced a block kept ≡ kept → kept' ≡ kept ++ (a, block) ∷ [] → earlier' ≡ replaced a block earlier
      → IsKeeping image es ws' kept' earlier'
  keeps_pushed ws' kept' earlier' more others next next' =
      keeps_after image es es ws ws' kept earlier a block is k (λ h. h) (ap (λ vs. writes_of es ++ vs) more ∙ sym (append_assoc (writes_of es) ws ((a, block) ∷ []))) kept' earlier'
      (λ h. subst (AreCopies (slice_set now a block)) (sym next)
      (push_copies (slice_set now a block) kept (a, block) (subst (AreCopies (slice_set now a block)) others (replaced_copies now a block kept (k.kept h))) (written_copy now a block)))
      (λ h. subst (AreCopies (slice_set now a block)) (sym next') (replaced_copies now a block earlier (k.earlier h)))

  -- alone, where none waits
  pub keeps_started : (ws' kept' earlier' : List Write) → ws ≡ [] → ws' ≡ (a, block) ∷ [] → kept' ≡ (a, block) ∷ [] → earlier' ≡ replaced a block earlier → IsKeeping image es ws' kept' earlier'
  keeps_started ws' kept' earlier' none more next next' =
      keeps_after image es es ws ws' kept earlier a block is k (λ h. h)
      (adds_started es ws ws' (a, block) none more) kept' earlier'
      (λ h. subst (AreCopies (slice_set now a block)) (sym next) (written_copy now a block, tt))
      (λ h. subst (AreCopies (slice_set now a block)) (sym next') (replaced_copies now a block earlier (k.earlier h)))
