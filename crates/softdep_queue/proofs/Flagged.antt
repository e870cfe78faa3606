-- Nodes of which one has another flag.
use Rattle.std.proofs.Common.{◌≡◌, ℕ, ◌<◌, Bool, List, [], inl, inr, refl, sym, ap, ◌∙◌, length, slice_set, get_or-set_same, get_or-set_other}
use Rattle.std.proofs.lemmas.Bool.{cases_eq}
use Rattle.std.proofs.lemmas.List.{length-set}
use Rattle.softdep_queue.specs.declared.table.Node.{Node}
use Rattle.softdep_queue.specs.Ties.{node_at}

-- a number's node has this flag, and nothing else has changed
abbrev pub IsFlagged : List Node → List Node → ℕ → Bool → Type 0
IsFlagged ns ms number flag = (ms ≡ slice_set ns number (record (node_at ns number) { taken = flag })) × (number < length ns)

module _ (ns ms : List Node) (number : ℕ) (flag : Bool) (is : IsFlagged ns ms number flag) where
  pub flagged_node : node_at ms number ≡ record (node_at ns number) { taken = flag }
  flagged_node = ap (λ l. node_at l number) is.0 ∙ get_or-set_same ns number (record (node_at ns number) { taken = flag }) (node_at [] 0) is.1

  pub other_node : (i : ℕ) → (i ≡ number → ⊥) → node_at ms i ≡ node_at ns i
  other_node i d = ap (λ l. node_at l i) is.0 ∙ get_or-set_other ns number i (record (node_at ns number) { taken = flag }) (node_at [] 0) d

  -- what does not tell of the flag is the same of each node
  pub same_of : {A : Type 0} (f : Node → A) → ((x : Node) → f (record x { taken = flag }) ≡ f x) → (i : ℕ) → f (node_at ms i) ≡ f (node_at ns i)
  same_of f blind i = elim (cases_eq i number) [
    | inl d ↦ ap (λ j. f (node_at ms j)) d ∙ ap f flagged_node ∙ blind (node_at ns number) ∙ ap (λ j. f (node_at ns j)) (sym d)
    | inr d ↦ ap f (other_node i d)
  ]

  pub same_update : (i : ℕ) → (node_at ms i).update ≡ (node_at ns i).update
  same_update i = same_of (λ (x : Node). x.update) (λ x. refl) i

  pub same_chain : (i : ℕ) → (node_at ms i).waiters ≡ (node_at ns i).waiters
  same_chain i = same_of (λ (x : Node). x.waiters) (λ x. refl) i

  pub same_home : (i : ℕ) → (node_at ms i).home ≡ (node_at ns i).home
  same_home i = same_of (λ (x : Node). x.home) (λ x. refl) i

  pub same_waiting : (i : ℕ) → (node_at ms i).waiting ≡ (node_at ns i).waiting
  same_waiting i = same_of (λ (x : Node). x.waiting) (λ x. refl) i

  pub same_count : length ms ≡ length ns
  same_count = ap length is.0 ∙ length-set ns number (record (node_at ns number) { taken = flag })
