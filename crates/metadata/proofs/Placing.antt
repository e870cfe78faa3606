-- One more change in staged blocks: into the block of its address, or into one more.
use Rattle.std.proofs.Common.{◌≡◌, ◌<◌, ℕ, List, [], ◌∷◌, ◌++◌, Some, map, length, replicate, unwrap_or, slice_index_or, set as slice_set, sym, ap, ◌∙◌, subst}
use Rattle.std.proofs.lemmas.List.Elements.{All-push, All-set}
use Rattle.std.specs.Arc.{arc_value}
use Rattle.model.specs.Cells.{Update}
use Rattle.model.specs.Image.{IsBlock}
use Rattle.model.specs.Layout.{Geometry, block_count}
use Rattle.ordering.specs.Cuts.{cell_of}
use Rattle.queue_model.specs.Blocks.{home_of}
use Rattle.updates.specs.Alone.{IsPutInto}
use Rattle.frozen.specs.Installed.{FitsAt, FitsIn, standing, with_block, with_blocks}
use Rattle.frozen.specs.Kept.{Kept, KeepsFrame, kept_at}
use Rattle.frozen.specs.declared.frozen.Placed.{Placed}
use Rattle.metadata.specs.Staged.{HasChange, IsLastAt, NoneAt}
use Rattle.metadata.proofs.Steps.{last_at, none_at, replaced, with_more}

module _ (kept : Kept) (u : Update) (ps : List Placed) (p : Placed) (frame : KeepsFrame kept) (geo : Geometry) (same : geo ≡ kept.geometry)
    (a : ℕ) (home : a ≡ home_of geo (cell_of u)) (not_super : 0 < a) (on_volume : a < block_count geo) (whole : IsBlock (arc_value p.block)) where
  abbrev h : ℕ
  h = home_of kept.geometry (cell_of u)

  here : a ≡ h
  here = home ∙ ap (λ (g : Geometry). home_of g (cell_of u)) same

  behind : 0 < h
  behind = subst (λ n. 0 < n) here not_super

  low : h < block_count kept.geometry
  low = subst (λ n. n < block_count kept.geometry) here (subst (λ (g : Geometry). a < block_count g) same on_volume)

  abbrev all : Kept
  all = with_blocks kept (map standing ps)

  -- none was to stand there
  pub has_first : p.address ≡ a → NoneAt ps a → IsPutInto kept.geometry u (unwrap_or (kept_at kept.blocks a) (replicate 1024 0)) (arc_value p.block) → HasChange kept u ps (ps ++ p ∷ [])
  has_first at none put = record {
    frame = frame;
    bytes = arc_value p.block;
    behind = behind;
    low = low;
    whole = whole;
    put = subst (λ n. IsPutInto kept.geometry u (unwrap_or (kept_at all.blocks n) (replicate 1024 0)) (arc_value p.block)) here
        (subst (λ o. IsPutInto kept.geometry u (unwrap_or o (replicate 1024 0)) (arc_value p.block)) (sym (none_at ps kept a none)) put);
    then = with_more kept ps p ∙ ap (λ n. with_block all n (arc_value p.block)) (at ∙ here);
    each = λ fits ones. All-push (FitsIn kept.geometry) ps p ones (subst (λ n. FitsAt kept.geometry n (arc_value p.block)) (sym (at ∙ here)) fits);
  }

  -- this one was
  pub has_again : (k : ℕ) (q : Placed) → q ≡ slice_index_or ps k q → p.address ≡ q.address → IsLastAt ps a k → IsPutInto geo u (arc_value q.block) (arc_value p.block)
      → HasChange kept u ps (slice_set ps k p)
  has_again k q there alike last put =
      let at : p.address ≡ a = alike ∙ ap (λ (x : Placed). x.address) there ∙ last.here q in
      record {
        frame = frame;
        bytes = arc_value p.block;
        behind = behind;
        low = low;
        whole = whole;
        put = subst (λ n. IsPutInto kept.geometry u (unwrap_or (kept_at all.blocks n) (replicate 1024 0)) (arc_value p.block)) here
            (subst (λ o. IsPutInto kept.geometry u (unwrap_or o (replicate 1024 0)) (arc_value p.block))
            (sym (last_at ps kept a k last (subst (λ n. n < length kept.blocks) (sym here) (subst (λ n. h < n) (sym frame.count) low)) q ∙ ap (λ (x : Placed). Some (arc_value x.block)) (sym there)))
            (subst (λ (g : Geometry). IsPutInto g u (arc_value q.block) (arc_value p.block)) same put));
        then = replaced kept ps k p (subst (λ n. IsLastAt ps n k) (sym at) last) ∙ ap (λ n. with_block all n (arc_value p.block)) (at ∙ here);
        each = λ fits ones. All-set (FitsIn kept.geometry) ps k p (subst (λ n. FitsAt kept.geometry n (arc_value p.block)) (sym (at ∙ here)) fits) ones;
      }
