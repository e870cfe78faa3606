-- The items of entries, one after another.
use Rattle.std.proofs.Common.{◌≡◌, ℕ, List, [], ◌∷◌, ◌++◌, map, sym, ap, ap₂, ◌∙◌}
use Rattle.std.proofs.lemmas.List.{append_assoc, map-append}
use Rattle.archives.specs.declared.entries.Entry.{Entry}
use Rattle.archives.specs.Entries.{view, views}
use Rattle.import_tree.specs.declared.items.Item.{Item}
use Rattle.import_tree.specs.Placing.{placed, shown}

pub placed_more : (path : List ℕ) (old items new : List Item) (item : Item) (entries : List Entry) (entry : Entry) → new ≡ items ++ item ∷ [] → shown item ≡ placed path (view entry)
    → map shown items ≡ map shown old ++ map (placed path) (views entries) → map shown new ≡ map shown old ++ map (placed path) (views (entries ++ entry ∷ []))
placed_more path old items new item entries entry more is before =
    ap (map shown) more ∙ map-append shown items (item ∷ []) ∙ ap₂ (λ xs x. xs ++ x ∷ []) before is
    ∙ append_assoc (map shown old) (map (placed path) (views entries)) (placed path (view entry) ∷ [])
    ∙ ap (λ xs. map shown old ++ xs) (sym (ap (map (placed path)) (map-append view entries (entry ∷ [])) ∙ map-append (placed path) (views entries) (view entry ∷ [])))
