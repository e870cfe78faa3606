-- A new directory leaves the files as they were.
use Rattle.std.proofs.Common.{◌≡◌, ◌+◌, ℕ, false, List, refl, sym, ◌∙◌, subst, IsTrue, None}
use Rattle.std.proofs.lemmas.Bool.{both_ways}
use Rattle.model.specs.Layout.{Geometry, IsGeometry}
use Rattle.model.specs.View.{View}
use Rattle.model.specs.Cells.{SetBytes, updated}
use Rattle.model.specs.Uses.{is_sound_at}
use Rattle.model.proofs.Places.{put_there}
use Rattle.machine.specs.State.{State}
use Rattle.machine.specs.Command.{Mkdir}
use Rattle.machine.specs.Paths.{holder, name_in}
use Rattle.machine.specs.Room.{is_full}
use Rattle.machine.specs.Causes.{refusal_of}
use Rattle.machine.specs.Effects.{MakesDirectory, new_directory, with_links}
use Rattle.machine.specs.Balance.{Balance, Owes}
use Rattle.machine.specs.Files.{IsFile}
use Rattle.machine.proofs.Holders.{IsNewPlace}
use Rattle.machine.proofs.NewFile.{unsound_at}
use Rattle.machine.proofs.OtherLinks.{other_links}
use Rattle.machine.proofs.GraftCount.{came_of}
use Rattle.machine.proofs.SameFiles.{SameFile, then_file, record_file, block_file, same_directory}
use Rattle.machine.proofs.FileStays.{apart_from}
use Rattle.machine.proofs.EntersFile.{entered_file}
use Rattle.machine.proofs.NewDirectories.{w, dir, l2, d_second, not_full', mkdir_allows}

module _ (geo : Geometry) (g : IsGeometry geo) (old new : State) (b : Balance geo old) (p words : List ℕ) (i : ℕ) (c : MakesDirectory geo old p words i new) where
  abbrev v : View
  v = old.view

  abbrev d : ℕ
  d = holder geo v p

  module _ (at : IsNewPlace geo v p) (not_full : is_full geo v d ≡ false) (j : ℕ) (is : IsFile geo v j) where
    -- a file's number is not free
    no_number : j ≡ i → ⊥
    no_number e = both_ways (is_sound_at geo v i) (unsound_at geo v b.rules i c.free) (subst (λ q. IsTrue (is_sound_at geo v q)) e is.0)

    -- with the bytes of the new block, and with the record too
    abbrev stored : View
    stored = updated v (SetBytes c.block c.bytes)

    abbrev made : View
    made = w geo g old new b p words i c at

    -- the file before the directory has its entry, and with it
    nameless : SameFile geo v made j
    nameless = then_file geo v stored made j
        (block_file geo v c.block c.bytes j c.free_block.address (λ q e. both_ways (v.block_marked c.block) c.free_block.unmarked (b.rules.rule3.marked j q c.block e)))
        (record_file geo stored made j
        (sym (put_there (other_links geo v d ((v.inode d).links + 1)).inode i j (new_directory c.block words) no_number
        ∙ put_there v.inode d j (with_links (v.inode d) ((v.inode d).links + 1)) (apart_from geo v j d is.1 (dir geo g old new b p words i c at)))) refl)

    made_file : SameFile geo v c.view j
    made_file =
        then_file geo v made c.view j nameless
        (entered_file geo g (Owes geo old) (came_of d i) (record old { view = made }) (l2 geo g old new b p words i c at) d i (name_in p) c.view c.enters
        (d_second geo g old new b p words i c at) (not_full' geo g old new b p words i c at not_full) j (sym (same_directory geo v made j nameless) ∙ is.1))

  pub mkdir_files : refusal_of geo old (Mkdir p words) ≡ None → (j : ℕ) → IsFile geo v j → SameFile geo v new.view j
  mkdir_files none j is = subst (λ (t : State). SameFile geo v t.view j) (sym c.whole) (mkdir_allows geo g old new b p words i c none (λ at not_full. made_file at not_full j is))
