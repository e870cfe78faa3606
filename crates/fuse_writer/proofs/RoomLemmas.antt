-- Room for files.
use Rattle.std.proofs.Common.{◌≡◌, ◌≤◌, ◌<◌, ◌+◌, [], ℕ, cond, leb, eq-eqb, refl, sym, ap, ◌∙◌}
use Rattle.std.proofs.lemmas.Bool.{le-leb, le-ltb, lt-leb, lt-ltb, ne_eqb}
use Rattle.frozen.specs.Kept.{Kept, frozen_view}
use Rattle.fuse_wire.specs.declared.errors.Errno.{Errno}
use Rattle.fuse_wire.specs.declared.errors.Errno.TheVariants as errors
use Rattle.fuse_wire.specs.declared.numbers.NodeId.{NodeId}
use Rattle.machine.specs.Command.{Truncate}
use Rattle.fuse_writer.specs.declared.granted.Rules.{Rules}
use Rattle.fuse_writer.specs.declared.session.Session.{Session}
use Rattle.fuse_writer.specs.Ahead.{touches}
use Rattle.fuse_writer.specs.Doings.{Asks, Doing, Notes, refuses, says_done}
use Rattle.fuse_writer.specs.Requests.{allocates, allocates_to, at_handle, at_node, fills_to, lengthens}

module _ (kept : Kept) (s : Session) (node : NodeId) (offset bytes mode : ℕ) where
  pub allocates_else : (mode ≡ 0 → ⊥) → allocates kept s node offset bytes mode ≡ refuses errors.NotSupported
  allocates_else apart =
      ap (λ b. cond b (at_node s node (λ i. at_handle s i (allocates_to kept s i (offset + bytes)))) (refuses errors.NotSupported)) (ne_eqb mode 0 apart)

  pub allocates_here : mode ≡ 0 → allocates kept s node offset bytes mode ≡ at_node s node (λ i. at_handle s i (allocates_to kept s i (offset + bytes)))
  allocates_here e = ap (λ b. cond b (at_node s node (λ i. at_handle s i (allocates_to kept s i (offset + bytes)))) (refuses errors.NotSupported)) (eq-eqb mode 0 e)

module _ (kept : Kept) (s : Session) (i end handle own : ℕ) (is : own ≡ ((frozen_view kept).inode i).size) where
  abbrev longer : ℕ → Doing
  longer size = lengthens s.rules handle size end (Notes [] (touches kept s i) says_done)

  pub room_far : 4294967296 ≤ end → allocates_to kept s i end handle ≡ refuses errors.TooBig
  room_far far =
      let size = ((frozen_view kept).inode i).size in
      ap (λ b. cond b (cond (leb end size) says_done (longer size)) (refuses errors.TooBig)) (le-ltb end 4294967296 far)

  near : end < 4294967296 → allocates_to kept s i end handle ≡ cond (leb end own) says_done (longer own)
  near small =
      let size = ((frozen_view kept).inode i).size in
      ap (λ b. cond b (cond (leb end size) says_done (longer size)) (refuses errors.TooBig)) (lt-ltb end 4294967296 small) ∙ ap (λ n. cond (leb end n) says_done (longer n)) (sym is)

  pub room_there : end < 4294967296 → end ≤ own → allocates_to kept s i end handle ≡ says_done
  room_there small within = near small ∙ ap (λ b. cond b says_done (longer own)) (le-leb end own within)

  pub room_made : end < 4294967296 → own < end → allocates_to kept s i end handle ≡ longer own
  room_made small beyond = near small ∙ ap (λ b. cond b says_done (longer own)) (lt-leb end own beyond)

pub lengthens_by : (rules : Rules) (handle own size : ℕ) (next : Doing)
    → lengthens rules handle own size next ≡ fills_to rules handle own size next (λ error. Asks (Truncate handle own) (λ reply. refuses error))
unfolding lengthens
lengthens_by rules handle own size next = refl
