-- One group more is joined.
use Rattle.std.proofs.Common.{◌≡◌, ◌++◌, ◌∷◌, [], ◌+◌, ◌*◌, ℕ, Some, length, slice_get, inl, inr, sym, ap, ◌∙◌, arith, append_assoc, length-append}
use Rattle.std.proofs.lemmas.Bool.{cases_lt}
use Rattle.std.proofs.lemmas.List.{length_push}
use Rattle.std.proofs.lemmas.Result.{err_from_is_err_and}
use Rattle.model.specs.Layout.{group_block}
use Rattle.model.proofs.ImageLemmas.{is_block}
use Rattle.frozen.specs.Shared.{shared_blocks}
use Rattle.frozen.proofs.LoadLemmas.{all_kept}
use Rattle.loaders.proofs.FrameLemmas.{next_at}
use Rattle.loaders.proofs.by_workers.joined.Goals as goal

pub returns-in_err-header-clause-refused : goal.returns-in_err-header-clause-refused
returns-in_err-header-clause-refused c =
    let p = err_from_is_err_and c.from_residual-in_err-header.result c.from_residual-in_err-header.ensures.1 in
    let inv = c.loop-header.invariant in
    let whole = ap (λ es. c.loop-header.yielded ++ es) (sym c.in-Some.ensures.steps.0) ∙ inv.rest in
    rw (p.1, p.2)
    (inr record {
      group = c.loop-header.group;
      refused = next_at c.loop-header.yielded c.in-Some.header c.next.new.self.rest.items c.args.headers.items c.loop-header.group whole inv.group ∙ ap Some c.in_err-header.was;
      before = inv.ok;
    })

pub add_group-requires-clause-header : goal.add_group-requires-clause-header
add_group-requires-clause-header c =
    let inv = c.loop-header.invariant in
    let whole = ap (λ es. c.loop-header.yielded ++ es) (sym c.in-Some.ensures.steps.0) ∙ inv.rest in
    c.requires.read c.loop-header.group c.in_ok-header.field-0
    (next_at c.loop-header.yielded c.in-Some.header c.next.new.self.rest.items c.args.headers.items c.loop-header.group whole inv.group ∙ ap Some c.in_ok-header.was)

pub loop-header-preserved : goal.loop-header-preserved
loop-header-preserved c =
    let inv = c.loop-header.invariant in
    let whole = ap (λ es. c.loop-header.yielded ++ es) (sym c.in-Some.ensures.steps.0) ∙ inv.rest in
    let at = next_at c.loop-header.yielded c.in-Some.header c.next.new.self.rest.items c.args.headers.items c.loop-header.group whole inv.group ∙ ap Some c.in_ok-header.was in
    record {
      rest = append_assoc c.loop-header.yielded (c.in-Some.header ∷ []) c.next.new.self.rest.items ∙ whole;
      group = omega (arith, length_push c.loop-header.yielded c.in-Some.header, inv.group);
      kept = c.in_ok-add_group.ensures.kept c.args.first.now inv.kept;
      told = λ image of. c.in_ok-add_group.ensures.told image inv.kept.count (of c.loop-header.group c.in_ok-header.field-0 at) (inv.told image of);
      ok = λ g low. elim (cases_lt g c.loop-header.group) [
        | inl before ↦ inv.ok g before
        | inr past ↦
            let same : g ≡ c.loop-header.group = omega (arith, low, past) in
            (c.in_ok-header.field-0, ap (slice_get c.args.headers.items) same ∙ at)
      ];
    }

pub returns-clause-kept : goal.returns-clause-kept
returns-clause-kept c =
    let geo = c.args.geometry.now in
    let inv = c.loop-header.invariant in
    let all : c.loop-header.group ≡ geo.groups =
    omega (arith, inv.group, ap length inv.rest, length-append c.loop-header.yielded c.loop-header.header-iterator.rest.items, c.in-None.ensures.steps.0, c.loop-header.header-iterator.rest.ok.0, c.requires.count) in
    all_kept geo c.blocks-2.ensures.geometry c.args.first.now (shared_blocks c.loop-header.blocks.items) (group_block geo c.loop-header.group) inv.kept
    (ap (λ (n : ℕ). 1 + n * geo.blocks) all) c.requires.first (is_block c.args.first.now c.told-first c.fits-first)
