use Rattle.std.proofs.Common.{◌≡◌, ◌<◌, ◌≤◌, ◌-◌, ◌*◌, None, Some, min, IsTrue, sym, ap, ◌∙◌, subst, arith}
use Rattle.std.specs.Prelude.{ℕ}
use Rattle.model.specs.Layout.{is_number}
use Rattle.model.specs.Uses.{blocks_of, claim_at}
use Rattle.frozen.specs.Kept.{Kept, frozen_view}
use Rattle.live_holdings.specs.Handles.{handle_at}
use Rattle.live_holdings.proofs.Opened.{opened_number}
use Rattle.live_files.proofs.ReadLemmas.{claimed, of_data, reads, to_closed, to_end}
use Rattle.live_files.proofs.reading.reading_of.Goals as goal

pub returns-in_default-clause-refused : goal.returns-in_default-clause-refused
returns-in_default-clause-refused c = to_closed c.args.metadata.now c.args.holdings.now c.args.handle c.args.index (sym c.file_of.ensures ∙ c.in_default.is)

pub record-record-requires : goal.record-record-requires
record-record-requires c =
    subst (λ (k : Kept). IsTrue (is_number k.geometry c.in-Some.file)) (sym c.frozen-frozen.ensures.same)
    (opened_number c.args.metadata.now c.args.holdings.now c.requires c.args.handle c.in-Some.file (sym c.file_of.ensures ∙ c.in-Some.is))

pub returns-then-index-blocks-clause-refused : goal.returns-then-index-blocks-clause-refused
returns-then-index-blocks-clause-refused c =
    let blocks : c.blocks-2.result ≡ blocks_of ((frozen_view c.args.metadata.now).inode c.in-Some.file).size =
    c.blocks-2.ensures ∙ ap (λ i. blocks_of i.size) (c.record-record.ensures ∙ ap (λ (k : Kept). (frozen_view k).inode c.in-Some.file) c.frozen-frozen.ensures.same) in
    to_end c.args.metadata.now c.args.holdings.now c.args.handle c.args.index c.in-Some.file (sym c.file_of.ensures ∙ c.in-Some.is)
    (subst (λ n. n ≤ c.args.index) blocks c.if-index-blocks.true)

pub unreachable-requires : goal.unreachable-requires
unreachable-requires c =
    let blocks : c.blocks-2.result ≡ blocks_of ((frozen_view c.args.metadata.now).inode c.in-Some.file).size =
    c.blocks-2.ensures ∙ ap (λ i. blocks_of i.size) (c.record-record.ensures ∙ ap (λ (k : Kept). (frozen_view k).inode c.in-Some.file) c.frozen-frozen.ensures.same) in
    let keeps = c.frozen-frozen.ensures.metadata in
    claimed c.args.metadata.now c.args.holdings.now keeps c.requires c.args.handle c.in-Some.file (sym c.file_of.ensures ∙ c.in-Some.is) c.args.index
    (subst (λ n. c.args.index < n) blocks c.if-index-blocks.false)
    (ap (λ (k : Kept). claim_at k.geometry (frozen_view k) c.in-Some.file c.args.index) (sym c.frozen-frozen.ensures.same) ∙ sym c.claim_at.ensures ∙ c.in_default-claim_at.is)

pub returns-clause-block : goal.returns-clause-block
returns-clause-block c =
    let keeps = c.frozen-frozen.ensures.metadata in (
      of_data c.args.metadata.now c.args.holdings.now keeps c.requires c.args.handle c.in-Some.file (sym c.file_of.ensures ∙ c.in-Some.is) c.args.index c.in-Some-claim_at.block
          (ap (λ (k : Kept). claim_at k.geometry (frozen_view k) c.in-Some.file c.args.index) (sym c.frozen-frozen.ensures.same) ∙ sym c.claim_at.ensures ∙ c.in-Some-claim_at.is),
      omega (arith, c.min.ensures),
    )

pub returns-clause-reads : goal.returns-clause-reads
returns-clause-reads c = λ bytes whole.
    let inode = c.record-record.ensures ∙ ap (λ (k : Kept). (frozen_view k).inode c.in-Some.file) c.frozen-frozen.ensures.same in
    let keeps = c.frozen-frozen.ensures.metadata in
    reads c.args.metadata.now c.args.holdings.now c.args.handle c.args.index c.in-Some.file (sym c.file_of.ensures ∙ c.in-Some.is) keeps
    (subst (λ n. c.args.index < n) (c.blocks-2.ensures ∙ ap (λ i. blocks_of i.size) inode) c.if-index-blocks.false) c.in-Some-claim_at.block
    (ap (λ (k : Kept). claim_at k.geometry (frozen_view k) c.in-Some.file c.args.index) (sym c.frozen-frozen.ensures.same) ∙ sym c.claim_at.ensures ∙ c.in-Some-claim_at.is)
    bytes whole c.min.result (c.min.ensures ∙ ap (λ n. min (n - 1024 * c.args.index) 1024) (ap (λ r. r.size) (c.record.view_is ∙ inode)))
