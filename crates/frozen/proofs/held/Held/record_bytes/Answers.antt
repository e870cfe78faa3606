use Rattle.std.proofs.Common.{rules, ◌∙◌, ◌/◌, ◌%◌, sym, ap, length, slice_index_or, []}
use Rattle.std.proofs.lemmas.Bool.{cond-true}
use Rattle.model.specs.Layout.{inode_block, inode_byte, is_number}
use Rattle.model.specs.View.{inode_at, free_inode}
use Rattle.frozen.specs.Kept.{kept_bytes}
use Rattle.frozen.proofs.held.Held.record_bytes.Goals as goal

pub returns : goal.returns
returns c =
    let kept = c.args.self.now in
    let block = c.records_of.result.now in
    ap (λ chunks. inode_at kept.geometry.version (slice_index_or chunks (c.args.number % 8) []) 0) c.as_chunks.ensures.front
    ∙ c.a_record_is_read_from_its_bytes.ensures.chunks kept.geometry.version block (length block / 128) (c.args.number % 8) [] (search rules)
    ∙ ap (λ b. inode_at kept.geometry.version b (inode_byte c.args.number)) c.records_of.ensures
    ∙ sym (cond-true (is_number kept.geometry c.args.number) (inode_at kept.geometry.version (kept_bytes kept.blocks (inode_block kept.geometry c.args.number)) (inode_byte c.args.number)) free_inode c.requires)
