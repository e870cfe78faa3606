use Rattle.std.proofs.Common.{◌≡◌, ◌<◌, ℕ, length, drop, slice_index, inl, ap, ◌∙◌, arith}
use Rattle.std.proofs.lemmas.List.{length-take-le, length-drop}
use Rattle.layout.proofs.PutLemmas.{put_apart}
use Rattle.inode.proofs.RecordBytes.{part_put, attributes_put, words_put}
use borrow.Rule.Slice.PartMut.{put_mid}
use Rattle.inode.proofs.write_attributes.Goals as goal

pub returns-clause-read : goal.returns-clause-read
returns-clause-read c = λ version inode before.
    let bytes = c.args.bytes.now in
    let part = c.write_u32_into.new.dst in
    let size : length part ≡ 64 = c.write_u32_into.auto.dst ∙ length-take-le 64 (drop 64 bytes) (omega (arith, length-drop 64 bytes, c.told-bytes)) in
    attributes_put version inode c.args.words.now bytes (put_mid 64 64 bytes part)
    (λ k low. ap (λ xs. slice_index xs k) (part_put 64 64 bytes part size) ∙ put_apart 64 part bytes (omega (arith, size, c.told-bytes)) k (inl low))
    (words_put c.args.words.now bytes part c.told-bytes c.told-words c.fits-words c.write_u32_into.ensures) before

pub returns-clause-rest : goal.returns-clause-rest
returns-clause-rest c = λ k low.
    let bytes = c.args.bytes.now in
    let part = c.write_u32_into.new.dst in
    let size : length part ≡ 64 = c.write_u32_into.auto.dst ∙ length-take-le 64 (drop 64 bytes) (omega (arith, length-drop 64 bytes, c.told-bytes)) in
    ap (λ xs. slice_index xs k) (part_put 64 64 bytes part size) ∙ put_apart 64 part bytes (omega (arith, size, c.told-bytes)) k (inl low)
