use Rattle.std.proofs.Common.{◌≡◌, ◌<◌, ◌≤◌, ◌+◌, ◌⊎◌, length, drop, slice_index, ap, sym, subst, ◌∙◌, arith}
use Rattle.std.proofs.lemmas.List.{length-take-le, length-drop}
use Rattle.layout.proofs.PutLemmas.{put_apart}
use Rattle.inode.proofs.RecordBytes.{pointers_put, part_put}
use Rattle.inode.proofs.write_direct.Goals as goal

pub returns-clause-read : goal.returns-clause-read
returns-clause-read c = pointers_put c.args.pointers.now c.args.bytes.now c.write_u32_into.new.dst c.told-bytes c.told-pointers c.fits-pointers c.write_u32_into.ensures

pub returns-clause-rest : goal.returns-clause-rest
returns-clause-rest c = λ k apart.
    let bytes = c.args.bytes.now in
    let part = c.write_u32_into.new.dst in
    let size : length part ≡ 48 = c.write_u32_into.auto.dst ∙ length-take-le 48 (drop 8 bytes) (omega (arith, length-drop 8 bytes, c.told-bytes)) in
    ap (λ xs. slice_index xs k) (part_put 8 48 bytes part size) ∙ put_apart 8 part bytes (omega (arith, size, c.told-bytes)) k
    (subst (λ n. (k < 8) ⊎ (8 + n ≤ k)) (sym size) apart)
