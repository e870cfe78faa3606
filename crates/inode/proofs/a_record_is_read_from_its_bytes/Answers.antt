use Rattle.inode.proofs.RecordBytes.{record_alone, record_chunk}
use Rattle.inode.proofs.a_record_is_read_from_its_bytes.Goals as goal

pub returns-clause-bytes : goal.returns-clause-bytes
returns-clause-bytes c = λ version block byte fits. record_alone version block byte

pub returns-clause-chunks : goal.returns-clause-chunks
returns-clause-chunks c = record_chunk
