use Rattle.std.proofs.Common.{arith}
use Rattle.layout.proofs.PutLemmas.{length-put}
use Rattle.inode.proofs.RecordBytes.{record_here, record_there, rest_stays}
use Rattle.inode.proofs.a_record_is_written_into_its_block.Goals as goal

pub returns-clause-length : goal.returns-clause-length
returns-clause-length c = λ block bytes byte long fits. length-put byte bytes block (omega (arith, long, fits))

pub returns-clause-written : goal.returns-clause-written
returns-clause-written c = λ version block bytes byte long fits. record_here block bytes byte long fits version

pub returns-clause-others : goal.returns-clause-others
returns-clause-others c = record_there

pub returns-clause-rest : goal.returns-clause-rest
returns-clause-rest c = λ from block bytes byte long fits. rest_stays block bytes byte long fits from
