use Rattle.directories.proofs.WholeLemmas.{at_directory, at_other}
use Rattle.directories.proofs.whole_tables_have_every_directory.Goals as goal

pub returns-clause-directory : goal.returns-clause-directory
returns-clause-directory c = λ geo view first numbers table named every d t. at_directory geo view first numbers table named every d t

pub returns-clause-other : goal.returns-clause-other
returns-clause-other c = λ geo view first numbers table named d f. at_other geo view first numbers table named d f
