use Rattle.lexkit.proofs.faults.write_words.Goals as goal

pub returns-in-File-clause-bytes : goal.returns-in-File-clause-bytes
returns-in-File-clause-bytes g c = rw c.in-File.is c.write_line-in-File.ensures.bytes
