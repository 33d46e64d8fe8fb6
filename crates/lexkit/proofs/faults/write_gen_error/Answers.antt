use Rattle.lexkit.proofs.faults.write_gen_error.Goals as goal

pub returns-in-Spec-clause-bytes : goal.returns-in-Spec-clause-bytes
returns-in-Spec-clause-bytes g c = rw c.in-Spec.is c.write_spec_error.ensures.bytes
