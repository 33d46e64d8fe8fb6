use Rattle.lexspec.proofs.ComputedSections as Section
use Rattle.lexspec.proofs.ComputedSpecs as File
use Rattle.lexspec.proofs.RefusedSpecs as Refused
use Rattle.lexspec.proofs.laws.examples_of_specs.Goals as goal

pub returns-clause-whole : goal.returns-clause-whole
returns-clause-whole c = File.whole

pub returns-clause-skipped : goal.returns-clause-skipped
returns-clause-skipped c = Section.whole_skips

pub returns-clause-short : goal.returns-clause-short
returns-clause-short c = File.short

pub returns-clause-key : goal.returns-clause-key
returns-clause-key c = File.key_read

pub returns-clause-none : goal.returns-clause-none
returns-clause-none c = Refused.none
