use Rattle.lexauto_positions.proofs.PositionsComputed as Computed
use Rattle.lexauto_positions.proofs.laws.examples_of_positions.Goals as goal

pub returns-clause-counts_positions : goal.returns-clause-counts_positions
returns-clause-counts_positions c = Computed.counts_positions

pub returns-clause-reads_bytes : goal.returns-clause-reads_bytes
returns-clause-reads_bytes c = Computed.reads_bytes

pub returns-clause-counts_subsets : goal.returns-clause-counts_subsets
returns-clause-counts_subsets c = Computed.counts_subsets
