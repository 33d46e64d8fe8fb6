use Rattle.std.proofs.Common.{refl}
use Rattle.lextab_file.specs.Reading.{many, read_sizes, read_end, read_condition, read_cut, read_statement, read_rule, read_row, read_slot, read_table}
use Rattle.lextab_file.proofs.laws.examples_of_refusals.Goals as goal

pub returns-clause-headers : goal.returns-clause-headers
unfolding many read_sizes read_end read_condition read_cut read_statement read_rule read_row read_slot read_table
returns-clause-headers c = (refl, refl, refl, refl, refl, refl, refl, refl, refl, refl, refl, refl)

pub returns-clause-rules : goal.returns-clause-rules
unfolding many read_sizes read_end read_condition read_cut read_statement read_rule read_row read_slot read_table
returns-clause-rules c = (refl, refl, refl, refl, refl, refl, refl, refl, refl)

pub returns-clause-states : goal.returns-clause-states
unfolding many read_sizes read_end read_condition read_cut read_statement read_rule read_row read_slot read_table
returns-clause-states c = (refl, refl, refl, refl, refl, refl, refl, refl, refl, refl, refl, refl)

pub returns-clause-tags : goal.returns-clause-tags
unfolding many read_sizes read_end read_condition read_cut read_statement read_rule read_row read_slot read_table
returns-clause-tags c = (refl, refl, refl)

pub returns-clause-ends : goal.returns-clause-ends
unfolding many read_sizes read_end read_condition read_cut read_statement read_rule read_row read_slot read_table
returns-clause-ends c = (refl, refl, refl, refl, refl, refl)
