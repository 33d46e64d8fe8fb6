use Rattle.std.proofs.Common.{◌-◌, length}
use Rattle.lexlook_check.specs.Finding.{max_faults}
use Rattle.lexlook_check.proofs.Chains.{LeadsTo}
use Rattle.lexlook_check.proofs.finding.find_faults.Given as goal

abbrev pub invariant-faults : goal.invariant-faults
invariant-faults g l = LeadsTo (g.R.SpecReader.reads l.reader) l.text l.left.items l.faults.items

abbrev pub decreases-faults : goal.decreases-faults
decreases-faults g l = max_faults - length l.faults.items
