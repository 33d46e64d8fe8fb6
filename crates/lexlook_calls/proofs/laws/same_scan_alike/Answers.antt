use Rattle.lexlook_calls.proofs.SameFiles.{same_scan_alike}
use Rattle.lexlook_calls.proofs.laws.same_scan_alike.Goals as goal

pub returns : goal.returns
returns c = same_scan_alike
