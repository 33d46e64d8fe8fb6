use Rattle.lexlook_specs.proofs.Turning as Turning
use Rattle.lexlook_specs.proofs.trace.laws.tells_runs.Goals as goal

pub returns : goal.returns
returns c = λ S sound. Turning.tells_runs S sound
