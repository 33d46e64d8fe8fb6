use Rattle.lexlook_counts.proofs.Rejecting.{gives_up_rejected}
use Rattle.lexlook_counts.proofs.laws.gives_up_rejected.Goals as goal

pub returns : goal.returns
returns c S sound = gives_up_rejected S sound
