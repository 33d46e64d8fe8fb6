use Rattle.lexauto_positions.proofs.Glushkov.{glushkov}
use Rattle.lexauto_positions.proofs.laws.position_automaton.Goals as goal

pub returns : goal.returns
returns c = λ t base rs. (let d = glushkov t base in (λ h. d.sound rs h, λ h. d.complete rs h))
