use Rattle.lexauto_dfa.proofs.Machinery.{sound_machine_laws}
use Rattle.lexauto_dfa.proofs.laws.automata_are_machines.Goals as goal

pub returns : goal.returns
returns c = λ d S sound known. sound_machine_laws d.parts d.lawful S sound known
