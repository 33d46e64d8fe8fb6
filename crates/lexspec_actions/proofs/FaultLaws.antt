-- What statements may not do together is a fault of an action.
use Rattle.lexre_bytes.specs.declared.refusals.SpecErrorKind.{SpecErrorKind}
use Rattle.lexre_bytes.specs.declared.refusals.SpecErrorKind.TheVariants.{TooLong, LessAndMore, RejectCombination, NotLast}
use Rattle.lexspec_actions.specs.ActionFaults.{IsTogetherFault, IsActionFault}

pub together_fault_of_action : (kind : SpecErrorKind) → IsTogetherFault kind → IsActionFault kind
together_fault_of_action TooLong h = tt
together_fault_of_action LessAndMore h = tt
together_fault_of_action RejectCombination h = tt
together_fault_of_action NotLast h = tt
together_fault_of_action _ h = absurd h
