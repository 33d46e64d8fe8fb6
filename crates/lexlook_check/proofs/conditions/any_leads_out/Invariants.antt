use Rattle.std.proofs.Common.{◌≡◌, drop, map}
use Rattle.std.specs.List.{list_any}
use Rattle.lexspec_actions.specs.Views.{statement_of}
use Rattle.lexlook_check.specs.Conditions.{leads_out}
use Rattle.lexlook_check.proofs.conditions.any_leads_out.Given as goal

abbrev pub invariant-loop-statement : goal.invariant-loop-statement
invariant-loop-statement l =
    list_any (leads_out l.number) (map statement_of (drop l.statement-index l.statements)) ≡ list_any (leads_out l.number) (map statement_of l.statements)
