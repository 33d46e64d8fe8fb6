use Rattle.std.proofs.Common.{◌≡◌, ◌++◌, drop, map}
use Rattle.lexlook_text.specs.DeclaredNames.{declared_name_of}
use Rattle.lexspec.specs.RuleViews.{rule_of}
use Rattle.lexspec_actions.specs.Views.{condition_of}
use Rattle.lexlook_check.specs.Copies.{copies_from}
use Rattle.lexlook_check.proofs.copies.copies_from.Given as goal

-- what was found, and what is found in the conditions from here on
abbrev pub invariant-loop-index : goal.invariant-loop-index
invariant-loop-index l =
    l.copies.items ++ copies_from (map rule_of l.rules) l.copied (map declared_name_of l.places) l.index (map condition_of (drop l.index l.conditions))
    ≡ copies_from (map rule_of l.rules) l.copied (map declared_name_of l.places) 0 (map condition_of l.conditions)
