use Rattle.std.proofs.Common.{◌∙◌, ◌++◌, ap, map}
use Rattle.lexlook_specs.proofs.Joining.{more_in_range}
use Rattle.lexlook_calls.specs.Headers.{first_called, number_line}
use Rattle.lexlook_calls.proofs.header.add_numbers.Goals as goal

pub loop-rule-preserved : goal.loop-rule-preserved
loop-rule-preserved c =
    more_in_range (λ i. number_line (first_called (map (λ n. n.items) c.args.names.now) i)) _ _ _ c.loop-rule.rule c.loop-rule.invariant
    (c.in_ok-add_number_line.ensures ∙ ap (λ n. c.loop-rule.text.items ++ number_line n) c.first_called.ensures)
