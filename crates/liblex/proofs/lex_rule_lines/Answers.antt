use Rattle.std.proofs.Common.{rules, ◌≡◌, subst, w32, to_z, of_z}
use Rattle.liblex_calls.specs.Numbers.{number_of}
use Rattle.liblex_calls.specs.Listing.{TellsLines}
use Rattle.liblex.proofs.lex_rule_lines.Goals as goal

pub returns : goal.returns
returns c =
    let number : to_z w32 (of_z w32 c.number.result) ≡ number_of c.rule_lines_into.result = search rules in
    (c.rule_lines_into.result, number, subst (λ o. TellsLines o c.args.text.now c.args.buffer.now c.rule_lines_into.new.buffer c.rule_lines_into.new.count c.rule_lines_into.result) c.options_of.ensures c.rule_lines_into.ensures)
