-- The worked examples of lines, computed.
use Rattle.std.proofs.Common.{refl}
use Rattle.lex_semantics.specs.ByteSets.{is_alpha, is_upper, is_lower, is_alnum, is_blank, is_digit}
use Rattle.lex_semantics.specs.Reading.{take_up_to}
use Rattle.lexre_bytes.specs.Lexical.{name_at}
use Rattle.lexspec_lines.specs.Lines.{after_block}
use Rattle.lexspec_lines.specs.DefinitionLines.{definition_at, definition_in, percent_line}
use Rattle.lexspec_lines.specs.LineExamples.{ReturnsDropped, BlanksTrimmed, DollarAnchors, Declares, Defines, NoDefinitions, Block, Ignored}

pub returns_dropped : ReturnsDropped
returns_dropped = refl

pub blanks_trimmed : BlanksTrimmed
unfolding take_up_to is_blank
blanks_trimmed = (refl, refl)

pub dollar_anchors : DollarAnchors
dollar_anchors = (refl, refl, refl)

pub conditions_declared : Declares
unfolding definition_at percent_line take_up_to is_alpha is_upper is_lower is_alnum is_blank is_digit
conditions_declared = (refl, refl)

pub name_defined : Defines
unfolding definition_at definition_in name_at take_up_to is_alpha is_upper is_lower is_alnum is_blank is_digit
name_defined = refl

pub no_definitions : NoDefinitions
unfolding definition_at definition_in percent_line name_at take_up_to is_alpha is_upper is_lower is_alnum is_blank is_digit
no_definitions = (refl, refl, refl, refl, refl)

pub block_skipped : Block
unfolding definition_at after_block take_up_to is_blank
block_skipped = refl

pub lines_ignored : Ignored
unfolding definition_at take_up_to is_blank
lines_ignored = (refl, refl, refl)
