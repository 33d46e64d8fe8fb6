-- The worked examples of texts without a cutting, computed.
use Rattle.std.proofs.Common.{refl}
use Rattle.lex_semantics.specs.ByteSets.{is_alpha, is_blank, is_digit}
use Rattle.lex_semantics.specs.Escapes.{simple_escape, octal_at, hexadecimal_at, until_quote}
use Rattle.lex_semantics.specs.Reading.{take_up_to}
use Rattle.lexre_bytes.specs.Lexical.{after_word, run_at, span, escape_at, class_name_at, enclosed_by, bracketed_at, range_at, element_at, elements_at, class_at}
use Rattle.lexre_bytes.specs.Unread.{left_by}
use Rattle.lexre.specs.Cutting.{piece_at}
use Rattle.lexre.specs.CuttingFaults.{fault_from}
use Rattle.lexre.specs.FaultExamples.{OneFault, TwoFaults, NoFault}

pub one_fault : OneFault
unfolding fault_from piece_at left_by after_word run_at span escape_at class_name_at enclosed_by bracketed_at range_at element_at elements_at class_at simple_escape octal_at hexadecimal_at until_quote take_up_to is_alpha is_blank is_digit
one_fault = (refl, refl, refl, refl, refl, refl, refl, refl, refl, refl, refl)

pub two_faults : TwoFaults
unfolding fault_from piece_at left_by after_word run_at span escape_at class_name_at enclosed_by bracketed_at range_at element_at elements_at class_at simple_escape octal_at hexadecimal_at until_quote take_up_to is_alpha is_blank is_digit
two_faults = (refl, refl, refl, refl)

pub no_fault : NoFault
unfolding fault_from piece_at left_by after_word run_at span escape_at class_name_at enclosed_by bracketed_at range_at element_at elements_at class_at simple_escape octal_at hexadecimal_at until_quote take_up_to is_alpha is_blank is_digit
no_fault = (refl, refl, refl)
