-- The test of each character class. (POSIX, Base Definitions, LC_CTYPE.)
use Rattle.std.specs.Prelude.{ℕ, Bool}
use Rattle.lex_semantics.specs.ByteSets.{is_upper, is_lower, is_alpha, is_digit, is_alnum, is_space, is_blank, is_cntrl, is_graph, is_print, is_punct, is_xdigit}
use Rattle.lexre_bytes.specs.declared.classes.Class.{Class}
use Rattle.lexre_bytes.specs.declared.classes.Class.TheVariants.{Alpha, Digit, Alnum, Upper, Lower, Space, Blank, Cntrl, Graph, Print, Punct, Xdigit}

abbrev pub test_of : Class → ℕ → Bool
test_of Alpha = is_alpha
test_of Digit = is_digit
test_of Alnum = is_alnum
test_of Upper = is_upper
test_of Lower = is_lower
test_of Space = is_space
test_of Blank = is_blank
test_of Cntrl = is_cntrl
test_of Graph = is_graph
test_of Print = is_print
test_of Punct = is_punct
test_of Xdigit = is_xdigit
