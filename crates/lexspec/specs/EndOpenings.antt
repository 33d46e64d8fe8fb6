-- Texts that begin with an `<<EOF>>` rule. (flex, End-of-File Rules.)
use Rattle.std.specs.Prelude.{ℕ, Bool, false, List, Option, Some, None, codes}
use Rattle.lex_semantics.specs.Reading.{begins}
use Rattle.lexspec.specs.Items.{Conditions, conditions_at}

-- what follows a condition list opens an `<<EOF>>` rule
abbrev pub opens_end : Option (Conditions × List ℕ) → Bool
opens_end None = false
opens_end (Some x) = begins (codes "<<EOF>>") x.1

abbrev pub begins_end : List ℕ → Bool
begins_end t = opens_end (conditions_at t)
