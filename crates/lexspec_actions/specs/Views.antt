-- What the values of the code stand for.
use Rattle.std.specs.Prelude.{ℕ, List, Option, option_map}
use Rattle.lexspec_actions.specs.declared.condition.Condition.{Condition}
use Rattle.lexspec_actions.specs.declared.statement.FormatLiterals.{FormatLiterals}
use Rattle.lexspec_actions.specs.declared.statement.Piece.{Piece}
use Rattle.lexspec_actions.specs.declared.format.Format.{Format}
use Rattle.lexspec_actions.specs.Formats.{State, state}
use Rattle.lex_semantics.specs.Spec as S
use Rattle.lexspec_actions.specs.ActionSteps as A
pub use Rattle.lex_machine.specs.Views.{statement_of, end_action_of}
use Rattle.lexspec_actions.specs.declared.statement.Said.{Said}

abbrev pub said_of : Said → A.Said
said_of (Said.Does s) = A.does (statement_of s)
said_of (Said.Prints bytes) = A.prints bytes.items
said_of (Said.PrintsText front back) = A.prints_text front.items back.items

abbrev pub piece_of : Piece → A.Piece
piece_of Piece.Semicolon = A.semicolon
piece_of Piece.Opens = A.opens
piece_of Piece.Closes = A.closes
piece_of (Piece.Says s) = A.says (said_of s)

abbrev pub parts_view : FormatLiterals → List ℕ × Option (List ℕ)
parts_view p = (p.front.items, option_map (λ v. v.items) p.back)

abbrev pub format_view : Format → State
format_view f = state (option_map (λ v. v.items) f.front) f.bytes.items f.percent

abbrev pub condition_of : Condition → S.Condition
condition_of c = record { name = c.name.items; exclusive = c.exclusive; end = end_action_of c.end }
