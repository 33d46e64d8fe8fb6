-- What a filter by rules leaves. (This project's.)
use Rattle.std.specs.Prelude.{ℕ, false, List, Option, IfSome}
use Rattle.std.specs.Io.KnownBytes.{Appends}
use Rattle.lex_semantics.specs.Spec.{Spec}
use Rattle.lex_semantics.specs.Text.{IsText}
use Rattle.lex_semantics.specs.Rules.{Rules, rules_of}
use Rattle.lex_semantics.specs.Acting.{Status}
use Rattle.lex_semantics.specs.Run.{Run}
use Rattle.lexspec.specs.Files.{SpellsSpec}

-- The bytes that were appended are those that the rules write for all that the reader had, where that is known.
abbrev pub FilteredBy : Rules → Option (List ℕ) → Option (List ℕ) → Option (List ℕ) → Type 0
FilteredBy R input before after =
    (out : List ℕ) × (status : ℕ) × Appends before after out
    × IfSome input (λ x. IsText x → Run R x out (Status status))

-- so by the rules of the specification that the text spells, where patterns are read as they stand
abbrev pub Filtered : List ℕ → Option (List ℕ) → Option (List ℕ) → Option (List ℕ) → Type 0
Filtered text input before after =
    (S : Spec) × SpellsSpec (record { fold = false; posix = false }) text S × FilteredBy (rules_of S) input before after
