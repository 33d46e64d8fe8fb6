-- Lines where code was skipped, as the code keeps them.
use Rattle.std.specs.Prelude.{◌≡◌, ℕ, ◌+◌, List, [], ◌∷◌, ◌++◌, Some, flat_map}
use Rattle.lexspec_lines.specs.DefinitionLines.{DefinitionLine, definition_at}
use Rattle.lexspec_lines.specs.Lines.{newlines}
use Rattle.lexspec_lines.specs.SkippedCode.{Code, told_lines}
use Rattle.lexspec_lines.specs.declared.skipped.Skipped.{Skipped}

-- the line at which a run of code goes on, 0 before any
abbrev pub next_in : Skipped → ℕ
next_in s = s.next

-- the lines tell this code, and what comes after it is told from there on
pub record TellsCode (cs : List Code) (s : Skipped) : Type 0 where
  pub on : (more : List Code) → told_lines 0 (cs ++ more) ≡ s.lines.items ++ told_lines (next_in s) more

-- this code more
pub record AddsCode (s : Skipped) (cs : List Code) (s' : Skipped) : Type 0 where
  pub behind : (before : List Code) → TellsCode before s → TellsCode (before ++ cs) s'

-- a line of the definitions section
abbrev pub IsDefinition : List ℕ → DefinitionLine → List ℕ → Type 0
IsDefinition t d rest = definition_at t ≡ Some (d, rest)

module _ {A : Type 0} where
  -- these pieces of a text up to a rest, each with its line, where as many newlines are behind it as it is before the
  -- line `end`
  abbrev pub AreNumbered : (List ℕ → A → List ℕ → Type 0) → ℕ → List ℕ → List (ℕ × A) → List ℕ → Type 0
  AreNumbered is_piece end t [] rest = t ≡ rest
  AreNumbered is_piece end t (x ∷ xs) rest =
      (next : List ℕ) × (x.0 + newlines t ≡ end) × is_piece t x.1 next × AreNumbered is_piece end next xs rest

  -- these pieces, where the first line is n
  abbrev pub AreFrom : (List ℕ → A → List ℕ → Type 0) → ℕ → List ℕ → List (ℕ × A) → List ℕ → Type 0
  AreFrom is_piece n t xs rest = AreNumbered is_piece (n + newlines t) t xs rest

  -- the lines tell, behind the code before it, that of the pieces of a text up to its rest
  pub record TellsPieces (before : List Code) (is_piece : List ℕ → A → List ℕ → Type 0) (code_of : ℕ × A → List Code)
      (end : ℕ) (t rest : List ℕ) (s : Skipped) : Type 0 where
    pub pieces : List (ℕ × A)
    pub numbered : AreNumbered is_piece end t pieces rest
    pub told : TellsCode (before ++ flat_map code_of pieces) s
