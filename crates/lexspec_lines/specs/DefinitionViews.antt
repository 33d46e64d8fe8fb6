-- What the definitions of the code stand for.
use Rattle.std.specs.Prelude.{ℕ, Bool, false, not, ◌&&◌, ◌==◌, List, [], ◌∷◌}
use Rattle.std.specs.List.{list_all}
use Rattle.lexspec_lines.specs.Lines.{words}
use Rattle.lexspec_lines.specs.DefinitionLines as D
use Rattle.lexspec_lines.specs.declared.definition.Definition.{Definition}
use Rattle.lexspec_lines.specs.declared.definition.Definition.TheVariants.{Nothing, CodeLine, CodeBlock, Declares, Options, Ignored, Defines}

abbrev pub definition_of : Definition → D.DefinitionLine
definition_of Nothing = D.ignored
definition_of CodeLine = D.code_line
definition_of CodeBlock = D.code_block
definition_of (Declares exclusive names) = D.declares exclusive (words names.now)
definition_of (Options ws) = D.options (words ws.now)
definition_of Ignored = D.ignored
definition_of (Defines name text) = D.defines name.now text.now

abbrev pub are_names : List (List ℕ) → Bool
are_names names = list_all D.is_name names

abbrev pub are_known : List (List ℕ) → Bool
are_known names = list_all (D.has_name D.known_options) names

-- ends with a `$` not directly after a backslash
abbrev pub ends_anchored : List ℕ → Bool
ends_anchored [] = false
ends_anchored (c ∷ []) = c == 36
ends_anchored (c ∷ d ∷ []) = d == 36 && not (c == 92)
ends_anchored (c ∷ d ∷ e ∷ t) = ends_anchored (d ∷ e ∷ t)
