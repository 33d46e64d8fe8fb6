-- What flex takes otherwise by what a whole specification says. (docs/MANUAL.md, Differences from lex and flex.)
use Rattle.std.specs.Prelude.{ℕ, Bool, if◌then◌else◌, List, [], ◌++◌, take}
use Rattle.lex_semantics.specs.Spec.{Spec}
use Rattle.lexkit.specs.Generated.{lines_of}
use Rattle.lexspec_lines.specs.Lines.{without_returns}
use Rattle.lexlook_text.specs.DefinitionLines.{section_lines}
use Rattle.lexlook_text.specs.declared.definitions.LineKind.TheVariants.{Definition}
use Rattle.lexlook_check.specs.EmptyHeads.{empty_heads}
use Rattle.lexlook_check.specs.Findings.{known_lines}
use Rattle.lexlook_check.specs.IdleEnds.{idle_ends}
use Rattle.lexlook_check.specs.NamedTrails.{named_trails}
use Rattle.lexlook_check.specs.Unused.{max_looked_for}
use Rattle.lexlook_check.specs.declared.notices.Notice.{Notice}

-- where no rule was left out: such a rule may be the one that declares a condition, or serves it
abbrev pub faultless_ends : Bool → List (ℕ × List ℕ) → Spec → List Notice
faultless_ends faultless lines S = if faultless then idle_ends lines S.conditions else []

-- of a text with these lines: names at the end of trailing context, of its first 1,000 rules, texts that may be empty
-- before one, and `<<EOF>>` rules that serve no condition
abbrev pub differences_in : Bool → Spec → List (ℕ × List ℕ) → List Notice
differences_in faultless S lines =
    named_trails (section_lines Definition lines) lines (take max_looked_for (lines_of S.rules))
    ++ empty_heads lines S.rules ++ faultless_ends faultless lines S

-- of the text that spells this specification
abbrev pub differences : Bool → Spec → List ℕ → List Notice
differences faultless S text = differences_in faultless S (known_lines (without_returns text))
