-- The lines of the rules section, as the reader passes them.
use Rattle.std.specs.Prelude.{◌≡◌, ℕ, suc, ◌+◌, ◌-◌, Bool, true, false, not, List, [], ◌∷◌, if◌then◌else◌, length, take, drop, Some, None, codes, ◌⊎◌, Option}
use Rattle.std.specs.List.{list_any}
use Rattle.lex_semantics.specs.ByteSets.{is_blank}
use Rattle.lex_semantics.specs.Reading.{after_blanks, begins, is_white}
use Rattle.lexspec_lines.specs.Lines.{line_in, line_at, is_all_blank, newlines, after_block}
use Rattle.lexspec_lines.specs.SkippedCode.{Code, line, block}
use Rattle.lexre.specs.Cutting.{IsCutting, ends_pattern}
use Rattle.lexspec.specs.Items.{Conditions, starts_rule, conditions_at, action_at, action_of}

-- what follows the head: nothing, a newline (`$`), or a pattern
pub data Trailing : Type 0 where
  no_trail : Trailing
  line_end : Trailing
  pattern_after : List ℕ → Trailing

-- what stands before the action of a rule
pub data Subject : Type 0 where
  -- `<<EOF>>`
  at_end : Subject
  -- a pattern with its `^`
  matching : (anchored : Bool) (head : List ℕ) (trail : Trailing) → Subject

-- the text begins with a pattern: its head, and nothing, `$`, or `/` and a trailing context
abbrev pub IsSides : List ℕ → List ℕ → Trailing → List ℕ → Type 0
IsSides t head no_trail rest = (end : ℕ) × IsCutting t end None false false × (head ≡ take end t) × (rest ≡ drop end t)
IsSides t head line_end rest =
    (end : ℕ) × IsCutting t end None false true × (head ≡ take (end - 1) t) × (rest ≡ drop end t)
IsSides t head (pattern_after text) rest =
    (end at : ℕ) × IsCutting t end (Some at) false false × (head ≡ take at t)
    × (text ≡ take (end - suc at) (drop (suc at) t)) × (rest ≡ drop end t)

-- the text begins with the subject of a rule, and this follows; after `<<EOF>>` the text ends, or a blank or a newline
-- stands
abbrev pub IsSubject : List ℕ → Subject → List ℕ → Type 0
IsSubject t at_end rest = (begins (codes "<<EOF>>") t ≡ true) × (rest ≡ drop 7 t) × (ends_pattern rest ≡ true)
IsSubject t (matching anchored head after) rest =
    let u = if anchored then drop 1 t else t in
    (begins (codes "^") t ≡ anchored) × (begins (codes "<<EOF>>") u ≡ false) × IsSides u head after rest

-- a line of the rules section, with what follows that belongs to it
pub data Item : Type 0 where
  skipped : Item
  skipped_line : Item
  skipped_block : Item
  rule : Conditions → Subject → Option (List ℕ) → Item

-- a line of the rules section, with what follows that belongs to it; one that begins with `%%` is none
abbrev pub IsLine : List ℕ → Item → List ℕ → Type 0
IsLine t skipped rest = (text : List ℕ) × (line_at t ≡ Some (text, rest)) × (is_all_blank text ≡ true)
IsLine t skipped_line rest =
    (text : List ℕ) × (line_at t ≡ Some (text, rest)) × (is_all_blank text ≡ false)
    × (list_any is_blank (take 1 text) ≡ true)
IsLine t skipped_block rest = (begins (codes "%{") t ≡ true) × (after_block (suc (length t)) (line_in t).1 ≡ Some rest)
IsLine t (rule asked subject action) rest =
    (starts_rule t ≡ true) × (u v text : List ℕ) × (conditions_at t ≡ Some (asked, u)) × IsSubject u subject v
    × (action_at (after_blanks v) ≡ Some (text, rest)) × (action ≡ action_of text)

-- the code that it is, with the number of its line
abbrev pub code_of_item : ℕ × Item → List Code
code_of_item (n, skipped_line) = line n ∷ []
code_of_item (n, skipped_block) = block n ∷ []
code_of_item _ = []

-- these items, each with its line, up to the end or a line that begins with `%%`; the first line here is n
abbrev pub ItemsFrom : ℕ → List ℕ → List (ℕ × Item) → Type 0
ItemsFrom n t [] = (t ≡ []) ⊎ (begins (codes "%%") t ≡ true)
ItemsFrom n t (i ∷ is) =
    (rest : List ℕ) × (i.0 ≡ n) × IsLine t i.1 rest × ItemsFrom (n + (newlines t - newlines rest)) rest is

-- these items begin the text, whose first line is n, and this is left at the line m
abbrev pub ItemsUpTo : ℕ → List ℕ → List (ℕ × Item) → ℕ → List ℕ → Type 0
ItemsUpTo n t [] m rest = (n ≡ m) × (t ≡ rest)
ItemsUpTo n t (i ∷ is) m rest =
    (next : List ℕ) × (i.0 ≡ n) × IsLine t i.1 next × ItemsUpTo (n + (newlines t - newlines next)) next is m rest

-- the item is a rule with a pattern
abbrev pub brings_rule : Item → Bool
brings_rule (rule asked (matching anchored head trail) action) = true
brings_rule _ = false

-- nothing is left, or a line that begins with `%%`
abbrev pub EndsRules : List ℕ → Type 0
EndsRules t = (t ≡ []) ⊎ (begins (codes "%%") t ≡ true)

-- a byte that is neither a blank nor a newline
abbrev pub has_text : List ℕ → Bool
has_text t = list_any (λ c. not (is_white c)) t
