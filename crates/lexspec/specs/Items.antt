-- The lines of the rules section: which rules stand there, as texts.
-- (POSIX, lex, Rules in lex; flex, Patterns, Start Conditions, End-of-File Rules.)
use Rattle.std.specs.Prelude.{◌≡◌, ℕ, zero, suc, ◌+◌, ◌-◌, Bool, true, false, not, ◌&&◌, ◌||◌, ◌==◌, if◌then◌else◌, List, [], ◌∷◌, slice_get, length, take, drop, Option, Some, None, codes, ◌⊎◌}
use Rattle.std.specs.List.{list_any, slice_split}
use Rattle.lexre.specs.Cutting.{IsCutting, ends_pattern}
use Rattle.lex_semantics.specs.Active.{contains}
use Rattle.lex_semantics.specs.ByteSets.{same_bytes, is_blank}
use Rattle.lex_semantics.specs.Escapes.{byte_with, until_quote}
use Rattle.lex_semantics.specs.Reading.{◌>>=◌, Reader, after_blanks, is_empty, begins}
use Rattle.lexspec_actions.specs.Comments.{after_star}
use Rattle.lexspec_lines.specs.Runs.{split_before}
use Rattle.lexspec_lines.specs.DefinitionLines.{DefinitionLine, definition_at}
use Rattle.lexspec_lines.specs.Lines.{line_in, is_all_blank, newlines}

-- the condition list: none, `<*>`, or names
pub data Conditions : Type 0 where
  unlisted : Conditions
  every : Conditions
  only : List (List ℕ) → Conditions

-- what stands before the action of a rule, as texts
pub data Subject : Type 0 where
  -- `<<EOF>>`
  at_end : Subject
  -- a pattern with its `^`, and its trailing context, if it has one
  matching : (anchored : Bool) (head : List ℕ) (trail : Option (List ℕ)) → Subject

-- A line of the rules section, with what follows that belongs to it: one that is skipped, or a rule. Its action is a
-- text, or None for a `|`, which stands for the action of the next rule.
pub data Item : Type 0 where
  skipped : DefinitionLine → Item
  rule : Conditions → Subject → Option (List ℕ) → Item

-- `<..>`, on one line, with names between commas; a `<` always opens a list, unless it opens `<<EOF>>`
unfoldable pub conditions_at : Reader Conditions
conditions_at t =
    let (inside, rest) = split_before (contains (codes ">\n")) (drop 1 t) in
    if begins (codes "<<EOF>>") t || not (begins (codes "<") t) then Some (unlisted, t)
    else if not (begins (codes ">") rest) then None
    else Some
    (if same_bytes inside (codes "*") then every else only (slice_split (contains (codes ",")) inside), drop 1 rest)

-- after the opening quote of a string of C: what follows its closing quote. A backslash passes any byte but a newline.
unfoldable pub after_string : List ℕ → Option (List ℕ)
after_string t =
    until_quote (byte_with (λ u. slice_get u 0 >>= λ c. if contains (codes "\n") c then None else Some (c, drop 1 u)))
    (suc (length t)) t
    >>= λ (bytes, rest). Some rest

-- what follows a piece of C: a string, a comment `/* .. */`, a comment `//` up to its newline, or any other byte
unfoldable pub after_piece : List ℕ → Option (List ℕ)
after_piece t =
    if is_empty t then None
    else if begins (codes "\"") t then after_string (drop 1 t)
    else if begins (codes "/*") t then after_star (drop 2 t)
    else if begins (codes "//") t then Some (split_before (contains (codes "\n")) (drop 2 t)).1
    else Some (drop 1 t)

-- What is left from the end of an action on, where n braces are open: it ends at the first newline outside pieces and
-- braces, or with the text. A closing brace with none open counts for nothing. The first number bounds the pieces.
unfoldable pub action_end : ℕ → ℕ → List ℕ → Option (List ℕ)
action_end zero n t = None
action_end (suc bound) n t =
    if (is_empty t || begins (codes "\n") t) && n == 0 then Some t
    else after_piece t >>= action_end bound
    (if begins (codes "{") t then suc n else if begins (codes "}") t then n - 1 else n)

-- the action that begins the text, and what follows its newline
unfoldable pub action_at : Reader (List ℕ)
action_at t = action_end (suc (length t)) 0 t >>= λ rest. Some (take (length t - length rest) t, drop 1 rest)

-- the action of a text, which is None for a `|` alone
abbrev pub action_of : List ℕ → Option (List ℕ)
action_of text = if begins (codes "|") text && is_all_blank (drop 1 text) then None else Some text

-- a line that is not blank, not code, no `%%` and no `%{`
abbrev pub starts_rule : List ℕ → Bool
starts_rule t = let (text, after) = line_in t in
    not (is_all_blank text || list_any is_blank (take 1 text) || begins (codes "%%") text || begins (codes "%{") text)

-- The text begins with a pattern: its head and its trailing context. A `$` at its end stands for the trailing context
-- `\n`.
abbrev pub IsSides : List ℕ → List ℕ → Option (List ℕ) → List ℕ → Type 0
IsSides t head None rest = (end : ℕ) × IsCutting t end None false false × (head ≡ take end t) × (rest ≡ drop end t)
IsSides t head (Some trail) rest = (end : ℕ) × (rest ≡ drop end t)
    × ((IsCutting t end None false true × (head ≡ take (end - 1) t) × (trail ≡ codes "\\n"))
    ⊎ ((at : ℕ) × IsCutting t end (Some at) false false × (head ≡ take at t)
    × (trail ≡ take (end - suc at) (drop (suc at) t))))

-- the text begins with the subject of a rule, and this follows; after `<<EOF>>` the text ends, or a blank or a newline
-- stands
abbrev pub IsSubject : List ℕ → Subject → List ℕ → Type 0
IsSubject t at_end rest = (begins (codes "<<EOF>>") t ≡ true) × (rest ≡ drop 7 t) × (ends_pattern rest ≡ true)
IsSubject t (matching anchored head trail) rest =
    let u = if anchored then drop 1 t else t in
    (begins (codes "^") t ≡ anchored) × (begins (codes "<<EOF>>") u ≡ false) × IsSides u head trail rest

-- A line of the rules section, with what follows that belongs to it. One that begins with `%%` is none. A blank line
-- and code are skipped, as in the definitions section.
abbrev pub IsLine : List ℕ → Item → List ℕ → Type 0
IsLine t (skipped line) rest = (starts_rule t ≡ false) × (definition_at t ≡ Some (line, rest))
IsLine t (rule asked subject action) rest =
    (starts_rule t ≡ true) × (u v text : List ℕ) × (conditions_at t ≡ Some (asked, u)) × IsSubject u subject v
    × (action_at (after_blanks v) ≡ Some (text, rest)) × (action ≡ action_of text)

-- These items, each with its line, up to the end or a line that begins with `%%`, and what is left there. The first
-- line here is n.
abbrev pub AreItems : ℕ → List ℕ → List (ℕ × Item) → List ℕ → Type 0
AreItems n t [] rest = (t ≡ rest) × ((t ≡ []) ⊎ (begins (codes "%%") t ≡ true))
AreItems n t (i ∷ is) rest =
    (next : List ℕ) × (i.0 ≡ n) × IsLine t i.1 next × AreItems (n + (newlines t - newlines next)) next is rest
