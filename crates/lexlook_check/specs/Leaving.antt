-- The text without a rule: of its lines the newlines stay, so that the other lines keep their numbers. (This
-- project's.)
use Rattle.std.specs.Prelude.{ℕ, ◌-◌, ◌==◌, ◌||◌, Bool, false, if◌then◌else◌, List, [], ◌∷◌}
use Rattle.lex_semantics.specs.ByteSets.{is_blank}

-- the line that begins here belongs to the rule before it: it is empty (10 and 13), or begins with a blank or a `}`
-- (125)
abbrev pub continues_rule : List ℕ → Bool
continues_rule [] = false
continues_rule (c ∷ t) = is_blank c || (c == 10) || (c == 13) || (c == 125)

-- without the rule that begins the text: without its line, and each next one that belongs to it
abbrev pub without_first_rule : List ℕ → List ℕ
without_first_rule [] = []
without_first_rule (c ∷ t) =
    let left = without_first_rule t in
    if c == 10 then 10 ∷ (if continues_rule t then left else t) else left

-- without the rule that begins at line n, from 1; there is none at line 0
abbrev pub without_rule_at : ℕ → List ℕ → List ℕ
without_rule_at n [] = []
without_rule_at n (c ∷ t) =
    if n == 1 then without_first_rule (c ∷ t) else c ∷ without_rule_at (if c == 10 then n - 1 else n) t
