-- A specification as data: conditions, and rules with their patterns and actions.
-- (POSIX, lex, Definitions in lex, Rules in lex and Actions in lex; flex, Start Conditions, End-of-File Rules.)
use Rattle.std.specs.Prelude.{ℕ, Bool, true, false, List, [], Option}
use Rattle.std.specs.List.{list_any}
use Rattle.std.specs.Option.{option_map_or}
use Rattle.lex_semantics.specs.Tree.{Tree}

-- one statement of an action in normal form
pub data Statement : Type 0 where
  -- writes the text (`ECHO`)
  Echo : Statement
  -- writes these bytes
  Print : List ℕ → Statement
  -- the condition of the next match (`BEGIN`)
  Begin : ℕ → Statement
  -- the next text is appended to this one (`yymore`)
  More : Statement
  -- keeps the first n bytes of the text, and returns the rest (`yyless`)
  Less : ℕ → Statement
  -- goes on to the next best match (`REJECT`)
  Reject : Statement
  -- ends the scan with this status (`yyterminate`, `exit`)
  End : ℕ → Statement
  -- puts the condition of the next match on the stack, and this one in its place (`yy_push_state`)
  Push : ℕ → Statement
  -- takes the condition of the next match from the stack (`yy_pop_state`)
  Pop : Statement

-- what is done at the end of the input: bytes that are written, and the scan's status
pub record EndAction : Type 0 where
  pub print : List ℕ
  pub status : ℕ

pub record Condition : Type 0 where
  pub name : List ℕ
  pub exclusive : Bool
  pub end : EndAction

-- how much of a match is the text, where the rule has trailing context: all of it,
-- this many bytes from the front, or all but this many
pub data Cut : Type 0 where
  Whole : Cut
  Head : ℕ → Cut
  Trail : ℕ → Cut

pub record Rule : Type 0 where
  pub line : ℕ
  -- the conditions of its list: none where the rule has no list, all numbers for `<*>`
  pub conditions : Option (List ℕ)
  pub anchored : Bool
  pub head : Tree
  pub trail : Option Tree
  pub cut : Cut
  pub statements : List Statement

pub record Spec : Type 0 where
  pub conditions : List Condition
  pub rules : List Rule

abbrev pub is_reject : Statement → Bool
is_reject Reject = true
is_reject _ = false

-- whether some rule has REJECT
abbrev pub rejects : Spec → Bool
rejects S = list_any (λ r. list_any is_reject r.statements) S.rules

abbrev pub statements_at : Option Rule → List Statement
statements_at r = option_map_or (λ r. r.statements) r []

abbrev pub end_at : Option Condition → EndAction
end_at k = option_map_or (λ k. k.end) k (record { print = []; status = 0 })

-- Names that the code has for these tests over an action, and over some rules.
abbrev pub has_reject : List Statement → Bool
has_reject ss = list_any is_reject ss

abbrev pub any_reject : List Rule → Bool
any_reject rs = list_any (λ r. has_reject r.statements) rs
