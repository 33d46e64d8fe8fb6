-- When two machines do the same. (This project's.)
use Rattle.std.specs.Prelude.{◌≡◌, ℕ, ◌≤◌, ◌<◌, Bool, true, false, ◌||◌, List, [], ◌∷◌, ◌++◌, length, map, nat_eq, nat_lt, slice_index_or, cond, if◌then◌else◌}
use Rattle.lex_semantics.specs.Text.{IsText}
use Rattle.lex_semantics.specs.Spec.{Cut, Whole, Head, Trail, Statement, Echo, Print, Begin, More, Less, Reject, End, Push, Pop, has_reject}
use Rattle.lex_semantics.specs.Rules.{statements_of}
use Rattle.lex_semantics.specs.Machine.{Machine, state_after, rules_of_machine}
use Rattle.lexauto_reports.specs.BackWords.{Smaller}
use Rattle.lexlook_tables.specs.declared.same.differing.Difference.{Difference}

-- the number that a condition of the first machine has in the second, by a list of such numbers; without one it keeps
-- its own
abbrev pub number_in : List ℕ → ℕ → ℕ
number_in order c = slice_index_or order c c

-- a statement, with the numbers that its conditions have there
abbrev pub renumbered : List ℕ → Statement → Statement
renumbered order (Begin c) = Begin (number_in order c)
renumbered order (Push c) = Push (number_in order c)
renumbered order Echo = Echo
renumbered order (Print bytes) = Print bytes
renumbered order More = More
renumbered order (Less n) = Less n
renumbered order Reject = Reject
renumbered order (End status) = End status
renumbered order Pop = Pop

-- what a rule does with its match: how much of it is the text, and the statements (POSIX, lex, Actions in lex)
pub record Deed : Type 0 where
  pub cut : Cut
  pub statements : List Statement

-- The default rule, whose number is the count of the others, copies its byte. (POSIX, Actions in lex: input that
-- matches no pattern is copied.)
abbrev pub deed_of : Machine → ℕ → Deed
deed_of M i = record {
  cut = if nat_lt i M.count then M.cut i else Whole;
  statements = statements_of (rules_of_machine M) i;
}

-- the same of the first machine, with the numbers of the second
abbrev pub deed_in : List ℕ → Machine → ℕ → Deed
deed_in order M i = record {
  cut = (deed_of M i).cut;
  statements = map (renumbered order) (deed_of M i).statements;
}

-- a part of the match may be trailing context
abbrev pub has_trail : Cut → Bool
has_trail Whole = false
has_trail (Head n) = true
has_trail (Trail n) = true

-- A rule that matches may leave the text to the next one: by REJECT, or since its trailing context leaves it no text.
abbrev pub may_yield : Deed → Bool
may_yield d = has_reject d.statements || has_trail d.cut

-- the text is a single byte
abbrev pub is_single : List ℕ → Bool
is_single w = nat_eq (length w) 1

-- some rules, and behind them the default rule where it matches too: a single byte
abbrev pub with_default : Bool → Machine → List ℕ → List ℕ
with_default true M is = is ++ M.count ∷ []
with_default false M is = is

-- of some rules, in order, those up to the first that is taken for certain (flex, REJECT)
abbrev pub up_to_taken : Machine → List ℕ → List ℕ
up_to_taken M [] = []
up_to_taken M (i ∷ is) = i ∷ cond (may_yield (deed_of M i)) (up_to_taken M is) []

-- the rules of which a match asks: these accept the text
abbrev pub asked : Bool → Machine → List ℕ → List ℕ
asked single M is = up_to_taken M (with_default single M is)

abbrev pub rules_at : Bool → Machine → ℕ → List ℕ
rules_at single M s = asked single M (M.accepts s)

abbrev pub deeds_at : Bool → Machine → ℕ → List Deed
deeds_at single M s = map (deed_of M) (rules_at single M s)

abbrev pub deeds_in : List ℕ → Bool → Machine → ℕ → List Deed
deeds_in order single M s = map (deed_in order M) (rules_at single M s)

-- both do the same of a match of this text, from its condition on
abbrev pub Agree : List ℕ → Machine → Machine → ℕ → Bool → List ℕ → Type 0
Agree order M N c line w =
    deeds_in order (is_single w) M (state_after M c line w)
    ≡ deeds_at (is_single w) N (state_after N (number_in order c) line w)

-- of each match
abbrev pub AlwaysAgree : List ℕ → Machine → Machine → Type 0
AlwaysAgree order M N =
    (c : ℕ) (line : Bool) (w : List ℕ) → c < M.conditions → IsText w → 1 ≤ length w → Agree order M N c line w

-- of each match of fewer bytes than this
abbrev pub AgreeBelow : List ℕ → Machine → Machine → ℕ → Type 0
AgreeBelow order M N n =
    (c : ℕ) (line : Bool) (w : List ℕ) → c < M.conditions → IsText w → 1 ≤ length w → length w < n
    → Agree order M N c line w

-- a text behind its condition and whether it is at the start of a line; so these count before its bytes
abbrev pub key : ℕ → Bool → List ℕ → List ℕ
key c line w = c ∷ cond line 1 0 ∷ w

-- Of the texts of which they do not do the same the first: a shortest one; of these one in the first condition, not at
-- the start of a line rather than there; and of these the first in byte order.
pub record Differs (order : List ℕ) (M N : Machine) (d : Difference) : Type 0 where
  pub condition : d.condition < M.conditions
  pub text : IsText d.text.items
  pub some : 1 ≤ length d.text.items
  pub differ : Agree order M N d.condition d.line_start d.text.items → ⊥
  pub shortest : AgreeBelow order M N (length d.text.items)
  pub first : (c : ℕ) (line : Bool) (w : List ℕ) → c < M.conditions → IsText w → length w ≡ length d.text.items
      → Smaller (key c line w) (key d.condition d.line_start d.text.items) → Agree order M N c line w
