-- What the actions of a specification or a machine keep to.
-- (POSIX, lex, Actions in lex; what may not stand in one action is this project's.)
use Rattle.std.specs.Prelude.{◌≡◌, ℕ, Bool, true, false, not, ◌&&◌, ◌||◌, List, [], ◌∷◌, length, take, ◌-◌, nat_le, nat_lt}
use Rattle.std.specs.List.{filter, list_all, list_any}
use Rattle.lex_semantics.specs.Limits.{max_kept, max_status}
use Rattle.lex_semantics.specs.Spec.{Statement, Print, Begin, More, Less, Reject, End, Push, is_reject}
use Rattle.lex_semantics.specs.Literals.{normal}

-- what a statement names: a condition, one of n; a count of bytes, from 1 to 65,535; a status, up to 63. A literal has
-- a byte.
abbrev pub in_range : ℕ → Statement → Bool
in_range n (Print s) = nat_le 1 (length s)
in_range n (Begin d) = nat_lt d n
in_range n (Less k) = nat_le 1 k && nat_le k max_kept
in_range n (End s) = nat_le s max_status
in_range n (Push d) = nat_lt d n
in_range n _ = true

-- REJECT, yyterminate and exit
abbrev pub ends_action : Statement → Bool
ends_action Reject = true
ends_action (End s) = true
ends_action _ = false

-- only the last statement may end the action
abbrev pub ends_last : List Statement → Bool
ends_last ss = list_all (λ s. not (ends_action s)) (take (length ss - 1) ss)

abbrev pub is_yyless : Statement → Bool
is_yyless (Less n) = true
is_yyless _ = false

abbrev pub is_yymore : Statement → Bool
is_yymore More = true
is_yymore _ = false

-- no REJECT with yymore or yyless, no yyless with yymore, and at most one yyless
abbrev pub are_compatible : List Statement → Bool
are_compatible ss =
    not (list_any is_reject ss && (list_any is_yymore ss || list_any is_yyless ss))
    && not (list_any is_yyless ss && list_any is_yymore ss) && nat_le (length (filter is_yyless ss)) 1

-- An action, where there are n conditions. REJECT, yyterminate and exit stand last.
pub record IsAction (n : ℕ) (ss : List Statement) : Type 0 where
  pub ranges : list_all (in_range n) ss ≡ true
  pub last : ends_last ss ≡ true
  pub compatible : are_compatible ss ≡ true

-- an action in normal form
abbrev pub IsLegal : ℕ → List Statement → Type 0
IsLegal n ss = IsAction n ss × (normal ss ≡ ss)

-- Names that the code has for these tests.

abbrev pub all_in_range : ℕ → List Statement → Bool
all_in_range n ss = list_all (in_range n) ss

abbrev pub is_literal : Statement → Bool
is_literal (Print s) = true
is_literal _ = false

-- no two literals are neighbours
abbrev pub are_joined : List Statement → Bool
are_joined [] = true
are_joined (s ∷ []) = true
are_joined (s ∷ t ∷ ss) = not (is_literal s && is_literal t) && are_joined (t ∷ ss)

abbrev pub has_more : List Statement → Bool
has_more ss = list_any is_yymore ss

abbrev pub has_less : List Statement → Bool
has_less ss = list_any is_yyless ss

abbrev pub count_less : List Statement → ℕ
count_less ss = length (filter is_yyless ss)
