-- What a specification keeps to, as tests that compute: an invariant states them, and a law says that they are what
-- soundness means. (This project's.)
use Rattle.std.specs.Prelude.{ℕ, zero, suc, Bool, true, false, not, ◌&&◌, ◌||◌, ◌==◌, nat_le, nat_lt, List, [], ◌∷◌, length, Option, Some, None}
use Rattle.lex_semantics.specs.ByteSets.{has}
use Rattle.lex_semantics.specs.Tree.{Tree, Trees, Empty, Set, Cat, Alt, Star, Repeat, no_trees, tree}
use Rattle.lex_semantics.specs.Spec.{Spec, Rule, Condition, EndAction, Cut, Whole, Head, Trail, Statement}
use Rattle.lex_semantics.specs.Legal.{all_in_range, ends_last, are_joined, are_compatible}
use Rattle.lexre.specs.Lengths.{least, greatest}
use Rattle.lexspec_actions.specs.Actions.{are_few}
use Rattle.lex_semantics.specs.Limits.{max_conditions, max_literal_bytes, max_status, max_rules, max_fixed_length}

-- some number below n passes
unfoldable pub any_below : ℕ → (ℕ → Bool) → Bool
any_below zero test = false
any_below (suc n) test = test n || any_below n test

abbrev pub are_bounds : ℕ → Option ℕ → Bool
are_bounds m None = true
are_bounds m (Some n) = nat_le m n && nat_le 1 n

abbrev pub has_part : Trees → Bool
has_part no_trees = false
has_part (tree t ts) = true

abbrev mutual
  pub sound_tree : Tree → Bool
  sound_tree Empty = true
  sound_tree (Set s) = any_below 256 (has s)
  sound_tree (Cat ts) = sound_trees ts && has_part ts
  sound_tree (Alt ts) = sound_trees ts && has_part ts
  sound_tree (Star t) = sound_tree t
  sound_tree (Repeat t m n) = sound_tree t && are_bounds m n

  pub sound_trees : Trees → Bool
  sound_trees no_trees = true
  sound_trees (tree t ts) = sound_tree t && sound_trees ts

abbrev pub sound_trail : Option Tree → Bool
sound_trail None = true
sound_trail (Some t) = sound_tree t

-- there is a number, and it is this one
abbrev pub is_number : Option ℕ → ℕ → Bool
is_number None n = false
is_number (Some k) n = k == n

-- each word has n bytes
abbrev pub has_length : Tree → ℕ → Bool
has_length t n = (least t == n) && is_number (greatest t) n

abbrev pub is_whole : Cut → Bool
is_whole Whole = true
is_whole _ = false

-- and n is at most 65,535
abbrev pub has_fixed : Tree → ℕ → Bool
has_fixed t n = has_length t n && nat_le n max_fixed_length

-- the words have one length, of at most 65,535 bytes
abbrev pub is_fixed : Tree → Bool
is_fixed t = has_fixed t (least t)

-- the cut names a side of such a length, and the trailing context only where the head is none
abbrev pub cut_fits : Cut → Tree → Option Tree → Bool
cut_fits cut head None = is_whole cut
cut_fits Whole head (Some t) = false
cut_fits (Head m) head (Some t) = has_fixed head m
cut_fits (Trail n) head (Some t) = not (is_fixed head) && has_fixed t n

-- numbers in order, each above the last one and below n
abbrev pub ascend_from : ℕ → ℕ → List ℕ → Bool
ascend_from low n [] = true
ascend_from low n (c ∷ cs) = nat_le low c && nat_lt c n && ascend_from (suc c) n cs

abbrev pub sound_list : ℕ → Option (List ℕ) → Bool
sound_list n None = true
sound_list n (Some cs) = ascend_from 0 n cs

abbrev pub legal_action : ℕ → List Statement → Bool
legal_action n ss = all_in_range n ss && ends_last ss && are_joined ss && are_compatible ss

-- a rule, where there are n conditions
abbrev pub sound_rule : ℕ → Rule → Bool
sound_rule n r =
    sound_list n r.conditions && sound_tree r.head && sound_trail r.trail && cut_fits r.cut r.head r.trail
    && legal_action n r.statements && are_few r.statements

abbrev pub sound_rules : ℕ → List Rule → Bool
sound_rules n [] = true
sound_rules n (r ∷ rs) = sound_rule n r && sound_rules n rs

-- an end prints at most 4,096 bytes, and has a status of at most 63
abbrev pub sound_end : EndAction → Bool
sound_end e = nat_le e.status max_status && nat_le (length e.print) max_literal_bytes

abbrev pub sound_conditions : List Condition → Bool
sound_conditions [] = true
sound_conditions (c ∷ cs) = sound_end c.end && sound_conditions cs

-- a specification: at least one condition and at most 255, and at most 4,096 rules
abbrev pub is_sound : Spec → Bool
is_sound S =
    nat_le 1 (length S.conditions) && nat_le (length S.conditions) max_conditions && nat_le (length S.rules) max_rules
    && sound_conditions S.conditions && sound_rules (length S.conditions) S.rules
