-- The normal form of an action is legal.
use Rattle.std.proofs.Common.{◌≡◌, ℕ, suc, ◌+◌, ◌≤◌, ◌<◌, Bool, true, false, List, [], ◌∷◌, ◌++◌, length, Some, None, IfSome, refl, sym, ap, ◌∙◌, subst, arith}
use Rattle.std.specs.Prelude.{not, ◌&&◌, nat_le}
use Rattle.std.proofs.lemmas.Bool.{and_parts, and_from, le-leb, leb-true}
use Rattle.lex_semantics.proofs.Legals.{normal_of_joined}
use Rattle.lex_semantics.specs.Spec.{EndAction, Statement, Echo, Print, Begin, More, Less, Reject, End, Push, Pop}
use Rattle.lex_semantics.specs.Legal.{in_range, all_in_range, is_literal, are_joined, ends_last, are_compatible, IsLegal}
use Rattle.lexspec_actions.specs.Names.{Scope, number_from, known_in}
use Rattle.lexspec_actions.specs.Statements.{then_print, then_one, then_all}
use Rattle.lexspec_actions.specs.Actions.{are_few, SpellsStatements, SpellsAction, SpellsEndAction}
use Rattle.lexspec_actions.specs.ActionSteps as Steps
use Rattle.lexspec_actions.specs.ActionSteps.{statements_of, end_of}
use Rattle.lexspec_actions.proofs.EndLemmas.{end_is}
use Rattle.lexspec_actions.proofs.GrammarLaws.{to_steps}
use Rattle.lexspec_actions.proofs.RangeLemmas.{raw, all_raw, cut_good, number_below}
use Rattle.lex_semantics.specs.Limits.{max_status}

-- ranges

range_append : (n : ℕ) (a b : List Statement) → all_in_range n a ≡ true → all_in_range n b ≡ true → all_in_range n (a ++ b) ≡ true
range_append n [] b h k = k
range_append n (s ∷ a) b h k =
    let both = and_parts (in_range n s) (all_in_range n a) h in
    and_from (in_range n s) (all_in_range n (a ++ b)) both.0 (range_append n a b both.1 k)

range_before : (n : ℕ) (s : Statement) (a b : List Statement) → (all_in_range n a ≡ true → all_in_range n b ≡ true) → all_in_range n (s ∷ a) ≡ true → all_in_range n (s ∷ b) ≡ true
range_before n s a b f h = let both = and_parts (in_range n s) (all_in_range n a) h in and_from (in_range n s) (all_in_range n b) both.0 (f both.1)

literal : (b : ℕ) (bs : List ℕ) → (nat_le 1 (suc (length bs)) && true) ≡ true
literal b bs = and_from (nat_le 1 (suc (length bs))) true (le-leb 1 (suc (length bs)) (omega arith)) refl

print_range : (n : ℕ) (ss : List Statement) (bs : List ℕ) → all_in_range n ss ≡ true → all_in_range n (then_print ss bs) ≡ true
print_range n ss [] h = h
print_range n [] (b ∷ bs) h = and_from (nat_le 1 (suc (length bs))) true (le-leb 1 (suc (length bs)) (omega arith)) refl
print_range n (Print front ∷ []) (b ∷ bs) h = and_from (nat_le 1 (length (front ++ b ∷ bs))) true (le-leb 1 (length (front ++ b ∷ bs)) (some front)) refl
  where
    some : (front : List ℕ) → 1 ≤ length (front ++ b ∷ bs)
    some [] = omega arith
    some (a ∷ front) = omega arith
print_range n (Echo ∷ []) (b ∷ bs) h = literal b bs
print_range n (Begin d ∷ []) (b ∷ bs) h = range_before n (Begin d) [] (Print (b ∷ bs) ∷ []) (λ k. literal b bs) h
print_range n (More ∷ []) (b ∷ bs) h = literal b bs
print_range n (Less k ∷ []) (b ∷ bs) h = range_before n (Less k) [] (Print (b ∷ bs) ∷ []) (λ k. literal b bs) h
print_range n (Reject ∷ []) (b ∷ bs) h = literal b bs
print_range n (End k ∷ []) (b ∷ bs) h = range_before n (End k) [] (Print (b ∷ bs) ∷ []) (λ k. literal b bs) h
print_range n (Push d ∷ []) (b ∷ bs) h = range_before n (Push d) [] (Print (b ∷ bs) ∷ []) (λ k. literal b bs) h
print_range n (Pop ∷ []) (b ∷ bs) h = literal b bs
print_range n (s ∷ t ∷ ss) (b ∷ bs) h = range_before n s (t ∷ ss) (then_print (t ∷ ss) (b ∷ bs)) (λ k. print_range n (t ∷ ss) (b ∷ bs) k) h

one_range : (n : ℕ) (ss : List Statement) (s : Statement) → all_in_range n ss ≡ true → raw n s ≡ true → all_in_range n (then_one ss s) ≡ true
one_range n ss (Print bs) h k = print_range n ss bs h
one_range n ss Echo h k = range_append n ss (Echo ∷ []) h refl
one_range n ss (Begin d) h k = range_append n ss (Begin d ∷ []) h (and_from (in_range n (Begin d)) true k refl)
one_range n ss More h k = range_append n ss (More ∷ []) h refl
one_range n ss (Less j) h k = range_append n ss (Less j ∷ []) h (and_from (in_range n (Less j)) true k refl)
one_range n ss Reject h k = range_append n ss (Reject ∷ []) h refl
one_range n ss (End j) h k = range_append n ss (End j ∷ []) h (and_from (in_range n (End j)) true k refl)
one_range n ss (Push d) h k = range_append n ss (Push d ∷ []) h (and_from (in_range n (Push d)) true k refl)
one_range n ss Pop h k = range_append n ss (Pop ∷ []) h refl

all_range : (n : ℕ) (before ss : List Statement) → all_in_range n before ≡ true → all_raw n ss ≡ true → all_in_range n (then_all before ss) ≡ true
all_range n before [] h k = h
all_range n before (s ∷ ss) h k =
    let both = and_parts (raw n s) (all_raw n ss) k in
    all_range n (then_one before s) ss (one_range n before s h both.0) both.1

-- neighbours

-- what stands first stays a literal or not
first_literal : List Statement → Bool
first_literal [] = false
first_literal (s ∷ ss) = is_literal s

joined_from : (s : Statement) (ss : List Statement) → (is_literal s && first_literal ss) ≡ false → are_joined ss ≡ true → are_joined (s ∷ ss) ≡ true
unfolding first_literal
joined_from s [] h k = refl
joined_from s (t ∷ ss) h k = and_from (not (is_literal s && is_literal t)) (are_joined (t ∷ ss)) (ap not h) k

joined_parts : (s : Statement) (ss : List Statement) → are_joined (s ∷ ss) ≡ true → ((is_literal s && first_literal ss) ≡ false) × (are_joined ss ≡ true)
unfolding first_literal
joined_parts s [] h = (off (is_literal s), refl)
  where
    off : (b : Bool) → (b && false) ≡ false
    off true = refl
    off false = refl
joined_parts s (t ∷ ss) h =
    let both = and_parts (not (is_literal s && is_literal t)) (are_joined (t ∷ ss)) h in
    (turned (is_literal s && is_literal t) both.0, both.1)
  where
    turned : (b : Bool) → not b ≡ true → b ≡ false
    turned false e = refl
    turned true e = absurd (no e)
      where
        no : false ≡ true → ⊥
        no p = cc

print_first : (s : Statement) (ss : List Statement) (b : ℕ) (bs : List ℕ) → first_literal (then_print (s ∷ ss) (b ∷ bs)) ≡ is_literal s
unfolding first_literal
print_first (Print front) [] b bs = refl
print_first Echo [] b bs = refl
print_first (Begin d) [] b bs = refl
print_first More [] b bs = refl
print_first (Less k) [] b bs = refl
print_first Reject [] b bs = refl
print_first (End k) [] b bs = refl
print_first (Push d) [] b bs = refl
print_first Pop [] b bs = refl
print_first s (t ∷ ss) b bs = refl

print_joined : (ss : List Statement) (bs : List ℕ) → are_joined ss ≡ true → are_joined (then_print ss bs) ≡ true
unfolding first_literal
print_joined ss [] h = h
print_joined [] (b ∷ bs) h = refl
print_joined (Print front ∷ []) (b ∷ bs) h = refl
print_joined (Echo ∷ []) (b ∷ bs) h = refl
print_joined (Begin d ∷ []) (b ∷ bs) h = refl
print_joined (More ∷ []) (b ∷ bs) h = refl
print_joined (Less k ∷ []) (b ∷ bs) h = refl
print_joined (Reject ∷ []) (b ∷ bs) h = refl
print_joined (End k ∷ []) (b ∷ bs) h = refl
print_joined (Push d ∷ []) (b ∷ bs) h = refl
print_joined (Pop ∷ []) (b ∷ bs) h = refl
print_joined (s ∷ t ∷ ss) (b ∷ bs) h =
    let both = joined_parts s (t ∷ ss) h in
    joined_from s (then_print (t ∷ ss) (b ∷ bs)) (ap (λ z. is_literal s && z) (print_first t ss b bs) ∙ both.0) (print_joined (t ∷ ss) (b ∷ bs) both.1)

-- a statement that is no literal, at the end
other_joined : (ss : List Statement) (o : Statement) → is_literal o ≡ false → are_joined ss ≡ true → are_joined (ss ++ o ∷ []) ≡ true
unfolding first_literal
other_joined [] o plain h = refl
other_joined (s ∷ []) o plain h = joined_from s (o ∷ []) (ap (λ z. is_literal s && z) plain ∙ off (is_literal s)) refl
  where
    off : (b : Bool) → (b && false) ≡ false
    off true = refl
    off false = refl
other_joined (s ∷ t ∷ ss) o plain h =
    let both = joined_parts s (t ∷ ss) h in
    joined_from s ((t ∷ ss) ++ o ∷ []) both.0 (other_joined (t ∷ ss) o plain both.1)

one_joined : (ss : List Statement) (s : Statement) → are_joined ss ≡ true → are_joined (then_one ss s) ≡ true
one_joined ss (Print bs) h = print_joined ss bs h
one_joined ss Echo h = other_joined ss Echo refl h
one_joined ss (Begin d) h = other_joined ss (Begin d) refl h
one_joined ss More h = other_joined ss More refl h
one_joined ss (Less j) h = other_joined ss (Less j) refl h
one_joined ss Reject h = other_joined ss Reject refl h
one_joined ss (End j) h = other_joined ss (End j) refl h
one_joined ss (Push d) h = other_joined ss (Push d) refl h
one_joined ss Pop h = other_joined ss Pop refl h

all_joined : (before ss : List Statement) → are_joined before ≡ true → are_joined (then_all before ss) ≡ true
all_joined before [] h = h
all_joined before (s ∷ ss) h = all_joined (then_one before s) ss (one_joined before s h)

-- statements that a text spells

steps_range : (names : List (List ℕ)) (stack : Bool) (text : List ℕ) (ss : List Statement) → 1 ≤ length names → Steps.SpellsStatements (known_in names stack) text ss → all_in_range (length names) ss ≡ true
steps_range names stack text ss some (ps, cut, balanced, same) =
    subst (λ z. all_in_range (length names) z ≡ true) (sym same)
    (all_range (length names) [] (statements_of ps) refl (cut_good (known_in names stack) (length names) some below text ps cut))
  where
    below : (name : List ℕ) → IfSome (number_from 0 names name) (λ c. c < length names)
    below name = let e : 0 + length names ≡ length names = omega arith in subst (λ m. IfSome (number_from 0 names name) (λ c. c < m)) e (number_below 0 names name)

steps_joined : (known : Scope) (text : List ℕ) (ss : List Statement) → Steps.SpellsStatements known text ss → are_joined ss ≡ true
steps_joined known text ss (ps, cut, balanced, same) = subst (λ z. are_joined z ≡ true) (sym same) (all_joined [] (statements_of ps) refl)

pub spelled_range : (names : List (List ℕ)) (stack : Bool) (text : List ℕ) (ss : List Statement) → 1 ≤ length names → SpellsStatements (known_in names stack) text ss → all_in_range (length names) ss ≡ true
spelled_range names stack text ss some spells = steps_range names stack text ss some (to_steps (known_in names stack) text ss spells)

pub legal_action : (names : List (List ℕ)) (stack : Bool) (text : List ℕ) (ss : List Statement) → 1 ≤ length names → SpellsAction (known_in names stack) text ss → IsLegal (length names) ss
legal_action names stack text ss some (spells, stands) =
    let few_last = and_parts (are_few ss && ends_last ss) (are_compatible ss) stands in
    let ranges = spelled_range names stack text ss some spells in (
      record {
        ranges = ranges;
        last = (and_parts (are_few ss) (ends_last ss) few_last.0).1;
        compatible = few_last.1;
      },
      normal_of_joined (length names) ss ranges (steps_joined (known_in names stack) text ss (to_steps (known_in names stack) text ss spells)),
    )

-- the status of an end action

small_end : (n : ℕ) (ss : List Statement) (e : EndAction) → all_in_range n ss ≡ true → end_of ss ≡ Some e → e.status ≤ max_status
small_end n [] e h is = let same : record { print = []; status = 0 } ≡ e = cc in subst (λ (z : EndAction). z.status ≤ max_status) same (omega arith)
small_end n (Print bs ∷ []) e h is = let same : record { print = bs; status = 0 } ≡ e = cc in subst (λ (z : EndAction). z.status ≤ max_status) same (omega arith)
small_end n (End k ∷ []) e h is =
    let same : record { print = []; status = k } ≡ e = cc in
    subst (λ (z : EndAction). z.status ≤ max_status) same (leb-true k max_status (and_parts (nat_le k max_status) true h).0)
small_end n (Print bs ∷ End k ∷ []) e h is =
    let same : record { print = bs; status = k } ≡ e = cc in
    let rest = and_parts (nat_le 1 (length bs)) (nat_le k max_status && true) h in
    subst (λ (z : EndAction). z.status ≤ max_status) same (leb-true k max_status (and_parts (nat_le k max_status) true rest.1).0)
small_end n _ e h is = absurd (none is)
  where
    none : None ≡ Some e → ⊥
    none p = cc

pub end_status : (names : List (List ℕ)) (stack : Bool) (text : List ℕ) (e : EndAction) → 1 ≤ length names → SpellsEndAction (known_in names stack) text e → e.status ≤ max_status
end_status names stack text e some (ss, spells, few, is) = small_end (length names) ss e (spelled_range names stack text ss some spells) (end_is ss e is)
